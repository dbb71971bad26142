use Rattle.std.proofs.Common.{◌≡◌, ◌+◌, ◌-◌, vec_items, ◌∙◌, arith, ltb-true, ltb-false}
use Rattle.std.proofs.lemmas.Grind.{common_steps}
use Rattle.std.proofs.lemmas.Result.{err_from_is_err_and}
use Rattle.code.specs.Kinds.{number_of_kind}
use Rattle.msgfile.proofs.Telling.{thing_fails, thing_more, thing_other}
use Rattle.msgfile.proofs.told.read_things.Goals as goal

pub returns-in_err-kind-clause-told : goal.returns-in_err-kind-clause-told
returns-in_err-kind-clause-told c =
    let p = err_from_is_err_and c.from_residual.result c.from_residual.ensures.1 in
    rw (p.1, p.2, c.loop.invariant.told) (thing_fails (vec_items c.loop.kinds) (256 - c.loop.counter) c.loop.left.now c.in_err-kind.field-0.0 (omega arith) c.in_err-kind.ensures.thing)

pub returns-in_default-clause-told : goal.returns-in_default-clause-told
returns-in_default-clause-told c =
    c.loop.invariant.told
    ∙ thing_other (vec_items c.loop.kinds) (256 - c.loop.counter) c.loop.left.now (number_of_kind c.in_ok-kind.kind) c.in_ok-kind.rest.now c.unblanked.result.now (omega arith) c.in_ok-kind.ensures.thing c.unblanked.ensures (omega arith) (λ q. omega (arith, ltb-true, ltb-false))

pub loop-preserved : goal.loop-preserved
loop-preserved c =
    let e : 256 - c.loop.counter - 1 ≡ 256 - (c.loop.counter + 1) = omega arith in
    grind (arith, common_steps, thing_more)
