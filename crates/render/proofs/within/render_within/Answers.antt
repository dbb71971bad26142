use Rattle.std.proofs.Common.{[], sym, ap₂, ◌∙◌, arith}
use Rattle.code.specs.Step.{decode}
use Rattle.code.specs.Code.{going, run, says}
use Rattle.render.specs.View.{env_of}
use Rattle.render.proofs.Rooms.{was_spoken}
use Rattle.render.proofs.Whole.{measured_done}
use Rattle.render.proofs.within.render_within.Goals as goal

pub put-requires : goal.put-requires
put-requires c =
    let s = c.in_ok-saying.saying in
    omega (arith, (measured_done s.env s.left.bytes.now c.args.budget c.in-Some.len s.good c.in-Some.ensures).1)

pub returns-clause-answer : goal.returns-clause-answer
returns-clause-answer c =
    let s = c.in_ok-saying.saying in
    let d = measured_done s.env s.left.bytes.now c.args.budget c.in-Some.len s.good c.in-Some.ensures in
    let told = c.in_ok-saying.ensures.answer in
    was_spoken _ _ (says decode (env_of s.env) s.left.bytes.now) c.args.room.now c.put.new.room c.in-Some.len
    (sym told.0) (sym (ap₂ (λ e bs. run decode c.args.budget e (going bs [])) told.2 told.1) ∙ d.0)
    d.1 (omega (arith, d.1)) c.put.ensures
