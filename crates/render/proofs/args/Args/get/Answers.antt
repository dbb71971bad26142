use Rattle.std.proofs.Common.{◌≡◌, ℕ, List, [], ◌+◌, ◌-◌, get_or, take, drop, sym, ap, ◌∙◌, arith}
use Rattle.code.specs.Step.{text}
use Rattle.render.proofs.Envs.{value_at_of}
use Rattle.render.proofs.Things.{value_number, value_text}
use Rattle.render.proofs.args.Args.get.Goals as goal

pub returns-then-kind-eq1 : goal.returns-then-kind-eq1
returns-then-kind-eq1 c =
    let t : List ℕ = get_or c.args.self.now.things.now c.args.i [] in
    value_number c.args.self.now.letters.now (get_or t 0 0) (get_or t 1 0) (get_or t 2 0) c.if-kind-eq1.true ∙ sym (value_at_of c.args.self.now c.args.i c.requires)

pub returns-else-kind-eq1 : goal.returns-else-kind-eq1
returns-else-kind-eq1 c =
    let t : List ℕ = get_or c.args.self.now.things.now c.args.i [] in
    let n : get_or t 1 0 + get_or t 2 0 - get_or t 1 0 ≡ get_or t 2 0 = omega arith in
    ap (λ (k : ℕ). text (take k (drop (get_or t 1 0) c.args.self.now.letters.now))) n
    ∙ value_text c.args.self.now.letters.now (get_or t 0 0) (get_or t 1 0) (get_or t 2 0) c.if-kind-eq1.false
    ∙ sym (value_at_of c.args.self.now c.args.i c.requires)
