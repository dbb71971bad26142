use Rattle.std.proofs.Common.{length, ap, ◌∙◌, sym, arith}
use Rattle.std.proofs.lemmas.Bool.{ltb-true}
use Rattle.code.specs.Step.{kinds, needs}
use Rattle.code.specs.View.{seen}
use Rattle.code.proofs.Laws.{length_kinds}
use Rattle.render.specs.View.{values_of}
use Rattle.render.proofs.env.Env.say_step.Goals as goal

pub get-requires : goal.get-requires
unfolding needs
get-requires g c =
    let vs = values_of c.args.self.now.args in
    omega (arith, c.from.ensures, length_kinds vs, ltb-true c.in-Argument.i (length (kinds vs)) (ap (λ s. needs (seen s) (kinds vs)) (sym c.in-Argument.is) ∙ c.requires.needs))
