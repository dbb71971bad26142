use Rattle.std.proofs.Common.{Some, sym, ap, ◌∙◌}
use Rattle.report.proofs.Flawed.{flawed}
use Rattle.report.proofs.verdict.Verdict.of.Goals as goal

pub unreachable-requires : goal.unreachable-requires
unreachable-requires c = flawed c.args.code.now c.args.kinds.now c.in-Err-Step.at (c.in-Err-Step.ensures.answer ∙ ap Some c.in-Err-Step.field-0-is) (sym c.explain.ensures.value ∙ c.in-None.is)
