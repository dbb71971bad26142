use Rattle.std.proofs.Common.{drop, arith}
use Rattle.std.proofs.lemmas.Grind.{common_steps}
use Rattle.verifier.proofs.Flaws.{flaw_good}
use Rattle.verifier.proofs.faults.explain.Goals as goal

pub returns-clause-exactly : goal.returns-clause-exactly
returns-clause-exactly c = let g = flaw_good c.args.kinds.now (drop c.args.at c.args.code.now) in grind (arith, common_steps)
