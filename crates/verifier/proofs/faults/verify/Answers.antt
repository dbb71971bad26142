use Rattle.std.proofs.Common.{arith}
use Rattle.std.proofs.lemmas.Grind.{common_steps}
use Rattle.std.proofs.lemmas.Bool.Decides.{nat_tests}
use Rattle.code.specs.declared.refusal.Refusal.TheVariants.{Step}
use Rattle.verifier.proofs.Scans.{passed}
use Rattle.verifier.proofs.Words.{well, refuses}
use Rattle.verifier.proofs.faults.verify.Goals as goal

pub returns-in_err-limits-clause-exactly : goal.returns-in_err-limits-clause-exactly
returns-in_err-limits-clause-exactly c = grind (arith, common_steps, refuses c.args.code.now c.args.kinds.now)

pub returns-then-is_empty-clause-exactly : goal.returns-then-is_empty-clause-exactly
returns-then-is_empty-clause-exactly c = refuses c.args.code.now c.args.kinds.now (Step _) (grind (arith, nat_tests, passed))

pub returns-clause-exactly : goal.returns-clause-exactly
returns-clause-exactly c = well c.args.code.now c.args.kinds.now (grind (arith, nat_tests, passed))
