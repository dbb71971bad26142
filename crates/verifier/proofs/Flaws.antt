-- A step is good exactly if it has no flaw. Assumes nothing.
use Rattle.std.proofs.Common.{◌≡◌, ℕ, zero, ◌+◌, true, not, ltb, List, length, is_some, refl, ap, arith}
use Rattle.std.proofs.lemmas.Bool.Decides.{nat_tests}
use Rattle.code.specs.Step.{Step, ends, letters, argument, unknown, cut, size, whole, exits, needs, decode}
use Rattle.code.specs.Code.{each, begins, step_good}
use Rattle.code.proofs.Goods.{begins_within}
use Rattle.code.proofs.Exact.{begins_behind}
use Rattle.verifier.specs.Verdict.{flaw_by, flaw_of}

-- right behind a step another begins, unless the code ends there
goes_on : (r : List ℕ) → whole (decode r) ≡ true → begins decode zero r (size (decode r) + 0) ≡ ltb (size (decode r)) (length r)
goes_on r w = grind (arith, nat_tests, begins_behind decode r w, begins_within decode zero r (size (decode r)))

flaw_step : (ks r : List ℕ) (s : Step) → decode r ≡ s → step_good decode ks r ≡ not (is_some (flaw_by ks r s))
unfolding step_good each needs size whole exits
flaw_step ks r ends q = grind (arith, nat_tests)
flaw_step ks r (letters t) q = let g = goes_on r (ap whole q) in grind (arith, nat_tests)
flaw_step ks r (argument i) q = let g = goes_on r (ap whole q) in grind (arith, nat_tests)
flaw_step ks r (unknown x) q = grind (arith, nat_tests)
flaw_step ks r cut q = grind (arith, nat_tests)

pub flaw_good : (ks r : List ℕ) → step_good decode ks r ≡ not (is_some (flaw_of ks r))
flaw_good ks r = flaw_step ks r (decode r) refl
