-- The step at which the verifier stops has a flaw. Assumes nothing.
use Rattle.std.proofs.Common.{◌≡◌, ℕ, zero, false, List, [], ◌∷◌, drop, Some, None, subst, arith}
use Rattle.std.proofs.lemmas.Bool.Decides.{nat_tests}
use Rattle.std.proofs.lemmas.Grind.{common_steps}
use Rattle.code.specs.Step.{decode, read_by, byte}
use Rattle.code.specs.Code.{good, bad_at}
use Rattle.code.specs.declared.refusal.Refusal.TheVariants.{Step}
use Rattle.code.proofs.Goods.{first_bad}
use Rattle.verifier.specs.Verdict.{flaw_of, fault_of}
use Rattle.verifier.proofs.Flaws.{flaw_good}

stopped : (c ks : List ℕ) → good decode ks c ≡ false → flaw_of ks (drop (bad_at decode zero ks c) c) ≡ None → ⊥
unfolding bad_at decode read_by byte
stopped [] ks g n = cc
stopped (x ∷ xs) ks g n = let b = first_bad decode ks (x ∷ xs) (omega arith) g in grind (arith, common_steps, flaw_good ks (drop (bad_at decode zero ks (x ∷ xs)) (x ∷ xs)))

pub flawed : (c ks : List ℕ) (at : ℕ) → fault_of c ks ≡ Some (Step at) → flaw_of ks (drop at c) ≡ None → ⊥
flawed c ks at h n =
    let e : at ≡ bad_at decode zero ks c = grind (arith, nat_tests) in
    stopped c ks (grind (arith, nat_tests)) (subst (λ (i : ℕ). flaw_of ks (drop i c) ≡ None) e n)
