-- The verifier's answers in the subject's words. Assumes nothing.
use Rattle.std.proofs.Common.{◌≡◌, ℕ, zero, ◌<◌, ◌≤◌, false, ltb, List, [], ◌∷◌, length, get_or, Some, None, refl, arith, subst}
use Rattle.std.proofs.lemmas.Bool.{ltb-true, ltb-false}
use Rattle.std.proofs.lemmas.Bool.Decides.{nat_tests}
use Rattle.std.proofs.lemmas.List.Sums.{fails_before_first, passes_at_first}
use Rattle.code.specs.Step.{decode}
use Rattle.code.specs.Code.{good, bad_at}
use Rattle.code.specs.Promise.{GoodCode}
use Rattle.code.specs.declared.refusal.Refusal.TheVariants.{LongCode, ManyKinds, Kind, Step, Rule, Argument}
use Rattle.code.specs.declared.refusal.Refusal.{Refusal}
use Rattle.code.proofs.Exact.{good_words, first_bad_words}
use Rattle.verifier.specs.Verdict.{odd_kind, fault_of, Lent, Refuses}

-- before the first odd kind all are texts' or numbers'
even_before : (ks : List ℕ) (i : ℕ) → i < odd_kind ks → get_or ks i 0 ≤ 1
even_before ks i l = ltb-false 1 (get_or ks i 0) (fails_before_first (ltb 1) ks i 0 l)

odd_there : (ks : List ℕ) → odd_kind ks < length ks → 1 < get_or ks (odd_kind ks) 0
odd_there ks l = ltb-true 1 (get_or ks (odd_kind ks) 0) (passes_at_first (ltb 1) ks 0 l)

lent : (c ks : List ℕ) → length c ≤ 4096 → length ks ≤ 16 → length ks ≤ odd_kind ks → Lent c ks
lent c ks b a k = record { bytes = b; arguments = a; kinds = λ i l. even_before ks i (omega arith) }

-- where nothing is refused, what is lent is lent well, and the code is good
pub well : (c ks : List ℕ) → fault_of c ks ≡ None → Lent c ks × GoodCode ks c
well c ks h = (lent c ks (grind (arith, nat_tests)) (grind (arith, nat_tests)) (grind (arith, nat_tests)), good_words c ks (grind (arith, nat_tests)))

-- the first step that isn't good, or the empty code
step_refuses : (c ks : List ℕ) → Lent c ks → good decode ks c ≡ false → Refuses c ks (Step (bad_at decode zero ks c))
unfolding bad_at
step_refuses [] ks l g = (l, (λ h. absurd (omega arith)), (λ h. refl), λ p h b. absurd (omega arith))
step_refuses (x ∷ xs) ks l g =
    let w = first_bad_words (x ∷ xs) ks (omega arith) g in
    (l, (λ h. (w.0, w.1)), (λ h. absurd (omega arith)), w.2)

-- what is refused is as the refusal says
pub refuses : (c ks : List ℕ) (f : Refusal) → fault_of c ks ≡ Some f → Refuses c ks f
refuses c ks LongCode h = grind (arith, nat_tests)
refuses c ks ManyKinds h = (grind (arith, nat_tests), grind (arith, nat_tests))
refuses c ks (Kind at) h =
    let e : odd_kind ks ≡ at = grind (arith, nat_tests) in
    let l : odd_kind ks < length ks = grind (arith, nat_tests) in
    (grind (arith, nat_tests), grind (arith, nat_tests), omega arith, subst (λ (i : ℕ). 1 < get_or ks i 0) e (odd_there ks l), λ i m. even_before ks i (omega arith))
refuses c ks (Step at) h =
    let e : bad_at decode zero ks c ≡ at = grind (arith, nat_tests) in
    subst (λ (i : ℕ). Refuses c ks (Step i)) e (step_refuses c ks (lent c ks (grind (arith, nat_tests)) (grind (arith, nat_tests)) (grind (arith, nat_tests))) (grind (arith, nat_tests)))
refuses c ks (Rule at) h = grind (arith, nat_tests)
refuses c ks (Argument at) h = grind (arith, nat_tests)
