-- The pass over the code finds the first step that isn't good. Assumes nothing.
use Rattle.std.proofs.Common.{◌≡◌, ℕ, zero, suc, pred, ◌+◌, ◌<◌, ◌≤◌, true, ◌&&◌, eqb, ltb, List, [], ◌∷◌, length, drop, is_some, None, refl, ap, arith}
use Rattle.std.proofs.lemmas.Grind.{common_steps}
use Rattle.std.proofs.lemmas.Bool.Decides.{nat_tests}
use Rattle.code.specs.Step.{size, decode}
use Rattle.code.specs.Code.{step_good, good_on, good, bad_at}
use Rattle.code.proofs.Laws.{size_pos}
use Rattle.code.proofs.Whole.{decode_reads}
use Rattle.code.proofs.Goods.{begins_within, first_bad, good_asks}
use Rattle.verifier.specs.Verdict.{flaw_of}
use Rattle.verifier.proofs.Flaws.{flaw_good}

module _ (ks : List ℕ) where
  bad_skip : (n : ℕ) (r : List ℕ) → n ≤ length r → bad_at decode n ks r ≡ n + bad_at decode zero ks (drop n r)
  unfolding bad_at
  bad_skip zero r l = omega arith
  bad_skip (suc n) [] l = absurd (omega arith)
  bad_skip (suc n) (x ∷ xs) l = omega (arith, bad_skip n xs (omega arith))

  -- a step without a flaw is good, and within what is left
  sound : (r : List ℕ) → flaw_of ks r ≡ None → (step_good decode ks r ≡ true) × (1 ≤ size (decode r)) × (size (decode r) ≤ length r)
  sound r h =
      let g : step_good decode ks r ≡ true = grind (arith, common_steps, flaw_good) in
      (g, size_pos (decode r), omega (arith, (decode_reads ks r (good_asks decode ks r g)).0))

  -- a step with a flaw is the first that isn't good
  pub stopped : (r : List ℕ) → is_some (flaw_of ks r) ≡ true → bad_at decode zero ks r ≡ 0
  unfolding bad_at
  stopped [] h = refl
  stopped (x ∷ xs) h = grind (arith, common_steps, flaw_good)

  -- behind one with none less is left, and the first that isn't good is that of what is left
  pub went_on : (r : List ℕ) → flaw_of ks r ≡ None → (length (drop (size (decode r)) r) < length r) × (bad_at decode zero ks r + length (drop (size (decode r)) r) ≡ length r + bad_at decode zero ks (drop (size (decode r)) r))
  unfolding bad_at
  went_on [] h = absurd (omega (arith, sound [] h))
  went_on (x ∷ xs) h =
      let w = sound (x ∷ xs) h in
      let s = bad_skip (pred (size (decode (x ∷ xs)))) xs (omega arith) in
      (grind (arith, common_steps), grind (arith, common_steps))

  all_through : (n : ℕ) (r : List ℕ) → good_on decode n ks r ≡ true → bad_at decode n ks r ≡ length r
  unfolding good_on bad_at
  all_through n [] g = refl
  all_through zero (x ∷ xs) g = grind (arith, nat_tests, all_through (pred (size (decode (x ∷ xs)))) xs)
  all_through (suc n) (x ∷ xs) g = ap suc (all_through n xs g)

  -- code is good exactly if it has a byte and the pass comes to its end
  pub passed : (c : List ℕ) → good decode ks c ≡ (ltb 0 (length c) && eqb (bad_at decode zero ks c) (length c))
  unfolding good
  passed c = grind (arith, nat_tests, all_through zero c, first_bad decode ks c, begins_within decode zero c (bad_at decode zero ks c))
