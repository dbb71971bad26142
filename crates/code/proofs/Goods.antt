-- Good code is good from each step on. Assumes nothing.
use Rattle.std.proofs.Common.{◌≡◌, ℕ, zero, suc, pred, ◌+◌, ◌<◌, Bool, true, false, cond, ltb, List, [], ◌∷◌, length, get_or, drop, refl, arith}
use Rattle.std.proofs.lemmas.Bool.{true≢false, false≢true, ltb-true, and_parts, lt-ltb, and_from}
use Rattle.code.specs.Step.{Step, size, whole, exits, needs}
use Rattle.code.specs.Code.{each, on_by, begins, step_good, good_on, good, bad_at}
use Rattle.code.proofs.Laws.{needs_whole}

pub each_at : (f : ℕ → Bool) (ds : List ℕ) (k : ℕ) → each f ds ≡ true → k < length ds → (d : ℕ) → f (get_or ds k d) ≡ true
unfolding each
each_at f [] k h l d = absurd (omega arith)
each_at f (x ∷ ds) zero h l d = (and_parts (f x) (each f ds) h).0
each_at f (x ∷ ds) (suc k) h l d = each_at f ds k (and_parts (f x) (each f ds) h).1 (omega arith) d

module _ (read : List ℕ → Step) where
  pub begins_within : (n : ℕ) (r : List ℕ) (k : ℕ) → begins read n r k ≡ true → k < length r
  unfolding begins
  begins_within n [] k h = absurd (false≢true h)
  begins_within zero (x ∷ xs) zero h = omega arith
  begins_within zero (x ∷ xs) (suc k) h = omega (arith, begins_within (pred (size (read (x ∷ xs)))) xs k (and_parts (whole (read (x ∷ xs))) (begins read (pred (size (read (x ∷ xs)))) xs k) h).1)
  begins_within (suc n) (x ∷ xs) zero h = absurd (false≢true h)
  begins_within (suc n) (x ∷ xs) (suc k) h = omega (arith, begins_within n xs k h)

  pub good_from : (ks : List ℕ) (n : ℕ) (r : List ℕ) (k : ℕ) → good_on read n ks r ≡ true → begins read n r k ≡ true → good read ks (drop k r) ≡ true
  unfolding begins good_on good
  good_from ks n [] k g h = absurd (false≢true h)
  good_from ks zero (x ∷ xs) zero g h = and_from (ltb 0 (length (x ∷ xs))) (good_on read zero ks (x ∷ xs)) (lt-ltb 0 (length (x ∷ xs)) (omega arith)) g
  good_from ks zero (x ∷ xs) (suc k) g h =
      good_from ks (pred (size (read (x ∷ xs)))) xs k (and_parts (step_good read ks (x ∷ xs)) (good_on read (pred (size (read (x ∷ xs)))) ks xs) g).1 (and_parts (whole (read (x ∷ xs))) (begins read (pred (size (read (x ∷ xs)))) xs k) h).1
  good_from ks (suc n) (x ∷ xs) zero g h = absurd (false≢true h)
  good_from ks (suc n) (x ∷ xs) (suc k) g h = good_from ks n xs k g h

  -- all that the theorems use of good code
  pub record GoodHere (ks r : List ℕ) : Type 0 where
    pub asks : needs (read r) ks ≡ true
    pub lands : each (λ d. begins read zero r (size (read r) + d)) (exits (read r)) ≡ true
    pub all : good_on read zero ks r ≡ true

  pub good_here : (ks r : List ℕ) → good read ks r ≡ true → GoodHere ks r
  unfolding good good_on step_good
  good_here ks [] g = absurd (false≢true g)
  good_here ks (x ∷ xs) g =
      let p = and_parts (ltb 0 (length (x ∷ xs))) (good_on read zero ks (x ∷ xs)) g in
      let q = and_parts (step_good read ks (x ∷ xs)) (good_on read (pred (size (read (x ∷ xs)))) ks xs) p.1 in
      let s = and_parts (needs (read (x ∷ xs)) ks) (each (λ d. begins read zero (x ∷ xs) (size (read (x ∷ xs)) + d)) (exits (read (x ∷ xs)))) q.0 in
      record { asks = s.0; lands = s.1; all = p.1 }

  pub good_step_here : (ks r : List ℕ) → good read ks r ≡ true → step_good read ks r ≡ true
  unfolding step_good
  good_step_here ks r g = let h = good_here ks r g in and_from (needs (read r) ks) _ h.asks h.lands

  -- wherever a good step goes on, a step begins, and it is good from there on
  pub exit_within : (ks r : List ℕ) → good read ks r ≡ true → (k d : ℕ) → k < length (exits (read r)) → size (read r) + get_or (exits (read r)) k d < length r
  exit_within ks r g k d l =
      begins_within zero r (size (read r) + get_or (exits (read r)) k d) (each_at (λ d. begins read zero r (size (read r) + d)) (exits (read r)) k (good_here ks r g).lands l d)

  pub exit_good : (ks r : List ℕ) → good read ks r ≡ true → (k d : ℕ) → k < length (exits (read r)) → good read ks (on_by read r (get_or (exits (read r)) k d)) ≡ true
  unfolding on_by
  exit_good ks r g k d l =
      good_from ks zero r (size (read r) + get_or (exits (read r)) k d) (good_here ks r g).all (each_at (λ d. begins read zero r (size (read r) + d)) (exits (read r)) k (good_here ks r g).lands l d)

  pub good_some : (ks r : List ℕ) → good read ks r ≡ true → 0 < length r
  unfolding good
  good_some ks r g = ltb-true 0 (length r) (and_parts (ltb 0 (length r)) (good_on read zero ks r) g).0

  pub good_asks : (ks r : List ℕ) → step_good read ks r ≡ true → needs (read r) ks ≡ true
  unfolding step_good
  good_asks ks r h = (and_parts (needs (read r) ks) _ h).0

  bad_found : (ks : List ℕ) (n : ℕ) (r : List ℕ) → good_on read n ks r ≡ false → (begins read n r (bad_at read n ks r) ≡ true) × (step_good read ks (drop (bad_at read n ks r) r) ≡ false) × ((k : ℕ) → k < bad_at read n ks r → begins read n r k ≡ true → step_good read ks (drop k r) ≡ true)
  unfolding begins good_on bad_at
  bad_found ks n [] g = absurd (true≢false g)
  bad_found ks zero (x ∷ xs) g = go (λ h. bad_found ks (pred (size (read (x ∷ xs)))) xs h) (step_good read ks (x ∷ xs)) refl
    where
      m : ℕ
      m = pred (size (read (x ∷ xs)))

      B : ℕ
      B = bad_at read (pred (size (read (x ∷ xs)))) ks xs

      go : (good_on read m ks xs ≡ false → (begins read m xs B ≡ true) × (step_good read ks (drop B xs) ≡ false) × ((k : ℕ) → k < B → begins read m xs k ≡ true → step_good read ks (drop k xs) ≡ true)) → (b : Bool) → step_good read ks (x ∷ xs) ≡ b → (begins read zero (x ∷ xs) (cond b (suc B) 0) ≡ true) × (step_good read ks (drop (cond b (suc B) 0) (x ∷ xs)) ≡ false) × ((k : ℕ) → k < cond b (suc B) 0 → begins read zero (x ∷ xs) k ≡ true → step_good read ks (drop k (x ∷ xs)) ≡ true)
      go ih false q = (refl, q, λ k l h. absurd (omega arith))
      go ih true q =
          let h = ih (rw q at g) in
          let w = needs_whole (read (x ∷ xs)) ks (good_asks ks (x ∷ xs) q) in
          (and_from (whole (read (x ∷ xs))) (begins read m xs B) w h.0, h.1, λ k. before h k)
        where
          before : ((begins read m xs B ≡ true) × (step_good read ks (drop B xs) ≡ false) × ((k : ℕ) → k < B → begins read m xs k ≡ true → step_good read ks (drop k xs) ≡ true)) → (k : ℕ) → k < suc B → begins read zero (x ∷ xs) k ≡ true → step_good read ks (drop k (x ∷ xs)) ≡ true
          before h zero l b = q
          before h (suc k) l b = h.2 k (omega arith) (and_parts (whole (read (x ∷ xs))) (begins read m xs k) b).1
  bad_found ks (suc n) (x ∷ xs) g = let h = bad_found ks n xs g in (h.0, h.1, λ k l b. later h k l b)
    where
      later : ((begins read n xs (bad_at read n ks xs) ≡ true) × (step_good read ks (drop (bad_at read n ks xs) xs) ≡ false) × ((k : ℕ) → k < bad_at read n ks xs → begins read n xs k ≡ true → step_good read ks (drop k xs) ≡ true)) → (k : ℕ) → k < suc (bad_at read n ks xs) → begins read (suc n) (x ∷ xs) k ≡ true → step_good read ks (drop k (x ∷ xs)) ≡ true
      later h zero l b = absurd (false≢true b)
      later h (suc k) l b = h.2 k (omega arith) b

  pub first_bad : (ks c : List ℕ) → 0 < length c → good read ks c ≡ false → (begins read zero c (bad_at read zero ks c) ≡ true) × (step_good read ks (drop (bad_at read zero ks c) c) ≡ false) × ((k : ℕ) → k < bad_at read zero ks c → begins read zero c k ≡ true → step_good read ks (drop k c) ≡ true)
  unfolding good
  first_bad ks c l g = bad_found ks zero c (rw (lt-ltb 0 (length c) l) at g)
