-- The checker's test is what the words say. Assumes nothing.
use Rattle.std.proofs.Common.{◌≡◌, ℕ, zero, suc, pred, ◌+◌, ◌<◌, Bool, true, false, ◌&&◌, ltb, List, [], ◌∷◌, length, get_or, drop, sym, refl, ap, ◌∙◌, subst, suc-add, zero-add, arith, length-drop}
use Rattle.std.proofs.lemmas.Bool.{true≢false, false≢true, and_parts, and_from, lt-ltb}
use Rattle.std.proofs.lemmas.List.{drop-drop}
use Rattle.code.specs.Step.{Step, size, whole, exits, needs, decode}
use Rattle.code.specs.Code.{each, begins, step_good, good_on, good, bad_at}
use Rattle.code.specs.Promise.{Begins, first, then, GoodStep, GoodCode}
use Rattle.code.proofs.Laws.{size_pos, needs_whole}
use Rattle.code.proofs.Goods.{each_at, good_from, good_here, good_step_here, good_some, first_bad}

each_from : (f : ℕ → Bool) (ds : List ℕ) → ((k : ℕ) → k < length ds → f (get_or ds k 0) ≡ true) → each f ds ≡ true
unfolding each
each_from f [] h = refl
each_from f (d ∷ ds) h = and_from (f d) (each f ds) (h 0 (omega arith)) (each_from f ds (λ k l. h (suc k) (omega arith)))

module _ (read : List ℕ → Step) where
  -- from a beginning on, beginnings are those of what is left
  pub begins_on : (n : ℕ) (r : List ℕ) (p m : ℕ) → begins read n r p ≡ true → begins read n r (p + m) ≡ begins read zero (drop p r) m
  unfolding begins
  begins_on n [] p m h = absurd (false≢true h)
  begins_on zero (x ∷ xs) zero m h = rw zero-add refl
  begins_on zero (x ∷ xs) (suc p) m h =
      let w = and_parts (whole (read (x ∷ xs))) (begins read (pred (size (read (x ∷ xs)))) xs p) h in
      rw (suc-add, w.0) (begins_on (pred (size (read (x ∷ xs)))) xs p m w.1)
  begins_on (suc n) (x ∷ xs) zero m h = absurd (false≢true h)
  begins_on (suc n) (x ∷ xs) (suc p) m h = rw suc-add (begins_on n xs p m h)

  begins_past : (n : ℕ) (r : List ℕ) → n < length r → begins read n r n ≡ true
  unfolding begins
  begins_past n [] l = absurd (omega arith)
  begins_past zero (x ∷ xs) l = refl
  begins_past (suc n) (x ∷ xs) l = begins_past n xs (omega arith)

  pub begins_behind : (r : List ℕ) → whole (read r) ≡ true → size (read r) < length r → begins read zero r (size (read r)) ≡ true
  unfolding begins
  begins_behind [] w l = absurd (omega arith)
  begins_behind (x ∷ xs) w l =
      let h = size_pos (read (x ∷ xs)) in
      let q : size (read (x ∷ xs)) ≡ suc (pred (size (read (x ∷ xs)))) = omega arith in
      ap (begins read zero (x ∷ xs)) q ∙ ap (λ (b : Bool). b && begins read (pred (size (read (x ∷ xs)))) xs (pred (size (read (x ∷ xs))))) w ∙ begins_past (pred (size (read (x ∷ xs)))) xs (omega arith)

tail_at : (c : List ℕ) (p x : ℕ) (xs : List ℕ) → drop p c ≡ x ∷ xs → drop (suc p) c ≡ xs
tail_at c p x xs q = let h : drop 1 (drop p c) ≡ drop (p + 1) c = drop-drop 1 p c in let k : p + 1 ≡ suc p = omega arith in sym (ap (λ (n : ℕ). drop n c) k) ∙ sym h ∙ ap (drop 1) q

within_at : (c : List ℕ) (p x : ℕ) (xs : List ℕ) → drop p c ≡ x ∷ xs → p < length c
within_at c p x xs q = omega (arith, length-drop p c, ap length q)

module _ (c : List ℕ) where
  moved : (a b : ℕ) → a ≡ b → Begins c a → Begins c b
  moved a b q h = subst (Begins c) q h

  -- where the step at p ends, another begins
  behind : (p x : ℕ) (xs : List ℕ) → drop p c ≡ x ∷ xs → whole (decode (x ∷ xs)) ≡ true → Begins c p → suc p + pred (size (decode (x ∷ xs))) < length c → Begins c (suc p + pred (size (decode (x ∷ xs))))
  behind p x xs q v h l =
      let k = size_pos (decode (x ∷ xs)) in
      let e : size (decode (drop p c)) ≡ size (decode (x ∷ xs)) = ap (λ (r : List ℕ). size (decode r)) q in
      moved (p + size (decode (drop p c))) (suc p + pred (size (decode (x ∷ xs)))) (omega arith) (then p h (ap (λ (r : List ℕ). whole (decode r)) q ∙ v) (omega arith))

  start : (p : ℕ) (x : ℕ) (xs : List ℕ) → drop p c ≡ x ∷ xs → (p + 0 < length c → Begins c (p + 0)) → Begins c p
  start p x xs q inv = moved (p + 0) p (omega arith) (inv (omega (arith, within_at c p x xs q)))

  is_begin : (n : ℕ) (r : List ℕ) (p k : ℕ) → drop p c ≡ r → (p + n < length c → Begins c (p + n)) → begins decode n r k ≡ true → Begins c (p + k)
  unfolding begins
  is_begin n [] p k q inv h = absurd (false≢true h)
  is_begin zero (x ∷ xs) p zero q inv h = inv (omega (arith, within_at c p x xs q))
  is_begin zero (x ∷ xs) p (suc k) q inv h =
      let w = and_parts (whole (decode (x ∷ xs))) (begins decode (pred (size (decode (x ∷ xs)))) xs k) h in
      moved (suc p + k) (p + suc k) (omega arith) (is_begin (pred (size (decode (x ∷ xs)))) xs (suc p) k (tail_at c p x xs q) (behind p x xs q w.0 (start p x xs q inv)) w.1)
  is_begin (suc n) (x ∷ xs) p zero q inv h = absurd (false≢true h)
  is_begin (suc n) (x ∷ xs) p (suc k) q inv h =
      moved (suc p + k) (p + suc k) (omega arith) (is_begin n xs (suc p) k (tail_at c p x xs q) (λ l. moved (p + suc n) (suc p + n) (omega arith) (inv (omega arith))) h)

  pub begun : (k : ℕ) → begins decode zero c k ≡ true → Begins c k
  begun k h = moved (0 + k) k (omega arith) (is_begin zero c 0 k refl (λ l. first (omega arith)) h)

  pub begun_back : (k : ℕ) → Begins c k → begins decode zero c k ≡ true
  begun_back k (first l) = begins_past decode 0 c l
  begun_back k (then p h w l) =
      begins_on decode zero c p (size (decode (drop p c))) (begun_back p h) ∙ begins_behind decode (drop p c) w (omega (arith, length-drop p c))

  -- a step that the test calls good is good in words, and the other way round
  step_words : (ks : List ℕ) (p : ℕ) → Begins c p → step_good decode ks (drop p c) ≡ true → GoodStep ks c p
  unfolding step_good
  step_words ks p h g =
      let w = and_parts (needs (decode (drop p c)) ks) (each (λ d. begins decode zero (drop p c) (size (decode (drop p c)) + d)) (exits (decode (drop p c)))) g in
      record {
        asks = w.0;
        lands = λ k l.
            begun (p + (size (decode (drop p c)) + get_or (exits (decode (drop p c))) k 0))
            (begins_on decode zero c p (size (decode (drop p c)) + get_or (exits (decode (drop p c))) k 0) (begun_back p h)
            ∙ each_at (λ d. begins decode zero (drop p c) (size (decode (drop p c)) + d)) (exits (decode (drop p c))) k w.1 l 0);
      }

  step_test : (ks : List ℕ) (p : ℕ) → Begins c p → GoodStep ks c p → step_good decode ks (drop p c) ≡ true
  unfolding step_good
  step_test ks p h g =
      and_from (needs (decode (drop p c)) ks) _ g.asks
      (each_from (λ d. begins decode zero (drop p c) (size (decode (drop p c)) + d)) (exits (decode (drop p c))) (λ k l.
      sym (begins_on decode zero c p (size (decode (drop p c)) + get_or (exits (decode (drop p c))) k 0) (begun_back p h)) ∙ begun_back _ (g.lands k l)))

  pub good_words : (ks : List ℕ) → good decode ks c ≡ true → GoodCode ks c
  good_words ks g =
      record {
        byte = good_some decode ks c g;
        steps = λ p h. step_words ks p h (good_step_here decode ks (drop p c) (good_from decode ks zero c p (good_here decode ks c g).all (begun_back p h)));
      }

  -- the first step that isn't good, in words
  pub first_bad_words :
      (ks : List ℕ) → 0 < length c → good decode ks c ≡ false
      → (Begins c (bad_at decode zero ks c)) × (GoodStep ks c (bad_at decode zero ks c) → ⊥) × ((p : ℕ) → p < bad_at decode zero ks c → Begins c p → GoodStep ks c p)
  first_bad_words ks l g =
      let w = first_bad decode ks c l g in
      let h = begun (bad_at decode zero ks c) w.0 in
      (h, λ q. true≢false (sym (step_test ks (bad_at decode zero ks c) h q) ∙ w.1), λ p m b. step_words ks p b (w.2 p m (begun_back p b)))

  step_is : (ks : List ℕ) → GoodCode ks c → (p x : ℕ) (xs : List ℕ) → drop p c ≡ x ∷ xs → Begins c p → step_good decode ks (x ∷ xs) ≡ true
  step_is ks g p x xs q h = subst (λ (r : List ℕ). step_good decode ks r ≡ true) q (step_test ks p h (g.steps p h))

  step_whole : (ks : List ℕ) → GoodCode ks c → (p x : ℕ) (xs : List ℕ) → drop p c ≡ x ∷ xs → Begins c p → whole (decode (x ∷ xs)) ≡ true
  step_whole ks g p x xs q h = needs_whole (decode (x ∷ xs)) ks (sym (ap (λ (r : List ℕ). needs (decode r) ks) q) ∙ (g.steps p h).asks)

  all_is : (ks : List ℕ) → GoodCode ks c → (n : ℕ) (r : List ℕ) (p : ℕ) → drop p c ≡ r → (p + n < length c → Begins c (p + n)) → good_on decode n ks r ≡ true
  unfolding good_on
  all_is ks g n [] p q inv = refl
  all_is ks g zero (x ∷ xs) p q inv =
      and_from (step_good decode ks (x ∷ xs)) _ (step_is ks g p x xs q (start p x xs q inv)) (all_is ks g (pred (size (decode (x ∷ xs)))) xs (suc p) (tail_at c p x xs q) (behind p x xs q (step_whole ks g p x xs q (start p x xs q inv)) (start p x xs q inv)))
  all_is ks g (suc n) (x ∷ xs) p q inv = all_is ks g n xs (suc p) (tail_at c p x xs q) (λ l. moved (p + suc n) (suc p + n) (omega arith) (inv (omega arith)))

  pub good_test : (ks : List ℕ) → GoodCode ks c → good decode ks c ≡ true
  unfolding good
  good_test ks g = and_from (ltb 0 (length c)) (good_on decode zero ks c) (lt-ltb 0 (length c) g.byte) (all_is ks g zero c 0 refl (λ l. first (omega arith)))
