-- Things told that pass are of their kinds and within the letters. Assumes nothing.
use Rattle.std.proofs.Common.{◌≡◌, ℕ, zero, suc, ◌+◌, ◌-◌, ◌*◌, ◌<◌, ◌≤◌, Bool, true, false, cond, not, ◌&&◌, eqb, ltb, leb, min, map, zip, ◌⊎◌, List, [], ◌∷◌, ◌/◌, length, get_or, take, drop, Some, None, Option, sym, refl, ap, ◌∙◌, subst, ap₂, inl, inr, arith}
use Rattle.std.proofs.lemmas.Bool.{ltb-true, ltb-false, true≢false, leb-true, eqb-true, le-leb, eq-eqb, ne_eqb, and_parts, and_from, or_cases, or_left, or_right}
use Rattle.code.specs.Step.{text, number, kind, kinds}
use Rattle.plural.specs.Rules.{later}
use Rattle.std.specs.List.{position, position_or_len}
use Rattle.std.specs.Simd.{first_chunks}
use Rattle.std.proofs.lemmas.Slice.Zip.{length-zip}
use Rattle.render.specs.Told.{value_in, values_in, thing_ok, bad_thing, wrong_thing, thing_refusal, told_fault, ThingWell, ToldWell, Kept}
use Rattle.render.specs.View.{value_of}

-- one thing that passes
ok_kind : (ls : List ℕ) (k a b c : ℕ) → thing_ok ls k a b c ≡ true → a ≡ k
ok_kind ls k a b c h = eqb-true a k (and_parts (eqb a k) _ h).0

ok_within : (ls : List ℕ) (k a b c : ℕ) → thing_ok ls k a b c ≡ true → (a ≡ 1) ⊎ ((a ≡ 0) × (b + c ≤ length ls) × (c ≤ 4294967296))
ok_within ls k a b c h =
    elim (or_cases (eqb a 1) (eqb a 0 && (leb b (length ls) && (leb c (length ls - b) && leb c 4294967296))) (and_parts (eqb a k) _ h).1) [
      | inl q ↦ inl (eqb-true a 1 q)
      | inr q ↦
          let p = and_parts (eqb a 0) (leb b (length ls) && (leb c (length ls - b) && leb c 4294967296)) q in
          let s = and_parts (leb b (length ls)) (leb c (length ls - b) && leb c 4294967296) p.1 in
          let t = and_parts (leb c (length ls - b)) (leb c 4294967296) s.1 in
          inr (eqb-true a 0 p.0, omega (arith, leb-true b (length ls) s.0, leb-true c (length ls - b) t.0), leb-true c 4294967296 t.1)
    ]

ok_from : (ls : List ℕ) (k a b c : ℕ) → a ≡ k → (a ≡ 1) ⊎ ((a ≡ 0) × (b + c ≤ length ls) × (c ≤ 4294967296)) → thing_ok ls k a b c ≡ true
ok_from ls k a b c q (inl h) = and_from (eqb a k) _ (eq-eqb a k q) (or_left (eqb a 1) _ (eq-eqb a 1 h))
ok_from ls k a b c q (inr h) =
    and_from (eqb a k) _ (eq-eqb a k q)
    (or_right (eqb a 1) _
    (and_from (eqb a 0) _ (eq-eqb a 0 h.0)
    (and_from (leb b (length ls)) _ (le-leb b (length ls) (omega (arith, h.1)))
    (and_from (leb c (length ls - b)) _ (le-leb c (length ls - b) (omega (arith, h.1))) (le-leb c 4294967296 h.2)))))

-- a thing of what is left, and the same one of the whole
module _ (ls : List ℕ) (a b c : ℕ) (ts : List ℕ) (k : ℕ) (ks : List ℕ) where
  at_later : (j m : ℕ) → get_or (a ∷ b ∷ c ∷ ts) (3 * suc j + m) 0 ≡ get_or ts (3 * j + m) 0
  at_later j m = let q : 3 * suc j + m ≡ suc (suc (suc (3 * j + m))) = omega arith in ap (λ (i : ℕ). get_or (a ∷ b ∷ c ∷ ts) i 0) q

  at_later_0 : (j : ℕ) → get_or (a ∷ b ∷ c ∷ ts) (3 * suc j) 0 ≡ get_or ts (3 * j) 0
  at_later_0 j = let q : 3 * suc j ≡ suc (suc (suc (3 * j))) = omega arith in ap (λ (i : ℕ). get_or (a ∷ b ∷ c ∷ ts) i 0) q

  first_well : thing_ok ls k a b c ≡ true → ThingWell ls (a ∷ b ∷ c ∷ ts) (k ∷ ks) 0
  first_well h = record { kinded = omega arith; whole = omega arith; kind = ok_kind ls k a b c h; within = ok_within ls k a b c h }

  later_well : (j : ℕ) → ThingWell ls ts ks j → ThingWell ls (a ∷ b ∷ c ∷ ts) (k ∷ ks) (suc j)
  later_well j w =
      record {
        kinded = omega (arith, w.kinded);
        whole = omega (arith, w.whole);
        kind = at_later_0 j ∙ w.kind;
        within = rw (at_later_0 j, at_later j 1, at_later j 2) w.within;
      }

  later_back : (j : ℕ) → ThingWell ls (a ∷ b ∷ c ∷ ts) (k ∷ ks) (suc j) → ThingWell ls ts ks j
  later_back j w =
      record {
        kinded = omega (arith, w.kinded);
        whole = omega (arith, w.whole);
        kind = sym (at_later_0 j) ∙ w.kind;
        within = rw (at_later_0 j, at_later j 1, at_later j 2) at w.within;
      }

pub things_well : (ls ts ks : List ℕ) → wrong_thing ls ts ks ≡ None → ToldWell ls ts ks
unfolding wrong_thing
things_well ls [] [] q = (refl, λ i l. absurd (omega arith))
things_well ls [] (k ∷ ks) q = cc
things_well ls (a ∷ []) ks q = cc
things_well ls (a ∷ b ∷ []) ks q = cc
things_well ls (a ∷ b ∷ c ∷ ts) [] q = cc
things_well ls (a ∷ b ∷ c ∷ ts) (k ∷ ks) q = go (λ h. things_well ls ts ks h) (thing_ok ls k a b c) refl (wrong_thing ls ts ks) refl q
  where
    go : (wrong_thing ls ts ks ≡ None → ToldWell ls ts ks) → (t : Bool) → thing_ok ls k a b c ≡ t → (o : Option ℕ) → wrong_thing ls ts ks ≡ o → cond t (later o) (Some 0) ≡ None → ToldWell ls (a ∷ b ∷ c ∷ ts) (k ∷ ks)
    go ih false t o h q = cc
    go ih true t (Some j) h q = cc
    go ih true t None h q = let w = ih h in (omega (arith, w.0), λ i l. each t w.1 i l)
      where
        each : thing_ok ls k a b c ≡ true → ((i : ℕ) → i < length ks → ThingWell ls ts ks i) → (i : ℕ) → i < length (k ∷ ks) → ThingWell ls (a ∷ b ∷ c ∷ ts) (k ∷ ks) i
        each t w zero l = first_well ls a b c ts k ks t
        each t w (suc i) l = later_well ls a b c ts k ks i (w i (omega arith))

-- the first thing that is wrong is not well, and those before it are
abbrev WrongAt : (ls ts ks : List ℕ) → ℕ → Type 0
WrongAt ls ts ks n = ((n < length ks) ⊎ (3 * n < length ts)) × (ThingWell ls ts ks n → ⊥) × ((i : ℕ) → i < n → ThingWell ls ts ks i)

wrong_now : (ls ts ks : List ℕ) (n : ℕ) → (0 < length ks) ⊎ (0 < length ts) → (ThingWell ls ts ks 0 → ⊥) → Some 0 ≡ Some n → WrongAt ls ts ks n
wrong_now ls ts ks n l bad q = let e : 0 ≡ n = cc in subst (WrongAt ls ts ks) e (l, bad, λ i m. absurd (omega arith))

pub things_wrong : (ls ts ks : List ℕ) (n : ℕ) → wrong_thing ls ts ks ≡ Some n → WrongAt ls ts ks n
unfolding wrong_thing
things_wrong ls [] [] n q = cc
things_wrong ls [] (k ∷ ks) n q = wrong_now ls [] (k ∷ ks) n (inl (omega arith)) (λ w. omega (arith, w.whole)) q
things_wrong ls (a ∷ []) ks n q = wrong_now ls (a ∷ []) ks n (inr (omega arith)) (λ w. omega (arith, w.whole)) q
things_wrong ls (a ∷ b ∷ []) ks n q = wrong_now ls (a ∷ b ∷ []) ks n (inr (omega arith)) (λ w. omega (arith, w.whole)) q
things_wrong ls (a ∷ b ∷ c ∷ ts) [] n q = wrong_now ls (a ∷ b ∷ c ∷ ts) [] n (inr (omega arith)) (λ w. omega (arith, w.kinded)) q
things_wrong ls (a ∷ b ∷ c ∷ ts) (k ∷ ks) n q = go (λ j h. things_wrong ls ts ks j h) (thing_ok ls k a b c) refl (wrong_thing ls ts ks) refl q
  where
    go : ((j : ℕ) → wrong_thing ls ts ks ≡ Some j → WrongAt ls ts ks j) → (t : Bool) → thing_ok ls k a b c ≡ t → (o : Option ℕ) → wrong_thing ls ts ks ≡ o → cond t (later o) (Some 0) ≡ Some n → WrongAt ls (a ∷ b ∷ c ∷ ts) (k ∷ ks) n
    go ih false t o h q = wrong_now ls (a ∷ b ∷ c ∷ ts) (k ∷ ks) n (inl (omega arith)) (λ w. true≢false (sym (ok_from ls k a b c w.kind w.within) ∙ t)) q
    go ih true t None h q = cc
    go ih true t (Some j) h q =
        let same : suc j ≡ n = cc in
        let w = ih j h in
        subst (WrongAt ls (a ∷ b ∷ c ∷ ts) (k ∷ ks)) same
        (elim w.0 [ inl l ↦ inl (omega arith) | inr l ↦ inr (omega arith) ], (λ v. w.1 (later_back ls a b c ts k ks j v)), λ i m. before j t w.2 i m)
      where
        before : (j : ℕ) → thing_ok ls k a b c ≡ true → ((i : ℕ) → i < j → ThingWell ls ts ks i) → (i : ℕ) → i < suc j → ThingWell ls (a ∷ b ∷ c ∷ ts) (k ∷ ks) i
        before j t w zero m = first_well ls a b c ts k ks t
        before j t w (suc i) m = later_well ls a b c ts k ks i (w i (omega arith))

value_kind : (ls : List ℕ) (k a b c : ℕ) → thing_ok ls k a b c ≡ true → kind (value_in ls a b c) ≡ k
unfolding kind
value_kind ls k a b c h =
    elim (ok_within ls k a b c h) [
      | inl q ↦ ap (λ (t : Bool). kind (cond t (number b) (text (take c (drop b ls))))) (eq-eqb a 1 q) ∙ sym q ∙ ok_kind ls k a b c h
      | inr q ↦ ap (λ (t : Bool). kind (cond t (number b) (text (take c (drop b ls))))) (ne_eqb a 1 (λ r. omega (arith, q.0))) ∙ sym q.0 ∙ ok_kind ls k a b c h
    ]

-- things that pass are of their kinds
pub things_kinds : (ls ts ks : List ℕ) → wrong_thing ls ts ks ≡ None → kinds (values_in ls ts) ≡ ks
unfolding wrong_thing kinds values_in
things_kinds ls [] [] q = refl
things_kinds ls [] (k ∷ ks) q = cc
things_kinds ls (a ∷ []) ks q = cc
things_kinds ls (a ∷ b ∷ []) ks q = cc
things_kinds ls (a ∷ b ∷ c ∷ ts) [] q = cc
things_kinds ls (a ∷ b ∷ c ∷ ts) (k ∷ ks) q = go (λ h. things_kinds ls ts ks h) (thing_ok ls k a b c) refl (wrong_thing ls ts ks) refl q
  where
    go : (wrong_thing ls ts ks ≡ None → kinds (values_in ls ts) ≡ ks) → (t : Bool) → thing_ok ls k a b c ≡ t → (o : Option ℕ) → wrong_thing ls ts ks ≡ o → cond t (later o) (Some 0) ≡ None → kind (value_in ls a b c) ∷ kinds (values_in ls ts) ≡ k ∷ ks
    go ih false t o h q = cc
    go ih true t (Some j) h q = cc
    go ih true t None h q = ap₂ ◌∷◌ (value_kind ls k a b c t) (ih h)

pub value_number : (ls : List ℕ) (a b c : ℕ) → a ≡ 1 → number b ≡ value_in ls a b c
value_number ls a b c q = sym (ap (λ (t : Bool). cond t (number b) (text (take c (drop b ls)))) (eq-eqb a 1 q))

pub value_text : (ls : List ℕ) (a b c : ℕ) → (a ≡ 1 → ⊥) → text (take c (drop b ls)) ≡ value_in ls a b c
value_text ls a b c q = sym (ap (λ (t : Bool). cond t (number b) (text (take c (drop b ls)))) (ne_eqb a 1 q))

-- a thing that passes is kept as an argument
ok_kept : (ls : List ℕ) (k a b c : ℕ) → thing_ok ls k a b c ≡ true → Kept ls (a ∷ b ∷ c ∷ [])
ok_kept ls k a b c h =
    record {
      kinded = elim (ok_within ls k a b c h) [ inl q ↦ omega arith | inr q ↦ omega (arith, q.0) ];
      within = λ z. elim (ok_within ls k a b c h) [ inl q ↦ absurd (omega arith) | inr q ↦ (q.1, q.2) ];
    }

-- things by threes are all that can be said of them
pub threes_values : (n : ℕ) (ls ts : List ℕ) → 3 * n ≤ length ts → length ts < 3 * n + 3 → map (value_of ls) (first_chunks 3 n ts) ≡ values_in ls ts
unfolding values_in
threes_values zero ls [] l m = refl
threes_values zero ls (a ∷ []) l m = refl
threes_values zero ls (a ∷ b ∷ []) l m = refl
threes_values zero ls (a ∷ b ∷ c ∷ ts) l m = absurd (omega arith)
threes_values (suc n) ls [] l m = absurd (omega arith)
threes_values (suc n) ls (a ∷ []) l m = absurd (omega arith)
threes_values (suc n) ls (a ∷ b ∷ []) l m = absurd (omega arith)
threes_values (suc n) ls (a ∷ b ∷ c ∷ ts) l m = ap (λ vs. value_in ls a b c ∷ vs) (threes_values n ls ts (omega arith) (omega arith))

pub threes_kept : (n : ℕ) (ls ts ks : List ℕ) → wrong_thing ls ts ks ≡ None → 3 * n ≤ length ts → (i : ℕ) → i < length (first_chunks 3 n ts) → Kept ls (get_or (first_chunks 3 n ts) i [])
unfolding wrong_thing
threes_kept zero ls ts ks q l i m = absurd (omega arith)
threes_kept (suc n) ls [] ks q l i m = absurd (omega arith)
threes_kept (suc n) ls (a ∷ []) ks q l i m = absurd (omega arith)
threes_kept (suc n) ls (a ∷ b ∷ []) ks q l i m = absurd (omega arith)
threes_kept (suc n) ls (a ∷ b ∷ c ∷ ts) [] q l i m = cc
threes_kept (suc n) ls (a ∷ b ∷ c ∷ ts) (k ∷ ks) q l i m = go (λ h j w. threes_kept n ls ts ks h (omega arith) j w) (thing_ok ls k a b c) refl (wrong_thing ls ts ks) refl q i m
  where
    go : (wrong_thing ls ts ks ≡ None → (j : ℕ) → j < length (first_chunks 3 n ts) → Kept ls (get_or (first_chunks 3 n ts) j [])) → (t : Bool) → thing_ok ls k a b c ≡ t → (o : Option ℕ) → wrong_thing ls ts ks ≡ o → cond t (later o) (Some 0) ≡ None → (i : ℕ) → i < length (first_chunks 3 (suc n) (a ∷ b ∷ c ∷ ts)) → Kept ls (get_or (first_chunks 3 (suc n) (a ∷ b ∷ c ∷ ts)) i [])
    go ih false t o h q i m = cc
    go ih true t (Some j) h q i m = cc
    go ih true t None h q zero m = ok_kept ls k a b c t
    go ih true t None h q (suc i) m = ih h i (omega arith)

-- a search through so many things and kinds that stopped at p: there is what is wrong; if it found nothing, it is well exactly if there is a thing for each kind
pub record Found (w : Option ℕ) (p n things kinds : ℕ) : Type 0 where
  pub wrong : p < n → w ≡ Some p
  pub right : n ≤ p → things ≡ 3 * kinds → w ≡ None
  pub count : n ≤ p → (things ≡ 3 * kinds → ⊥) → w ≡ Some n

found_on : (t : Bool) (w : Option ℕ) (p n things kinds : ℕ) → Found w p n things kinds → Found (cond t (later w) (Some 0)) (cond (not (not t)) (1 + p) 0) (suc n) (suc (suc (suc things))) (suc kinds)
found_on false w p n things kinds f = record { wrong = λ l. refl; right = λ l e. absurd (omega arith); count = λ l e. absurd (omega arith) }
found_on true w p n things kinds f =
    let more : suc p ≡ 1 + p = omega arith in
    record {
      wrong = λ l. ap later (f.wrong (omega arith)) ∙ ap Some more;
      right = λ l e. ap later (f.right (omega arith) (omega arith));
      count = λ l e. ap later (f.count (omega arith) (λ q. e (omega arith)));
    }

pub threes_found : (n : ℕ) (ls ts ks : List ℕ) → 3 * n ≤ length ts → length ts < 3 * n + 3 → Found (wrong_thing ls ts ks) (position_or_len (bad_thing ls) (zip (first_chunks 3 n ts) ks)) (length (zip (first_chunks 3 n ts) ks)) (length ts) (length ks)
unfolding wrong_thing
threes_found zero ls [] [] l m = record { wrong = λ o. absurd (omega arith); right = λ o e. refl; count = λ o e. absurd (e (omega arith)) }
threes_found zero ls [] (k ∷ ks) l m = record { wrong = λ o. absurd (omega arith); right = λ o e. absurd (omega arith); count = λ o e. refl }
threes_found zero ls (a ∷ []) ks l m = record { wrong = λ o. absurd (omega arith); right = λ o e. absurd (omega arith); count = λ o e. refl }
threes_found zero ls (a ∷ b ∷ []) ks l m = record { wrong = λ o. absurd (omega arith); right = λ o e. absurd (omega arith); count = λ o e. refl }
threes_found zero ls (a ∷ b ∷ c ∷ ts) ks l m = absurd (omega arith)
threes_found (suc n) ls [] ks l m = absurd (omega arith)
threes_found (suc n) ls (a ∷ []) ks l m = absurd (omega arith)
threes_found (suc n) ls (a ∷ b ∷ []) ks l m = absurd (omega arith)
threes_found (suc n) ls (a ∷ b ∷ c ∷ ts) [] l m = record { wrong = λ o. absurd (omega arith); right = λ o e. absurd (omega arith); count = λ o e. refl }
threes_found (suc n) ls (a ∷ b ∷ c ∷ ts) (k ∷ ks) l m =
    found_on (thing_ok ls k a b c) (wrong_thing ls ts ks) (position_or_len (bad_thing ls) (zip (first_chunks 3 n ts) ks)) (length (zip (first_chunks 3 n ts) ks)) (length ts) (length ks)
    (threes_found n ls ts ks (omega arith) (omega arith))

search_none : (t : Bool) (p : ℕ) → cond t (Some p) None ≡ None → t ≡ false
search_none true p q = cc
search_none false p q = refl

search_some : (t : Bool) (p n : ℕ) → cond t (Some p) None ≡ Some n → (t ≡ true) × (p ≡ n)
search_some true p n q = (refl, cc)
search_some false p n q = cc

-- what the search of the program answers
module _ (ls ts ks : List ℕ) (cs : List (List ℕ)) (threes : cs ≡ first_chunks 3 (length ts / 3) ts) where
  found : Found (wrong_thing ls ts ks) (position_or_len (bad_thing ls) (zip cs ks)) (length (zip cs ks)) (length ts) (length ks)
  found = subst (λ (xs : List (List ℕ)). Found (wrong_thing ls ts ks) (position_or_len (bad_thing ls) (zip xs ks)) (length (zip xs ks)) (length ts) (length ks)) (sym threes) (threes_found (length ts / 3) ls ts ks (omega arith) (omega arith))

  pub found_wrong : (n : ℕ) → position (bad_thing ls) (zip cs ks) ≡ Some n → wrong_thing ls ts ks ≡ Some n
  found_wrong n q =
      let s = search_some (ltb (position_or_len (bad_thing ls) (zip cs ks)) (length (zip cs ks))) (position_or_len (bad_thing ls) (zip cs ks)) n q in
      found.wrong (ltb-true (position_or_len (bad_thing ls) (zip cs ks)) (length (zip cs ks)) s.0) ∙ ap Some s.1

  through : position (bad_thing ls) (zip cs ks) ≡ None → length (zip cs ks) ≤ position_or_len (bad_thing ls) (zip cs ks)
  through q = ltb-false (position_or_len (bad_thing ls) (zip cs ks)) (length (zip cs ks)) (search_none (ltb (position_or_len (bad_thing ls) (zip cs ks)) (length (zip cs ks))) (position_or_len (bad_thing ls) (zip cs ks)) q)

  pub found_right : position (bad_thing ls) (zip cs ks) ≡ None → length ts ≡ 3 * length ks → wrong_thing ls ts ks ≡ None
  found_right q e = found.right (through q) e

  pub found_count : (n : ℕ) → position (bad_thing ls) (zip cs ks) ≡ None → (length ts ≡ 3 * length ks → ⊥) → n ≡ min (length cs) (length ks) → wrong_thing ls ts ks ≡ Some n
  found_count n q e m = found.count (through q) e ∙ ap Some (length-zip cs ks ∙ sym m)

pub refused_none : (ls ts ks : List ℕ) → told_fault ls ts ks ≡ None → wrong_thing ls ts ks ≡ None
refused_none ls ts ks q = go (wrong_thing ls ts ks) q
  where
    go : (o : Option ℕ) → thing_refusal o ≡ None → o ≡ None
    go None q = refl
    go (Some k) q = cc
