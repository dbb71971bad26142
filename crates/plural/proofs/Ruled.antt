-- Rules that pass, and the classes that they give. Assumes nothing.
use Rattle.std.proofs.Common.{◌≡◌, ℕ, zero, suc, ◌+◌, ◌-◌, ◌*◌, ◌<◌, ◌≤◌, Bool, true, false, cond, ◌&&◌, leb, List, [], ◌∷◌, ◌++◌, length, get_or, drop, min, is_some, Some, None, Option, sym, refl, ap, ◌∙◌, subst, inl, inr, arith, eq-eqb, ne_eqb}
use Rattle.std.proofs.lemmas.Bool.{true≢false, le-leb, leb-true, and_parts, and_from, cases_lt, cond_both}
use Rattle.std.proofs.lemmas.List.{get_or-drop, get_or_append_left}
use Rattle.std.proofs.Math.Seq.{drop-append_seam}
use Rattle.std.specs.List.{All}
use Rattle.plural.specs.Rules.{Rule, rules_in, fits, class_by, class_in, is_well, later, wrong_rule, rule_refusal, rules_fault, RuleWell}

pub wrong_short : (n : ℕ) (rs : List ℕ) → 0 < length rs → length rs < 6 → Some 0 ≡ wrong_rule n rs
unfolding wrong_rule
wrong_short n [] l h = absurd (omega arith)
wrong_short zero (a ∷ rs) l h = refl
wrong_short (suc n) (a ∷ []) l h = refl
wrong_short (suc n) (a ∷ b ∷ []) l h = refl
wrong_short (suc n) (a ∷ b ∷ c ∷ []) l h = refl
wrong_short (suc n) (a ∷ b ∷ c ∷ d ∷ []) l h = refl
wrong_short (suc n) (a ∷ b ∷ c ∷ d ∷ e ∷ []) l h = refl
wrong_short (suc n) (a ∷ b ∷ c ∷ d ∷ e ∷ f ∷ rs) l h = absurd (omega arith)

pub wrong_many : (n : ℕ) (rs : List ℕ) → 0 < length rs → n ≡ 0 → Some 0 ≡ wrong_rule n rs
unfolding wrong_rule
wrong_many n [] l h = absurd (omega arith)
wrong_many zero (a ∷ rs) l h = refl
wrong_many (suc n) (a ∷ rs) l h = absurd (omega arith)

at_six : (n : ℕ) (rs : List ℕ) → 0 < n → 6 ≤ length rs → wrong_rule n rs ≡ cond (leb 1 (get_or rs 0 0) && leb (get_or rs 5 0) 5) (later (wrong_rule (n - 1) (drop 6 rs))) (Some 0)
unfolding wrong_rule
at_six zero rs m l = absurd (omega arith)
at_six (suc n) [] m l = absurd (omega arith)
at_six (suc n) (a ∷ []) m l = absurd (omega arith)
at_six (suc n) (a ∷ b ∷ []) m l = absurd (omega arith)
at_six (suc n) (a ∷ b ∷ c ∷ []) m l = absurd (omega arith)
at_six (suc n) (a ∷ b ∷ c ∷ d ∷ []) m l = absurd (omega arith)
at_six (suc n) (a ∷ b ∷ c ∷ d ∷ e ∷ []) m l = absurd (omega arith)
at_six (suc n) (a ∷ b ∷ c ∷ d ∷ e ∷ f ∷ rs) m l = let q : suc n - 1 ≡ n = omega arith in rw q refl

-- a rule more, by the numbers that are its: whole and well, or the first that is wrong
chunk_on : (n : ℕ) (rs chunk rest : List ℕ) → rs ≡ chunk ++ rest → length chunk ≡ min 6 (length rs) → 0 < length rs → 0 < n → wrong_rule n rs ≡ cond (is_well chunk) (later (wrong_rule (n - 1) rest)) (Some 0)
chunk_on n rs chunk rest e l some m = elim (cases_lt (length rs) 6) [ inl h ↦ short h | inr h ↦ six h ]
  where
    short : length rs < 6 → wrong_rule n rs ≡ cond (is_well chunk) (later (wrong_rule (n - 1) rest)) (Some 0)
    short h = sym (wrong_short n rs some h) ∙ ap (λ (b : Bool). cond (b && (leb 1 (get_or chunk 0 0) && leb (get_or chunk 5 0) 5)) (later (wrong_rule (n - 1) rest)) (Some 0)) (sym (ne_eqb (length chunk) 6 (λ q. omega arith)))

    six : 6 ≤ length rs → wrong_rule n rs ≡ cond (is_well chunk) (later (wrong_rule (n - 1) rest)) (Some 0)
    six h =
        let whole : length chunk ≡ 6 = omega arith in
        let first = ap (λ (xs : List ℕ). get_or xs 0 0) e ∙ get_or_append_left chunk rest 0 0 (omega arith) in
        let last = ap (λ (xs : List ℕ). get_or xs 5 0) e ∙ get_or_append_left chunk rest 0 5 (omega arith) in
        let behind : drop 6 rs ≡ rest = ap (drop 6) e ∙ ap (λ (k : ℕ). drop k (chunk ++ rest)) (sym whole) ∙ drop-append_seam chunk rest in
        at_six n rs m h ∙ rw (first, last, behind, eq-eqb (length chunk) 6 whole) refl

-- how a test of one rule after another stands: so many are well, and these numbers are left
abbrev pub further : ℕ → Option ℕ → Option ℕ
further k None = None
further k (Some j) = Some (k + j)

pub record Tested (rules : List ℕ) (count : ℕ) (left : List ℕ) : Type 0 where
  pub few : count ≤ 20
  pub same : further count (wrong_rule (20 - count) left) ≡ wrong_rule 20 rules

-- the next one
module _ (rules chunk left rest : List ℕ) (count : ℕ) (t : Tested rules count left) (e : left ≡ chunk ++ rest) (l : length chunk ≡ min 6 (length left)) (some : 0 < length left) where
  pub one_many : count ≡ 20 → wrong_rule 20 rules ≡ Some count
  one_many q =
      let none : 20 - count ≡ 0 = omega arith in
      let here : count + 0 ≡ count = omega arith in
      sym t.same ∙ ap (further count) (sym (wrong_many (20 - count) left some none)) ∙ ap Some here

  pub one_wrong : false ≡ is_well chunk → wrong_rule 20 rules ≡ Some count
  one_wrong h = elim (cases_lt count 20) [
    | inr m ↦ one_many (omega (arith, t.few))
    | inl m ↦ let here : count + 0 ≡ count = omega arith in
        sym t.same
        ∙ ap (further count) (chunk_on (20 - count) left chunk rest e l some (omega arith) ∙ ap (λ (b : Bool). cond b (later (wrong_rule (20 - count - 1) rest)) (Some 0)) (sym h))
        ∙ ap Some here
  ]

  pub one_more : (count ≡ 20 → ⊥) → true ≡ is_well chunk → (k : ℕ) → k ≡ count + 1 → Tested rules k rest
  one_more n h k q =
      let less : count < 20 = elim (cases_lt count 20) [ inl m ↦ m | inr m ↦ absurd (n (omega (arith, t.few))) ] in
      let one : 20 - count - 1 ≡ 20 - k = omega arith in
      let on = chunk_on (20 - count) left chunk rest e l some (omega arith) ∙ ap (λ (b : Bool). cond b (later (wrong_rule (20 - count - 1) rest)) (Some 0)) (sym h) ∙ ap (λ (i : ℕ). later (wrong_rule i rest)) one in
      record { few = omega arith; same = go (wrong_rule (20 - k) rest) ∙ ap (further count) (sym on) ∙ t.same }
    where
      go : (o : Option ℕ) → further k o ≡ further count (later o)
      go None = refl
      go (Some j) = ap Some (omega arith)

pub all_tested : (rules left : List ℕ) (count : ℕ) → Tested rules count left → length left ≡ 0 → wrong_rule 20 rules ≡ None
unfolding wrong_rule
all_tested rules [] count t l = sym t.same
all_tested rules (a ∷ left) count t l = absurd (omega arith)

-- a number of a rule of what is left, and the same one of the whole
pub at_later : (rs : List ℕ) (j k : ℕ) → get_or (drop 6 rs) (6 * j + k) 0 ≡ get_or rs (6 * suc j + k) 0
at_later rs j k = let q : 6 + (6 * j + k) ≡ 6 * suc j + k = omega arith in get_or-drop 6 rs (6 * j + k) 0 ∙ ap (λ (i : ℕ). get_or rs i 0) q

pub at_later_0 : (rs : List ℕ) (j : ℕ) → get_or (drop 6 rs) (6 * j) 0 ≡ get_or rs (6 * suc j) 0
at_later_0 rs j = let q : 6 + 6 * j ≡ 6 * suc j = omega arith in get_or-drop 6 rs (6 * j) 0 ∙ ap (λ (i : ℕ). get_or rs i 0) q

-- a rule of what is left, and the same one of the whole
module _ (n a b c d e f : ℕ) (rs : List ℕ) where
  first_well : 1 ≤ a → f ≤ 5 → RuleWell (suc n) (a ∷ b ∷ c ∷ d ∷ e ∷ f ∷ rs) 0
  first_well p q = record { few = omega arith; whole = omega arith; modulus = p; class = q }

  later_well : (j : ℕ) → RuleWell n rs j → RuleWell (suc n) (a ∷ b ∷ c ∷ d ∷ e ∷ f ∷ rs) (suc j)
  later_well j w = record { few = omega (arith, w.few); whole = omega (arith, w.whole); modulus = omega (arith, w.modulus, at_later_0 (a ∷ b ∷ c ∷ d ∷ e ∷ f ∷ rs) j); class = omega (arith, w.class, at_later (a ∷ b ∷ c ∷ d ∷ e ∷ f ∷ rs) j 5) }

  later_back : (j : ℕ) → RuleWell (suc n) (a ∷ b ∷ c ∷ d ∷ e ∷ f ∷ rs) (suc j) → RuleWell n rs j
  later_back j w = record { few = omega (arith, w.few); whole = omega (arith, w.whole); modulus = omega (arith, w.modulus, at_later_0 (a ∷ b ∷ c ∷ d ∷ e ∷ f ∷ rs) j); class = omega (arith, w.class, at_later (a ∷ b ∷ c ∷ d ∷ e ∷ f ∷ rs) j 5) }

pub well_all : (n : ℕ) (rs : List ℕ) → wrong_rule n rs ≡ None → (i : ℕ) → 6 * i < length rs → RuleWell n rs i
unfolding wrong_rule
well_all n [] q i l = absurd (omega arith)
well_all zero (a ∷ rs) q i l = cc
well_all (suc n) (a ∷ []) q i l = cc
well_all (suc n) (a ∷ b ∷ []) q i l = cc
well_all (suc n) (a ∷ b ∷ c ∷ []) q i l = cc
well_all (suc n) (a ∷ b ∷ c ∷ d ∷ []) q i l = cc
well_all (suc n) (a ∷ b ∷ c ∷ d ∷ e ∷ []) q i l = cc
well_all (suc n) (a ∷ b ∷ c ∷ d ∷ e ∷ f ∷ rs) q i l = go (λ h j m. well_all n rs h j m) (leb 1 a && leb f 5) refl (wrong_rule n rs) refl q i l
  where
    go : (wrong_rule n rs ≡ None → (j : ℕ) → 6 * j < length rs → RuleWell n rs j) → (t : Bool) → (leb 1 a && leb f 5) ≡ t → (o : Option ℕ) → wrong_rule n rs ≡ o → cond t (later o) (Some 0) ≡ None → (i : ℕ) → 6 * i < length (a ∷ b ∷ c ∷ d ∷ e ∷ f ∷ rs) → RuleWell (suc n) (a ∷ b ∷ c ∷ d ∷ e ∷ f ∷ rs) i
    go ih false t o h q i l = cc
    go ih true t (Some k) h q i l = cc
    go ih true t None h q zero l = let p = and_parts (leb 1 a) (leb f 5) t in first_well n a b c d e f rs (leb-true 1 a p.0) (leb-true f 5 p.1)
    go ih true t None h q (suc j) l = later_well n a b c d e f rs j (ih h j (omega arith))

-- the first rule that is wrong is not well, and those before it are
abbrev WrongAt : ℕ → List ℕ → ℕ → Type 0
WrongAt n rs k = (6 * k < length rs) × (RuleWell n rs k → ⊥) × ((i : ℕ) → i < k → RuleWell n rs i)

wrong_now : (n : ℕ) (rs : List ℕ) (k : ℕ) → 0 < length rs → (RuleWell n rs 0 → ⊥) → Some 0 ≡ Some k → WrongAt n rs k
wrong_now n rs k l bad q = let e : 0 ≡ k = cc in subst (WrongAt n rs) e (omega arith, bad, λ i m. absurd (omega arith))

pub wrong_words : (n : ℕ) (rs : List ℕ) (k : ℕ) → wrong_rule n rs ≡ Some k → WrongAt n rs k
unfolding wrong_rule
wrong_words n [] k q = cc
wrong_words zero (a ∷ rs) k q = wrong_now zero (a ∷ rs) k (omega arith) (λ w. omega (arith, w.few)) q
wrong_words (suc n) (a ∷ []) k q = wrong_now (suc n) (a ∷ []) k (omega arith) (λ w. omega (arith, w.whole)) q
wrong_words (suc n) (a ∷ b ∷ []) k q = wrong_now (suc n) (a ∷ b ∷ []) k (omega arith) (λ w. omega (arith, w.whole)) q
wrong_words (suc n) (a ∷ b ∷ c ∷ []) k q = wrong_now (suc n) (a ∷ b ∷ c ∷ []) k (omega arith) (λ w. omega (arith, w.whole)) q
wrong_words (suc n) (a ∷ b ∷ c ∷ d ∷ []) k q = wrong_now (suc n) (a ∷ b ∷ c ∷ d ∷ []) k (omega arith) (λ w. omega (arith, w.whole)) q
wrong_words (suc n) (a ∷ b ∷ c ∷ d ∷ e ∷ []) k q = wrong_now (suc n) (a ∷ b ∷ c ∷ d ∷ e ∷ []) k (omega arith) (λ w. omega (arith, w.whole)) q
wrong_words (suc n) (a ∷ b ∷ c ∷ d ∷ e ∷ f ∷ rs) k q = go (λ j h. wrong_words n rs j h) (leb 1 a && leb f 5) refl (wrong_rule n rs) refl q
  where
    go : ((j : ℕ) → wrong_rule n rs ≡ Some j → WrongAt n rs j) → (t : Bool) → (leb 1 a && leb f 5) ≡ t → (o : Option ℕ) → wrong_rule n rs ≡ o → cond t (later o) (Some 0) ≡ Some k → WrongAt (suc n) (a ∷ b ∷ c ∷ d ∷ e ∷ f ∷ rs) k
    go ih false t o h q =
        wrong_now (suc n) (a ∷ b ∷ c ∷ d ∷ e ∷ f ∷ rs) k (omega arith)
        (λ w. true≢false (sym (and_from (leb 1 a) (leb f 5) (le-leb 1 a w.modulus) (le-leb f 5 w.class)) ∙ t)) q
    go ih true t None h q = cc
    go ih true t (Some j) h q =
        let same : suc j ≡ k = cc in
        let w = ih j h in
        let p = and_parts (leb 1 a) (leb f 5) t in
        subst (WrongAt (suc n) (a ∷ b ∷ c ∷ d ∷ e ∷ f ∷ rs)) same
        (omega (arith, w.0), (λ v. w.1 (later_back n a b c d e f rs j v)), λ i m. before j (leb-true 1 a p.0) (leb-true f 5 p.1) w.2 i m)
      where
        before : (j : ℕ) → 1 ≤ a → f ≤ 5 → ((i : ℕ) → i < j → RuleWell n rs i) → (i : ℕ) → i < suc j → RuleWell (suc n) (a ∷ b ∷ c ∷ d ∷ e ∷ f ∷ rs) i
        before j x y w zero m = first_well n a b c d e f rs x y
        before j x y w (suc i) m = later_well n a b c d e f rs i (w i (omega arith))

-- what is true of each rule that is well is true of all that pass
module _ (P : Rule → Type 0) (well : (r : Rule) → 1 ≤ r.modulus → r.class ≤ 5 → P r) where
  pub each_passed : (m : ℕ) (rs : List ℕ) → wrong_rule m rs ≡ None → All P (rules_in rs)
  unfolding wrong_rule rules_in
  each_passed m [] q k o l = absurd (omega arith)
  each_passed m (a ∷ []) q k o l = absurd (omega arith)
  each_passed m (a ∷ b ∷ []) q k o l = absurd (omega arith)
  each_passed m (a ∷ b ∷ c ∷ []) q k o l = absurd (omega arith)
  each_passed m (a ∷ b ∷ c ∷ d ∷ []) q k o l = absurd (omega arith)
  each_passed m (a ∷ b ∷ c ∷ d ∷ e ∷ []) q k o l = absurd (omega arith)
  each_passed zero (a ∷ b ∷ c ∷ d ∷ e ∷ f ∷ rs) q k o l = cc
  each_passed (suc m) (a ∷ b ∷ c ∷ d ∷ e ∷ f ∷ rs) q k o l = go (λ h. each_passed m rs h) (leb 1 a && leb f 5) refl (wrong_rule m rs) refl q k o l
    where
      go : (wrong_rule m rs ≡ None → All P (rules_in rs)) → (t : Bool) → (leb 1 a && leb f 5) ≡ t → (w : Option ℕ) → wrong_rule m rs ≡ w → cond t (later w) (Some 0) ≡ None → All P (record { modulus = a; left_from = b; left_to = c; from = d; to = e; class = f } ∷ rules_in rs)
      go ih false t w h q k o l = cc
      go ih true t (Some j) h q k o l = cc
      go ih true t None h q zero o l = let p = and_parts (leb 1 a) (leb f 5) t in well (record { modulus = a; left_from = b; left_to = c; from = d; to = e; class = f }) (leb-true 1 a p.0) (leb-true f 5 p.1)
      go ih true t None h q (suc k) o l = ih h k o (omega arith)

-- rules that pass put every number in a class below 6
class_small : (rs : List Rule) (n : ℕ) → All (λ (r : Rule). r.class ≤ 5) rs → class_by rs n < 6
unfolding class_by
class_small [] n h = omega arith
class_small (r ∷ rs) n h = cond_both (fits r n) r.class (class_by rs n) (λ (x : ℕ). x < 6) (λ _. omega (arith, h 0 r (omega arith))) (λ _. class_small rs n (λ k o l. h (suc k) o (omega arith)))

pub classes : (m : ℕ) (rs : List ℕ) → wrong_rule m rs ≡ None → (n : ℕ) → class_in rs n < 6
unfolding class_in
classes m rs q n = class_small (rules_in rs) n (each_passed (λ (r : Rule). r.class ≤ 5) (λ r a b. b) m rs q)

none_is : (o : Option ℕ) → is_some o ≡ false → o ≡ None
none_is None h = refl
none_is (Some k) h = absurd (true≢false h)

pub passed : (rs : List ℕ) → is_some (wrong_rule 20 rs) ≡ false → (n : ℕ) → class_in rs n < 6
passed rs h n = classes 20 rs (none_is (wrong_rule 20 rs) h) n

pub passed_moduli : (rs : List ℕ) → is_some (wrong_rule 20 rs) ≡ false → All (λ (r : Rule). 0 < r.modulus) (rules_in rs)
passed_moduli rs h = each_passed (λ (r : Rule). 0 < r.modulus) (λ r a b. a) 20 rs (none_is (wrong_rule 20 rs) h)

pub no_fault : (rs : List ℕ) → rules_fault rs ≡ None → wrong_rule 20 rs ≡ None
no_fault rs = go (wrong_rule 20 rs)
  where
    go : (o : Option ℕ) → rule_refusal o ≡ None → o ≡ None
    go None h = refl
    go (Some k) h = cc

pub classes_below_six : (rs : List ℕ) → rules_fault rs ≡ None → (n : ℕ) → class_in rs n < 6
classes_below_six rs h n = classes 20 rs (no_fault rs h) n
