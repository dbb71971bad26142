-- The class of a number: one rule more, and what a class says in words. Assumes nothing.
use Rattle.std.proofs.Common.{◌≡◌, ℕ, zero, suc, ◌+◌, ◌*◌, ◌/◌, ◌%◌, ◌<◌, ◌≤◌, Bool, true, false, cond, leb, List, [], ◌∷◌, length, get_or, drop, map, Some, Option, sym, refl, ap, ◌∙◌, subst, inl, inr, arith, length-drop}
use Rattle.std.proofs.lemmas.Bool.{true≢false, le-leb, leb-true, and_parts, and_from, cases_order, cond_both}
use Rattle.std.specs.List.{find}
use Rattle.std.specs.Option.{MatchOption}
use Rattle.std.specs.Simd.{first_chunks}
use Rattle.plural.specs.Class.{rule_of, RuleFits, ClassIs}
use Rattle.plural.specs.Rules.{Rule, rules_in, fits, class_by, class_in}
use Rattle.plural.proofs.Ruled.{at_later, at_later_0}

-- the rules, as they are found in chunks of six numbers, and the class of the first that fits
pub rules_chunks : (rs : List ℕ) → rules_in rs ≡ map rule_of (first_chunks 6 (length rs / 6) rs)
unfolding rules_in
rules_chunks [] = refl
rules_chunks (a ∷ []) = refl
rules_chunks (a ∷ b ∷ []) = refl
rules_chunks (a ∷ b ∷ c ∷ []) = refl
rules_chunks (a ∷ b ∷ c ∷ d ∷ []) = refl
rules_chunks (a ∷ b ∷ c ∷ d ∷ e ∷ []) = refl
rules_chunks (a ∷ b ∷ c ∷ d ∷ e ∷ f ∷ rs) =
    let one : length (a ∷ b ∷ c ∷ d ∷ e ∷ f ∷ rs) / 6 ≡ suc (length rs / 6) = omega arith in
    ap (λ (qs : List Rule). record { modulus = a; left_from = b; left_to = c; from = d; to = e; class = f } ∷ qs) (rules_chunks rs)
    ∙ sym (ap (λ (k : ℕ). map rule_of (first_chunks 6 k (a ∷ b ∷ c ∷ d ∷ e ∷ f ∷ rs))) one)

pub class_found : (n k : ℕ) (rs : List Rule) (o : Option Rule) → o ≡ find (λ (r : Rule). fits r n) rs → MatchOption o (k ≡ 5) (λ r. k ≡ r.class) → k ≡ class_by rs n
unfolding class_by
class_found n k [] o q h = subst (λ (o : Option Rule). MatchOption o (k ≡ 5) (λ r. k ≡ r.class)) q h
class_found n k (r ∷ rs) o q h = go (λ e. class_found n k rs o e h) (fits r n) q
  where
    go : (o ≡ find (λ (r : Rule). fits r n) rs → k ≡ class_by rs n) → (t : Bool) → o ≡ cond t (Some r) (find (λ (r : Rule). fits r n) rs) → k ≡ cond t r.class (class_by rs n)
    go ih true q = subst (λ (o : Option Rule). MatchOption o (k ≡ 5) (λ r. k ≡ r.class)) q h
    go ih false q = ih q

-- a rule that fits, in words and by its tests
fits_words : (rs : List ℕ) (n : ℕ) → 6 ≤ length rs → fits (rule_of rs) n ≡ true → RuleFits rs 0 n
unfolding fits
fits_words rs n l h =
    let p = and_parts (leb (get_or rs 1 0) (n % get_or rs 0 0)) _ h in
    let q = and_parts (leb (n % get_or rs 0 0) (get_or rs 2 0)) _ p.1 in
    let w = and_parts (leb (get_or rs 3 0) n) (leb n (get_or rs 4 0)) q.1 in
    record { whole = omega arith; left_from = leb-true _ _ p.0; left_to = leb-true _ _ q.0; from = leb-true _ _ w.0; to = leb-true _ _ w.1 }

words_fit : (rs : List ℕ) (n : ℕ) → RuleFits rs 0 n → fits (rule_of rs) n ≡ true
unfolding fits
words_fit rs n w =
    and_from (leb (get_or rs 1 0) (n % get_or rs 0 0)) _ (le-leb _ _ w.left_from)
    (and_from (leb (n % get_or rs 0 0) (get_or rs 2 0)) _ (le-leb _ _ w.left_to)
    (and_from (leb (get_or rs 3 0) n) (leb n (get_or rs 4 0)) (le-leb _ _ w.from) (le-leb _ _ w.to)))

-- a rule of what is left fits where the same one of the whole does
fits_same : (rs ss : List ℕ) (i j n : ℕ) → 6 * j + 6 ≤ length ss → get_or rs (6 * i) 0 ≡ get_or ss (6 * j) 0 → ((k : ℕ) → get_or rs (6 * i + k) 0 ≡ get_or ss (6 * j + k) 0) → RuleFits rs i n → RuleFits ss j n
fits_same rs ss i j n l z q w =
    let m : n % get_or rs (6 * i) 0 ≡ n % get_or ss (6 * j) 0 = ap (λ (x : ℕ). n % x) z in
    record { whole = l; left_from = omega (arith, w.left_from, q 1); left_to = omega (arith, w.left_to, q 2); from = omega (arith, w.from, q 3); to = omega (arith, w.to, q 4) }

later_fits : (rs : List ℕ) (j n : ℕ) → 6 ≤ length rs → RuleFits (drop 6 rs) j n → RuleFits rs (suc j) n
later_fits rs j n l w = fits_same (drop 6 rs) rs j (suc j) n (omega (arith, w.whole, length-drop 6 rs)) (at_later_0 rs j) (at_later rs j) w

fits_later : (rs : List ℕ) (j n : ℕ) → RuleFits rs (suc j) n → RuleFits (drop 6 rs) j n
fits_later rs j n w = fits_same rs (drop 6 rs) (suc j) j n (omega (arith, w.whole, length-drop 6 rs)) (sym (at_later_0 rs j)) (λ k. sym (at_later rs j k)) w

-- the class is that of the first rule that fits
words_later : (rs : List ℕ) (n k : ℕ) → 6 ≤ length rs → fits (rule_of rs) n ≡ false → ClassIs (drop 6 rs) n k → ClassIs rs n k
words_later rs n k l h (inl p) = inl (suc p.0, later_fits rs p.0 n l p.1, before, p.3 ∙ at_later rs p.0 5)
  where
    before : (j : ℕ) → j < suc p.0 → RuleFits rs j n → ⊥
    before zero m w = true≢false (sym (words_fit rs n w) ∙ h)
    before (suc j) m w = p.2 j (omega arith) (fits_later rs j n w)
words_later rs n k l h (inr p) = inr (none, p.1)
  where
    none : (j : ℕ) → RuleFits rs j n → ⊥
    none zero w = true≢false (sym (words_fit rs n w) ∙ h)
    none (suc j) w = p.0 j (fits_later rs j n w)

words_on : (rs : List ℕ) (n : ℕ) → 6 ≤ length rs → class_in rs n ≡ cond (fits (rule_of rs) n) (get_or rs 5 0) (class_in (drop 6 rs) n) → ClassIs (drop 6 rs) n (class_in (drop 6 rs) n) → ClassIs rs n (class_in rs n)
words_on rs n l q later =
    subst (ClassIs rs n) (sym q)
    (cond_both (fits (rule_of rs) n) (get_or rs 5 0) (class_in (drop 6 rs) n) (ClassIs rs n)
    (λ h. inl (0, fits_words rs n l h, (λ j m w. absurd (omega arith)), refl))
    (λ h. words_later rs n (class_in (drop 6 rs) n) l h later))

words_off : (rs : List ℕ) (n : ℕ) → length rs < 6 → class_in rs n ≡ 5 → ClassIs rs n (class_in rs n)
words_off rs n l q = inr ((λ i w. absurd (omega (arith, w.whole))), q)

pub class_words : (rs : List ℕ) (n : ℕ) → ClassIs rs n (class_in rs n)
unfolding class_in rules_in class_by
class_words [] n = words_off [] n (omega arith) refl
class_words (a ∷ []) n = words_off (a ∷ []) n (omega arith) refl
class_words (a ∷ b ∷ []) n = words_off (a ∷ b ∷ []) n (omega arith) refl
class_words (a ∷ b ∷ c ∷ []) n = words_off (a ∷ b ∷ c ∷ []) n (omega arith) refl
class_words (a ∷ b ∷ c ∷ d ∷ []) n = words_off (a ∷ b ∷ c ∷ d ∷ []) n (omega arith) refl
class_words (a ∷ b ∷ c ∷ d ∷ e ∷ []) n = words_off (a ∷ b ∷ c ∷ d ∷ e ∷ []) n (omega arith) refl
class_words (a ∷ b ∷ c ∷ d ∷ e ∷ f ∷ rs) n = words_on (a ∷ b ∷ c ∷ d ∷ e ∷ f ∷ rs) n (omega arith) refl (class_words rs n)

pub words_at : (rs : List ℕ) (n k : ℕ) → k ≡ class_in rs n → ClassIs rs n k
words_at rs n k q = subst (ClassIs rs n) (sym q) (class_words rs n)

-- and no other class is
one_class : (rs : List ℕ) (n k m : ℕ) → ClassIs rs n k → ClassIs rs n m → k ≡ m
one_class rs n k m (inl p) (inl q) =
    elim (cases_order p.0 q.0) [
      | inl e ↦ p.3 ∙ ap (λ (i : ℕ). get_or rs (6 * i + 5) 0) e ∙ sym q.3
      | inr (inl l) ↦ absurd (q.2 p.0 l p.1)
      | inr (inr l) ↦ absurd (p.2 q.0 l q.1)
    ]
one_class rs n k m (inl p) (inr q) = absurd (q.0 p.0 p.1)
one_class rs n k m (inr p) (inl q) = absurd (p.0 q.0 q.1)
one_class rs n k m (inr p) (inr q) = p.1 ∙ sym q.1

pub class_only : (rs : List ℕ) (n k : ℕ) → ClassIs rs n k → k ≡ class_in rs n
class_only rs n k h = one_class rs n k (class_in rs n) h (class_words rs n)
