-- Figures: one more step, how many there are, and that they are those of their number. Assumes nothing.
use Rattle.std.proofs.Common.{◌≡◌, ℕ, zero, suc, ◌+◌, ◌-◌, ◌*◌, ◌/◌, ◌%◌, ◌^◌, ◌<◌, ◌≤◌, cond, ltb, List, [], ◌∷◌, ◌++◌, length, drop, get_or, Some, decimal, sym, refl, ap, ◌∙◌, subst, inl, inr, arith, length-append, rules}
use Rattle.std.proofs.Math.Nat.{pow-succ'}
use Rattle.std.specs.Int.{IsInRange}
use Rattle.std.proofs.lemmas.List.{append-nil, drop_all}
use Rattle.std.proofs.lemmas.Bool.{lt-ltb, le-ltb, cases_lt, le-leb, cond_both}
use Rattle.std.proofs.lemmas.Str.Parse.{IsNumeralModel, numerals_by_fold, tells_by_index}
use Rattle.std.proofs.lemmas.Fmt.{AppendsLastDigit, decimal_from_appends, decimal_digit, decimal_step, decimal_nonempty, length-decimal-le, first_decimal, digits_decimal, digits_value-decimal, decimal-digits_value}
use Rattle.plural.specs.Figures.{figures_by, figures, read_on, Figured, figures_on, number_in}

spells : AppendsLastDigit figures_by
unfolding figures_by
spells = record { one = λ k n l. ap (λ b. cond b ((48 + n) ∷ []) (figures_by k (n / 10) ++ ((48 + n % 10) ∷ []))) (lt-ltb n 10 l); more = λ k n l. ap (λ b. cond b ((48 + n) ∷ []) (figures_by k (n / 10) ++ ((48 + n % 10) ∷ []))) (le-ltb n 10 l) }

pub few_decimal : (n : ℕ) → n < 2 ^ 64 → length (decimal n) ≤ 20
few_decimal n l = length-decimal-le 20 n (omega arith) (omega arith) l

pub figures_is : (n : ℕ) → n < 2 ^ 64 → figures n ≡ decimal n
unfolding figures
figures_is n l = decimal_from_appends figures_by spells 20 n l (few_decimal n l)

pub figures_digit : (n : ℕ) → n < 10 → figures n ≡ (48 + n) ∷ []
figures_digit n l = figures_is n (omega arith) ∙ decimal_digit n l

pub figures_step : (n : ℕ) → 10 ≤ n → n < 2 ^ 64 → figures n ≡ figures (n / 10) ++ ((48 + n % 10) ∷ [])
figures_step n l h = figures_is n h ∙ decimal_step n l h ∙ ap (λ (ds : List ℕ). ds ++ ((48 + n % 10) ∷ [])) (sym (figures_is (n / 10) (omega arith)))

pub length_step : (n : ℕ) → 10 ≤ n → n < 2 ^ 64 → length (figures n) ≡ length (figures (n / 10)) + 1
length_step n l h = ap length (figures_step n l h) ∙ length-append (figures (n / 10)) ((48 + n % 10) ∷ [])

-- a number from this power of ten on, and below the next, has a figure more than the power
pub length_power : (k n : ℕ) → n < 2 ^ 64 → 10 ^ k ≤ n → n < 10 * 10 ^ k → length (figures n) ≡ k + 1
length_power zero n l a b = ap length (figures_digit n (omega arith))
length_power (suc k) n l a b =
    let p = pow-succ' 10 k in
    let one : 1 ≤ 10 ^ k = pow_some k in
    omega (arith, length_step n (omega arith) l, length_power k (n / 10) (omega arith) (omega arith) (omega arith))
  where
    pow_some : (k : ℕ) → 1 ≤ 10 ^ k
    pow_some zero = omega arith
    pow_some (suc k) = omega (arith, pow-succ' 10 k, pow_some k)

own : IsNumeralModel (λ ds. (k : ℕ) → k < length ds → IsInRange 48 57 (get_or ds k 0)) (read_on 0)
own = numerals_by_fold _ tells_by_index read_on (search rules)

front_of : (n : ℕ) → n < 2 ^ 64 → 1 < length (decimal n) → 48 < get_or (decimal n) 0 0
front_of zero l h = absurd (omega (arith, ap length (decimal_digit 0 (omega arith))))
front_of (suc n) l h = first_decimal (suc n) (omega arith) l

pub figures_figured : (n : ℕ) → n < 2 ^ 64 → Figured n (figures n)
figures_figured n l =
    subst (Figured n) (sym (figures_is n l))
    (record { some = decimal_nonempty n l; few = few_decimal n l; digits = digits_decimal own n l; value = digits_value-decimal own n l; front = front_of n l })

pub figures_only : (n : ℕ) (ds : List ℕ) → n < 2 ^ 64 → Figured n ds → ds ≡ figures n
figures_only n ds l f =
    let v = f.value in
    let w : read_on 0 ds < 2 ^ 64 = omega arith in
    sym (decimal-digits_value own ds f.digits f.some (λ q. single q) w) ∙ ap decimal v ∙ sym (figures_is n l)
  where
    single : get_or ds 0 0 ≡ 48 → length ds ≡ 1
    single q = elim (cases_lt 1 (length ds)) [ inl m ↦ absurd (omega (arith, f.front m)) | inr m ↦ omega (arith, f.some) ]

by_few : (f n : ℕ) → length (figures_by f n) ≤ f
unfolding figures_by
by_few zero n = omega arith
by_few (suc f) n =
    cond_both (ltb n 10) ((48 + n) ∷ []) (figures_by f (n / 10) ++ ((48 + n % 10) ∷ [])) (λ (ds : List ℕ). length ds ≤ suc f) (λ _. omega arith)
    (λ _. omega (arith, by_few f (n / 10), length-append (figures_by f (n / 10)) ((48 + n % 10) ∷ [])))

-- whatever the number
pub figures_at_most : (n : ℕ) → length (figures n) ≤ 20
unfolding figures
figures_at_most n = by_few 20 n

-- written up to a buffer's end, nothing stands behind them
pub ends_figures : (n at : ℕ) (to made : List ℕ) → n < 2 ^ 64 → length to ≤ 20 → drop at made ≡ decimal n ++ drop 20 to → drop at made ≡ figures n
ends_figures n at to made l m d = d ∙ ap (λ (ds : List ℕ). decimal n ++ ds) (drop_all 20 to m) ∙ append-nil (decimal n) ∙ sym (figures_is n l)

-- one figure more, or none
pub on_figure : (n c : ℕ) (cs : List ℕ) → 48 ≤ c → c ≤ 57 → 10 * n + (c - 48) < 18446744073709551616 → figures_on n (c ∷ cs) ≡ figures_on (10 * n + (c - 48)) cs
unfolding figures_on
on_figure n c cs a b l = rw (le-leb 48 c a, le-leb c 57 b, lt-ltb (10 * n + (c - 48)) 18446744073709551616 l) refl

pub on_none : (n : ℕ) → figures_on n [] ≡ Some n
unfolding figures_on
on_none n = refl

pub read_some : (ds : List ℕ) → 0 < length ds → number_in ds ≡ figures_on 0 ds
unfolding number_in
read_some [] l = absurd (omega arith)
read_some (c ∷ cs) l = refl

-- figures whose number stays below 2^64 are read as it
read_grows : (n : ℕ) (ds : List ℕ) → n ≤ read_on n ds
read_grows n [] = omega arith
read_grows n (c ∷ cs) = omega (arith, read_grows (10 * n + (c - 48)) cs)

on_all : (n : ℕ) (ds : List ℕ) → ((k : ℕ) → k < length ds → (48 ≤ get_or ds k 0) × (get_or ds k 0 ≤ 57)) → read_on n ds < 18446744073709551616 → figures_on n ds ≡ Some (read_on n ds)
on_all n [] h l = on_none n
on_all n (c ∷ cs) h l =
    let d = h 0 (omega arith) in
    on_figure n c cs d.0 d.1 (omega (arith, read_grows (10 * n + (c - 48)) cs)) ∙ on_all (10 * n + (c - 48)) cs (λ k m. h (suc k) (omega arith)) l

pub figures_back : (n : ℕ) → n < 2 ^ 64 → number_in (figures n) ≡ Some n
figures_back n l =
    let f = figures_figured n l in
    read_some (figures n) f.some ∙ on_all 0 (figures n) f.digits (omega (arith, f.value)) ∙ ap Some f.value
