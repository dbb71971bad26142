-- The numbers of a text, byte by byte, and that written code is read back. Assumes nothing.
use Rattle.std.proofs.Common.{◌≡◌, ℕ, suc, ◌+◌, ◌-◌, ◌*◌, ◌/◌, ◌%◌, ◌<◌, ◌≤◌, List, [], ◌∷◌, ◌++◌, length, get_or, drop, Some, None, Ok, Err, Option, Result, sym, refl, ap, ◌∙◌, inl, inr, append_assoc, arith, length-drop}
use Rattle.std.proofs.lemmas.List.{drop_more, drop_all}
use Rattle.std.proofs.lemmas.Bool.{cases_lt}
use Rattle.std.proofs.lemmas.Bool.Decides.{nat_tests}
use Rattle.plural.specs.Figures.{figures}
use Rattle.plural.proofs.Written.{figures_digit, figures_step}
use Rattle.msgfile.specs.declared.numbers.Place as place
use Rattle.msgfile.specs.Numbers.{feed, ended, with, going_on, numbers_from, numbers_in, written}

with_with : (a b : List ℕ) (r : Result (List ℕ) ℕ) → with a (with b r) ≡ with (a ++ b) r
with_with a b (Ok ns) = ap Ok (sym (append_assoc a b ns))
with_with a b (Err k) = refl

from_cons : (p : place.Place) (b : ℕ) (bs : List ℕ) → numbers_from p (b ∷ bs) ≡ going_on (λ q. numbers_from q bs) (length (b ∷ bs)) p (feed p b)
unfolding numbers_from
from_cons p b bs = refl

-- what is read so far, and then a byte that belongs
pub numbers_more : (ns : List ℕ) (p q : place.Place) (bs : List ℕ) (i : ℕ) → i < length bs → feed p (get_or bs i 0) ≡ Some q → with ns (numbers_from p (drop i bs)) ≡ with (ns ++ ended p q) (numbers_from q (drop (i + 1) bs))
numbers_more ns p q bs i l h =
    ap (λ (cs : List ℕ). with ns (numbers_from p cs)) (drop_more bs i 0 l) ∙ ap (with ns) (from_cons p (get_or bs i 0) (drop (i + 1) bs))
    ∙ ap (λ (o : Option place.Place). with ns (going_on (λ q. numbers_from q (drop (i + 1) bs)) (length (get_or bs i 0 ∷ drop (i + 1) bs)) p o)) h
    ∙ with_with ns (ended p q) (numbers_from q (drop (i + 1) bs))

-- or one that doesn't
pub numbers_stop : (ns : List ℕ) (p : place.Place) (bs : List ℕ) (i : ℕ) → i < length bs → feed p (get_or bs i 0) ≡ None → with ns (numbers_from p (drop i bs)) ≡ Err (length bs - i)
numbers_stop ns p bs i l h =
    let n : length (get_or bs i 0 ∷ drop (i + 1) bs) ≡ length bs - i = omega (arith, length-drop (i + 1) bs) in
    ap (λ (cs : List ℕ). with ns (numbers_from p cs)) (drop_more bs i 0 l) ∙ ap (with ns) (from_cons p (get_or bs i 0) (drop (i + 1) bs))
    ∙ ap (λ (o : Option place.Place). with ns (going_on (λ q. numbers_from q (drop (i + 1) bs)) (length (get_or bs i 0 ∷ drop (i + 1) bs)) p o)) h ∙ ap Err n

-- or the end of the text
pub numbers_end : (ns : List ℕ) (p : place.Place) (bs : List ℕ) (i : ℕ) → length bs ≤ i → with ns (numbers_from p (drop i bs)) ≡ Ok (ns ++ ended p place.TheVariants.Between)
unfolding numbers_from
numbers_end ns p bs i l = ap (λ (cs : List ℕ). with ns (numbers_from p cs)) (drop_all i bs l)

-- a figure begins a number, or goes on with it; a space ends it
begins_number : (b : ℕ) → 48 ≤ b → b ≤ 57 → feed place.TheVariants.Between b ≡ Some (place.TheVariants.Number (b - 48))
begins_number b l m = grind (arith, nat_tests)

goes_on_number : (n b : ℕ) → 48 ≤ b → b ≤ 57 → 10 * n + (b - 48) ≤ 255 → feed (place.TheVariants.Number n) b ≡ Some (place.TheVariants.Number (10 * n + (b - 48)))
goes_on_number n b l m k = grind (arith, nat_tests)

-- figures are read as their number
abbrev FiguredAs : ℕ → Type 0
FiguredAs n = (bs : List ℕ) → numbers_from place.TheVariants.Between (figures n ++ bs) ≡ numbers_from (place.TheVariants.Number n) bs

no_end : (r : Result (List ℕ) ℕ) → with [] r ≡ r
no_end (Ok ns) = refl
no_end (Err k) = refl

one_figure : (n : ℕ) → n < 10 → FiguredAs n
one_figure n l bs =
    let e : 48 + n - 48 ≡ n = omega arith in
    ap (λ (ds : List ℕ). numbers_from place.TheVariants.Between (ds ++ bs)) (figures_digit n l)
    ∙ from_cons place.TheVariants.Between (48 + n) bs
    ∙ ap (going_on (λ q. numbers_from q bs) (length ((48 + n) ∷ bs)) place.TheVariants.Between) (begins_number (48 + n) (omega arith) (omega arith))
    ∙ no_end (numbers_from (place.TheVariants.Number (48 + n - 48)) bs) ∙ ap (λ (m : ℕ). numbers_from (place.TheVariants.Number m) bs) e

more_figures : (n : ℕ) → 10 ≤ n → n ≤ 255 → FiguredAs (n / 10) → FiguredAs n
more_figures n l m h bs =
    let d : ℕ = 48 + n % 10 in
    let e : 10 * (n / 10) + (d - 48) ≡ n = omega arith in
    ap (λ (ds : List ℕ). numbers_from place.TheVariants.Between (ds ++ bs)) (figures_step n l (omega arith))
    ∙ ap (numbers_from place.TheVariants.Between) (append_assoc (figures (n / 10)) (d ∷ []) bs)
    ∙ h (d ∷ bs)
    ∙ from_cons (place.TheVariants.Number (n / 10)) d bs
    ∙ ap (going_on (λ q. numbers_from q bs) (length (d ∷ bs)) (place.TheVariants.Number (n / 10))) (goes_on_number (n / 10) d (omega arith) (omega arith) (omega arith))
    ∙ no_end (numbers_from (place.TheVariants.Number (10 * (n / 10) + (d - 48))) bs) ∙ ap (λ (k : ℕ). numbers_from (place.TheVariants.Number k) bs) e

figured : (n : ℕ) → n ≤ 255 → FiguredAs n
figured n l =
    elim (cases_lt n 10) [
      | inl s ↦ one_figure n s
      | inr s ↦ elim (cases_lt (n / 10) 10) [
        | inl t ↦ more_figures n s l (one_figure (n / 10) t)
        | inr t ↦ more_figures n s l (more_figures (n / 10) t (omega arith) (one_figure (n / 10 / 10) (omega arith)))
      ]
    ]

pub written_back : (ns : List ℕ) → ((i : ℕ) → i < length ns → get_or ns i 0 ≤ 255) → numbers_in (written ns) ≡ Ok ns
unfolding written numbers_from
written_back [] h = refl
written_back (n ∷ ns) h =
    figured n (h 0 (omega arith)) (32 ∷ written ns) ∙ ap (with (n ∷ [])) (written_back ns (λ i l. h (suc i) (omega arith)))
