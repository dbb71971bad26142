-- Code as text: numbers from 0 to 255 with spaces or comments between. Assumes nothing: these are definitions.
use Rattle.std.specs.Prelude.{ℕ, ◌+◌, ◌-◌, ◌*◌, Bool, cond, ◌&&◌, List, [], ◌∷◌, ◌++◌, length, Some, None, Ok, Err, Option, Result, ◌==◌, nat_le}
use Rattle.plural.specs.Figures.{figures}
use Rattle.msgfile.specs.Text.{space}
use Rattle.msgfile.specs.declared.numbers.Place as place

-- a figure, 0 to 9
abbrev pub digit : ℕ → Bool
digit b = nat_le 48 b && nat_le b 57

-- one byte more: between numbers or behind a comment a number may begin; a number ends at a space or a comment, and stays below 256. Nothing, if the byte doesn't belong there
abbrev pub feed : place.Place → ℕ → Option place.Place
feed place.TheVariants.Between b =
    cond (space b) (Some place.TheVariants.Between)
    (cond (b == 35) (Some place.TheVariants.Comment)
    (cond (digit b) (Some (place.TheVariants.Number (b - 48))) None))
feed (place.TheVariants.Number n) b =
    cond (space b) (Some place.TheVariants.Between)
    (cond (b == 35) (Some place.TheVariants.Comment)
    (cond (digit b && nat_le (10 * n + (b - 48)) 255) (Some (place.TheVariants.Number (10 * n + (b - 48)))) None))
feed place.TheVariants.Comment b = cond (b == 10) (Some place.TheVariants.Between) (Some place.TheVariants.Comment)

-- the number that ends where the reading goes on to another place
abbrev pub ended : (from to : place.Place) → List ℕ
ended place.TheVariants.Between q = []
ended (place.TheVariants.Number n) place.TheVariants.Between = n ∷ []
ended (place.TheVariants.Number n) (place.TheVariants.Number m) = []
ended (place.TheVariants.Number n) place.TheVariants.Comment = n ∷ []
ended place.TheVariants.Comment q = []

-- numbers before those that are read; a fault stays a fault
abbrev pub with : {E : Type 0} → List ℕ → Result (List ℕ) E → Result (List ℕ) E
with ns (Ok ms) = Ok (ns ++ ms)
with ns (Err k) = Err k

-- what comes of a byte: a fault with so much left, or the number that it ends and then the rest
abbrev pub going_on : (place.Place → Result (List ℕ) ℕ) → ℕ → place.Place → Option place.Place → Result (List ℕ) ℕ
going_on on k p None = Err k
going_on on k p (Some q) = with (ended p q) (on q)

-- the numbers of a text, or how much of it is left where a byte doesn't belong; the end of the text ends a number as a space does
unfoldable pub numbers_from : place.Place → List ℕ → Result (List ℕ) ℕ
numbers_from p [] = Ok (ended p place.TheVariants.Between)
numbers_from p (b ∷ bs) = going_on (λ q. numbers_from q bs) (length (b ∷ bs)) p (feed p b)

-- the numbers of a whole text
abbrev pub numbers_in : List ℕ → Result (List ℕ) ℕ
numbers_in bs = numbers_from place.TheVariants.Between bs

-- code written as such a text
unfoldable pub written : List ℕ → List ℕ
written [] = []
written (n ∷ ns) = figures n ++ (32 ∷ written ns)
