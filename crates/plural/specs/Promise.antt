-- What is promised of figures and classes. Each is a statement, a type whose proof is owed by the function that names it. Assumes nothing.
use Rattle.std.specs.Prelude.{◌≡◌, ℕ, ◌^◌, ◌<◌, List, Some, None}
use Rattle.plural.specs.Class.{ClassIs}
use Rattle.plural.specs.Figures.{figures, Figured, number_in}
use Rattle.plural.specs.Rules.{class_in, rules_fault}

-- figures are those of their number, and no others are
abbrev pub FiguresExactly : Type 0
FiguresExactly = (n : ℕ) → n < 2 ^ 64 → Figured n (figures n) × ((ds : List ℕ) → Figured n ds → ds ≡ figures n)

-- the figures of a number are read as that number
abbrev pub FiguresReadBack : Type 0
FiguresReadBack = (n : ℕ) → n < 2 ^ 64 → number_in (figures n) ≡ Some n

-- rules that pass put every number in a class below 6
abbrev pub ClassesBelowSix : Type 0
ClassesBelowSix = (rs : List ℕ) → rules_fault rs ≡ None → (n : ℕ) → class_in rs n < 6

-- the class of a number is that of the first rule that fits, and no other is
abbrev pub ClassExactly : Type 0
ClassExactly = (rs : List ℕ) (n : ℕ) → ClassIs rs n (class_in rs n) × ((k : ℕ) → ClassIs rs n k → k ≡ class_in rs n)
