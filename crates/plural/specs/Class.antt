-- The class of a number in words: that of the first rule that fits. Assumes nothing: these are definitions.
use Rattle.std.specs.Prelude.{◌≡◌, ℕ, ◌+◌, ◌*◌, ◌%◌, ◌<◌, ◌≤◌, ◌⊎◌, List, length, slice_index, slice_index_or}
use Rattle.plural.specs.Rules.{Rule}

-- the rule that the first six numbers of a list make
abbrev pub rule_of : List ℕ → Rule
rule_of rs = record { modulus = slice_index rs 0; left_from = slice_index rs 1; left_to = slice_index rs 2; from = slice_index rs 3; to = slice_index rs 4; class = slice_index rs 5 }

-- rule i is whole and fits a number: what its modulus leaves of it lies in the first range, and the number itself in the second
pub record RuleFits (rs : List ℕ) (i n : ℕ) : Type 0 where
  pub whole : 6 * i + 6 ≤ length rs
  pub left_from : slice_index_or rs (6 * i + 1) 0 ≤ n % slice_index rs (6 * i)
  pub left_to : n % slice_index rs (6 * i) ≤ slice_index rs (6 * i + 2)
  pub from : slice_index_or rs (6 * i + 3) 0 ≤ n
  pub to : n ≤ slice_index rs (6 * i + 4)

-- a class is that of the first rule that fits: a rule fits, none before it does, and it has that class; or no rule fits, and the class is 5
abbrev pub ClassIs : List ℕ → ℕ → ℕ → Type 0
ClassIs rs n k =
    ((i : ℕ) × RuleFits rs i n × ((j : ℕ) → j < i → RuleFits rs j n → ⊥) × (k ≡ slice_index rs (6 * i + 5)))
    ⊎ (((i : ℕ) → RuleFits rs i n → ⊥) × (k ≡ 5))
