-- A number in figures, and figures read back. Assumes nothing: these are definitions.
use Rattle.std.specs.Prelude.{◌≡◌, ℕ, zero, suc, ◌+◌, ◌-◌, ◌*◌, ◌/◌, ◌%◌, ◌<◌, ◌≤◌, cond, ◌&&◌, List, [], ◌∷◌, ◌++◌, length, Some, None, Option, nat_le, nat_lt, slice_index}

-- a number in figures, at most so many: the last figure stands behind those of the tenth part
unfoldable pub figures_by : ℕ → ℕ → List ℕ
figures_by zero n = []
figures_by (suc f) n = cond (nat_lt n 10) ((48 + n) ∷ []) (figures_by f (n / 10) ++ ((48 + n % 10) ∷ []))

-- twenty are enough for the numbers told, which are below 2^64
unfoldable pub figures : ℕ → List ℕ
figures n = figures_by 20 n

-- the number that figures write, behind those of another
abbrev pub read_on : ℕ → List ℕ → ℕ
read_on n [] = n
read_on n (c ∷ cs) = read_on (10 * n + (c - 48)) cs

-- figures: each is one of 0 to 9, they read back as the number, and a nought stands in front of no other figure
pub record Figured (n : ℕ) (ds : List ℕ) : Type 0 where
  pub some : 0 < length ds
  pub few : length ds ≤ 20
  pub digits : (k : ℕ) → k < length ds → (48 ≤ slice_index ds k) × (slice_index ds k ≤ 57)
  pub value : read_on 0 ds ≡ n
  pub front : 1 < length ds → 48 < slice_index ds 0

-- figures read from the front, behind a number that was read: each is one of 0 to 9, and the number stays below 2^64
unfoldable pub figures_on : ℕ → List ℕ → Option ℕ
figures_on n [] = Some n
figures_on n (c ∷ cs) = cond (nat_le 48 c && (nat_le c 57 && nat_lt (10 * n + (c - 48)) 18446744073709551616)) (figures_on (10 * n + (c - 48)) cs) None

-- the number that a word of figures writes; noughts in front are read too
unfoldable pub number_in : List ℕ → Option ℕ
number_in [] = None
number_in (c ∷ cs) = figures_on 0 (c ∷ cs)
