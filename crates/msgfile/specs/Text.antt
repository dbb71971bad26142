-- Text by its bytes: blanks, words, and how long a front of one kind is. Assumes nothing: these are definitions.
use Rattle.std.specs.Prelude.{◌≡◌, ℕ, suc, ◌+◌, Bool, true, false, cond, not, ◌&&◌, ◌||◌, List, [], ◌∷◌, ◌++◌, take, drop, Some, None, Option, ◌==◌, nat_le}
use Rattle.std.specs.Fmt.{decimal}
use Rattle.std.specs.List.{fold, prefix_len}
use Rattle.msgfile.specs.declared.position.Position as position

-- a space, a tab or a carriage return
abbrev pub blank : ℕ → Bool
blank b = b == 32 || (b == 9 || b == 13)

-- a blank or the end of a line
abbrev pub space : ℕ → Bool
space b = blank b || b == 10

-- a byte of a word: neither a space, a comma nor the beginning of a comment
abbrev pub wordy : ℕ → Bool
wordy b = not (space b || (b == 44 || b == 35))

-- a byte of a line, before a comment
abbrev pub lined : ℕ → Bool
lined b = not (b == 10 || b == 35)

-- the end of a line
abbrev pub newline : ℕ → Bool
newline b = b == 10

-- how many bytes at the front pass a test
abbrev pub span : (ℕ → Bool) → List ℕ → ℕ
span p bs = prefix_len p bs

-- a text cut behind its longest front whose bytes pass a test
pub record SplitBy (p : ℕ → Bool) (bs v w : List ℕ) : Type 0 where
  pub front : v ≡ take (span p bs) bs
  pub rest : w ≡ drop (span p bs) bs

-- what stands behind the blanks at the front
abbrev pub unblanked : List ℕ → List ℕ
unblanked bs = drop (span blank bs) bs

-- a comment runs from a # to the end of its line. Whether one goes on behind a byte; none, if the byte is neither a space nor in a comment
abbrev pub skip : (comment : Bool) → ℕ → Option Bool
skip true b = Some (not (b == 10))
skip false b = cond (space b) (Some false) (cond (b == 35) (Some true) None)

-- one byte skipped, and then the others
abbrev pub skip_on : (Bool → ℕ) → Option Bool → ℕ
skip_on on None = 0
skip_on on (Some c) = suc (on c)

-- how many bytes at the front are spaces or comments
unfoldable pub skipped : (comment : Bool) → List ℕ → ℕ
skipped c [] = 0
skipped c (b ∷ bs) = skip_on (λ d. skipped d bs) (skip c b)

-- what stands behind the spaces and comments at the front
abbrev pub uncommented : List ℕ → List ℕ
uncommented bs = drop (skipped false bs) bs

-- lines and columns, counted from 1; a letter of several bytes counts once, by its first byte
abbrev pub moved_on : position.Position → ℕ → position.Position
moved_on p b =
    cond (b == 10) (record { line = p.line + 1; column = 1 })
    (cond (nat_le 128 b && nat_le b 191) p (record { line = p.line; column = p.column + 1 }))

-- the position behind a text
abbrev pub position_from : position.Position → List ℕ → position.Position
position_from p bs = fold moved_on p bs

-- a position as it is printed: the line and the column, with a colon between
abbrev pub shown : position.Position → List ℕ
shown p = decimal p.line ++ (58 ∷ decimal p.column)

-- the position of the first byte
abbrev pub start : position.Position
start = record { line = 1; column = 1 }
