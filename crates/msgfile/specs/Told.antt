-- What a message is told, as a line of text: names with their kinds, and commas between. Assumes nothing: these are definitions.
use Rattle.std.specs.Prelude.{ℕ, zero, suc, cond, List, [], ◌∷◌, length, take, drop, Some, None, Ok, Err, codes, Option, Result, ◌==◌}
use Rattle.std.specs.Str.{bytes_eq}
use Rattle.msgfile.specs.Text.{wordy, span, unblanked}
use Rattle.msgfile.specs.declared.error.Expected.{Expected}
use Rattle.msgfile.specs.declared.error.Expected.TheVariants.{Name, Kind, Comma, Fewer}

-- `text` is kind 0, `number` kind 1
abbrev pub kind_named : List ℕ → Option ℕ
kind_named w = cond (bytes_eq w (codes "text")) (Some 0) (cond (bytes_eq w (codes "number")) (Some 1) None)

-- one thing: a name and a kind, and what stands behind them; or what is expected, and how much is left there
abbrev pub kinded : List ℕ → Option ℕ → Result (ℕ × List ℕ) (Expected × ℕ)
kinded bs None = Err (Kind, length bs)
kinded bs (Some k) = Ok (k, drop (span wordy bs) bs)

-- a kind at the front, by its word
abbrev pub kind_in : List ℕ → Result (ℕ × List ℕ) (Expected × ℕ)
kind_in bs = kinded bs (kind_named (take (span wordy bs) bs))

-- a name at the front, and then its kind
abbrev pub named_in : List ℕ → Result (ℕ × List ℕ) (Expected × ℕ)
named_in bs = cond (span wordy bs == 0) (Err (Name, length bs)) (kind_in (unblanked (drop (span wordy bs) bs)))

-- the same behind blanks
abbrev pub thing_in : List ℕ → Result (ℕ × List ℕ) (Expected × ℕ)
thing_in bs = named_in (unblanked bs)

-- a kind before those that are read
abbrev pub with_kind : ℕ → Result (List ℕ) (Expected × ℕ) → Result (List ℕ) (Expected × ℕ)
with_kind k (Ok ks) = Ok (k ∷ ks)
with_kind k (Err f) = Err f

-- behind a thing stands the end of the line, or a comma and another thing
abbrev pub behind_thing : (List ℕ → Result (List ℕ) (Expected × ℕ)) → List ℕ → Result (List ℕ) (Expected × ℕ)
behind_thing on [] = Ok []
behind_thing on (b ∷ bs) = cond (b == 44) (on bs) (Err (Comma, suc (length bs)))

-- a thing, and then what stands behind it
abbrev pub then_things : (List ℕ → Result (List ℕ) (Expected × ℕ)) → Result (ℕ × List ℕ) (Expected × ℕ) → Result (List ℕ) (Expected × ℕ)
then_things on (Ok p) = with_kind p.0 (behind_thing on (unblanked p.1))
then_things on (Err f) = Err f

-- the kinds of all things, of at most so many
unfoldable pub things_in : ℕ → List ℕ → Result (List ℕ) (Expected × ℕ)
things_in zero bs = Err (Fewer, length bs)
things_in (suc most) bs = then_things (things_in most) (thing_in bs)

-- the kinds that a line tells: far more are read than a message may be told, so that too many are refused as such
abbrev pub told_in : List ℕ → Result (List ℕ) (Expected × ℕ)
told_in bs = cond (length (unblanked bs) == 0) (Ok []) (things_in 256 bs)
