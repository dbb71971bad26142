-- A message file: what is told, on a line of its own, and then the code. Assumes nothing: these are definitions.
use Rattle.std.specs.Prelude.{◌≡◌, ℕ, ◌+◌, ◌<◌, cond, List, [], length, take, drop, Ok, Err, vec_items, codes, Result}
use Rattle.std.specs.Str.{bytes_eq}
use Rattle.msgfile.specs.Text.{wordy, lined, span, uncommented}
use Rattle.msgfile.specs.Numbers.{numbers_in}
use Rattle.msgfile.specs.Told.{told_in}
use Rattle.msgfile.specs.Read.{as_numbers}
use Rattle.msgfile.specs.declared.error.Expected.{Expected}
use Rattle.msgfile.specs.declared.error.ReadError as error
use Rattle.msgfile.specs.declared.source.Source.{Source}

-- what was expected, with so much more left
abbrev pub further : ℕ → Result (List ℕ) (Expected × ℕ) → Result (List ℕ) (Expected × ℕ)
further n (Ok ks) = Ok ks
further n (Err f) = Err (f.0, f.1 + n)

-- the program's error, moved in the same way
abbrev pub moved : ℕ → error.ReadError → error.ReadError
moved n (error.TheVariants.Wrong e k) = error.TheVariants.Wrong e (k + n)
moved n error.TheVariants.Memory = error.TheVariants.Memory

-- its place, moved, still fits a machine word
abbrev pub RoomFor : ℕ → error.ReadError → Type 0
RoomFor n (error.TheVariants.Wrong e k) = k + n < 18446744073709551616
RoomFor n error.TheVariants.Memory = Unit {0}

-- the kinds and the code, or the first of the two faults
abbrev pub both : (kinds code : Result (List ℕ) (Expected × ℕ)) → Result (List ℕ × List ℕ) (Expected × ℕ)
both (Ok ks) (Ok c) = Ok (ks, c)
both (Ok ks) (Err f) = Err f
both (Err f) c = Err f

-- behind the word `told` its line has the kinds, and what is behind the line is code
abbrev pub told_then : List ℕ → Result (List ℕ × List ℕ) (Expected × ℕ)
told_then bs = both (further (length (drop (span lined bs) bs)) (told_in (take (span lined bs) bs))) (as_numbers (numbers_in (drop (span lined bs) bs)))

-- without that word nothing is told
abbrev pub body_in : List ℕ → Result (List ℕ × List ℕ) (Expected × ℕ)
body_in bs = cond (bytes_eq (take (span wordy bs) bs) (codes "told")) (told_then (drop 4 bs)) (both (Ok []) (as_numbers (numbers_in bs)))

-- a whole file: spaces and comments, and then that
abbrev pub message_in : List ℕ → Result (List ℕ × List ℕ) (Expected × ℕ)
message_in bs = body_in (uncommented bs)

-- what is answered is what the text says; want of memory may always come
abbrev pub FileRead : Result Source error.ReadError → Result (List ℕ × List ℕ) (Expected × ℕ) → Type 0
FileRead (Ok s) (Ok m) = (vec_items s.kinds ≡ m.0) × (vec_items s.code ≡ m.1)
FileRead (Ok s) (Err f) = ⊥
FileRead (Err (error.TheVariants.Wrong e n)) (Ok m) = ⊥
FileRead (Err (error.TheVariants.Wrong e n)) (Err f) = (e ≡ f.0) × (n ≡ f.1)
FileRead (Err error.TheVariants.Memory) m = Unit {0}
