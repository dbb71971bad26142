-- What reading answers, against what a definition says of the text. Assumes nothing: these are definitions.
use Rattle.std.specs.Prelude.{◌≡◌, ℕ, ◌≤◌, List, vec_items, Ok, Err, Result}
use Rattle.std.specs.declared.vec.Vec.{Vec}
use Rattle.std.specs.declared.alloc.Global.{Global}
use denote.Ref.{Bor}
use Rattle.msgfile.specs.declared.error.Expected.{Expected}
use Rattle.msgfile.specs.declared.error.Expected.TheVariants.{Number}
use Rattle.msgfile.specs.declared.error.ReadError as error
use Rattle.code.specs.Kinds.{number_of_kind}
use Rattle.code.specs.declared.kind.Kind.{Kind}

-- what is read is answered; or what is expected, and how much of the text is left there; want of memory may always come
abbrev pub Reads : Result (Vec ℕ Global) error.ReadError → Result (List ℕ) (Expected × ℕ) → Type 0
Reads (Ok v) r = r ≡ Ok (vec_items v)
Reads (Err (error.TheVariants.Wrong e n)) r = r ≡ Err (e, n)
Reads (Err error.TheVariants.Memory) r = Unit {0}

-- numbers are expected all along
abbrev pub as_numbers : Result (List ℕ) ℕ → Result (List ℕ) (Expected × ℕ)
as_numbers (Ok ns) = Ok ns
as_numbers (Err n) = Err (Number, n)

-- one thing's kind, and what is left behind it
abbrev pub ThingRead : Result (Kind × Bor (List ℕ)) error.ReadError → Result (ℕ × List ℕ) (Expected × ℕ) → Type 0
ThingRead (Ok t) r = r ≡ Ok (number_of_kind t.0, t.1.now)
ThingRead (Err (error.TheVariants.Wrong e n)) r = r ≡ Err (e, n)
ThingRead (Err error.TheVariants.Memory) r = ⊥

-- a fault lies within a text of so many bytes
abbrev pub LeftWithin : {A : Type 0} → ℕ → Result A error.ReadError → Type 0
LeftWithin n (Ok x) = Unit {0}
LeftWithin n (Err (error.TheVariants.Wrong e k)) = k ≤ n
LeftWithin n (Err error.TheVariants.Memory) = Unit {0}
