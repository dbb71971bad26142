-- The kinds of what a message is told, by their numbers. Assumes nothing: these are definitions.
use Rattle.std.specs.Prelude.{◌≡◌, ℕ, ◌<◌, Ok, Err, Result}
use Rattle.code.specs.declared.kind.Kind.{Kind}
use Rattle.code.specs.declared.kind.Kind.TheVariants.{Text, Number}
use Rattle.code.specs.declared.kind.UnknownKind.{UnknownKind}

-- 0 a text, 1 a number
abbrev pub number_of_kind : Kind → ℕ
number_of_kind Text = 0
number_of_kind Number = 1

-- a byte is read as the kind of that number; one above 1 is none
abbrev pub Reads : ℕ → Result Kind UnknownKind → Type 0
Reads b (Ok k) = b ≡ number_of_kind k
Reads b (Err e) = (1 < b) × (e.0 ≡ b)
