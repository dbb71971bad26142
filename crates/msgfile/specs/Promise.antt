-- What is promised of message files. Each is a statement, a type whose proof is owed by the function that names it. Assumes nothing.
use Rattle.std.specs.Prelude.{◌≡◌, ℕ, ◌<◌, ◌≤◌, List, length, Ok, slice_index}
use Rattle.msgfile.specs.Numbers.{numbers_in, written}

-- code that is written as text is read back
abbrev pub WrittenBack : Type 0
WrittenBack = (ns : List ℕ) → ((i : ℕ) → i < length ns → slice_index ns i ≤ 255) → numbers_in (written ns) ≡ Ok ns
