-- A locale by the rules that it borrows. Assumes nothing: these are definitions.
use Rattle.std.specs.Prelude.{ℕ, List}
use Rattle.plural.specs.declared.locale.Locale.{Locale}

-- a locale's rules
abbrev pub rules_of : Locale → List ℕ
rules_of l = l.rules.now
