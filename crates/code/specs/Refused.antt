-- The number and the place of each refusal. Assumes nothing: these are definitions.
use Rattle.std.specs.Prelude.{ℕ}
use Rattle.code.specs.declared.refusal.Refusal.{Refusal}
use Rattle.code.specs.declared.refusal.Refusal.TheVariants.{LongCode, ManyKinds, Kind, Step, Rule, Argument}
use Rattle.code.specs.declared.said.Said as said

-- 1 a limit; 2 a kind; 3 code that isn't good; 4 the rules; 5 the things told
abbrev pub number_of : Refusal → ℕ
number_of LongCode = 1
number_of ManyKinds = 1
number_of (Kind at) = 2
number_of (Step at) = 3
number_of (Rule at) = 4
number_of (Argument at) = 5

-- which limit: 0 the code, 1 the kinds; which kind; the byte at which the step begins; which rule; which thing
abbrev pub place_of : Refusal → ℕ
place_of LongCode = 0
place_of ManyKinds = 1
place_of (Kind at) = at
place_of (Step at) = at
place_of (Rule at) = at
place_of (Argument at) = at

-- the entries answer the number alone
abbrev pub refused_as : Refusal → said.Said
refused_as f = said.TheVariants.Refused (number_of f)
