use Rattle.std.proofs.Common.{◌≡◌}
use Rattle.plural.proofs.Ruled.{Tested}
use Rattle.plural.proofs.locale.Locale.check.Given as goal

abbrev pub invariant-loop-at : goal.invariant-loop-at
invariant-loop-at l = (l.at-iterator.iter.size ≡ 6) × Tested l.rules l.at-iterator.count l.at-iterator.iter.rest.now
