use Rattle.std.proofs.Common.{◌≡◌, drop, vec_items}
use Rattle.msgfile.specs.Numbers.{with, numbers_from, numbers_in}
use Rattle.msgfile.proofs.numbers.read_numbers.Given as goal

abbrev pub invariant-loop-at : goal.invariant-loop-at
invariant-loop-at l = numbers_in l.text ≡ with (vec_items l.code) (numbers_from l.place (drop l.at l.text))
