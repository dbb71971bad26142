use Rattle.std.proofs.Common.{◌≡◌, ◌-◌, ◌≤◌, length, vec_items}
use Rattle.msgfile.specs.Numbers.{with}
use Rattle.msgfile.specs.Told.{things_in}
use Rattle.msgfile.proofs.told.read_things.Given as goal

abbrev pub invariant-loop : goal.invariant-loop
invariant-loop l =
    record { told : things_in 256 l.line ≡ with (vec_items l.kinds) (things_in (256 - l.counter) l.left); within : length l.left ≤ length l.line }
