use Rattle.std.proofs.Common.{◌≡◌, ◌+◌, ◌≤◌, take}
use Rattle.msgfile.specs.Text.{position_from, start}
use Rattle.msgfile.proofs.position.position_of.Given as goal

abbrev pub invariant-loop-byte : goal.invariant-loop-byte
invariant-loop-byte l =
    record { line : l.position.line ≤ l.byte-index + 1; column : l.position.column ≤ l.byte-index + 1; position : l.position ≡ position_from start (take l.byte-index l.before) }
