use Rattle.std.proofs.Common.{◌≡◌, length}
use Rattle.msgfile.specs.Text.{uncommented}
use Rattle.msgfile.proofs.words.skip_comments.Given as goal

abbrev pub invariant-loop-byte : goal.invariant-loop-byte
invariant-loop-byte l = uncommented l.left ≡ uncommented l.text

abbrev pub decreases-loop-byte : goal.decreases-loop-byte
decreases-loop-byte l = length l.left
