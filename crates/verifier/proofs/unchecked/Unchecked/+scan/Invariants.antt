use Rattle.std.proofs.Common.{length}
use Rattle.verifier.proofs.unchecked.Unchecked.+scan.Given as goal

abbrev pub decreases-scan : goal.decreases-scan
decreases-scan l = length l.self.now.code.bytes.now
