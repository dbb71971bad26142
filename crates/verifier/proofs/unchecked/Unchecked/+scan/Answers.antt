use Rattle.std.proofs.Common.{rules}
use Rattle.verifier.proofs.Scans.{went_on}
use Rattle.verifier.proofs.unchecked.Unchecked.+scan.Goals as goal

pub scan-requires : goal.scan-requires
scan-requires t c = let w = went_on c.args.self.now.kinds.now c.args.self.now.code.bytes.now (search rules) in search rules
