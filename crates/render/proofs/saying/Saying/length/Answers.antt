use Rattle.std.proofs.Common.{arith}
use Rattle.render.proofs.Whole.{says_few}
use Rattle.render.proofs.saying.Saying.length.Goals as goal

pub walk-requires : goal.walk-requires
walk-requires c = omega (arith, says_few c.args.self.env c.args.self.left.bytes.now c.args.self.good, c.args.self.short)
