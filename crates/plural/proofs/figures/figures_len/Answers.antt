use Rattle.std.proofs.Common.{length, ap, arith}
use Rattle.plural.proofs.Written.{figures_digit, length_power}
use Rattle.plural.proofs.figures.figures_len.Goals as goal
use Rattle.plural.proofs.figures.figures_len.Goals.{in-0-to-9, in-10-to-99, in_default}

pub returns : goal.returns
returns c =
    elim c.if-n-lt10.branch [
      | in-0-to-9 w ↦ omega (arith, w.others-is, ap length (figures_digit c.args.n (omega arith)))
      | in-10-to-99 w ↦ omega (arith, w.others-is, length_power 1 c.args.n (omega arith) (omega arith) (omega arith))
      | in_default w ↦ omega (arith, w.others-is, length_power w.ilog10.result c.args.n (omega arith) w.ilog10.ensures.power_le w.ilog10.ensures.next_power_gt)
    ]
