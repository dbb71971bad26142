use Rattle.std.proofs.Common.{get_or, refl, arith, rules, ltb-false, ltb-true}
use Rattle.code.proofs.Reading.{reads_end, reads_letters, reads_argument, reads_unknown, reads_nothing, reads_few, reads_alone}
use Rattle.code.proofs.left.Code.step.Goals as goal
use Rattle.code.proofs.left.Code.step.Goals.{then-bytes-lt2+in_default+else-bytes-lt3, else-bytes-lt2+in_default-1, then-bytes-lt2+in-0-1, else-bytes-lt2+in-0-1, then-bytes-lt1, else-bytes-lt1+then-bytes-lt2+in_default+then-bytes-lt3, in-1+else-n-bytes}

pub returns-in-1 : goal.returns-in-1
returns-in-1 c =
    record {
      step = reads_letters c.args.self.bytes.now (get_or c.args.self.bytes.now 1 0) c.if-n-bytes.true (omega (arith, ltb-true, ltb-false)) refl;
      within = search rules;
    }

pub returns-in-2 : goal.returns-in-2
returns-in-2 c = record { step = reads_argument c.args.self.bytes.now (omega (arith, ltb-true, ltb-false)) (omega (arith, ltb-true, ltb-false)); within = omega (arith, ltb-true, ltb-false) }

pub returns-in-len1-up : goal.returns-in-len1-up
returns-in-len1-up c =
    record {
      step = reads_unknown c.args.self.bytes.now (omega (arith, ltb-true, ltb-false))
          (elim c.in-len1-up-1.branch [ then-bytes-lt2+in_default+else-bytes-lt3 w ↦ omega (arith, ltb-true, ltb-false) | else-bytes-lt2+in_default-1 w ↦ omega (arith, ltb-true, ltb-false) ]);
      within = omega (arith, ltb-true, ltb-false);
    }

pub returns-in-0 : goal.returns-in-0
returns-in-0 c =
    record {
      step = reads_end c.args.self.bytes.now (omega (arith, ltb-true, ltb-false))
          (elim c.in-0-1.branch [ then-bytes-lt2+in-0-1 w ↦ omega (arith, ltb-true, ltb-false) | else-bytes-lt2+in-0-1 w ↦ omega (arith, ltb-true, ltb-false) ]);
      within = omega (arith, ltb-true, ltb-false);
    }

pub returns-in-0-to-2 : goal.returns-in-0-to-2
returns-in-0-to-2 c =
    record {
      step = elim c.in-0-to-2-1.branch [
        | then-bytes-lt1 w ↦ reads_nothing c.args.self.bytes.now (omega (arith, ltb-true, ltb-false))
        | else-bytes-lt1+then-bytes-lt2+in_default+then-bytes-lt3 w ↦
            reads_alone c.args.self.bytes.now (omega (arith, ltb-true, ltb-false)) (omega (arith, ltb-true, ltb-false)) (omega (arith, ltb-true, ltb-false))
        | in-1+else-n-bytes w ↦ reads_few c.args.self.bytes.now (omega (arith, ltb-true, ltb-false)) (omega (arith, ltb-true, ltb-false)) (omega (arith, ltb-true, ltb-false))
      ];
      within = tt;
    }
