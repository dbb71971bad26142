use Rattle.std.proofs.Common.{[], arith}
use Rattle.code.specs.Step.{decode}
use Rattle.code.proofs.Exact.{first_bad_words, good_words, good_test}
use Rattle.code.proofs.Rowwise.{by_rows}
use Rattle.code.proofs.Theorems.{added_behind, more_budget, never_stuck, not_too_long, only_classes, resumes}
use Rattle.code.proofs.Ways.{said_on_way}
use Rattle.code.proofs.Whole.{decode_reads, widens_by}
use Rattle.code.proofs.Widening.{good_kept, run_kept, met_kept}
use Rattle.code.proofs.promises.promise.Goals as goal

pub returns : goal.returns
returns _ =
    record {
      never_stuck = λ ks c e b g f six l. never_stuck decode b ks c [] e g f six l;
      more_budget = λ e s a b l h. more_budget decode e s a b l h;
      resumes = λ e s a b. resumes decode e s a b;
      not_too_long = λ c e b m u l short q. let h = not_too_long decode decode_reads b c [] e m u l short q in omega (arith, h);
      only_classes = λ s e f b a. only_classes decode b s e f a;
      added_behind = λ ks c d e b g. added_behind decode decode_reads b ks c d [] e g;
      said_on_way = λ ks c e b g f six l. said_on_way decode b ks c [] e g f six l;
      good_exactly = λ ks c. (good_words c ks, good_test c ks);
      first_bad = λ ks c l g. first_bad_words c ks l g;
      kept = λ old new w ks c g. (good_kept old new w ks c g, λ b e. run_kept old new w ks b c [] e g, λ b y. met_kept old new w ks b c y g);
      rows_widen = widens_by;
      by_table = by_rows;
    }
