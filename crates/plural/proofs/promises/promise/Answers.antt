use Rattle.plural.proofs.Classed.{class_words, class_only}
use Rattle.plural.proofs.Ruled.{classes_below_six}
use Rattle.plural.proofs.Written.{figures_figured, figures_only, figures_back}
use Rattle.plural.proofs.promises.promise.Goals as goal

pub returns : goal.returns
returns _ =
    record {
      figures_exactly = λ n l. (figures_figured n l, λ ds h. figures_only n ds l h);
      figures_read_back = figures_back;
      classes_below_six = classes_below_six;
      class_exactly = λ rs n. (class_words rs n, class_only rs n);
    }
