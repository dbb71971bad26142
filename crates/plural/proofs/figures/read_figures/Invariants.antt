use Rattle.std.proofs.Common.{◌≡◌, drop}
use Rattle.plural.specs.Figures.{figures_on, number_in}
use Rattle.plural.proofs.figures.read_figures.Given as goal

abbrev pub invariant-loop-figure : goal.invariant-loop-figure
invariant-loop-figure l = figures_on l.n (drop l.figure-index l.figures) ≡ number_in l.figures
