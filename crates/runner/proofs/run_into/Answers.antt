-- `runner::run_into` meets its contract: the run's report, figure by figure.
use mathlib.Core.Path.{◌≡◌, refl, ap}
use mathlib.Core.Bool.{Bool, true, false}
use mir.Val.{bool_byte}
use Rattle.runner.specs.Figures.{truth_figure, returned}
use Rattle.runner.proofs.run_into.Goals as goal

figure : (t : Bool) → bool_byte t ≡ truth_figure t
figure true = refl
figure false = refl

pub returns : goal.returns
returns c = rw (c.from.ensures, figure c.run-report.result.truth) (ap returned c.run-report.ensures)
