-- `rec::steps::run` meets its contract.
use Rattle.runner.proofs.Figures.{returned-all}
use Rattle.rec.proofs.steps.run.Goals as goal

pub returns : goal.returns
returns c = (returned-all _ _ _ _ _ _ c.rec_lent_run.ensures, tt)
