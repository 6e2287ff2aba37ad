-- `admission::View::run` meets its contract.
use Rattle.book.specs.Refusals.{role_tests, closing}
use Rattle.book.proofs.Refusals.{first-after}
use mathlib.Core.Path.{◌∙◌}
use Rattle.admission.specs.Admission.{with_cells, run_by}
use Rattle.admission.proofs.View.run.Goals as goal

pub returns-clause-decides : goal.returns-clause-decides
returns-clause-decides c =
    λ cells. let a = c.args in
    let v = with_cells a.self cells in
    first-after (role_tests v a.letter a.role) (closing v (run_by a.letter a.role a.inputs.now a.list.now)) (c.in_ok-caller.ensures.decides cells)
    ∙ c.closing.ensures cells a.self.vars.now
