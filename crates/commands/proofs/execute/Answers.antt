-- `commands::execute` meets its contract.
use mathlib.Core.Path.{◌≡◌, sym, ◌∙◌}
use native.Mathlib.Omega.{arith}
use mir.Syntax.{w32}
use mir.Val.{to_z, of_z}
use lib.Seq.{length-take-le}
use Rattle.commands.proofs.Served.{short, low, run-printed}
use borrow.Author.Rules.{rules}
use Rattle.commands.proofs.execute.Goals as goal

pub overflow_cast-f : goal.overflow_cast-f
overflow_cast-f c = record { fits = omega (arith, low _ _ _ _ _ _ _ _ c.run-report.ensures) }

pub slice_bounds-output-end : goal.slice_bounds-output-end
slice_bounds-output-end c = omega (arith, short _ _ _ _ _ _ _ _ c.run-report.ensures)

pub slice_bounds-write_output-end : goal.slice_bounds-write_output-end
slice_bounds-write_output-end c = sym (length-take-le _ _ (omega (arith, short _ _ _ _ _ _ _ _ c.run-report.ensures)))

pub returns : goal.returns
returns c =
    let v = c.top.result in
    let e : to_z w32 (of_z w32 v) ≡ v = search rules in
    run-printed _ _ _ _ _ _ _ _ c.run-report.ensures _ _ (to_z w32 (of_z w32 v)) c.requires (omega (arith, short _ _ _ _ _ _ _ _ c.run-report.ensures)) (e ∙ c.top.ensures) c.write_columns-end.ensures
    c.write_output.ensures
