-- `write_columns` meets its contract.
use mathlib.Core.Path.{refl, sym, ap, ◌∙◌}
use native.Mathlib.Omega.{arith}
use lib.ListN.{length}
use Rattle.numerals.specs.Numerals.{written}
use Rattle.columns.proofs.Printed.{columns-most, columns-end, columns-lent}
use Rattle.columns.proofs.write_columns.Goals as goal

pub slice_bounds-text-end : goal.slice_bounds-text-end
slice_bounds-text-end c =
    let s = c.args in
    let e = columns-end _ _ _ _ refl c.write_fields-end.ensures in
    omega (arith, columns-most s.f)

pub slice_bounds-write_bytes-end : goal.slice_bounds-write_bytes-end
slice_bounds-write_bytes-end c =
    let e = c.write_fields-end.ensures in
    columns-end _ _ _ _ refl e ∙ ap length (sym (columns-lent _ _ _ _ refl e))

pub returns : goal.returns
returns c =
    let s = c.args in
    c.write_bytes.ensures ∙ ap (written s.out.now s.at) (columns-lent _ _ _ _ refl c.write_fields-end.ensures)
