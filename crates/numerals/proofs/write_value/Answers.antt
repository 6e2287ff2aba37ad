-- `write_value` meets its contract.
use mathlib.Core.Path.{ap, ◌∙◌}
use mir.Facts.{to_z-of_z}
use Rattle.numerals.specs.Numerals.{written}
use Rattle.numerals.proofs.Decimals.{by-distance}
use Rattle.numerals.proofs.write_value.Goals as goal

pub returns : goal.returns
returns c =
    let fits = to_z-of_z c.ranges.value in
    (rw fits at c.write_number.ensures)
    ∙ ap (written c.args.out.now c.args.at) (by-distance c.args.width c.args.value c.unsigned_abs.result (rw fits at c.unsigned_abs.ensures.value))
