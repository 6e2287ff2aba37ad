-- `write_fields` meets its contract.
use mathlib.Core.Path.{◌∙◌}
use mir.Syntax.{w32}
use mir.Facts.{to_z-of_z}
use Rattle.columns.proofs.Printed.{all-fields, truth-bit}
use Rattle.columns.proofs.write_fields.Goals as goal

pub returns : goal.returns
returns c =
    -- what a struct tells of its sixth field
    let known = c.struct_told-1.given.1.1.1.1.1.0 in
    let fits = to_z-of_z {w = w32} {z = c.args.f.top} (record { sfits = known.1 }) in
    (all-fields c.args.text.now c.args.f c.requires (c.from.ensures ∙ truth-bit c.args.f.truth) c.write_number-at.ensures c.write_number-at-2.ensures
    c.write_number-at-3.ensures c.write_number-at-4.ensures c.write_number-at-5.ensures (rw fits at c.write_value-at.ensures) c.write_bytes.ensures).same
