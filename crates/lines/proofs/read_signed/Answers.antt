-- `read_signed` meets its contract.
use mathlib.Core.Path.{◌∙◌}
use mir.Syntax.{w32}
use mir.Facts.{to_z-of_z}
use Rattle.lines.specs.Lines.{input}
use Rattle.lines.proofs.Commands.{signed-at}
use Rattle.lines.proofs.read_signed.Goals as goal

pub returns-in_err-v : goal.returns-in_err-v
returns-in_err-v c = rw c.from_residual.ensures (λ l a x. c.in_err-v.ensures l (input a x c.args.minus))

pub returns : goal.returns
returns c =
    signed-at _ _ _ _ c.args.minus _ (c.in_ok-v.ensures) (to_z-of_z {w = w32} (record { sfits = c.value_of.type_inv }) ∙ c.value_of.ensures)
