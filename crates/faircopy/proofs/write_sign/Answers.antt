-- `write_sign` meets its contract.
use mathlib.Core.Path.{sym, ◌∙◌}
use Rattle.std.proofs.lemmas.Bool.{false≢true}
use native.Mathlib.Omega.{arith}
use Rattle.faircopy.proofs.StepsParts.{no-sign}
use Rattle.faircopy.proofs.write_sign.Goals as goal

pub returns-in_default : goal.returns-in_default
returns-in_default c = no-sign c.args.out.now c.args.at c.requires c.args.minus c.args.digits.now (λ e h. absurd (omega arith))

pub returns-in_default-2 : goal.returns-in_default-2
returns-in_default-2 c = no-sign c.args.out.now c.args.at c.requires c.args.minus c.args.digits.now (λ e h. c.if-first-ne48.false)

pub returns-in_default-3 : goal.returns-in_default-3
returns-in_default-3 c = no-sign c.args.out.now c.args.at c.requires c.args.minus c.args.digits.now (λ e h. absurd (false≢true (sym c.if-minus.false ∙ e)))
