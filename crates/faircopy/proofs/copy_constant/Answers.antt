-- `copy_constant` meets its contract.
use native.Mathlib.Omega.{arith}
use Rattle.faircopy.proofs.StepsParts.{constant-minus, constant-plain, moves-as, moves-tail, fits-as}
use Rattle.faircopy.proofs.copy_constant.Goals as goal

pub copy_digits-requires : goal.copy_digits-requires
copy_digits-requires c = fits-as c.args.out.now c.args.at (constant-minus c.args.text.now (omega arith) (omega arith)) c.requires

pub returns-in-45 : goal.returns-in-45
returns-in-45 c = moves-as (constant-minus c.args.text.now (omega arith) (omega arith)) (moves-tail c.args.text.now c.copy_digits.ensures)

pub copy_digits-requires-in_default : goal.copy_digits-requires-in_default
copy_digits-requires-in_default c = fits-as c.args.out.now c.args.at (constant-plain c.args.text.now (λ h e. grind arith)) c.requires

pub returns-in_default : goal.returns-in_default
returns-in_default c = moves-as (constant-plain c.args.text.now (λ h e. grind arith)) c.copy_digits-in_default.ensures
