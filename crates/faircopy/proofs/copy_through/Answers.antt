-- `copy_through` meets its contract. The loop's invariant: the bytes before those that are left are copied.
use mathlib.Core.Path.{refl}
use native.Mathlib.Omega.{arith}
use Rattle.faircopy.proofs.StepsParts.{through-none, through-found, through-more}
use Rattle.faircopy.proofs.copy_through.Goals as goal

pub loop-left-init : goal.loop-left-init
loop-left-init c = through-none _ _ _ _ c.requires

pub returns-then-byte-close : goal.returns-then-byte-close
returns-then-byte-close c =
    through-found _ _ _ _ c.requires c.loop-left.left.now _ _ c.loop-left.invariant c.in-len1-up.len_at_least _ _ c.write_byte-end.ensures c.if-byte-close.true _ refl refl

pub loop-left-preserved : goal.loop-left-preserved
loop-left-preserved c =
    through-more _ _ _ _ c.requires c.loop-left.left.now _ _ c.loop-left.invariant c.in-len1-up.len_at_least _ _ c.write_byte-end.ensures c.if-byte-close.false
    (omega arith)
