-- `desk::Desk::relay` meets its contract. The loop's invariant: the bytes taken went through the desk.
use mathlib.Core.Path.{refl}
use mathlib.Core.List.{[]}
use native.Mathlib.Omega.{arith}
use Rattle.desk.proofs.Input.{rest-size, relaying-more, relays-some}
use Rattle.desk.proofs.Desk.relay.Goals as goal

pub loop-at-init : goal.loop-at-init
loop-at-init c = record { inside = omega arith; buffers = c.requires; bytes = []; day = λ rest. refl }

pub loop-at-smaller : goal.loop-at-smaller
loop-at-smaller c = omega (arith, c.serve-a.ensures.served.some, rest-size c.args.part.now c.loop-at.at, c.loop-at-test.true)

pub loop-at-preserved : goal.loop-at-preserved
loop-at-preserved c = relaying-more _ _ _ _ _ _ c.loop-at.invariant _ c.serve-a.ensures.served _ _ c.serve-a.ensures.lent

pub returns-then-is_err-clause-stopped : goal.returns-then-is_err-clause-stopped
returns-then-is_err-clause-stopped c = relays-some _ _ _ _ _ _ c.loop-at.invariant _ c.serve-a.ensures.served
