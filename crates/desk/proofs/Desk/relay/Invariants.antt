-- `desk::Desk::relay` meets its contract. The loop's invariant: the bytes taken went through the desk.
use Prim.Native.Nat.{◌-◌}
use lib.ListN.{length}
use Rattle.engine.specs.Stored.{stored}
use Rattle.console.specs.Places.{progress}
use Rattle.desk.proofs.Input.{Relaying}
use Rattle.desk.proofs.Desk.relay.Given as goal

abbrev pub invariant-loop-at : goal.invariant-loop-at
invariant-loop-at l = Relaying l.part (progress (stored l.initial.self.store) l.initial.place l.initial.self.line) l.at (progress (stored l.self.store) l.place l.self.line) l.self.line l.self.out

abbrev pub decreases-loop-at : goal.decreases-loop-at
decreases-loop-at l = length l.part - l.at
