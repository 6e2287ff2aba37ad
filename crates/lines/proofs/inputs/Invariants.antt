-- `inputs` meets its contract. The loop's invariant: what the line asks for from place i on, after the inputs that stand, is what it asks for from the start.
use Prim.Native.Nat.{◌-◌}
use lib.ListN.{length}
use Rattle.lines.proofs.Commands.{Taking}
use Rattle.lines.proofs.inputs.Given as goal

abbrev pub invariant-loop-i : goal.invariant-loop-i
invariant-loop-i l = Taking l.line l.from l.letter l.allowance l.values l.i l.count

abbrev pub decreases-loop-i : goal.decreases-loop-i
decreases-loop-i l = length l.line - l.i
