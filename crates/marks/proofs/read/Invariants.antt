-- `marks::read` meets its contract.
use Prim.Native.Nat.{◌-◌}
use Rattle.operands.specs.Operands.{table_in}
use Rattle.marks.proofs.Marks.{Reading}
use Rattle.marks.proofs.read.Given as goal

abbrev pub invariant-loop-at : goal.invariant-loop-at
invariant-loop-at l = Reading (table_in l.cells l.code) l.from l.initial.calls l.calls l.at

abbrev pub decreases-loop-at : goal.decreases-loop-at
decreases-loop-at l = l.code.end - l.at
