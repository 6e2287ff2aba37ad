-- `operands::cells::prints` meets its contract. The loop's invariant: what is left to scan decides.
use mathlib.Core.Path.{◌≡◌}
use Prim.Native.Nat.{◌+◌, ◌-◌}
use Rattle.operands.specs.Operands.{printable}
use Rattle.operands.proofs.cells.prints.Given as goal

abbrev pub invariant-loop-i : goal.invariant-loop-i
invariant-loop-i l = printable l.cells l.i (l.from + l.n - l.i) ≡ printable l.cells l.from l.n
