-- `paper::output::copy_cells` meets its contract. The loop's invariant: the first i bytes are pasted.
use Rattle.operands.specs.Operands.{prints_from}
use Rattle.language.proofs.Copies.{Pasting}
use Rattle.paper.proofs.output.copy_cells.Given as goal

abbrev pub invariant-loop-i : goal.invariant-loop-i
invariant-loop-i l = Pasting l.initial.output l.to (prints_from l.cells l.from l.n) l.n l.output l.i
