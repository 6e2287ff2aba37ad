-- `desk::Desk::attend` meets its contract. The loop's invariant: the buffers keep their lengths.
use Rattle.desk.specs.Input.{Lent}
use Rattle.desk.proofs.Desk.attend.Given as goal

abbrev pub invariant-loop : goal.invariant-loop
invariant-loop l = Lent l.self.line l.self.out
