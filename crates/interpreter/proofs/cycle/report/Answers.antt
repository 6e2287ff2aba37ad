-- `interpreter::cycle::report` meets its contract, status by status.
use Rattle.interpreter.proofs.cycle.report.Goals as goal

pub returns-in-Stopped : goal.returns-in-Stopped
returns-in-Stopped c = rw (c.in-Stopped.is, c.number.ensures)

pub returns-in-Over : goal.returns-in-Over
returns-in-Over c = rw c.in-Over.is
