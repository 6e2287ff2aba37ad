-- `interpreter::cycle::obey` meets its contract: it makes the turn that it is asked for, by the caller's role.
use Rattle.interpreter.proofs.cycle.obey.Goals as goal

pub returns : goal.returns
returns c = c.turn.ensures
