-- `reach::read_all` meets its contract.
use Rattle.reach.specs.Rounds.{tables}
use Rattle.reach.proofs.Rounds.{Gathering}
use Rattle.reach.proofs.read_all.Given as goal

abbrev pub invariant-loop-letter : goal.invariant-loop-letter
invariant-loop-letter l = Gathering (tables l.cells l.used) l.used l.calls l.letter
