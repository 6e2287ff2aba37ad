-- `past_zeros` meets its contract. The loop's invariant: after their leading zeros, what is left and the whole text are the same.
use mathlib.Core.Path.{◌≡◌}
use lib.ListN.{length, drop}
use Rattle.faircopy.specs.Steps.{zeros}
use Rattle.faircopy.proofs.past_zeros.Given as goal

abbrev pub invariant-loop-rest : goal.invariant-loop-rest
invariant-loop-rest l = drop (zeros l.rest) l.rest ≡ drop (zeros l.text) l.text

abbrev pub decreases-loop-rest : goal.decreases-loop-rest
decreases-loop-rest l = length l.rest
