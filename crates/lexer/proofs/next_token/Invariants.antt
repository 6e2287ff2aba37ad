-- `next_token` meets its contract.
use Rattle.lexer.proofs.Lexing.{Skipping}
use lib.ListN.{length}
use Prim.Native.Nat.{◌-◌}
use Rattle.lexer.proofs.next_token.Given as goal

abbrev pub invariant-loop-at : goal.invariant-loop-at
invariant-loop-at l = Skipping l.text l.from l.at

abbrev pub decreases-loop-at : goal.decreases-loop-at
decreases-loop-at l = length l.text - l.at
