-- `column_of` meets its contract. The loop's invariant: the digits that stand are the last of the number's. The measure is what is left of the number.
use lib.ListN.{drop}
use Rattle.numerals.proofs.Decimals.{Rendering}
use Rattle.numerals.proofs.column_of.Given as goal

abbrev pub invariant-loop-n : goal.invariant-loop-n
invariant-loop-n l = Rendering l.number (drop l.fn.ending.start l.fn.ending.text) l.text l.n l.start

abbrev pub decreases-loop-n : goal.decreases-loop-n
decreases-loop-n l = l.n
