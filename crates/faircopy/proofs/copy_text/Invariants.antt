-- `copy_text` meets its contract. The loop's invariant: what is written, and what the steps will write of the rest, are the fair copy.
use mathlib.Core.Path.{◌≡◌}
use lib.ListN.{length}
use Rattle.language.specs.Syntax.{Expr}
use Rattle.language.specs.Reading.{accepted, read}
use Rattle.faircopy.proofs.StepsLoop.{Copying}
use Rattle.faircopy.proofs.copy_text.Given as goal

abbrev pub invariant-loop-left : goal.invariant-loop-left
invariant-loop-left l = (w : Expr) → read l.text ≡ accepted w → Copying l.initial.out w l.left l.at l.out

abbrev pub decreases-loop-left : goal.decreases-loop-left
decreases-loop-left l = length l.left
