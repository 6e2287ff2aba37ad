-- `reach::spread` meets its contract.
use mathlib.Core.Path.{ap, ◌∙◌}
use native.Mathlib.Omega.{arith}
use borrow.Author.Rules.{rules}
use Rattle.reach.specs.Rounds.{marks_of}
use Rattle.reach.proofs.Flags.{proper, marked}
use Rattle.reach.proofs.Rounds.{spreading-none, spreading-row, spreading-past, spreading-done}
use Rattle.reach.proofs.spread.Goals.{then-reached-a, else-reached-a}
use Rattle.reach.proofs.spread.Goals as goal

pub loop-a-init : goal.loop-a-init
loop-a-init c = spreading-none _ _ (proper _ (search rules))

pub loop-a-preserved : goal.loop-a-preserved
loop-a-preserved c =
    let r = c.args.reached.now in
    elim c.if-reached-a.branch [
      | then-reached-a w ↦
          spreading-row _ _ _ _ c.loop-a.invariant _ (omega arith) (marked r c.loop-a.a ∙ w.if-reached-a.true) (ap marks_of w.next-is ∙ w.with_row-more.ensures)
      | else-reached-a w ↦ rw w.next-is (spreading-past _ _ _ _ c.loop-a.invariant (omega arith) (marked r c.loop-a.a ∙ w.if-reached-a.false))
    ]

pub returns : goal.returns
returns c = spreading-done _ _ _ _ c.loop-a.invariant (omega arith)
