-- `desk::Desk::serve` meets its contract. The loop's invariant: what is held is what the bytes taken print.
use mathlib.Core.Path.{refl}
use native.Mathlib.Omega.{arith}
use borrow.Author.Rules.{rules}
use Rattle.desk.proofs.Input.{moves, serving-more}
use Rattle.desk.proofs.Desk.serve.Goals as goal

pub loop-at-init : goal.loop-at-init
loop-at-init c = record { inside = omega arith; after = omega arith; few = omega arith; buffers = c.requires; day = λ rest. refl }

pub overflow_add-at : goal.overflow_add-at
overflow_add-at c = let h = (moves c.loop-at.invariant c.loop-at-test.true c.if-is_due.ensures c.step-a.ensures).inside in search rules

pub overflow_add-held : goal.overflow_add-held
overflow_add-held c = record { fits = omega (arith, (moves c.loop-at.invariant c.loop-at-test.true c.if-is_due.ensures c.step-a.ensures).few) }

pub loop-at-smaller : goal.loop-at-smaller
loop-at-smaller c = omega (arith, (moves c.loop-at.invariant c.loop-at-test.true c.if-is_due.ensures c.step-a.ensures).further, c.loop-at-test.true)

pub loop-at-preserved : goal.loop-at-preserved
loop-at-preserved c =
    serving-more c.loop-at.invariant c.loop-at-test.true c.if-is_due.ensures c.step-a.ensures _ (omega (arith, c.step-a.auto.line, c.loop-at.invariant.buffers.line))

pub returns-then-is_due : goal.returns-then-is_due
returns-then-is_due c =
    let q = c.loop-at.invariant in
    record {
      lent = q.buffers;
      served = record { some = omega (arith, q.after, c.is_due.ensures.held c.if-is_due.true); inside = q.inside; few = q.few; day = q.day };
    }

pub returns-after-loop-at : goal.returns-after-loop-at
returns-after-loop-at c =
    let q = c.loop-at.invariant in
    record { lent = q.buffers; served = record { some = omega (arith, c.loop-at-test.false); inside = q.inside; few = q.few; day = q.day } }
