-- `predicates::counters::counter` meets its contract.
use mathlib.Core.Path.{sym, ◌∙◌}
use native.Mathlib.Omega.{arith}
use borrow.Author.Tests.{eq-eqb, ne_eqb}
use Rattle.language.specs.Machine.{pick}
use Rattle.operands.specs.Held.{state_of, counting}
use Rattle.operands.proofs.Operands.{counter-bounds}
use Rattle.operands.proofs.OperandsDecoding.{count-read}
use Rattle.predicates.proofs.Effects.{count-true, count-false}
use Rattle.predicates.proofs.counters.counter.Goals as goal

pub returns-in_default : goal.returns-in_default
returns-in_default c = λ h. rw (c.stop.ensures, count-read, ← c.counter_at.ensures, c.in_default.is)

pub returns-then-m-eq0 : goal.returns-then-m-eq0
returns-then-m-eq0 c = λ h. rw (c.stop-then-m-eq0.ensures, count-read, ← c.counter_at.ensures, c.in-Some.is, eq-eqb _ _ c.if-m-eq0.true)

pub returns-then-counts-i : goal.returns-then-counts-i
unfolding pick
returns-then-counts-i c = λ h.
    let a = c.args in
    let k = counter-bounds _ _ _ (sym c.counter_at.ensures ∙ c.in-Some.is) in
    rw (
      c.go.ensures,
      count-read,
      ← c.counter_at.ensures,
      c.in-Some.is,
      ne_eqb _ _ c.if-m-eq0.false,
      count-true (state_of (counting a.m a.counts.now h)) a.m.letter c.in-Some.field-0.limit c.in-Some.field-0.order k.some c.if-counts-i.true,
    )

pub returns-then-exit-gt-CELLS : goal.returns-then-exit-gt-CELLS
returns-then-exit-gt-CELLS c = λ h. absurd (omega (arith, counter-bounds _ _ _ (sym c.counter_at.ensures ∙ c.in-Some.is), c.if-exit-gt-CELLS.true, c.requires.inside.placed.used))

pub returns : goal.returns
unfolding pick
returns c = λ h.
    let a = c.args in
    let k = counter-bounds _ _ _ (sym c.counter_at.ensures ∙ c.in-Some.is) in
    rw (
      c.go-2.ensures,
      count-read,
      ← c.counter_at.ensures,
      c.in-Some.is,
      ne_eqb _ _ c.if-m-eq0.false,
      count-false (state_of (counting a.m a.counts.now h)) a.m.letter c.in-Some.field-0.limit c.in-Some.field-0.order k.some c.if-counts-i.false,
    )
