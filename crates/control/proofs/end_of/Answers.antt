-- `control::end_of` meets its contract.
use mathlib.Core.Path.{ap, ◌∙◌}
use native.Mathlib.Omega.{arith}
use mir.Val.{of_z}
use mir.Syntax.{w32}
use borrow.Author.Tests.{eq-eqb, ne_eqb}
use Rattle.operands.specs.Operands.{table_in}
use Rattle.operands.proofs.OperandsDecoding.{decode-low, decode-high, decode-last, decode-fail, decode-end, exact-yes, exact-no}
use Rattle.control.proofs.Readings.{holds}
use Rattle.control.proofs.end_of.Goals as goal
use Rattle.control.proofs.end_of.Goals.{then-at-lt-CODE_START-via-then-at-lt-CODE_START, then-at-lt-CODE_START-via-else-at-lt-CODE_START+then-code-at}
use Rattle.control.proofs.end_of.Goals.{in_default-via-in-0+in_default, in_default-via-in-1+in_default, in_default-via-in_default}

pub returns-then-at-lt-CODE_START : goal.returns-then-at-lt-CODE_START
returns-then-at-lt-CODE_START c = λ h.
    elim c.then-at-lt-CODE_START.branch [
      | then-at-lt-CODE_START-via-then-at-lt-CODE_START w ↦ rw (c.stop.ensures, decode-low (table_in c.args.cells.now c.args.code) _ w.if-at-lt-CODE_START.true)
      | then-at-lt-CODE_START-via-else-at-lt-CODE_START+then-code-at w ↦ rw (c.stop.ensures, decode-high (table_in c.args.cells.now c.args.code) _ w.if-at-lt-CODE_START.false w.if-code-at.true)
    ]

pub returns-in-0-eq1 : goal.returns-in-0-eq1
returns-in-0-eq1 c = λ h.
    let due = holds 1 c.cell.ensures (record { sfits = c.cell.type_inv }) c.in-0-eq1.is-1 in
    rw (decode-last (table_in c.args.cells.now c.args.code) c.args.m.at c.if-at-lt-CODE_START.false (omega arith), exact-yes _ 1 _ due)
    (c.leave.ensures h)

pub returns-then-m-eq0 : goal.returns-then-m-eq0
returns-then-m-eq0 c = λ h.
    let due = holds 0 c.cell.ensures (record { sfits = c.cell.type_inv }) c.in-1-eq0.is-1 in
    rw (
      c.stop-then-m-eq0.ensures,
      decode-fail (table_in c.args.cells.now c.args.code) c.args.m.at c.if-at-lt-CODE_START.false (omega arith),
      exact-yes _ 0 _ due,
      eq-eqb c.args.m.left 0 (omega arith),
    )

pub returns-else-m-eq0 : goal.returns-else-m-eq0
returns-else-m-eq0 c = λ h.
    let due = holds 0 c.cell.ensures (record { sfits = c.cell.type_inv }) c.in-1-eq0.is-1 in
    rw (
      decode-fail (table_in c.args.cells.now c.args.code) c.args.m.at c.if-at-lt-CODE_START.false (omega arith),
      exact-yes _ 0 _ due,
      ne_eqb c.args.m.left 0 (λ e. omega arith),
    )
    (rw c.go.ensures at (c.leave-in-1-eq0.ensures h))

pub returns-in_default : goal.returns-in_default
returns-in_default c = λ h.
    elim c.in_default.branch [
      | in_default-via-in-0+in_default w ↦ rw (
        c.stop-in_default.ensures,
        decode-last (table_in c.args.cells.now c.args.code) c.args.m.at c.if-at-lt-CODE_START.false (omega (arith, w.in_default.is-0)),
        exact-no _ 1 _ (λ e. w.in_default.is-1.1 (ap (of_z w32) (c.cell.ensures ∙ e))),
      )
      | in_default-via-in-1+in_default w ↦ rw (
        c.stop-in_default.ensures,
        decode-fail (table_in c.args.cells.now c.args.code) c.args.m.at c.if-at-lt-CODE_START.false (omega (arith, w.in_default.is-0)),
        exact-no _ 0 _ (λ e. w.in_default.is-1.1 (ap (of_z w32) (c.cell.ensures ∙ e))),
      )
      | in_default-via-in_default w ↦ (
          let a = w.in_default.is-0.0.1 in
          let b = w.in_default.is-0.1 in
          rw (c.stop-in_default.ensures, decode-end (table_in c.args.cells.now c.args.code) c.args.m.at c.if-at-lt-CODE_START.false (omega arith) c.requires.byte)
          )
    ]
