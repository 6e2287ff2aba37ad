-- `commands::perform` meets its contract.
use mathlib.Core.Path.{◌∙◌}
use native.Mathlib.Omega.{arith}
use Prim.Native.Nat.{◌-◌}
use lib.ListN.{length, drop, length-drop}
use lib.Seq.{take_all}
use Rattle.engine.specs.Stored.{stored}
use Rattle.lines.specs.Lines.{define, withdraw}
use Rattle.lines.specs.Commands.{field_start}
use Rattle.commands.specs.Served.{granted}
use Rattle.commands.proofs.Served.{changed-printed, no_room, by-request}
use Rattle.commands.proofs.perform.Goals as goal

pub returns-then-paper-lt-PAPER : goal.returns-then-paper-lt-PAPER
returns-then-paper-lt-PAPER c = no_room _ _ _ _ c.if-paper-lt-PAPER.true

pub returns-in-Some-Define : goal.returns-in-Some-Define
unfolding granted
returns-in-Some-Define c =
    let s = c.args.line.now in
    let parsed = rw c.in-Some-Define.field-0-is at c.in-Some-Define.ensures in
    changed-printed _ _ c.args.number _ _ _ _ _ c.define-answer.ensures (rw c.answer_number.ensures at c.tell.ensures)
    ∙ by-request _ _ _ _ (define _ _) c.if-paper-lt-PAPER.false
    (rw (c.from.ensures, take_all (length s - field_start) (drop field_start s) (omega (arith, length-drop field_start s))) parsed.asks.means)

pub returns-in-Some-Withdraw : goal.returns-in-Some-Withdraw
unfolding granted
returns-in-Some-Withdraw c =
    let parsed = rw c.in-Some-Withdraw.field-0-is at c.in-Some-Withdraw.ensures in
    changed-printed _ _ c.args.number _ _ _ _ _ c.withdraw-answer.ensures (rw c.answer_number-in-Some-Withdraw.ensures at c.tell-in-Some-Withdraw.ensures)
    ∙ by-request _ _ _ _ (withdraw _) c.if-paper-lt-PAPER.false (rw c.from-in-Some-Withdraw.ensures parsed.asks.means)

pub returns-in-Some-Run : goal.returns-in-Some-Run
returns-in-Some-Run c =
    let parsed = rw c.in-Some-Run.field-0-is at c.in-Some-Run.ensures in
    c.execute.ensures ∙ by-request _ _ _ _ _ c.if-paper-lt-PAPER.false (rw c.from-in-Some-Run.ensures parsed.asks.means)

pub returns-in-None : goal.returns-in-None
unfolding granted
returns-in-None c =
    (λ i. record { store = stored c.args.store.now; paper = c.tell-in-None.ensures i }) ∙ by-request _ _ _ _ _ c.if-paper-lt-PAPER.false c.in-None.ensures.asks.means
