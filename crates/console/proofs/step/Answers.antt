-- `console::step` meets its contract.
use mathlib.Core.Path.{sym}
use native.Mathlib.Omega.{arith}
use Rattle.console.proofs.Places.{steps, short, room-line, steps-past, steps-grown, steps-line}
use Rattle.console.proofs.step.Goals as goal

pub returns-then-not-has_room : goal.returns-then-not-has_room
returns-then-not-has_room c = rw c.silent.ensures (steps _ _ _ _ _ (short _ _ _ _ (sym c.if-not-has_room.ensures)))

pub returns-then-place-ge-LINES : goal.returns-then-place-ge-LINES
returns-then-place-ge-LINES c =
    rw c.silent-then-place-ge-LINES.ensures (steps _ _ _ _ _ (steps-past _ _ _ (sym c.if-not-has_room.ensures) _ c.if-place-ge-LINES.true))

pub keep-kept-requires : goal.keep-kept-requires
keep-kept-requires c = room-line _ _ (sym c.if-not-has_room.ensures)

pub returns-then-end-part : goal.returns-then-end-part
returns-then-end-part c =
    rw c.silent-then-end-part.ensures
    (steps _ _ _ _ _
    (steps-grown _ _ _ (sym c.if-not-has_room.ensures) c.if-place-ge-LINES.false _ _ _ c.line_end-end.ensures.place c.keep-kept.ensures.bytes c.if-end-part.true))

pub returns : goal.returns
returns c =
    rw (c.obey.ensures.done, c.obey.ensures.kept, c.obey.ensures.taken)
    (steps _ _ _ _ _
    (steps-line _ _ _ (sym c.if-not-has_room.ensures) c.if-place-ge-LINES.false _ _ _ c.line_end-end.ensures.place c.keep-kept.ensures.bytes _ _ _
    (omega (arith, c.if-end-part.false)) c.obey.ensures.printed))
