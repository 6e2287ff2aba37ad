-- `console::finish` meets its contract.
use mathlib.Core.Path.{refl, sym}
use native.Mathlib.Omega.{arith}
use lib.ListN.{length-take}
use Rattle.console.proofs.Places.{kept-all, room-line, ends, ends-silent, ends-line}
use Rattle.console.proofs.finish.Goals as goal

pub returns-then-not-has_room : goal.returns-then-not-has_room
returns-then-not-has_room c =
    rw c.silent.ensures (ends _ _ _ _ (ends-silent _ _ _ c.has_room.result c.args.place.kept c.has_room.ensures refl c.then-not-has_room.either))

pub returns : goal.returns
returns c =
    let room = room-line _ _ (sym c.if-not-has_room.ensures) in
    rw (c.obey.ensures.done, c.obey.ensures.kept, c.obey.ensures.taken)
    (ends _ _ _ _
    (ends-line _ _ _ (sym c.if-not-has_room.ensures) _ _ _ _ c.if-place-ge-LINES.false (omega (arith, room, length-take c.args.place.kept c.args.line.now))
    (kept-all _ _ _ room c.min-kept.ensures) c.obey.ensures.printed))
