-- `close` meets its contract: what the pass does, with the known cell of the last `)` written.
use native.Mathlib.Omega.{arith}
use Rattle.emitter.proofs.Following.{close_widens, has_room, taken, refused}
use Rattle.emitter.proofs.pass.Draft.close.Goals as goal

pub returns-then-is_ok : goal.returns-then-is_ok
returns-then-is_ok c =
    let d = c.args.self.now in
    rw (c.clear.ensures, c.follow.ensures)
    (taken (close_widens d _ c.requires.level-least c.from-last.ensures) c.pass-pass.ensures _ _ c.close-marked.ensures.steps c.if-is_ok.ensures.value)

pub returns-else-is_ok : goal.returns-else-is_ok
returns-else-is_ok c =
    let d = c.args.self.now in
    rw c.follow.ensures
    (refused (close_widens d _ c.requires.level-least c.from-last.ensures) c.pass-pass.ensures _ _ c.close-marked.ensures.steps c.if-is_ok.ensures.value)

pub clear-requires : goal.clear-requires
clear-requires c =
    let d = c.args.self.now in
    omega
    (arith, has_room (close_widens d _ c.requires.level-least c.from-last.ensures) c.pass-pass.ensures _ _ c.close-marked.ensures.steps c.if-is_ok.ensures.value)
