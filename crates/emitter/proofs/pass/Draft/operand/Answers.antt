-- `operand` meets its contract: what the pass does, with both known cells written.
use native.Mathlib.Omega.{arith}
use mir.Facts.{to_z-of_z}
use Rattle.emitter.proofs.Following.{operand_widens, has_room, taken, refused}
use Rattle.emitter.proofs.pass.Draft.operand.Goals as goal

pub returns-then-is_ok : goal.returns-then-is_ok
returns-then-is_ok c =
    let a = c.args in
    rw (c.clear.ensures, c.follow.ensures)
    (taken (operand_widens a.code a.value _ a.self.now (to_z-of_z c.ranges.value)) c.pass-pass.ensures _ _ c.operand-marked.ensures.steps c.if-is_ok.ensures.value)

pub returns-else-is_ok : goal.returns-else-is_ok
returns-else-is_ok c =
    let a = c.args in
    rw c.follow.ensures
    (refused (operand_widens a.code a.value _ a.self.now (to_z-of_z c.ranges.value)) c.pass-pass.ensures _ _ c.operand-marked.ensures.steps c.if-is_ok.ensures.value)

pub clear-requires : goal.clear-requires
clear-requires c =
    let a = c.args in
    omega
    (arith, has_room (operand_widens a.code a.value _ a.self.now (to_z-of_z c.ranges.value)) c.pass-pass.ensures _ _ c.operand-marked.ensures.steps c.if-is_ok.ensures.value)
