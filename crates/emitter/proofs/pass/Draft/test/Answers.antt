-- `test` meets its contract: what the pass does, with the known cell written.
use native.Mathlib.Omega.{arith}
use Rattle.emitter.proofs.Following.{test_widens, has_room, taken, refused}
use Rattle.emitter.proofs.pass.Draft.test.Goals as goal

pub returns-then-is_ok : goal.returns-then-is_ok
returns-then-is_ok c =
    let a = c.args in
    rw (c.clear.ensures, c.follow.ensures)
    (taken (test_widens a.b a.self.now) c.pass-pass.ensures _ _ c.test-marked.ensures.steps c.if-is_ok.ensures.value)

pub returns-else-is_ok : goal.returns-else-is_ok
returns-else-is_ok c =
    let a = c.args in
    rw c.follow.ensures
    (refused (test_widens a.b a.self.now) c.pass-pass.ensures _ _ c.test-marked.ensures.steps c.if-is_ok.ensures.value)

pub clear-requires : goal.clear-requires
clear-requires c =
    let a = c.args in
    omega
    (arith, has_room (test_widens a.b a.self.now) c.pass-pass.ensures _ _ c.test-marked.ensures.steps c.if-is_ok.ensures.value)
