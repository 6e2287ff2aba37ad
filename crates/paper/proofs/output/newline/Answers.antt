-- `paper::output::newline` meets its contract.
use Prim.Native.Nat.{◌+◌}
use native.Mathlib.Omega.{arith}
use lib.ListN.{length}
use borrow.Author.Tests.{le-leb, ne_eqb}
use Rattle.language.specs.Effects.{perform}
use Rattle.paper.proofs.Effects.{paste-one}
use Rattle.paper.proofs.output.newline.Goals as goal

pub returns-then-w-output : goal.returns-then-w-output
unfolding perform
returns-then-w-output c = λ h.
    let a = c.args in
    let o = a.output.now in
    let w = a.m.written in
    rw (c.go.ensures, ne_eqb _ _ c.if-m-eq0.false, le-leb (w + 1) (length o) (omega arith), paste-one o w 10 c.if-w-output.true)
