-- `read_input` meets its contract.
use native.Mathlib.Omega.{arith}
use Rattle.lines.proofs.Lines.{sign-end}
use Rattle.lines.proofs.Commands.{input-minus, input-plain}
use Rattle.lines.proofs.read_input.Goals as goal

pub returns-then-from-line : goal.returns-then-from-line
returns-then-from-line c =
    let s = c.args in
    λ l a x. sign-end s.line.now s.from l a x (omega arith)

pub returns-then-line-from-eq45 : goal.returns-then-line-from-eq45
returns-then-line-from-eq45 c =
    let s = c.args in
    input-minus s.line.now s.from c.read_signed.result (omega arith) c.if-line-from-eq45.true c.read_signed.ensures

pub returns : goal.returns
returns c =
    let s = c.args in
    input-plain s.line.now s.from c.read_signed-2.result (omega arith) c.if-line-from-eq45.false c.read_signed-2.ensures
