-- `read_number` meets its contract.
use native.Mathlib.Omega.{arith}
use Rattle.lines.proofs.Commands.{number-missing, number-at-end, number-at-blank, number-no-blank}
use Rattle.lines.proofs.read_number.Goals as goal

pub returns-then-n-eq0 : goal.returns-then-n-eq0
returns-then-n-eq0 c = number-missing _ _ _ c.read_digits-n.ensures c.if-n-eq0.true

pub returns-then-next-line : goal.returns-then-next-line
returns-then-next-line c =
    number-at-end _ _ _ c.read_digits-n.ensures c.if-n-eq0.false c.if-next-line.true

pub bounds-line-next : goal.bounds-line-next
bounds-line-next c =
    let r = c.read_digits-n.ensures in
    let h = r.inside (omega arith) in
    omega arith

pub returns-then-line-next-ne32 : goal.returns-then-line-next-ne32
returns-then-line-next-ne32 c =
    let r = c.read_digits-n.ensures in
    let h = r.inside (omega arith) in
    number-no-blank _ _ _ r c.if-n-eq0.false (omega arith) c.if-line-next-ne32.true

pub returns : goal.returns
returns c =
    let r = c.read_digits-n.ensures in
    let h = r.inside (omega arith) in
    number-at-blank _ _ _ r c.if-n-eq0.false (omega arith) c.if-line-next-ne32.false
