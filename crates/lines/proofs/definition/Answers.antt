-- `definition` meets its contract.
use native.Mathlib.Omega.{arith}
use Rattle.lines.proofs.Lines.{definition-none, definition-bad, definition-on}
use Rattle.lines.proofs.definition.Goals as goal

pub returns-then-line-eq-LETTER_END : goal.returns-then-line-eq-LETTER_END
returns-then-line-eq-LETTER_END c =
    let s = c.args in
    λ x. record { means = definition-none s.line.now s.letter c.if-line-eq-LETTER_END.true; within = tt }

pub returns-then-line-ne32 : goal.returns-then-line-ne32
returns-then-line-ne32 c =
    let s = c.args in
    λ x. record { means = definition-bad s.line.now s.letter (omega arith) c.if-line-ne32.true; within = tt }

pub returns : goal.returns
returns c =
    let s = c.args in
    λ x. record { means = definition-on s.line.now s.letter (omega arith) c.if-line-ne32.false; within = omega arith }
