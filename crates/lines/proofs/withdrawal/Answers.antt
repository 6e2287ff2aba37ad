-- `withdrawal` meets its contract.
use native.Mathlib.Omega.{arith}
use Rattle.lines.proofs.Lines.{withdrawal-none, withdrawal-more}
use Rattle.lines.proofs.withdrawal.Goals as goal

pub returns-then-line-ne-LETTER_END : goal.returns-then-line-ne-LETTER_END
returns-then-line-ne-LETTER_END c =
    let s = c.args in
    λ x. record { means = withdrawal-more s.line.now s.letter (omega arith); within = tt }

pub returns : goal.returns
returns c =
    let s = c.args in
    λ x. record { means = withdrawal-none s.line.now s.letter c.if-line-ne-LETTER_END.false; within = tt }
