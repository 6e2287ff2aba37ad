-- `parse` meets its contract.
use mathlib.Core.Path.{refl, subst, ◌∙◌}
use native.Mathlib.Omega.{arith}
use lib.IntN.{pos}
use lib.ListN.{replicate}
use Rattle.lines.specs.Lines.{max_inputs}
use Rattle.lines.specs.Commands.{Parsed}
use Rattle.lines.proofs.Lines.{long-line, short-line, no-blank, by-definition, by-withdrawal, by-execution, no-order}
use Rattle.lines.proofs.parse.Goals as goal

pub returns-then-n-gt-LINE : goal.returns-then-n-gt-LINE
returns-then-n-gt-LINE c = record { asks = record { means = long-line c.args.line.now c.if-n-gt-LINE.true; within = tt }; places = refl }

pub returns-then-n-lt-LETTER_END : goal.returns-then-n-lt-LETTER_END
returns-then-n-lt-LETTER_END c = record { asks = record { means = short-line c.args.line.now (omega arith) c.if-n-lt-LETTER_END.true; within = tt }; places = refl }

pub returns-then-line-ne32 : goal.returns-then-line-ne32
returns-then-line-ne32 c = record { asks = record { means = no-blank c.args.line.now (omega arith) (omega arith) c.if-line-ne32.true; within = tt }; places = refl }

pub returns-in-68 : goal.returns-in-68
returns-in-68 c =
    let a = c.definition.ensures (replicate max_inputs (pos 0)) in
    let e = by-definition c.args.line.now (omega arith) (omega arith) c.if-line-ne32.false c.in-68.is in
    record { asks = record { means = a.means ∙ e; within = a.within }; places = refl }

pub returns-in-88 : goal.returns-in-88
returns-in-88 c =
    let a = c.withdrawal.ensures (replicate max_inputs (pos 0)) in
    let e = by-withdrawal c.args.line.now (omega arith) (omega arith) c.if-line-ne32.false c.in-88.is in
    record { asks = record { means = a.means ∙ e; within = a.within }; places = refl }

pub returns-in-82 : goal.returns-in-82
returns-in-82 c =
    let s = c.args in
    subst (Parsed c.execution.result s.line.now c.execution.new.values)
    (by-execution s.line.now (omega arith) (omega arith) c.if-line-ne32.false c.in-82.is)
    c.execution.ensures

pub returns-in_default : goal.returns-in_default
returns-in_default c =
    let m = c.in_default.in_default-own.rest in
    let e = no-order c.args.line.now (omega arith) (omega arith) c.if-line-ne32.false m.0.0.1 m.0.1 m.1 in
    record { asks = record { means = e; within = tt }; places = refl }
