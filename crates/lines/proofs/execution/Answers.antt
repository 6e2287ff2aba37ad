-- `execution` meets its contract.
use mathlib.Core.Path.{sym, ◌∙◌, subst}
use native.Mathlib.Omega.{arith}
use Rattle.lines.specs.Lines.{allowance}
use Rattle.lines.specs.Commands.{Parsed}
use Rattle.lines.proofs.Lines.{execution-none, execution-bad, execution-on}
use Rattle.lines.proofs.execution.Goals as goal

pub returns-then-line-eq-LETTER_END : goal.returns-then-line-eq-LETTER_END
returns-then-line-eq-LETTER_END c =
    record { asks = record { means = execution-none c.args.line.now c.args.letter c.if-line-eq-LETTER_END.true; within = tt }; places = c.requires.places }

pub returns-then-line-ne32 : goal.returns-then-line-ne32
returns-then-line-ne32 c =
    record { asks = record { means = execution-bad c.args.line.now c.args.letter (omega arith) c.if-line-ne32.true; within = tt }; places = c.requires.places }

pub returns-in_err-allowance : goal.returns-in_err-allowance
returns-in_err-allowance c =
    rw c.from_residual.ensures
    (record {
      asks =
          record {
            means = sym (c.in_err-allowance.ensures c.args.letter allowance) ∙ execution-on c.args.line.now c.args.letter (omega arith) c.if-line-ne32.false;
            within = tt;
          };
      places = c.requires.places;
    })

pub inputs-requires : goal.inputs-requires
inputs-requires c =
    let f = c.in_ok-allowance.ensures in
    record { inside = f.inside; places = c.requires.places }

pub returns : goal.returns
returns c =
    let f = c.in_ok-allowance.ensures in
    subst (Parsed c.inputs.result c.args.line.now c.inputs.new.values)
    (sym (f.means c.args.letter allowance) ∙ execution-on c.args.line.now c.args.letter (omega arith) c.if-line-ne32.false)
    c.inputs.ensures
