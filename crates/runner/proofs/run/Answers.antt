-- `runner::run` meets its contract: the refusal that its tests come to, or what the run comes to.
use mathlib.Core.Path.{ap, ◌∙◌}
use Rattle.book.specs.Calls.{Run}
use Rattle.book.specs.Replies.{plain}
use Rattle.book.specs.Store.{store_of}
use Rattle.runner.proofs.Store.{refused, admitted}
use Rattle.runner.proofs.run.Goals as goal

pub returns-in-Err : goal.returns-in-Err
returns-in-Err c =
    let asks : Run =
    record {
      letter = c.args.letter;
      role = c.args.role;
      allowance = c.args.allowance;
      inputs = c.args.inputs.now;
      list = c.args.list.now;
      output = c.args.output.now;
    } in
    refused (store_of c.args.cells.now c.args.used.now c.args.permissions.now c.args.vars.now) asks (c.run.ensures.decides c.args.cells.now)
    c.in-Err.refusal _ c.in-Err.is (c.plain.ensures ∙ ap plain c.number.ensures)

pub execute-requires : goal.execute-requires
execute-requires c =
    let asks : Run =
    record {
      letter = c.args.letter;
      role = c.args.role;
      allowance = c.args.allowance;
      inputs = c.args.inputs.now;
      list = c.args.list.now;
      output = c.args.output.now;
    } in
    admitted (store_of c.args.cells.now c.args.used.now c.args.permissions.now c.args.vars.now) asks (c.run.ensures.decides c.args.cells.now) _ c.in_default.is
