-- `runner::execute` meets its contract: what the interpreter reports.
use borrow.Author.Rules.{rules}
use Rattle.language.proofs.Letters.{letter-lt}
use Rattle.book.specs.Calls.{Run}
use Rattle.book.specs.Store.{Store, store_of, store_view}
use Rattle.book.proofs.Refusals.{Free}
use Rattle.runner.proofs.Store.{sound-most, free, runs_on}
use Rattle.runner.proofs.execute.Goals as goal

pub index-k-requires : goal.index-k-requires
index-k-requires c =
    let given : Store = store_of c.args.cells.now c.args.used.now c.args.permissions.now c.args.vars.now in
    let asks : Run =
    record {
      letter = c.args.letter;
      role = c.args.role;
      allowance = c.args.allowance;
      inputs = c.args.inputs.now;
      list = c.args.list.now;
      output = c.args.output.now;
    } in
    (free given asks c.requires).letter

pub drive-m-requires : goal.drive-m-requires
drive-m-requires c =
    let given : Store = store_of c.args.cells.now c.args.used.now c.args.permissions.now c.args.vars.now in
    let asks : Run =
    record {
      letter = c.args.letter;
      role = c.args.role;
      allowance = c.args.allowance;
      inputs = c.args.inputs.now;
      list = c.args.list.now;
      output = c.args.output.now;
    } in
    let f : Free (store_view given) asks = free given asks c.requires in
    record {
      letter = rw c.index-k.ensures (letter-lt _ f.letter);
      allowed = rw c.index-k.ensures f.allowed;
      letters = search rules;
      counted = sound-most given f.sound;
      places = f.places;
    }

pub ended-requires : goal.ended-requires
ended-requires c = c.drive-m.ensures.left

pub returns : goal.returns
returns c =
    let asks : Run =
    record {
      letter = c.args.letter;
      role = c.args.role;
      allowance = c.args.allowance;
      inputs = c.args.inputs.now;
      list = c.args.list.now;
      output = c.args.output.now;
    } in
    let given : Store = store_of c.args.cells.now c.args.used.now c.args.permissions.now c.args.vars.now in
    runs_on given asks c.requires _ _ _ _ _ c.index-k.ensures (rw (c.ended.ensures.report, c.ended.ensures.variables) (c.drive-m.ensures.reply c.args.vars.now))
