-- `console::keep` meets its contract.
use Rattle.console.proofs.Places.{keeps}
use Rattle.console.proofs.keep.Goals as goal

pub returns : goal.returns
returns c =
    keeps c.args.line.now c.args.kept c.args.bytes.now c.requires _ _ _ _ c.min-at.ensures c.min-n.ensures c.write_bytes.ensures
