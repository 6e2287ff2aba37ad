-- `link` meets its contract.
use borrow.Author.Rules.{rules}
use Rattle.linker.proofs.LinkedOver.{link-table}
use Rattle.linker.proofs.link.Goals as goal

pub returns : goal.returns
returns c = link-table c.args.text.now _ c.fresh-table.result.cells _ c.in_ok-table.ensures (search rules)
