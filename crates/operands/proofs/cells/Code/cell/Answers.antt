-- `operands::cells::Code::cell` meets its contract.
use native.Mathlib.Omega.{arith}
use borrow.Author.Rules.{rules}
use Rattle.operands.proofs.Tables.{cell_of}
use Rattle.operands.proofs.cells.Code.cell.Goals as goal

pub returns : goal.returns
returns c = cell_of _ c.args.self c.args.number _ (search rules) c.requires.some c.requires.within (omega arith)
