-- `lent::put` meets its contract.
use native.Mathlib.Omega.{arith}
use Rattle.std.proofs.lemmas.Slice.{put_mid-paste}
use Rattle.book.specs.Store.{with_entry}
use Rattle.lent.proofs.put.Goals as goal

pub returns : goal.returns
unfolding with_entry
returns c = λ v. grind (arith, put_mid-paste)
