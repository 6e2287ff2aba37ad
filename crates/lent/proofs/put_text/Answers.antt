-- `lent::put_text` meets its contract.
use mathlib.Core.Path.{◌≡◌, refl, sym}
use Prim.Native.Nat.{◌+◌, ◌-◌, ◌*◌}
use native.Mathlib.Omega.{arith}
use borrow.Rule.Slice.PartMut.{mid_of}
use lib.ListN.{length}
use Rattle.std.proofs.lemmas.Slice.{put_mid-paste}
use Rattle.language.specs.Limits.{max_cells}
use Rattle.linker.proofs.LinkedOver.{link-table}
use Rattle.lent.proofs.LentCalls.{puts-table}
use Rattle.lent.proofs.put_text.Goals as goal

pub returns : goal.returns
returns c =
    let a = c.args in
    let n = a.k * 250 + 250 - a.k * 250 in
    let e = link-table a.text.now _ (mid_of (a.k * 250) n a.cells.now) _ c.in_ok-count.ensures (grind arith) in
    let q = c.link_over.new.places in
    let w : length q ≡ max_cells = grind arith in
    let h = put_mid-paste (a.k * 250) n a.cells.now q q max_cells refl (omega arith) (sym w) in
    rw (← e) (refl, puts-table a.cells.now a.used.now a.permissions.now a.k _ a.permission _ h)
