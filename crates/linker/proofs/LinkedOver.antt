-- A link over lent places that are as many as a table has, and one over none.
use mathlib.Core.Path.{◌≡◌, refl, sym, ap, ◌∙◌}
use mathlib.Core.List.{List, ◌++◌}
use Prim.Native.Nat.{ℕ, ◌+◌, min}
use native.Mathlib.Omega.{arith}
use lib.IntN.{ℤ}
use lib.ListN.{length}
use Rattle.std.specs.Prelude.{Result, Ok, Err}
use Rattle.language.specs.declared.Fault.{Fault}
use Rattle.language.specs.declared.Table.{Table}
use Rattle.std.proofs.Math.Seq.{paste}
use Rattle.std.proofs.lemmas.List.Edits.{paste_all}
use Rattle.std.proofs.lemmas.List.{append-nil, drop_all}
use Rattle.language.specs.Limits.{max_cells}
use Rattle.language.specs.Layout.{layout}
use Rattle.language.specs.Reading.{Reading, refused, accepted, read}
use Rattle.language.proofs.TablesMeaning.{layout-decodes}
use Rattle.linker.specs.Linked.{linked, judged}
use Rattle.linker.specs.Into.{LinkedOver, links_over, linked_over}

-- a list of the same length stands in the other's place
paste-full : {X : Type 0} (n : ℕ) (p c : List X) → length p ≡ n → length c ≡ n → paste p 0 c n ≡ c
paste-full n p c h e = paste_all p 0 c n (sym e) ∙ ap (λ r. c ++ r) (drop_all (0 + n) p (omega (arith, h))) ∙ append-nil c

abbrev answer_of : LinkedOver → Result ℕ Fault
answer_of x = x.answer

-- the places then hold the table
pub link-table : (s : List ℕ) (u : ℕ) (p q : List ℤ) → links_over (Ok u) q ≡ linked_over p (linked (read s)) → length p ≡ max_cells
    → Ok (record { used = u; cells = q }) ≡ linked (read s)
link-table s u p q e full = go (read s) refl e
  where
    go : (r : Reading) → read s ≡ r → links_over (Ok u) q ≡ linked_over p (linked r) → Ok (record { used = u; cells = q }) ≡ linked r
    go (refused r) h d = let z : Ok u ≡ Err r = ap answer_of d in cc
    go (accepted w) h d =
        let whole = (layout-decodes s w h).whole in
        let z : Ok u ≡ Ok (layout w).used = ap answer_of d in
        let n : u ≡ (layout w).used = cc in
        let o = ap (λ (x : LinkedOver). x.places) d in
        let f : min max_cells (length p) ≡ max_cells = omega (arith, full) in
        let m : q ≡ (layout w).cells = o ∙ ap (paste p 0 (layout w).cells) f ∙ paste-full max_cells p (layout w).cells full whole in
        rw (n, m) refl

-- a text that links to a table is accepted
pub judged-of : (r : Reading) (t : Table) → Ok t ≡ linked r → Ok tt ≡ judged r
judged-of (refused r) t e = absurd cc
judged-of (accepted w) t e = refl
