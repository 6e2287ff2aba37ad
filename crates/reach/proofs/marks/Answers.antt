-- `reach::marks` meets its contract.
use mathlib.Core.Path.{◌≡◌, sym, ◌∙◌}
use mathlib.Core.Bool.{false}
use native.Mathlib.Omega.{arith}
use lib.ListN.{length, get_or-map}
use lib.Seq.{ext_get_or}
use Rattle.std.proofs.lemmas.List.{length-map}
use borrow.Author.Rules.{rules}
use Rattle.language.specs.Limits.{max_letters}
use Rattle.reach.proofs.Flags.{flag}
use Rattle.reach.proofs.marks.Goals as goal

pub returns : goal.returns
returns c =
    let k = c.loop-b.invariant in
    let l = c.args.letters in
    let e : length l ≡ max_letters = search rules in
    ext_get_or 0 _ _ (k.size ∙ sym (length-map l flag ∙ e)) (λ b h. k.done b (omega (arith, k.size)) ∙ sym (get_or-map flag l b false))
