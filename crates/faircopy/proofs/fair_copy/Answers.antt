-- `fair_copy` meets its contract.
use mathlib.Core.Path.{sym, ◌∙◌}
use lib.Seq.{length-take-le}
use Rattle.faircopy.proofs.FairCopyAnswers.{judged-text, judged-little, judged-short-paper, judged-on-paper}
use Rattle.faircopy.proofs.fair_copy.Goals as goal

pub copy_text-count-requires : goal.copy_text-count-requires
copy_text-count-requires c = judged-text _ (sym c.in_ok-accept.was ∙ c.accept.ensures)

pub returns-then-paper-count : goal.returns-then-paper-count
returns-then-paper-count c = judged-short-paper _ (sym c.in_ok-accept.was ∙ c.accept.ensures) _ _ c.copy_text-count.ensures _ c.if-paper-count.true

pub slice_bounds-copy-end : goal.slice_bounds-copy-end
slice_bounds-copy-end c = judged-little _ (sym c.in_ok-accept.was ∙ c.accept.ensures) _ _ c.copy_text-count.ensures

pub slice_bounds-copy_from_slice-end-3 : goal.slice_bounds-copy_from_slice-end-3
slice_bounds-copy_from_slice-end-3 c = sym (length-take-le _ _ (judged-little _ (sym c.in_ok-accept.was ∙ c.accept.ensures) _ _ c.copy_text-count.ensures))

pub copy_from_slice-requires : goal.copy_from_slice-requires
copy_from_slice-requires c =
    length-take-le _ _ c.if-paper-count.false
    ∙ sym (length-take-le _ _ (judged-little _ (sym c.in_ok-accept.was ∙ c.accept.ensures) _ _ c.copy_text-count.ensures))

pub returns : goal.returns
returns c = judged-on-paper _ (sym c.in_ok-accept.was ∙ c.accept.ensures) _ _ c.copy_text-count.ensures _ _ c.if-paper-count.false c.copy_from_slice.ensures.after
