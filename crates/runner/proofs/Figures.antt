-- What C is handed of a run says all that the run answers.
use mathlib.Core.Path.{◌≡◌, refl, ap, ◌∙◌}
use mathlib.Core.Bool.{Bool, true, false}
use mathlib.Core.List.{List}
use Prim.Native.Nat.{ℕ}
use lib.Dec.{eqb}
use lib.IntN.{ℤ}
use Rattle.book.specs.declared.Report.{Report}
use Rattle.book.specs.Replies.{Answered, leaves, replied}
use Rattle.book.specs.Store.{Store, answered}
use Rattle.runner.specs.Figures.{truth_figure, figures_of, report_of, Returned, returns, returned}

truth-back : (t : Bool) → eqb (truth_figure t) 1 ≡ t
truth-back true = refl
truth-back false = refl

report-back : (r : Report) → report_of r.number (figures_of r) ≡ r
report-back r =
    λ i. record { number = r.number; truth = truth-back r.truth i; steps = r.steps; height = r.height; taken = r.taken; written = r.written }

-- the answer that was taken apart
abbrev back_from : Returned → Answered Store
back_from y = leaves y.store (replied (report_of y.number y.figures) y.list y.output y.variables)

pub returned-all : (st : Store) (n : ℕ) (p : List ℤ) (o f : List ℕ) (a : Answered Store) → returns st n p o f ≡ returned a
    → answered st (report_of n f) p o ≡ a
returned-all st n p o f a e =
    ap back_from e ∙ (λ i. leaves a.kept (replied (report-back a.reply.report i) a.reply.list a.reply.output a.reply.variables))
