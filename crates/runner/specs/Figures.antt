-- A run over lent arrays, as C asks for it: its report as a number and an array of figures.
use Rattle.std.specs.Prelude.{◌≡◌, Bool, cond, List, [], ◌∷◌, ℕ, ℤ, get_or, eqb}
use Rattle.std.proofs.Math.Option.{none}
use Rattle.book.specs.declared.Report.{Report}
use Rattle.book.specs.Calls.{Call}
use Rattle.book.specs.Replies.{Answered}
use Rattle.book.specs.Refusals.{refusal}
use Rattle.book.specs.Store.{Store, store_view}
use Rattle.operands.specs.declared.Machine.{Machine}
use Rattle.interpreter.specs.Runs.{report_from, was_stopped}

-- a truth as a number
abbrev pub truth_figure : Bool → ℕ
truth_figure t = cond t 1 0

-- "the ending, truth .., steps, list height, inputs taken and output length": the figures of a report beside its number
abbrev pub figures_of : Report → List ℕ
figures_of r = truth_figure r.truth ∷ r.steps ∷ r.height ∷ r.taken ∷ r.written ∷ []

-- the report of a number and figures
abbrev pub report_of : ℕ → List ℕ → Report
report_of n f =
    record { number = n; truth = eqb (get_or f 0 0) 1; steps = get_or f 1 0; height = get_or f 2 0; taken = get_or f 3 0; written = get_or f 4 0 }

-- What a run leaves with C: the store, the number that it returns, and the other arrays that it may write. The store's variables are the reply's.
pub record Returned : Type 0 where
  pub store : Store
  pub number : ℕ
  pub list : List ℤ
  pub output : List ℕ
  pub variables : List ℤ
  pub figures : List ℕ

-- a run that left the store st, the list places p, the output o and the figures f, and returned n
abbrev pub returns : Store → ℕ → List ℤ → List ℕ → List ℕ → Returned
returns st n p o f = record { store = st; number = n; list = p; output = o; variables = st.variables; figures = f }

-- a run answered, part by part
abbrev pub returned : Answered Store → Returned
returned x =
    record {
      store = x.kept;
      number = x.reply.report.number;
      list = x.reply.list;
      output = x.reply.output;
      variables = x.reply.variables;
      figures = figures_of x.reply.report;
    }

-- ── inside ──────────────────────────────────────────────────────────────────────────────────────

-- no refusal fits a call of the store
abbrev pub Admitted : Store → Call → Type 0
Admitted st c = refusal (store_view st) c ≡ none

-- The loop left the machine's numbers m and the variables v after an allowance of n; b are the variables before the run. r is reported, and w are kept.
pub record Ended (n : ℕ) (m : Machine) (b v : List ℤ) (r : Report) (w : List ℤ) : Type 0 where
  pub report : r ≡ report_from n m
  pub variables : w ≡ cond (was_stopped m.status) b v
