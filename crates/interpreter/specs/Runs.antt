-- What the cycle requires and ensures.
use Rattle.std.specs.Prelude.{◌≡◌, Bool, true, false, cond, List, ℕ, ◌-◌, ◌≤◌, ◌<◌, ℤ, length, get_or}
use Rattle.language.specs.Answers.{ending_number}
use Rattle.language.specs.Limits.{max_letters, max_cells, max_height}
use Rattle.language.specs.Effects.{start}
use Rattle.language.specs.Meaning.{Outcome}
use Rattle.language.specs.Tables.{barred_at, execute}
use Rattle.book.specs.declared.Report.{Report}
use Rattle.book.specs.Replies.{replied, reported}
use Rattle.book.specs.Store.{Store}
use Rattle.operands.specs.declared.Machine.{Machine}
use Rattle.operands.specs.declared.Status.{Status}
use Rattle.operands.specs.declared.Status.TheVariants.{Goes, Enters, Over, Stopped}

-- no used-cell count is over 250
abbrev pub Counted : List ℕ → Type 0
Counted u = (a : ℕ) → get_or u a 0 ≤ max_cells

-- a run of the letter with index a can be made over the used-cell counts u, the permissions k and the list's places p by a caller with the role r
pub record Startable (a : ℕ) (u k : List ℕ) (r : ℕ) (p : List ℤ) : Type 0 where
  pub letter : a < max_letters
  pub allowed : barred_at k r a ≡ false
  pub letters : length u ≡ max_letters
  pub counted : Counted u
  pub places : length p ≡ max_height

-- a run's arguments beside the store, as the interpreter takes them: its letter is an index, a as 0
pub record Launch : Type 0 where
  pub letter : ℕ
  pub role : ℕ
  pub allowance : ℕ
  pub inputs : List ℤ
  pub output : List ℕ

-- what a run of a store comes to
abbrev pub ran : Store → Launch → Outcome
ran st x =
    execute st.cells st.used st.permissions x.role x.letter x.allowance (start st.variables x.inputs x.output)

-- the number and the truth of a run that is over with this status
abbrev pub number_of : Status → ℕ
number_of Goes = 0
number_of Enters = 0
number_of (Over t) = 0
number_of (Stopped e) = ending_number e

abbrev pub truth_of : Status → Bool
truth_of Goes = false
truth_of Enters = false
truth_of (Over t) = t
truth_of (Stopped e) = false

-- whether it was stopped
abbrev pub was_stopped : Status → Bool
was_stopped Goes = false
was_stopped Enters = false
was_stopped (Over t) = false
was_stopped (Stopped e) = true

-- a status of a run that is over
abbrev pub Ends : Status → Type 0
Ends s = (s ≡ Goes → ⊥) × (s ≡ Enters → ⊥)

-- the report of the machine's numbers for a status, after an allowance of n
abbrev pub report_of : Status → ℕ → Machine → Report
report_of s n m =
    record {
      number = number_of s;
      truth = truth_of s;
      steps = n - m.left;
      height = m.height;
      taken = m.taken;
      written = m.written;
    }

-- for their own, once the run is over
abbrev pub report_from : ℕ → Machine → Report
report_from n m = report_of m.status n m

-- The run r is over with the machine's numbers m, the variables w, the list's places p and the output o. "Only a finished run changes variables; any
-- other leaves them as before it."
pub record Driven (n : ℕ) (r : Outcome) (m : Machine) (w p : List ℤ) (o : List ℕ) : Type 0 where
  pub ends : Ends m.status
  pub left : m.left ≤ n
  pub reply : (v : List ℤ)
      → replied (report_from n m) p o (cond (was_stopped m.status) v w) ≡ reported v n r
