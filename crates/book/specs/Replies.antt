-- What a call returns beside the store.
use Rattle.std.specs.Prelude.{ℕ, ◌-◌, Bool, false, List, ℤ}
use Rattle.book.specs.declared.Report.{Report}
use Rattle.book.specs.Calls.{Call, lent_list, lent_output}
use Rattle.language.specs.Answers.{ending_number}
use Rattle.language.specs.Effects.{State}
use Rattle.language.specs.Meaning.{Outcome, ended, stopped}

-- "the store's variables, and all that the call returns beside the store": its figures, every lent list place and output byte, the variables
pub record Reply : Type 0 where
  pub report : Report
  pub list : List ℤ
  pub output : List ℕ
  pub variables : List ℤ

-- A call answered: the store, or the book, that it leaves, and what it returns beside it.
pub record Answered (S : Type 0) : Type 0 where
  pub kept : S
  pub reply : Reply

-- the two together
abbrev pub leaves : {S : Type 0} → S → Reply → Answered S
leaves s r = record { kept = s; reply = r }

-- the figures r, with the list places, output and variables as the call leaves them
abbrev pub replied : Report → List ℤ → List ℕ → List ℤ → Reply
replied r p o v = record { report = r; list = p; output = o; variables = v }

-- a number and no other figure: "every other figure 0 and truth false"
abbrev pub plain : ℕ → Report
plain n = record { number = n; truth = false; steps = 0; height = 0; taken = 0; written = 0 }

-- the figures of a run that came to the state s in k steps
abbrev pub figures : ℕ → Bool → ℕ → State → Report
figures n t k s = record { number = n; truth = t; steps = k; height = s.height; taken = s.taken; written = s.written }

-- What a run with allowance n over the variables v came to. "Only a finished run changes variables; any other leaves them as before it."
-- "truth (false unless finished)"
unfoldable pub reported : List ℤ → ℕ → Outcome → Reply
reported v n (ended t s r) = record { report = figures 0 t (n - r) s; list = s.stack; output = s.output; variables = s.variables }
reported v n (stopped e s r) = record { report = figures (ending_number e) false (n - r) s; list = s.stack; output = s.output; variables = v }

-- a number alone, in answer to a call over the variables v: list, output and variables as they were
unfoldable pub tells : ℕ → Call → List ℤ → Reply
tells n c v = record { report = plain n; list = lent_list c; output = lent_output c; variables = v }
