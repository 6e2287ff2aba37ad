-- Calls: what is asked of a store, and of the book.
use Rattle.std.specs.Prelude.{ℕ, List, [], ℤ}

-- A run's arguments beside the store: its letter, a byte; "the caller's role" (document 02, U7); its allowance and inputs; the lent list places and output
-- bytes, "whatever they hold".
pub record Run : Type 0 where
  pub letter : ℕ
  pub role : ℕ
  pub allowance : ℕ
  pub inputs : List ℤ
  pub list : List ℤ
  pub output : List ℕ

-- A call's arguments beside the store: a letter, a permission and a text; a letter; or a run.
pub data Call : Type 0 where
  defines : ℕ → ℕ → List ℕ → Call
  withdraws : ℕ → Call
  runs : Run → Call

-- a run of letter l by a caller with the role r, with allowance n, inputs i, list places p and output o
abbrev pub running : ℕ → ℕ → ℕ → List ℤ → List ℤ → List ℕ → Call
running l r n i p o = runs (record { letter = l; role = r; allowance = n; inputs = i; list = p; output = o })

-- the list places that a call lends; define and withdraw lend none
abbrev pub lent_list : Call → List ℤ
lent_list (defines l k t) = []
lent_list (withdraws l) = []
lent_list (runs x) = x.list

-- the output bytes that a call lends
abbrev pub lent_output : Call → List ℕ
lent_output (defines l k t) = []
lent_output (withdraws l) = []
lent_output (runs x) = x.output
