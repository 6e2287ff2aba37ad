-- Sessions of the library: its steps, and what holds of every session.
use Rattle.std.specs.Prelude.{◌≡◌, List, [], ◌∷◌, ℕ, ℤ}
use Rattle.book.specs.Calls.{Call}
use Rattle.book.specs.Store.{Store, fresh_store, changed, answered}
use Rattle.book.specs.Events.{Event, calls, asked, the_store}
use Rattle.book.specs.Sessions.{Step, Promised}
use Rattle.book.specs.History.{History}
use Rattle.book.specs.Demand3.{history_of}
use Rattle.runner.specs.Figures.{report_of}

-- the store that the caller's arrays hold is the store itself
abbrev pub held : Store → Store
held st = st

-- a call c of rec_lent_define or rec_lent_withdraw that left the store st and returned n
abbrev pub changing : Call → Store → ℕ → Step Store Event
changing c st n = record { call = calls c; state = st; reply = (changed st n c).reply }

-- a call c of rec_lent_run that left the store st, the list places p, the output o and the figures f, and returned n
abbrev pub ran : Call → Store → ℕ → List ℤ → List ℕ → List ℕ → Step Store Event
ran c st n p o f = record { call = calls c; state = st; reply = (answered st (report_of n f) p o).reply }

-- a step from the store st is one that `Promised` asks for; each function of src/steps.rt makes such a step
abbrev pub Keeps : Store → Step Store Event → Type 0
Keeps st x = Promised held (asked the_store) st (x ∷ [])

-- a claim about histories holds of every session of the library, from a store that rec_lent_fresh made
abbrev pub OfLibrary : (History → Type 0) → Type 0
OfLibrary claim = (st : Store) (ss : List (Step Store Event)) → st ≡ fresh_store → Promised held (asked the_store) st ss → claim (history_of held st ss)
