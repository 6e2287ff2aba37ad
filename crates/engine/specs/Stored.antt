-- The code's store and answers as the book's definitions have them, its steps, and what holds of every session of it.
use Rattle.std.specs.Prelude.{◌≡◌, ℕ, List, [], ◌∷◌, ℤ}
use Rattle.book.specs.Calls.{Call}
use Rattle.book.specs.Refusals.{answer_number}
use Rattle.book.specs.Replies.{Answered}
use Rattle.book.specs.Store as Definition
use Rattle.book.specs.Store.{fresh_store}
use Rattle.book.specs.Events.{Event, calls, asked, the_store}
use Rattle.book.specs.Sessions.{Step, Promised}
use Rattle.book.specs.History.{History}
use Rattle.book.specs.Demand3.{history_of}
use Rattle.engine.specs.declared.Store.{Store}
use Rattle.engine.specs.declared.Changed.{Changed}
use Rattle.engine.specs.declared.Answer.{Answer}

-- the code's store
abbrev pub stored : Store → Definition.Store
stored s = Definition.store_of s.cells s.used s.permissions s.vars

-- what a define or a withdraw, the call c, returned
abbrev pub changed : Changed → Call → Answered Definition.Store
changed r c = Definition.changed (stored r.store) (answer_number r.answer) c

-- what a run returned, with the list's places and the output as it leaves them
abbrev pub answered : Answer → List ℤ → List ℕ → Answered Definition.Store
answered r p o = Definition.answered (stored r.store) r.report p o

-- ── sessions ────────────────────────────────────────────────────────────────────────────────────

-- a define or withdraw c that returned r
abbrev pub changing : Call → Changed → Step Store Event
changing c r = record { call = calls c; state = r.store; reply = (changed r c).reply }

-- a run c that returned r and left the list places p and the output o
abbrev pub ran : Call → Answer → List ℤ → List ℕ → Step Store Event
ran c r p o = record { call = calls c; state = r.store; reply = (answered r p o).reply }

-- a step from the store s is one that `Promised` asks for; each function of src/steps.rt makes such a step
abbrev pub Keeps : Store → Step Store Event → Type 0
Keeps s x = Promised stored (asked the_store) s (x ∷ [])

-- a claim about histories holds of every session of `Store`, from one that `Store::fresh` made
abbrev pub OfStore : (History → Type 0) → Type 0
OfStore claim = (s : Store) (ss : List (Step Store Event)) → stored s ≡ fresh_store → Promised stored (asked the_store) s ss → claim (history_of stored s ss)
