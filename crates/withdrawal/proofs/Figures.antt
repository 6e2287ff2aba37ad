-- Demand 3 at work: the book's answers to the session, computed, are the program's.
use mathlib.Core.Path.{◌≡◌, refl, ap, ◌∙◌}
use Prim.Native.Nat.{ℕ}
use mathlib.Core.List.{List, [], ◌∷◌}
use lib.IntN.{ℤ, pos}
use lib.ListN.{get_or, replicate}
use Rattle.language.specs.Trials.{bytes}
use Rattle.language.specs.Values.{lawful}
use Rattle.language.specs.Effects.{perform, ask, on_call}
use Rattle.language.specs.Limits.{max_height}
use Rattle.book.specs.Calls.{Run, defines, withdraws, runs}
use Rattle.book.specs.Replies.{Reply}
use Rattle.book.specs.Book.{fresh_book, book_call}
use Rattle.book.specs.Store.{fresh_store}
use Rattle.book.specs.Events.{Event, calls, asked, the_store, the_book}
use Rattle.book.specs.Sessions.{answers, Step, Promised}
use Rattle.engine.specs.declared.Store.{Store}
use Rattle.engine.specs.declared.Changed.{Changed}
use Rattle.engine.specs.declared.Answer.{Answer}
use Rattle.engine.specs.Stored.{stored, changing, ran}
use Rattle.engine.proofs.Stored.{demand-3}

abbrev list : List ℤ
list = replicate max_height (pos 0)

abbrev output : List ℕ
output = replicate 16 0

-- the numbers of the three runs and the first place of the first list
pub record Numbers : Type 0 where
  pub before : ℕ
  pub paid : ℤ
  pub after : ℕ
  pub withdrawn : ℕ

abbrev numbers : List Reply → Numbers
numbers (a ∷ b ∷ c ∷ d ∷ e ∷ f ∷ l) =
    record { before = c.report.number; paid = get_or c.list 0 (pos 0); after = e.report.number; withdrawn = f.report.number }
numbers _ = record { before = 0; paid = pos 0; after = 0; withdrawn = 0 }

-- a cashier's run of letter byte l with allowance 9
abbrev run : ℕ → Run
run l = record { letter = l; role = 0; allowance = 9; inputs = []; list = list; output = output }

events : List Event
events =
    calls (defines 112 0 (bytes "('/5';)")) ∷ calls (defines 113 0 (bytes "(p;)")) ∷ calls (runs (run 113)) ∷ calls (withdraws 112)
    ∷ calls (runs (run 113)) ∷ calls (runs (run 112)) ∷ []

book : numbers (answers (asked the_book) fresh_book events) ≡ record { before = 0; paid = pos 5; after = 27; withdrawn = 10 }
unfolding events answers book_call fresh_book lawful perform ask on_call
book = refl

module _ (s : Store) (p q : Changed) (first : Answer) (l : List ℤ) (o : List ℕ) (x : Changed) (second : Answer) (l' : List ℤ) (o' : List ℕ) (third : Answer)
    (l'' : List ℤ) (o'' : List ℕ) where
  abbrev steps : List (Step Store Event)
  steps =
      changing (defines 112 0 (bytes "('/5';)")) p ∷ changing (defines 113 0 (bytes "(p;)")) q ∷ ran (runs (run 113)) first l o ∷ changing (withdraws 112) x
      ∷ ran (runs (run 113)) second l' o' ∷ ran (runs (run 112)) third l'' o'' ∷ []

  pub shown : stored s ≡ fresh_store → Promised stored (asked the_store) s steps
      → ◌≡◌ {A = Numbers} (record { before = first.report.number; paid = get_or l 0 (pos 0); after = second.report.number; withdrawn = third.report.number })
      (record { before = 0; paid = pos 5; after = 27; withdrawn = 10 })
  unfolding events
  shown e h = ap numbers (demand-3 s steps e h).replies ∙ book
