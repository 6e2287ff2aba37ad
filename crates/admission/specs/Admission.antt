-- What the functions that admit a call answer.
use Rattle.std.specs.Prelude.{◌≡◌, ℕ, Result, Ok, Err, List, [], ℤ}
use Rattle.std.proofs.Math.Option.{Option, none, some}
use Rattle.book.specs.declared.Refusal.{Refusal}
use Rattle.book.specs.Calls.{Run}
use Rattle.book.specs.Refusals as Definition
use Rattle.book.specs.Refusals.{first, closing}
use Rattle.book.specs.Store.{store_of, store_view}
use Rattle.admission.specs.declared.View.{View}

-- the refusal that an answer gives, if it gives one
abbrev pub refusal_in : Result Unit Refusal → Option Refusal
refusal_in (Ok u) = none
refusal_in (Err r) = some r

-- what is asked of a store with these cells
abbrev pub with_cells : View → List ℤ → Definition.View
with_cells view cells = store_view (store_of cells view.used.now view.permissions.now view.vars.now)

-- The answer r is what the tests ts come to: Ok, or the first refusal that fits. They are asked of a store with this view's used-cell counts, permissions
-- and variables, whatever its cells.
abbrev pub Decides : View → (Definition.View → List (Option Refusal)) → Result Unit Refusal → Type 0
Decides view ts r = (cells : List ℤ) → first (ts (with_cells view cells)) ≡ refusal_in r

-- a run of this letter by a caller with this role; nothing else that a run brings is asked for
abbrev pub run_by : ℕ → ℕ → List ℤ → List ℤ → Run
run_by letter role inputs list = record { letter = letter; role = role; allowance = 0; inputs = inputs; list = list; output = [] }

-- what closes the tests of a run comes to r, whatever the cells and variables
abbrev pub Closes : View → Run → Result Unit Refusal → Type 0
Closes view x r =
    (cells variables : List ℤ) → first (closing (store_view (store_of cells view.used.now view.permissions.now variables)) x) ≡ refusal_in r
