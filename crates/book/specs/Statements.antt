-- What is proved about calls of any store, each statement with the name of its proof. What is proved of histories stands in Demand3.
use Rattle.std.specs.Prelude.{◌≡◌, ℕ, ◌<◌, true, false, length}
use Rattle.language.specs.Limits.{max_cells, max_letters, store_cells}
use Rattle.book.specs.Calls.{Call, lent_list, lent_output}
use Rattle.book.specs.Replies.{leaves}
use Rattle.book.specs.Refusals.{is_refusal}
use Rattle.book.specs.Store.{Store, Entry, entry_at, with_entry, store_call}

-- A refused call of any store leaves the store, the list and the output as they were, and every other figure is 0. proofs/Store `refusal-keeps`
abbrev pub RefusalKeeps : Type 0
RefusalKeeps =
    (st : Store) (c : Call) → is_refusal (store_call st c).reply.report.number ≡ true
    → store_call st c
    ≡ leaves st
    (record {
      report = record { number = (store_call st c).reply.report.number; truth = false; steps = 0; height = 0; taken = 0; written = 0 };
      list = lent_list c;
      output = lent_output c;
      variables = st.variables;
    })

-- a store whose lists have room for 26 letters
pub record Spacious (st : Store) : Type 0 where
  pub cells : length st.cells ≡ store_cells
  pub used : length st.used ≡ max_letters
  pub permissions : length st.permissions ≡ max_letters

-- a table that fills its letter's 250 cells
abbrev pub Full : Entry → Type 0
Full e = length e.table.cells ≡ max_cells

-- The entry of a letter is the one put there; another letter's is the one that was there; and entries of two letters may be put in either order.
-- proofs/Store `entry-same`, `entry_other`, `entry-commute`
abbrev pub EntrySame : Type 0
EntrySame = (st : Store) (a : ℕ) (e : Entry) → Spacious st → a < max_letters → Full e → entry_at (with_entry st a e) a ≡ e

-- another letter's entry is the one that was there
abbrev pub EntryOther : Type 0
EntryOther =
    (st : Store) (a b : ℕ) (e : Entry) → Spacious st → a < max_letters → Full e → (b ≡ a → ⊥) → entry_at (with_entry st a e) b ≡ entry_at st b

-- entries of two letters may be put in either order
abbrev pub EntryCommute : Type 0
EntryCommute =
    (st : Store) (a b : ℕ) (e f : Entry) → Spacious st → a < max_letters → b < max_letters → Full e → Full f → (b ≡ a → ⊥)
    → with_entry (with_entry st a e) b f ≡ with_entry (with_entry st b f) a e
