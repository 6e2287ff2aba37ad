-- A run of any store: refused by its tests, or what the interpreter reports.
use mathlib.Core.Path.{◌≡◌, refl, sym, ap, ◌∙◌}
use Prim.Native.Nat.{ℕ, zero, suc, ◌≤◌}
use native.Mathlib.Omega.{arith}
use mathlib.Core.Bool.{Bool, true, false, cond, ◌&&◌}
use mathlib.Core.List.{List, [], ◌∷◌, ◌++◌}
use lib.Dec.{leb, eqb}
use lib.IntN.{ℤ}
use lib.ListN.{get_or}
use borrow.Author.Tests.{eqb-true, leb-true}
use Rattle.language.specs.Limits.{max_cells}
use Rattle.language.specs.Letters.{letter_index}
use Rattle.language.specs.Values.{lawful}
use Rattle.language.specs.Effects.{start}
use Rattle.language.specs.Tables.{execute, sound_count, sound_used, sound_permissions}
use Rattle.language.proofs.Tests.{first-true, second-true}
use Rattle.std.specs.Prelude.{Result, Ok, Err}
use Rattle.book.specs.declared.Report.{Report}
use Rattle.book.specs.declared.Refusal.{Refusal}
use Rattle.admission.specs.Admission.{refusal_in}
use Rattle.book.specs.Calls.{Run, runs}
use Rattle.book.specs.Replies.{leaves, plain, replied, reported, tells}
use Rattle.book.specs.Refusals.{refusal_number, first, zero_or, role_tests, closing, tests, refusal}
use Rattle.book.specs.Store.{Store, store_of, sound_store, with_variables, store_ran, store_accepts, store_view, store_call, answered}
use Rattle.book.proofs.Refusals.{refusal-not-zero, Free, free-run}
use Rattle.book.proofs.Store.{call-refused, call-accepted}
use Rattle.runner.specs.Figures.{Admitted}

-- ── used-cell counts ────────────────────────────────────────────────────────────────────────────

-- no used-cell count of a sound store is over 250
count_most : (n : ℕ) → sound_count n ≡ true → n ≤ max_cells
unfolding sound_count
count_most n e = go (eqb n 0) refl e
  where
    go : (u : Bool) → eqb n 0 ≡ u → cond u true (leb 3 n && leb n max_cells) ≡ true → n ≤ max_cells
    go true q e = omega (arith, eqb-true n 0 q)
    go false q e = leb-true n max_cells (second-true (leb 3 n) (leb n max_cells) e)

most : (u : List ℕ) → sound_used u ≡ true → (a : ℕ) → get_or u a 0 ≤ max_cells
unfolding sound_used
most [] e a = omega arith
most (n ∷ u) e zero = count_most n (first-true (sound_count n) (sound_used u) e)
most (n ∷ u) e (suc a) = most u (second-true (sound_count n) (sound_used u) e) a

pub sound-most : (st : Store) → sound_store st ≡ true → (a : ℕ) → get_or st.used a 0 ≤ max_cells
unfolding sound_store
sound-most st h =
    most st.used
    (first-true (sound_used st.used) (sound_permissions st.permissions)
    (first-true (sound_used st.used && sound_permissions st.permissions) (lawful st.variables) h))

-- ── a run ───────────────────────────────────────────────────────────────────────────────────────

-- the tests of a run came to the answer
module _ (st : Store) (x : Run) {answer : Result Unit Refusal}
    (asked : first (role_tests (store_view st) x.letter x.role ++ closing (store_view st) x) ≡ refusal_in answer) where
  pub refused : (f : Refusal) (r : Report) → answer ≡ Err f → r ≡ plain (refusal_number f) → answered st r x.list x.output ≡ store_call st (runs x)
  unfolding tells tests
  refused f r a e =
      ap (λ (y : Report). answered st y x.list x.output) e
      ∙ call-refused st (runs x) (refusal_number f) (sym (ap zero_or (asked ∙ ap refusal_in a))) (refusal-not-zero f)

  pub admitted : (u : Unit {0}) → answer ≡ Ok u → Admitted st (runs x)
  unfolding refusal tests
  admitted u a = asked ∙ ap refusal_in a

-- no refusal fits
module _ (st : Store) (x : Run) (h : Admitted st (runs x)) where
  pub free : Free (store_view st) x
  free = free-run (store_view st) x h

  -- the list places, output and variables that the interpreter leaves after a run of the letter with index a
  pub runs_on : (a : ℕ) (r : Report) (p : List ℤ) (o : List ℕ) (w : List ℤ) → a ≡ letter_index x.letter
      → replied r p o w
      ≡ reported st.variables x.allowance
      (execute st.cells st.used st.permissions x.role a x.allowance (start st.variables x.inputs x.output))
      → answered (store_of st.cells st.used st.permissions w) r p o ≡ store_call st (runs x)
  unfolding store_accepts store_ran with_variables refusal
  runs_on a r p o w q e =
      let f =
      e
      ∙ ap (λ b. reported st.variables x.allowance
      (execute st.cells st.used st.permissions x.role b x.allowance (start st.variables x.inputs x.output))) q in
      (λ i. leaves (store_of st.cells st.used st.permissions (f i).variables) (f i)) ∙ call-accepted st (runs x) h
