-- What the report is, test by test.
use mathlib.Core.Path.{◌≡◌, refl, ap, ◌∙◌}
use mathlib.Core.Bool.{true, false, ◌&&◌}
use mathlib.Core.Option.{none, some}
use mathlib.Core.List.{List, [], ◌∷◌}
use Prim.Native.Nat.{ℕ, zero, suc, ◌*◌, ◌<◌}
use lib.IntN.{ℤ}
use lib.ListN.{set, replicate}
use Rattle.language.specs.declared.Ending.TheVariants.{Damaged}
use Rattle.language.specs.Answers.{ending_number}
use Rattle.language.specs.Limits.{max_letters}
use Rattle.language.specs.Letters.{is_letter, letter_index}
use Rattle.language.specs.Tables.{stands_at, sound_used, sound_permissions}
use Rattle.language.specs.Values.{lawful}
use Rattle.language.proofs.Tests.{first-true}
use Rattle.book.specs.declared.Refusal.{Refusal}
use Rattle.book.specs.declared.Refusal.TheVariants.{NoSuchLetter, NotStanding, BadStore}
use Rattle.book.specs.Refusals.{refusal_number, first, not_standing, text_tests}
use Rattle.book.specs.Store.{Store, store_of, sound_store, store_view}
use Rattle.book.proofs.Refusals.{opened}
use Rattle.marks.specs.Formats.{ticked}
use Rattle.reach.specs.Reach.{called_by, calls, spread_by, most_calls, each_of, readable, reached_by, missing_of, reports, reach}
use Rattle.reach.specs.Rounds.{tables, in_array, rows, marks_of}
use Rattle.reach.proofs.Calls.{array-calls, rounds-same, start-marks}

module _ (st : Store) (l : ℕ) (r m : List ℕ) where
  pub store-refused : sound_store st ≡ false → reach st l r m ≡ reports (refusal_number BadStore) r m
  unfolding reach
  store-refused e = rw e

  module _ (sound : sound_store st ≡ true) where
    pub letter-refused : is_letter l ≡ false → reach st l r m ≡ reports (refusal_number NoSuchLetter) r m
    unfolding reach
    letter-refused e = rw (sound, e)

    module _ (letter : is_letter l ≡ true) where
      pub standing-refused : stands_at st.used (letter_index l) ≡ false → reach st l r m ≡ reports (refusal_number NotStanding) r m
      unfolding reach
      standing-refused e = rw (sound, letter, e)

      module _ (stands : stands_at st.used (letter_index l) ≡ true) where
        pub damaged-refused : each_of max_letters (readable st) ≡ false → reach st l r m ≡ reports (ending_number Damaged) r m
        unfolding reach
        damaged-refused e = rw (sound, letter, stands, e)

        pub given : each_of max_letters (readable st) ≡ true
            → reach st l r m ≡ reports 0 (reached_by st (letter_index l)) (missing_of st.used (reached_by st (letter_index l)))
        unfolding reach
        given e = rw (sound, letter, stands, e)

-- the counts of a sound store
pub sound-counts : (st : Store) → sound_store st ≡ true → sound_used st.used ≡ true
unfolding sound_store
sound-counts st h =
    first-true (sound_used st.used) (sound_permissions st.permissions) (first-true (sound_used st.used && sound_permissions st.permissions) (lawful st.variables) h)

-- ── by what 13, 1 and 10 came to ────────────────────────────────────────────────────────────────

module _ (st : Store) (l : ℕ) (r m : List ℕ) where
  pub refused : (x : Refusal) → first (text_tests (store_view st) l) ≡ some x → reports (refusal_number x) r m ≡ reach st l r m
  unfolding reach
  refused x e = rw e

  module _ (free : first (text_tests (store_view st) l) ≡ none) where
    pub damaged : each_of max_letters (readable st) ≡ false → reports (ending_number Damaged) r m ≡ reach st l r m
    unfolding reach
    damaged e = rw (free, e)

    pub reported : each_of max_letters (readable st) ≡ true
        → reports 0 (reached_by st (letter_index l)) (missing_of st.used (reached_by st (letter_index l))) ≡ reach st l r m
    unfolding reach
    reported e = rw (free, e)

    pub counted : sound_used st.used ≡ true
    counted = sound-counts st (opened (store_view st) l (not_standing (store_view st) l ∷ []) free).sound

-- what is read of a store's tables depends on its cells and counts alone
module _ (c : List ℤ) (u k : List ℕ) (v : List ℤ) where
  pub readable-tables : each_of max_letters (readable (tables c u)) ≡ each_of max_letters (readable (store_of c u k v))
  unfolding readable
  readable-tables = refl

  rows-tables : (n : ℕ) → rows (tables c u) n ≡ rows (store_of c u k v) n
  unfolding rows called_by
  rows-tables zero = refl
  rows-tables (suc n) = ap (λ m. ticked m (n * max_letters) (called_by (store_of c u k v) n)) (rows-tables n)

  -- what is followed in the array from a letter's own mark is what it reaches
  pub followed : (d marks : List ℕ) (a : ℕ) → sound_used u ≡ true → a < max_letters → d ≡ rows (tables c u) max_letters
      → marks ≡ spread_by (in_array d) most_calls (marks_of (set (replicate max_letters false) a true)) → marks ≡ reached_by (store_of c u k v) a
  unfolding reached_by
  followed d marks a h lt e f =
      let st = store_of c u k v in
      f
      ∙ ap (λ x. spread_by (in_array x) most_calls (marks_of (set (replicate max_letters false) a true))) (e ∙ rows-tables max_letters)
      ∙ ap (λ x. spread_by (in_array (rows st max_letters)) most_calls x) (start-marks a lt)
      ∙ rounds-same (in_array (rows st max_letters)) (calls st) most_calls _ (array-calls st h)
