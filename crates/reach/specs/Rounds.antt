-- What the code's functions answer: the calls of all letters in one array, and marks that go round by round.
use Rattle.std.specs.Prelude.{◌≡◌, ℕ, zero, suc, ◌+◌, ◌*◌, ◌<◌, Bool, true, cond, ◌||◌, List, [], map, ℤ, get_or, replicate}
use Rattle.language.specs.Limits.{max_letters}
use Rattle.language.specs.Tables.{sound_count, sound_used}
use Rattle.book.specs.Store.{Store, store_of}
use Rattle.marks.specs.Formats.{call_places, ticked}
use Rattle.reach.specs.Reach.{called_by, flags_by, is_flagged, each_of, readable}

-- ── the calls of all letters ────────────────────────────────────────────────────────────────────

-- the store of these cells and counts; what its tables call depends on nothing else
abbrev pub tables : List ℤ → List ℕ → Store
tables c u = store_of c u [] []

-- the array after the first n letters are read: letter a's row starts at place 26 a
unfoldable pub rows : Store → ℕ → List ℕ
rows st zero = replicate call_places 0
rows st (suc n) = ticked (rows st n) (n * max_letters) (called_by st n)

-- letter a calls letter b, by the array
abbrev pub in_array : List ℕ → ℕ → ℕ → Bool
in_array c a b = is_flagged c (a * max_letters + b)

-- a letter's index, and its used-cell count is sound
pub record Counted (u : List ℕ) (a : ℕ) : Type 0 where
  pub letter : a < max_letters
  pub count : sound_count (get_or u a 0) ≡ true

-- one letter was read
pub record ReadsOne (st : Store) (a : ℕ) (before : List ℕ) (r : Bool) (after : List ℕ) : Type 0 where
  pub sound : r ≡ readable st a
  pub calls : after ≡ ticked before (a * max_letters) (called_by st a)

-- before all are read: the counts are sound, and the array is clear
pub record Clear (u c : List ℕ) : Type 0 where
  pub counts : sound_used u ≡ true
  pub array : c ≡ replicate call_places 0

-- all letters were read
pub record ReadsAll (st : Store) (r : Bool) (after : List ℕ) : Type 0 where
  pub sound : r ≡ each_of max_letters (readable st)
  pub calls : r ≡ true → after ≡ rows st max_letters

-- ── marks ───────────────────────────────────────────────────────────────────────────────────────

-- a mark for each letter, 0 or 1
abbrev pub Flags : List ℕ → Type 0
Flags m = m ≡ flags_by max_letters (is_flagged m)

-- the marks of letters, 1 where the list says true
abbrev pub marks_of : List Bool → List ℕ
marks_of l = map (λ u. cond u 1 0) l

-- what is marked, and the row of the array that starts at place `from`
unfoldable pub with_row : List ℕ → ℕ → List ℕ → List ℕ
with_row c from m = flags_by max_letters (λ b. is_flagged m b || is_flagged c (from + b))
