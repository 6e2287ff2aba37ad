-- The tables of all letters in one list of cells, with lists of their used-cell counts and of their marks; and the table machine over them.
use Rattle.std.specs.Prelude.{ℕ, ◌*◌, Bool, true, cond, not, ◌&&◌, List, [], ◌∷◌, ℤ, get_or, take, drop, eqb}
use Rattle.language.specs.declared.Table.{Table}
use Rattle.language.specs.Between.{between}
use Rattle.language.specs.Limits.{max_cells}
use Rattle.language.specs.Roles.{permission_at, is_permission, bars}
use Rattle.language.specs.Layout.{code_start}
use Rattle.language.specs.Effects.{State}
use Rattle.language.specs.Meaning.{Outcome}
use Rattle.language.specs.Machine.{Decoded, decode, arrive, run}

-- the table whose cells start at place `base` of the list and whose used-cell count is `end`
abbrev pub table_from : List ℤ → ℕ → ℕ → Table
table_from c base end = record { used = end; cells = take max_cells (drop base c) }

-- the table of letter a: its cells are those from 250 a on
abbrev pub table_at : List ℤ → List ℕ → ℕ → Table
table_at c u a = table_from c (a * max_cells) (get_or u a 0)

-- cell q of letter a, decoded
abbrev pub decode_at : List ℤ → List ℕ → ℕ → ℕ → Decoded
decode_at c u a q = decode (table_at c u a) q

-- "a cleared letter is one whose count is 0"
abbrev pub stands_at : List ℕ → ℕ → Bool
stands_at u a = not (eqb (get_or u a 0) 0)

-- letter a, by its permission of the permissions k, is not for a caller with the role r
abbrev pub barred_at : List ℕ → ℕ → ℕ → Bool
barred_at k r a = bars r (permission_at k a)

-- what the machine comes to from cell 2 of letter a, for a caller with the role r, with n steps
unfoldable pub execute : List ℤ → List ℕ → List ℕ → ℕ → ℕ → ℕ → State → Outcome
unfolding run arrive bars
execute c u k r a n s =
    run (decode_at c u) (stands_at u) (barred_at k r) n (arrive (decode_at c u) (stands_at u) (barred_at k r) [] a code_start) s

-- "bad store: a used count neither 0 nor 3 to 250"; one count, and all of them
unfoldable pub sound_count : ℕ → Bool
sound_count n = cond (eqb n 0) true (between 3 max_cells n)

-- every count of a list is sound
unfoldable pub sound_used : List ℕ → Bool
unfolding sound_count
sound_used [] = true
sound_used (n ∷ l) = sound_count n && sound_used l

-- Document 02, U7: "The bad-store test covers a mark with any other value." Every mark of a list is one of the two.
unfoldable pub sound_permissions : List ℕ → Bool
unfolding is_permission
sound_permissions [] = true
sound_permissions (k ∷ l) = is_permission k && sound_permissions l
