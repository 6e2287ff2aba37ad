-- A code table read mark after mark, which is another thing than to run it: no transfer and no false exit is followed.
use Rattle.std.specs.Prelude.{ℕ, zero, suc, Bool, true, false, List, [], ◌∷◌}
use Rattle.language.specs.declared.Table.{Table}
use Rattle.language.specs.Limits.{max_cells}
use Rattle.language.specs.Layout.{code_start}
use Rattle.language.specs.Machine.{Instruction, transfer, fail, operate_at, test_at, call_at, Decoded, last, damaged, code, decode}

-- the cell after the code that stands at cell q: a transfer and the last `)` have one cell
abbrev pub next_cell : Instruction → ℕ → ℕ
next_cell (transfer n) q = suc q
next_cell fail q = suc q
next_cell (operate_at o n) q = n
next_cell (test_at p n f) q = n
next_cell (call_at a n f) q = n

-- what is met where a cell decodes so: the last cell and damage end the reading, after code it goes on
abbrev pub met : Decoded → (Instruction → List Decoded) → List Decoded
met last k = last ∷ []
met damaged k = damaged ∷ []
met (code i) k = code i ∷ k i

-- what reading "mark after mark" meets from cell q on, n cells at the most
unfoldable pub marks_from : ℕ → Table → ℕ → List Decoded
marks_from zero t q = []
marks_from (suc n) t q = met (decode t q) (λ i. marks_from n t (next_cell i q))

-- "reading .. mark after mark from cell 2". A mark has a cell of its own, so there are no more marks than cells.
unfoldable pub marks : Table → List Decoded
unfolding marks_from
marks t = marks_from max_cells t code_start

-- reading meets no "cell that 29 describes"
unfoldable pub undamaged : List Decoded → Bool
undamaged [] = true
undamaged (last ∷ l) = undamaged l
undamaged (damaged ∷ l) = false
undamaged (code i ∷ l) = undamaged l

-- the letter that an instruction calls, if it does, and then r
abbrev pub called : Instruction → List ℕ → List ℕ
called (transfer n) r = r
called fail r = r
called (operate_at o n) r = r
called (test_at p n f) r = r
called (call_at a n f) r = a ∷ r

-- the letters of the call marks among what is met, in their order
unfoldable pub calls_in : List Decoded → List ℕ
calls_in [] = []
calls_in (last ∷ l) = calls_in l
calls_in (damaged ∷ l) = calls_in l
calls_in (code i ∷ l) = called i (calls_in l)
