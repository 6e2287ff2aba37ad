-- A worked run with a call and a return, from the cells on. Every number is written out here and none is taken from a definition.
use Rattle.std.specs.Prelude.{◌≡◌, cond, List, [], ◌∷◌, ◌++◌, ℕ, ℤ, pos, replicate}
use Rattle.language.specs.Answers.{ending_number}
use Rattle.language.specs.Effects.{start}
use Rattle.language.specs.Meaning.{Outcome, ended, stopped}
use Rattle.language.specs.Trials.{neg}
use Rattle.operands.specs.Loop.{configuration, Turn, continues, enters, finishes}
use Rattle.interpreter.specs.Fetching.{Progress, next, over, course, starts_at, goes_on}

-- letter a has the text `(b;)`, and letter b `(;)`
abbrev pub cells : List ℤ
cells = (pos 2000 ∷ neg 98 ∷ pos 5 ∷ pos 6 ∷ pos 0 ∷ pos 1 ∷ []) ++ replicate 244 (pos 0) ++ (pos 2000 ∷ pos 4 ∷ pos 0 ∷ pos 1 ∷ [])

abbrev pub counts : List ℕ
counts = 6 ∷ 4 ∷ replicate 24 0

-- how an outcome is shown: 1 or 0 for true or false, or the ending's number; and the steps that are left
abbrev pub outcome : Outcome → List ℕ
outcome (ended t s r) = cond t 1 0 ∷ r ∷ []
outcome (stopped e s r) = ending_number e ∷ r ∷ []

-- what is held: the start and the used-cell count that were fetched, the letter, and the due cell
abbrev pub shown : Progress → List ℕ
shown (next s) = s.pair.base ∷ s.pair.end ∷ s.configuration.letter ∷ s.configuration.cell ∷ []
shown (over o) = outcome o

-- after n turns of a run of a with an allowance of 100, where b has the permission k, by a caller with the role r
abbrev pub held_by : ℕ → ℕ → ℕ → List ℕ
held_by k r n = shown (course cells counts (0 ∷ k ∷ replicate 24 0) r n (starts_at 0 100 [] [] []))

-- where b is open, by a cashier
abbrev pub held : ℕ → List ℕ
held n = held_by 0 0 n

-- each, with what it is
abbrev pub Hold : List (List ℕ × List ℕ) → Type 0
Hold [] = Unit {0}
Hold ((x, y) ∷ l) = (x ≡ y) × Hold l

-- The run starts in a, enters b at the call, goes on there, and goes back to a at the return.
abbrev pub courses : List (List ℕ × List ℕ)
courses =
    (held 0, 0 ∷ 6 ∷ 0 ∷ 2 ∷ []) ∷ (held 1, 250 ∷ 4 ∷ 1 ∷ 2 ∷ []) ∷ (held 2, 250 ∷ 4 ∷ 1 ∷ 4 ∷ []) ∷ (held 3, 0 ∷ 6 ∷ 0 ∷ 4 ∷ [])
    ∷ (held 4, 0 ∷ 6 ∷ 0 ∷ 6 ∷ []) ∷ (held 5, 1 ∷ 97 ∷ []) ∷ (held 6, 1 ∷ 97 ∷ [])
    -- where b is a steward's, a cashier's run stops at the call, and a steward's enters b
    ∷ (held_by 1 0 0, 0 ∷ 6 ∷ 0 ∷ 2 ∷ []) ∷ (held_by 1 0 1, 34 ∷ 100 ∷ []) ∷ (held_by 1 1 0, 0 ∷ 6 ∷ 0 ∷ 2 ∷ []) ∷ (held_by 1 1 1, 250 ∷ 4 ∷ 1 ∷ 2 ∷ []) ∷ []

-- where a turn comes to: the letter and the due cell
abbrev pub placed : Turn → List ℕ
placed (continues m) = m.letter ∷ m.cell ∷ []
placed (enters m) = 99 ∷ []
placed (finishes o) = outcome o

-- at most nine turns from cell q of a, over counts u and with the pair of these two
abbrev pub from : List ℕ → ℕ → ℕ → ℕ → List ℕ
from u base end q = placed (goes_on cells u [] 0 (record { base = base; end = end }) 9 (configuration 0 q [] (start [] [] []) 100))

-- The pair says which table is obeyed, whatever the store's counts are: a's to its last cell, where a return is due; a's at its last `)`, where one is due
-- too; a's at its call; a's with a count too few, which is damage; b's in place of a's.
abbrev pub stretches : List (List ℕ × List ℕ)
stretches =
    (from counts 0 6 4, 0 ∷ 6 ∷ []) ∷ (from [] 0 6 4, 0 ∷ 6 ∷ []) ∷ (from counts 0 6 5, 0 ∷ 5 ∷ []) ∷ (from counts 0 6 2, 0 ∷ 2 ∷ []) ∷ (from counts 0 5 4, 29 ∷ 100 ∷ [])
    ∷ (from counts 250 4 2, 0 ∷ 4 ∷ []) ∷ []
