-- The turns that the instructions make.
use Rattle.std.specs.Prelude.{◌≡◌, Bool, List, ℕ, ◌+◌, ℤ}
use Rattle.language.specs.Syntax.{Operator, operator}
use Rattle.language.specs.Effects.{State, Effect, pushed}
use Rattle.language.specs.Machine.{Decoded, code, operate_at, Kind, mark, decode}
use Rattle.language.specs.Tables.{stands_at, barred_at}
use Rattle.operands.specs.declared.cells.Code.{Code}
use Rattle.operands.specs.Operands.{table_in}
use Rattle.operands.specs.Loop.{Turn, back, effect_turn, decoded_turn}
use Rattle.operands.specs.Held.{Held, state_of, configuration_of, outcome}

-- A function makes the turn `next`: whatever else is held, what it leaves comes to that turn from what it found.
abbrev pub Turns : (Held → Turn) → (Held → Held) → (Held → Held) → Type 0
Turns next before after = (h : Held) → outcome (after h) ≡ next (before h)

-- a turn where the due cell decodes so
abbrev pub decoded_as : Decoded → Held → Turn
decoded_as d h = decoded_turn (stands_at h.used) (barred_at h.permissions h.role) d (configuration_of h)

-- a turn where the due cell of the table at this place holds a mark of this kind
abbrev pub mark_at : List ℤ → Code → Kind → Held → Turn
mark_at c p k h = decoded_as (mark (table_in c p) h.machine.at k) h

-- a turn at the due cell of that table, whatever it holds
abbrev pub due_at : List ℤ → Code → Held → Turn
due_at c p h = decoded_as (decode (table_in c p) h.machine.at) h

-- a turn at an operator's one cell
abbrev pub operator_turn : Operator → Held → Turn
operator_turn o h = decoded_as (code (operate_at (operator o) (h.machine.at + 1))) h

-- a step to cell q with this effect
abbrev pub effected : (State → Effect) → ℕ → Held → Turn
effected e q h = effect_turn (e (state_of h)) q (configuration_of h)

-- a step to cell q with a push of v
abbrev pub pushing : ℤ → ℕ → Held → Turn
pushing v q h = effected (λ s. pushed s v) q h

-- the code of the letter ends with this truth
abbrev pub returned : Bool → Held → Turn
returned t h = back (configuration_of h).frames t (state_of h) h.machine.left
