-- A run comes only to letters that are for its caller: no turn leaves them.
use mathlib.Core.Path.{◌≡◌, refl}
use mathlib.Core.Bool.{Bool, true, false, cond}
use mathlib.Core.List.{List, [], ◌∷◌}
use Prim.Native.Nat.{ℕ, ◌-◌}
use lib.ListN.{length}
use lib.Dec.{ltb, eqb}
use Rattle.language.specs.declared.Ending.TheVariants.{Spent, DeepCalls}
use Rattle.language.specs.Limits.{max_calls}
use Rattle.language.specs.Layout.{code_start}
use Rattle.language.specs.Effects.{State, Effect, goes, stops, Verdict, answers, stops_by, perform, ask, on_call}
use Rattle.language.specs.Machine.{Instruction, transfer, fail, operate_at, test_at, call_at, Decoded, last, damaged, code, Frame}
use Rattle.operands.specs.Loop.{Configuration, configuration, Turn, continues, enters, finishes, halt, back, effect_turn, verdict_turn, call_turn, instruction_turn, decoded_turn}

-- where these letters are barred to the caller
module _ (barred : ℕ → Bool) where
  -- open calls of letters that are not
  abbrev Callers : List Frame → Type 0
  Callers [] = Unit {0}
  Callers (f ∷ fr) = (barred f.letter ≡ false) × Callers fr

  -- a configuration in such a letter, with such open calls
  pub record Allowed (m : Configuration) : Type 0 where
    pub letter : barred m.letter ≡ false
    pub callers : Callers m.frames

  -- a turn that comes to one, if it goes on
  abbrev pub AllowedTurn : Turn → Type 0
  AllowedTurn (continues m) = Allowed m
  AllowedTurn (enters m) = Allowed m
  AllowedTurn (finishes o) = Unit {0}

  back-allowed : (fr : List Frame) (t : Bool) (s : State) (r : ℕ) → Callers fr → AllowedTurn (back fr t s r)
  back-allowed [] t s r h = tt
  back-allowed (f ∷ fr) t s r h = record { letter = h.0; callers = h.1 }

  effect-allowed : (e : Effect) (q : ℕ) (m : Configuration) → Allowed m → AllowedTurn (effect_turn e q m)
  effect-allowed (goes s) q m h = record { letter = h.letter; callers = h.callers }
  effect-allowed (stops e) q m h = tt

  verdict-allowed : (v : Verdict) (a b : ℕ) (m : Configuration) → Allowed m → AllowedTurn (verdict_turn v a b m)
  verdict-allowed (answers u s) a b m h = record { letter = h.letter; callers = h.callers }
  verdict-allowed (stops_by e) a b m h = tt

  call-allowed : (u b : Bool) (a x y : ℕ) (m : Configuration) → barred a ≡ b → Allowed m → AllowedTurn (call_turn u b a x y m)
  unfolding on_call
  call-allowed false b a x y m e h = tt
  call-allowed true true a x y m e h = tt
  call-allowed true false a x y m e h = go (ltb (length m.frames) max_calls)
    where
      go : (v : Bool)
          → AllowedTurn
          (cond v (enters (configuration a code_start (record { letter = m.letter; next = x; exit = y } ∷ m.frames) m.state (m.left - 1))) (halt DeepCalls m))
      go true = record { letter = e; callers = (h.letter, h.callers) }
      go false = tt

  module _ (stands : ℕ → Bool) where
    instruction-allowed : (i : Instruction) (m : Configuration) → Allowed m → AllowedTurn (instruction_turn stands barred i m)
    instruction-allowed (transfer q) m h = record { letter = h.letter; callers = h.callers }
    instruction-allowed fail m h = back-allowed m.frames false m.state (m.left - 1) h.callers
    instruction-allowed (operate_at x q) m h = effect-allowed (perform x m.state) q m h
    instruction-allowed (test_at t a b) m h = verdict-allowed (ask m.letter t m.state) a b m h
    instruction-allowed (call_at a x y) m h = call-allowed (stands a) (barred a) a x y m refl h

    -- any turn
    pub decoded-allowed : (x : Decoded) (m : Configuration) → Allowed m → AllowedTurn (decoded_turn stands barred x m)
    decoded-allowed last m h = back-allowed m.frames true m.state m.left h.callers
    decoded-allowed damaged m h = tt
    decoded-allowed (code i) m h = go (eqb m.left 0)
      where
        go : (u : Bool) → AllowedTurn (cond u (halt Spent m) (instruction_turn stands barred i m))
        go true = tt
        go false = instruction-allowed i m h
