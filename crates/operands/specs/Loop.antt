-- The table machine as a loop: where it stands, and one turn of it. A turn is one step, or one return.
use Rattle.std.specs.Prelude.{Bool, true, false, cond, List, [], ◌∷◌, ℕ, ◌-◌, length, eqb}
use Rattle.language.specs.declared.Ending.{Ending}
use Rattle.language.specs.declared.Ending.TheVariants.{Spent, Damaged}
use Rattle.language.specs.Layout.{code_start}
use Rattle.language.specs.Effects.{State, Effect, goes, stops, Verdict, answers, stops_by, perform, ask, on_call}
use Rattle.language.specs.Meaning.{Outcome, ended, stopped}
use Rattle.language.specs.Machine.{Instruction, transfer, fail, operate_at, test_at, call_at, Decoded, last, damaged, code, Frame, pick, present}

-- where the loop stands: the due cell of a letter, the open calls, the state, and the steps that are left
pub record Configuration : Type 0 where
  pub letter : ℕ
  pub cell : ℕ
  pub frames : List Frame
  pub state : State
  pub left : ℕ

-- a configuration from its parts
abbrev pub configuration : ℕ → ℕ → List Frame → State → ℕ → Configuration
configuration l q fr s r = record { letter = l; cell = q; frames = fr; state = s; left = r }

-- a turn goes on in the same letter's code, enters a letter's code by a call or a return, or finishes the run
pub data Turn : Type 0 where
  continues enters : Configuration → Turn
  finishes : Outcome → Turn

-- the run stops, with the state and the steps that are left
abbrev pub halt : Ending → Configuration → Turn
halt e m = finishes (stopped e m.state m.left)

-- the code of a letter ends with truth t: "The return itself is none", a step
abbrev pub back : List Frame → Bool → State → ℕ → Turn
back [] t s r = finishes (ended t s r)
back (f ∷ fr) t s r = enters (configuration f.letter (pick t f.next f.exit) fr s r)

-- a step to cell q with state s
abbrev pub onward : ℕ → State → Configuration → Turn
onward q s m = continues (configuration m.letter q m.frames s (m.left - 1))

-- a step to cell n with what an operation did
abbrev pub effect_turn : Effect → ℕ → Configuration → Turn
effect_turn (goes s) n m = onward n s m
effect_turn (stops e) n m = halt e m

-- a step to cell n where a predicate answers true, and to f where it answers false
abbrev pub verdict_turn : Verdict → ℕ → ℕ → Configuration → Turn
verdict_turn (answers t s) n f m = onward (pick t n f) s m
verdict_turn (stops_by e) n f m = halt e m

-- the call of letter a, which stands or not, and is barred or not: the order of what stops it is said by `on_call`
abbrev pub call_turn : Bool → Bool → ℕ → ℕ → ℕ → Configuration → Turn
call_turn u b a n f m =
    on_call (present u) b (length m.frames) (λ e. halt e m)
    (λ _. enters (configuration a code_start (record { letter = m.letter; next = n; exit = f } ∷ m.frames) m.state (m.left - 1)))

-- where these letters stand, and these are barred to the caller
module _ (stands barred : ℕ → Bool) where
  -- a turn at an instruction, with a step left
  abbrev pub instruction_turn : Instruction → Configuration → Turn
  instruction_turn (transfer n) m = onward n m.state m
  instruction_turn fail m = back m.frames false m.state (m.left - 1)
  instruction_turn (operate_at o n) m = effect_turn (perform o m.state) n m
  instruction_turn (test_at p n f) m = verdict_turn (ask m.letter p m.state) n f m
  instruction_turn (call_at a n f) m = call_turn (stands a) (barred a) a n f m

  -- a turn where the due cell decodes so: "29, 20, then for that mark .."
  abbrev pub decoded_turn : Decoded → Configuration → Turn
  decoded_turn last m = back m.frames true m.state m.left
  decoded_turn damaged m = halt Damaged m
  decoded_turn (code i) m = cond (eqb m.left 0) (halt Spent m) (instruction_turn i m)
