-- What a run keeps: a property of states that every operation and predicate keeps holds of the state that any run over any cells leaves.
use Prim.Native.Nat.{ℕ, zero, suc}
use mathlib.Core.Bool.{Bool, true, false, cond}
use mathlib.Core.Option.{Option, none, some}
use mathlib.Core.List.{List, [], ◌∷◌}
use lib.ListN.{length}
use lib.Dec.{ltb}
use Rattle.language.specs.declared.Ending.TheVariants.{DeepCalls}
use Rattle.language.specs.Limits.{max_calls}
use Rattle.language.specs.Syntax.{Operation, Predicate}
use Rattle.language.specs.Effects.{State, Effect, goes, stops, Verdict, answers, stops_by, perform, ask}
use Rattle.language.specs.Meaning.{Outcome, ended, stopped}
use Rattle.language.specs.Machine.{Instruction, transfer, fail, operate_at, test_at, call_at, Decoded, last, damaged, code, Frame, Due, over, broken, due, pick, present, arrived, on_effect, on_verdict, return, arrive, turn, run}
use Rattle.language.specs.Effects.{on_call}

-- ── code whose operations have a property Q ─────────────────────────────────────────────────────

module _ (Q : Operation → Type 0) where
  -- an instruction whose operation has it
  abbrev pub Coded : Instruction → Type 0
  Coded (transfer n) = Unit {0}
  Coded fail = Unit {0}
  Coded (operate_at o n) = Q o
  Coded (test_at p n f) = Unit {0}
  Coded (call_at a n f) = Unit {0}

  -- a decoded cell whose operation has it
  unfoldable pub DecodedSo : Decoded → Type 0
  DecodedSo last = Unit {0}
  DecodedSo damaged = Unit {0}
  DecodedSo (code i) = Coded i

  DueSo : Due → Type 0
  DueSo (over t) = Unit {0}
  DueSo broken = Unit {0}
  DueSo (due l i fr) = Coded i

  due-over : (t : Bool) → DueSo (over t)
  unfolding DueSo
  due-over t = tt

-- ── states with a property P ────────────────────────────────────────────────────────────────────

module _ (P : State → Type 0) where
  -- an effect that leaves such a state
  abbrev pub EffectSo : Effect → Type 0
  EffectSo (goes s) = P s
  EffectSo (stops e) = Unit {0}

  -- a verdict that leaves such a state
  abbrev pub VerdictSo : Verdict → Type 0
  VerdictSo (answers t s) = P s
  VerdictSo (stops_by e) = Unit {0}

  -- an outcome with such a state
  abbrev pub OutcomeSo : Outcome → Type 0
  OutcomeSo (ended t s r) = P s
  OutcomeSo (stopped e s r) = P s

  pub effect-cond : (u : Bool) (x y : Effect) → EffectSo x → EffectSo y → EffectSo (cond u x y)
  effect-cond true x y h k = h
  effect-cond false x y h k = k

  pub verdict-cond : (u : Bool) (x y : Verdict) → VerdictSo x → VerdictSo y → VerdictSo (cond u x y)
  verdict-cond true x y h k = h
  verdict-cond false x y h k = k

  on_effect_so : (x : Effect) (s : State) (r : ℕ) (k : State → Outcome) → P s → EffectSo x → ((s' : State) → P s' → OutcomeSo (k s'))
      → OutcomeSo (on_effect x s r k)
  unfolding on_effect
  on_effect_so (goes s') s r k p h f = f s' h
  on_effect_so (stops e) s r k p h f = p

  on-verdict : (x : Verdict) (s : State) (r : ℕ) (k : Bool → State → Outcome) → P s → VerdictSo x
      → ((t : Bool) (s' : State) → P s' → OutcomeSo (k t s')) → OutcomeSo (on_verdict x s r k)
  unfolding on_verdict
  on-verdict (answers t s') s r k p h f = f t s' h
  on-verdict (stops_by e) s r k p h f = p

  outcome-cond : (u : Bool) (x y : Outcome) → OutcomeSo x → OutcomeSo y → OutcomeSo (cond u x y)
  outcome-cond true x y h k = h
  outcome-cond false x y h k = k

  on_call_so : {A : Type 0} (x : Option A) (b : Bool) (d : ℕ) (s : State) (r : ℕ) (k : A → Outcome) → P s → ((v : A) → OutcomeSo (k v))
      → OutcomeSo (on_call x b d (λ e. stopped e s r) k)
  unfolding on_call
  on_call_so none b d s r k p h = p
  on_call_so (some v) true d s r k p h = p
  on_call_so (some v) false d s r k p h = outcome-cond (ltb d max_calls) (k v) (stopped DeepCalls s r) (h v) p

-- ── a run ───────────────────────────────────────────────────────────────────────────────────────

module _ (P : State → Type 0) (Q : Operation → Type 0)
    (performs : (o : Operation) (s : State) → Q o → P s → EffectSo P (perform o s))
    (asks : (l : ℕ) (p : Predicate) (s : State) → P s → VerdictSo P (ask l p s))
    (at : ℕ → ℕ → Decoded) (stands barred : ℕ → Bool) (coded : (l q : ℕ) → DecodedSo Q (at l q)) where
  due-arrived : (d : Decoded) (l : ℕ) (fr : List Frame) (back : Unit {0} → Due) → DecodedSo Q d → DueSo Q (back tt) → DueSo Q (arrived d l fr back)
  unfolding arrived DecodedSo DueSo
  due-arrived last l fr back h k = k
  due-arrived damaged l fr back h k = tt
  due-arrived (code i) l fr back h k = h

  due-return : (fr : List Frame) (t : Bool) → DueSo Q (return at stands barred fr t)
  unfolding return
  due-return [] t = due-over Q t
  due-return (f ∷ fr) t =
      due-arrived (at f.letter (pick t f.next f.exit)) f.letter fr (λ _. return at stands barred fr true)
      (coded f.letter (pick t f.next f.exit)) (due-return fr true)

  due-arrive : (fr : List Frame) (l q : ℕ) → DueSo Q (arrive at stands barred fr l q)
  unfolding arrive
  due-arrive fr l q = due-arrived (at l q) l fr (λ _. return at stands barred fr true) (coded l q) (due-return fr true)

  turn-keeps : (r : ℕ) (go : Due → State → Outcome) (l : ℕ) (fr : List Frame) (i : Instruction) (s : State) → Coded Q i → P s
      → ((d : Due) (s' : State) → DueSo Q d → P s' → OutcomeSo P (go d s')) → OutcomeSo P (turn at stands barred r go l fr i s)
  unfolding turn
  turn-keeps r go l fr (transfer n) s c h f = f _ s (due-arrive fr l n) h
  turn-keeps r go l fr fail s c h f = f _ s (due-return fr false) h
  turn-keeps r go l fr (operate_at o n) s c h f =
      on_effect_so P (perform o s) s (suc r) _ h (performs o s c h) (λ s' h'. f _ s' (due-arrive fr l n) h')
  turn-keeps r go l fr (test_at p n e) s c h f =
      on-verdict P (ask l p s) s (suc r) _ h (asks l p s h) (λ t s' h'. f _ s' (due-arrive fr l (pick t n e)) h')
  turn-keeps r go l fr (call_at a n e) s c h f =
      on_call_so P (present (stands a)) (barred a) (length fr) s (suc r) _ h (λ _. f _ s (due-arrive _ a 2) h)

  run-keeps : (r : ℕ) (d : Due) (s : State) → DueSo Q d → P s → OutcomeSo P (run at stands barred r d s)
  unfolding run DueSo
  run-keeps zero (over t) s k h = h
  run-keeps zero broken s k h = h
  run-keeps zero (due l i fr) s k h = h
  run-keeps (suc r) (over t) s k h = h
  run-keeps (suc r) broken s k h = h
  run-keeps (suc r) (due l i fr) s k h = turn-keeps r (run at stands barred r) l fr i s k h (λ d s' k' h'. run-keeps r d s' k' h')

  -- from cell 2 of a letter
  pub letter-keeps : (a n : ℕ) (s : State) → P s → OutcomeSo P (run at stands barred n (arrive at stands barred [] a 2) s)
  letter-keeps a n s h = run-keeps n (arrive at stands barred [] a 2) s (due-arrive [] a 2) h
