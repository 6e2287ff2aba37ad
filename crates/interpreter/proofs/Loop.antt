-- A turn of the loop does not change what the table machine comes to, keeps the machine within its limits, and comes nearer to the end.
use mathlib.Core.Path.{◌≡◌, refl}
use mathlib.Core.Bool.{Bool, true, false, cond}
use mathlib.Core.List.{List, [], ◌∷◌}
use Prim.Native.Nat.{ℕ, zero, suc, ◌+◌, ◌-◌, ◌%◌, ◌≤◌, ◌<◌}
use native.Mathlib.Omega.{arith}
use lib.ListN.{length, get_or}
use lib.IntN.{ℤ, pos, nat_abs}
use lib.Dec.{leb, ltb, eqb}
use borrow.Author.Tests.{ltb-true, eqb-false, ne_eqb}
use Rattle.language.specs.declared.Ending.{Ending}
use Rattle.language.specs.declared.Ending.TheVariants.{Spent, ListEmpty, ListFull, Range, ZeroDivisor, NoInput, PaperOut, DeepCalls}
use Rattle.language.specs.Answers.{ending_number}
use Rattle.language.specs.Limits.{max_letters, max_height, max_calls, max_variables}
use Rattle.language.specs.Layout.{code_start}
use Rattle.language.specs.Syntax.{Operator, absolute, discard, negate, copy, write, newline, input, add, subtract, multiply, divide, fetch, save}
use Rattle.language.specs.Syntax.{negative, null, equal, Operation, operator, variable, constant, print, Predicate, condition, counter}
use Rattle.language.specs.Effects.{State, Effect, goes, stops, Verdict, answers, stops_by, with_taken, top, needs, pushed, ranged, emitted, column, count_index}
use Rattle.language.specs.Effects.{operated, perform, ask, on_call}
use Rattle.language.specs.Values.{is_value}
use Rattle.language.specs.Meaning.{Outcome, ended, stopped}
use Rattle.language.specs.Machine.{Instruction, transfer, fail, operate_at, test_at, call_at, Decoded, last, damaged, code, Frame, pick, present}
use Rattle.language.specs.Machine.{arrived, on_effect, on_verdict, return, arrive, turn, run}
use Rattle.language.specs.Statements.{Lent}
use Rattle.language.proofs.MachineInvariants.{VerdictSo}
use Rattle.language.proofs.EffectsLent.{LentEffect, lent-performed, lent-asked}
use Rattle.operands.specs.Loop.{Configuration, configuration, Turn, continues, enters, finishes, halt, back, onward, effect_turn, verdict_turn, call_turn, instruction_turn, decoded_turn}
use Rattle.interpreter.proofs.Cells.{Inner, Within}

-- ── what the machine comes to ───────────────────────────────────────────────────────────────────

less_one : (r : ℕ) → suc r - 1 ≡ r
less_one r = omega arith

module _ (at : ℕ → ℕ → Decoded) (stands barred : ℕ → Bool) where
  -- one turn from a configuration
  abbrev pub one_turn : Configuration → Turn
  one_turn m = decoded_turn stands barred (at m.letter m.cell) m

  -- what the machine comes to from there, and after a turn
  unfoldable pub run_at : Configuration → Outcome
  unfolding run arrive
  run_at m = run at stands barred m.left (arrive at stands barred m.frames m.letter m.cell) m.state

  -- what the machine comes to after a turn
  unfoldable pub after : Turn → Outcome
  unfolding run_at
  after (continues m) = run_at m
  after (enters m) = run_at m
  after (finishes o) = o

module _ (at : ℕ → ℕ → Decoded) (stands barred : ℕ → Bool) where
  back-run : (fr : List Frame) (t : Bool) (s : State) (r : ℕ) → run at stands barred r (return at stands barred fr t) s ≡ after at stands barred (back fr t s r)
  unfolding after run_at return arrive run
  back-run [] t s zero = refl
  back-run [] t s (suc r) = refl
  back-run (f ∷ fr) t s r = refl

  effect-run : (e : Effect) (l q n : ℕ) (fr : List Frame) (s : State) (r : ℕ)
      → on_effect e s (suc r) (λ s'. run at stands barred r (arrive at stands barred fr l n) s') ≡ after at stands barred (effect_turn e n (configuration l q fr s (suc r)))
  unfolding after run_at on_effect
  effect-run (goes s') l q n fr s r = rw less_one
  effect-run (stops k) l q n fr s r = refl

  verdict-run : (v : Verdict) (l q n f : ℕ) (fr : List Frame) (s : State) (r : ℕ)
      → on_verdict v s (suc r) (λ u s'. run at stands barred r (arrive at stands barred fr l (pick u n f)) s') ≡ after at stands barred (verdict_turn v n f (configuration l q fr s (suc r)))
  unfolding after run_at on_verdict
  verdict-run (answers u s') l q n f fr s r = rw less_one
  verdict-run (stops_by k) l q n f fr s r = refl

  call-run : (u b : Bool) (a l q n f : ℕ) (fr : List Frame) (s : State) (r : ℕ)
      → on_call (present u) b (length fr) (λ e. stopped e s (suc r))
      (λ _. run at stands barred r (arrive at stands barred (record { letter = l; next = n; exit = f } ∷ fr) a code_start) s)
      ≡ after at stands barred (call_turn u b a n f (configuration l q fr s (suc r)))
  unfolding after run_at on_call
  call-run false b a l q n f fr s r = refl
  call-run true true a l q n f fr s r = refl
  call-run true false a l q n f fr s r = go (ltb (length fr) max_calls)
    where
      go : (v : Bool)
          → cond v (run at stands barred r (arrive at stands barred (record { letter = l; next = n; exit = f } ∷ fr) a code_start) s) (stopped DeepCalls s (suc r))
          ≡ after at stands barred
          (cond v (enters (configuration a code_start (record { letter = l; next = n; exit = f } ∷ fr) s (suc r - 1))) (finishes (stopped DeepCalls s (suc r))))
      go true = rw less_one
      go false = refl

  instruction-run : (i : Instruction) (l q : ℕ) (fr : List Frame) (s : State) (r : ℕ)
      → turn at stands barred r (run at stands barred r) l fr i s ≡ after at stands barred (instruction_turn stands barred i (configuration l q fr s (suc r)))
  unfolding after run_at turn
  instruction-run (transfer n) l q fr s r = rw less_one
  instruction-run fail l q fr s r = rw less_one (back-run fr false s r)
  instruction-run (operate_at o n) l q fr s r = effect-run (perform o s) l q n fr s r
  instruction-run (test_at t n f) l q fr s r = verdict-run (ask l t s) l q n f fr s r
  instruction-run (call_at a n f) l q fr s r = call-run (stands a) (barred a) a l q n f fr s r

  decoded-run : (x : Decoded) (l q : ℕ) (fr : List Frame) (s : State) (r : ℕ)
      → run at stands barred r (arrived x l fr (λ _. return at stands barred fr true)) s ≡ after at stands barred (decoded_turn stands barred x (configuration l q fr s r))
  unfolding after arrived run
  decoded-run last l q fr s r = back-run fr true s r
  decoded-run damaged l q fr s zero = refl
  decoded-run damaged l q fr s (suc r) = refl
  decoded-run (code i) l q fr s zero = refl
  decoded-run (code i) l q fr s (suc r) = rw (ne_eqb (suc r) 0 (λ e. omega arith)) (instruction-run i l q fr s r)

  -- a turn does not change what the machine comes to
  pub turn-run : (m : Configuration) → run_at at stands barred m ≡ after at stands barred (one_turn at stands barred m)
  unfolding run_at arrive
  turn-run m = decoded-run (at m.letter m.cell) m.letter m.cell m.frames m.state m.left

-- ── what a turn keeps ───────────────────────────────────────────────────────────────────────────

-- the loop's measure: a step takes one of what is left, and a return closes a call
abbrev pub to_go : Configuration → ℕ
to_go m = m.left + m.left + length m.frames

-- the open calls are of letters, and go back to cells of the code
pub record Caller (f : Frame) : Type 0 where
  pub letter : f.letter < max_letters
  pub next : Inner f.next
  pub exit : Inner f.exit

abbrev Callers : List Frame → Type 0
Callers [] = Unit {0}
Callers (f ∷ fr) = Caller f × Callers fr

-- an ending that stops a run: its number is not that of a finished one
abbrev pub Stopping : Ending → Type 0
Stopping e = ending_number e ≡ 0 → ⊥

-- over a run of allowance n that started with the output o
module _ (n : ℕ) (o : List ℕ) where
  -- a configuration that the allowance and the limits allow
  pub record Fit (m : Configuration) : Type 0 where
    pub letter : m.letter < max_letters
    pub cell : Inner m.cell
    pub callers : Callers m.frames
    pub calls : length m.frames ≤ max_calls
    pub lent : Lent o m.state
    pub spent : m.left ≤ n

  -- a run is over with these steps left
  pub record Over (s : State) (r : ℕ) : Type 0 where
    pub lent : Lent o s
    pub left : r ≤ n

  -- a turn keeps to them
  abbrev pub Kept : Turn → Type 0
  Kept (continues m) = Fit m
  Kept (enters m) = Fit m
  Kept (finishes (ended t s r)) = Over s r
  Kept (finishes (stopped e s r)) = Over s r × Stopping e

  -- and, where it goes on, has less to go than g
  abbrev pub Sound : ℕ → Turn → Type 0
  Sound g (continues m) = Fit m × (to_go m < g)
  Sound g (enters m) = Fit m × (to_go m < g)
  Sound g (finishes (ended t s r)) = Over s r
  Sound g (finishes (stopped e s r)) = Over s r × Stopping e

-- ── what stops ──────────────────────────────────────────────────────────────────────────────────

-- an operation, or a predicate, that stops the run does so with an ending of a stop
abbrev Halting : Effect → Type 0
Halting (goes s) = Unit {0}
Halting (stops e) = Stopping e

abbrev StopsBy : Verdict → Type 0
StopsBy (answers t s) = Unit {0}
StopsBy (stops_by e) = Stopping e

halting-cond : (u : Bool) (x y : Effect) → Halting x → Halting y → Halting (cond u x y)
halting-cond true x y h k = h
halting-cond false x y h k = k

stops-by-cond : (u : Bool) (x y : Verdict) → StopsBy x → StopsBy y → StopsBy (cond u x y)
stops-by-cond true x y h k = h
stops-by-cond false x y h k = k

halting-needs : (n : ℕ) (s : State) (x : Effect) → Halting x → Halting (needs n s x)
halting-needs n s x h = halting-cond (ltb s.height n) (stops ListEmpty) x (λ z. omega arith) h

halting-ranged : (v : ℤ) (s : State) → Halting (ranged v s)
halting-ranged v s = halting-cond (is_value v) (goes s) (stops Range) tt (λ z. omega arith)

halting-pushed : (s : State) (v : ℤ) → Halting (pushed s v)
halting-pushed s v = halting-cond (ltb s.height max_height) (goes _) (stops ListFull) tt (λ z. omega arith)

halting-emitted : (s : State) (b : List ℕ) → Halting (emitted s b)
halting-emitted s b = halting-cond (leb (s.written + length b) (length s.output)) (goes _) (stops PaperOut) tt (λ z. omega arith)

halting-operated : (x : Operator) (s : State) → Halting (operated x s)
unfolding operated
halting-operated absolute s = halting-needs 1 s _ (halting-ranged _ _)
halting-operated negate s = halting-needs 1 s _ (halting-ranged _ _)
halting-operated discard s = halting-needs 1 s (goes _) tt
halting-operated copy s = halting-needs 1 s _ (halting-pushed s (top s))
halting-operated add s = halting-needs 2 s _ (halting-ranged _ _)
halting-operated subtract s = halting-needs 2 s _ (halting-ranged _ _)
halting-operated multiply s = halting-needs 2 s _ (halting-ranged _ _)
halting-operated divide s =
    halting-needs 2 s _ (halting-cond (eqb (nat_abs (top s)) 0) (stops ZeroDivisor) _ (λ z. omega arith) (halting-ranged _ _))
halting-operated input s =
    halting-cond (ltb s.taken (length s.inputs)) _ (stops NoInput)
    (halting-pushed (with_taken s (s.taken + 1)) (get_or s.inputs s.taken (pos 0))) (λ z. omega arith)
halting-operated write s = halting-needs 1 s _ (halting-emitted s (column (top s)))
halting-operated newline s = halting-emitted s (10 ∷ [])

halting-performed : (x : Operation) (s : State) → Halting (perform x s)
unfolding perform
halting-performed (operator x) s = halting-operated x s
halting-performed (variable fetch k) s = halting-pushed s (get_or s.variables (k % max_variables) (pos 0))
halting-performed (variable save k) s = halting-needs 1 s (goes _) tt
halting-performed (constant v) s = halting-pushed s v
halting-performed (print b) s = halting-emitted s b

stops-by-asked : (l : ℕ) (p : Predicate) (s : State) → StopsBy (ask l p s)
unfolding ask
stops-by-asked l (condition negative) s = stops-by-cond (ltb s.height 1) (stops_by ListEmpty) (answers _ s) (λ z. omega arith) tt
stops-by-asked l (condition null) s = stops-by-cond (ltb s.height 1) (stops_by ListEmpty) (answers _ s) (λ z. omega arith) tt
stops-by-asked l (condition equal) s = stops-by-cond (ltb s.height 2) (stops_by ListEmpty) (answers _ s) (λ z. omega arith) tt
stops-by-asked l (counter m k) s =
    stops-by-cond (ltb (get_or s.counts (count_index l k) 0) (suc m)) (answers true _) (answers false _) tt tt

-- ── a turn is sound ─────────────────────────────────────────────────────────────────────────────

module _ (n : ℕ) (o : List ℕ) where
  over-of : (m : Configuration) → Fit n o m → Over n o m.state m.left
  over-of m f = record { lent = f.lent; left = f.spent }

  picked : (t : Bool) {a b : ℕ} → Inner a → Inner b → Inner (pick t a b)
  unfolding pick
  picked true i j = i
  picked false i j = j

  back-sound : (g : ℕ) (fr : List Frame) (t : Bool) (s : State) (r : ℕ) → Callers fr → length fr ≤ max_calls → Lent o s → r ≤ n
      → r + r + length fr ≤ g → Sound n o g (back fr t s r)
  back-sound g [] t s r a b c d e = record { lent = c; left = d }
  back-sound g (f ∷ fr) t s r a b c d e =
      (record { letter = a.0.letter; cell = picked t a.0.next a.0.exit; callers = a.1; calls = omega arith; lent = c; spent = d }, omega arith)

  onward-sound : (q : ℕ) (s : State) (m : Configuration) → Fit n o m → 0 < m.left → Inner q → Lent o s → Sound n o (to_go m) (onward q s m)
  onward-sound q s m f p i h =
      let k = f.spent in
      (record { letter = f.letter; cell = i; callers = f.callers; calls = f.calls; lent = h; spent = omega arith }, omega arith)

  effect-sound : (e : Effect) (q : ℕ) (m : Configuration) → Fit n o m → 0 < m.left → Inner q → LentEffect o e → Halting e → Sound n o (to_go m) (effect_turn e q m)
  effect-sound (goes s) q m f p i h k = onward-sound q s m f p i h
  effect-sound (stops e) q m f p i h k = (over-of m f, k)

  verdict-sound : (v : Verdict) (a b : ℕ) (m : Configuration) → Fit n o m → 0 < m.left → Inner a → Inner b → VerdictSo (Lent o) v → StopsBy v
      → Sound n o (to_go m) (verdict_turn v a b m)
  verdict-sound (answers u s) a b m f p i j h k = onward-sound (pick u a b) s m f p (picked u i j) h
  verdict-sound (stops_by e) a b m f p i j h k = (over-of m f, k)

  call-sound : (u b : Bool) (a x y : ℕ) (m : Configuration) → Fit n o m → 0 < m.left → Inner x → Inner y → (u ≡ true → a < max_letters)
      → Sound n o (to_go m) (call_turn u b a x y m)
  unfolding on_call
  call-sound false b a x y m f p i j h = (over-of m f, λ z. omega arith)
  call-sound true true a x y m f p i j h = (over-of m f, λ z. omega arith)
  call-sound true false a x y m f p i j h = go (ltb (length m.frames) max_calls) refl
    where
      go : (v : Bool) → ltb (length m.frames) max_calls ≡ v
          → Sound n o (to_go m)
          (cond v (enters (configuration a code_start (record { letter = m.letter; next = x; exit = y } ∷ m.frames) m.state (m.left - 1))) (halt DeepCalls m))
      go true e =
          let k : length m.frames < max_calls = ltb-true _ _ e in
          let l = f.spent in
          let b : Caller (record { letter = m.letter; next = x; exit = y }) = record { letter = f.letter; next = i; exit = j } in
          (record { letter = h refl; cell = record { first = omega arith; final = omega arith }; callers = (b, f.callers); calls = omega arith; lent = f.lent; spent = omega arith }, omega arith)
      go false e = (over-of m f, λ z. omega arith)

  module _ (stands barred : ℕ → Bool) (letters : (a : ℕ) → stands a ≡ true → a < max_letters) where
    instruction-sound : (i : Instruction) (m : Configuration) → Within (code i) → Fit n o m → 0 < m.left → Sound n o (to_go m) (instruction_turn stands barred i m)
    unfolding Within
    instruction-sound (transfer q) m w f p = onward-sound q m.state m f p w f.lent
    instruction-sound fail m w f p =
        back-sound (to_go m) m.frames false m.state (m.left - 1) f.callers f.calls f.lent (omega (arith, f.spent)) (omega arith)
    instruction-sound (operate_at x q) m w f p =
        effect-sound (perform x m.state) q m f p w (lent-performed o x m.state tt f.lent) (halting-performed x m.state)
    instruction-sound (test_at t a b) m w f p =
        verdict-sound (ask m.letter t m.state) a b m f p w.0 w.1 (lent-asked o m.letter t m.state f.lent) (stops-by-asked m.letter t m.state)
    instruction-sound (call_at a x y) m w f p = call-sound (stands a) (barred a) a x y m f p w.0 w.1 (letters a)

    due-sound : (u : Bool) (i : Instruction) (m : Configuration) → Within (code i) → Fit n o m → eqb m.left 0 ≡ u
        → Sound n o (to_go m) (cond u (halt Spent m) (instruction_turn stands barred i m))
    due-sound true i m w f e = (over-of m f, λ z. omega arith)
    due-sound false i m w f e = let k : m.left ≡ 0 → ⊥ = eqb-false _ _ e in instruction-sound i m w f (omega arith)

    -- a turn from a configuration that fits is sound
    pub decoded-sound : (x : Decoded) (m : Configuration) → Within x → Fit n o m → Sound n o (to_go m) (decoded_turn stands barred x m)
    decoded-sound last m w f =
        back-sound (to_go m) m.frames true m.state m.left f.callers f.calls f.lent f.spent (omega arith)
    decoded-sound damaged m w f = (over-of m f, λ z. omega arith)
    decoded-sound (code i) m w f = due-sound (eqb m.left 0) i m w f refl

-- ── a turn that goes on ─────────────────────────────────────────────────────────────────────────

-- it goes on in the same letter
abbrev pub Stays : ℕ → Turn → Type 0
Stays l (continues m) = m.letter ≡ l
Stays l (enters m) = Unit {0}
Stays l (finishes o) = Unit {0}

back-stays : (l : ℕ) (fr : List Frame) (t : Bool) (s : State) (r : ℕ) → Stays l (back fr t s r)
back-stays l [] t s r = tt
back-stays l (f ∷ fr) t s r = tt

effect-stays : (e : Effect) (q : ℕ) (m : Configuration) → Stays m.letter (effect_turn e q m)
effect-stays (goes s) q m = refl
effect-stays (stops e) q m = tt

verdict-stays : (v : Verdict) (a b : ℕ) (m : Configuration) → Stays m.letter (verdict_turn v a b m)
verdict-stays (answers u s) a b m = refl
verdict-stays (stops_by e) a b m = tt

call_stays : (u b : Bool) (a x y : ℕ) (m : Configuration) → Stays m.letter (call_turn u b a x y m)
unfolding on_call
call_stays false b a x y m = tt
call_stays true true a x y m = tt
call_stays true false a x y m = go (ltb (length m.frames) max_calls)
  where
    go : (v : Bool)
        → Stays m.letter
        (cond v (enters (configuration a code_start (record { letter = m.letter; next = x; exit = y } ∷ m.frames) m.state (m.left - 1))) (halt DeepCalls m))
    go true = tt
    go false = tt

module _ (stands barred : ℕ → Bool) where
  instruction-stays : (i : Instruction) (m : Configuration) → Stays m.letter (instruction_turn stands barred i m)
  instruction-stays (transfer q) m = refl
  instruction-stays fail m = back-stays m.letter m.frames false m.state (m.left - 1)
  instruction-stays (operate_at x q) m = effect-stays (perform x m.state) q m
  instruction-stays (test_at t a b) m = verdict-stays (ask m.letter t m.state) a b m
  instruction-stays (call_at a x y) m = call_stays (stands a) (barred a) a x y m

  -- any turn
  pub decoded-stays : (x : Decoded) (m : Configuration) → Stays m.letter (decoded_turn stands barred x m)
  decoded-stays last m = back-stays m.letter m.frames true m.state m.left
  decoded-stays damaged m = tt
  decoded-stays (code i) m = go (eqb m.left 0)
    where
      go : (u : Bool) → Stays m.letter (cond u (halt Spent m) (instruction_turn stands barred i m))
      go true = tt
      go false = instruction-stays i m
