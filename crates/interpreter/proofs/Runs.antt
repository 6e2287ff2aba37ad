-- The loop: what a turn of the code keeps, what falls, and what the end says.
use mathlib.Core.Path.{◌≡◌, refl, sym, ap, ◌∙◌, subst}
use mathlib.Core.Bool.{Bool, true, false, cond, not}
use mathlib.Core.List.{List, [], ◌∷◌}
use Prim.Native.Nat.{ℕ, zero, suc, ◌+◌, ◌≤◌, ◌<◌}
use native.Mathlib.Nat.{le_refl}
use native.Mathlib.Omega.{arith}
use lib.Dec.{ltb}
use lib.IntN.{ℤ}
use lib.ListN.{length, get_or}
use borrow.Author.Tests.{ltb-true, ltb-false, eq-eqb}
use Rattle.language.specs.Limits.{max_letters, max_calls}
use Rattle.language.specs.Meaning.{Outcome, ended, stopped}
use Rattle.language.specs.Statements.{Lent}
use Rattle.language.specs.Tables.{decode_at, stands_at, barred_at}
use Rattle.book.specs.Replies.{replied, reported}
use Rattle.operands.specs.declared.Machine.{Machine}
use Rattle.operands.specs.Loop.{Turn, continues, enters, finishes}
use Rattle.operands.specs.declared.Status.{Status}
use Rattle.operands.specs.declared.Status.TheVariants.{Goes, Enters, Over, Stopped}
use Rattle.operands.specs.Held.{Held, state_of, configuration_of, turned as turned_as, outcome, on_machine, with_status}
use Rattle.operands.specs.Turns.{due_at}
use Rattle.operands.proofs.Held.{length-frames}
use Rattle.operands.specs.declared.cells.Code.{Code}
use Rattle.interpreter.specs.Runs.{Counted, Ends, report_of, report_from, was_stopped, Driven}
use Rattle.interpreter.specs.Fetching.{fetched}
use Rattle.interpreter.proofs.Cells.{decode-within}
use Rattle.interpreter.proofs.Allowed.{Allowed, AllowedTurn, decoded-allowed}
use Rattle.interpreter.proofs.Loop.{after, one_turn, to_go, Fit, Kept, Sound, turn-run, decoded-sound, Stays, decoded-stays}

-- what the loop keeps of what the code holds: the run comes to r, within the allowance n, the limits and the output o, and over letters that are for the
-- caller
pub record Looping (n : ℕ) (o : List ℕ) (r : Outcome) (h : Held) : Type 0 where
  pub comes : after (decode_at h.cells h.used) (stands_at h.used) (barred_at h.permissions h.role) (outcome h) ≡ r
  pub kept : Kept n o (outcome h)
  pub allowed : AllowedTurn (barred_at h.permissions h.role) (outcome h)
  pub size : length h.frames ≡ max_calls

-- the same where the code does not go on: it enters a letter's code, or the run is over
pub record Entering (n : ℕ) (o : List ℕ) (r : Outcome) (h : Held) : Type 0 where
  pub loop : Looping n o r h
  pub between : h.machine.status ≡ Goes → ⊥

-- the code goes on
going : (h : Held) → h.machine.status ≡ Goes → outcome h ≡ continues (configuration_of h)
going h e = rw e

-- it enters a letter's code
entering : (h : Held) → h.machine.status ≡ Enters → outcome h ≡ enters (configuration_of h)
entering h e = rw e

-- and goes on there
abbrev pub resuming : Held → Held
resuming h = on_machine (with_status h.machine Goes) h

pub resume : (n : ℕ) (o : List ℕ) (r : Outcome) (h : Held) → Looping n o r h → h.machine.status ≡ Enters → Looping n o r (resuming h)
unfolding after
resume n o r h loop e =
    record {
      comes = sym (ap (λ (t : Turn). after (decode_at h.cells h.used) (stands_at h.used) (barred_at h.permissions h.role) t) (entering h e)) ∙ loop.comes;
      kept = subst (λ (t : Turn). Kept n o t) (entering h e) loop.kept;
      allowed = subst (λ (t : Turn). AllowedTurn (barred_at h.permissions h.role) t) (entering h e) loop.allowed;
      size = loop.size;
    }

kept_of : (n : ℕ) (o : List ℕ) (g : ℕ) (t : Turn) → Sound n o g t → Kept n o t
kept_of n o g (continues m) h = h.0
kept_of n o g (enters m) h = h.0
kept_of n o g (finishes (ended t s r)) h = h
kept_of n o g (finishes (stopped k s r)) h = h

-- where it goes on, the configuration fits
pub fit_of : (n : ℕ) (o : List ℕ) (h : Held) → h.machine.status ≡ Goes → Kept n o (outcome h) → Fit n o (configuration_of h)
fit_of n o h e k = subst (λ (t : Turn). Kept n o t) (going h e) k

-- and its letter is for the caller
pub allowed_of : (n : ℕ) (o : List ℕ) (r : Outcome) (h : Held) → Looping n o r h → h.machine.status ≡ Goes → Allowed (barred_at h.permissions h.role) (configuration_of h)
allowed_of n o r h loop e = subst (λ (t : Turn). AllowedTurn (barred_at h.permissions h.role) t) (going h e) loop.allowed

beyond : (u : List ℕ) (a : ℕ) → length u ≤ a → get_or u a 0 ≡ 0
beyond [] a h = refl
beyond (x ∷ u) zero h = absurd (omega arith)
beyond (x ∷ u) (suc a) h = beyond u a (omega arith)

-- a letter that stands is one of 26
standing : (u : List ℕ) → length u ≡ max_letters → (a : ℕ) → stands_at u a ≡ true → a < max_letters
standing u e a s = go (ltb a max_letters) refl
  where
    go : (t : Bool) → ltb a max_letters ≡ t → a < max_letters
    go true q = ltb-true a max_letters q
    go false q =
        let z : ◌≡◌ {A = Bool} false true = sym (ap not (eq-eqb (get_or u a 0) 0 (beyond u a (omega (arith, ltb-false a max_letters q))))) ∙ s in
        let k : ◌≡◌ {A = ℕ} 0 1 = cc in
        absurd (omega arith)

-- what falls: nothing is left once the run is over
abbrev going_on : Status → Bool
going_on Goes = true
going_on Enters = true
going_on (Over t) = false
going_on (Stopped e) = false

unfoldable pub left_over : Machine → ℕ
left_over m = cond (going_on m.status) (suc (m.left + m.left + m.depth)) 0

-- it is the same where a letter's code is entered and then gone on with
pub left-resumed : (m : Machine) → m.status ≡ Enters → left_over (with_status m Goes) ≡ left_over m
unfolding left_over
left-resumed m e = rw e

-- ── a turn ──────────────────────────────────────────────────────────────────────────────────────

module _ (n : ℕ) (o : List ℕ) (r : Outcome) (h : Held) (h' : Held) (p : Code) (loop : Looping n o r h) (goes : h.machine.status ≡ Goes)
    (pair : p ≡ fetched h.used h.machine.letter) (turned_by : outcome h' ≡ due_at h.cells p h)
    (letters : length h.used ≡ max_letters) (counted : Counted h.used) where
  -- over the pair of the letter's table, it is the table machine's turn
  turned : outcome h' ≡ one_turn (decode_at h.cells h.used) (stands_at h.used) (barred_at h.permissions h.role) (configuration_of h)
  turned = turned_by ∙ ap (λ (x : Code). due_at h.cells x h) pair

  -- the letter is the same where the code goes on, so the pair is its
  pub same-pair : h'.machine.status ≡ Goes → p ≡ fetched h.used h'.machine.letter
  same-pair e =
      let d = decode_at h.cells h.used h.machine.letter h.machine.at in
      let k : h'.machine.letter ≡ h.machine.letter = subst (λ (t : Turn). Stays h.machine.letter t) (sym turned ∙ going h' e) (decoded-stays (stands_at h.used) (barred_at h.permissions h.role) d (configuration_of h)) in
      pair ∙ ap (fetched h.used) (sym k)

  comes-again : after (decode_at h.cells h.used) (stands_at h.used) (barred_at h.permissions h.role) (outcome h') ≡ r
  unfolding after
  comes-again =
      let f = decode_at h.cells h.used in
      let s = stands_at h.used in
      let b = barred_at h.permissions h.role in
      ap (λ (t : Turn). after f s b t) turned ∙ sym (turn-run f s b (configuration_of h)) ∙ sym (ap (λ (t : Turn). after f s b t) (going h goes)) ∙ loop.comes

  sound : Sound n o (to_go (configuration_of h)) (outcome h')
  sound =
      subst (λ (t : Turn). Sound n o (to_go (configuration_of h)) t) (sym turned)
      (decoded-sound n o (stands_at h.used) (barred_at h.permissions h.role) (standing h.used letters) (decode_at h.cells h.used h.machine.letter h.machine.at) (configuration_of h)
      (decode-within _ (counted h.machine.letter) h.machine.at) (fit_of n o h goes loop.kept))

  -- the letter is for the caller, and so is the next
  allowed-again : AllowedTurn (barred_at h.permissions h.role) (outcome h')
  allowed-again =
      subst (λ (t : Turn). AllowedTurn (barred_at h.permissions h.role) t) (sym turned)
      (decoded-allowed (barred_at h.permissions h.role) (stands_at h.used) (decode_at h.cells h.used h.machine.letter h.machine.at) (configuration_of h)
      (allowed_of n o r h loop goes))

  -- it is kept
  pub again : h'.cells ≡ h.cells → h'.used ≡ h.used → h'.permissions ≡ h.permissions → h'.role ≡ h.role → length h'.frames ≡ max_calls → Looping n o r h'
  again c u k w f =
      record {
        comes = rw (c, u, k, w) comes-again;
        kept = kept_of n o (to_go (configuration_of h)) (outcome h') sound;
        allowed = rw (k, w) allowed-again;
        size = f;
      }

  -- and less is left
  pub falls : left_over h'.machine < left_over h.machine
  unfolding left_over
  falls = rw goes (go h'.machine.status refl)
    where
      less : to_go (configuration_of h') < to_go (configuration_of h)
          → suc (h'.machine.left + h'.machine.left + h'.machine.depth) < suc (h.machine.left + h.machine.left + h.machine.depth)
      less k = omega (arith, length-frames h.frames h.machine.depth, length-frames h'.frames h'.machine.depth)

      go : (s : Status) → h'.machine.status ≡ s
          → cond (going_on s) (suc (h'.machine.left + h'.machine.left + h'.machine.depth)) 0 < suc (h.machine.left + h.machine.left + h.machine.depth)
      go Goes q = less (subst (λ (t : Turn). Sound n o (to_go (configuration_of h)) t) (going h' q) sound).1
      go Enters q = less (subst (λ (t : Turn). Sound n o (to_go (configuration_of h)) t) (entering h' q) sound).1
      go (Over t) q = omega arith
      go (Stopped e) q = omega arith

-- ── the turns over one table ────────────────────────────────────────────────────────────────────

-- from h₀ on, where the pair p was fetched: what was kept is kept, the pair is that of the letter, and less is left once the code does not go on
pub record Stretch (h₀ : Held) (p : Code) (h : Held) : Type 0 where
  pub keeps : (n : ℕ) (o : List ℕ) (r : Outcome) → Looping n o r h₀ → Looping n o r h
  pub pair : h.machine.status ≡ Goes → p ≡ fetched h.used h.machine.letter
  pub most : left_over h.machine ≤ left_over h₀.machine
  pub fewer : (h.machine.status ≡ Goes → ⊥) → left_over h.machine < left_over h₀.machine

-- while the code goes on, the configuration fits
pub stretch-fit : {n : ℕ} {o : List ℕ} {r : Outcome} {h₀ : Held} {p : Code} {h : Held} → Stretch h₀ p h → Looping n o r h₀ → h.machine.status ≡ Goes
    → Fit n o (configuration_of h)
stretch-fit {n} {o} {r} {h₀} {p} {h} st loop e = fit_of n o h e (st.keeps n o r loop).kept

-- at its start
pub stretch-none : (h : Held) (p : Code) → h.machine.status ≡ Goes → p ≡ fetched h.used h.machine.letter → Stretch h p h
stretch-none h p z e = record { keeps = λ n o r l. l; pair = λ _. e; most = le_refl _; fewer = λ w. absurd (w z) }

-- and after one more turn
pub stretch-more : (n : ℕ) (o : List ℕ) (r : Outcome) (h₀ : Held) (p : Code) (h h' : Held) → Stretch h₀ p h → Looping n o r h → h.machine.status ≡ Goes
    → outcome h' ≡ due_at h.cells p h → length h.used ≡ max_letters → Counted h.used
    → h'.cells ≡ h.cells → h'.used ≡ h.used → h'.permissions ≡ h.permissions → h'.role ≡ h.role → length h'.frames ≡ max_calls → Stretch h₀ p h'
stretch-more n o r h₀ p h h' st loop z turned letters counted c u k w f =
    let e = st.pair z in
    let l = falls n o r h h' p loop z e turned letters counted in
    record {
      keeps = λ n o r x. again n o r h h' p (st.keeps n o r x) z e turned letters counted c u k w f;
      pair = λ x. same-pair n o r h h' p loop z e turned letters counted x ∙ ap (λ (x : List ℕ). fetched x h'.machine.letter) (sym u);
      most = omega (arith, l, st.most);
      fewer = λ _. omega (arith, l, st.most);
    }

-- ── the end ─────────────────────────────────────────────────────────────────────────────────────

module _ (n : ℕ) (o : List ℕ) (r : Outcome) (h : Held) (loop : Looping n o r h) (over : h.machine.status ≡ Goes → ⊥) (outside : h.machine.status ≡ Enters → ⊥) where
  -- the list and the output are as a run leaves them
  pub lent : Lent o (state_of h)
  lent = go h.machine.status (over, outside) loop.kept
    where
      go : (s : Status) → Ends s → Kept n o (turned_as s (configuration_of h)) → Lent o (state_of h)
      go Goes e k = absurd (e.0 refl)
      go Enters e k = absurd (e.1 refl)
      go (Over t) e k = k.lent
      go (Stopped x) e k = k.0.lent

  left_le : h.machine.left ≤ n
  left_le = go h.machine.status (over, outside) loop.kept
    where
      go : (s : Status) → Ends s → Kept n o (turned_as s (configuration_of h)) → h.machine.left ≤ n
      go Goes e k = absurd (e.0 refl)
      go Enters e k = absurd (e.1 refl)
      go (Over t) e k = k.left
      go (Stopped x) e k = k.0.left

  reply : (v : List ℤ)
      → replied (report_from n h.machine) h.stack h.output (cond (was_stopped h.machine.status) v h.variables) ≡ reported v n r
  unfolding after reported
  reply v = go h.machine.status (over, outside) ∙ ap (λ (x : Outcome). reported v n x) loop.comes
    where
      go : (s : Status) → Ends s
          → replied (report_of s n h.machine) h.stack h.output (cond (was_stopped s) v h.variables)
          ≡ reported v n (after (decode_at h.cells h.used) (stands_at h.used) (barred_at h.permissions h.role) (turned_as s (configuration_of h)))
      go Goes e = absurd (e.0 refl)
      go Enters e = absurd (e.1 refl)
      go (Over t) e = refl
      go (Stopped x) e = refl

  -- what the end says
  pub driven : Driven n r h.machine h.variables h.stack h.output
  driven = record { ends = (over, outside); left = left_le; reply = reply }
