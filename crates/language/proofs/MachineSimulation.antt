-- A run over the tables of texts is the nested meaning of the texts.
use mathlib.Core.Path.{◌≡◌, refl, sym, ap, ◌∙◌, subst}
use Prim.Native.Nat.{ℕ, zero, suc, ◌≤◌, ◌<◌}
use native.Mathlib.Omega.{arith}
use mathlib.Core.Bool.{Bool, true, false, cond}
use mathlib.Core.Option.{Option, none, some}
use mathlib.Core.List.{List, [], ◌∷◌}
use lib.ListN.{length}
use lib.Dec.{ltb}
use Rattle.language.specs.declared.Ending.{Ending}
use Rattle.language.specs.declared.Ending.TheVariants.{Spent, NoText, DeepCalls, StewardCall}
use Rattle.language.specs.Limits.{max_calls}
use Rattle.language.specs.Roles.{bars}
use Rattle.language.specs.Syntax.{Expr, close, semi, colon, operate, test, call, inner}
use Rattle.language.specs.Effects.{State, Effect, goes, stops, Verdict, answers, stops_by, perform, ask}
use Rattle.language.specs.Meaning.{Outcome, ended, stopped, meaning}
use Rattle.language.specs.Machine.{Instruction, transfer, operate_at, test_at, call_at, Decoded, last, code, Frame, Due, over, due, pick, present, arrived, on_effect, on_verdict, return, arrive, turn, run}
use Rattle.language.specs.Effects.{on_call}
use Rattle.language.specs.Layout.{after_operation, after_predicate, after_call, after_expr, false_exit, used_cells}
use Rattle.language.specs.Statements.{Closing, outermost, exit_to, closing_code, Decodes}
use Rattle.language.proofs.MeaningFollowing.{step, and_then, follow, followed, meaning-followed}

-- ── an outcome continued ────────────────────────────────────────────────────────────────────────

-- The outcome o of an expression, continued by f, is the machine's outcome m; and no more than n steps are left after o.
Rel : ℕ → (Bool → State → ℕ → Outcome) → Outcome → Outcome → Type 0
Rel n f (ended t s r) m = (r ≤ n) × (f t s r ≡ m)
Rel n f (stopped k s r) m = stopped k s r ≡ m

rel-effect : (n : ℕ) (f : Bool → State → ℕ → Outcome) (x : Effect) (s : State) (r : ℕ) (k k' : State → Outcome)
    → ((s' : State) → Rel n f (k s') (k' s')) → Rel n f (on_effect x s r k) (on_effect x s r k')
unfolding Rel on_effect
rel-effect n f (goes s') s r k k' h = h s'
rel-effect n f (stops i) s r k k' h = refl

rel-verdict : (n : ℕ) (f : Bool → State → ℕ → Outcome) (x : Verdict) (s : State) (r : ℕ) (k k' : Bool → State → Outcome)
    → ((t : Bool) (s' : State) → Rel n f (k t s') (k' t s')) → Rel n f (on_verdict x s r k) (on_verdict x s r k')
unfolding Rel on_verdict
rel-verdict n f (answers t s') s r k k' h = h t s'
rel-verdict n f (stops_by i) s r k k' h = refl

rel-cond : (n : ℕ) (f : Bool → State → ℕ → Outcome) (u : Bool) (x x' y y' : Outcome) → Rel n f x x' → Rel n f y y'
    → Rel n f (cond u x y) (cond u x' y')
rel-cond n f true x x' y y' h k = h
rel-cond n f false x x' y y' h k = k

rel-end : (n : ℕ) (f : Bool → State → ℕ → Outcome) (t : Bool) (s : State) (r : ℕ) (m : Outcome) → r ≤ n → f t s r ≡ m → Rel n f (ended t s r) m
unfolding Rel
rel-end n f t s r m le e = (le, e)

rel-stop : (n : ℕ) (f : Bool → State → ℕ → Outcome) (k : Ending) (s : State) (r : ℕ) → Rel n f (stopped k s r) (stopped k s r)
unfolding Rel
rel-stop n f k s r = refl

-- more steps may be left
rel-weaken : (n n' : ℕ) (f : Bool → State → ℕ → Outcome) (o m : Outcome) → n ≤ n' → Rel n f o m → Rel n' f o m
unfolding Rel
rel-weaken n n' f (ended t s r) m le h = (let q : r ≤ n = h.0 in omega arith, h.1)
rel-weaken n n' f (stopped k s r) m le h = h

-- o is g to the machine, and from g on k is f to it
rel-and_then : (n : ℕ) (f g : Bool → State → ℕ → Outcome) (o m : Outcome) (k : Bool → State → ℕ → Outcome)
    → Rel n g o m → ((t : Bool) (s : State) (r : ℕ) → r ≤ n → Rel n f (k t s r) (g t s r)) → Rel n f (and_then o k) m
unfolding Rel and_then
rel-and_then n f g (ended t s r) m k h c = subst (λ z. Rel n f (k t s r) z) h.1 (c t s r h.0)
rel-and_then n f g (stopped i s r) m k h c = h

rel-all : (n : ℕ) (f : Bool → State → ℕ → Outcome) (o m : Outcome) → ((t : Bool) (s : State) (r : ℕ) → f t s r ≡ ended t s r) → Rel n f o m → o ≡ m
unfolding Rel
rel-all n f (ended t s r) m h e = sym (h t s r) ∙ e.1
rel-all n f (stopped k s r) m h e = e

-- ── the machine ─────────────────────────────────────────────────────────────────────────────────

module _ (at : ℕ → ℕ → Decoded) (stands : ℕ → Bool) where
  -- letter a's table decodes to its text
  abbrev pub Stands : ℕ → Option Expr → Type 0
  Stands a none = stands a ≡ false
  Stands a (some w) = (stands a ≡ true) × Decodes (at a) w 2 (used_cells w) outermost 2 × (at a (used_cells w) ≡ last)

module _ (texts : ℕ → Option Expr) (permissions : ℕ → ℕ) (role : ℕ) (at : ℕ → ℕ → Decoded) (stands : ℕ → Bool) where
  -- the letters that are not for the caller
  abbrev barred : ℕ → Bool
  barred a = bars role (permissions a)

  -- where an expression whose `)` cell says c, and is followed by cell x, leaves the machine
  abbrev leave : Bool → Closing → List Frame → ℕ → ℕ → Due
  leave true c fr l x = arrive at stands barred fr l x
  leave false outermost fr l x = return at stands barred fr false
  leave false (exit_to f) fr l x = arrive at stands barred fr l f

  abbrev exit : Closing → List Frame → ℕ → ℕ → Bool → State → ℕ → Outcome
  exit c fr l x t s r = run at stands barred r (leave t c fr l x) s

  leave-to : (t : Bool) (f : ℕ) (fr : List Frame) (l x : ℕ) → arrive at stands barred fr l (pick t x f) ≡ leave t (exit_to f) fr l x
  unfolding pick
  leave-to true f fr l x = refl
  leave-to false f fr l x = refl

  leave-call : (t : Bool) (f : Frame) (fr : List Frame) (a x : ℕ) → at a x ≡ last
      → arrive at stands barred fr f.letter (pick t f.next f.exit) ≡ leave t outermost (f ∷ fr) a x
  unfolding arrive return arrived
  leave-call true f fr a x e = ap (λ z. arrived z a (f ∷ fr) (λ _. return at stands barred (f ∷ fr) true)) (sym e)
  leave-call false f fr a x e = refl

  -- a step is due, in the text and at a cell whose instruction is known
  rel-step : (n : ℕ) (g : Bool → State → ℕ → Outcome) (r : ℕ) (s : State) (k : ℕ → Outcome) (l : ℕ) (i : Instruction) (fr : List Frame) → r ≤ n
      → ((r' : ℕ) → r' < n → Rel n g (k r') (turn at stands barred r' (run at stands barred r') l fr i s))
      → Rel n g (step r s k) (run at stands barred r (due l i fr) s)
  unfolding step run
  rel-step n g zero s k l i fr le h = rel-stop n g Spent s zero
  rel-step n g (suc r) s k l i fr le h = h r le

  rel-at : (n : ℕ) (g : Bool → State → ℕ → Outcome) (l q : ℕ) (i : Instruction) (fr : List Frame) (r : ℕ) (s : State) (k : ℕ → Outcome)
      → at l q ≡ code i → r ≤ n
      → ((r' : ℕ) → r' < n → Rel n g (k r') (turn at stands barred r' (run at stands barred r') l fr i s))
      → Rel n g (step r s k) (run at stands barred r (arrive at stands barred fr l q) s)
  unfolding arrive arrived
  rel-at n g l q i fr r s k e le h =
      subst (λ z. Rel n g (step r s k) (run at stands barred r (arrived z l fr (λ _. return at stands barred fr true)) s)) (sym e)
      (rel-step n g r s k l i fr le h)

  -- the last step of an expression, at its `)`
  close-turn : (c : Closing) (fr : List Frame) (l x r : ℕ) (s : State)
      → exit c fr l x false s r ≡ turn at stands barred r (run at stands barred r) l fr (closing_code c) s
  unfolding turn
  close-turn outermost fr l x r s = refl
  close-turn (exit_to f) fr l x r s = refl

  rel-call : (n : ℕ) (g : Bool → State → ℕ → Outcome) (a : ℕ) (o : Option Expr) (b : Bool) (d : ℕ) (s : State) (r : ℕ) (k : Expr → Outcome) (m : Unit {0} → Outcome)
      → Stands at stands a o
      → ((v : Expr) → Decodes (at a) v 2 (used_cells v) outermost 2 → at a (used_cells v) ≡ last → Rel n g (k v) (m tt))
      → Rel n g (on_call o b d (λ e. stopped e s r) k) (on_call (present (stands a)) b d (λ e. stopped e s r) m)
  unfolding on_call
  rel-call n g a none b d s r k m st h = rw st (rel-stop n g NoText s r)
  rel-call n g a (some v) true d s r k m st h = rw st.0 (rel-stop n g StewardCall s r)
  rel-call n g a (some v) false d s r k m st h =
      rw st.0 (rel-cond n g (ltb d max_calls) (k v) (m tt) _ _ (h v st.1 st.2) (rel-stop n g DeepCalls s r))

  -- ── the simulation ────────────────────────────────────────────────────────────────────────────

  module _ (tables : (a : ℕ) → Stands at stands a (texts a)) where
    Again : ℕ → (ℕ → Expr → ℕ → State → ℕ → Outcome) → Type 0
    Again n again = (l : ℕ) (w : Expr) (fr : List Frame) (s : State) (r h x : ℕ) (c : Closing) → r < n → Decodes (at l) w h x c h
        → Rel n (exit c fr l x) (again l w (length fr) s r) (run at stands barred r (arrive at stands barred fr l h) s)

    module _ (n : ℕ) (again : ℕ → Expr → ℕ → State → ℕ → Outcome) (ih : Again n again) where
      follow-sim : (e : Expr) (t : Bool) (l : ℕ) (w : Expr) (fr : List Frame) (s : State) (r h x : ℕ) (c : Closing) (q : ℕ)
          → r ≤ n → Decodes (at l) w h x c h → Decodes (at l) e h x c q
          → Rel n (exit c fr l x) (follow texts permissions role again l w (length fr) e t s r)
          (run at stands barred r (arrive at stands barred fr l (pick t q (false_exit e q))) s)
      unfolding follow pick turn Again
      follow-sim close true l w fr s r h x c q le wh st =
          rel-at n (exit c fr l x) l q (closing_code c) fr r s (λ r'. ended false s r') st.0 le
          (λ r' lt. rel-end n _ false s r' _ (omega arith) (close-turn c fr l x r' s))
      follow-sim (semi e) true l w fr s r h x c q le wh st =
          rel-at n (exit c fr l x) l q (transfer x) fr r s (λ r'. ended true s r') st.0 le (λ r' lt. rel-end n _ true s r' _ (omega arith) refl)
      follow-sim (colon e) true l w fr s r h x c q le wh st =
          rel-at n (exit c fr l x) l q (transfer h) fr r s (λ r'. again l w (length fr) s r') st.0 le
          (λ r' lt. ih l w fr s r' h x c lt wh)
      follow-sim (operate o e) true l w fr s r h x c q le wh st =
          rel-at n (exit c fr l x) l q (operate_at o (after_operation o q)) fr r s
          (λ r'. on_effect (perform o s) s (suc r') (λ s'. follow texts permissions role again l w (length fr) e true s' r')) st.0 le
          (λ r' lt. rel-effect n (exit c fr l x) (perform o s) s (suc r') _ _
          (λ s'. follow-sim e true l w fr s' r' h x c (after_operation o q) (omega arith) wh st.1))
      follow-sim (test p e) true l w fr s r h x c q le wh st =
          rel-at n (exit c fr l x) l q (test_at p (after_predicate p q) (false_exit e (after_predicate p q))) fr r s
          (λ r'. on_verdict (ask l p s) s (suc r') (λ t s'. follow texts permissions role again l w (length fr) e t s' r')) st.0 le
          (λ r' lt. rel-verdict n (exit c fr l x) (ask l p s) s (suc r') _ _
          (λ t s'. follow-sim e t l w fr s' r' h x c (after_predicate p q) (omega arith) wh st.1))
      follow-sim (call a e) true l w fr s r h x c q le wh st =
          let f : Frame = record { letter = l; next = after_call q; exit = false_exit e (after_call q) } in
          rel-at n (exit c fr l x) l q (call_at a (after_call q) (false_exit e (after_call q))) fr r s
          (λ r'. on_call (texts a) (bars role (permissions a)) (length fr) (λ e. stopped e s (suc r'))
          (λ v. and_then (again a v (suc (length fr)) s r') (λ t s' r''. follow texts permissions role again l w (length fr) e t s' r'')))
          st.0 le
          (λ r' lt. rel-call n (exit c fr l x) a (texts a) (barred a) (length fr) s (suc r') _ _ (tables a)
          (λ v sv ev. rel-and_then n (exit c fr l x) (exit outermost (f ∷ fr) a (used_cells v)) _ _ _
          (ih a v (f ∷ fr) s r' 2 (used_cells v) outermost lt sv)
          (λ t s' r'' le''. subst (λ z. Rel n (exit c fr l x) (follow texts permissions role again l w (length fr) e t s' r'') (run at stands barred r'' z s'))
          (leave-call t f fr a (used_cells v) ev)
          (follow-sim e t l w fr s' r'' h x c (after_call q) le'' wh st.1))))
      follow-sim (inner g e) true l w fr s r h x c q le wh st =
          let f : ℕ = false_exit e (after_expr g q) in
          rel-and_then n (exit c fr l x) (exit (exit_to f) fr l (after_expr g q)) (follow texts permissions role again l g (length fr) g true s r) _
          (λ t s' r'. follow texts permissions role again l w (length fr) e t s' r')
          (follow-sim g true l g fr s r q (after_expr g q) (exit_to f) q le st.0 st.0)
          (λ t s' r' le'. subst (λ z. Rel n (exit c fr l x) (follow texts permissions role again l w (length fr) e t s' r') (run at stands barred r' z s'))
          (leave-to t f fr l (after_expr g q))
          (follow-sim e t l w fr s' r' h x c (after_expr g q) le' wh st.1))
      follow-sim close false l w fr s r h x c q le wh st =
          rel-end n _ true s r _ le (ap (λ z. run at stands barred r (arrive at stands barred fr l z) s) (sym st.1))
      follow-sim (semi e) false l w fr s r h x c q le wh st = follow-sim e true l w fr s r h x c (suc q) le wh st.1
      follow-sim (colon e) false l w fr s r h x c q le wh st = follow-sim e true l w fr s r h x c (suc q) le wh st.1
      follow-sim (operate o e) false l w fr s r h x c q le wh st = follow-sim e false l w fr s r h x c (after_operation o q) le wh st.1
      follow-sim (test p e) false l w fr s r h x c q le wh st = follow-sim e false l w fr s r h x c (after_predicate p q) le wh st.1
      follow-sim (call a e) false l w fr s r h x c q le wh st = follow-sim e false l w fr s r h x c (after_call q) le wh st.1
      follow-sim (inner g e) false l w fr s r h x c q le wh st = follow-sim e false l w fr s r h x c (after_expr g q) le wh st.1

    followed-sim : (g : ℕ) → Again g (followed texts permissions role g)
    unfolding Again followed pick
    followed-sim zero l w fr s r h x c lt st = let z : ⊥ = omega arith in absurd z
    followed-sim (suc g) l w fr s r h x c lt st =
        rel-weaken g (suc g) (exit c fr l x) _ _ (omega arith)
        (follow-sim g (followed texts permissions role g) (followed-sim g) w true l w fr s r h x c h (omega arith) st st)

    run-over : (t : Bool) (s : State) (r : ℕ) → run at stands barred r (over t) s ≡ ended t s r
    unfolding run
    run-over t s zero = refl
    run-over t s (suc r) = refl

    leave-run : (t : Bool) (a x : ℕ) → at a x ≡ last → leave t outermost [] a x ≡ over t
    unfolding arrive arrived return
    leave-run true a x e = ap (λ z. arrived z a [] (λ _. return at stands barred [] true)) e
    leave-run false a x e = refl

    -- The run of a letter that stands barred is the meaning of its text, for any bound g above the allowance n.
    pub run-meaning : (g a : ℕ) (w : Expr) (s : State) (n : ℕ) → texts a ≡ some w → n < g
        → meaning texts permissions role g a w 0 s n ≡ run at stands barred n (arrive at stands barred [] a 2) s
    unfolding Again
    run-meaning g a w s n e lt =
        let st : Stands at stands a (some w) = subst (λ z. Stands at stands a z) e (tables a) in
        meaning-followed texts permissions role g a w 0 s n
        ∙ rel-all g (exit outermost [] a (used_cells w)) _ _
        (λ t s' r. ap (λ z. run at stands barred r z s') (leave-run t a (used_cells w) st.2) ∙ run-over t s' r)
        (followed-sim g a w [] s n 2 (used_cells w) outermost lt st.1)
