-- Which endings can occur: the nested meaning never ends as damaged, and it ends as 27 only where a letter that can be called has no text.
use mathlib.Core.Path.{◌≡◌, refl, sym, subst}
use Prim.Native.Nat.{ℕ, zero, suc, ◌+◌, ◌%◌}
use mathlib.Core.Bool.{Bool, true, false, cond, ◌||◌, false≢true}
use mathlib.Core.Option.{Option, none, some}
use mathlib.Core.List.{List, [], ◌∷◌}
use lib.IntN.{ℤ, pos, nat_abs}
use lib.ListN.{length, get_or}
use lib.Dec.{leb, ltb, eqb}
use Rattle.language.specs.Bytes.{newline_byte}
use Rattle.language.specs.declared.Ending.{Ending}
use Rattle.language.specs.declared.Ending.TheVariants.{Spent, ListEmpty, ListFull, Range, ZeroDivisor, NoInput, PaperOut, NoText, DeepCalls, StewardCall}
use Rattle.language.specs.Answers.{ending_number}
use Rattle.language.specs.Limits.{max_height, max_calls, max_variables}
use Rattle.language.specs.Syntax.{Operator, absolute, discard, negate, copy, write, newline, input, add, subtract, multiply, divide, fetch, save}
use Rattle.language.specs.Syntax.{negative, null, equal, Operation, operator, variable, constant, print, Predicate, condition, counter}
use Rattle.language.specs.Syntax.{Expr, close, semi, colon, operate, test, call, inner}
use Rattle.language.specs.Between.{between}
use Rattle.language.specs.Effects.{State, Effect, goes, stops, Verdict, answers, stops_by, needs, ranged, pushed, emitted, operated, perform, ask, count_index, with_taken, top, column, on_call}
use Rattle.language.specs.Values.{is_value}
use Rattle.language.specs.Roles.{bars}
use Rattle.language.specs.Meaning.{Outcome, ended, stopped, meaning}
use Rattle.language.specs.Machine.{on_effect, on_verdict}
use Rattle.language.proofs.MeaningFollowing.{step, and_then, follow, followed, meaning-followed}

-- ── one mark ────────────────────────────────────────────────────────────────────────────────────

-- an ending of the nested meaning: 20 to 28 and 34, not damage
abbrev pub Meant : Ending → Bool
Meant e = between 20 28 (ending_number e) || eqb (ending_number e) 34

-- and not the call of a letter without a text, 27
abbrev pub Common : Ending → Bool
Common e = cond (eqb (ending_number e) 27) false (Meant e)

-- an operation is stopped by such an ending, if at all
abbrev ProperEffect : Effect → Type 0
ProperEffect (goes s) = Unit {0}
ProperEffect (stops e) = Common e ≡ true

-- and so is a predicate
abbrev ProperVerdict : Verdict → Type 0
ProperVerdict (answers t s) = Unit {0}
ProperVerdict (stops_by e) = Common e ≡ true

proper-cond : (u : Bool) (x y : Effect) → ProperEffect x → ProperEffect y → ProperEffect (cond u x y)
proper-cond true x y h k = h
proper-cond false x y h k = k

asked-cond : (u : Bool) (x y : Verdict) → ProperVerdict x → ProperVerdict y → ProperVerdict (cond u x y)
asked-cond true x y h k = h
asked-cond false x y h k = k

proper-needs : (n : ℕ) (s : State) (x : Effect) → ProperEffect x → ProperEffect (needs n s x)
proper-needs n s x h = proper-cond (ltb s.height n) (stops ListEmpty) x refl h

proper-ranged : (v : ℤ) (s : State) → ProperEffect (ranged v s)
proper-ranged v s = proper-cond (is_value v) (goes s) (stops Range) tt refl

proper-pushed : (s : State) (v : ℤ) → ProperEffect (pushed s v)
proper-pushed s v = proper-cond (ltb s.height max_height) _ (stops ListFull) tt refl

proper-emitted : (s : State) (b : List ℕ) → ProperEffect (emitted s b)
proper-emitted s b = proper-cond (leb (s.written + length b) (length s.output)) _ (stops PaperOut) tt refl

proper-operated : (o : Operator) (s : State) → ProperEffect (operated o s)
unfolding operated
proper-operated absolute s = proper-needs 1 s _ (proper-ranged _ _)
proper-operated negate s = proper-needs 1 s _ (proper-ranged _ _)
proper-operated discard s = proper-needs 1 s (goes _) tt
proper-operated copy s = proper-needs 1 s _ (proper-pushed s _)
proper-operated add s = proper-needs 2 s _ (proper-ranged _ _)
proper-operated subtract s = proper-needs 2 s _ (proper-ranged _ _)
proper-operated multiply s = proper-needs 2 s _ (proper-ranged _ _)
proper-operated divide s = proper-needs 2 s _ (proper-cond (eqb (nat_abs (top s)) 0) (stops ZeroDivisor) _ refl (proper-ranged _ _))
proper-operated input s = proper-cond (ltb s.taken (length s.inputs)) _ (stops NoInput) (proper-pushed (with_taken s (s.taken + 1)) _) refl
proper-operated write s = proper-needs 1 s _ (proper-emitted s (column (top s)))
proper-operated newline s = proper-emitted s (newline_byte ∷ [])

proper-performed : (o : Operation) (s : State) → ProperEffect (perform o s)
unfolding perform
proper-performed (operator o) s = proper-operated o s
proper-performed (variable fetch k) s = proper-pushed s (get_or s.variables (k % max_variables) (pos 0))
proper-performed (variable save k) s = proper-needs 1 s (goes _) tt
proper-performed (constant v) s = proper-pushed s v
proper-performed (print b) s = proper-emitted s b

proper-asked : (l : ℕ) (p : Predicate) (s : State) → ProperVerdict (ask l p s)
unfolding ask
proper-asked l (condition negative) s = asked-cond (ltb s.height 1) (stops_by ListEmpty) (answers _ s) refl tt
proper-asked l (condition null) s = asked-cond (ltb s.height 1) (stops_by ListEmpty) (answers _ s) refl tt
proper-asked l (condition equal) s = asked-cond (ltb s.height 2) (stops_by ListEmpty) (answers _ s) refl tt
proper-asked l (counter m k) s = asked-cond (ltb (get_or s.counts (count_index l k) 0) (suc m)) (answers true _) (answers false _) tt tt

-- ── the texts ───────────────────────────────────────────────────────────────────────────────────

-- every call of an expression is of a letter with the property R
abbrev pub AllCalls : (ℕ → Type 0) → Expr → Type 0
AllCalls R close = Unit {0}
AllCalls R (semi e) = AllCalls R e
AllCalls R (colon e) = AllCalls R e
AllCalls R (operate o e) = AllCalls R e
AllCalls R (test p e) = AllCalls R e
AllCalls R (call a e) = R a × AllCalls R e
AllCalls R (inner f e) = AllCalls R f × AllCalls R e

-- An outcome is stopped by an ending with the property P, if at all.
abbrev pub StopsSo : (Ending → Type 0) → Outcome → Type 0
StopsSo P (ended t s r) = Unit {0}
StopsSo P (stopped e s r) = P e

-- Of endings P and letters R: the common endings have P, the calls of a text whose letter has R are of letters that have it, and where one of these
-- letters has no text, 27 has P.
module _ (P : Ending → Type 0) (R : ℕ → Type 0) (texts : ℕ → Option Expr) (permissions : ℕ → ℕ) (role : ℕ)
    (common : (e : Ending) → Common e ≡ true → P e)
    (closed : (a : ℕ) (w : Expr) → R a → texts a ≡ some w → AllCalls R w)
    (absent : (a : ℕ) → R a → texts a ≡ none → P NoText) where
  stops-step : (r : ℕ) (s : State) (k : ℕ → Outcome) → ((r' : ℕ) → StopsSo P (k r')) → StopsSo P (step r s k)
  unfolding step
  stops-step zero s k h = common Spent refl
  stops-step (suc r) s k h = h r

  stops-effect : (x : Effect) (s : State) (r : ℕ) (k : State → Outcome) → ProperEffect x → ((s' : State) → StopsSo P (k s'))
      → StopsSo P (on_effect x s r k)
  unfolding on_effect
  stops-effect (goes s') s r k h f = f s'
  stops-effect (stops e) s r k h f = common e h

  stops-verdict : (x : Verdict) (s : State) (r : ℕ) (k : Bool → State → Outcome) → ProperVerdict x → ((t : Bool) (s' : State) → StopsSo P (k t s'))
      → StopsSo P (on_verdict x s r k)
  unfolding on_verdict
  stops-verdict (answers t s') s r k h f = f t s'
  stops-verdict (stops_by e) s r k h f = common e h

  stops_then : (x : Outcome) (k : Bool → State → ℕ → Outcome) → StopsSo P x → ((t : Bool) (s : State) (r : ℕ) → StopsSo P (k t s r))
      → StopsSo P (and_then x k)
  unfolding and_then
  stops_then (ended t s r) k h f = f t s r
  stops_then (stopped e s r) k h f = h

  stops-either : (u : Bool) (x y : Outcome) → StopsSo P x → StopsSo P y → StopsSo P (cond u x y)
  stops-either true x y h k = h
  stops-either false x y h k = k

  stops_call : (a : ℕ) (x : Option Expr) (b : Bool) (d : ℕ) (s : State) (r : ℕ) (k : Expr → Outcome) → R a → texts a ≡ x
      → ((v : Expr) → AllCalls R v → StopsSo P (k v)) → StopsSo P (on_call x b d (λ e. stopped e s r) k)
  unfolding on_call
  stops_call a none b d s r k ra e f = absent a ra e
  stops_call a (some v) true d s r k ra e f = common StewardCall refl
  stops_call a (some v) false d s r k ra e f = stops-either (ltb d max_calls) (k v) _ (f v (closed a v ra e)) (common DeepCalls refl)

  stops-follow : (again : ℕ → Expr → ℕ → State → ℕ → Outcome)
      → ((l : ℕ) (w : Expr) (d : ℕ) (s : State) (r : ℕ) → AllCalls R w → StopsSo P (again l w d s r))
      → (e : Expr) (t : Bool) (l : ℕ) (w : Expr) (d : ℕ) (s : State) (r : ℕ) → AllCalls R w → AllCalls R e → StopsSo P (follow texts permissions role again l w d e t s r)
  unfolding follow
  stops-follow again h close true l w d s r cw ce = stops-step r s (λ r'. ended false s r') (λ r'. tt)
  stops-follow again h (semi e) true l w d s r cw ce = stops-step r s (λ r'. ended true s r') (λ r'. tt)
  stops-follow again h (colon e) true l w d s r cw ce = stops-step r s (λ r'. again l w d s r') (λ r'. h l w d s r' cw)
  stops-follow again h (operate o e) true l w d s r cw ce =
      stops-step r s _ (λ r'. stops-effect (perform o s) s (suc r') _ (proper-performed o s) (λ s'. stops-follow again h e true l w d s' r' cw ce))
  stops-follow again h (test p e) true l w d s r cw ce =
      stops-step r s _ (λ r'. stops-verdict (ask l p s) s (suc r') _ (proper-asked l p s) (λ t s'. stops-follow again h e t l w d s' r' cw ce))
  stops-follow again h (call a e) true l w d s r cw ce =
      stops-step r s _ (λ r'. stops_call a (texts a) (bars role (permissions a)) d s (suc r') _ ce.0 refl
      (λ v cv. stops_then (again a v (suc d) s r') _ (h a v (suc d) s r' cv) (λ t s' r''. stops-follow again h e t l w d s' r'' cw ce.1)))
  stops-follow again h (inner f e) true l w d s r cw ce =
      stops_then (follow texts permissions role again l f d f true s r) _ (stops-follow again h f true l f d s r ce.0 ce.0)
      (λ t s' r'. stops-follow again h e t l w d s' r' cw ce.1)
  stops-follow again h close false l w d s r cw ce = tt
  stops-follow again h (semi e) false l w d s r cw ce = stops-follow again h e true l w d s r cw ce
  stops-follow again h (colon e) false l w d s r cw ce = stops-follow again h e true l w d s r cw ce
  stops-follow again h (operate o e) false l w d s r cw ce = stops-follow again h e false l w d s r cw ce
  stops-follow again h (test p e) false l w d s r cw ce = stops-follow again h e false l w d s r cw ce
  stops-follow again h (call a e) false l w d s r cw ce = stops-follow again h e false l w d s r cw ce.1
  stops-follow again h (inner f e) false l w d s r cw ce = stops-follow again h e false l w d s r cw ce.1

  stops-followed : (g l : ℕ) (w : Expr) (d : ℕ) (s : State) (r : ℕ) → AllCalls R w → StopsSo P (followed texts permissions role g l w d s r)
  unfolding followed
  stops-followed zero l w d s r cw = common Spent refl
  stops-followed (suc g) l w d s r cw =
      stops-follow (followed texts permissions role g) (λ l' w' d' s' r' c'. stops-followed g l' w' d' s' r' c') w true l w d s r cw cw

  -- The nested meaning of an expression that calls such letters ends, or stops with such an ending.
  pub stops-meaning : (g l : ℕ) (w : Expr) (d : ℕ) (s : State) (r : ℕ) → AllCalls R w → StopsSo P (meaning texts permissions role g l w d s r)
  stops-meaning g l w d s r cw = subst (StopsSo P) (sym (meaning-followed texts permissions role g l w d s r)) (stops-followed g l w d s r cw)

-- ── 20 to 28, and 34 ────────────────────────────────────────────────────────────────────────────────

-- an ending that is not damage
abbrev Proper : Ending → Type 0
Proper e = Meant e ≡ true

-- an outcome is stopped by such an ending, if at all
abbrev pub ProperOutcome : Outcome → Type 0
ProperOutcome o = StopsSo Proper o

-- any letter may be called
any-calls : (w : Expr) → AllCalls (λ _. Unit {0}) w
any-calls close = tt
any-calls (semi e) = any-calls e
any-calls (colon e) = any-calls e
any-calls (operate o e) = any-calls e
any-calls (test p e) = any-calls e
any-calls (call a e) = (tt, any-calls e)
any-calls (inner f e) = (any-calls f, any-calls e)

common-proper : (e : Ending) → Common e ≡ true → Proper e
common-proper e h = go (eqb (ending_number e) 27) h
  where
    go : (u : Bool) → cond u false (Meant e) ≡ true → Meant e ≡ true
    go true z = absurd (false≢true z)
    go false z = z

-- the nested meaning ends, or stops with 20 to 28 or 34
pub proper-meaning : (texts : ℕ → Option Expr) (permissions : ℕ → ℕ) (role g l : ℕ) (w : Expr) (d : ℕ) (s : State) (r : ℕ) → ProperOutcome (meaning texts permissions role g l w d s r)
proper-meaning texts permissions role g l w d s r =
    stops-meaning Proper (λ _. Unit {0}) texts permissions role common-proper (λ a v h e. any-calls v) (λ a h e. refl) g l w d s r (any-calls w)
