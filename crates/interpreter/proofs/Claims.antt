-- What specs/Claims states.
use mathlib.Core.Path.{◌≡◌, refl, sym, ap, ◌∙◌, subst}
use mathlib.Core.Bool.{Bool, true, false, cond, ◌&&◌, true≢false, false≢true}
use mathlib.Core.Option.{Option, none, some}
use mathlib.Core.List.{List}
use Prim.Native.Nat.{ℕ, zero, suc}
use lib.Dec.{eqb}
use lib.IntN.{ℤ}
use Rattle.language.specs.declared.Ending.TheVariants.{Spent}
use Rattle.language.specs.Letters.{letter_index}
use Rattle.language.specs.Roles.{steward_permission, cashier_role, bars}
use Rattle.language.specs.Machine.{Instruction, transfer, fail, operate_at, test_at, call_at, Decoded, last, damaged, code, decode}
use Rattle.language.specs.Tables.{decode_at, stands_at, barred_at, execute}
use Rattle.book.specs.declared.Refusal.{Refusal}
use Rattle.book.specs.Calls.{Run, runs}
use Rattle.book.specs.Replies.{reported, tells}
use Rattle.book.specs.Refusals.{is_refusal, refusal, answer}
use Rattle.book.specs.Store.{Store, store_ran, store_accepts, store_view, store_call}
use Rattle.book.specs.Events.{Event}
use Rattle.book.specs.Demand3.{Always}
use Rattle.book.proofs.Refusals.{refusal-refuses, free-run}
use Rattle.book.proofs.Demand3.{history, always, permissions-after}
use Rattle.operands.specs.Loop.{Configuration, Turn, continues, enters, finishes, halt, instruction_turn, decoded_turn}
use Rattle.operands.specs.declared.cells.Code.{Code}
use Rattle.operands.specs.Operands.{table_in}
use Rattle.interpreter.specs.Fetching.{fetched, Point, Progress, next, over, turn_by, proceeds, turned_on, course, comes_to, starts_at, leaves, on_turn, goes_on}
use Rattle.interpreter.specs.Claims.{PairStored, GoOnAlike, turns_of, AnswersRemain, ObeysNone}
use Rattle.interpreter.proofs.Allowed.{Allowed, AllowedTurn, decoded-allowed}
use Rattle.interpreter.proofs.Loop.{run_at, after, turn-run, Stays, decoded-stays}

-- ── the pair ────────────────────────────────────────────────────────────────────────────────────

-- the pair that is held is the store's for the letter
abbrev Paired : List ℕ → Progress → Type 0
Paired u (next s) = s.pair ≡ fetched u s.configuration.letter
Paired u (over o) = Unit {0}

module _ (c : List ℤ) (u k : List ℕ) (r : ℕ) where
  turn-paired : (p : Code) (l : ℕ) (t : Turn) → p ≡ fetched u l → Stays l t → Paired u (proceeds c u k r p t)
  turn-paired p l (continues m) e k = e ∙ ap (fetched u) (sym k)
  turn-paired p l (enters m) e k = refl
  turn-paired p l (finishes o) e k = tt

  on-paired : (x : Progress) → Paired u x → Paired u (turned_on c u k r x)
  on-paired (next s) e =
      let p = s.pair in
      turn-paired p s.configuration.letter (turn_by c u k r p s.configuration) e (decoded-stays (stands_at u) (barred_at k r) (decode (table_in c p) s.configuration.cell) s.configuration)
  on-paired (over o) e = tt

  course-paired : (n : ℕ) (m : Configuration) → Paired u (course c u k r n m)
  unfolding course
  course-paired zero m = refl
  course-paired (suc n) m = on-paired (course c u k r n m) (course-paired n m)

-- before every mark the pair is the store's
pub pair-stored : PairStored
pair-stored c u k r m n s e = subst (Paired u) e (course-paired c u k r n m)

-- ── until a call or a return is due ─────────────────────────────────────────────────────────────

-- a turn that is no call and no return does not ask which letters stand
instruction-alike : (f g b : ℕ → Bool) (i : Instruction) (m : Configuration) → leaves (code i) ≡ false → instruction_turn f b i m ≡ instruction_turn g b i m
instruction-alike f g b (transfer n) m e = refl
instruction-alike f g b fail m e = refl
instruction-alike f g b (operate_at o n) m e = refl
instruction-alike f g b (test_at p n x) m e = refl
instruction-alike f g b (call_at a n x) m e = absurd (true≢false e)

decoded-alike : (f g b : ℕ → Bool) (x : Decoded) (m : Configuration) → leaves x ≡ false → decoded_turn f b x m ≡ decoded_turn g b x m
decoded-alike f g b last m e = refl
decoded-alike f g b damaged m e = refl
decoded-alike f g b (code i) m e = ap (cond (eqb m.left 0) (halt Spent m)) (instruction-alike f g b i m e)

on_alike : (f g : Configuration → Turn) → ((m : Configuration) → f m ≡ g m) → (t : Turn) → on_turn t f ≡ on_turn t g
on_alike f g h (continues m) = h m
on_alike f g h (enters m) = refl
on_alike f g h (finishes o) = refl

-- two stores that differ in used-cell counts alone
pub go-on-alike : GoOnAlike
unfolding goes_on
go-on-alike c u v k r p zero m = refl
go-on-alike c u v k r p (suc n) m = go (leaves d) refl (on_alike (goes_on c u k r p n) (goes_on c v k r p n) (go-on-alike c u v k r p n) (turn_by c v k r p m))
  where
    d : Decoded
    d = decode (table_in c p) m.cell

    go : (b : Bool) → leaves d ≡ b → on_turn (turn_by c v k r p m) (goes_on c u k r p n) ≡ on_turn (turn_by c v k r p m) (goes_on c v k r p n)
        → cond b (continues m) (on_turn (turn_by c u k r p m) (goes_on c u k r p n)) ≡ cond b (continues m) (on_turn (turn_by c v k r p m) (goes_on c v k r p n))
    go true e h = refl
    go false e h = ap (λ (t : Turn). on_turn t (goes_on c u k r p n)) (decoded-alike (stands_at u) (stands_at v) (barred_at k r) d m e) ∙ h

-- ── answers ─────────────────────────────────────────────────────────────────────────────────────

module _ (c : List ℤ) (u k : List ℕ) (r : ℕ) where
  turn-comes : (p : Code) (t : Turn) → comes_to c u k r (proceeds c u k r p t) ≡ after (decode_at c u) (stands_at u) (barred_at k r) t
  unfolding after run_at
  turn-comes p (continues m) = refl
  turn-comes p (enters m) = refl
  turn-comes p (finishes o) = refl

  on-comes : (x : Progress) → Paired u x → comes_to c u k r (turned_on c u k r x) ≡ comes_to c u k r x
  unfolding after run_at
  on-comes (over o) e = refl
  on-comes (next s) e =
      let m = s.configuration in
      turn-comes s.pair (turn_by c u k r s.pair m)
      ∙ ap (λ (p : Code). after (decode_at c u) (stands_at u) (barred_at k r) (turn_by c u k r p m)) e
      ∙ sym (turn-run (decode_at c u) (stands_at u) (barred_at k r) m)

  course-comes : (j : ℕ) (m : Configuration) → comes_to c u k r (course c u k r j m) ≡ comes_to c u k r (course c u k r zero m)
  unfolding course
  course-comes zero m = refl
  course-comes (suc j) m = on-comes (course c u k r j m) (course-paired c u k r j m) ∙ course-comes j m

-- of any store, a run that is not refused: its letter is for its caller, and it answers what the table machine comes to
record Accepted (st : Store) (x : Run) : Type 0 where
  allowed : barred_at st.permissions x.role (letter_index x.letter) ≡ false
  reply : (store_call st (runs x)).reply ≡ store_ran st x

not-refused : (st : Store) (x : Run) → is_refusal (store_call st (runs x)).reply.report.number ≡ false → Accepted st x
unfolding store_call
not-refused st x h = go (refusal (store_view st) (runs x)) refl h
  where
    go : (o : Option Refusal) → refusal (store_view st) (runs x) ≡ o
        → is_refusal (answer o st st.variables (runs x) (store_accepts st (runs x))).reply.report.number ≡ false → Accepted st x
    go (some r) e k = unfold answer tells in absurd (false≢true (sym k ∙ refusal-refuses r))
    go none e k =
        record {
          allowed = (free-run (store_view st) x e).allowed;
          reply = unfold answer store_accepts in ap (λ o. (answer o st st.variables (runs x) (store_accepts st (runs x))).reply) e;
        }

-- the run comes to what the table machine comes to
pub answers-remain : AnswersRemain
unfolding course execute store_ran
answers-remain st x h n =
    (not-refused st x h).reply ∙ ap (reported st.variables x.allowance) (sym (course-comes st.cells st.used st.permissions x.role n _))

-- ── letters that are for the caller ─────────────────────────────────────────────────────────────

-- a mark is next in such a letter, or the run is over
abbrev AllowedProgress : (ℕ → Bool) → Progress → Type 0
AllowedProgress barred (next s) = Allowed barred s.configuration
AllowedProgress barred (over o) = Unit {0}

module _ (c : List ℤ) (u k : List ℕ) (r : ℕ) where
  proceeds-allowed : (p : Code) (t : Turn) → AllowedTurn (barred_at k r) t → AllowedProgress (barred_at k r) (proceeds c u k r p t)
  proceeds-allowed p (continues m) h = h
  proceeds-allowed p (enters m) h = h
  proceeds-allowed p (finishes o) h = tt

  on-allowed : (x : Progress) → AllowedProgress (barred_at k r) x → AllowedProgress (barred_at k r) (turned_on c u k r x)
  on-allowed (next s) h =
      let p = s.pair in
      proceeds-allowed p (turn_by c u k r p s.configuration)
      (decoded-allowed (barred_at k r) (stands_at u) (decode (table_in c p) s.configuration.cell) s.configuration h)
  on-allowed (over o) h = tt

  course-allowed : (n : ℕ) (m : Configuration) → Allowed (barred_at k r) m → AllowedProgress (barred_at k r) (course c u k r n m)
  unfolding course
  course-allowed zero m h = h
  course-allowed (suc n) m h = on-allowed (course c u k r n m) (course-allowed n m h)

-- Of any store: before every mark the letter then obeyed is for the caller.
only-allowed : (st : Store) (x : Run) (n : ℕ) (z : Point) → barred_at st.permissions x.role (letter_index x.letter) ≡ false → turns_of st x n ≡ next z
    → barred_at st.permissions x.role z.configuration.letter ≡ false
only-allowed st x n z h e =
    (subst (AllowedProgress (barred_at st.permissions x.role)) e
    (course-allowed st.cells st.used st.permissions x.role n
    (starts_at (letter_index x.letter) x.allowance st.variables x.inputs x.output) (record { letter = h; callers = tt }))).letter

-- a letter that is not barred to a cashier is no steward's
open-permission : (r k : ℕ) → r ≡ cashier_role → bars r k ≡ false → eqb k steward_permission ≡ false
unfolding bars
open-permission r k e h = sym (ap (λ z. eqb z cashier_role && eqb k steward_permission) e) ∙ h

obeys-none-then : (es : List Event) → ObeysNone (history es)
obeys-none-then es x h n z e =
    let st = (history es).store in
    let k = only-allowed st x n z (not-refused st x h.accepted).allowed e in
    open-permission x.role _ h.role (ap (bars x.role) (sym (permissions-after es z.configuration.letter)) ∙ k)

pub obeys-none : Always ObeysNone
obeys-none = always ObeysNone obeys-none-then
