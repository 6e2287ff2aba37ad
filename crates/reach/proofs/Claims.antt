-- The claims of U2 about the report.
use mathlib.Core.Path.{◌≡◌, refl, sym, ap, ◌∙◌, subst}
use mathlib.Core.Bool.{Bool, true, false, cond, not, ◌&&◌, false≢true, ◌||◌}
use mathlib.Core.Option.{Option, none, some}
use mathlib.Core.List.{List, []}
use Prim.Native.Nat.{ℕ, suc, ◌<◌}
use native.Mathlib.Omega.{arith}
use lib.IntN.{ℤ}
use lib.Dec.{eqb}
use borrow.Author.Tests.{not-true}
use Rattle.language.specs.declared.Ending.{Ending}
use Rattle.language.specs.declared.Ending.TheVariants.{Damaged}
use Rattle.language.specs.Answers.{ending_number}
use Rattle.language.specs.Roles.{permission_at}
use Rattle.language.specs.Limits.{max_letters}
use Rattle.language.specs.Letters.{is_letter, letter_index}
use Rattle.language.specs.Syntax.{Expr}
use Rattle.language.specs.Between.{between}
use Rattle.language.specs.Effects.{State, start}
use Rattle.language.specs.Meaning.{Outcome, ended, stopped, meaning}
use Rattle.language.specs.Tables.{stands_at}
use Rattle.language.specs.Statements.{Holds}
use Rattle.language.proofs.Letters.{letter-lt}
use Rattle.language.proofs.MeaningEndings.{Common, AllCalls, StopsSo, stops-meaning}
use Rattle.language.proofs.Tests.{both_true, first-true, second-true}
use Rattle.book.specs.Calls.{Run, runs}
use Rattle.book.specs.Replies.{Reply, reported, tells}
use Rattle.book.specs.declared.Refusal.{Refusal}
use Rattle.book.specs.declared.Refusal.TheVariants.{NoSuchLetter, NotStanding, BadStore}
use Rattle.book.specs.Refusals.{refusal_number, is_refusal, refusal, answer}
use Rattle.book.specs.Book.{Book, fresh_book, text_of, is_text, obeyed, book_ran, book_accepts, book_view, book_call}
use Rattle.book.specs.Store.{Store, fresh_store, entry_at, sound_store, store_call}
use Rattle.book.specs.Events.{Event, asked, the_book}
use Rattle.book.specs.Sessions.{after}
use Rattle.book.specs.Demand3.{Always}
use Rattle.book.proofs.Refusals.{refusal-refuses, refusal-not-zero, free-letter, free-run}
use Rattle.book.proofs.History.{Agree, agree-sound, agree_fresh, both-call, agree_after}
use Rattle.book.proofs.Demand3.{history, always}
use Rattle.reach.specs.Reach.{member, Reaches, is_flagged, each_of, readable, reached_by, missing_of, Report, reports, reach}
use Rattle.reach.specs.Claims.{ReachedExactly, MissingExactly, RefusalKeeps, Warns, EndsNoText, NeverDamaged}
use Rattle.reach.proofs.Flags.{flagged-by, flagged-letter}
use Rattle.reach.proofs.Rounds.{each_all}
use Rattle.reach.proofs.Answers.{store-refused, letter-refused, standing-refused, damaged-refused, given, sound-counts}
use Rattle.reach.proofs.Closure.{reaches-itself, reaches-call, reached-sound, reached-complete, reached-letter}
use Rattle.reach.proofs.Texts.{written, unwritten, holds-readable, all-called}

-- ── a report that is given ──────────────────────────────────────────────────────────────────────

-- the tests that it passed, and what it says
record Given (st : Store) (l : ℕ) (r m : List ℕ) : Type 0 where
  sound : sound_store st ≡ true
  letter : is_letter l ≡ true
  report : reach st l r m ≡ reports 0 (reached_by st (letter_index l)) (missing_of st.used (reached_by st (letter_index l)))

-- a call is refused, with a number that is not 0 and both arrays as they were, or the report is given
data Told (st : Store) (l : ℕ) (r m : List ℕ) : Type 0 where
  refused : (n : ℕ) → (n ≡ 0 → ⊥) → reach st l r m ≡ reports n r m → Told st l r m
  gave : Given st l r m → Told st l r m

told : (st : Store) (l : ℕ) (r m : List ℕ) → Told st l r m
told st l r m = on_store (sound_store st) refl
  where
    on-tables : sound_store st ≡ true → is_letter l ≡ true → stands_at st.used (letter_index l) ≡ true
        → (u : Bool) → each_of max_letters (readable st) ≡ u → Told st l r m
    on-tables s k h true e = gave (record { sound = s; letter = k; report = given st l r m s k h e })
    on-tables s k h false e = refused (ending_number Damaged) (λ z. omega arith) (damaged-refused st l r m s k h e)

    on-standing : sound_store st ≡ true → is_letter l ≡ true → (u : Bool) → stands_at st.used (letter_index l) ≡ u → Told st l r m
    on-standing s k true e = on-tables s k e (each_of max_letters (readable st)) refl
    on-standing s k false e = refused (refusal_number NotStanding) (refusal-not-zero NotStanding) (standing-refused st l r m s k e)

    on-letter : sound_store st ≡ true → (u : Bool) → is_letter l ≡ u → Told st l r m
    on-letter s true e = on-standing s e (stands_at st.used (letter_index l)) refl
    on-letter s false e = refused (refusal_number NoSuchLetter) (refusal-not-zero NoSuchLetter) (letter-refused st l r m s e)

    on_store : (u : Bool) → sound_store st ≡ u → Told st l r m
    on_store true e = on-letter e (is_letter l) refl
    on_store false e = refused (refusal_number BadStore) (refusal-not-zero BadStore) (store-refused st l r m e)

by-given : (st : Store) (l : ℕ) (r m : List ℕ) → (reach st l r m).number ≡ 0 → Given st l r m
by-given st l r m z = go (told st l r m)
  where
    go : Told st l r m → Given st l r m
    go (refused n h e) = absurd (h (sym (ap (λ (x : Report). x.number) e) ∙ z))
    go (gave g) = g

pub refusal-keeps : RefusalKeeps
refusal-keeps st l r m z = go (told st l r m)
  where
    go : Told st l r m → ((reach st l r m).reached ≡ r) × ((reach st l r m).missing ≡ m)
    go (refused n h e) = (ap (λ (x : Report). x.reached) e, ap (λ (x : Report). x.missing) e)
    go (gave g) = absurd (z (ap (λ (x : Report). x.number) g.report))

-- ── reached, missing ────────────────────────────────────────────────────────────────────────────

pub reached-exactly : ReachedExactly
reached-exactly st l r m b z =
    let g = by-given st l r m z in
    let e : (reach st l r m).reached ≡ reached_by st (letter_index l) = ap (λ (x : Report). x.reached) g.report in
    let s = sound-counts st g.sound in
    let k = letter-lt l g.letter in (
      λ h. reached-sound st (letter_index l) s k b (ap (λ x. is_flagged x b) (sym e) ∙ h),
      λ h. ap (λ x. is_flagged x b) e ∙ reached-complete st (letter_index l) s k b h,
    )

-- the marks of what is marked and has no text
missing-of : (u m : List ℕ) (b : ℕ) → (is_flagged (missing_of u m) b ≡ true → (is_flagged m b ≡ true) × (stands_at u b ≡ false))
unfolding missing_of
missing-of u m b e =
    let p : ℕ → Bool = λ x. is_flagged m x && not (stands_at u x) in
    let k : (is_flagged m b && not (stands_at u b)) ≡ true = sym (flagged-by p b (flagged-letter p b e)) ∙ e in
    (first-true (is_flagged m b) (not (stands_at u b)) k, not-true (stands_at u b) (second-true (is_flagged m b) (not (stands_at u b)) k))

of-missing : (u m : List ℕ) (b : ℕ) → b < max_letters → is_flagged m b ≡ true → stands_at u b ≡ false → is_flagged (missing_of u m) b ≡ true
unfolding missing_of
of-missing u m b h e k = flagged-by (λ x. is_flagged m x && not (stands_at u x)) b h ∙ both_true (is_flagged m b) (not (stands_at u b)) e (ap not k)

pub missing-exactly : MissingExactly
missing-exactly st l r m b z =
    let g = by-given st l r m z in
    let a = letter_index l in
    let e : (reach st l r m).missing ≡ missing_of st.used (reached_by st a) = ap (λ (x : Report). x.missing) g.report in
    let s = sound-counts st g.sound in
    let k = letter-lt l g.letter in (
      λ h. let i = missing-of st.used (reached_by st a) b (ap (λ x. is_flagged x b) (sym e) ∙ h) in (reached-sound st a s k b i.0, i.1),
      λ h. let i = reached-complete st a s k b h.0 in
          ap (λ x. is_flagged x b) e ∙ of-missing st.used (reached_by st a) b (reached-letter st a b i) i h.1,
    )

-- ── sequence-made stores ────────────────────────────────────────────────────────────────────────

-- a letter that is reached from k and has no text
record Lacks (st : Store) (k : ℕ) : Type 0 where
  letter : ℕ
  reached : Reaches st k letter
  textless : stands_at st.used letter ≡ false

-- a common ending's number is not 27
common-other : (e : Ending) → Common e ≡ true → ending_number e ≡ 27 → ⊥
common-other e h z =
    let k : Common e ≡ false = ap (λ n. cond (eqb n 27) false (between 20 28 n || eqb n 34)) z in
    false≢true (sym k ∙ h)

module _ (st : Store) (b : Book) (ag : Agree st b) where
  abbrev texts : ℕ → Option Expr
  texts = text_of b.texts

  holds_at : (a : ℕ) (x : Option Expr) → texts a ≡ x → Holds (entry_at st a).table x
  holds_at a x e = subst (Holds (entry_at st a).table) e (ag.holds a)

  -- every table is read without damage
  all-readable : each_of max_letters (readable st) ≡ true
  all-readable = each_all max_letters (readable st) (λ a. holds-readable st a (texts a) (ag.holds a))

  -- what a text that is reached calls is reached
  calls-reached : (k a : ℕ) (w : Expr) → Reaches st k a → texts a ≡ some w → AllCalls (Reaches st k) w
  calls-reached k a w r e =
      let h = written st a w (holds_at a (some w) e) in
      all-called (Reaches st k) w [] (λ c i. reaches-call st k a c r (ap (member c) h.calls ∙ i))

  -- a run of letter k that ends 27
  lacks-meaning : (k : ℕ) (w : Expr) → texts k ≡ some w → (c g d n : ℕ) (s : State)
      → StopsSo (λ e. ending_number e ≡ 27 → Lacks st k) (meaning texts (permission_at b.permissions) c g k w d s n)
  lacks-meaning k w e c g d n s =
      stops-meaning (λ x. ending_number x ≡ 27 → Lacks st k) (Reaches st k) texts (permission_at b.permissions) c (λ x h z. absurd (common-other x h z)) (λ a v r f. calls-reached k a v r f)
      (λ a r f _. record { letter = a; reached = r; textless = unwritten st a (holds_at a none f) })
      g k w d s n (calls-reached k k w (reaches-itself st k) e)

  lacks-reported : (v : List ℤ) (n k : ℕ) (o : Outcome) → StopsSo (λ e. ending_number e ≡ 27 → Lacks st k) o → (reported v n o).report.number ≡ 27 → Lacks st k
  unfolding reported
  lacks-reported v n k (ended t s r) h z = absurd (omega arith)
  lacks-reported v n k (stopped e s r) h z = h z

  -- what is known of a letter whose run ends 27
  record Blocked (l : ℕ) : Type 0 where
    letter : is_letter l ≡ true
    stands : stands_at st.used (letter_index l) ≡ true
    lacks : Lacks st (letter_index l)

  -- a letter stands where it has a text
  stands-text : (a : ℕ) (w : Expr) → texts a ≡ some w → stands_at st.used a ≡ true
  stands-text a w e = (written st a w (holds_at a (some w) e)).stands

  blocked-text : (x : Run) → is_letter x.letter ≡ true → (t : Option Expr) → texts (letter_index x.letter) ≡ t → is_text t ≡ true
      → (reported b.variables x.allowance (obeyed b x t)).report.number ≡ 27 → Blocked x.letter
  unfolding obeyed
  blocked-text x h none e i z = absurd (false≢true i)
  blocked-text x h (some w) e i z =
      let k = letter_index x.letter in
      record {
        letter = h;
        stands = stands-text k w e;
        lacks =
            lacks-reported b.variables x.allowance k
            (meaning texts (permission_at b.permissions) x.role (suc x.allowance) k w 0 (start b.variables x.inputs x.output) x.allowance)
            (lacks-meaning k w e x.role (suc x.allowance) 0 x.allowance (start b.variables x.inputs x.output)) z;
      }

  blocked-answer : (x : Run) (o : Option Refusal) → refusal (book_view b) (runs x) ≡ o
      → (answer o b b.variables (runs x) (book_accepts b (runs x))).reply.report.number ≡ 27 → Blocked x.letter
  unfolding answer tells book_accepts book_ran
  blocked-answer x (some r) e z = absurd (false≢true (sym (ap is_refusal z) ∙ refusal-refuses r))
  blocked-answer x none e z =
      blocked-text x (free-letter (book_view b) (runs x) e) (texts (letter_index x.letter)) refl (free-run (book_view b) x e).standing z

  blocked : (x : Run) → (store_call st (runs x)).reply.report.number ≡ 27 → Blocked x.letter
  unfolding book_call
  blocked x z =
      blocked-answer x (refusal (book_view b) (runs x)) refl
      (sym (ap (λ (r : Reply). r.report.number) (both-call st b (runs x) ag).reply) ∙ z)

  -- the report of a letter that stands
  given-agree : (l : ℕ) (r m : List ℕ) → is_letter l ≡ true → stands_at st.used (letter_index l) ≡ true → (reach st l r m).number ≡ 0
  given-agree l r m h k = ap (λ (x : Report). x.number) (given st l r m (agree-sound st b ag) h k all-readable)

  warns : (x : Run) (r m : List ℕ) → (store_call st (runs x)).reply.report.number ≡ 27 → Warns (reach st x.letter r m)
  warns x r m z =
      let k = blocked x z in
      let g = given-agree x.letter r m k.letter k.stands in
      record {
        given = g;
        missing =
            record {
              letter = k.lacks.letter;
              marked = (missing-exactly st x.letter r m k.lacks.letter g).1 (k.lacks.reached, k.lacks.textless);
            };
      }

  -- a number that is neither 13 nor 29
  neither : (l : ℕ) (r m : List ℕ) → ((reach st l r m).number ≡ 13 → ⊥) × ((reach st l r m).number ≡ 29 → ⊥)
  neither l r m = on-letter (is_letter l) refl
    where
      is : (n : ℕ) → reach st l r m ≡ reports n r m → (n ≡ 13 → ⊥) → (n ≡ 29 → ⊥) → ((reach st l r m).number ≡ 13 → ⊥) × ((reach st l r m).number ≡ 29 → ⊥)
      is n e h k = let z = ap (λ (x : Report). x.number) e in (λ q. h (sym z ∙ q), λ q. k (sym z ∙ q))

      on-standing : is_letter l ≡ true → (u : Bool) → stands_at st.used (letter_index l) ≡ u
          → ((reach st l r m).number ≡ 13 → ⊥) × ((reach st l r m).number ≡ 29 → ⊥)
      on-standing h true e = let z = given-agree l r m h e in (λ q. omega (arith, z, q), λ q. omega (arith, z, q))
      on-standing h false e = is 10 (standing-refused st l r m (agree-sound st b ag) h e) (λ q. omega arith) (λ q. omega arith)

      on-letter : (u : Bool) → is_letter l ≡ u → ((reach st l r m).number ≡ 13 → ⊥) × ((reach st l r m).number ≡ 29 → ⊥)
      on-letter true e = on-standing e (stands_at st.used (letter_index l)) refl
      on-letter false e = is 1 (letter-refused st l r m (agree-sound st b ag) e) (λ q. omega arith) (λ q. omega arith)

-- the book that events leave agrees with the store that they leave
agreed : (es : List Event) → Agree (history es).store (after (asked the_book) fresh_book es)
agreed es = agree_after es fresh_store fresh_book agree_fresh

ends-then : (es : List Event) → EndsNoText (history es)
ends-then es x r m z = warns (history es).store (after (asked the_book) fresh_book es) (agreed es) x r m z

pub ends-no-text : Always EndsNoText
ends-no-text = always EndsNoText ends-then

never-then : (es : List Event) → NeverDamaged (history es)
never-then es l r m = neither (history es).store (after (asked the_book) fresh_book es) (agreed es) l r m

pub never-damaged : Always NeverDamaged
never-damaged = always NeverDamaged never-then
