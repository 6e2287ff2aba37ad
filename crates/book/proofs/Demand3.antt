-- Demand 3, and what stands after a list of events, said of the events and their answers alone, decides what a run gives.
use mathlib.Core.Path.{◌≡◌, refl, sym, ap, ◌∙◌, subst}
use Prim.Native.Nat.{ℕ, suc, ◌-◌}
use native.Mathlib.Omega.{arith}
use mathlib.Core.Bool.{Bool, true, false, cond, ◌&&◌, ◌||◌, false≢true}
use mathlib.Core.Option.{Option, none, some}
use mathlib.Core.List.{List, [], ◌∷◌}
use lib.IntN.{ℤ}
use lib.ListN.{length, get_or, set, replicate, get_or-eq_default}
use lib.Seq.{get_or-set_same, get_or-set_other}
use lib.Dec.{ltb, eqb}
use borrow.Author.Tests.{le-leb, lt-leb, ne_eqb, eqb-true, eqb-false, ltb-true, ltb-false}
use Rattle.language.specs.declared.Ending.{Ending}
use Rattle.language.specs.Answers.{ending_number}
use Rattle.language.specs.Between.{between}
use Rattle.language.specs.Limits.{max_letters}
use Rattle.language.specs.Letters.{is_letter, letter_index, letter_byte, first_letter, last_letter}
use Rattle.language.specs.Roles.{open_permission, permission_at, bars}
use Rattle.language.specs.Syntax.{Expr}
use Rattle.language.specs.Reading.{accepted, read, expr_of}
use Rattle.language.specs.Effects.{start}
use Rattle.language.specs.Meaning.{Outcome, ended, stopped, meaning}
use Rattle.language.proofs.Between.{between-bounds}
use Rattle.language.proofs.MeaningEndings.{Meant, ProperOutcome, proper-meaning}
use Rattle.language.proofs.EffectsLent.{replicate-at}
use Rattle.book.specs.declared.Refusal.{Refusal}
use Rattle.book.specs.declared.Refusal.TheVariants.{NotStanding, NotForCashiers}
use Rattle.book.specs.Calls.{Run, Call, defines, withdraws, runs}
use Rattle.book.specs.Replies.{Reply, Answered, reported, tells}
use Rattle.book.specs.Refusals.{refusal_number, is_refusal, tests, refusal, answer}
use Rattle.book.specs.Book.{Book, fresh_book, text_of, is_text, with_text, with_variables, obeyed, book_ran, book_accepts, book_view, book_call}
use Rattle.book.specs.Store.{Store, fresh_store}
use Rattle.book.specs.Events.{Event, calls, asked, the_store, the_book}
use Rattle.book.specs.Sessions.{answers, after, calls_of}
use Rattle.book.specs.History.{History, Standing, stands_after, standing_from, standing, read_text, permission_of}
use Rattle.book.specs.Demand3.{Always, Never, ByTheBook, Demand3, Admissible, run_after, refuses, RefusedExactly, ObeysStanding}
use Rattle.book.proofs.Refusals.{refusal-not-zero, Safe, safe-refusal, faultless, free-letter, free-text}
use Rattle.book.proofs.Store.{reported-accepts}
use Rattle.book.proofs.Sessions.{transfer}
use Rattle.book.proofs.History.{Agree, both-call, both-event, agree_fresh, answers_agree, agree_after}

-- ── from lists of events to sessions ────────────────────────────────────────────────────────────

-- the history of these events from the fresh store, by definition
abbrev pub history : List Event → History
history es = record { events = es; replies = answers (asked the_store) fresh_store es; store = after (asked the_store) fresh_store es }

-- what holds of these histories holds of every session
pub always : (claim : History → Type 0) → ((es : List Event) → claim (history es)) → Always claim
always claim h P of s ss e p =
    let f = transfer P Store Event of (asked the_store) s ss p in
    let q = ap (λ z. answers (asked the_store) z (calls_of ss)) (sym e) ∙ sym f.replies in
    let r = ap (λ z. after (asked the_store) z (calls_of ss)) (sym e) ∙ sym f.last in
    subst claim (λ i. record { events = calls_of ss; replies = q i; store = r i }) (h (calls_of ss))

-- ── 13 and 29 ───────────────────────────────────────────────────────────────────────────────────

-- 13 is no ending of the nested meaning, nor is 29
safe-ending : (e : Ending) → Meant e ≡ true → Safe (ending_number e)
safe-ending e h =
    let not : (n : ℕ) → ending_number e ≡ n → between 20 28 n || eqb n 34 ≡ true = λ n q. ap (λ m. between 20 28 m || eqb m 34) (sym q) ∙ h in
    (λ q. false≢true (not 13 q), λ q. false≢true (not 29 q))

safe-reported : (v : List ℤ) (n : ℕ) (o : Outcome) → ProperOutcome o → Safe (reported v n o).report.number
unfolding reported
safe-reported v n (ended t s r) h = (λ e. omega arith, λ e. omega arith)
safe-reported v n (stopped k s r) h = safe-ending k h

proper-obeyed : (b : Book) (x : Run) (t : Option Expr) → ProperOutcome (obeyed b x t)
unfolding obeyed
proper-obeyed b x none = refl
proper-obeyed b x (some w) =
    proper-meaning (text_of b.texts) (permission_at b.permissions) x.role (suc x.allowance) (letter_index x.letter) w 0 (start b.variables x.inputs x.output) x.allowance

safe-accepts : (b : Book) (c : Call) → Safe (book_accepts b c).reply.report.number
unfolding book_accepts book_ran tells
safe-accepts b (defines l k t) = (λ e. omega arith, λ e. omega arith)
safe-accepts b (withdraws l) = (λ e. omega arith, λ e. omega arith)
safe-accepts b (runs x) =
    safe-reported b.variables x.allowance (obeyed b x (text_of b.texts (letter_index x.letter)))
    (proper-obeyed b x (text_of b.texts (letter_index x.letter)))

safe-call : (b : Book) (c : Call) → Safe (book_call b c).reply.report.number
unfolding book_call
safe-call b c = go (refusal (book_view b) c) refl
  where
    go : (o : Option Refusal) → refusal (book_view b) c ≡ o → Safe (answer o b b.variables c (book_accepts b c)).reply.report.number
    go none e = unfold answer in safe-accepts b c
    go (some r) e = unfold answer tells in safe-refusal (book_view b) refl c r e

safe-event : (b : Book) (e : Event) → Safe (asked the_book b e).reply.report.number
safe-event b (calls c) = safe-call b c

never-book : (es : List Event) (b : Book) → Never 13 (answers (asked the_book) b es) × Never 29 (answers (asked the_book) b es)
unfolding answers
never-book [] b = (tt, tt)
never-book (e ∷ es) b =
    let s = safe-event b e in
    let h = never-book es (asked the_book b e).kept in
    ((s.0, h.0), (s.1, h.1))

by-the-book : (es : List Event) → ByTheBook (history es)
by-the-book es =
    let q = answers_agree es in
    let n = never-book es fresh_book in
    record { replies = q; sound = subst (Never 13) (sym q) n.0; undamaged = subst (Never 29) (sym q) n.1 }

-- Every session answers as the book does, and neither 13 nor 29.
pub demand-3 : Demand3
demand-3 = always ByTheBook by-the-book

-- ── what stands ─────────────────────────────────────────────────────────────────────────────────

-- the text that the book keeps under a byte, which may be no letter
kept : Book → ℕ → Option Expr
kept b l = cond (is_letter l) (text_of b.texts (letter_index l)) none

-- and the permission
kept_permission : Book → ℕ → ℕ
kept_permission b l = cond (is_letter l) (permission_at b.permissions (letter_index l)) open_permission

-- a text's bytes and its expression, with the same permission; a letter without a text is open
abbrev Tracks : Option Standing → Option Expr → ℕ → Type 0
Tracks none none k = open_permission ≡ k
Tracks none (some w) k = ⊥
Tracks (some y) none k = ⊥
Tracks (some y) (some w) k = (read y.text ≡ accepted w) × (y.permission ≡ k)

-- an answer other than 0 leaves what stands
stays : (l m n : ℕ) (x y : Option Standing) → (n ≡ 0 → ⊥) → cond (eqb m l && eqb n 0) y x ≡ x
stays l m n x y h = rw (ne_eqb n 0 h) (go (eqb m l))
  where
    go : (u : Bool) → cond (u && false) y x ≡ x
    go true = refl
    go false = refl

-- an accepted call of the byte m changes what stands of m, and of no other
changes : (l m : ℕ) (x y : Option Standing) → cond (eqb m l && true) y x ≡ cond (eqb m l) y x
changes l m x y = go (eqb m l)
  where
    go : (u : Bool) → cond (u && true) y x ≡ cond u y x
    go true = refl
    go false = refl

-- what is kept of each letter of a list, by a byte, after another is put under the byte m
module _ {A : Type 0} (d : A) (xs : List A) (m : ℕ) (x : A) (letter : is_letter m ≡ true) where
  same_kept : length xs ≡ max_letters → cond (is_letter m) (get_or (set xs (letter_index m) x) (letter_index m) d) d ≡ x
  same_kept len =
      let k = between-bounds first_letter last_letter m letter in
      rw letter (get_or-set_same xs (letter_index m) x d (omega arith))

  other-kept : (l : ℕ) → (m ≡ l → ⊥) → cond (is_letter l) (get_or (set xs (letter_index m) x) (letter_index l) d) d ≡ cond (is_letter l) (get_or xs (letter_index l) d) d
  other-kept l ne = go (is_letter l) refl
    where
      go : (u : Bool) → is_letter l ≡ u → cond u (get_or (set xs (letter_index m) x) (letter_index l) d) d ≡ cond u (get_or xs (letter_index l) d) d
      go true e =
          let i = between-bounds first_letter last_letter l e in
          let j = between-bounds first_letter last_letter m letter in
          get_or-set_other xs (letter_index m) (letter_index l) x d (λ q. ne (omega arith))
      go false e = refl

-- a book with a text and a permission for each letter
pub record Whole (b : Book) : Type 0 where
  pub texts : length b.texts ≡ max_letters
  pub permissions : length b.permissions ≡ max_letters

-- an accepted call of m: the bytes y, the expression z and the permission n stand of m from now on
tracks-put : (b : Book) (l m : ℕ) (x y : Option Standing) (z : Option Expr) (n : ℕ) → Whole b → is_letter m ≡ true → Tracks y z n
    → Tracks x (kept b l) (kept_permission b l) →
    let b' = with_text b (letter_index m) z n in
    Tracks (cond (eqb m l && true) y x) (kept b' l) (kept_permission b' l)
unfolding kept kept_permission with_text text_of
tracks-put b l m x y z n len h e k = rw (changes l m x y) (go (eqb m l) refl)
  where
    go : (u : Bool) → eqb m l ≡ u
        → Tracks (cond u y x) (cond (is_letter l) (get_or (set b.texts (letter_index m) z) (letter_index l) none) none)
        (cond (is_letter l) (get_or (set b.permissions (letter_index m) n) (letter_index l) open_permission) open_permission)
    go true p =
        subst (λ i. Tracks y (cond (is_letter i) (get_or (set b.texts (letter_index m) z) (letter_index i) none) none)
        (cond (is_letter i) (get_or (set b.permissions (letter_index m) n) (letter_index i) open_permission) open_permission)) (eqb-true m l p)
        (rw (same_kept {A = Option Expr} none b.texts m z h len.texts, same_kept open_permission b.permissions m n h len.permissions) e)
    go false p =
        let ne = eqb-false m l p in
        rw (other-kept {A = Option Expr} none b.texts m z h l ne, other-kept open_permission b.permissions m n h l ne) k

module _ (b : Book) (l : ℕ) (x : Option Standing) (len : Whole b) (k : Tracks x (kept b l) (kept_permission b l)) where
  tracks-refused : (c : Call) (r : Refusal) → Tracks (stands_after l x (calls c) (tells (refusal_number r) c b.variables)) (kept b l) (kept_permission b l)
  unfolding tells
  tracks-refused (defines m n t) r = rw (stays l m (refusal_number r) x (some (record { permission = n; text = t })) (refusal-not-zero r)) k
  tracks-refused (withdraws m) r = rw (stays l m (refusal_number r) x none (refusal-not-zero r)) k
  tracks-refused (runs y) r = k

  kept_run : (v : List ℤ) → Tracks x (kept (with_variables b v) l) (kept_permission (with_variables b v) l)
  unfolding kept kept_permission with_variables
  kept_run v = k

  text-tracks : (t : List ℕ) (n : ℕ) (w : Expr) → read t ≡ accepted w → Tracks (some (record { permission = n; text = t })) (expr_of (read t)) n
  unfolding expr_of
  text-tracks t n w e = subst (λ z. Tracks (some (record { permission = n; text = t })) (expr_of z) n) (sym e) (e, refl)

  tracks-accepted : (c : Call) → refusal (book_view b) c ≡ none
      → Tracks (stands_after l x (calls c) (book_accepts b c).reply) (kept (book_accepts b c).kept l) (kept_permission (book_accepts b c).kept l)
  unfolding book_accepts tells
  tracks-accepted (defines m n t) e =
      let w = faultless (read t) (free-text (book_view b) m n t e).text in
      tracks-put b l m x (some (record { permission = n; text = t })) (expr_of (read t)) n len (free-letter (book_view b) (defines m n t) e)
      (text-tracks t n w.0 w.1) k
  tracks-accepted (withdraws m) e =
      tracks-put b l m x none none open_permission len (free-letter (book_view b) (withdraws m) e) refl k
  tracks-accepted (runs y) e = kept_run (book_ran b y).variables

  tracks-call : (c : Call) → Tracks (stands_after l x (calls c) (book_call b c).reply) (kept (book_call b c).kept l) (kept_permission (book_call b c).kept l)
  unfolding book_call
  tracks-call c = go (refusal (book_view b) c) refl
    where
      go : (o : Option Refusal) → refusal (book_view b) c ≡ o →
          let y : Answered Book = answer o b b.variables c (book_accepts b c) in
          Tracks (stands_after l x (calls c) y.reply) (kept y.kept l) (kept_permission y.kept l)
      go none e = unfold answer in tracks-accepted c e
      go (some r) e = unfold answer in tracks-refused c r

-- and so an event
tracks-event : (b : Book) (l : ℕ) (x : Option Standing) → Whole b → Tracks x (kept b l) (kept_permission b l) → (e : Event)
    → Tracks (stands_after l x e (asked the_book b e).reply) (kept (asked the_book b e).kept l) (kept_permission (asked the_book b e).kept l)
tracks-event b l x len k (calls c) = tracks-call b l x len k c

-- a book that agrees with a store is whole
whole : (st : Store) (b : Book) → Agree st b → Whole b
whole st b ag = record { texts = ag.texts; permissions = ap length (sym ag.permissions) ∙ ag.space.permissions }

tracks-events : (es : List Event) (st : Store) (b : Book) (l : ℕ) (x : Option Standing) → Agree st b → Tracks x (kept b l) (kept_permission b l)
    → Tracks (standing_from x es (answers (asked the_store) st es) l) (kept (after (asked the_book) b es) l) (kept_permission (after (asked the_book) b es) l)
unfolding answers after
tracks-events [] st b l x ag k = k
tracks-events (e ∷ es) st b l x ag k =
    let h = both-event st b e ag in
    tracks-events es (asked the_store st e).kept (asked the_book b e).kept l (stands_after l x e (asked the_store st e).reply) h.agree
    (rw h.reply (tracks-event b l x (whole st b ag) k e))

-- ── a run then ──────────────────────────────────────────────────────────────────────────────────

module _ (es : List Event) where
  stood : ℕ → Option Standing
  stood l = standing (history es) l

  book : Book
  book = after (asked the_book) fresh_book es

  agreed : Agree (history es).store book
  unfolding book
  agreed = agree_after es fresh_store fresh_book agree_fresh

  fresh_kept : (l : ℕ) → kept fresh_book l ≡ none
  unfolding kept fresh_book text_of
  fresh_kept l = go (is_letter l) (letter_index l)
    where
      go : (u : Bool) (a : ℕ) → ◌≡◌ {A = Option Expr} (cond u (get_or (replicate max_letters none) a none) none) none
      go true a = replicate-at {A = Option Expr} none max_letters a
      go false a = refl

  fresh-permission : (l : ℕ) → kept_permission fresh_book l ≡ open_permission
  unfolding kept_permission fresh_book
  fresh-permission l = go (is_letter l) (letter_index l)
    where
      go : (u : Bool) (a : ℕ) → cond u (get_or (replicate max_letters open_permission) a open_permission) open_permission ≡ open_permission
      go true a = replicate-at open_permission max_letters a
      go false a = refl

  stood-tracks : (l : ℕ) → Tracks (stood l) (kept book l) (kept_permission book l)
  unfolding stood book
  stood-tracks l = tracks-events es fresh_store fresh_book l none agree_fresh (rw (fresh_kept l, fresh-permission l) refl)

  -- what stands, read, is what the book keeps
  read-tracks : (x : Option Standing) (y : Option Expr) (n : ℕ) → Tracks x y n → read_text x ≡ y
  unfolding expr_of
  read-tracks none none n k = refl
  read-tracks none (some w) n k = absurd k
  read-tracks (some t) none n k = absurd k
  read-tracks (some t) (some w) n k = rw k.0

  -- and so is its permission
  permission-tracks : (x : Option Standing) (y : Option Expr) (n : ℕ) → Tracks x y n → permission_of x ≡ n
  permission-tracks none none n k = k
  permission-tracks none (some w) n k = absurd k
  permission-tracks (some t) none n k = absurd k
  permission-tracks (some t) (some w) n k = k.1

  kept-letter : (l : ℕ) → is_letter l ≡ true → kept book l ≡ text_of book.texts (letter_index l)
  unfolding kept
  kept-letter l h = rw h

  permission-letter : (l : ℕ) → is_letter l ≡ true → kept_permission book l ≡ permission_at book.permissions (letter_index l)
  unfolding kept_permission
  permission-letter l h = rw h

  -- what is kept of each letter, by its index
  by_index : {A : Type 0} (d : A) (xs : List A) → length xs ≡ max_letters → (a : ℕ)
      → cond (is_letter (letter_byte a)) (get_or xs (letter_index (letter_byte a)) d) d ≡ get_or xs a d
  by_index {A} d xs len a = go (ltb a max_letters) refl
    where
      go : (u : Bool) → ltb a max_letters ≡ u → cond (is_letter (letter_byte a)) (get_or xs (letter_index (letter_byte a)) d) d ≡ get_or xs a d
      go true e =
          let h = ltb-true a max_letters e in
          let q : letter_byte a - first_letter ≡ a = omega arith in
          rw (le-leb first_letter (letter_byte a) (omega arith), le-leb (letter_byte a) last_letter (omega arith), q)
      go false e =
          let h = ltb-false a max_letters e in
          let z : get_or xs a d ≡ d = get_or-eq_default xs d (omega (arith, len)) in
          rw (le-leb first_letter (letter_byte a) (omega arith), lt-leb (letter_byte a) last_letter (omega arith), z)

  kept-index : (a : ℕ) → kept book (letter_byte a) ≡ text_of book.texts a
  unfolding kept text_of
  kept-index a = by_index {A = Option Expr} none book.texts agreed.texts a

  permission-index : (a : ℕ) → kept_permission book (letter_byte a) ≡ permission_at book.permissions a
  unfolding kept_permission
  permission-index a = by_index open_permission book.permissions (whole _ book agreed).permissions a

  texts-stand : text_of book.texts ≡ (λ a. read_text (standing (history es) (letter_byte a)))
  unfolding stood
  texts-stand = λ i a. (sym (read-tracks (stood (letter_byte a)) (kept book (letter_byte a)) _ (stood-tracks (letter_byte a)) ∙ kept-index a)) i

  permissions-stand : permission_at book.permissions ≡ (λ a. permission_of (standing (history es) (letter_byte a)))
  unfolding stood
  permissions-stand = λ i a. (sym (permission-tracks (stood (letter_byte a)) (kept book (letter_byte a)) _ (stood-tracks (letter_byte a)) ∙ permission-index a)) i

  -- an admissible run is refused by 10, where its letter has no text, and by 33, where it is not for the caller
  abbrev refusal_by : Bool → Bool → Option Refusal
  refusal_by false v = some NotStanding
  refusal_by true true = some NotForCashiers
  refusal_by true false = none

  only-standing : (x : Run) → Admissible x → (u v : Bool) → is_text (text_of book.texts (letter_index x.letter)) ≡ u
      → bars x.role (permission_at book.permissions (letter_index x.letter)) ≡ v → refusal (book_view book) (runs x) ≡ refusal_by u v
  unfolding refusal tests
  only-standing x h true true e f = rw (h.letter, h.role, e, f)
  only-standing x h true false e f = rw (h.letter, h.role, e, f, h.inputs, h.places)
  only-standing x h false v e f = rw (h.letter, h.role, e)

  -- the book's answer to such a run
  run-answer : (x : Run) → Admissible x → (u v : Bool) → is_text (text_of book.texts (letter_index x.letter)) ≡ u
      → bars x.role (permission_at book.permissions (letter_index x.letter)) ≡ v
      → run_after (history es) x
      ≡ (answer (refusal_by u v) book book.variables (runs x) (book_accepts book (runs x))).reply
  unfolding book_call
  run-answer x h u v e f =
      (both-call (history es).store book (runs x) agreed).reply
      ∙ ap (λ o. (answer o book book.variables (runs x) (book_accepts book (runs x))).reply) (only-standing x h u v e f)

  refused-by : (x : Run) → Admissible x → (y : Option Standing) (z : Option Expr) → text_of book.texts (letter_index x.letter) ≡ z
      → Tracks y z (permission_at book.permissions (letter_index x.letter))
      → is_refusal (run_after (history es) x).report.number ≡ refuses x.role y
  refused-by x h none none e k =
      ap (λ (r : Reply). is_refusal r.report.number) (run-answer x h false _ (ap is_text e) refl) ∙ (unfold answer tells in refl)
  refused-by x h none (some w) e k = absurd k
  refused-by x h (some y) none e k = absurd k
  refused-by x h (some y) (some w) e k = go (bars x.role y.permission) (ap (bars x.role) (sym k.1))
    where
      go : (v : Bool) → bars x.role (permission_at book.permissions (letter_index x.letter)) ≡ v
          → is_refusal (run_after (history es) x).report.number ≡ v
      go true f = ap (λ (r : Reply). is_refusal r.report.number) (run-answer x h true true (ap is_text e) f) ∙ (unfold answer tells in refl)
      go false f =
          ap (λ (r : Reply). is_refusal r.report.number) (run-answer x h true false (ap is_text e) f)
          ∙ (unfold answer book_accepts book_ran in reported-accepts book.variables x.allowance (obeyed book x (text_of book.texts (letter_index x.letter))))

  obeyed-by : (x : Run) → Admissible x → (w : Expr) → text_of book.texts (letter_index x.letter) ≡ some w
      → bars x.role (permission_at book.permissions (letter_index x.letter)) ≡ false
      → run_after (history es) x
      ≡ reported book.variables x.allowance
      (meaning (text_of book.texts) (permission_at book.permissions) x.role (suc x.allowance) (letter_index x.letter) w 0
      (start book.variables x.inputs x.output) x.allowance)
  unfolding answer book_accepts book_ran obeyed
  obeyed-by x h w e f =
      run-answer x h true false (ap is_text e) f
      ∙ ap (λ z. reported book.variables x.allowance (obeyed book x z)) e

-- ── of every history ────────────────────────────────────────────────────────────────────────────

refused-then : (es : List Event) → RefusedExactly (history es)
unfolding stood
refused-then es x h =
    refused-by es x h (stood es x.letter) (kept (book es) x.letter) (sym (kept-letter es x.letter h.letter))
    (subst (Tracks (stood es x.letter) (kept (book es) x.letter)) (permission-letter es x.letter h.letter) (stood-tracks es x.letter))

pub refused-exactly : Always RefusedExactly
refused-exactly = always RefusedExactly refused-then

-- what stands of a letter, by its index
own : (es : List Event) (x : Run) → Admissible x → standing (history es) (letter_byte (letter_index x.letter)) ≡ standing (history es) x.letter
own es x h =
    let b = between-bounds first_letter last_letter x.letter h.letter in
    let q : letter_byte (letter_index x.letter) ≡ x.letter = omega arith in
    ap (standing (history es)) q

obeys-then : (es : List Event) → ObeysStanding (history es)
unfolding book
obeys-then es x w h e f =
    let a = letter_index x.letter in
    let k : text_of (book es).texts a ≡ some w = ap (λ z. z a) (texts-stand es) ∙ ap read_text (own es x h) ∙ e in
    let m : bars x.role (permission_at (book es).permissions a) ≡ false =
    ap (λ z. bars x.role (z a)) (permissions-stand es) ∙ ap (λ z. bars x.role (permission_of z)) (own es x h) ∙ f in
    let v = (agreed es).same in
    obeyed-by es x h w k m
    ∙ (λ i. reported (sym v i) x.allowance
    (meaning (texts-stand es i) (permissions-stand es i) x.role (suc x.allowance) a w 0 (start (sym v i) x.inputs x.output) x.allowance))

pub obeys-standing : Always ObeysStanding
obeys-standing = always ObeysStanding obeys-then

-- the permissions of the store that events leave are those that stand
pub permissions-after : (es : List Event) (a : ℕ) → permission_at (history es).store.permissions a ≡ permission_of (standing (history es) (letter_byte a))
permissions-after es a = ap (λ ks. permission_at ks a) (agreed es).permissions ∙ ap (λ f. f a) (permissions-stand es)
