-- Any list of events from the fresh store is answered as the book answers it.
use mathlib.Core.Path.{◌≡◌, refl, sym, ap, ◌∙◌, subst}
use Prim.Native.Nat.{ℕ, zero, suc, ◌*◌, ◌<◌}
use native.Mathlib.Omega.{arith}
use mathlib.Core.Bool.{Bool, true, false}
use mathlib.Core.Option.{Option, none, some}
use mathlib.Core.List.{List, [], ◌∷◌, map}
use lib.IntN.{ℤ, pos}
use lib.ListN.{length, get_or, set, length-replicate, length-set}
use lib.Seq.{length-paste, get_or-set_same, get_or-set_other}
use lib.Dec.{T, eqb}
use borrow.Author.Tests.{le-leb, ne_eqb, eqb-true, eqb-false}
use Rattle.language.specs.declared.Table.{Table}
use Rattle.language.specs.Limits.{max_cells, max_letters, max_variables, store_cells}
use Rattle.language.specs.Letters.{letter_index}
use Rattle.language.specs.Roles.{open_permission, permission_at, is_permission}
use Rattle.language.specs.Values.{lawful}
use Rattle.language.specs.Syntax.{Expr}
use Rattle.language.specs.Reading.{Reading, refused, accepted, read, expr_of}
use Rattle.language.specs.Layout.{used_cells}
use Rattle.language.specs.Effects.{start}
use Rattle.language.specs.Meaning.{Outcome, ended, stopped}
use Rattle.language.specs.Tables.{stands_at, execute, sound_count, sound_used, sound_permissions}
use Rattle.language.specs.Statements.{Holds}
use Rattle.language.proofs.ReadingAccepted.{accepted-used}
use Rattle.language.proofs.MachineInvariants.{OutcomeSo}
use Rattle.language.proofs.Letters.{letter-lt}
use Rattle.language.proofs.Tests.{first-true, second-true}
use Rattle.language.proofs.EffectsLawful.{Sane, lawful-zeros, lawful-execute}
use Rattle.language.proofs.EffectsLent.{replicate-at}
use Rattle.language.proofs.TablesMeaning.{length-layout, used-least, machine-meaning}
use Rattle.book.specs.Calls.{Run, Call, defines, withdraws, runs}
use Rattle.book.specs.Replies.{Reply, Answered, leaves, reported, tells}
use Rattle.book.specs.declared.Refusal.{Refusal}
use Rattle.book.specs.Refusals.{refusal_number, View, refusal, answer}
use Rattle.book.specs.Book.{Book, fresh_book, text_of, is_text, with_text, obeyed, book_ran, book_accepts, book_view, book_call}
use Rattle.book.specs.Book as TheBook
use Rattle.book.specs.Store.{Store, fresh_store, Entry, entry_at, with_entry, entry_of, sound_store, store_ran, store_accepts, store_view, store_call}
use Rattle.book.specs.Store as TheStore
use Rattle.book.specs.Events.{Event, calls, asked, the_store, the_book}
use Rattle.book.specs.Sessions.{answers, after}
use Rattle.book.specs.Statements.{Spacious, Full}
use Rattle.book.proofs.Refusals.{free-letter, free-text, free-run}
use Rattle.book.proofs.Store.{entry-same, entry_other}
use Rattle.book.proofs.Sessions.{as-calls}

-- ── a store and a book that agree ───────────────────────────────────────────────────────────────

-- each letter's table is that of its text, and permissions and variables are the same
pub record Agree (st : Store) (b : Book) : Type 0 where
  pub space : Spacious st
  pub texts : length b.texts ≡ max_letters
  pub holds : (a : ℕ) → Holds (entry_at st a).table (text_of b.texts a)
  pub permissions : st.permissions ≡ b.permissions
  pub two : sound_permissions st.permissions ≡ true
  pub same : st.variables ≡ b.variables
  pub values : lawful st.variables ≡ true

sound-counts : (u : List ℕ) → ((a : ℕ) → sound_count (get_or u a 0) ≡ true) → sound_used u ≡ true
unfolding sound_used
sound-counts [] h = refl
sound-counts (n ∷ u) h = rw (h zero, sound-counts u (λ a. h (suc a)))

holds-count : (t : Table) (x : Option Expr) → Holds t x → sound_count t.used ≡ true
unfolding sound_count
holds-count t none h = rw h
holds-count t (some w) h =
    let p = used-least w in
    let q = accepted-used h.text w h.reads in
    let e : t.used ≡ used_cells w = ap (λ (z : Table). z.used) h.table in
    rw (e, ne_eqb (used_cells w) 0 (omega arith), le-leb 3 (used_cells w) p, le-leb (used_cells w) max_cells q)

-- such a store is never refused as 13
pub agree-sound : (st : Store) (b : Book) → Agree st b → sound_store st ≡ true
unfolding sound_store
agree-sound st b ag =
    rw (sound-counts st.used (λ a. holds-count (entry_at st a).table (text_of b.texts a) (ag.holds a)), ag.two, ag.values)

-- a letter stands in both or in neither
holds-stands : (st : Store) (a : ℕ) (x : Option Expr) → Holds (entry_at st a).table x → stands_at st.used a ≡ is_text x
holds-stands st a none h = rw h
holds-stands st a (some w) h =
    let p = used-least w in
    let e : get_or st.used a 0 ≡ used_cells w = ap (λ (t : Table). t.used) h.table in
    rw (e, ne_eqb (used_cells w) 0 (omega arith))

-- ── replacing an entry ──────────────────────────────────────────────────────────────────────────

-- the entry of a text holds it, and fills its letter's cells
entry-holds : (t : List ℕ) (k : ℕ) (v : Reading) → read t ≡ v → Holds (entry_of (expr_of v) k).table (expr_of v)
unfolding expr_of
entry-holds t k (refused r) e = refl
entry-holds t k (accepted w) e = record { table = refl; text = t; reads = e }

entry-full : (t : List ℕ) (k : ℕ) (v : Reading) → read t ≡ v → Full (entry_of (expr_of v) k)
unfolding expr_of
entry-full t k (refused r) e = length-replicate max_cells (pos 0)
entry-full t k (accepted w) e = length-layout w (accepted-used t w e)

-- permissions of which one is put are the two still
put-permissions : (l : List ℕ) (a k : ℕ) → sound_permissions l ≡ true → is_permission k ≡ true → sound_permissions (set l a k) ≡ true
unfolding sound_permissions
put-permissions [] a k h e = h
put-permissions (m ∷ l) zero k h e = rw (e, second-true (is_permission m) (sound_permissions l) h)
put-permissions (m ∷ l) (suc a) k h e = rw (first-true (is_permission m) (sound_permissions l) h, put-permissions l a k (second-true (is_permission m) (sound_permissions l) h) e)

module _ (st : Store) (b : Book) (a : ℕ) (e : Entry) (x : Option Expr) (ag : Agree st b) (lt : a < max_letters) (full : Full e) where
  put-space : Spacious (with_entry st a e)
  unfolding with_entry
  put-space =
      record {
        cells = length-paste st.cells (a * max_cells) e.table.cells max_cells (omega (arith, ag.space.cells)) (omega arith) ∙ ag.space.cells;
        used = length-set st.used a e.table.used ∙ ag.space.used;
        permissions = length-set st.permissions a e.permission ∙ ag.space.permissions;
      }

  text_same : text_of (with_text b a x e.permission).texts a ≡ x
  unfolding with_text text_of
  text_same = get_or-set_same b.texts a x none (omega (arith, ag.texts))

  text-other : (d : ℕ) → (d ≡ a → ⊥) → text_of (with_text b a x e.permission).texts d ≡ text_of b.texts d
  unfolding with_text text_of
  text-other d ne = get_or-set_other b.texts a d x none ne

  put_holds : Holds e.table x → (d : ℕ) → Holds (entry_at (with_entry st a e) d).table (text_of (with_text b a x e.permission).texts d)
  put_holds h d = go (eqb d a) refl
    where
      go : (v : Bool) → eqb d a ≡ v → Holds (entry_at (with_entry st a e) d).table (text_of (with_text b a x e.permission).texts d)
      go true q =
          subst (λ z. Holds (entry_at (with_entry st a e) z).table (text_of (with_text b a x e.permission).texts z)) (sym (eqb-true d a q))
          (subst (λ (z : Entry). Holds z.table (text_of (with_text b a x e.permission).texts a)) (sym (entry-same st a e ag.space lt full))
          (subst (λ z. Holds e.table z) (sym text_same) h))
      go false q =
          let ne = eqb-false d a q in
          subst (λ (z : Entry). Holds z.table (text_of (with_text b a x e.permission).texts d)) (sym (entry_other st a d e ag.space lt full ne))
          (subst (λ z. Holds (entry_at st d).table z) (sym (text-other d ne)) (ag.holds d))

  agree-put : Holds e.table x → is_permission e.permission ≡ true → Agree (with_entry st a e) (with_text b a x e.permission)
  unfolding with_entry with_text
  agree-put h m =
      record {
        space = put-space;
        texts = length-set b.texts a x ∙ ag.texts;
        holds = put_holds h;
        permissions = ap (λ l. set l a e.permission) ag.permissions;
        two = put-permissions st.permissions a e.permission ag.two m;
        same = ag.same;
        values = ag.values;
      }

-- ── one call ────────────────────────────────────────────────────────────────────────────────────

-- the same answer, and they agree again
pub record Both (x : Answered Store) (y : Answered Book) : Type 0 where
  pub reply : x.reply ≡ y.reply
  pub agree : Agree x.kept y.kept

module _ (st : Store) (b : Book) (ag : Agree st b) where
  both-tells : (n : ℕ) (c : Call) → Both (leaves st (tells n c st.variables)) (leaves b (tells n c b.variables))
  both-tells n c = record { reply = ap (λ v. tells n c v) ag.same; agree = ag }

  both-put : (c : Call) (a : ℕ) (e : Entry) (x : Option Expr) → a < max_letters → Full e → Holds e.table x → is_permission e.permission ≡ true
      → Both (leaves (with_entry st a e) (tells 0 c st.variables)) (leaves (with_text b a x e.permission) (tells 0 c b.variables))
  both-put c a e x lt full h m = record { reply = ap (λ v. tells 0 c v) ag.same; agree = agree-put st b a e x ag lt full h m }

  same-ran : (x : Run) (t : Option Expr) → text_of b.texts (letter_index x.letter) ≡ t → is_text t ≡ true → store_ran st x ≡ book_ran b x
  unfolding store_ran book_ran obeyed
  same-ran x none e h = absurd (subst T (sym h) tt)
  same-ran x (some w) e h =
      rw (ag.permissions, ag.same, e)
      (ap (λ o. reported b.variables x.allowance o)
      (machine-meaning (text_of b.texts) st.cells st.used b.permissions x.role ag.holds (letter_index x.letter) w e x.allowance (suc x.allowance) (start b.variables x.inputs x.output) (omega arith)))

  -- a run leaves the variables within the values
  reported-values : (v : List ℤ) (n : ℕ) (o : Outcome) → lawful v ≡ true → OutcomeSo Sane o → lawful (reported v n o).variables ≡ true
  unfolding reported
  reported-values v n (ended t s r) h k = k.variables
  reported-values v n (stopped e s r) h k = h

  ran-values : (x : Run) → lawful x.inputs ≡ true → lawful (store_ran st x).variables ≡ true
  unfolding store_ran
  ran-values x h =
      reported-values st.variables x.allowance
      (execute st.cells st.used st.permissions x.role (letter_index x.letter) x.allowance (start st.variables x.inputs x.output)) ag.values
      (lawful-execute st.cells st.used st.permissions x.role (letter_index x.letter) x.allowance st.variables x.inputs x.output ag.values h)

  both_run : (x : Run) → store_ran st x ≡ book_ran b x → lawful (store_ran st x).variables ≡ true
      → Both (leaves (TheStore.with_variables st (store_ran st x).variables) (store_ran st x)) (leaves (TheBook.with_variables b (book_ran b x).variables) (book_ran b x))
  unfolding TheStore.with_variables TheBook.with_variables
  both_run x e h =
      record {
        reply = e;
        agree =
            record {
              space = record { cells = ag.space.cells; used = ag.space.used; permissions = ag.space.permissions };
              texts = ag.texts;
              holds = ag.holds;
              permissions = ag.permissions;
              two = ag.two;
              same = ap (λ (r : Reply). r.variables) e;
              values = h;
            };
      }

  -- the letters that stand are those with a text
  standing : stands_at st.used ≡ (λ a. is_text (text_of b.texts a))
  standing = λ i a. holds-stands st a (text_of b.texts a) (ag.holds a) i

  both-accepts : (c : Call) → refusal (book_view b) c ≡ none → Both (store_accepts st c) (book_accepts b c)
  unfolding store_accepts book_accepts
  both-accepts (defines l k t) e =
      let f = free-text (book_view b) l k t e in
      both-put (defines l k t) (letter_index l) (entry_of (expr_of (read t)) k) (expr_of (read t))
      (letter-lt l (free-letter (book_view b) (defines l k t) e)) (entry-full t k (read t) refl) (entry-holds t k (read t) refl) f.permission
  both-accepts (withdraws l) e =
      both-put (withdraws l) (letter_index l) (entry_of none open_permission) none
      (letter-lt l (free-letter (book_view b) (withdraws l) e)) (length-replicate max_cells (pos 0)) refl (unfold is_permission in refl)
  both-accepts (runs x) e =
      let f = free-run (book_view b) x e in
      both_run x (same-ran x (text_of b.texts (letter_index x.letter)) refl f.standing) (ran-values x f.inputs)

  both-answer : (c : Call) (o : Option Refusal) → refusal (book_view b) c ≡ o
      → Both (answer o st st.variables c (store_accepts st c)) (answer o b b.variables c (book_accepts b c))
  unfolding answer
  both-answer c none e = both-accepts c e
  both-answer c (some r) e = both-tells (refusal_number r) c

-- what the tests ask is the same of both
same_view : (st : Store) (b : Book) → Agree st b → store_view st ≡ book_view b
same_view st b ag = λ i. record { sound = agree-sound st b ag i; stands = standing st b ag i; permission = permission_at (ag.permissions i) }

-- The store and the book answer a call alike, and agree after it.
pub both-call : (st : Store) (b : Book) (c : Call) → Agree st b → Both (store_call st c) (book_call b c)
unfolding store_call book_call
both-call st b c ag =
    subst (λ (v : View). Both (answer (refusal v c) st st.variables c (store_accepts st c)) (answer (refusal (book_view b) c) b b.variables c (book_accepts b c)))
    (sym (same_view st b ag)) (both-answer st b ag c (refusal (book_view b) c) refl)

-- and so an event
pub both-event : (st : Store) (b : Book) (e : Event) → Agree st b → Both (asked the_store st e) (asked the_book b e)
both-event st b (calls c) ag = both-call st b c ag

-- ── any list of events ───────────────────────────────────────────────────────────────────────────

pub agree_fresh : Agree fresh_store fresh_book
unfolding fresh_store fresh_book text_of
agree_fresh =
    record {
      space = record { cells = length-replicate store_cells (pos 0); used = refl; permissions = refl };
      texts = refl;
      holds = λ a. rw (replicate-at {A = Option Expr} none max_letters a) (replicate-at 0 max_letters a);
      permissions = refl;
      two = unfold sound_permissions in refl;
      same = refl;
      values = lawful-zeros max_variables;
    }

answers-from : (es : List Event) (st : Store) (b : Book) → Agree st b → answers (asked the_store) st es ≡ answers (asked the_book) b es
unfolding answers
answers-from [] st b ag = refl
answers-from (e ∷ es) st b ag =
    let k = both-event st b e ag in
    let q = answers-from es (asked the_store st e).kept (asked the_book b e).kept k.agree in
    λ i. k.reply i ∷ q i

-- From the fresh store every list of events is answered as the book answers it.
pub answers_agree : (es : List Event) → answers (asked the_store) fresh_store es ≡ answers (asked the_book) fresh_book es
answers_agree es = answers-from es fresh_store fresh_book agree_fresh

-- they agree after any events
pub agree_after : (es : List Event) (st : Store) (b : Book) → Agree st b → Agree (after (asked the_store) st es) (after (asked the_book) b es)
unfolding after
agree_after [] st b ag = ag
agree_after (e ∷ es) st b ag = agree_after es (asked the_store st e).kept (asked the_book b e).kept (both-event st b e ag).agree

-- the same of lists of calls
pub calls-agree : (cs : List Call) → answers store_call fresh_store cs ≡ answers book_call fresh_book cs
calls-agree cs = sym (as-calls the_store fresh_store cs) ∙ answers_agree (map calls cs) ∙ as-calls the_book fresh_book cs
