-- The store: entries that are put into it, and what a refused call leaves of it.
use mathlib.Core.Path.{◌≡◌, refl, sym, ap, ◌∙◌}
use Prim.Native.Nat.{ℕ, ◌+◌, ◌-◌, ◌*◌, ◌≤◌, ◌<◌}
use native.Mathlib.Omega.{arith}
use mathlib.Core.Bool.{Bool, true, false, cond, false≢true}
use mathlib.Core.Option.{Option, none, some}
use mathlib.Core.List.{List, ◌++◌, append_assoc}
use lib.IntN.{ℤ, pos}
use lib.ListN.{length, get_or, set, take, drop, take-append-drop, length-drop}
use lib.Seq.{paste, take-append-le, drop-append-le, drop-drop, length-paste, length_paste_head, drop-paste, take_at, drop_at, length-take-le, get_or-take, get_or-drop, get_or-set_same, get_or-set_other, set_comm, take_all, ext_get_or}
use lib.Dec.{ltb}
use borrow.Author.Tests.{ltb-true, ltb-false}
use Rattle.language.specs.declared.Table.{Table}
use Rattle.language.specs.Limits.{max_cells, max_letters, store_cells}
use Rattle.language.specs.Meaning.{Outcome, ended, stopped}
use Rattle.language.specs.Letters.{letter_index}
use Rattle.language.specs.Effects.{start}
use Rattle.language.specs.Roles.{open_permission}
use Rattle.language.specs.Tables.{table_at, execute}
use Rattle.book.specs.Calls.{Call, defines, withdraws, runs, lent_list, lent_output}
use Rattle.book.specs.Replies.{leaves, plain, reported, tells}
use Rattle.book.specs.declared.Refusal.{Refusal}
use Rattle.book.specs.Refusals.{is_refusal, first, zero_or, refused_by, tests, refusal, answer}
use Rattle.book.specs.Store.{Store, with_entry, store_ran, store_accepts, store_view, store_call}
use Rattle.book.specs.Statements.{RefusalKeeps, EntrySame, EntryOther, EntryCommute}
use Rattle.book.proofs.Refusals.{ending-no-refusal}

-- ── a part of a list that is pasted over ────────────────────────────────────────────────────────

-- the part itself
part_same : (d s : List ℤ) (at n : ℕ) → at + n ≤ length d → n ≤ length s → take n (drop at (paste d at s n)) ≡ take n s
part_same d s at n h k =
    let e = length-take-le at d (omega arith) in
    let f = length_paste_head d at s n (omega arith) k in
    ap (λ z. take n z) (drop-append-le at (take at d ++ take n s) (drop (at + n) d) (omega arith))
    ∙ ap (λ z. take n (z ++ drop (at + n) d)) (drop_at (take at d) (take n s) at e)
    ∙ take_at (take n s) (drop (at + n) d) n (length-take-le n s k)

-- a part before it
part-front : (d r : List ℤ) (at m n : ℕ) → m + n ≤ at → at ≤ length d → take n (drop m (take at d ++ r)) ≡ take n (drop m (take at d))
part-front d r at m n h k =
    let e = length-take-le at d k in
    let f : length (drop m (take at d)) ≡ at - m = length-drop m (take at d) ∙ ap (λ z. z - m) e in
    ap (λ z. take n z) (drop-append-le m (take at d) r (omega arith)) ∙ take-append-le n (drop m (take at d)) r (omega arith)

part-before : (d s : List ℤ) (at n m k : ℕ) → m + k ≤ at → at + n ≤ length d → n ≤ length s
    → take k (drop m (paste d at s n)) ≡ take k (drop m d)
part-before d s at n m k h i j =
    ap (λ z. take k (drop m z)) (append_assoc (take at d) (take n s) (drop (at + n) d))
    ∙ part-front d (take n s ++ drop (at + n) d) at m k h (omega arith)
    ∙ sym (part-front d (drop at d) at m k h (omega arith))
    ∙ ap (λ z. take k (drop m z)) (take-append-drop at d)

-- what comes after it
part-after : (d s : List ℤ) (at n m : ℕ) → at + n ≤ m → at + n ≤ length d → n ≤ length s → drop m (paste d at s n) ≡ drop m d
part-after d s at n m h i j =
    let e : at + n + (m - (at + n)) ≡ m = omega arith in
    sym (drop-drop (m - (at + n)) (at + n) (paste d at s n) ∙ ap (λ z. drop z (paste d at s n)) e)
    ∙ ap (λ z. drop (m - (at + n)) z) (drop-paste d at s n (omega arith) j)
    ∙ drop-drop (m - (at + n)) (at + n) d
    ∙ ap (λ z. drop z d) e

-- ── entries ─────────────────────────────────────────────────────────────────────────────────────

table_same : (c : List ℤ) (u : List ℕ) (a : ℕ) (t : Table) → length c ≡ store_cells → length u ≡ max_letters → a < max_letters
    → length t.cells ≡ max_cells → table_at (paste c (a * max_cells) t.cells max_cells) (set u a t.used) a ≡ t
table_same c u a t hc hu lt ht =
    let e = part_same c t.cells (a * max_cells) max_cells (omega arith) (omega arith) ∙ take_all max_cells t.cells (omega arith) in
    let f = get_or-set_same u a t.used 0 (omega arith) in
    λ i. record { used = f i; cells = e i }

table-other : (c : List ℤ) (u : List ℕ) (a b : ℕ) (t : Table) → length c ≡ store_cells → a < max_letters → length t.cells ≡ max_cells → (b ≡ a → ⊥)
    → table_at (paste c (a * max_cells) t.cells max_cells) (set u a t.used) b ≡ table_at c u b
table-other c u a b t hc lt ht ne =
    let f = get_or-set_other u a b t.used 0 ne in
    let e : take max_cells (drop (b * max_cells) (paste c (a * max_cells) t.cells max_cells)) ≡ take max_cells (drop (b * max_cells) c) = go (ltb b a) refl in
    λ i. record { used = f i; cells = e i }
  where
    go : (v : Bool) → ltb b a ≡ v → take max_cells (drop (b * max_cells) (paste c (a * max_cells) t.cells max_cells)) ≡ take max_cells (drop (b * max_cells) c)
    go true h =
        let k = ltb-true b a h in
        part-before c t.cells (a * max_cells) max_cells (b * max_cells) max_cells (omega arith) (omega arith) (omega arith)
    go false h =
        let k = ltb-false b a h in
        ap (λ z. take max_cells z) (part-after c t.cells (a * max_cells) max_cells (b * max_cells) (omega (arith, ne)) (omega arith) (omega arith))

pub entry-same : EntrySame
unfolding with_entry
entry-same st a e sp lt full =
    let m = get_or-set_same st.permissions a e.permission open_permission (omega (arith, sp.permissions)) in
    λ i. record { table = table_same st.cells st.used a e.table sp.cells sp.used lt full i; permission = m i }

pub entry_other : EntryOther
unfolding with_entry
entry_other st a b e sp lt full ne =
    let m = get_or-set_other st.permissions a b e.permission open_permission ne in
    λ i. record { table = table-other st.cells st.used a b e.table sp.cells lt full ne i; permission = m i }

-- ── two entries ─────────────────────────────────────────────────────────────────────────────────

-- what stands at place j of a list that s is pasted over: an element of s, or the list's own
at-paste : (d s : List ℤ) (at n j : ℕ) → at + n ≤ length d → n ≤ length s
    → get_or (paste d at s n) j (pos 0) ≡ cond (ltb j at) (get_or d j (pos 0)) (cond (ltb j (at + n)) (get_or s (j - at) (pos 0)) (get_or d j (pos 0)))
at-paste d s at n j h k = go (ltb j at) (ltb j (at + n)) refl refl
  where
    go : (u v : Bool) → ltb j at ≡ u → ltb j (at + n) ≡ v
        → get_or (paste d at s n) j (pos 0) ≡ cond u (get_or d j (pos 0)) (cond v (get_or s (j - at) (pos 0)) (get_or d j (pos 0)))
    go true v p q =
        let b = ltb-true j at p in
        let z : j + 0 ≡ j = omega arith in
        let one : (l : List ℤ) → get_or (take 1 (drop j l)) 0 (pos 0) ≡ get_or l j (pos 0) =
        λ l. get_or-take 1 (drop j l) 0 (pos 0) (omega arith) ∙ get_or-drop j l 0 (pos 0) ∙ ap (λ i. get_or l i (pos 0)) z in
        sym (one (paste d at s n)) ∙ ap (λ l. get_or l 0 (pos 0)) (part-before d s at n j 1 (omega arith) h k) ∙ one d
    go false true p q =
        let b = ltb-false j at p in
        let c = ltb-true j (at + n) q in
        let z : at + (j - at) ≡ j = omega arith in
        let part : (l : List ℤ) → get_or (take n (drop at l)) (j - at) (pos 0) ≡ get_or l j (pos 0) =
        λ l. get_or-take n (drop at l) (j - at) (pos 0) (omega arith) ∙ get_or-drop at l (j - at) (pos 0) ∙ ap (λ i. get_or l i (pos 0)) z in
        sym (part (paste d at s n))
        ∙ ap (λ l. get_or l (j - at) (pos 0)) (part_same d s at n h k)
        ∙ get_or-take n s (j - at) (pos 0) (omega arith)
    go false false p q =
        let c = ltb-false j (at + n) q in
        let z : j + 0 ≡ j = omega arith in
        let rest : (l : List ℤ) → get_or (drop j l) 0 (pos 0) ≡ get_or l j (pos 0) = λ l. get_or-drop j l 0 (pos 0) ∙ ap (λ i. get_or l i (pos 0)) z in
        sym (rest (paste d at s n)) ∙ ap (λ l. get_or l 0 (pos 0)) (part-after d s at n j c h k) ∙ rest d

-- parts of a list that do not overlap may be pasted over in either order
paste-commute : (d s t : List ℤ) (i j n : ℕ) → i + n ≤ j → j + n ≤ length d → n ≤ length s → n ≤ length t
    → paste (paste d i s n) j t n ≡ paste (paste d j t n) i s n
paste-commute d s t i j n gap fits hs ht =
    let li : length (paste d i s n) ≡ length d = length-paste d i s n (omega arith) hs in
    let lj : length (paste d j t n) ≡ length d = length-paste d j t n (omega arith) ht in
    let l₁ : length (paste (paste d i s n) j t n) ≡ length d = length-paste (paste d i s n) j t n (omega arith) ht ∙ li in
    let l₂ : length (paste (paste d j t n) i s n) ≡ length d = length-paste (paste d j t n) i s n (omega arith) hs ∙ lj in
    ext_get_or (pos 0) _ _ (l₁ ∙ sym l₂)
    (λ k _. at-paste (paste d i s n) t j n k (omega arith) ht
    ∙ ap (λ x. cond (ltb k j) x (cond (ltb k (j + n)) (get_or t (k - j) (pos 0)) x)) (at-paste d s i n k (omega arith) hs)
    ∙ swap k (ltb k i) (ltb k (i + n)) (ltb k j) (ltb k (j + n)) refl refl refl refl
    ∙ ap (λ x. cond (ltb k i) x (cond (ltb k (i + n)) (get_or s (k - i) (pos 0)) x)) (sym (at-paste d t j n k (omega arith) ht))
    ∙ sym (at-paste (paste d j t n) s i n k (omega arith) hs))
  where
    swap : (k : ℕ) (a b c e : Bool) → ltb k i ≡ a → ltb k (i + n) ≡ b → ltb k j ≡ c → ltb k (j + n) ≡ e →
        let x : ℤ = get_or d k (pos 0) in
        let y : ℤ = get_or s (k - i) (pos 0) in
        let z : ℤ = get_or t (k - j) (pos 0) in
        cond c (cond a x (cond b y x)) (cond e z (cond a x (cond b y x))) ≡ cond a (cond c x (cond e z x)) (cond b y (cond c x (cond e z x)))
    swap k true b true e p q r o = refl
    swap k false true true e p q r o = refl
    swap k false false c e p q r o = refl
    swap k true b false e p q r o = absurd (let u = ltb-true k i p in let v = ltb-false k j r in omega arith)
    swap k false true false e p q r o = absurd (let u = ltb-true k (i + n) q in let v = ltb-false k j r in omega arith)

pub entry-commute : EntryCommute
unfolding with_entry
entry-commute st a b e f sp la lb he hf ne =
    let cs : paste (paste st.cells (a * max_cells) e.table.cells max_cells) (b * max_cells) f.table.cells max_cells
    ≡ paste (paste st.cells (b * max_cells) f.table.cells max_cells) (a * max_cells) e.table.cells max_cells = go (ltb a b) refl in
    let us = set_comm st.used a b e.table.used f.table.used (λ q. ne (sym q)) in
    let ms = set_comm st.permissions a b e.permission f.permission (λ q. ne (sym q)) in
    λ i. record { cells = cs i; used = us i; permissions = ms i; variables = st.variables }
  where
    go : (v : Bool) → ltb a b ≡ v
        → paste (paste st.cells (a * max_cells) e.table.cells max_cells) (b * max_cells) f.table.cells max_cells
        ≡ paste (paste st.cells (b * max_cells) f.table.cells max_cells) (a * max_cells) e.table.cells max_cells
    go true h =
        let k = ltb-true a b h in
        paste-commute st.cells e.table.cells f.table.cells (a * max_cells) (b * max_cells) max_cells (omega arith) (omega (arith, sp.cells)) (omega arith) (omega arith)
    go false h =
        let k = ltb-false a b h in
        sym (paste-commute st.cells f.table.cells e.table.cells (b * max_cells) (a * max_cells) max_cells (omega (arith, ne)) (omega (arith, sp.cells)) (omega arith) (omega arith))

-- ── a refused call ──────────────────────────────────────────────────────────────────────────────

-- what a run came to is no refusal
pub reported-accepts : (v : List ℤ) (n : ℕ) (o : Outcome) → is_refusal (reported v n o).report.number ≡ false
unfolding reported
reported-accepts v n (ended t s r) = refl
reported-accepts v n (stopped e s r) = ending-no-refusal e

accepts-accepts : (st : Store) (c : Call) → is_refusal (store_accepts st c).reply.report.number ≡ false
unfolding store_accepts tells
accepts-accepts st (defines l k t) = refl
accepts-accepts st (withdraws l) = refl
accepts-accepts st (runs x) =
    unfold store_ran in
    reported-accepts st.variables x.allowance
    (execute st.cells st.used st.permissions x.role (letter_index x.letter) x.allowance (start st.variables x.inputs x.output))

pub refusal-keeps : RefusalKeeps
unfolding store_call
refusal-keeps st c h = go (refusal (store_view st) c) h
  where
    go : (o : Option Refusal) → is_refusal (answer o st st.variables c (store_accepts st c)).reply.report.number ≡ true
        → answer o st st.variables c (store_accepts st c)
        ≡ leaves st
        (record {
          report = plain (answer o st st.variables c (store_accepts st c)).reply.report.number;
          list = lent_list c;
          output = lent_output c;
          variables = st.variables;
        })
    go none k = unfold answer in absurd (false≢true (sym (accepts-accepts st c) ∙ k))
    go (some r) k = unfold answer tells in refl

-- ── a call by its tests ─────────────────────────────────────────────────────────────────────────

-- a call whose tests come to a number other than 0 answers it and leaves the store
pub call-refused : (st : Store) (c : Call) (n : ℕ) → n ≡ refused_by (tests (store_view st) c) → (n ≡ 0 → ⊥)
    → leaves st (tells n c st.variables) ≡ store_call st c
unfolding store_call refusal
call-refused st c n e h = go (first (tests (store_view st) c)) e
  where
    go : (o : Option Refusal) → n ≡ zero_or o → leaves st (tells n c st.variables) ≡ answer o st st.variables c (store_accepts st c)
    go none q = absurd (h q)
    go (some r) q = unfold answer in ap (λ m. leaves st (tells m c st.variables)) q

-- a call that no refusal fits is accepted
pub call-accepted : (st : Store) (c : Call) → first (tests (store_view st) c) ≡ none → store_accepts st c ≡ store_call st c
unfolding store_call refusal answer
call-accepted st c e = rw e
