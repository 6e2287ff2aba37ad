-- Laws of reading mark after mark: where an instruction ends, that a reading ends, and what it calls.
use mathlib.Core.Path.{◌≡◌, refl, sym, ap, ◌∙◌, subst}
use mathlib.Core.Bool.{Bool, true, false, cond, false≢true}
use mathlib.Core.List.{List, [], ◌∷◌}
use Prim.Native.Nat.{ℕ, zero, suc, ◌+◌, ◌≤◌, ◌<◌}
use native.Mathlib.Omega.{arith}
use native.Mathlib.Numerals.{add-one}
use lib.IntN.{ℤ, pos, negsuc}
use lib.Dec.{eqb, ltb}
use mir.Syntax.{w32}
use mir.Val.{to_z, of_z}
use borrow.Author.Tests.{eqb-true, eqb-false}
use Rattle.std.specs.Prelude.{Option, Some, None, option_map, option_and_then}
use Rattle.language.specs.declared.Table.{Table}
use Rattle.language.specs.Limits.{max_cells, max_letters}
use Rattle.language.specs.Letters.{first_letter, last_letter, is_letter, letter_index}
use Rattle.language.specs.Layout.{code_start}
use Rattle.language.specs.Lookup.{lookup}
use Rattle.language.specs.Syntax.{Operation, operator, constant, Predicate}
use Rattle.language.specs.Values.{is_value}
use Rattle.language.specs.Machine.{Instruction, transfer, fail, operate_at, test_at, call_at, Decoded, last, damaged, code, cell}
use Rattle.language.specs.Machine.{Kind, is_constant, is_print, is_counter, is_none, is_operator, is_variable, is_condition, is_call, kinds, kind, mark, sound, natural, exactly, decode}
use Rattle.language.specs.Tables.{table_from}
use Rattle.language.proofs.Tests.{by-ltb}
use Rattle.language.proofs.Between.{between-bounds}
use Rattle.language.proofs.Letters.{letter-lt}
use Rattle.operands.specs.declared.cells.Code.{Code}
use Rattle.operands.specs.declared.cells.Counter.{Counter}
use Rattle.operands.specs.declared.cells.Due.{Due}
use Rattle.operands.specs.declared.cells.Due.TheVariants.{Mark, Transfer, End}
use Rattle.operands.specs.Operands.{byte_at, second_cell, second_at, exit_of, digit_at, target_of, bounded_of, table_in, counter_at, print_at}
use Rattle.operands.proofs.Operands.{none-some, some-same, print-good}
use Rattle.operands.proofs.OperandsDecoding.{decoded_from, call-kind, mark-decoded, transfer-decoded, condition-read, call-read, constant-read, variable-read, count-read, print-read}
use Rattle.operands.proofs.OperandsDecoding.{decode-end, decode-low, decode-high, decode-last, decode-fail, exact-yes, exact-no}
use Rattle.marks.specs.Marks.{next_cell, met, marks_from, marks, undamaged, called, calls_in}
use Rattle.marks.specs.Formats.{format_of_kind, format_of, mark_end, end_of, called_as, called_of, ticked, Reads}

-- ── an instruction before the last two cells ────────────────────────────────────────────────────

-- Code that starts at cell q, which holds d: it ends further on and before the last cell, and it calls what the cell calls.
pub record Goes (u q : ℕ) (d : Due) (i : Instruction) : Type 0 where
  pub further : q < next_cell i q
  pub before : next_cell i q < u
  pub letter : (r : List ℕ) → called i r ≡ called_of d r

-- what decodes there is damage, or such code
unfoldable pub Whole : ℕ → ℕ → Due → Decoded → Type 0
Whole u q d last = ⊥
Whole u q d damaged = Unit {0}
Whole u q d (code i) = Goes u q d i

module _ (u q : ℕ) (d : Due) where
  whole-damaged : Whole u q d damaged
  unfolding Whole
  whole-damaged = tt

  whole_code : (i : Instruction) → Goes u q d i → Whole u q d (code i)
  unfolding Whole
  whole_code i h = h

  -- what follows of a reading
  whole-from : {A : Type 0} (o : Option A) (k : A → Decoded) → ((x : A) → o ≡ Some x → Whole u q d (k x)) → Whole u q d (decoded_from o k)
  whole-from None k h = whole-damaged
  whole-from (Some x) k h = h x refl

  whole-cond : (t : Bool) (x : Decoded) → Whole u q d x → Whole u q d (cond t x damaged)
  whole-cond true x h = h
  whole-cond false x h = whole-damaged

-- a byte that is no letter's
module _ (u q b : ℕ) (quiet : is_letter b ≡ false) where
  silent : (r : List ℕ) → r ≡ called_as b r
  silent r = rw quiet

  whole-operate : (o : Operation) (n : ℕ) → q < n → n < u → Whole u q (Mark b) (code (operate_at o n))
  whole-operate o n h k = whole_code u q (Mark b) (operate_at o n) (record { further = h; before = k; letter = silent })

  whole-test : (p : Predicate) (n f : ℕ) → q < n → n < u → Whole u q (Mark b) (code (test_at p n f))
  whole-test p n f h k = whole_code u q (Mark b) (test_at p n f) (record { further = h; before = k; letter = silent })

-- a mark of two cells ends before the last one
second-early : (t : Table) (q : ℕ) (z : ℤ) → second_cell t q ≡ Some z → q + 3 ≤ t.used
unfolding second_cell
second-early t q z e = by-ltb t.used (q + 3) (λ u. cond u None (Some (cell t (q + 1))) ≡ Some z → q + 3 ≤ t.used) (λ _ i. none-some i) (λ h _. h) e

within-early : (l m : ℕ) (t : Table) (q n : ℕ) → second_at l m t q ≡ Some n → q + 3 ≤ t.used
unfolding second_at
within-early l m t q n e = go (second_cell t q) refl e
  where
    go : (o : Option ℤ) → second_cell t q ≡ o → option_and_then (λ z. bounded_of l m z) o ≡ Some n → q + 3 ≤ t.used
    go None s i = none-some i
    go (Some z) s i = second-early t q z s

-- and so does a counter
counter-early : (t : Table) (q : ℕ) (x : Counter) → counter_at t q ≡ Some x → q + 5 ≤ t.used
unfolding counter_at
counter-early t q x e = go _ e
  where
    go : (o : Option Counter) → cond (ltb t.used (q + 5)) None o ≡ Some x → q + 5 ≤ t.used
    go o = by-ltb t.used (q + 5) (λ u. cond u None o ≡ Some x → q + 5 ≤ t.used) (λ _ i. none-some i) (λ h _. h)

-- ── a byte's kind ───────────────────────────────────────────────────────────────────────────────

-- a call, of the kinds
abbrev is_call_kind : Kind → Bool
is_call_kind (is_call a) = true
is_call_kind (is_operator o) = false
is_call_kind (is_variable a) = false
is_call_kind is_constant = false
is_call_kind (is_condition c) = false
is_call_kind is_counter = false
is_call_kind is_print = false
is_call_kind is_none = false

-- no kind of the list is a call
abbrev no_calls : List (ℕ × Kind) → Bool
no_calls [] = true
no_calls ((n, k) ∷ l) = cond (is_call_kind k) false (no_calls l)

lookup-quiet : (l : List (ℕ × Kind)) (b : ℕ) → no_calls l ≡ true → is_call_kind (lookup l is_none b) ≡ false
lookup-quiet [] b h = refl
lookup-quiet ((n, k) ∷ l) b h = go (is_call_kind k) refl h (λ z. lookup-quiet l b z)
  where
    pick : (u : Bool) (x : Kind) → is_call_kind k ≡ false → is_call_kind x ≡ false → is_call_kind (cond u k x) ≡ false
    pick true x e f = e
    pick false x e f = f

    go : (u : Bool) → is_call_kind k ≡ u → cond u false (no_calls l) ≡ true → (no_calls l ≡ true → is_call_kind (lookup l is_none b) ≡ false)
        → is_call_kind (cond (eqb n b) k (lookup l is_none b)) ≡ false
    go true e z f = absurd (false≢true z)
    go false e z f = pick (eqb n b) (lookup l is_none b) e (f z)

-- a byte's kind is a call where the byte is a letter's
kind-letter : (b : ℕ) → is_call_kind (kind b) ≡ is_letter b
unfolding kind
kind-letter b = go (is_letter b)
  where
    go : (u : Bool) → is_call_kind (cond u (is_call (letter_index b)) (lookup kinds is_none b)) ≡ u
    go true = refl
    go false = lookup-quiet kinds b refl

-- the letter that a call's byte names
kind-call : (b a : ℕ) → kind b ≡ is_call a → (is_letter b ≡ true) × (letter_index b ≡ a)
kind-call b a e =
    let h : is_letter b ≡ true = sym (kind-letter b) ∙ ap is_call_kind e in
    let k = between-bounds first_letter last_letter b h in
    let c : is_call (letter_index b) ≡ is_call a = sym (call-kind b k.0 k.1) ∙ e in
    (h, ap call_of c)
  where
    call_of : Kind → ℕ
    call_of (is_call x) = x
    call_of (is_operator o) = 0
    call_of (is_variable x) = 0
    call_of is_constant = 0
    call_of (is_condition x) = 0
    call_of is_counter = 0
    call_of is_print = 0
    call_of is_none = 0

-- ── every instruction before the last two cells ─────────────────────────────────────────────────

module _ (c : List ℤ) (p : Code) (q : ℕ) (first : code_start ≤ q) (early : q + 2 ≤ p.end) (few : p.end ≤ max_cells) where
  abbrev t : Table
  t = table_in c p

  whole-mark : (b : ℕ) (k : Kind) → kind b ≡ k → Whole p.end q (Mark b) (mark t q k)
  unfolding mark
  whole-mark b (is_operator o) e =
      let h : is_letter b ≡ false = sym (kind-letter b) ∙ ap is_call_kind e in
      whole-operate p.end q b h (operator o) (suc q) (omega arith) (omega arith)
  whole-mark b (is_variable a) e =
      let h : is_letter b ≡ false = sym (kind-letter b) ∙ ap is_call_kind e in
      subst (Whole p.end q (Mark b)) (sym (variable-read t q a))
      (whole-from p.end q (Mark b) (digit_at t q) _ (λ d i. whole-operate p.end q b h _ (q + 2) (omega arith) (omega (arith, within-early _ _ t q d i))))
  whole-mark b is_constant e =
      let h : is_letter b ≡ false = sym (kind-letter b) ∙ ap is_call_kind e in
      subst (Whole p.end q (Mark b)) (sym (constant-read t q))
      (whole-from p.end q (Mark b) (second_cell t q) _ (λ z i. whole-cond p.end q (Mark b) (is_value z) _
      (whole-operate p.end q b h _ (q + 2) (omega arith) (omega (arith, second-early t q z i)))))
  whole-mark b (is_condition g) e =
      let h : is_letter b ≡ false = sym (kind-letter b) ∙ ap is_call_kind e in
      subst (Whole p.end q (Mark b)) (sym (condition-read t q g))
      (whole-from p.end q (Mark b) (exit_of t q) _ (λ f i. whole-test p.end q b h _ (q + 2) f (omega arith) (omega (arith, within-early _ _ t q f i))))
  whole-mark b (is_call a) e =
      let h = kind-call b a e in
      subst (Whole p.end q (Mark b)) (sym (call-read t q a))
      (whole-from p.end q (Mark b) (exit_of t q) _ (λ f i. whole_code p.end q (Mark b) (call_at a (q + 2) f)
      (record { further = omega arith; before = omega (arith, within-early _ _ t q f i); letter = λ r. rw (h.0, h.1) })))
  whole-mark b is_counter e =
      let h : is_letter b ≡ false = sym (kind-letter b) ∙ ap is_call_kind e in
      subst (Whole p.end q (Mark b)) (sym (count-read t q))
      (whole-from p.end q (Mark b) (counter_at t q) _ (λ x i. whole-test p.end q b h _ (q + 4) x.exit (omega arith) (omega (arith, counter-early t q x i))))
  whole-mark b is_print e =
      let h : is_letter b ≡ false = sym (kind-letter b) ∙ ap is_call_kind e in
      subst (Whole p.end q (Mark b)) (sym (print-read c p q few))
      (whole-from p.end q (Mark b) (print_at c p q) _ (λ n i. whole-operate p.end q b h _ (q + 2 + n) (omega arith) (omega (arith, (print-good c p q n i).early))))
  whole-mark b is_none e = whole-damaged p.end q (Mark b)

  -- what decodes there
  pub whole-inside : Whole p.end q (byte_at t q) (decode t q)
  whole-inside = go (byte_at t q) refl
    where
      go : (d : Due) → byte_at t q ≡ d → Whole p.end q d (decode t q)
      go End e = subst (Whole p.end q End) (sym (decode-end t q first early e)) (whole-damaged p.end q End)
      go (Mark b) e = subst (Whole p.end q (Mark b)) (sym (mark-decoded t q b e)) (whole-mark b (kind b) refl)
      go Transfer e =
          subst (Whole p.end q Transfer) (sym (transfer-decoded t q e))
          (whole-from p.end q Transfer (target_of (cell t q) t.used) _ (λ n i. whole_code p.end q Transfer (transfer n)
          (record { further = omega arith; before = omega arith; letter = λ r. refl })))

  -- ── where it ends ─────────────────────────────────────────────────────────────────────────────

  end-from : {A : Type 0} (o : Option A) (i : A → Instruction) (n : A → ℕ) → ((x : A) → next_cell (i x) q ≡ n x)
      → end_of (decoded_from o (λ x. code (i x))) q ≡ option_map n o
  end-from None i n h = refl
  end-from (Some x) i n h = ap Some (h x)

  -- a mark, by its format
  kind-end : (k : Kind) → end_of (mark t q k) q ≡ mark_end c p q (format_of_kind k)
  unfolding mark mark_end
  kind-end (is_operator o) = let e : suc q ≡ q + 1 = omega arith in ap Some e
  kind-end (is_variable a) = ap (λ d. end_of d q) (variable-read t q a) ∙ end-from (digit_at t q) _ _ (λ _. refl)
  kind-end is_constant = ap (λ d. end_of d q) (constant-read t q) ∙ go (second_cell t q)
    where
      pick : (u : Bool) (i : Instruction) → next_cell i q ≡ q + 2 → end_of (cond u (code i) damaged) q ≡ cond u (Some (q + 2)) None
      pick true i e = ap Some e
      pick false i e = refl

      go : (o : Option ℤ) → end_of (decoded_from o (λ z. cond (is_value z) (code (operate_at (constant z) (q + 2))) damaged)) q
          ≡ option_and_then (λ z. cond (is_value z) (Some (q + 2)) None) o
      go None = refl
      go (Some z) = pick (is_value z) (operate_at (constant z) (q + 2)) refl
  kind-end (is_condition g) = ap (λ d. end_of d q) (condition-read t q g) ∙ end-from (exit_of t q) _ _ (λ _. refl)
  kind-end (is_call a) = ap (λ d. end_of d q) (call-read t q a) ∙ end-from (exit_of t q) _ _ (λ _. refl)
  kind-end is_counter = ap (λ d. end_of d q) (count-read t q) ∙ end-from (counter_at t q) _ _ (λ _. refl)
  kind-end is_print = ap (λ d. end_of d q) (print-read c p q few) ∙ end-from (print_at c p q) _ _ (λ _. refl)
  kind-end is_none = refl

  pub mark-ends : (b : ℕ) → byte_at t q ≡ Mark b → mark_end c p q (format_of b) ≡ end_of (decode t q) q
  unfolding format_of
  mark-ends b e = sym (ap (λ d. end_of d q) (mark-decoded t q b e) ∙ kind-end (kind b))

  -- a transfer
  pub transfer-ends : byte_at t q ≡ Transfer → option_map (λ _. q + 1) (target_of (cell t q) t.used) ≡ end_of (decode t q) q
  transfer-ends e = sym (ap (λ d. end_of d q) (transfer-decoded t q e) ∙ end-from (target_of (cell t q) t.used) _ _ (λ _. omega arith))

  -- neither
  pub none-ends : byte_at t q ≡ End → None ≡ end_of (decode t q) q
  none-ends e = sym (ap (λ d. end_of d q) (decode-end t q first early e))

-- ── any cell ────────────────────────────────────────────────────────────────────────────────────

-- every number of a list is a letter's index
abbrev pub Letters : List ℕ → Type 0
Letters [] = Unit {0}
Letters (a ∷ l) = (a < max_letters) × Letters l

-- code that starts at cell q ends further on, at the last cell at the most, and calls letters only
pub record Onward (u q : ℕ) (i : Instruction) : Type 0 where
  pub further : q < next_cell i q
  pub within : next_cell i q ≤ u
  pub letters : (r : List ℕ) → Letters r → Letters (called i r)

unfoldable Shaped : ℕ → ℕ → Decoded → Type 0
Shaped u q last = Unit {0}
Shaped u q damaged = Unit {0}
Shaped u q (code i) = Onward u q i

as-letters : (b : ℕ) (r : List ℕ) → Letters r → Letters (called_as b r)
as-letters b r h = go (is_letter b) refl
  where
    go : (u : Bool) → is_letter b ≡ u → Letters (cond u (letter_index b ∷ r) r)
    go true e = (letter-lt b e, h)
    go false e = h

by-letters : (d : Due) (r : List ℕ) → Letters r → Letters (called_of d r)
by-letters (Mark b) r h = as-letters b r h
by-letters Transfer r h = h
by-letters End r h = h

whole-shaped : (u q : ℕ) (b : Due) (d : Decoded) → Whole u q b d → Shaped u q d
unfolding Whole Shaped
whole-shaped u q b last w = absurd w
whole-shaped u q b damaged w = tt
whole-shaped u q b (code i) w =
    record { further = w.further; within = omega (arith, w.before); letters = λ r h. subst Letters (sym (w.letter r)) (by-letters b r h) }

shaped-exactly : (u q n : ℕ) (z : ℤ) (d : Decoded) → Shaped u q d → Shaped u q (exactly z n d)
unfolding Shaped exactly natural sound
shaped-exactly u q n (negsuc m) d h = tt
shaped-exactly u q n (pos m) d h = go (eqb m n)
  where
    go : (v : Bool) → Shaped u q (sound v d)
    go true = h
    go false = tt

shaped-damaged : (u q : ℕ) → Shaped u q damaged
unfolding Shaped
shaped-damaged u q = tt

shaped-fail : (u q : ℕ) → q + 1 ≡ u → Shaped u q (code fail)
unfolding Shaped
shaped-fail u q e = record { further = omega arith; within = omega arith; letters = λ r h. h }

shaped-last : (u q : ℕ) → Shaped u q last
unfolding Shaped
shaped-last u q = tt

shaped-code : (u q : ℕ) (i : Instruction) → Shaped u q (code i) → Onward u q i
unfolding Shaped
shaped-code u q i h = h

-- ── a reading so far ────────────────────────────────────────────────────────────────────────────

-- The reading of a table has come to the cell `at`, before the last, and the calls hold what it ticked: what is left is what is met from there.
pub record Reading (t : Table) (from : ℕ) (before now : List ℕ) (at : ℕ) : Type 0 where
  pub low : code_start ≤ at
  pub high : at < t.used
  pub sound : undamaged (marks t) ≡ undamaged (marks_from max_cells t at)
  pub calls : ticked before from (calls_in (marks t)) ≡ ticked now from (calls_in (marks_from max_cells t at))

pub reading-none : (t : Table) (from : ℕ) (m : List ℕ) → 3 ≤ t.used → Reading t from m m code_start
unfolding marks
reading-none t from m h = record { low = omega arith; high = omega arith; sound = refl; calls = refl }

module _ (c : List ℤ) (base end : ℕ) (few : end ≤ max_cells) where
  abbrev table : Table
  table = table_from c base end

  shaped : (q : ℕ) → Shaped end q (decode table q)
  shaped q =
      by-ltb q code_start (λ _. Shaped end q (decode table q)) (λ h. subst (Shaped end q) (sym (decode-low table q h)) (shaped-damaged end q))
      (λ h. by-ltb end q (λ _. Shaped end q (decode table q)) (λ k. subst (Shaped end q) (sym (decode-high table q h k)) (shaped-damaged end q))
      (λ k. by-ltb q end (λ _. Shaped end q (decode table q))
      (λ m. by-ltb (q + 1) end (λ _. Shaped end q (decode table q))
      (λ n. whole-shaped end q (byte_at table q) (decode table q) (whole-inside c (record { base = base; end = end }) q h (omega arith) few))
      (λ n. subst (Shaped end q) (sym (decode-fail table q h (omega arith)))
      (shaped-exactly end q 0 (cell table q) (code fail) (shaped-fail end q (omega arith)))))
      (λ m. subst (Shaped end q) (sym (decode-last table q h (omega arith))) (shaped-exactly end q 1 (cell table q) last (shaped-last end q)))))

  -- code at any cell
  pub onward : (q : ℕ) (i : Instruction) → decode table q ≡ code i → Onward end q i
  onward q i e = shaped-code end q i (subst (Shaped end q) e (shaped q))

  -- ── a reading ─────────────────────────────────────────────────────────────────────────────────

  met-same : (d : Decoded) (k k' : Instruction → List Decoded) → ((i : Instruction) → d ≡ code i → k i ≡ k' i) → met d k ≡ met d k'
  met-same last k k' h = refl
  met-same damaged k k' h = refl
  met-same (code i) k k' h = ap (λ l. code i ∷ l) (h i refl)

  -- no more cells are met than there are
  more : (n q : ℕ) → end < n + q → marks_from (suc n) table q ≡ marks_from (suc (suc n)) table q
  unfolding marks_from
  more zero q h =
      met-same (decode table q) _ _ (λ i e. let o = onward q i e in absurd (omega (arith, o.further, o.within)))
  more (suc n) q h =
      met-same (decode table q) _ _ (λ i e. let o = onward q i e in more n (next_cell i q) (omega (arith, o.further)))

  pub marks-step : (q : ℕ) → code_start ≤ q → marks_from max_cells table q ≡ met (decode table q) (λ i. marks_from max_cells table (next_cell i q))
  unfolding marks_from
  marks-step q h = met-same (decode table q) _ _ (λ i e. let o = onward q i e in more 248 (next_cell i q) (omega (arith, o.further)))

  -- what is called are letters
  called-letters : (d : Decoded) (k : Instruction → List Decoded) → ((i : Instruction) → d ≡ code i → (r : List ℕ) → Letters r → Letters (called i r))
      → ((i : Instruction) → Letters (calls_in (k i))) → Letters (calls_in (met d k))
  unfolding calls_in
  called-letters last k h f = tt
  called-letters damaged k h f = tt
  called-letters (code i) k h f = h i refl (calls_in (k i)) (f i)

  calls-letters : (n q : ℕ) → Letters (calls_in (marks_from n table q))
  unfolding marks_from
  calls-letters zero q = unfold calls_in in tt
  calls-letters (suc n) q =
      called-letters (decode table q) _ (λ i e. (onward q i e).letters) (λ i. calls-letters n (next_cell i q))

  pub marks-letters : Letters (calls_in (marks table))
  unfolding marks
  marks-letters = calls-letters max_cells code_start

  module _ (from : ℕ) (before now : List ℕ) (at : ℕ) (r : Reading table from before now at) where
    -- what is met there
    abbrev rest : Decoded → List Decoded
    rest d = met d (λ i. marks_from max_cells table (next_cell i at))

    left-sound : (d : Decoded) → decode table at ≡ d → undamaged (marks table) ≡ undamaged (rest d)
    left-sound d e = r.sound ∙ ap undamaged (marks-step at r.low) ∙ ap (λ x. undamaged (rest x)) e

    left-calls : (d : Decoded) → decode table at ≡ d → ticked before from (calls_in (marks table)) ≡ ticked now from (calls_in (rest d))
    left-calls d e = r.calls ∙ ap (λ l. ticked now from (calls_in l)) (marks-step at r.low) ∙ ap (λ x. ticked now from (calls_in (rest x))) e

    -- a damaged cell
    pub reading-damaged : decode table at ≡ damaged → Reads table before from false now
    unfolding undamaged calls_in
    reading-damaged e = record { sound = sym (left-sound damaged e); calls = sym (left-calls damaged e) }

    -- an instruction before the last two cells, by where it ends
    module _ (few' : at + 2 ≤ end) where
      pub reading-broken : None ≡ end_of (decode table at) at → Reads table before from false now
      unfolding Whole
      reading-broken ended = go (decode table at) refl (whole-inside c (record { base = base; end = end }) at r.low few' few)
        where
          go : (d : Decoded) → decode table at ≡ d → Whole end at (byte_at table at) d → Reads table before from false now
          go last e w = absurd w
          go damaged e w = reading-damaged e
          go (code i) e w = none-some (ended ∙ ap (λ d. end_of d at) e)

      module _ (n : ℕ) (ended : Some n ≡ end_of (decode table at) at) where
        -- it ends further on
        pub reading-further : at < n
        unfolding Whole
        reading-further = go (decode table at) refl (whole-inside c (record { base = base; end = end }) at r.low few' few)
          where
            go : (d : Decoded) → decode table at ≡ d → Whole end at (byte_at table at) d → at < n
            go last e w = absurd w
            go damaged e w = none-some (sym (ended ∙ ap (λ d. end_of d at) e))
            go (code i) e w =
                let k : n ≡ next_cell i at = some-same (ended ∙ ap (λ d. end_of d at) e) in
                omega (arith, w.further, k)

        pub reading-more : (m : List ℕ) → m ≡ ticked now from (called_of (byte_at table at) []) → Reading table from before m n
        unfolding Whole undamaged calls_in
        reading-more m t = go (decode table at) refl (whole-inside c (record { base = base; end = end }) at r.low few' few)
          where
            split : (d : Due) (l : List ℕ) → ticked now from (called_of d l) ≡ ticked (ticked now from (called_of d [])) from l
            split Transfer l = refl
            split End l = refl
            split (Mark b) l = pick (is_letter b)
              where
                pick : (u : Bool) → ticked now from (cond u (letter_index b ∷ l) l) ≡ ticked (ticked now from (cond u (letter_index b ∷ []) [])) from l
                pick true = refl
                pick false = refl

            go : (d : Decoded) → decode table at ≡ d → Whole end at (byte_at table at) d → Reading table from before m n
            go last e w = absurd w
            go damaged e w = none-some (sym (ended ∙ ap (λ d. end_of d at) e))
            go (code i) e w =
                let k : next_cell i at ≡ n = sym (some-same (ended ∙ ap (λ d. end_of d at) e)) in
                let l = calls_in (marks_from max_cells table (next_cell i at)) in
                record {
                  low = omega (arith, w.further, k, r.low);
                  high = omega (arith, w.before, k);
                  sound = left-sound (code i) e ∙ ap (λ q. undamaged (marks_from max_cells table q)) k;
                  calls =
                      left-calls (code i) e
                      ∙ ap (λ x. ticked now from x) (w.letter l)
                      ∙ split (byte_at table at) l
                      ∙ ap (λ x. ticked x from l) (sym t)
                      ∙ ap (λ q. ticked m from (calls_in (marks_from max_cells table q))) k;
                }

    -- the last `)` and the last cell
    module _ (near : at + 1 ≡ end) where
      pub reading-unclosed : (cell table at ≡ pos 0 → ⊥) → Reads table before from false now
      reading-unclosed h = reading-damaged (decode-fail table at r.low near ∙ exact-no (cell table at) 0 (code fail) h)

      module _ (closed : cell table at ≡ pos 0) where
        after-fail : (d : Decoded) → decode table (suc at) ≡ d
            → (undamaged (marks table) ≡ undamaged (met d (λ i. marks_from max_cells table (next_cell i (suc at)))))
            × (ticked before from (calls_in (marks table)) ≡ ticked now from (calls_in (met d (λ i. marks_from max_cells table (next_cell i (suc at))))))
        unfolding undamaged calls_in
        after-fail d e =
            let f : decode table at ≡ code fail = decode-fail table at r.low near ∙ exact-yes (cell table at) 0 (code fail) closed in
            let s = marks-step (suc at) (omega (arith, r.low)) ∙ ap (λ x. met x (λ i. marks_from max_cells table (next_cell i (suc at)))) e in
            (left-sound (code fail) f ∙ ap undamaged s, left-calls (code fail) f ∙ ap (λ l. ticked now from (calls_in l)) s)

        reading-unended : (cell table (suc at) ≡ pos 1 → ⊥) → Reads table before from false now
        unfolding undamaged calls_in
        reading-unended h =
            let e = after-fail damaged (decode-last table (suc at) (omega (arith, r.low)) (omega arith) ∙ exact-no (cell table (suc at)) 1 last h) in
            record { sound = sym e.0; calls = sym e.1 }

        reading-done : cell table (suc at) ≡ pos 1 → Reads table before from true now
        unfolding undamaged calls_in
        reading-done h =
            let e = after-fail last (decode-last table (suc at) (omega (arith, r.low)) (omega arith) ∙ exact-yes (cell table (suc at)) 1 last h) in
            record { sound = sym e.0; calls = sym e.1 }

        -- the test of the last cell
        pub reading-tested : (z : ℤ) → to_z w32 (of_z w32 z) ≡ z → z ≡ cell table (at + 1) → Reads table before from (eqb (of_z w32 z) 1) now
        reading-tested z b e = go (eqb (of_z w32 z) 1) refl
          where
            last-cell : z ≡ cell table (suc at)
            last-cell = e ∙ ap (λ (q : ℕ). cell table q) (add-one at)

            go : (u : Bool) → eqb (of_z w32 z) 1 ≡ u → Reads table before from u now
            go true i = reading-done (sym last-cell ∙ sym b ∙ ap (to_z w32) (eqb-true (of_z w32 z) 1 i))
            go false i = reading-unended (λ h. eqb-false (of_z w32 z) 1 i (ap (of_z w32) (last-cell ∙ h)))
