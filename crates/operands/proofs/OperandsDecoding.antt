-- What a cell decodes to, in what the code reads.
use mathlib.Core.Path.{◌≡◌, refl, sym, ap, ◌∙◌, subst}
use mathlib.Core.Bool.{Bool, true, false, cond, ◌&&◌}
use mathlib.Core.List.{List, ◌∷◌}
use Prim.Native.Nat.{ℕ, zero, suc, ◌+◌, ◌-◌, ◌<◌, ◌≤◌}
use native.Mathlib.Omega.{arith}
use native.Mathlib.Numerals.{add-one}
use lib.Dec.{ltb}
use lib.IntN.{ℤ, pos, negsuc, nat_abs}
use lib.ListN.{get_or}
use borrow.Author.Tests.{lt-ltb, le-ltb, le-leb, lt-leb, eq-eqb, ne_eqb}
use Rattle.std.specs.Prelude.{Option, Some, None, unwrap_or, option_map, option_and_then}
use Rattle.std.specs.Option.{option_map_or}
use Rattle.language.specs.declared.Table.{Table}
use Rattle.language.specs.Syntax.{constant_code, print_code, counter_code, Access, variable, constant, print, Condition, condition, counter}
use Rattle.language.specs.Syntax.{operator_byte, absolute, discard, negate, copy, write, newline, input, add, subtract, multiply, divide}
use Rattle.language.specs.Syntax.{access_byte, fetch, save, condition_byte, negative, null, equal}
use Rattle.language.specs.Limits.{max_cells, max_counters, max_limit, max_variables}
use Rattle.language.specs.Letters.{first_letter, last_letter, is_letter, letter_index}
use Rattle.language.specs.Between.{between}
use Rattle.language.specs.Tokens.{print_byte}
use Rattle.language.specs.Layout.{forward, code_start}
use Rattle.language.specs.Values.{is_value}
use Rattle.language.specs.Machine.{transfer, fail, operate_at, test_at, call_at, Decoded, last, damaged, code, is_constant, is_print, is_counter, is_none, is_variable, is_condition, is_call, kind}
use Rattle.language.specs.Machine.{cell, sound, natural, minus, exit_at, bytes_at, mark, early, exactly, decode}
use Rattle.language.specs.Tables.{table_from}
use Rattle.operands.specs.declared.cells.Code.{Code}
use Rattle.operands.specs.declared.cells.Counter.{Counter}
use Rattle.operands.specs.declared.cells.Due.{Due}
use Rattle.operands.specs.declared.cells.Due.TheVariants.{Mark, Transfer, End}
use Rattle.operands.specs.Operands.{table_in, byte_of, byte_at, target_of, bounded_of, second_cell, second_at, exit_of, negated_of, digit_at, order_of, limit_of, counter_at}
use Rattle.operands.specs.Operands.{holds_print_byte, prints_from, printable, bytes_index, print_at}
use Rattle.language.proofs.Between.{between-true, between-high, between-bounds}
use Rattle.language.proofs.LayoutPositions.{forward-add}
use Rattle.language.proofs.Tests.{by-ltb}
use Rattle.operands.proofs.Operands.{byte-mark, byte-transfer}
use Rattle.operands.proofs.Tables.{cell_at}

-- what follows of a reading; damage where there is none
abbrev pub decoded_from : {A : Type 0} → Option A → (A → Decoded) → Decoded
decoded_from o k = option_map_or k o damaged

-- a number within l to m
pub bounded-read : (l m : ℕ) (z : ℤ) (k : ℕ → Decoded) → natural z (λ n. sound (between l m n) (k n)) ≡ decoded_from (bounded_of l m z) k
unfolding natural sound bounded_of
bounded-read l m (negsuc n) k = refl
bounded-read l m (pos n) k = go (between l m n)
  where
    go : (u : Bool) → sound u (k n) ≡ decoded_from (cond u (Some n) None) k
    go true = refl
    go false = refl

-- the second cell of a mark of two cells
pub cell-read : (t : Table) (q : ℕ) (k : ℤ → Decoded) → sound (ltb (suc (suc q)) t.used) (k (cell t (suc q))) ≡ decoded_from (second_cell t q) k
unfolding sound second_cell
cell-read t q k =
    rw add-one
    (by-ltb t.used (q + 3) (λ u. sound (ltb (suc (suc q)) t.used) (k (cell t (suc q))) ≡ decoded_from (cond u None (Some (cell t (suc q)))) k)
    (λ h. rw (le-ltb (suc (suc q)) t.used (omega arith)))
    (λ h. rw (lt-ltb (suc (suc q)) t.used (omega arith))))

-- the number that it holds
pub second-read : (l m : ℕ) (t : Table) (q : ℕ) (k : ℕ → Decoded)
    → sound (ltb (suc (suc q)) t.used) (natural (cell t (suc q)) (λ n. sound (between l m n) (k n))) ≡ decoded_from (second_at l m t q) k
unfolding second_at
second-read l m t q k =
    cell-read t q (λ z. natural z (λ n. sound (between l m n) (k n)))
    ∙ go (second_cell t q)
  where
    go : (o : Option ℤ) → decoded_from o (λ z. natural z (λ n. sound (between l m n) (k n))) ≡ decoded_from (option_and_then (λ z. bounded_of l m z) o) k
    go None = refl
    go (Some z) = bounded-read l m z k

add-two : (q : ℕ) → q + 2 ≡ suc (suc q)
add-two q = omega arith

-- `N 0 J`, of their false exit
pub condition-read : (t : Table) (q : ℕ) (g : Condition) → mark t q (is_condition g) ≡ decoded_from (exit_of t q) (λ f. code (test_at (condition g) (q + 2) f))
unfolding mark exit_at
condition-read t q g = rw add-two (second-read code_start t.used t q (λ f. code (test_at (condition g) (suc (suc q)) f)))

-- a call, of its false exit
pub call-read : (t : Table) (q a : ℕ) → mark t q (is_call a) ≡ decoded_from (exit_of t q) (λ f. code (call_at a (q + 2) f))
unfolding mark exit_at
call-read t q a = rw add-two (second-read code_start t.used t q (λ f. code (call_at a (suc (suc q)) f)))

-- `F` or `S`, of its digit
pub variable-read : (t : Table) (q : ℕ) (a : Access) → mark t q (is_variable a) ≡ decoded_from (digit_at t q) (λ d. code (operate_at (variable a d) (q + 2)))
unfolding mark
variable-read t q a = rw add-two (second-read 1 max_variables t q (λ d. code (operate_at (variable a d) (suc (suc q)))))

-- a constant, of its cell
pub constant-read : (t : Table) (q : ℕ) → mark t q is_constant ≡ decoded_from (second_cell t q) (λ z. cond (is_value z) (code (operate_at (constant z) (q + 2))) damaged)
unfolding mark sound
constant-read t q =
    cell-read t q (λ z. sound (is_value z) (code (operate_at (constant z) (suc (suc q)))))
    ∙ (λ i. decoded_from (second_cell t q) (λ z. (go (is_value z) (code (operate_at (constant z) (suc (suc q)))) ∙ ap (λ (n : ℕ). cond (is_value z) (code (operate_at (constant z) n)) damaged) (sym (add-two q))) i))
  where
    go : (u : Bool) (x : Decoded) → sound u x ≡ cond u x damaged
    go true x = refl
    go false x = refl

-- ── counters ────────────────────────────────────────────────────────────────────────────────────

limit-read : (z : ℤ) (k : ℕ → Decoded) → minus z (λ m. sound (ltb m max_limit) (k m)) ≡ decoded_from (limit_of z) (λ n. k (n - 1))
unfolding minus sound negated_of
limit-read (pos n) k = refl
limit-read (negsuc n) k =
    by-ltb n max_limit (λ t. sound t (k n) ≡ decoded_from (cond t (Some (suc n)) None) (λ n. k (n - 1)))
    (λ h. let e : suc n - 1 ≡ n = omega arith in rw e)
    (λ h. refl)

order-read : (z : ℤ) (k : ℕ → Decoded) → natural z (λ m. sound (ltb m max_counters) (k m)) ≡ decoded_from (order_of z) k
unfolding natural sound bounded_of
order-read (negsuc n) k = refl
order-read (pos n) k =
    by-ltb n max_counters (λ t. sound t (k n) ≡ decoded_from (cond (between 0 (max_counters - 1) n) (Some n) None) k)
    (λ h. rw (between-true 0 (max_counters - 1) n (omega arith) (omega arith)))
    (λ h. rw (between-high 0 (max_counters - 1) n (omega arith)))

add-three : (q : ℕ) → q + 3 ≡ suc (suc (suc q))
add-three q = omega arith

add-four : (q : ℕ) → q + 4 ≡ suc (suc (suc (suc q)))
add-four q = omega arith

-- three readings, one after the other
three-read : (o p r : Option ℕ) (g : ℕ → ℕ → ℕ → Decoded)
    → decoded_from o (λ n. decoded_from p (λ k. decoded_from r (λ f. g n k f)))
    ≡ decoded_from (option_and_then (λ n. option_and_then (λ k. option_map (λ f. record { limit = n; order = k; exit = f }) r) p) o)
    (λ (x : Counter). g x.limit x.order x.exit)
three-read None p r g = refl
three-read (Some n) None r g = refl
three-read (Some n) (Some k) None g = refl
three-read (Some n) (Some k) (Some f) g = refl

-- a counter, of its number, its order and its false exit
pub count-read : (t : Table) (q : ℕ)
    → mark t q is_counter ≡ decoded_from (counter_at t q) (λ x. code (test_at (counter (x.limit - 1) x.order) (q + 4) x.exit))
unfolding mark exit_at counter_at
count-read t q =
    let o = limit_of (cell t (suc q)) in
    let p = order_of (cell t (suc (suc q))) in
    let r = target_of (cell t (suc (suc (suc q)))) t.used in
    let g : ℕ → ℕ → ℕ → Decoded = λ n k f. code (test_at (counter (n - 1) k) (suc (suc (suc (suc q)))) f) in
    rw (add-one, add-two, add-three, add-four)
    (by-ltb t.used (q + 5)
    (λ u. mark t q is_counter
    ≡ decoded_from (cond u None (option_and_then (λ n. option_and_then (λ k. option_map (λ f. record { limit = n; order = k; exit = f }) r) p) o))
    (λ (x : Counter). g x.limit x.order x.exit))
    (λ h. rw (le-ltb (suc (suc (suc (suc q)))) t.used (omega arith)))
    (λ h. rw (lt-ltb (suc (suc (suc (suc q)))) t.used (omega arith))
    (limit-read (cell t (suc q)) _
    ∙ (λ i. decoded_from o (λ n. order-read (cell t (suc (suc q))) (λ k. natural (cell t (suc (suc (suc q)))) (λ f. sound (between 2 t.used f) (g n k f))) i))
    ∙ (λ i. decoded_from o (λ n. decoded_from p (λ k. bounded-read code_start t.used (cell t (suc (suc (suc q)))) (λ f. g n k f) i)))
    ∙ three-read o p r g)))

-- ── the due cell ────────────────────────────────────────────────────────────────────────────────

-- a cell before the last two
pub decode-inside : (t : Table) (q : ℕ) → code_start ≤ q → q + 2 ≤ t.used → decode t q ≡ early t q (cell t q)
unfolding decode sound
decode-inside t q h k = rw (le-leb 2 q h, le-leb q t.used (omega arith), ne_eqb q t.used (λ e. omega arith), ne_eqb (suc q) t.used (λ e. omega arith))

-- such a cell that holds a code
pub code-decoded : (t : Table) (q n : ℕ) → code_start ≤ q → q + 2 ≤ t.used → cell t q ≡ negsuc n → decode t q ≡ mark t q (kind (suc n))
unfolding early
code-decoded t q n h k e = decode-inside t q h k ∙ ap (λ (z : ℤ). early t q z) e

-- such a cell that holds a number below 2
pub low-decoded : (t : Table) (q n : ℕ) → code_start ≤ q → q + 2 ≤ t.used → cell t q ≡ pos n → n < 2 → decode t q ≡ damaged
unfolding early sound
low-decoded t q n h k e l =
    let b : between 2 t.used n ≡ false = rw (lt-leb 2 n l) in
    decode-inside t q h k ∙ ap (λ (z : ℤ). early t q z) e ∙ ap (λ (u : Bool). sound u (code (transfer n))) b

-- its byte is that of what it holds
pub byte-early : (t : Table) (q : ℕ) → code_start ≤ q → q + 2 ≤ t.used → byte_at t q ≡ byte_of (cell t q)
unfolding byte_at
byte-early t q h k = rw (between-true code_start (t.used - 2) q h (omega arith))

-- no later cell has one
pub byte-late : (t : Table) (q : ℕ) → t.used < q + 2 → byte_at t q ≡ End
unfolding byte_at
byte-late t q h = go (between code_start (t.used - 2) q) refl
  where
    go : (u : Bool) → between code_start (t.used - 2) q ≡ u → cond u (byte_of (cell t q)) End ≡ End
    go true e = let b = between-bounds code_start (t.used - 2) q e in absurd (omega (arith, b.0, b.1))
    go false e = refl

-- a cell that is known by its byte stands before the last two
pub record Due_inside (t : Table) (q : ℕ) (d : Due) : Type 0 where
  pub first : code_start ≤ q
  pub early : q + 2 ≤ t.used
  pub byte : byte_of (cell t q) ≡ d

byte_inside : (t : Table) (q : ℕ) (d : Due) → (d ≡ End → ⊥) → byte_at t q ≡ d → Due_inside t q d
unfolding byte_at
byte_inside t q d n e = go (between code_start (t.used - 2) q) refl e
  where
    go : (u : Bool) → between code_start (t.used - 2) q ≡ u → cond u (byte_of (cell t q)) End ≡ d → Due_inside t q d
    go true b i =
        let k = between-bounds code_start (t.used - 2) q b in
        record { first = k.0; early = omega (arith, k.0, k.1); byte = i }
    go false b i = absurd (n (sym i))

-- a mark goes by its byte
pub mark-decoded : (t : Table) (q b : ℕ) → byte_at t q ≡ Mark b → decode t q ≡ mark t q (kind b)
unfolding early
mark-decoded t q b e =
    let k = byte_inside t q (Mark b) (λ i. absurd cc) e in
    let m = byte-mark (cell t q) b k.byte in
    decode-inside t q k.first k.early ∙ ap (λ (z : ℤ). early t q z) m.cell ∙ ap (λ (x : ℕ). mark t q (kind x)) (sym m.byte)

-- a transfer goes to its number, if that is a cell
pub transfer-decoded : (t : Table) (q : ℕ) → byte_at t q ≡ Transfer → decode t q ≡ decoded_from (target_of (cell t q) t.used) (λ n. code (transfer n))
unfolding early natural
transfer-decoded t q e =
    let k = byte_inside t q Transfer (λ i. absurd cc) e in
    let z : cell t q ≡ pos (nat_abs (cell t q)) = byte-transfer (cell t q) k.byte in
    decode-inside t q k.first k.early
    ∙ subst (λ (x : ℤ). early t q x ≡ decoded_from (target_of x t.used) (λ n. code (transfer n))) (sym z)
    (bounded-read code_start t.used (pos (nat_abs (cell t q))) (λ n. code (transfer n)))

-- ── the two last cells, and no mark ─────────────────────────────────────────────────────────────

-- before the code
pub decode-low : (t : Table) (q : ℕ) → q < code_start → decode t q ≡ damaged
unfolding decode sound
decode-low t q h = rw (lt-leb 2 q h)

-- after the used cells
pub decode-high : (t : Table) (q : ℕ) → code_start ≤ q → t.used < q → decode t q ≡ damaged
unfolding decode sound
decode-high t q h k = rw (le-leb 2 q h, lt-leb q t.used k)

-- the last cell
pub decode-last : (t : Table) (q : ℕ) → code_start ≤ q → q ≡ t.used → decode t q ≡ exactly (cell t q) 1 last
unfolding decode sound
decode-last t q h k = rw (le-leb 2 q h, le-leb q t.used (omega arith), eq-eqb q t.used k)

-- the one before
pub decode-fail : (t : Table) (q : ℕ) → code_start ≤ q → q + 1 ≡ t.used → decode t q ≡ exactly (cell t q) 0 (code fail)
unfolding decode sound
decode-fail t q h k = rw (le-leb 2 q h, le-leb q t.used (omega arith), ne_eqb q t.used (λ e. omega arith), eq-eqb (suc q) t.used (omega arith))

-- a cell that holds what it must
pub exact-yes : (z : ℤ) (n : ℕ) (f : Decoded) → z ≡ pos n → exactly z n f ≡ f
unfolding exactly natural sound
exact-yes (pos m) n f e = let k : m ≡ n = cc in rw (eq-eqb m n k)
exact-yes (negsuc m) n f e = let z : ◌≡◌ {A = ℕ} 0 1 = cc in absurd (omega arith)

-- a cell that does not
pub exact-no : (z : ℤ) (n : ℕ) (f : Decoded) → (z ≡ pos n → ⊥) → exactly z n f ≡ damaged
unfolding exactly natural sound
exact-no (pos m) n f h = rw (ne_eqb m n (λ e. h (ap pos e)))
exact-no (negsuc m) n f h = refl

-- a byte that no mark has
pub none-kind : (b : ℕ) → is_letter b ≡ false
    → (b ≡ constant_code → ⊥) → (b ≡ print_code → ⊥) → (b ≡ counter_code → ⊥) → (b ≡ operator_byte absolute → ⊥)
    → (b ≡ operator_byte discard → ⊥) → (b ≡ operator_byte negate → ⊥) → (b ≡ operator_byte copy → ⊥) → (b ≡ operator_byte write → ⊥)
    → (b ≡ operator_byte newline → ⊥) → (b ≡ operator_byte input → ⊥) → (b ≡ operator_byte add → ⊥) → (b ≡ operator_byte subtract → ⊥)
    → (b ≡ operator_byte multiply → ⊥) → (b ≡ operator_byte divide → ⊥) → (b ≡ access_byte fetch → ⊥) → (b ≡ access_byte save → ⊥)
    → (b ≡ condition_byte negative → ⊥) → (b ≡ condition_byte null → ⊥) → (b ≡ condition_byte equal → ⊥) → kind b ≡ is_none
unfolding kind
none-kind b l n1 n2 n3 n4 n5 n6 n7 n8 n9 n10 n11 n12 n13 n14 n15 n16 n17 n18 n19 =
    rw (
      l,
      ne_eqb constant_code b (λ e. n1 (sym e)),
      ne_eqb print_code b (λ e. n2 (sym e)),
      ne_eqb counter_code b (λ e. n3 (sym e)),
      ne_eqb (operator_byte absolute) b (λ e. n4 (sym e)),
      ne_eqb (operator_byte discard) b (λ e. n5 (sym e)),
      ne_eqb (operator_byte negate) b (λ e. n6 (sym e)),
      ne_eqb (operator_byte copy) b (λ e. n7 (sym e)),
      ne_eqb (operator_byte write) b (λ e. n8 (sym e)),
      ne_eqb (operator_byte newline) b (λ e. n9 (sym e)),
      ne_eqb (operator_byte input) b (λ e. n10 (sym e)),
      ne_eqb (operator_byte add) b (λ e. n11 (sym e)),
      ne_eqb (operator_byte subtract) b (λ e. n12 (sym e)),
      ne_eqb (operator_byte multiply) b (λ e. n13 (sym e)),
      ne_eqb (operator_byte divide) b (λ e. n14 (sym e)),
      ne_eqb (access_byte fetch) b (λ e. n15 (sym e)),
      ne_eqb (access_byte save) b (λ e. n16 (sym e)),
      ne_eqb (condition_byte negative) b (λ e. n17 (sym e)),
      ne_eqb (condition_byte null) b (λ e. n18 (sym e)),
      ne_eqb (condition_byte equal) b (λ e. n19 (sym e)),
    )

high-kind : (b : ℕ) → constant_code < b → kind b ≡ is_none
high-kind b h =
    let l : is_letter b ≡ false = rw (le-leb first_letter b (omega arith), lt-leb b last_letter (omega arith)) in
    none-kind b l (λ e. omega arith) (λ e. omega arith) (λ e. omega arith) (λ e. omega arith) (λ e. omega arith) (λ e. omega arith) (λ e. omega arith) (λ e. omega arith) (λ e. omega arith) (λ e. omega arith) (λ e. omega arith) (λ e. omega arith) (λ e. omega arith) (λ e. omega arith) (λ e. omega arith) (λ e. omega arith) (λ e. omega arith) (λ e. omega arith) (λ e. omega arith)

end-early : (t : Table) (q : ℕ) (z : ℤ) → byte_of z ≡ End → early t q z ≡ damaged
unfolding early byte_of sound mark negated_of
end-early t q (pos zero) e = refl
end-early t q (pos (suc n)) e = absurd cc
end-early t q (negsuc n) e =
    by-ltb n constant_code (λ u. unwrap_or (option_map Mark (cond u (Some (suc n)) None)) End ≡ End → mark t q (kind (suc n)) ≡ damaged)
    (λ h i. absurd cc) (λ h i. rw (high-kind (suc n) (omega arith))) e

-- a cell before the last two that is neither a mark nor a transfer
pub decode-end : (t : Table) (q : ℕ) → code_start ≤ q → q + 2 ≤ t.used → byte_at t q ≡ End → decode t q ≡ damaged
decode-end t q h k e = decode-inside t q h k ∙ end-early t q (cell t q) (sym (byte-early t q h k) ∙ e)

-- a letter's byte
pub call-kind : (b : ℕ) → first_letter ≤ b → b ≤ last_letter → kind b ≡ is_call (letter_index b)
unfolding kind
call-kind b h k = rw (le-leb first_letter b h, le-leb b last_letter k)

-- ── prints ──────────────────────────────────────────────────────────────────────────────────────

byte-read : (z : ℤ) (k : ℕ → Decoded) → natural z (λ b. sound (print_byte b) (k b)) ≡ cond (holds_print_byte z) (k (nat_abs z)) damaged
unfolding natural sound holds_print_byte
byte-read (negsuc n) k = refl
byte-read (pos n) k = go (print_byte n)
  where
    go : (u : Bool) → sound u (k n) ≡ cond u (k n) damaged
    go true = refl
    go false = refl

both : (u v : Bool) (x : Decoded) → cond u (cond v x damaged) damaged ≡ cond (u && v) x damaged
both true v x = refl
both false v x = refl

bytes_read : (c : List ℤ) (base end n q i : ℕ) (k : List ℕ → Decoded) → i + 1 ≡ base + q → 0 < q → q + n ≤ suc max_cells
    → bytes_at (table_from c base end) n q k ≡ cond (printable c i n) (k (prints_from c i n)) damaged
unfolding bytes_at printable prints_from
bytes_read c base end zero q i k e h l = refl
bytes_read c base end (suc n) q i k e h l =
    let z = get_or c i (pos 0) in
    rw (cell_at c base end q i h (omega arith) e)
    (byte-read z (λ b. bytes_at (table_from c base end) n (suc q) (λ l. k (b ∷ l)))
    ∙ ap (λ (x : Decoded). cond (holds_print_byte z) x damaged)
    (bytes_read c base end n (suc q) (suc i) (λ l. k (nat_abs z ∷ l)) (omega arith) (omega arith) (omega arith))
    ∙ both (holds_print_byte z) (printable c (suc i) n) (k (nat_abs z ∷ prints_from c (suc i) n)))

module _ (c : List ℤ) (p : Code) (q : ℕ) (few : p.end ≤ max_cells) where
  abbrev t : Table
  t = table_in c p

  abbrev i : ℕ
  i = bytes_index p q

  abbrev bytes : ℕ → Decoded
  bytes n = bytes_at t n (suc (suc q)) (λ b. code (operate_at (print b) (forward n (suc (suc q)))))

  abbrev printed : ℕ → Decoded
  printed n = code (operate_at (print (prints_from c i n)) (q + 2 + n))

  -- the length fits: its bytes are read
  fit-read : (n : ℕ) → q + 3 + n ≤ t.used → bytes n ≡ decoded_from (cond (printable c i n) (Some n) None) printed
  fit-read n h =
      let e : forward n (suc (suc q)) ≡ q + 2 + n = forward-add n (suc (suc q)) ∙ omega arith in
      bytes_read c p.base p.end n (suc (suc q)) i (λ b. code (operate_at (print b) (forward n (suc (suc q))))) (omega arith) (omega arith) (omega arith)
      ∙ ap (λ (m : ℕ). cond (printable c i n) (code (operate_at (print (prints_from c i n)) m)) damaged) e
      ∙ go (printable c i n) n
    where
      go : (u : Bool) (n : ℕ) → cond u (printed n) damaged ≡ decoded_from (cond u (Some n) None) printed
      go true n = refl
      go false n = refl

  room-read : (n : ℕ) → sound (ltb (forward n (suc (suc q))) t.used) (bytes n)
      ≡ decoded_from (cond (ltb p.end (q + 3 + n)) None (cond (printable c i n) (Some n) None)) printed
  unfolding sound
  room-read n =
      let e = forward-add n (suc (suc q)) in
      by-ltb p.end (q + 3 + n)
      (λ v. sound (ltb (forward n (suc (suc q))) t.used) (bytes n) ≡ decoded_from (cond v None (cond (printable c i n) (Some n) None)) printed)
      (λ h. ap (λ (v : Bool). sound v (bytes n)) (le-ltb (forward n (suc (suc q))) t.used (omega (arith, e))))
      (λ h. ap (λ (v : Bool). sound v (bytes n)) (lt-ltb (forward n (suc (suc q))) t.used (omega (arith, e))) ∙ fit-read n h)

  -- the length as the code reads it
  abbrev fitting : ℕ → Option ℕ
  fitting n = cond (ltb p.end (q + 3 + n)) None (cond (printable c i n) (Some n) None)

  length-read : (z : ℤ)
      → natural z (λ n. sound (ltb (forward n (suc (suc q))) t.used) (bytes n)) ≡ decoded_from (option_and_then fitting (bounded_of 0 max_cells z)) printed
  unfolding natural bounded_of
  length-read (negsuc n) = refl
  length-read (pos n) =
      room-read n
      ∙ by-ltb max_cells n (λ v. decoded_from (fitting n) printed ≡ decoded_from (option_and_then fitting (cond (between 0 max_cells n) (Some n) None)) printed)
      (λ h. rw (between-high 0 max_cells n h, lt-ltb p.end (q + 3 + n) (omega arith)))
      (λ h. rw (between-true 0 max_cells n (omega arith) h))

  -- a print, of its length
  pub print-read : mark t q is_print ≡ decoded_from (print_at c p q) printed
  unfolding mark print_at second_at
  print-read =
      cell-read t q (λ z. natural z (λ n. sound (ltb (forward n (suc (suc q))) t.used) (bytes n)))
      ∙ go (second_cell t q)
    where
      go : (o : Option ℤ)
          → decoded_from o (λ z. natural z (λ n. sound (ltb (forward n (suc (suc q))) t.used) (bytes n)))
          ≡ decoded_from (option_and_then fitting (option_and_then (λ z. bounded_of 0 max_cells z) o)) printed
      go None = refl
      go (Some z) = length-read z
