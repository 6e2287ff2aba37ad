-- The table of an expression decodes to the expression.
use mathlib.Core.Path.{◌≡◌, refl, sym, ap, ◌∙◌, subst}
use Prim.Native.Nat.{ℕ, zero, suc, ◌-◌, ◌≤◌, ◌<◌}
use native.Mathlib.Omega.{arith}
use mathlib.Core.List.{List, [], ◌∷◌}
use lib.IntN.{ℤ, pos}
use lib.ListN.{length, get_or, drop, replicate}
use borrow.Author.Tests.{lt-ltb, eq-eqb, ne_eqb}
use Rattle.language.specs.Letters.{first_letter, last_letter, letter_byte}
use Rattle.language.specs.declared.Table.{Table}
use Rattle.language.specs.Limits.{max_cells, max_counters, max_letters}
use Rattle.language.specs.Syntax.{Operator, absolute, discard, negate, copy, write, newline, input, add, subtract, multiply, divide, operator_byte, counter_code, constant_code, print_code}
use Rattle.language.specs.Syntax.{Access, fetch, save, access_byte, Condition, negative, null, equal, condition_byte}
use Rattle.language.specs.Syntax.{Operation, operator, variable, constant, print, Predicate, condition, counter}
use Rattle.language.specs.Syntax.{Expr, close, semi, colon, operate, test, call, inner}
use Rattle.language.specs.Tokens.{print_byte}
use Rattle.language.specs.Grammar.{AllBytes}
use Rattle.language.specs.Layout.{forward, after_operation, after_predicate, after_call, after_expr, false_exit, opcode, byte_cells, operation_cells, predicate_cells, expr_cells, used_cells, layout}
use Rattle.language.specs.Machine.{Instruction, transfer, fail, operate_at, test_at, call_at, Decoded, last, code, is_constant, is_print, is_counter, is_operator, is_variable, is_condition, is_call, kind, cell, sound, natural, minus, exit_at, bytes_at, mark, early, exactly, decode}
use Rattle.language.specs.Statements.{Closing, outermost, exit_to, closing_code, Decodes}
use Rattle.language.proofs.Between.{between-true}
use Rattle.language.proofs.GrammarFormed.{FormedOperation, FormedPredicate, FormedExpr}
use Rattle.language.proofs.LayoutPositions.{forward-le, operation-lt, predicate-lt, after-lt, exit-lt, exit-le}

-- ── lists ───────────────────────────────────────────────────────────────────────────────────────

head_at : (q : ℕ) (l : List ℤ) (c : ℤ) (r : List ℤ) (d : ℤ) → drop q l ≡ c ∷ r → get_or l q d ≡ c
head_at zero [] c r d e = cc
head_at zero (x ∷ l) c r d e = cc
head_at (suc q) [] c r d e = cc
head_at (suc q) (x ∷ l) c r d e = head_at q l c r d e

tail_at : (q : ℕ) (l : List ℤ) (c : ℤ) (r : List ℤ) → drop q l ≡ c ∷ r → drop (suc q) l ≡ r
tail_at zero [] c r e = cc
tail_at zero (x ∷ l) c r e = cc
tail_at (suc q) [] c r e = cc
tail_at (suc q) (x ∷ l) c r e = tail_at q l c r e

-- ── kinds ───────────────────────────────────────────────────────────────────────────────────────

kind-operator : (o : Operator) → kind (operator_byte o) ≡ is_operator o
unfolding kind
kind-operator absolute = refl
kind-operator discard = refl
kind-operator negate = refl
kind-operator copy = refl
kind-operator write = refl
kind-operator newline = refl
kind-operator input = refl
kind-operator add = refl
kind-operator subtract = refl
kind-operator multiply = refl
kind-operator divide = refl

kind-access : (a : Access) → kind (access_byte a) ≡ is_variable a
unfolding kind
kind-access fetch = refl
kind-access save = refl

kind-condition : (c : Condition) → kind (condition_byte c) ≡ is_condition c
unfolding kind
kind-condition negative = refl
kind-condition null = refl
kind-condition equal = refl

kind-constant : kind constant_code ≡ is_constant
unfolding kind
kind-constant = refl

kind-print : kind print_code ≡ is_print
unfolding kind
kind-print = refl

kind-counter : kind counter_code ≡ is_counter
unfolding kind
kind-counter = refl

kind-call : (a : ℕ) → a < max_letters → kind (letter_byte a) ≡ is_call a
unfolding kind
kind-call a h =
    let e : letter_byte a - first_letter ≡ a = omega arith in
    rw (between-true first_letter last_letter (letter_byte a) (omega arith) (omega arith), e)

early-opcode : (t : Table) (q b : ℕ) → 1 ≤ b → early t q (opcode b) ≡ mark t q (kind b)
unfolding early
early-opcode t q zero h = let z : ⊥ = omega arith in absurd z
early-opcode t q (suc b) h = refl

operator-byte : (o : Operator) → 1 ≤ operator_byte o
operator-byte absolute = omega arith
operator-byte discard = omega arith
operator-byte negate = omega arith
operator-byte copy = omega arith
operator-byte write = omega arith
operator-byte newline = omega arith
operator-byte input = omega arith
operator-byte add = omega arith
operator-byte subtract = omega arith
operator-byte multiply = omega arith
operator-byte divide = omega arith

access-byte : (a : Access) → 1 ≤ access_byte a
access-byte fetch = omega arith
access-byte save = omega arith

condition-byte : (c : Condition) → 1 ≤ condition_byte c
condition-byte negative = omega arith
condition-byte null = omega arith
condition-byte equal = omega arith

-- ── cells ───────────────────────────────────────────────────────────────────────────────────────

abbrev closing_cell : Closing → ℕ
closing_cell outermost = 0
closing_cell (exit_to f) = f

module _ (t : Table) where
  -- the table from cell q on
  abbrev From : ℕ → List ℤ → Type 0
  From q r = drop q (pos 0 ∷ t.cells) ≡ r

  cell_at : (q : ℕ) (c : ℤ) (r : List ℤ) → From q (c ∷ r) → cell t q ≡ c
  cell_at q c r e = head_at q (pos 0 ∷ t.cells) c r (pos 0) e

  then : (q : ℕ) (c : ℤ) (r : List ℤ) → From q (c ∷ r) → From (suc q) r
  then q c r e = tail_at q (pos 0 ∷ t.cells) c r e

  -- the due cell, where it is the last, the one before, or an earlier one
  at_last : (q : ℕ) (r : List ℤ) → 2 ≤ q → q ≡ t.used → From q (pos 1 ∷ r) → decode t q ≡ last
  unfolding decode sound exactly natural
  at_last q r two e f = rw (between-true 2 t.used q two (omega arith), eq-eqb q t.used e, cell_at q (pos 1) r f)

  at-fail : (q : ℕ) (r : List ℤ) → 2 ≤ q → suc q ≡ t.used → From q (pos 0 ∷ r) → decode t q ≡ code fail
  unfolding decode sound exactly natural
  at-fail q r two e f =
      rw (between-true 2 t.used q two (omega arith), ne_eqb q t.used (omega arith), eq-eqb (suc q) t.used e, cell_at q (pos 0) r f)

  at-early : (q : ℕ) (c : ℤ) (r : List ℤ) → 2 ≤ q → suc q < t.used → From q (c ∷ r) → decode t q ≡ early t q c
  unfolding decode sound
  at-early q c r two lt f =
      rw (between-true 2 t.used q two (omega arith), ne_eqb q t.used (omega arith), ne_eqb (suc q) t.used (omega arith), cell_at q c r f)

  at_mark : (q b : ℕ) (r : List ℤ) → 1 ≤ b → 2 ≤ q → suc q < t.used → From q (opcode b ∷ r) → decode t q ≡ mark t q (kind b)
  at_mark q b r one two lt f = at-early q (opcode b) r two lt f ∙ early-opcode t q b one

  bytes-at : (b : List ℕ) (q : ℕ) (r : List ℤ) (k : List ℕ → Decoded) → AllBytes print_byte b → From q (byte_cells b r)
      → (bytes_at t (length b) q k ≡ k b) × From (forward (length b) q) r
  unfolding bytes_at natural sound
  bytes-at [] q r k g f = (refl, f)
  bytes-at (b ∷ l) q r k g f =
      let h = bytes-at l (suc q) r (λ m. k (b ∷ m)) g.1 (then q (pos b) (byte_cells l r) f) in
      (rw (cell_at q (pos b) (byte_cells l r) f, g.0) h.0, h.1)

  exit-at : (q f : ℕ) (r : List ℤ) (i : ℕ → Instruction) → 2 ≤ f → f ≤ t.used → From q (pos f ∷ r) → exit_at t q i ≡ code (i f)
  unfolding exit_at natural sound
  exit-at q f r i two le e = rw (cell_at q (pos f) r e, between-true 2 t.used f two le)

  -- ── marks ─────────────────────────────────────────────────────────────────────────────────────

  operation-at : (o : Operation) (q : ℕ) (r : List ℤ) → FormedOperation o → 2 ≤ q → after_operation o q < t.used → From q (operation_cells o r)
      → (decode t q ≡ code (operate_at o (after_operation o q))) × From (after_operation o q) r
  unfolding mark sound natural
  operation-at (operator o) q r g two lt f =
      (at_mark q (operator_byte o) r (operator-byte o) two lt f ∙ (rw kind-operator), then q _ r f)
  operation-at (variable a k) q r g two lt f =
      let f' = then q (opcode (access_byte a)) (pos k ∷ r) f in (
        at_mark q (access_byte a) (pos k ∷ r) (access-byte a) two (omega arith) f
            ∙ (rw (kind-access, lt-ltb (suc (suc q)) t.used lt, cell_at (suc q) (pos k) r f', between-true 1 10 k g.0 g.1)),
        then (suc q) (pos k) r f',
      )
  operation-at (constant v) q r g two lt f =
      let f' = then q (opcode constant_code) (v ∷ r) f in (
        at_mark q constant_code (v ∷ r) (omega arith) two (omega arith) f
            ∙ (rw (kind-constant, lt-ltb (suc (suc q)) t.used lt, cell_at (suc q) v r f', g)),
        then (suc q) v r f',
      )
  operation-at (print b) q r g two lt f =
      let f' = then q (opcode print_code) (pos (length b) ∷ byte_cells b r) f in
      let m = forward-le (length b) (suc (suc q)) in
      let h = bytes-at b (suc (suc q)) r (λ b'. code (operate_at (print b') (forward (length b) (suc (suc q))))) g (then (suc q) (pos (length b)) (byte_cells b r) f') in (
        at_mark q print_code (pos (length b) ∷ byte_cells b r) (omega arith) two (omega arith) f
            ∙ (rw (kind-print, lt-ltb (suc (suc q)) t.used (omega arith), cell_at (suc q) (pos (length b)) (byte_cells b r) f', lt-ltb (forward (length b) (suc (suc q))) t.used lt) h.0),
        h.1,
      )

  predicate-at : (p : Predicate) (q f : ℕ) (r : List ℤ) → FormedPredicate p → 2 ≤ q → after_predicate p q < t.used → 2 ≤ f → f ≤ t.used
      → From q (predicate_cells p f r)
      → (decode t q ≡ code (test_at p (after_predicate p q) f)) × From (after_predicate p q) r
  unfolding mark sound natural minus
  predicate-at (condition c) q f r _ two lt two' le e =
      let e' = then q (opcode (condition_byte c)) (pos f ∷ r) e in (
        at_mark q (condition_byte c) (pos f ∷ r) (condition-byte c) two (omega arith) e
            ∙ (rw (kind-condition, lt-ltb (suc (suc q)) t.used lt) (exit-at (suc q) f r _ two' le e')),
        then (suc q) (pos f) r e',
      )
  predicate-at (counter m k) q f r g two lt two' le e =
      let e₁ = then q (opcode counter_code) (opcode (suc m) ∷ pos k ∷ pos f ∷ r) e in
      let e₂ = then (suc q) (opcode (suc m)) (pos k ∷ pos f ∷ r) e₁ in
      let e₃ = then (suc (suc q)) (pos k) (pos f ∷ r) e₂ in (
        at_mark q counter_code (opcode (suc m) ∷ pos k ∷ pos f ∷ r) (omega arith) two (omega arith) e
            ∙ (rw (
              kind-counter,
              lt-ltb (suc (suc (suc (suc q)))) t.used lt,
              cell_at (suc q) (opcode (suc m)) (pos k ∷ pos f ∷ r) e₁,
              lt-ltb m 9999 g.0,
              cell_at (suc (suc q)) (pos k) (pos f ∷ r) e₂,
              lt-ltb k max_counters g.1,
            ) (exit-at (suc (suc (suc q))) f r _ two' le e₃)),
        then (suc (suc (suc q))) (pos f) r e₃,
      )

  call-at : (a q f : ℕ) (r : List ℤ) → a < max_letters → 2 ≤ q → after_call q < t.used → 2 ≤ f → f ≤ t.used → From q (opcode (letter_byte a) ∷ pos f ∷ r)
      → (decode t q ≡ code (call_at a (after_call q) f)) × From (after_call q) r
  unfolding mark sound
  call-at a q f r g two lt two' le e =
      let e' = then q (opcode (letter_byte a)) (pos f ∷ r) e in (
        at_mark q (letter_byte a) (pos f ∷ r) (omega arith) two (omega arith) e
            ∙ (rw (kind-call a g, lt-ltb (suc (suc q)) t.used lt) (exit-at (suc q) f r _ two' le e')),
        then (suc q) (pos f) r e',
      )

  transfer-at : (q n : ℕ) (r : List ℤ) → 2 ≤ q → suc q < t.used → 2 ≤ n → n ≤ t.used → From q (pos n ∷ r) → decode t q ≡ code (transfer n)
  unfolding early sound
  transfer-at q n r two lt two' le f = at-early q (pos n) r two lt f ∙ (rw (between-true 2 t.used n two' le))

  -- ── expressions ───────────────────────────────────────────────────────────────────────────────

  -- where an expression that ends before cell x may stand
  abbrev Fits : Closing → ℕ → Type 0
  Fits outermost x = x ≡ t.used
  Fits (exit_to f) x = (x < t.used) × (2 ≤ f) × (f ≤ t.used)

  fits_le : (c : Closing) (x : ℕ) → Fits c x → x ≤ t.used
  fits_le outermost x h = omega arith
  fits_le (exit_to f) x h = omega arith

  close_at : (c : Closing) (q : ℕ) (r : List ℤ) → 2 ≤ q → Fits c (suc q) → From q (pos (closing_cell c) ∷ r) → decode t q ≡ code (closing_code c)
  close_at outermost q r two h f = at-fail q r two h f
  close_at (exit_to n) q r two h f = transfer-at q n r two h.0 h.1 h.2 f

  decodes : (e : Expr) (h x : ℕ) (c : Closing) (q : ℕ) (r : List ℤ) → FormedExpr e → 2 ≤ h → h ≤ q → after_expr e q ≡ x → Fits c x
      → From q (expr_cells e h x (closing_cell c) q r) → Decodes (decode t) e h x c q × From x r
  decodes close h x c q r g two le e fit f =
      ((close_at c q r (omega arith) (subst (λ z. Fits c z) (sym e) fit) f, e), subst (λ z. From z r) e (then q (pos (closing_cell c)) r f))
  decodes (semi b) h x c q r g two le e fit f =
      let p = after-lt b (suc q) in
      let m = fits_le c x fit in
      let i = decodes b h x c (suc q) r g two (omega arith) e fit (then q (pos x) (expr_cells b h x (closing_cell c) (suc q) r) f) in
      ((transfer-at q x _ (omega arith) (omega arith) (omega arith) m f, i.0), i.1)
  decodes (colon b) h x c q r g two le e fit f =
      let p = after-lt b (suc q) in
      let m = fits_le c x fit in
      let i = decodes b h x c (suc q) r g two (omega arith) e fit (then q (pos h) (expr_cells b h x (closing_cell c) (suc q) r) f) in
      ((transfer-at q h _ (omega arith) (omega arith) two (omega arith) f, i.0), i.1)
  decodes (operate o b) h x c q r g two le e fit f =
      let p = after-lt b (after_operation o q) in
      let n = operation-lt o q in
      let m = fits_le c x fit in
      let k = operation-at o q (expr_cells b h x (closing_cell c) (after_operation o q) r) g.0 (omega arith) (omega arith) f in
      let i = decodes b h x c (after_operation o q) r g.1 two (omega arith) e fit k.1 in
      ((k.0, i.0), i.1)
  decodes (test o b) h x c q r g two le e fit f =
      let p = after-lt b (after_predicate o q) in
      let n = predicate-lt o q in
      let u = exit-lt b (after_predicate o q) in
      let v = exit-le b (after_predicate o q) in
      let m = fits_le c x fit in
      let k = predicate-at o q (false_exit b (after_predicate o q)) (expr_cells b h x (closing_cell c) (after_predicate o q) r) g.0 (omega arith) (omega arith) (omega arith) (omega arith) f in
      let i = decodes b h x c (after_predicate o q) r g.1 two (omega arith) e fit k.1 in
      ((k.0, i.0), i.1)
  decodes (call a b) h x c q r g two le e fit f =
      let p = after-lt b (after_call q) in
      let u = exit-lt b (after_call q) in
      let v = exit-le b (after_call q) in
      let m = fits_le c x fit in
      let k = call-at a q (false_exit b (after_call q)) (expr_cells b h x (closing_cell c) (after_call q) r) g.0 (omega arith) (omega arith) (omega arith) (omega arith) f in
      let i = decodes b h x c (after_call q) r g.1 two (omega arith) e fit k.1 in
      ((k.0, i.0), i.1)
  decodes (inner a b) h x c q r g two le e fit f =
      let p = after-lt b (after_expr a q) in
      let n = after-lt a q in
      let u = exit-lt b (after_expr a q) in
      let v = exit-le b (after_expr a q) in
      let m = fits_le c x fit in
      let k = decodes a q (after_expr a q) (exit_to (false_exit b (after_expr a q))) q (expr_cells b h x (closing_cell c) (after_expr a q) r) g.0 (omega arith) (omega arith) refl
      (omega arith, omega arith, omega arith) f in
      let i = decodes b h x c (after_expr a q) r g.1 two (omega arith) e fit k.1 in
      ((k.0, i.0), i.1)

-- A table says its expression from cell 2 on, and its last used cell ends it.
pub formed-decodes : (w : Expr) → FormedExpr w
    → Decodes (decode (layout w)) w 2 (used_cells w) outermost 2 × (decode (layout w) (used_cells w) ≡ last)
formed-decodes w g =
    let p = after-lt w 2 in
    let k = decodes (layout w) w 2 (used_cells w) outermost 2 _ g (omega arith) (omega arith) refl refl refl in
    (k.0, at_last (layout w) (used_cells w) _ (omega arith) refl k.1)

-- a cell past those from place q on
past : (q : ℕ) (l : List ℤ) (c : ℤ) (n k : ℕ) → drop q l ≡ c ∷ replicate n (pos 0) → q < k → get_or l k (pos 0) ≡ pos 0
past zero l c n zero e h = elim h [ ]
past (suc q) [] c n zero e h = elim h [ ]
past (suc q) (x ∷ l) c n zero e h = elim h [ ]
past zero l c n (suc k) e h = ap (λ z. get_or z (suc k) (pos 0)) e ∙ zeros n k
  where
    zeros : (m j : ℕ) → get_or (replicate m (pos 0)) j (pos 0) ≡ pos 0
    zeros zero j = refl
    zeros (suc m) zero = refl
    zeros (suc m) (suc j) = zeros m j
past (suc q) [] c n (suc k) e h = refl
past (suc q) (x ∷ l) c n (suc k) e h = past q l c n k e (omega arith)

-- The cells past the used ones are 0.
pub formed-zeros : (w : Expr) → FormedExpr w → (q : ℕ) → used_cells w < q → cell (layout w) q ≡ pos 0
formed-zeros w g q h =
    let p = after-lt w 2 in
    let k = decodes (layout w) w 2 (used_cells w) outermost 2 _ g (omega arith) (omega arith) refl refl refl in
    past (used_cells w) (pos 0 ∷ (layout w).cells) (pos 1) (max_cells - used_cells w) q k.1 h
