-- What the tests on a cell, a signed number, say of the definitions that go by its condition; and the bytes of a print.
use mathlib.Core.Path.{◌≡◌, refl, sym, ap, ◌∙◌}
use mathlib.Core.Bool.{true, false, false≢true}
use mathlib.Core.List.{List}
use Prim.Native.Nat.{ℕ, zero, suc, ◌+◌, ◌-◌, ◌<◌, ◌≤◌}
use native.Mathlib.Omega.{arith}
use lib.Dec.{T}
use lib.IntN.{ℤ, pos, negsuc, nat_abs}
use lib.ListN.{length, get_or}
use lib.Signed.{lt_z, non_neg}
use mir.Syntax.{w8}
use mir.Val.{Fits}
use Rattle.std.proofs.lemmas.Bool.Decides.{nat_tests}
use Rattle.std.specs.Prelude.{Some, None, is_some, unwrap_or}
use Rattle.language.specs.declared.Table.{Table}
use Rattle.language.specs.Limits.{max_counters, max_limit}
use Rattle.language.specs.Layout.{code_start}
use Rattle.operands.specs.declared.cells.Code.{Code}
use Rattle.operands.specs.declared.cells.Counter.{Counter}
use Rattle.operands.specs.declared.cells.Due.TheVariants.{Mark, Transfer}
use Rattle.operands.specs.Operands.{bounded_of, exit_of, second_cell, second_at, negated_of, byte_of, holds_print_byte, prints_from, printable, counter_at, bytes_index, print_at}
use Rattle.language.proofs.Tests.{first-true, second-true}

-- two readings of the same
pub some-same : {A : Type 0} {a b : A} → Some a ≡ Some b → a ≡ b
some-same {a = a} e = ap (λ o. unwrap_or o a) e

-- nothing that is read is no reading
pub none-some : {X A : Type 0} {a : A} → None ≡ Some a → X
none-some e = absurd (false≢true (ap (λ o. is_some o) e))

-- ── a number within bounds ──────────────────────────────────────────────────────────────────────

-- what is read lies within the bounds
pub bounded-bounds : (l m n : ℕ) (x : ℤ) → bounded_of l m x ≡ Some n → (l ≤ n) × (n ≤ m)
unfolding bounded_of
bounded-bounds l m n (pos k) e = grind (arith, nat_tests)
bounded-bounds l m n (negsuc k) e = grind arith

-- of a mark of two cells too
pub second-bounds : (l m n : ℕ) (t : Table) (q : ℕ) → second_at l m t q ≡ Some n → (l ≤ n) × (n ≤ m)
unfolding second_cell second_at
second-bounds l m n t q e = grind (arith, nat_tests, bounded-bounds)

-- a false exit is at most the used cells
pub exit-le : (t : Table) (q f : ℕ) → exit_of t q ≡ Some f → f ≤ t.used
exit-le t q f e = (second-bounds code_start t.used f t q e).1

-- ── a number that is held negated ───────────────────────────────────────────────────────────────

-- what is read is one of them
pub negated-bounds : (m n : ℕ) (x : ℤ) → negated_of m x ≡ Some n → (0 < n) × (n ≤ m)
unfolding negated_of
negated-bounds m n (pos k) e = grind arith
negated-bounds m n (negsuc k) e = grind (arith, nat_tests)

-- ── a counter ───────────────────────────────────────────────────────────────────────────────────

-- a counter's number, order and false exit lie where they must
pub record Bounded (t : Table) (x : Counter) : Type 0 where
  pub some : 0 < x.limit
  pub limit : x.limit ≤ max_limit
  pub order : x.order < max_counters
  pub exit : x.exit ≤ t.used

pub counter-bounds : (t : Table) (q : ℕ) (x : Counter) → counter_at t q ≡ Some x → Bounded t x
unfolding counter_at
counter-bounds t q x e =
    record {
      some = grind (arith, nat_tests, negated-bounds);
      limit = grind (arith, nat_tests, negated-bounds);
      order = grind (arith, nat_tests, bounded-bounds);
      exit = grind (arith, nat_tests, bounded-bounds);
    }

-- ── a byte ──────────────────────────────────────────────────────────────────────────────────────

-- a cell above 0 is a transfer
pub byte_high : (x : ℤ) → lt_z (pos 0) x ≡ true → Transfer ≡ byte_of x
unfolding byte_of
byte_high (pos zero) e = absurd (false≢true e)
byte_high (pos (suc n)) e = refl
byte_high (negsuc n) e = absurd (false≢true e)

-- ── a byte says what the cell is ────────────────────────────────────────────────────────────────

-- the cell z holds the byte b negated
pub record Marked (z : ℤ) (b : ℕ) : Type 0 where
  pub n : ℕ
  pub cell : z ≡ negsuc n
  pub byte : b ≡ suc n

-- a mark's byte
pub byte-mark : (x : ℤ) (b : ℕ) → byte_of x ≡ Mark b → Marked x b
unfolding byte_of
byte-mark (pos zero) b e = absurd cc
byte-mark (pos (suc k)) b e = absurd cc
byte-mark (negsuc k) b e = record { n = k; cell = refl; byte = grind (arith, nat_tests) }

-- the byte of a transfer
pub byte-transfer : (x : ℤ) → byte_of x ≡ Transfer → x ≡ pos (nat_abs x)
unfolding byte_of
byte-transfer (pos n) e = refl
byte-transfer (negsuc k) e = grind (arith, nat_tests)

-- ── the bytes of a print ────────────────────────────────────────────────────────────────────────

-- the first has its form
pub printable-step : (c : List ℤ) (i n : ℕ) → 0 < n → holds_print_byte (get_or c i (pos 0)) ≡ true → printable c i n ≡ printable c (i + 1) (n - 1)
unfolding printable
printable-step c i zero h e = absurd (omega arith)
printable-step c i (suc n) h e = grind arith

-- so many bytes
pub length-prints : (c : List ℤ) (i n : ℕ) → length (prints_from c i n) ≡ n
unfolding prints_from
length-prints c i zero = refl
length-prints c i (suc n) = ap suc (length-prints c (suc i) n)

-- the byte at a place
pub get_or-prints : (c : List ℤ) (i n j : ℕ) → j < n → get_or (prints_from c i n) j 0 ≡ nat_abs (get_or c (i + j) (pos 0))
unfolding prints_from
get_or-prints c i zero j h = absurd (omega arith)
get_or-prints c i (suc n) zero h =
    let e : i ≡ i + 0 = omega arith in
    ap (λ (k : ℕ). nat_abs (get_or c k (pos 0))) e
get_or-prints c i (suc n) (suc j) h =
    let e : suc i + j ≡ i + suc j = omega arith in
    get_or-prints c (suc i) n j (omega arith) ∙ ap (λ (k : ℕ). nat_abs (get_or c k (pos 0))) e

-- a byte of a print can be cast
print-castable : (x : ℤ) → holds_print_byte x ≡ true → T (non_neg x) × Fits w8 (nat_abs x)
unfolding holds_print_byte
print-castable (negsuc n) e = absurd (false≢true e)
print-castable (pos n) e = (tt, record { fits = grind (arith, nat_tests) })

-- each byte of a print has its form
print-each : (c : List ℤ) (i n j : ℕ) → printable c i n ≡ true → j < n → holds_print_byte (get_or c (i + j) (pos 0)) ≡ true
unfolding printable
print-each c i zero j e h = absurd (omega arith)
print-each c i (suc n) zero e h = let k : i + 0 ≡ i = omega arith in rw k (first-true _ _ e)
print-each c i (suc n) (suc j) e h = let k : i + suc j ≡ suc i + j = omega arith in rw k (print-each c (suc i) n j (second-true _ _ e) (omega arith))

-- so that it can be cast
pub prints-castable : (c : List ℤ) (i n j : ℕ) → printable c i n ≡ true → j < n → T (non_neg (get_or c (i + j) (pos 0))) × Fits w8 (nat_abs (get_or c (i + j) (pos 0)))
prints-castable c i n j e h = print-castable (get_or c (i + j) (pos 0)) (print-each c i n j e h)

-- what a print promises of its length
pub record Printed (c : List ℤ) (p : Code) (q n : ℕ) : Type 0 where
  pub early : q + 3 + n ≤ p.end
  pub form : printable c (bytes_index p q) n ≡ true

pub print-good : (c : List ℤ) (p : Code) (q n : ℕ) → print_at c p q ≡ Some n → Printed c p q n
unfolding print_at
print-good c p q n e = record { early = grind (arith, nat_tests); form = grind (arith, nat_tests) }
