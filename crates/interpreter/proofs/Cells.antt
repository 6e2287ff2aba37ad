-- The cells that a decoded instruction names are cells of the code.
use mathlib.Core.Path.{◌≡◌, refl}
use mathlib.Core.Bool.{Bool, true, false, cond, false≢true}
use mathlib.Core.List.{List, [], ◌∷◌}
use Prim.Native.Nat.{ℕ, zero, suc, ◌+◌, ◌≤◌}
use native.Mathlib.Omega.{arith}
use lib.Dec.{eqb, ltb}
use lib.IntN.{ℤ, pos, negsuc}
use borrow.Author.Tests.{ltb-true, eqb-false}
use Rattle.language.specs.declared.Table.{Table}
use Rattle.language.specs.Between.{between}
use Rattle.language.specs.Tokens.{print_byte}
use Rattle.language.specs.Values.{is_value}
use Rattle.language.specs.Limits.{max_cells, max_variables, max_limit, max_counters}
use Rattle.language.specs.Layout.{code_start, forward}
use Rattle.language.specs.Syntax.{Operation, operator, variable, constant, print, Predicate, condition, counter}
use Rattle.language.specs.Machine.{Instruction, transfer, fail, operate_at, test_at, call_at, Decoded, last, damaged, code}
use Rattle.language.specs.Machine.{Kind, is_constant, is_print, is_counter, is_none, is_operator, is_variable, is_condition, is_call, kind}
use Rattle.language.specs.Machine.{cell, sound, natural, minus, exit_at, bytes_at, room, mark, early, exactly, decode}
use Rattle.language.proofs.Between.{between-bounds}
use Rattle.language.proofs.LayoutPositions.{forward-add}

-- a cell from 2 to 250
pub record Inner (q : ℕ) : Type 0 where
  pub first : code_start ≤ q
  pub final : q ≤ max_cells

-- where the instruction goes on
unfoldable pub Within : Decoded → Type 0
Within last = Unit {0}
Within damaged = Unit {0}
Within (code (transfer n)) = Inner n
Within (code fail) = Unit {0}
Within (code (operate_at o n)) = Inner n
Within (code (test_at p n f)) = Inner n × Inner f
Within (code (call_at a n f)) = Inner n × Inner f

last_within : Within last
unfolding Within
last_within = tt

fail-within : Within (code fail)
unfolding Within
fail-within = tt

transfer-within : (n : ℕ) → Inner n → Within (code (transfer n))
unfolding Within
transfer-within n i = i

operate-within : (o : Operation) (n : ℕ) → Inner n → Within (code (operate_at o n))
unfolding Within
operate-within o n i = i

test-within : (p : Predicate) (n f : ℕ) → Inner n → Inner f → Within (code (test_at p n f))
unfolding Within
test-within p n f i j = (i, j)

call-within : (a n f : ℕ) → Inner n → Inner f → Within (code (call_at a n f))
unfolding Within
call-within a n f i j = (i, j)

sound-within : (b : Bool) (d : Decoded) → (b ≡ true → Within d) → Within (sound b d)
unfolding sound Within
sound-within true d h = h refl
sound-within false d h = tt

natural-within : (z : ℤ) (k : ℕ → Decoded) → ((n : ℕ) → Within (k n)) → Within (natural z k)
unfolding natural Within
natural-within (pos n) k h = h n
natural-within (negsuc n) k h = tt

minus-within : (z : ℤ) (k : ℕ → Decoded) → ((n : ℕ) → Within (k n)) → Within (minus z k)
unfolding minus Within
minus-within (pos n) k h = tt
minus-within (negsuc n) k h = h n

bytes-within : (t : Table) (n q : ℕ) (k : List ℕ → Decoded) → ((l : List ℕ) → Within (k l)) → Within (bytes_at t n q k)
unfolding bytes_at
bytes-within t zero q k h = h []
bytes-within t (suc n) q k h = natural-within (cell t q) _ (λ b. sound-within (print_byte b) _ (λ _. bytes-within t n (suc q) (λ l. k (b ∷ l)) (λ l. h (b ∷ l))))

-- over a table of at most 250 cells
module _ (t : Table) (few : t.used ≤ max_cells) where
  inner_of : (n : ℕ) → between 2 t.used n ≡ true → Inner n
  inner_of n e = let b = between-bounds 2 t.used n e in record { first = b.0; final = omega (arith, b.1) }

  exit-within : (q : ℕ) (i : ℕ → Instruction) → ((f : ℕ) → Inner f → Within (code (i f))) → Within (exit_at t q i)
  unfolding exit_at
  exit-within q i h = natural-within (cell t q) _ (λ f. sound-within (between 2 t.used f) _ (λ e. h f (inner_of f e)))

  room_within : (n : ℕ) (d : Decoded) → code_start ≤ n → (Inner n → Within d) → Within (room t n d)
  room_within n d l h = sound-within (ltb n t.used) d (λ e. h (record { first = l; final = omega (arith, ltb-true n t.used e) }))

  mark-within : (q : ℕ) (k : Kind) → code_start ≤ q → q + 2 ≤ t.used → Within (mark t q k)
  unfolding mark
  mark-within q (is_operator o) l h = operate-within (operator o) _ (record { first = omega arith; final = omega arith })
  mark-within q (is_variable a) l h =
      room_within (suc (suc q)) _ (omega arith) (λ i. natural-within (cell t (suc q)) _ (λ k. sound-within (between 1 max_variables k) _ (λ _. operate-within (variable a k) _ i)))
  mark-within q is_constant l h =
      room_within (suc (suc q)) _ (omega arith) (λ i. sound-within (is_value (cell t (suc q))) _ (λ _. operate-within (constant (cell t (suc q))) _ i))
  mark-within q is_print l h =
      room_within (suc (suc q)) _ (omega arith)
      (λ _. natural-within (cell t (suc q)) _ (λ n. room_within (forward n (suc (suc q))) _ (omega (arith, forward-add n (suc (suc q))))
      (λ i. bytes-within t n (suc (suc q)) (λ b. code (operate_at (print b) (forward n (suc (suc q))))) (λ b. operate-within (print b) _ i))))
  mark-within q (is_condition c) l h =
      room_within (suc (suc q)) _ (omega arith) (λ i. exit-within (suc q) (λ f. test_at (condition c) (suc (suc q)) f) (λ f j. test-within (condition c) _ f i j))
  mark-within q is_counter l h =
      room_within (suc (suc (suc (suc q)))) _ (omega arith)
      (λ i. minus-within (cell t (suc q)) _ (λ m. sound-within (ltb m max_limit) _
      (λ _. natural-within (cell t (suc (suc q))) _ (λ k. sound-within (ltb k max_counters) _
      (λ _. exit-within (suc (suc (suc q))) (λ f. test_at (counter m k) (suc (suc (suc (suc q)))) f) (λ f j. test-within (counter m k) _ f i j))))))
  mark-within q (is_call a) l h = room_within (suc (suc q)) _ (omega arith) (λ i. exit-within (suc q) (λ f. call_at a (suc (suc q)) f) (λ f j. call-within a _ f i j))
  mark-within q is_none l h = sound-within false damaged (λ e. absurd (false≢true e))

  early-within : (q : ℕ) (z : ℤ) → code_start ≤ q → q + 2 ≤ t.used → Within (early t q z)
  unfolding early
  early-within q (pos n) l h = sound-within (between 2 t.used n) _ (λ e. transfer-within n (inner_of n e))
  early-within q (negsuc n) l h = mark-within q (kind (suc n)) l h

  exactly-within : (z : ℤ) (n : ℕ) (d : Decoded) → Within d → Within (exactly z n d)
  unfolding exactly
  exactly-within z n d h = natural-within z (λ m. sound (eqb m n) d) (λ m. sound-within (eqb m n) d (λ _. h))

  -- a decoded cell
  pub decode-within : (q : ℕ) → Within (decode t q)
  unfolding decode
  decode-within q =
      sound-within (between 2 t.used q) _ (λ e. let b = between-bounds 2 t.used q e in go (eqb q t.used) (eqb (suc q) t.used) refl refl b.0 b.1)
    where
      go : (x y : Bool) → eqb q t.used ≡ x → eqb (suc q) t.used ≡ y → code_start ≤ q → q ≤ t.used
          → Within (cond x (exactly (cell t q) 1 last) (cond y (exactly (cell t q) 0 (code fail)) (early t q (cell t q))))
      go true y a b l h = exactly-within (cell t q) 1 last last_within
      go false true a b l h = exactly-within (cell t q) 0 (code fail) fail-within
      go false false a b l h =
          let i : q ≡ t.used → ⊥ = eqb-false _ _ a in
          let j : suc q ≡ t.used → ⊥ = eqb-false _ _ b in
          early-within q (cell t q) l (omega arith)
