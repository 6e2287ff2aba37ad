-- A run reads its letters' cells from cell 2 to the last used one, and no others.
use mathlib.Core.Path.{◌≡◌, refl, ap, ◌∙◌}
use Prim.Native.Nat.{ℕ, zero, suc, ◌≤◌}
use native.Mathlib.Omega.{arith}
use mathlib.Core.Bool.{Bool, true, false, cond, not}
use mathlib.Core.List.{List, [], ◌∷◌}
use lib.IntN.{ℤ, pos, negsuc}
use lib.Dec.{ltb, eqb}
use borrow.Author.Tests.{ltb-true}
use Rattle.language.specs.declared.Table.{Table}
use Rattle.language.specs.Limits.{max_limit, max_counters}
use Rattle.language.specs.Syntax.{constant}
use Rattle.language.specs.Between.{between}
use Rattle.language.specs.Values.{is_value}
use Rattle.language.specs.Tokens.{print_byte}
use Rattle.language.specs.Layout.{forward, code_start}
use Rattle.language.specs.Machine.{Instruction, fail, operate_at, Decoded, last, code, Kind, is_constant, is_print, is_counter, is_none, is_operator, is_variable, is_condition, is_call, kind}
use Rattle.language.specs.Machine.{cell, sound, natural, minus, exit_at, bytes_at, mark, early, exactly, decode, arrive, run}
use Rattle.language.specs.Tables.{table_at, barred_at, execute}
use Rattle.language.specs.Statements.{Alike, ReadsUsed}
use Rattle.language.proofs.Between.{between-bounds}
use Rattle.language.proofs.LayoutPositions.{forward-le}

-- ── tests and cells ─────────────────────────────────────────────────────────────────────────────

sound-when : (b : Bool) (d e : Decoded) → (b ≡ true → d ≡ e) → sound b d ≡ sound b e
unfolding sound
sound-when true d e h = h refl
sound-when false d e h = refl

natural-by : (y z : ℤ) (k l : ℕ → Decoded) → y ≡ z → ((n : ℕ) → k n ≡ l n) → natural y k ≡ natural z l
natural-by y z k l e h = λ i. natural (e i) (λ n. h n i)

minus-by : (y z : ℤ) (k l : ℕ → Decoded) → y ≡ z → ((n : ℕ) → k n ≡ l n) → minus y k ≡ minus z l
minus-by y z k l e h = λ i. minus (e i) (λ n. h n i)

-- ── two tables with one count ───────────────────────────────────────────────────────────────────

module _ (u : ℕ) (x y : List ℤ) where
  abbrev one : Table
  one = record { used = u; cells = x }

  abbrev other : Table
  other = record { used = u; cells = y }

  module _ (same : (q : ℕ) → code_start ≤ q → q ≤ u → cell one q ≡ cell other q) where
    exit-alike : (q : ℕ) (i : ℕ → Instruction) → code_start ≤ q → q ≤ u → exit_at one q i ≡ exit_at other q i
    unfolding exit_at
    exit-alike q i lo hi = natural-by (cell one q) (cell other q) _ _ (same q lo hi) (λ f. refl)

    bytes-alike : (n q : ℕ) (k : List ℕ → Decoded) → code_start ≤ q → forward n q ≤ u → bytes_at one n q k ≡ bytes_at other n q k
    unfolding bytes_at
    bytes-alike zero q k lo hi = refl
    bytes-alike (suc n) q k lo hi =
        let m = forward-le n (suc q) in
        natural-by (cell one q) (cell other q) _ _ (same q lo (omega arith))
        (λ b. sound-when (print_byte b) _ _ (λ _. bytes-alike n (suc q) (λ l. k (b ∷ l)) (omega arith) hi))

    mark-alike : (q : ℕ) (a : Kind) → code_start ≤ q → mark one q a ≡ mark other q a
    unfolding mark
    mark-alike q (is_operator o) lo = refl
    mark-alike q (is_variable a) lo =
        sound-when (ltb (suc (suc q)) u) _ _
        (λ e. let lt = ltb-true (suc (suc q)) u e in
        natural-by (cell one (suc q)) (cell other (suc q)) _ _ (same (suc q) (omega arith) (omega arith)) (λ k. refl))
    mark-alike q is_constant lo =
        sound-when (ltb (suc (suc q)) u) _ _
        (λ e. let lt = ltb-true (suc (suc q)) u e in
        ap (λ z. sound (is_value z) (code (operate_at (constant z) (suc (suc q))))) (same (suc q) (omega arith) (omega arith)))
    mark-alike q is_print lo =
        sound-when (ltb (suc (suc q)) u) _ _
        (λ e. let lt = ltb-true (suc (suc q)) u e in
        natural-by (cell one (suc q)) (cell other (suc q)) _ _ (same (suc q) (omega arith) (omega arith))
        (λ n. sound-when (ltb (forward n (suc (suc q))) u) _ _
        (λ e'. let lt' = ltb-true (forward n (suc (suc q))) u e' in bytes-alike n (suc (suc q)) _ (omega arith) (omega arith))))
    mark-alike q (is_condition c) lo =
        sound-when (ltb (suc (suc q)) u) _ _
        (λ e. let lt = ltb-true (suc (suc q)) u e in exit-alike (suc q) _ (omega arith) (omega arith))
    mark-alike q is_counter lo =
        sound-when (ltb (suc (suc (suc (suc q)))) u) _ _
        (λ e. let lt = ltb-true (suc (suc (suc (suc q)))) u e in
        minus-by (cell one (suc q)) (cell other (suc q)) _ _ (same (suc q) (omega arith) (omega arith))
        (λ m. sound-when (ltb m max_limit) _ _
        (λ _. natural-by (cell one (suc (suc q))) (cell other (suc (suc q))) _ _ (same (suc (suc q)) (omega arith) (omega arith))
        (λ k. sound-when (ltb k max_counters) _ _ (λ _. exit-alike (suc (suc (suc q))) _ (omega arith) (omega arith))))))
    mark-alike q (is_call a) lo =
        sound-when (ltb (suc (suc q)) u) _ _
        (λ e. let lt = ltb-true (suc (suc q)) u e in exit-alike (suc q) _ (omega arith) (omega arith))
    mark-alike q is_none lo = refl

    early-alike : (q : ℕ) (z : ℤ) → code_start ≤ q → early one q z ≡ early other q z
    unfolding early
    early-alike q (pos n) lo = refl
    early-alike q (negsuc n) lo = mark-alike q (kind (suc n)) lo

    decode-alike : (q : ℕ) → decode one q ≡ decode other q
    unfolding decode
    decode-alike q =
        sound-when (between 2 u q) _ _
        (λ e. let b = between-bounds 2 u q e in
        let c = same q (omega arith) (omega arith) in
        (λ i. cond (eqb q u) (exactly (c i) 1 last)
        (cond (eqb (suc q) u) (exactly (c i) 0 (code fail)) (early-alike q (c i) (omega arith) i))))

-- ── runs ────────────────────────────────────────────────────────────────────────────────────────

tables-alike : (t v : Table) → Alike t v → (q : ℕ) → decode t q ≡ decode v q
tables-alike t v h q =
    let e : decode t q ≡ decode (record { used = v.used; cells = t.cells }) q = λ i. decode (record { used = h.count i; cells = t.cells }) q in
    e ∙ decode-alike v.used t.cells v.cells (λ p lo hi. h.within p lo (omega (arith, h.count))) q

-- Runs over stores whose tables are alike are the same.
pub reads-used : ReadsUsed
unfolding execute
reads-used c d u v k r h a n s =
    λ i. run (λ b q. tables-alike (table_at c u b) (table_at d v b) (h b) q i) (λ b. not (eqb ((h b).count i) 0)) (barred_at k r) n
    (arrive (λ b q. tables-alike (table_at c u b) (table_at d v b) (h b) q i) (λ b. not (eqb ((h b).count i) 0)) (barred_at k r) [] a code_start) s
