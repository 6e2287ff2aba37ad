-- The parts of what a line prints.
use mathlib.Core.Path.{◌≡◌, refl, sym, ap, ◌∙◌}
use mathlib.Core.Bool.{Bool, true, false, cond}
use mathlib.Core.List.{List, [], ◌∷◌, ◌++◌}
use Prim.Native.Nat.{ℕ, ◌+◌, ◌*◌, ◌≤◌, ◌<◌}
use native.Mathlib.Omega.{arith}
use lib.IntN.{pos}
use lib.ListN.{length, take, length-append}
use lib.Seq.{paste, paste-zero, take-paste, take-length}
use lib.Dec.{leb}
use borrow.Author.Tests.{lt-leb}
use Rattle.std.specs.Int.{from_bool}
use Rattle.language.specs.Decimals.{decimals, decimal, justified, padded}
use Rattle.numerals.specs.Numerals.{Written, wrote, written, max_columns}
use Rattle.numerals.proofs.Decimals.{justified-most, padded-most}
use Rattle.numerals.proofs.Numerals.{written-room, written-no-room, written-two}
use Rattle.columns.specs.declared.LineColumns.{LineColumns}
use Rattle.columns.specs.Printed.{line_width, answer_width, truth_width, steps_width, height_width, top_width, bit, columns, most_bytes, paper}
use Rattle.language.specs.Bytes.{newline_byte}

-- ── a line's columns ────────────────────────────────────────────────────────────────────────────

-- Bytes b, at most n, stand at the start of the buffer o, which is then o', and end at the place r.
pub record Begins (o b : List ℕ) (n r : ℕ) (o' : List ℕ) : Type 0 where
  pub same : wrote r o' ≡ written o 0 b
  pub size : length b ≤ n

-- others after them
more : (o a b : List ℕ) (n k : ℕ) {m r : ℕ} {o₁ o₂ : List ℕ}
    → Begins o a n m o₁ → wrote r o₂ ≡ written o₁ m b → length b ≤ k → n + k ≤ length o → Begins o (a ++ b) (n + k) r o₂
more o a b n k s q h l =
    record { same = written-two o 0 a b s.same q (omega (arith, s.size)); size = omega (arith, s.size, length-append a b) }

-- truth as a number
pub truth-bit : (t : Bool) → from_bool t ≡ bit t
truth-bit true = refl
truth-bit false = refl

pub all-fields : (o : List ℕ) (f : LineColumns) {o₁ o₂ o₃ o₄ o₅ o₆ o₇ : List ℕ} {a b c d e g r t : ℕ} → length o ≡ most_bytes → t ≡ bit f.truth
    → wrote a o₁ ≡ written o 0 (justified line_width (decimals false f.line))
    → wrote b o₂ ≡ written o₁ a (justified answer_width (decimals false f.answer))
    → wrote c o₃ ≡ written o₂ b (justified truth_width (decimals false t))
    → wrote d o₄ ≡ written o₃ c (justified steps_width (decimals false f.steps))
    → wrote e o₅ ≡ written o₄ d (justified height_width (decimals false f.height))
    → wrote g o₆ ≡ written o₅ e (padded top_width f.top)
    → wrote r o₇ ≡ written o₆ g (newline_byte ∷ [])
    → Begins o (columns f) most_bytes r o₇
unfolding columns padded decimal
all-fields o f {o₁ = o₁} {a = a} h t e₁ e₂ e₃ e₄ e₅ e₆ e₇ =
    let s₁ : Begins o (justified line_width (decimals false f.line)) max_columns a o₁ = record { same = e₁; size = justified-most line_width false f.line (omega arith) } in
    let s₂ = more o _ _ max_columns max_columns s₁ e₂ (justified-most answer_width false f.answer (omega arith)) (omega arith) in
    let s₃ = more o _ _ (2 * max_columns) max_columns s₂ (rw t at e₃) (justified-most truth_width false (bit f.truth) (omega arith)) (omega arith) in
    let s₄ = more o _ _ (3 * max_columns) max_columns s₃ e₄ (justified-most steps_width false f.steps (omega arith)) (omega arith) in
    let s₅ = more o _ _ (4 * max_columns) max_columns s₄ e₅ (justified-most height_width false f.height (omega arith)) (omega arith) in
    let s₆ = more o _ _ (5 * max_columns) max_columns s₅ e₆ (padded-most top_width f.top (omega arith)) (omega arith) in
    more o _ _ (6 * max_columns) 1 s₆ e₇ (omega arith) (omega arith)

length-seven : (a b c d e g t : List ℕ)
    → length a ≤ max_columns → length b ≤ max_columns → length c ≤ max_columns → length d ≤ max_columns → length e ≤ max_columns → length g ≤ max_columns → length t ≤ 1
    → length (a ++ b ++ c ++ d ++ e ++ g ++ t) ≤ most_bytes
length-seven a b c d e g t ha hb hc hd he hg ht = simp length-append (omega arith)

-- A line's columns are at most so many bytes.
pub columns-most : (f : LineColumns) → length (columns f) ≤ most_bytes
unfolding columns
columns-most f =
    length-seven
    (padded line_width (pos f.line))
    (padded answer_width (pos f.answer))
    (padded truth_width (pos (bit f.truth)))
    (padded steps_width (pos f.steps))
    (padded height_width (pos f.height))
    (padded top_width f.top)
    (newline_byte ∷ [])
    (padded-most line_width (pos f.line) (omega arith))
    (padded-most answer_width (pos f.answer) (omega arith))
    (padded-most truth_width (pos (bit f.truth)) (omega arith))
    (padded-most steps_width (pos f.steps) (omega arith))
    (padded-most height_width (pos f.height) (omega arith))
    (padded-most top_width f.top (omega arith))
    (omega arith)

-- the columns in a buffer that has room for them, as they are lent
module _ (z : List ℕ) (f : LineColumns) (r : ℕ) (o : List ℕ) (h : length z ≡ most_bytes) (e : wrote r o ≡ written z 0 (columns f)) where
  at-start : wrote r o ≡ wrote (0 + length (columns f)) (paste z 0 (columns f) (length (columns f)))
  at-start = e ∙ sym (written-room z 0 (columns f) (omega (arith, columns-most f)))

  pub columns-end : r ≡ length (columns f)
  columns-end = let e = ap (λ (x : Written). x.next) at-start in omega arith

  pub columns-lent : take r o ≡ columns f
  columns-lent =
      (λ i. take (at-start i).next (at-start i).buffer) ∙ take-paste z 0 (columns f) (length (columns f)) (omega arith) (omega arith) ∙ take-length (columns f)

-- ── a run's output ──────────────────────────────────────────────────────────────────────────────

module _ (o : List ℕ) (at : ℕ) (b : List ℕ) where
  pub output-none : length b ≡ 0 → wrote at o ≡ written o at (paper b)
  unfolding paper written
  output-none e = go b e
    where
      by : (u : Bool) → wrote at o ≡ cond u (wrote (at + 0) (paste o at [] 0)) (wrote at o)
      by true = let e : at ≡ at + 0 = omega arith in λ i. wrote (e i) (paste-zero o at [] i)
      by false = refl

      go : (b : List ℕ) → length b ≡ 0 → wrote at o ≡ written o at (paper b)
      go [] e = by (leb (at + 0) (length o))
      go (x ∷ b) e = absurd (omega arith)

  module _ (n : length b ≡ 0 → ⊥) where
    by-newline : b ++ (newline_byte ∷ []) ≡ paper b
    by-newline = go b n
      where
        go : (b : List ℕ) → (length b ≡ 0 → ⊥) → b ++ (newline_byte ∷ []) ≡ paper b
        go [] n = absurd (n refl)
        go (x ∷ b) n = unfold paper in refl

    pub output-no-room : length o < at + (length b + 1) → wrote at o ≡ written o at (paper b)
    output-no-room h =
        written-no-room o at (paper b)
        (lt-leb (at + length (paper b)) (length o) (omega (arith, ap length by-newline, length-append b (newline_byte ∷ []))))

    pub output-written : {o₁ o₂ : List ℕ} {m r : ℕ} → at + (length b + 1) ≤ length o
        → wrote m o₁ ≡ written o at b → wrote r o₂ ≡ written o₁ m (newline_byte ∷ []) → wrote r o₂ ≡ written o at (paper b)
    output-written h p q = written-two o at b (newline_byte ∷ []) p q (omega arith) ∙ ap (written o at) by-newline
