-- What output comes to.
use mathlib.Core.Path.{◌≡◌, refl, ap}
use mathlib.Core.List.{List, [], ◌∷◌}
use Prim.Native.Nat.{ℕ, zero, suc, ◌+◌, ◌<◌, ◌≤◌}
use native.Mathlib.Omega.{arith}
use lib.ListN.{length, set}
use lib.Seq.{paste}
use borrow.Author.Tests.{le-leb, lt-leb}
use Rattle.language.specs.declared.Ending.TheVariants.{PaperOut}
use Rattle.language.specs.Effects.{State, goes, stops, with_output, emitted}

-- ── one byte of output ──────────────────────────────────────────────────────────────────────────

-- one byte
pub paste-one : (l : List ℕ) (i b : ℕ) → i < length l → paste l i (b ∷ []) 1 ≡ set l i b
paste-one [] i b h = absurd (omega arith)
paste-one (x ∷ l) zero b h = refl
paste-one (x ∷ l) (suc i) b h =
    let e : suc i + 1 ≡ suc (i + 1) = omega arith in
    rw e (ap (λ (r : List ℕ). x ∷ r) (paste-one l i b (omega arith)))

-- ── output ──────────────────────────────────────────────────────────────────────────────────────

module _ (s : State) (b : List ℕ) (n : ℕ) (size : length b ≡ n) where
  -- bytes that fit
  pub emitted-fits : s.written + n ≤ length s.output → emitted s b ≡ goes (with_output s (paste s.output s.written b n) (s.written + n))
  emitted-fits h = rw (size, le-leb (s.written + n) (length s.output) h)

  -- bytes that do not
  pub emitted-out : length s.output < s.written + n → emitted s b ≡ stops PaperOut
  emitted-out h = rw (size, lt-leb (s.written + n) (length s.output) h)
