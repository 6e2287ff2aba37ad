-- Document 02, U5: "Division now goes down." What `/` gives, by its law and computed.
use Rattle.std.specs.Prelude.{ℕ, suc, ◌/◌, ℤ, pos, negsuc, neg_ℤ, ◌+ℤ◌, ◌*ℤ◌, ◌≤ℤ◌, ◌<ℤ◌}

-- ── the law ─────────────────────────────────────────────────────────────────────────────────────

-- the whole number p is "not above the exact quotient" of a by b: p·b ≤ a, and the other way round where b is negative
abbrev pub NotAbove : ℤ → ℤ → ℤ → Type 0
NotAbove a (pos b) p = (p *ℤ pos b) ≤ℤ a
NotAbove a (negsuc b) p = a ≤ℤ (p *ℤ negsuc b)

-- it is above
abbrev pub Above : ℤ → ℤ → ℤ → Type 0
Above a (pos b) p = a <ℤ (p *ℤ pos b)
Above a (negsuc b) p = (p *ℤ negsuc b) <ℤ a

-- "`/` gives the greatest whole number not above the exact quotient": q·b ≤ a < (q + 1)·b, and the other way round where b is negative. By 0
-- there is none (`NoneByZero` of Statements).
pub record IsQuotient (a b q : ℤ) : Type 0 where
  pub not-above : NotAbove a b q
  pub next-above : Above a b (q +ℤ pos 1)

-- ── the number ──────────────────────────────────────────────────────────────────────────────────

-- the floor of a by a natural number: of -(a + 1) by b it is -(a / b + 1)
abbrev pub floor : ℤ → ℕ → ℤ
floor (pos a) b = pos (a / b)
floor (negsuc a) b = negsuc (a / b)

-- The number that `IsQuotient` says, where b is not 0, and no other is (`QuotientExact` of Statements). By -b it is that of -a by b.
abbrev pub quotient : ℤ → ℤ → ℤ
quotient a (pos b) = floor a b
quotient a (negsuc b) = floor (neg_ℤ a) (suc b)
