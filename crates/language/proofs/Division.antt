-- Division: `quotient` is the number that its law says, and no other is.
use mathlib.Core.Path.{◌≡◌, refl, sym, ap, ◌∙◌, subst}
use mathlib.Core.Bool.{Bool, true, false, cond, not}
use Prim.Native.Nat.{ℕ, zero, suc, ◌+◌, ◌*◌, ◌/◌, ◌≤◌}
use native.Mathlib.Nat.{le-div_iff_mul-le, div-lt_iff_lt-mul, div-le_self, suc-mul, add-suc}
use native.Mathlib.Omega.{arith}
use lib.Dec.{T, leb, ltb, leb→le, nleb→lt, leb-suc-suc, leb-zero, leb-suc-zero}
use lib.IntN.{ℤ, pos, negsuc, neg_ℤ, nat_abs, suc_ℤ, ◌+ℤ◌, ◌*ℤ◌, *ℤ-negsuc, *ℤ-zero, +ℤ_one, neg_ℤ-neg_ℤ}
use lib.Signed.{le_z, lt_z, ≤ℤ_refl, clash_ℤ}
use borrow.Author.Tests.{leb-true, le-leb, lt-leb, le-ltb, ne_eqb}
use Rattle.language.specs.declared.Ending.TheVariants.{Range}
use Rattle.language.specs.Limits.{max_value}
use Rattle.language.specs.Values.{is_value}
use Rattle.language.specs.Division.{NotAbove, Above, IsQuotient, floor, quotient}
use Rattle.language.specs.Effects.{goes, stops, top, second, ranged, combined, perform}
use Rattle.language.specs.Statements.{QuotientExact, QuotientGreatest, NoneByZero, DividesDown}
use Rattle.language.proofs.Tests.{by-ltb, leb-same}
use Rattle.language.proofs.Ints.{abs-zero}

-- ── tests of order ──────────────────────────────────────────────────────────────────────────────

-- the opposites are in the opposite order
opposites : (x y : ℤ) → le_z (neg_ℤ y) (neg_ℤ x) ≡ le_z x y
opposites (pos zero) (pos zero) = refl
opposites (pos zero) (pos (suc b)) = sym (leb-zero (suc b))
opposites (pos (suc a)) (pos zero) = sym (leb-suc-zero a)
opposites (pos (suc a)) (pos (suc b)) = sym (leb-suc-suc a b)
opposites (pos zero) (negsuc b) = leb-suc-zero b
opposites (pos (suc a)) (negsuc b) = refl
opposites (negsuc a) (pos zero) = leb-zero (suc a)
opposites (negsuc a) (pos (suc b)) = refl
opposites (negsuc a) (negsuc b) = leb-suc-suc b a

-- less is not 'at least'
ltb-not : (a b : ℕ) → ltb a b ≡ not (leb b a)
ltb-not a b = by-ltb a b (λ u. u ≡ not (leb b a)) (λ h. sym (ap not (lt-leb b a h))) (λ h. sym (ap not (le-leb b a h)))

less-not : (x y : ℤ) → lt_z x y ≡ not (le_z y x)
less-not (pos a) (pos b) = ltb-not a b
less-not (pos a) (negsuc b) = refl
less-not (negsuc a) (pos b) = refl
less-not (negsuc a) (negsuc b) = ltb-not b a

-- the next number is greater
suc-greater : (x : ℤ) → le_z (suc_ℤ x) x ≡ false
suc-greater (pos n) = lt-leb (suc n) n (omega arith)
suc-greater (negsuc zero) = refl
suc-greater (negsuc (suc n)) = lt-leb (suc n) n (omega arith)

next-greater : (x : ℤ) → le_z (x +ℤ pos 1) x ≡ false
next-greater x = ap (λ (z : ℤ). le_z z x) (+ℤ_one x) ∙ suc-greater x

-- and nothing lies between
suc-between : (x y : ℤ) → T (le_z x y) → T (not (le_z (suc_ℤ x) y)) → y ≡ x
suc-between (pos a) (pos b) h k = let p = leb→le a b h in let q = nleb→lt (suc a) b k in ap pos (omega (arith, p, q))
suc-between (pos a) (negsuc b) h k = absurd h
suc-between (negsuc zero) (pos b) h k = let q = nleb→lt 0 b k in absurd (omega (arith, q))
suc-between (negsuc (suc a)) (pos b) h k = absurd k
suc-between (negsuc zero) (negsuc b) h k = let p = leb→le b 0 h in ap negsuc (omega (arith, p))
suc-between (negsuc (suc a)) (negsuc b) h k = let p = leb→le b (suc a) h in let q = nleb→lt b a k in ap negsuc (omega (arith, p, q))

no-between : (x y : ℤ) → T (le_z x y) → T (not (le_z (x +ℤ pos 1) y)) → y ≡ x
no-between x y h k = suc-between x y h (subst (λ (z : ℤ). T (not (le_z z y))) (+ℤ_one x) k)

-- ── the floor ───────────────────────────────────────────────────────────────────────────────────

-- a negative number times a positive one
negative-product : (p b : ℕ) → neg_ℤ (pos (suc p * suc b)) ≡ negsuc (p * suc b + b)
negative-product p b = ap (λ (n : ℕ). neg_ℤ (pos n)) (suc-mul p (suc b) ∙ add-suc (p * suc b) b)

-- "not above" by a positive divisor is 'at most the floor'
floor-test : (a : ℤ) (b : ℕ) (p : ℤ) → le_z (p *ℤ pos (suc b)) a ≡ le_z p (floor a (suc b))
floor-test (pos a) b (pos p) =
    leb-same (p * suc b) a p (a / suc b) (le-div_iff_mul-le {k = suc b} (omega arith)).1 (div-lt_iff_lt-mul {k = suc b} (omega arith)).1
floor-test (pos a) b (negsuc p) = rw (negative-product p b) refl
floor-test (negsuc a) b (pos p) = refl
floor-test (negsuc a) b (negsuc p) =
    let m = suc-mul p (suc b) in
    rw (negative-product p b)
    (leb-same a (p * suc b + b) (a / suc b) p
    (λ h. let k = (div-lt_iff_lt-mul {k = suc b} {x = a} {y = suc p} (omega arith)).1 (omega (arith, h, m)) in omega (arith, k))
    (λ h. let k = (le-div_iff_mul-le {k = suc b} {x = suc p} {y = a} (omega arith)).1 (omega (arith, h, m)) in omega (arith, k)))

-- ── the quotient ────────────────────────────────────────────────────────────────────────────────

-- the test of "not above"
abbrev not_above : ℤ → ℤ → ℤ → Bool
not_above a (pos b) p = le_z (p *ℤ pos b) a
not_above a (negsuc b) p = le_z a (p *ℤ negsuc b)

-- is 'at most the quotient'
quotient-test : (a b p : ℤ) → (b ≡ pos 0 → ⊥) → not_above a b p ≡ le_z p (quotient a b)
quotient-test a (pos zero) p n = absurd (n refl)
quotient-test a (pos (suc b)) p n = floor-test a b p
quotient-test a (negsuc b) p n =
    sym (opposites a (p *ℤ negsuc b))
    ∙ ap (λ (z : ℤ). le_z z (neg_ℤ a)) (ap neg_ℤ (*ℤ-negsuc p b) ∙ neg_ℤ-neg_ℤ (p *ℤ pos (suc b)))
    ∙ floor-test (neg_ℤ a) b p

-- what the two say of it
not-above-test : (a b p : ℤ) → NotAbove a b p → T (not_above a b p)
not-above-test a (pos b) p h = h.le
not-above-test a (negsuc b) p h = h.le

test-not-above : (a b p : ℤ) → T (not_above a b p) → NotAbove a b p
test-not-above a (pos b) p t = record { le = t }
test-not-above a (negsuc b) p t = record { le = t }

above-test : (a b p : ℤ) → Above a b p → T (not (not_above a b p))
above-test a (pos b) p h = subst T (less-not a (p *ℤ pos b)) h.lt
above-test a (negsuc b) p h = subst T (less-not (p *ℤ negsuc b) a) h.lt

test-above : (a b p : ℤ) → T (not (not_above a b p)) → Above a b p
test-above a (pos b) p t = record { lt = subst T (sym (less-not a (p *ℤ pos b))) t }
test-above a (negsuc b) p t = record { lt = subst T (sym (less-not (p *ℤ negsuc b) a)) t }

-- ── the theorems ────────────────────────────────────────────────────────────────────────────────

pub quotient-greatest : QuotientGreatest
quotient-greatest a b p n = (
  λ h. record { le = subst T (quotient-test a b p n) (not-above-test a b p h) },
  λ h. test-not-above a b p (subst T (sym (quotient-test a b p n)) h.le),
)

-- the quotient keeps the law
quotient_is : (a b : ℤ) → (b ≡ pos 0 → ⊥) → IsQuotient a b (quotient a b)
quotient_is a b n =
    record {
      not-above = (quotient-greatest a b (quotient a b) n).1 (≤ℤ_refl (quotient a b));
      next-above =
          test-above a b (quotient a b +ℤ pos 1)
          (subst (λ (u : Bool). T (not u)) (sym (quotient-test a b (quotient a b +ℤ pos 1) n ∙ next-greater (quotient a b))) tt);
    }

-- and what keeps it is the quotient
is-quotient : (a b q : ℤ) → (b ≡ pos 0 → ⊥) → IsQuotient a b q → quotient a b ≡ q
is-quotient a b q n h =
    no-between q (quotient a b) ((quotient-greatest a b q n).0 h.not-above).le
    (subst (λ (u : Bool). T (not u)) (quotient-test a b (q +ℤ pos 1) n) (above-test a b (q +ℤ pos 1) h.next-above))

pub quotient-exact : QuotientExact
quotient-exact a b q n = (λ e. subst (λ (z : ℤ). IsQuotient a b z) e (quotient_is a b n), is-quotient a b q n)

pub none-by-zero : NoneByZero
none-by-zero a q h = clash_ℤ (rw (*ℤ-zero (q +ℤ pos 1)) at h.next-above) (rw (*ℤ-zero q) at h.not-above)

-- a quotient is no farther from 0 than the dividend
abs-quotient : (x y : ℤ) → nat_abs (quotient x y) ≤ nat_abs x
abs-quotient (pos a) (pos b) = div-le_self a b
abs-quotient (negsuc a) (pos b) = let h = div-le_self a b in omega (arith, h)
abs-quotient (pos zero) (negsuc b) = div-le_self 0 (suc b)
abs-quotient (pos (suc a)) (negsuc b) = let h = div-le_self a (suc b) in omega (arith, h)
abs-quotient (negsuc a) (negsuc b) = div-le_self (suc a) (suc b)

-- so that of a value is a value
quotient-value : (x y : ℤ) → is_value x ≡ true → is_value (quotient x y) ≡ true
unfolding is_value
quotient-value x y h =
    let k = leb-true (nat_abs x) max_value h in
    le-leb (nat_abs (quotient x y)) max_value (omega (arith, k, abs-quotient x y))

pub divides-down : DividesDown
unfolding perform
divides-down s q h v n i =
    let e = is-quotient (second s) (top s) q n i in
    let w : is_value q ≡ true = subst (λ (z : ℤ). is_value z ≡ true) e (quotient-value (second s) (top s) v) in
    rw (le-ltb s.height 2 h, ne_eqb (nat_abs (top s)) 0 (λ z. n (abs-zero (top s) z)))
    (ap (λ (z : ℤ). ranged z (combined s z)) e ∙ ap (λ (u : Bool). cond u (goes (combined s q)) (stops Range)) w)
