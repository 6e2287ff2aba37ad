-- Rules of bytes by a test that is computed: at each key of a match's arm, and at each byte of a range that is none of some keys.
use mathlib.Core.Path.{◌≡◌, sym, ◌∙◌, subst}
use mathlib.Core.Bool.{Bool, true, false}
use mathlib.Core.Logic.{inl, inr}
use mathlib.Core.List.{List, [], ◌∷◌}
use Prim.Native.Nat.{ℕ, zero, suc, ◌+◌, ◌-◌, ◌<◌, ◌≤◌}
use native.Mathlib.Nat.{add-zero, add-suc, suc-add, not-suc-le-zero, le_of_suc-le-suc}
use native.Mathlib.Omega.{arith}
use lib.Dec.{T}
use mir.Val.{has_key}
use types.Run.{OneOf, hit}

-- both tests hold; computed from the first, as `T` of a range of bytes needs it
abbrev pub both : Bool → Bool → Bool
both true b = b
both false b = false

-- one of two tests holds
abbrev pub either : Bool → Bool → Bool
either true b = true
either false b = b

both_left : (a b : Bool) → T (both a b) → T a
both_left true b t = tt
both_left false b t = t

both_right : (a b : Bool) → T (both a b) → T b
both_right true b t = t
both_right false b t = absurd t

-- the test passes at the n numbers from lo on
abbrev pub every_from : (ℕ → Bool) → ℕ → ℕ → Bool
every_from f lo zero = true
every_from f lo (suc n) = both (f lo) (every_from f (suc lo) n)

from_on : (f : ℕ → Bool) (n lo k : ℕ) → T (every_from f lo n) → k < n → T (f (lo + k))
from_on f zero lo k t h = absurd (not-suc-le-zero h)
from_on f (suc n) lo zero t h = subst (λ (m : ℕ). T (f m)) (sym (add-zero lo)) (both_left (f lo) (every_from f (suc lo) n) t)
from_on f (suc n) lo (suc k) t h =
    subst (λ (m : ℕ). T (f m)) (suc-add lo k ∙ sym (add-suc lo k))
    (from_on f n (suc lo) k (both_right (f lo) (every_from f (suc lo) n) t) (le_of_suc-le-suc h))

pub in-range : (f : ℕ → Bool) (lo n : ℕ) → T (every_from f lo n) → (b : ℕ) → lo ≤ b → b < lo + n → T (f b)
in-range f lo n t b h k =
    let e : lo + (b - lo) ≡ b = omega arith in
    subst (λ (m : ℕ). T (f m)) e (from_on f n lo (b - lo) t (omega arith))

-- the test passes at each of the keys
abbrev pub every_of : (ℕ → Bool) → List ℕ → Bool
every_of f [] = true
every_of f (k ∷ ks) = both (f k) (every_of f ks)

pub of-keys : (f : ℕ → Bool) (ks : List ℕ) → T (every_of f ks) → (b : ℕ) → OneOf ks b → T (f b)
of-keys f [] t b h = absurd h
of-keys f (k ∷ []) t b e = subst (λ (m : ℕ). T (f m)) (sym e) (both_left (f k) true t)
of-keys f (k ∷ k' ∷ ks) t b (inl e) = subst (λ (m : ℕ). T (f m)) (sym e) (both_left (f k) (every_of f (k' ∷ ks)) t)
of-keys f (k ∷ k' ∷ ks) t b (inr h) = of-keys f (k' ∷ ks) (both_right (f k) (every_of f (k' ∷ ks)) t) b h

none_of : (h x : Bool) (P : Type 0) → T (either h x) → (T h → P) → (P → ⊥) → T x
none_of true x P t y n = absurd (n (y tt))
none_of false x P t y n = t

-- b passes the test or is one of the keys, and it is none of the keys
but-keys : (ks : List ℕ) (b : ℕ) (x : Bool) → T (either (has_key ks b) x) → (OneOf ks b → ⊥) → T x
but-keys ks b x t n = none_of (has_key ks b) x (OneOf ks b) t (hit ks b) n

-- b is none of the keys of a match's arms, the last arm first
abbrev pub NoneOf : List (List ℕ) → ℕ → Type 0
NoneOf [] b = Unit {0}
NoneOf (ks ∷ kss) b = NoneOf kss b × (OneOf ks b → ⊥)

-- b passes the test or is one of those keys
abbrev pub or_key : List (List ℕ) → ℕ → Bool → Bool
or_key [] b x = x
or_key (ks ∷ kss) b x = or_key kss b (either (has_key ks b) x)

but-arms : (kss : List (List ℕ)) (b : ℕ) (x : Bool) → T (or_key kss b x) → NoneOf kss b → T x
but-arms [] b x t n = t
but-arms (ks ∷ kss) b x t n = but-keys ks b x (but-arms kss b (either (has_key ks b) x) t n.0) n.1

-- in a range of bytes that all pass the test but for those keys, one that is none of them passes it
pub in-gap : (f : ℕ → Bool) (kss : List (List ℕ)) (lo n : ℕ) → T (every_from (λ b. or_key kss b (f b)) lo n)
    → (b : ℕ) → lo ≤ b → b < lo + n → NoneOf kss b → T (f b)
in-gap f kss lo n t b h k r = but-arms kss b (f b) (in-range (λ b. or_key kss b (f b)) lo n t b h k) r
