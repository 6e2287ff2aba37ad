-- What the readers of a line answer.
use mathlib.Core.Path.{◌≡◌, refl, sym, ap, ◌∙◌}
use mathlib.Core.Bool.{Bool, true, false}
use mathlib.Core.List.{List, [], ◌∷◌, ◌++◌}
use Prim.Native.Nat.{ℕ, ◌+◌, ◌≤◌, ◌<◌}
use native.Mathlib.Numerals.{add-one}
use native.Mathlib.Omega.{arith}
use lib.IntN.{ℤ}
use lib.ListN.{length, get_or, set, take, drop, length-set}
use lib.Seq.{length-take-le, take-suc-set}
use lib.Dec.{ltb}
use borrow.Author.Tests.{ltb-true, ltb-false}
use Rattle.language.specs.Decimals.{max_digits}
use Rattle.language.specs.Bytes.{blank_byte, minus_byte}
use Rattle.numerals.specs.declared.Numeral.{Numeral}
use Rattle.numerals.specs.Numerals.{Reads, value_of}
use Rattle.numerals.proofs.Numerals.{pow-up}
use Rattle.numerals.proofs.Ints.{value-near}
use Rattle.std.specs.Prelude.{Option, Some, None}
use Rattle.lines.specs.declared.Command.TheVariants.{Run}
use Rattle.lines.specs.Lines.{max_inputs, bad, Field, input, allowed, given, sign, number, fields}
use Rattle.lines.specs.Commands.{Parsed, Ready, after, NumberAt, InputAt, InputIs}
use Rattle.lines.proofs.Lines.{digits-on, number-none, number-closed, number-other, number-ended, number-unended, sign-minus, sign-plain}
use Rattle.lines.proofs.Lines.{after-end, after-full, after_on}

-- ── a number ────────────────────────────────────────────────────────────────────────────────────

module _ (s : List ℕ) (from : ℕ) (q : Numeral) (r : Reads s from max_digits q) where
  -- after its digits
  number-from : (l : ℕ) (f : Field) → fields (drop from s) l (number f 0 0) ≡ fields (drop (from + q.count) s) l (number f q.count q.value)
  number-from l f =
      let d = r.stand in
      let e : 0 + length d.list ≡ q.count = omega (arith, d.counted) in
      ap (λ t. fields t l (number f 0 0)) d.bytes
      ∙ digits-on d.list (drop (from + q.count) s) l f 0 0 d.each (omega (arith, d.counted, r.short))
      ∙ (λ i. fields (drop (from + q.count) s) l (number f (e i) (d.valued i)))

  pub number-missing : q.count ≡ 0 → (l : ℕ) (f : Field) → fields (drop from s) l (number f 0 0) ≡ bad
  number-missing z l f = number-from l f ∙ go (ltb (from + q.count) (length s)) refl
    where
      go : (u : Bool) → ltb (from + q.count) (length s) ≡ u → fields (drop (from + q.count) s) l (number f q.count q.value) ≡ bad
      go true e =
          let h = ltb-true (from + q.count) (length s) e in
          number-none s (from + q.count) l h f q.count q.value (r.whole (omega arith) (omega arith) h) z
      go false e = number-unended s (from + q.count) l (ltb-false (from + q.count) (length s) e) f q.count q.value z

  module _ (z : q.count ≡ 0 → ⊥) where
    number_at : from + q.count ≤ length s
        → ((l : ℕ) (f : Field)
        → fields (drop (from + q.count) s) l (number f q.count q.value) ≡ after (drop (from + q.count) s) l (allowed f q.value) (given f q.value))
        → NumberAt s from q.value (from + q.count)
    number_at h g =
        record {
          means = λ l f. number-from l f ∙ g l f;
          small = omega (arith, pow-up q.value q.count 9 r.short r.below);
          further = omega arith;
          inside = h;
        }

    pub number-at-end : from + q.count ≡ length s → NumberAt s from q.value (from + q.count)
    number-at-end e = number_at (omega arith) (λ l f. number-ended s (from + q.count) l (omega arith) f q.count q.value z)

    module _ (h : from + q.count < length s) where
      pub number-at-blank : get_or s (from + q.count) 0 ≡ blank_byte → NumberAt s from q.value (from + q.count)
      number-at-blank b = number_at (omega arith) (λ l f. number-closed s (from + q.count) l h f q.count q.value b z)

      pub number-no-blank : (get_or s (from + q.count) 0 ≡ blank_byte → ⊥) → (l : ℕ) (f : Field) → fields (drop from s) l (number f 0 0) ≡ bad
      number-no-blank n l f = number-from l f ∙ number-other s (from + q.count) l h f q.count q.value n (λ k. r.whole k k h)

-- ── an input ────────────────────────────────────────────────────────────────────────────────────

-- the value of its digits
pub signed-at : (s : List ℕ) (from v next : ℕ) (m : Bool) (r : ℤ) → NumberAt s from v next → r ≡ value_of m v
    → InputAt (λ a x. number (input a x m) 0 0) s from r next
signed-at s from v next m r n e =
    record {
      means = λ l a x.
          n.means l (input a x m) ∙ ap (λ y. after (drop next s) l a (x ++ (y ∷ []))) (sym (e ∙ value-near m v n.small));
      further = n.further;
      inside = n.inside;
    }

-- after a `-`
pub input-minus : (s : List ℕ) (from : ℕ) (r : Option (ℤ × ℕ)) → from < length s → get_or s from 0 ≡ minus_byte
    → InputIs (λ a x. number (input a x true) 0 0) s (from + 1) r → InputIs sign s from r
input-minus s from (Some r) h e q =
    record {
      means = λ l a x. sign-minus s from l a x h e ∙ q.means l a x;
      further = omega (arith, q.further);
      inside = q.inside;
    }
input-minus s from None h e q = λ l a x. sign-minus s from l a x h e ∙ q l a x

-- without
pub input-plain : (s : List ℕ) (from : ℕ) (r : Option (ℤ × ℕ)) → from < length s → (get_or s from 0 ≡ minus_byte → ⊥)
    → InputIs (λ a x. number (input a x false) 0 0) s from r → InputIs sign s from r
input-plain s from (Some r) h e q =
    record { means = λ l a x. sign-plain s from l a x h e ∙ q.means l a x; further = q.further; inside = q.inside }
input-plain s from None h e q = λ l a x. sign-plain s from l a x h e ∙ q l a x

-- ── inputs ──────────────────────────────────────────────────────────────────────────────────────

-- after the first n inputs, at place i: what the line asks for from there on is what it asks for from the start
pub record Taking (s : List ℕ) (from l a : ℕ) (x : List ℤ) (i n : ℕ) : Type 0 where
  pub inside : i ≤ length s
  pub few : n ≤ max_inputs
  pub places : length x ≡ max_inputs
  pub same : after (drop i s) l a (take n x) ≡ after (drop from s) l a []

pub taking-none : (s : List ℕ) (from l a : ℕ) (x : List ℤ) → Ready s from x → Taking s from l a x from 0
taking-none s from l a x r = record { inside = r.inside; few = omega arith; places = r.places; same = refl }

module _ (s : List ℕ) (from l a : ℕ) (x : List ℤ) (i n : ℕ) (t : Taking s from l a x i n) where
  length_taken : length (take n x) ≡ n
  length_taken = length-take-le n x (omega (arith, t.few, t.places))

  pub taking-done : length s ≤ i → Parsed (Some (Run l a n)) s x (after (drop from s) l a [])
  taking-done h =
      record { asks = record { means = sym (after-end s i l a (take n x) h) ∙ t.same; within = t.few }; places = t.places }

  module _ (h : i < length s) where
    pub taking-full : n ≡ max_inputs → Parsed None s x (after (drop from s) l a [])
    taking-full e =
        record {
          asks = record { means = sym (after-full s i l a (take n x) h (omega (arith, length_taken))) ∙ t.same; within = tt };
          places = t.places;
        }

    module _ (k : n < max_inputs) where
      next_field : fields (drop (i + 1) s) l (sign a (take n x)) ≡ after (drop from s) l a []
      next_field = sym (after_on s i l a (take n x) h (omega (arith, length_taken))) ∙ t.same

      pub taking-bad : ((l a : ℕ) (x : List ℤ) → fields (drop (i + 1) s) l (sign a x) ≡ bad) → Parsed None s x (after (drop from s) l a [])
      taking-bad f =
          record { asks = record { means = sym (f l a (take n x)) ∙ next_field; within = tt }; places = t.places }

      pub taking-more : (v : ℤ) (next : ℕ) → InputAt sign s (i + 1) v next → Taking s from l a (set x n v) next (n + 1)
      taking-more v next q =
          record {
            inside = q.inside;
            few = omega arith;
            places = length-set x n v ∙ t.places;
            same =
                ap (λ y. after (drop next s) l a y)
                (ap (λ j. take j (set x n v)) (add-one n) ∙ take-suc-set x n v (omega (arith, t.places)))
                ∙ sym (q.means l a (take n x))
                ∙ next_field;
          }
