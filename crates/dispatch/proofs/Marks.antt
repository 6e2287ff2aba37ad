-- What a turn's instructions require, and the turn at a mark's code, over the table that the turn is given.
use mathlib.Core.Path.{◌≡◌, refl, sym, ap, ◌∙◌, subst}
use mathlib.Core.Bool.{true, false, false≢true}
use mathlib.Core.List.{List}
use mathlib.Core.Logic.{◌⊎◌, inl, inr}
use Prim.Native.Nat.{ℕ, suc, ◌+◌, ◌-◌, ◌≤◌}
use native.Mathlib.Omega.{arith}
use native.Mathlib.Numerals.{add-one}
use lib.Dec.{T}
use lib.IntN.{ℤ, pos, negsuc, nat_abs, ◌-ℤ◌}
use lib.Signed.{lt_z, non_neg}
use mir.Syntax.{w32, w64}
use mir.Val.{SFits, Fits, to_z, of_z}
use mir.Facts.{to_z-of_z}
use borrow.Author.Tests.{lt-ltb, le-ltb, ltb-true, ltb-false, le-leb, lt-leb}
use Rattle.language.specs.declared.Table.{Table}
use Rattle.language.specs.Letters.{first_letter, last_letter, is_letter, letter_index}
use Rattle.language.specs.Layout.{code_start}
use Rattle.language.specs.Syntax.{Operator, operator}
use Rattle.language.specs.Machine.{Decoded, damaged, code, operate_at, Kind, is_operator, cell, kind, mark, decode}
use Rattle.language.proofs.Ints.{fits32}
use Rattle.operands.specs.declared.Machine.{Machine}
use Rattle.operands.specs.declared.Frame.{Frame}
use Rattle.operands.specs.declared.cells.Code.{Code}
use Rattle.operands.specs.declared.cells.Due.TheVariants.{Transfer}
use Rattle.operands.specs.Operands.{table_in, byte_at, byte_of}
use Rattle.operands.specs.Held.{Held}
use Rattle.operands.specs.Turns.{decoded_as, mark_at, due_at, operator_turn}
use Rattle.operands.specs.Ready.{Inside, Ready, Reading, Writing}
use Rattle.operands.proofs.Operands.{byte_high}
use Rattle.operands.proofs.OperandsDecoding.{byte-early, code-decoded, low-decoded, none-kind}
use Rattle.dispatch.specs.Turning.{Turning}

-- the machine's numbers, wherever the due cell stands
module _ {place : Code} {m : Machine} {f : List Frame} {o : List ℕ} (p : Turning place m f o) where
  pub ready : Ready m
  ready = record { height = p.height; cell = p.cell }

  pub writing : Writing m o
  writing = record { height = p.height; cell = p.cell; written = p.written }

  -- the due cell stands before the last two
  pub inside : m.at + 2 ≤ place.end → Inside place m.at
  inside early = record { placed = p.placed; first = p.first; early = early }

  pub reading : m.at + 2 ≤ place.end → Reading place m
  reading early = record { inside = inside early; height = p.height; letter = p.letter }

-- a number above 1 is above 0
above : (x : ℤ) → lt_z (pos 1) x ≡ true → lt_z (pos 0) x ≡ true
above (pos n) h = lt-ltb 0 n (omega (arith, ltb-true 1 n h))
above (negsuc n) h = absurd (false≢true h)

-- ── the due cell, before the last two ───────────────────────────────────────────────────────────

-- 32 bits hold it
abbrev pub Held32 : ℤ → Type 0
Held32 x = to_z w32 (of_z w32 x) ≡ x

-- the due cell holds x
module _ (cells : List ℤ) {place : Code} {m : Machine} {f : List Frame} {o : List ℕ} (p : Turning place m f o) (early : m.at + 2 ≤ place.end)
    (x : ℤ) (due : x ≡ cell (table_in cells place) m.at) (back : Held32 x) where
  -- a cell above 1 holds no byte
  pub no_byte : lt_z (pos 1) (to_z w32 (of_z w32 x)) ≡ true → byte_at (table_in cells place) m.at ≡ Transfer
  no_byte h = byte-early (table_in cells place) m.at p.first early ∙ ap byte_of (sym due) ∙ sym (byte_high x (above x (rw back at h)))

-- a turn goes by the mark's code, of which the due cell holds the key k
module _ (h : Held) {place : Code} {f : List Frame} {o : List ℕ} (p : Turning place h.machine f o) (early : h.machine.at + 2 ≤ place.end)
    (x : ℤ) (due : x ≡ cell (table_in h.cells place) h.machine.at) (back : Held32 x) where
  pub mark-due : (n k : ℕ) (d : Kind) → of_z w32 x ≡ k → to_z w32 k ≡ negsuc n → kind (suc n) ≡ d → mark_at h.cells place d h ≡ due_at h.cells place h
  mark-due n k d held z e =
      let q = h.machine.at in
      ap (λ (x : Decoded). decoded_as x h)
      (ap (λ (x : Kind). mark (table_in h.cells place) q x) (sym e)
      ∙ sym (code-decoded (table_in h.cells place) q n p.first early (sym due ∙ sym back ∙ ap (to_z w32) held ∙ z)))

  pub operator-due : (n k : ℕ) (y : Operator) → of_z w32 x ≡ k → to_z w32 k ≡ negsuc n → kind (suc n) ≡ is_operator y
      → operator_turn y h ≡ due_at h.cells place h
  unfolding mark
  operator-due n k y held z e =
      ap (λ (q : ℕ). decoded_as (code (operate_at (operator y) q)) h) (add-one h.machine.at) ∙ mark-due n k (is_operator y) held z e

-- ── letters, and what is no code ────────────────────────────────────────────────────────────────

-- a cell between the codes of `z` and `a` holds a letter's byte negated
pub record Lettered (x : ℤ) : Type 0 where
  pub n : ℕ
  pub is : x ≡ negsuc n
  pub low : first_letter ≤ suc n
  pub high : suc n ≤ last_letter

pub lettered : (x : ℤ) → lt_z x (negsuc 121) ≡ false → lt_z x (negsuc 95) ≡ true → Lettered x
lettered (pos n) h k = absurd (false≢true k)
lettered (negsuc n) h k = record { n = n; is = refl; low = omega (arith, ltb-true 95 n k); high = omega (arith, ltb-false 121 n h) }

-- the letter is that byte less the first one's
index_of : (n : ℕ) → first_letter ≤ suc n → negsuc 96 -ℤ negsuc n ≡ pos (letter_index (suc n))
index_of n h = rw (le-ltb (suc n) 97 h)

no-letter : (n : ℕ) → (lt_z (negsuc n) (negsuc 121) ≡ true) ⊎ (lt_z (negsuc n) (negsuc 95) ≡ false) → is_letter (suc n) ≡ false
no-letter n (inl h) = rw (le-leb first_letter (suc n) (omega (arith, ltb-true 121 n h)), lt-leb (suc n) last_letter (omega (arith, ltb-true 121 n h)))
no-letter n (inr h) = rw (lt-leb first_letter (suc n) (omega (arith, ltb-false 95 n h)))

-- what no arm of the match takes, in the order of its arms: the codes as 32 bits hold them
abbrev pub NoArm : ℤ → Type 0
NoArm x =
    ((((((((((((((((((Unit {0} × (of_z w32 x ≡ 4294967231 → ⊥)) × (of_z w32 x ≡ 4294967219 → ⊥)) × (of_z w32 x ≡ 4294967253 → ⊥)) × (of_z w32 x ≡ 4294967251 → ⊥)) × (of_z w32 x ≡ 4294967254 → ⊥)) × (of_z w32 x ≡ 4294967249 → ⊥)) × (of_z w32 x ≡ 4294967220 → ⊥)) × (of_z w32 x ≡ 4294967216 → ⊥)) × (of_z w32 x ≡ 4294967223 → ⊥)) × (of_z w32 x ≡ 4294967226 → ⊥)) × (of_z w32 x ≡ 4294967213 → ⊥)) × (of_z w32 x ≡ 4294967121 → ⊥)) × (of_z w32 x ≡ 4294967217 → ⊥)) × (of_z w32 x ≡ 4294967208 → ⊥)) × (of_z w32 x ≡ 4294967129 → ⊥)) × (of_z w32 x ≡ 4294967218 → ⊥)) × (of_z w32 x ≡ 4294967248 → ⊥)) × (of_z w32 x ≡ 4294967222 → ⊥)) × (of_z w32 x ≡ 4294967260 → ⊥)

not_code : (n b k : ℕ) → of_z w32 (negsuc b) ≡ k → (of_z w32 (negsuc n) ≡ k → ⊥) → suc n ≡ suc b → ⊥
not_code n b k z h e = let m : n ≡ b = omega (arith, e) in h (ap (λ (i : ℕ). of_z w32 (negsuc i)) m ∙ z)

pub rest-decoded : (t : Table) (q : ℕ) (x : ℤ) → code_start ≤ q → q + 2 ≤ t.used → cell t q ≡ x → lt_z (pos 1) x ≡ false
    → (lt_z x (negsuc 121) ≡ true) ⊎ (lt_z x (negsuc 95) ≡ false) → NoArm x → decode t q ≡ damaged
unfolding mark
rest-decoded t q (pos n) h k e l o r = low-decoded t q n h k e (omega (arith, ltb-false 1 n l))
rest-decoded t q (negsuc n) h k e l o (((((((((((((((((((u, n65), n77), n43), n45), n42), n47), n76), n80), n73), n70), n83), n175), n79), n88), n167), n78), n48), n74), n36) =
    code-decoded t q n h k e
    ∙ ap (λ (d : Kind). mark t q d) (none-kind (suc n) (no-letter n o) (not_code n 174 _ refl n175) (not_code n 166 _ refl n167) (not_code n 35 _ refl n36) (not_code n 64 _ refl n65) (not_code n 75 _ refl n76) (not_code n 76 _ refl n77) (not_code n 79 _ refl n80) (not_code n 78 _ refl n79) (not_code n 87 _ refl n88) (not_code n 72 _ refl n73) (not_code n 42 _ refl n43) (not_code n 44 _ refl n45) (not_code n 41 _ refl n42) (not_code n 46 _ refl n47) (not_code n 69 _ refl n70) (not_code n 82 _ refl n83) (not_code n 77 _ refl n78) (not_code n 47 _ refl n48) (not_code n 73 _ refl n74))

-- a letter's code in the due cell, and the index that the code makes of it
module _ (x : ℤ) (back : Held32 x) (low : lt_z (to_z w32 (of_z w32 x)) (negsuc 121) ≡ false) (high : lt_z (to_z w32 (of_z w32 x)) (negsuc 95) ≡ true) where
  pub letter : Lettered x
  letter = lettered x (rw back at low) (rw back at high)

  abbrev pub index : ℕ
  index = letter_index (suc letter.n)

  abbrev pub value : ℤ
  value = negsuc 96 -ℤ to_z w32 (of_z w32 x)

  value-is : value ≡ pos index
  value-is = ap (λ (z : ℤ). negsuc 96 -ℤ z) (back ∙ letter.is) ∙ index_of letter.n letter.low

  fits : SFits w32 (pos index)
  fits = fits32 (pos index) (omega (arith, letter.high))

  pub value-fits : SFits w32 value
  value-fits = subst (λ (z : ℤ). SFits w32 z) (sym value-is) fits

  held-is : to_z w32 (of_z w32 value) ≡ pos index
  held-is = ap (λ (z : ℤ). to_z w32 (of_z w32 z)) value-is ∙ to_z-of_z fits

  pub index-fits : T (non_neg (to_z w32 (of_z w32 value))) × Fits w64 (nat_abs (to_z w32 (of_z w32 value)))
  index-fits = subst (λ (z : ℤ). T (non_neg z) × Fits w64 (nat_abs z)) (sym held-is) (tt, record { fits = omega (arith, letter.high) })

  pub called_is : nat_abs (to_z w32 (of_z w32 value)) ≡ index
  called_is = ap nat_abs held-is
