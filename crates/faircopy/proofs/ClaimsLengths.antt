-- Lexeme by lexeme: a fair copy is never longer than what it is a copy of, and where it is that itself, every lexeme is fair.
use mathlib.Core.Path.{◌≡◌, refl, sym, ap, ◌∙◌}
use mathlib.Core.Bool.{Bool, true, false}
use mathlib.Core.List.{List, [], ◌∷◌, ◌++◌, append_assoc}
use Prim.Native.Nat.{ℕ, zero, suc, ◌+◌, ◌-◌, ◌≤◌}
use native.Mathlib.Omega.{arith}
use lib.IntN.{ℤ, pos}
use lib.ListN.{length, get_or, drop, length-append}
use Rattle.language.specs.Bytes.{quote_byte, dollar_byte, tick_byte, minus_byte, slash_byte}
use Rattle.language.specs.Decimals.{digits, decimal}
use Rattle.language.specs.Tokens.{signed}
use Rattle.language.specs.Grammar.{Lexeme, blank, newline, comma, semicolon, colon-sign, point, left, right, comment, print-of, operator-of, variable-of, condition-of, call-of, counter-of, constant_of}
use Rattle.language.specs.Grammar.{digit_bytes, minus_sign, spell_all, Digits, value_from, AllFormed, marks_of}
use Rattle.faircopy.specs.FairCopy.{counter_bytes, constant_bytes, print_bytes, marks_bytes}
use Rattle.faircopy.specs.Claims.{Plain, Signed, AllFair}
use Rattle.faircopy.proofs.Decimals.{digit-bytes, digit-bytes-length, value-few, natural, value-shorter}

-- ── lengths ─────────────────────────────────────────────────────────────────────────────────────

-- bytes b between two bytes or more and one, and then r
enclosed : (a b r : List ℕ) (z : ℕ) → length ((a ++ b ++ z ∷ []) ++ r) ≡ length a + length b + 1 + length r
enclosed a b r z = simp (length-append) (omega arith)

counter-length : (n : ℕ) (r : List ℕ) → length (counter_bytes n ++ r) ≡ 2 + length (digits 10 n) + length r
counter-length n r = let e = enclosed (dollar_byte ∷ []) (decimal (pos n)) r dollar_byte in let d = ap length (natural n) in omega arith

constant-length : (v : ℤ) (r : List ℕ) → length (constant_bytes v ++ r) ≡ 3 + length (decimal v) + length r
constant-length v r = let e = enclosed (tick_byte ∷ slash_byte ∷ []) (decimal v) r tick_byte in omega arith

pub signed-length : (s : Bool) (ds r : List ℕ) → length (minus_sign s (digit_bytes ds r)) ≡ length (minus_sign s []) + length ds + length r
signed-length true ds r = let e = digit-bytes-length ds r in omega arith
signed-length false ds r = let e = digit-bytes-length ds r in omega arith

sign-bytes : (s : Bool) (ds a r : List ℕ) → minus_sign s (digit_bytes ds (a ++ r)) ≡ minus_sign s (digit_bytes ds a) ++ r
sign-bytes true ds a r = ap (λ (l : List ℕ). minus_byte ∷ l) (digit-bytes ds a r)
sign-bytes false ds a r = digit-bytes ds a r

-- the number of a counter whose digits say 1 or more
pub counted : (v : ℕ) → 1 ≤ v → suc (v - 1) ≡ v
counted v h = omega arith

pub never-longer : (xs : List Lexeme) (c : ℕ) → AllFormed xs → length (marks_bytes (marks_of c xs)) ≤ length (spell_all xs)
never-longer [] c h = omega arith
never-longer (blank ∷ xs) c h = let i = never-longer xs c h.1 in omega arith
never-longer (newline ∷ xs) c h = let i = never-longer xs c h.1 in omega arith
never-longer (comment b ∷ xs) c h =
    let i = never-longer xs c h.1 in
    omega (arith, length-append b (quote_byte ∷ spell_all xs))
never-longer (left ∷ xs) c h = let i = never-longer xs c h.1 in omega arith
never-longer (right ∷ xs) c h = let i = never-longer xs c h.1 in omega arith
never-longer (semicolon ∷ xs) c h = let i = never-longer xs c h.1 in omega arith
never-longer (comma ∷ xs) c h = let i = never-longer xs c h.1 in omega arith
never-longer (colon-sign ∷ xs) c h = let i = never-longer xs c h.1 in omega arith
never-longer (point ∷ xs) c h = let i = never-longer xs c h.1 in omega arith
never-longer (operator-of o ∷ xs) c h = let i = never-longer xs c h.1 in omega arith
never-longer (variable-of a d ∷ xs) c h = let i = never-longer xs c h.1 in omega arith
never-longer (condition-of t ∷ xs) c h = let i = never-longer xs c h.1 in omega arith
never-longer (call-of a ∷ xs) c h = let i = never-longer xs c h.1 in omega arith
never-longer (counter-of ds ∷ xs) c h =
    let i = never-longer xs (suc c) h.1 in
    let f = value-few ds h.0.0.0 h.0.0.1 in
    let n = ap (λ (k : ℕ). length (digits 10 k)) (counted (value_from 0 ds) h.0.1) in
    omega (arith, counter-length (suc (value_from 0 ds - 1)) (marks_bytes (marks_of (suc c) xs)), digit-bytes-length ds (dollar_byte ∷ spell_all xs))
never-longer (constant_of s ds ∷ xs) c h =
    let i = never-longer xs c h.1 in
    let f = value-shorter s (value_from 0 ds) (length ds) (value-few ds h.0.0 h.0.1) h.0.1 in
    omega (arith, constant-length (signed s (value_from 0 ds)) (marks_bytes (marks_of c xs)), signed-length s ds (tick_byte ∷ spell_all xs))
never-longer (print-of b ∷ xs) c h =
    let i = never-longer xs c h.1 in
    omega (arith, enclosed (tick_byte ∷ tick_byte ∷ []) b (marks_bytes (marks_of c xs)) tick_byte, length-append b (tick_byte ∷ spell_all xs))

-- ── a copy of itself ────────────────────────────────────────────────────────────────────────────

-- Two lists with ends of one length have one end.
ends-alike : (a b r s : List ℕ) → a ++ r ≡ b ++ s → length r ≡ length s → r ≡ s
ends-alike [] [] r s e h = e
ends-alike [] (y ∷ b) r s e h = let n = ap length e in absurd (omega (arith, length-append b s))
ends-alike (x ∷ a) [] r s e h = let n = ap length e in absurd (omega (arith, length-append a r))
ends-alike (x ∷ a) (y ∷ b) r s e h = ends-alike a b r s (ap (drop 1) e) h

-- Digits that are no more than their value has do not begin with 0.
plain : (ds : List ℕ) → Digits ds → length ds ≤ length (digits 10 (value_from 0 ds)) → Plain ds
plain [] h l = tt
plain (d ∷ []) h l = tt
plain (zero ∷ e ∷ ds) h l = let f = value-few (e ∷ ds) h.1 (omega arith) in absurd (omega arith)
plain (suc d ∷ e ∷ ds) h l = omega arith

-- A value with its sign takes as many bytes as its digits do with theirs: the digits are no more than the value has, and it is no minus zero.
signed-plain : (s : Bool) (n k : ℕ) (ds : List ℕ) → value_from 0 ds ≡ n → length ds ≡ k → 1 ≤ k → length (digits 10 n) ≤ k
    → length (minus_sign s []) + k ≤ length (decimal (signed s n)) → (k ≤ length (digits 10 n)) × Signed s ds
unfolding decimal
signed-plain true zero k ds v e l f h = absurd (omega arith)
signed-plain true (suc n) k ds v e l f h = (omega arith, omega arith)
signed-plain false n k ds v e l f h = (omega arith, tt)

pub fair : (xs : List Lexeme) (c : ℕ) → AllFormed xs → spell_all xs ≡ marks_bytes (marks_of c xs) → AllFair xs
fair [] c h e = tt
fair (blank ∷ xs) c h e = let n = ap length e in absurd (omega (arith, never-longer xs c h.1))
fair (newline ∷ xs) c h e = let n = ap length e in absurd (omega (arith, never-longer xs c h.1))
fair (comment b ∷ xs) c h e = let n = ap length e in absurd (omega (arith, never-longer xs c h.1, length-append b (quote_byte ∷ spell_all xs)))
fair (comma ∷ xs) c h e = let n = ap (λ (l : List ℕ). get_or l 0 0) e in absurd (omega arith)
fair (point ∷ xs) c h e = let n = ap (λ (l : List ℕ). get_or l 0 0) e in absurd (omega arith)
fair (left ∷ xs) c h e = (tt, fair xs c h.1 (ap (drop 1) e))
fair (right ∷ xs) c h e = (tt, fair xs c h.1 (ap (drop 1) e))
fair (semicolon ∷ xs) c h e = (tt, fair xs c h.1 (ap (drop 1) e))
fair (colon-sign ∷ xs) c h e = (tt, fair xs c h.1 (ap (drop 1) e))
fair (operator-of o ∷ xs) c h e = (tt, fair xs c h.1 (ap (drop 1) e))
fair (variable-of a d ∷ xs) c h e = (tt, fair xs c h.1 (ap (drop 2) e))
fair (condition-of t ∷ xs) c h e = (tt, fair xs c h.1 (ap (drop 1) e))
fair (call-of a ∷ xs) c h e = (tt, fair xs c h.1 (ap (drop 1) e))
fair (counter-of ds ∷ xs) c h e =
    let m = marks_bytes (marks_of (suc c) xs) in
    let v = suc (value_from 0 ds - 1) in
    let n = ap length e in
    let i = never-longer xs (suc c) h.1 in
    let f = value-few ds h.0.0.0 h.0.0.1 in
    let q = ap (λ (k : ℕ). length (digits 10 k)) (counted (value_from 0 ds) h.0.1) in
    let x = counter-length v m in
    let y = digit-bytes-length ds (dollar_byte ∷ spell_all xs) in
    let t = ap (λ (l : List ℕ). dollar_byte ∷ l) (sym (digit-bytes ds (dollar_byte ∷ []) (spell_all xs))) ∙ e in
    (plain ds h.0.0.0 (omega arith), fair xs (suc c) h.1 (ends-alike (dollar_byte ∷ digit_bytes ds (dollar_byte ∷ [])) (counter_bytes v) (spell_all xs) m t (omega arith)))
fair (constant_of s ds ∷ xs) c h e =
    let m = marks_bytes (marks_of c xs) in
    let v = value_from 0 ds in
    let n = ap length e in
    let i = never-longer xs c h.1 in
    let f = value-few ds h.0.0 h.0.1 in
    let g = value-shorter s v (length ds) f h.0.1 in
    let x = constant-length (signed s v) m in
    let y = signed-length s ds (tick_byte ∷ spell_all xs) in
    let p = signed-plain s v (length ds) ds refl refl h.0.1 f (omega arith) in
    let t = ap (λ (l : List ℕ). tick_byte ∷ slash_byte ∷ l) (sym (sign-bytes s ds (tick_byte ∷ []) (spell_all xs))) ∙ e in (
      (plain ds h.0.0 p.0, p.1),
      fair xs c h.1 (ends-alike (tick_byte ∷ slash_byte ∷ minus_sign s (digit_bytes ds (tick_byte ∷ []))) (constant_bytes (signed s v)) (spell_all xs) m t (omega arith)),
    )
fair (print-of b ∷ xs) c h e =
    let m = marks_bytes (marks_of c xs) in
    let n = ap length e in
    let x = enclosed (tick_byte ∷ tick_byte ∷ []) b m tick_byte in
    let y = length-append b (tick_byte ∷ spell_all xs) in
    let t = ap (λ (l : List ℕ). tick_byte ∷ tick_byte ∷ l) (append_assoc b (tick_byte ∷ []) (spell_all xs)) ∙ e in
    (tt, fair xs c h.1 (ends-alike (print_bytes b) (print_bytes b) (spell_all xs) m t (omega arith)))
