-- Marks between tokens and expressions, and the numbers in them.
use mathlib.Core.Path.{◌≡◌, refl, sym, ap, ◌∙◌, subst}
use Prim.Native.Nat.{ℕ, zero, suc, ◌+◌, ◌*◌, ◌^◌, ◌≤◌, ◌<◌}
use native.Mathlib.Omega.{arith}
use native.Mathlib.Nat.{pow-le-pow_right}
use mathlib.Core.Bool.{Bool, true, false}
use mathlib.Core.List.{List, [], ◌∷◌}
use lib.ListN.{length}
use borrow.Author.Tests.{le-leb}
use Rattle.language.specs.Limits.{max_counters, max_value, max_letters, max_variables}
use Rattle.language.specs.Syntax.{condition, counter, Expr, close, semi, colon, operate, test, call, inner}
use Rattle.language.specs.Tokens.{Token, opens, closes, semis, colons, begins, ends, does, asks, counts, calls, faults, signed, digit_cell}
use Rattle.language.specs.Values.{is_value}
use Rattle.language.specs.Grammar.{Lexeme, blank, newline, comma, semicolon, colon-sign, point, left, right, comment, print-of, operator-of, variable-of, condition-of, call-of, counter-of, constant_of}
use Rattle.language.specs.Grammar.{Digits, value_from, AllFormed, marks_of, Mark, mOpen, mClose, mSemi, mColon, mOperation, mPredicate, mCall, marks, Spells, counters}
use Rattle.language.proofs.GrammarFormed.{FormedOperation, FormedExpr}

-- ── tokens ──────────────────────────────────────────────────────────────────────────────────────

-- a mark's tokens, and then r
abbrev pub announce : Mark → List Token → List Token
announce mOpen r = opens ∷ r
announce mClose r = closes ∷ r
announce mSemi r = semis ∷ r
announce mColon r = colons ∷ r
announce (mOperation o) r = begins ∷ does o ∷ r
announce (mPredicate (condition t)) r = begins ∷ asks t ∷ r
announce (mPredicate (counter m k)) r = begins ∷ counts m ∷ r
announce (mCall a) r = begins ∷ calls a ∷ r

-- the tokens of marks, to the end of the text
abbrev pub tokens_of : List Mark → List Token
tokens_of [] = ends ∷ []
tokens_of (m ∷ ms) = announce m (tokens_of ms)

-- the marks that tokens stand for, counters in their order from c
abbrev pub marks_in : ℕ → List Token → List Mark
marks_in c [] = []
marks_in c (opens ∷ l) = mOpen ∷ marks_in c l
marks_in c (closes ∷ l) = mClose ∷ marks_in c l
marks_in c (semis ∷ l) = mSemi ∷ marks_in c l
marks_in c (colons ∷ l) = mColon ∷ marks_in c l
marks_in c (begins ∷ l) = marks_in c l
marks_in c (ends ∷ l) = []
marks_in c (does o ∷ l) = mOperation o ∷ marks_in c l
marks_in c (asks t ∷ l) = mPredicate (condition t) ∷ marks_in c l
marks_in c (counts m ∷ l) = mPredicate (counter m c) ∷ marks_in (suc c) l
marks_in c (calls a ∷ l) = mCall a ∷ marks_in c l
marks_in c (faults r ∷ l) = []

-- ── formed marks ────────────────────────────────────────────────────────────────────────────────

-- The numbers in marks are what the grammar allows, and their counters are in order from c.
abbrev pub FormedMarks : ℕ → List Mark → Type 0
FormedMarks c [] = Unit {0}
FormedMarks c (mOpen ∷ ms) = FormedMarks c ms
FormedMarks c (mClose ∷ ms) = FormedMarks c ms
FormedMarks c (mSemi ∷ ms) = FormedMarks c ms
FormedMarks c (mColon ∷ ms) = FormedMarks c ms
FormedMarks c (mOperation o ∷ ms) = FormedOperation o × FormedMarks c ms
FormedMarks c (mPredicate (condition t) ∷ ms) = FormedMarks c ms
FormedMarks c (mPredicate (counter m k) ∷ ms) = (m < 9999) × (k ≡ c) × FormedMarks (suc c) ms
FormedMarks c (mCall a ∷ ms) = (a < max_letters) × FormedMarks c ms

pub tokens-marks : (ms : List Mark) (c : ℕ) → FormedMarks c ms → marks_in c (tokens_of ms) ≡ ms
tokens-marks [] c h = refl
tokens-marks (mOpen ∷ ms) c h = ap (λ l. mOpen ∷ l) (tokens-marks ms c h)
tokens-marks (mClose ∷ ms) c h = ap (λ l. mClose ∷ l) (tokens-marks ms c h)
tokens-marks (mSemi ∷ ms) c h = ap (λ l. mSemi ∷ l) (tokens-marks ms c h)
tokens-marks (mColon ∷ ms) c h = ap (λ l. mColon ∷ l) (tokens-marks ms c h)
tokens-marks (mOperation o ∷ ms) c h = ap (λ l. mOperation o ∷ l) (tokens-marks ms c h.1)
tokens-marks (mPredicate (condition t) ∷ ms) c h = ap (λ l. mPredicate (condition t) ∷ l) (tokens-marks ms c h)
tokens-marks (mPredicate (counter m k) ∷ ms) c h =
    ap (λ l. mPredicate (counter m c) ∷ l) (tokens-marks ms (suc c) h.2) ∙ ap (λ n. mPredicate (counter m n) ∷ ms) (sym h.1)
tokens-marks (mCall a ∷ ms) c h = ap (λ l. mCall a ∷ l) (tokens-marks ms c h.1)

-- n is the count of counters after e
pub expr-formed : (e : Expr) (r : List Mark) (c n : ℕ) → n ≡ c + counters e → n ≤ max_counters → FormedMarks c (marks e r)
    → FormedExpr e × FormedMarks n r
expr-formed close r c n p hn h = let q : c ≡ n = omega arith in (tt, subst (λ m. FormedMarks m r) q h)
expr-formed (semi e) r c n p hn h = expr-formed e r c n p hn h
expr-formed (colon e) r c n p hn h = expr-formed e r c n p hn h
expr-formed (operate o e) r c n p hn h = let (he, hr) = expr-formed e r c n p hn h.1 in ((h.0, he), hr)
expr-formed (test (condition t) e) r c n p hn h = let (he, hr) = expr-formed e r c n (omega arith) hn h in ((tt, he), hr)
expr-formed (test (counter m k) e) r c n p hn h =
    let (he, hr) = expr-formed e r (suc c) n (omega arith) hn h.2 in
    (((h.0, omega arith), he), hr)
expr-formed (call a e) r c n p hn h = let (he, hr) = expr-formed e r c n p hn h.1 in ((h.0, he), hr)
expr-formed (inner f e) r c n p hn h =
    let (hf, hm) = expr-formed f (marks e r) c (c + counters f) refl (omega arith) h in
    let (he, hr) = expr-formed e r (c + counters f) n (omega arith) hn hm in
    ((hf, he), hr)

-- ── formed lexemes ──────────────────────────────────────────────────────────────────────────────

pub value-bound : (ds : List ℕ) (v n m : ℕ) → Digits ds → v < 10 ^ n → n + length ds ≤ m → value_from v ds < 10 ^ m
value-bound [] v n m h lt le =
    let p : 10 ^ n ≤ 10 ^ m = pow-le-pow_right (omega arith) (omega arith) in
    omega arith
value-bound (d ∷ ds) v n m h lt le = value-bound ds (10 * v + d) (suc n) m h.1 (omega arith) (omega arith)

signed-value : (s : Bool) (v : ℕ) → v ≤ max_value → is_value (signed s v) ≡ true
unfolding is_value
signed-value true zero h = refl
signed-value true (suc v) h = le-leb (suc v) max_value h
signed-value false v h = le-leb v max_value h

digit-cell : (d : ℕ) → d < 10 → (1 ≤ digit_cell d) × (digit_cell d ≤ max_variables)
digit-cell zero h = omega arith
digit-cell (suc d) h = omega arith

pub lexemes-formed : (xs : List Lexeme) (c : ℕ) → AllFormed xs → FormedMarks c (marks_of c xs)
lexemes-formed [] c h = tt
lexemes-formed (blank ∷ xs) c h = lexemes-formed xs c h.1
lexemes-formed (newline ∷ xs) c h = lexemes-formed xs c h.1
lexemes-formed (comment b ∷ xs) c h = lexemes-formed xs c h.1
lexemes-formed (left ∷ xs) c h = lexemes-formed xs c h.1
lexemes-formed (right ∷ xs) c h = lexemes-formed xs c h.1
lexemes-formed (semicolon ∷ xs) c h = lexemes-formed xs c h.1
lexemes-formed (comma ∷ xs) c h = lexemes-formed xs c h.1
lexemes-formed (colon-sign ∷ xs) c h = lexemes-formed xs c h.1
lexemes-formed (point ∷ xs) c h = lexemes-formed xs c h.1
lexemes-formed (operator-of o ∷ xs) c h = (tt, lexemes-formed xs c h.1)
lexemes-formed (variable-of a d ∷ xs) c h = (digit-cell d h.0, lexemes-formed xs c h.1)
lexemes-formed (condition-of t ∷ xs) c h = lexemes-formed xs c h.1
lexemes-formed (call-of a ∷ xs) c h = (h.0, lexemes-formed xs c h.1)
lexemes-formed (counter-of ds ∷ xs) c h =
    let lt = value-bound ds 0 0 4 h.0.0.0 (omega arith) (omega arith) in
    (omega arith, refl, lexemes-formed xs (suc c) h.1)
lexemes-formed (constant_of s ds ∷ xs) c h =
    let lt = value-bound ds 0 0 9 h.0.0 (omega arith) (omega arith) in
    (signed-value s (value_from 0 ds) (omega arith), lexemes-formed xs c h.1)
lexemes-formed (print-of b ∷ xs) c h = (h.0, lexemes-formed xs c h.1)

pub spelled-marks : (t : List ℕ) (w : Expr) → Spells t w → FormedMarks 0 (marks w [])
spelled-marks t w s = subst (FormedMarks 0) s.order (lexemes-formed s.lexemes 0 s.formed)
