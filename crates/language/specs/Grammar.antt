-- The written grammar as a relation: which bytes spell which expression, and the limits. No order of reading and no fault is in it.
use Rattle.std.specs.Prelude.{◌≡◌, ℕ, suc, ◌+◌, ◌*◌, ◌-◌, ◌≤◌, ◌<◌, max, Bool, true, false, List, [], ◌∷◌, ◌++◌, length}
use Rattle.language.specs.Limits.{max_text, max_levels, max_cells, max_counters, max_letters}
use Rattle.language.specs.Bytes.{blank_byte, newline_byte, quote_byte, dollar_byte, tick_byte, open_byte, close_byte, comma_byte, minus_byte, point_byte}
use Rattle.language.specs.Bytes.{slash_byte, digit_byte, colon_byte, semicolon_byte}
use Rattle.language.specs.Letters.{letter_byte}
use Rattle.language.specs.Syntax.{Operator, operator_byte, Access, access_byte, Condition, condition_byte, Operation, operator, variable, constant, print}
use Rattle.language.specs.Syntax.{Predicate, condition, counter, Expr, close, semi, colon, operate, test, call, inner}
use Rattle.language.specs.Tokens.{comment_byte, print_byte, Form, counter_form, constant_form, most_digits, signed, digit_cell}
use Rattle.language.specs.Layout.{used_cells}

-- ── lexemes: marks and what is skipped between them, as they are written ────────────────────────

-- A comment and a print have their bytes, a variable its digit, a number its digits, a call its letter.
pub data Lexeme : Type 0 where
  blank newline comma semicolon colon-sign point left right : Lexeme
  comment print-of : List ℕ → Lexeme
  operator-of : Operator → Lexeme
  variable-of : Access → ℕ → Lexeme
  condition-of : Condition → Lexeme
  call-of : ℕ → Lexeme
  counter-of : List ℕ → Lexeme
  constant_of : Bool → List ℕ → Lexeme

-- digits as bytes, and then r
abbrev pub digit_bytes : List ℕ → List ℕ → List ℕ
digit_bytes [] r = r
digit_bytes (d ∷ l) r = digit_byte d ∷ digit_bytes l r

-- a `-`, if there is one, and then r
abbrev pub minus_sign : Bool → List ℕ → List ℕ
minus_sign true r = minus_byte ∷ r
minus_sign false r = r

-- a lexeme's bytes, and then r
abbrev pub spell : Lexeme → List ℕ → List ℕ
spell blank r = blank_byte ∷ r
spell newline r = newline_byte ∷ r
spell (comment c) r = quote_byte ∷ c ++ quote_byte ∷ r
spell left r = open_byte ∷ r
spell right r = close_byte ∷ r
spell semicolon r = semicolon_byte ∷ r
spell comma r = comma_byte ∷ r
spell colon-sign r = colon_byte ∷ r
spell point r = point_byte ∷ r
spell (operator-of o) r = operator_byte o ∷ r
spell (variable-of a d) r = access_byte a ∷ digit_byte d ∷ r
spell (condition-of c) r = condition_byte c ∷ r
spell (call-of a) r = letter_byte a ∷ r
spell (counter-of ds) r = dollar_byte ∷ digit_bytes ds (dollar_byte ∷ r)
spell (constant_of s ds) r = tick_byte ∷ slash_byte ∷ minus_sign s (digit_bytes ds (tick_byte ∷ r))
spell (print-of b) r = tick_byte ∷ tick_byte ∷ b ++ tick_byte ∷ r

-- the bytes of a list of lexemes
abbrev pub spell_all : List Lexeme → List ℕ
spell_all [] = []
spell_all (x ∷ xs) = spell x (spell_all xs)

-- ── well-formed lexemes ─────────────────────────────────────────────────────────────────────────

-- every byte of a list passes a test
abbrev pub AllBytes : (ℕ → Bool) → List ℕ → Type 0
AllBytes p [] = Unit {0}
AllBytes p (b ∷ l) = (p b ≡ true) × AllBytes p l

-- every byte of a list is a digit
abbrev pub Digits : List ℕ → Type 0
Digits [] = Unit {0}
Digits (d ∷ l) = (d < 10) × Digits l

-- the value of digits that follow the value v
abbrev pub value_from : ℕ → List ℕ → ℕ
value_from v [] = v
value_from v (d ∷ l) = value_from (10 * v + d) l

-- "1 to 4 digits", "1 to 9 digits"
abbrev pub Number : Form → List ℕ → Type 0
Number f ds = Digits ds × (1 ≤ length ds) × (length ds ≤ most_digits f)

-- the bytes and numbers of a lexeme keep its form
abbrev pub Formed : Lexeme → Type 0
Formed blank = Unit {0}
Formed newline = Unit {0}
Formed (comment c) = AllBytes comment_byte c
Formed left = Unit {0}
Formed right = Unit {0}
Formed semicolon = Unit {0}
Formed comma = Unit {0}
Formed colon-sign = Unit {0}
Formed point = Unit {0}
Formed (operator-of o) = Unit {0}
Formed (variable-of a d) = d < 10
Formed (condition-of c) = Unit {0}
Formed (call-of a) = a < max_letters
Formed (counter-of ds) = Number counter_form ds × (1 ≤ value_from 0 ds)
Formed (constant_of s ds) = Number (constant_form s) ds
Formed (print-of b) = AllBytes print_byte b

-- so do those of all lexemes
abbrev pub AllFormed : List Lexeme → Type 0
AllFormed [] = Unit {0}
AllFormed (x ∷ xs) = Formed x × AllFormed xs

-- ── marks ───────────────────────────────────────────────────────────────────────────────────────

-- a mark of a text, once what is skipped is gone
pub data Mark : Type 0 where
  mOpen mClose mSemi mColon : Mark
  mOperation : Operation → Mark
  mPredicate : Predicate → Mark
  mCall : ℕ → Mark

-- the marks of lexemes, counters in "its order in the text from 0"
abbrev pub marks_of : ℕ → List Lexeme → List Mark
marks_of c [] = []
marks_of c (blank ∷ xs) = marks_of c xs
marks_of c (newline ∷ xs) = marks_of c xs
marks_of c (comment b ∷ xs) = marks_of c xs
marks_of c (left ∷ xs) = mOpen ∷ marks_of c xs
marks_of c (right ∷ xs) = mClose ∷ marks_of c xs
marks_of c (semicolon ∷ xs) = mSemi ∷ marks_of c xs
marks_of c (comma ∷ xs) = mSemi ∷ marks_of c xs
marks_of c (colon-sign ∷ xs) = mColon ∷ marks_of c xs
marks_of c (point ∷ xs) = mColon ∷ marks_of c xs
marks_of c (operator-of o ∷ xs) = mOperation (operator o) ∷ marks_of c xs
marks_of c (variable-of a d ∷ xs) = mOperation (variable a (digit_cell d)) ∷ marks_of c xs
marks_of c (condition-of t ∷ xs) = mPredicate (condition t) ∷ marks_of c xs
marks_of c (call-of a ∷ xs) = mCall a ∷ marks_of c xs
marks_of c (counter-of ds ∷ xs) = mPredicate (counter (value_from 0 ds - 1) c) ∷ marks_of (suc c) xs
marks_of c (constant_of s ds ∷ xs) = mOperation (constant (signed s (value_from 0 ds))) ∷ marks_of c xs
marks_of c (print-of b ∷ xs) = mOperation (print b) ∷ marks_of c xs

-- the marks of an expression's rest, and then r
abbrev pub marks : Expr → List Mark → List Mark
marks close r = mClose ∷ r
marks (semi e) r = mSemi ∷ marks e r
marks (colon e) r = mColon ∷ marks e r
marks (operate o e) r = mOperation o ∷ marks e r
marks (test p e) r = mPredicate p ∷ marks e r
marks (call a e) r = mCall a ∷ marks e r
marks (inner f e) r = mOpen ∷ marks f (marks e r)

-- "A text is one outermost expression, with only blanks, newlines and comments around it."
pub record Spells (t : List ℕ) (w : Expr) : Type 0 where
  pub lexemes : List Lexeme
  pub formed : AllFormed lexemes
  pub bytes : t ≡ spell_all lexemes
  pub order : marks_of 0 lexemes ≡ mOpen ∷ marks w []

-- ── limits ──────────────────────────────────────────────────────────────────────────────────────

-- how deep an expression nests, itself counted
abbrev pub depth : Expr → ℕ
depth close = 1
depth (semi e) = depth e
depth (colon e) = depth e
depth (operate o e) = depth e
depth (test p e) = depth e
depth (call a e) = depth e
depth (inner f e) = max (suc (depth f)) (depth e)

-- 1 for a counter, 0 for another predicate
abbrev pub is_counting : Predicate → ℕ
is_counting (condition c) = 0
is_counting (counter m k) = 1

-- how many counters an expression has
abbrev pub counters : Expr → ℕ
counters close = 0
counters (semi e) = counters e
counters (colon e) = counters e
counters (operate o e) = counters e
counters (test p e) = is_counting p + counters e
counters (call a e) = counters e
counters (inner f e) = counters f + counters e

-- a text and its expression keep the limits
pub record Within (t : List ℕ) (w : Expr) : Type 0 where
  pub text : length t ≤ max_text
  pub levels : depth w ≤ max_levels
  pub counted : counters w ≤ max_counters
  pub cells : used_cells w ≤ max_cells
