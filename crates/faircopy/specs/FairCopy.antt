-- Document 02, U1: the fair copy of a text, and what a call leaves on the lent paper.
use Rattle.std.specs.Prelude.{Result, Ok, Err, ℕ, suc, ◌%◌, List, [], ◌∷◌, ◌++◌, ℤ, pos}
use Rattle.language.specs.Limits.{max_variables}
use Rattle.std.proofs.Math.Option.{Option, none, some}
use Rattle.language.specs.Answers.{fault_number}
use Rattle.language.specs.Bytes.{dollar_byte, tick_byte, open_byte, close_byte, slash_byte, digit_byte, colon_byte, semicolon_byte}
use Rattle.language.specs.Letters.{letter_byte}
use Rattle.language.specs.Decimals.{decimal}
use Rattle.language.specs.Syntax.{operator_byte, access_byte, condition_byte, Operation, operator, variable, constant, print, Predicate, condition, counter, Expr}
use Rattle.language.specs.Grammar.{Mark, mOpen, mClose, mSemi, mColon, mOperation, mPredicate, mCall, marks}
use Rattle.language.specs.Reading.{Reading, refused, accepted}
use Rattle.numerals.specs.Numerals.{Delivery, delivers, delivered}
use Rattle.faircopy.specs.declared.CopyError.{CopyError}
use Rattle.faircopy.specs.declared.CopyError.TheVariants.{BadText, ShortPaper}

-- ── the copy ────────────────────────────────────────────────────────────────────────────────────

-- the digit of a variable: "0 as 10"
abbrev pub variable_digit : ℕ → ℕ
variable_digit k = k % max_variables

-- "every constant and counter without leading zeros, minus zero becoming 0": the number in decimals
abbrev pub counter_bytes : ℕ → List ℕ
counter_bytes n = dollar_byte ∷ decimal (pos n) ++ dollar_byte ∷ []

-- a constant
abbrev pub constant_bytes : ℤ → List ℕ
constant_bytes v = tick_byte ∷ slash_byte ∷ decimal v ++ tick_byte ∷ []

-- a print, its bytes as they are
abbrev pub print_bytes : List ℕ → List ℕ
print_bytes b = tick_byte ∷ tick_byte ∷ b ++ tick_byte ∷ []

-- an operation
abbrev pub operation_bytes : Operation → List ℕ
operation_bytes (operator o) = operator_byte o ∷ []
operation_bytes (variable a k) = access_byte a ∷ digit_byte (variable_digit k) ∷ []
operation_bytes (constant v) = constant_bytes v
operation_bytes (print b) = print_bytes b

-- a predicate; `counter m k` is the counter of number m + 1
abbrev pub predicate_bytes : Predicate → List ℕ
predicate_bytes (condition c) = condition_byte c ∷ []
predicate_bytes (counter m k) = counter_bytes (suc m)

-- "`;` for `,` and `:` for `.`"
abbrev pub mark_bytes : Mark → List ℕ
mark_bytes mOpen = open_byte ∷ []
mark_bytes mClose = close_byte ∷ []
mark_bytes mSemi = semicolon_byte ∷ []
mark_bytes mColon = colon_byte ∷ []
mark_bytes (mOperation o) = operation_bytes o
mark_bytes (mPredicate p) = predicate_bytes p
mark_bytes (mCall a) = letter_byte a ∷ []

-- marks one after the other: "no comments, no blanks or newlines outside prints"
abbrev pub marks_bytes : List Mark → List ℕ
marks_bytes [] = []
marks_bytes (m ∷ ms) = mark_bytes m ++ marks_bytes ms

-- "a fair copy, the same marks in the same order"
abbrev pub fair_copy : Expr → List ℕ
fair_copy w = marks_bytes (mOpen ∷ marks w [])

-- a text's fair copy, if it is accepted
abbrev pub copy_of : Reading → Option (List ℕ)
copy_of (refused r) = none
copy_of (accepted w) = some (fair_copy w)

-- ── the call ────────────────────────────────────────────────────────────────────────────────────

-- "30 short paper, the copy does not fit"
abbrev pub short_paper : ℕ
short_paper = 30

-- the number of a text or a paper without a copy
abbrev pub error_number : CopyError → ℕ
error_number (BadText f) = fault_number f
error_number ShortPaper = short_paper

-- the number of what comes of a copy, 0 where there is one
abbrev pub copy_number : Result ℕ CopyError → ℕ
copy_number (Ok n) = 0
copy_number (Err e) = error_number e

-- "The call returns the copy's length"
abbrev pub length_of : Result ℕ CopyError → ℕ
length_of (Ok n) = n
length_of (Err e) = 0

-- What a call leaves: its number, the copy's length, and the paper p. "Linker refusals apply first." "bytes past it, and the whole buffer on refusal, keep
-- their content"
abbrev pub copied : List ℕ → Reading → Delivery
copied p (refused r) = delivers (fault_number r) 0 p
copied p (accepted w) = delivered short_paper p (fair_copy w)
