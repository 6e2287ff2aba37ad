-- Worked examples of desk lines: what each asks for, or the number 14. Every figure is written out here and none is taken from a definition.
use Rattle.std.specs.Prelude.{◌≡◌, ℕ, List, [], ◌∷◌, ◌++◌, map, pos, replicate}
use Prim.Native.String.{String}
use Rattle.language.specs.Trials.{bytes, times, neg}
use Rattle.lines.specs.Lines.{bad_line, Request, define, withdraw, run, bad, request}

-- the request of a line, or the number that it is refused with
pub data Answer : Type 0 where
  asks : Request → Answer
  refused_as : ℕ → Answer

-- "bad line: a desk line breaks its form"
abbrev pub answer_of : Request → Answer
answer_of (define l t) = asks (define l t)
answer_of (withdraw l) = asks (withdraw l)
answer_of (run l a x) = asks (run l a x)
answer_of bad = refused_as bad_line

-- a line with its answer
pub record Example : Type 0 where
  pub line : List ℕ
  pub answer : Answer

-- what a line is answered
abbrev pub given : Example → Answer
given x = answer_of (request x.line)

-- what it should be answered
abbrev pub due : Example → Answer
due x = x.answer

-- every line is answered as it should be
abbrev pub Hold : List Example → Type 0
Hold xs = map given xs ≡ map due xs

-- a line that asks for a request
abbrev good : List ℕ → Request → Example
good s r = record { line = s; answer = asks r }

-- each of these lines is refused as 14
abbrev broken : List String → List Example
broken ts = map (λ t. record { line = bytes t; answer = refused_as 14 }) ts

-- so is one line
abbrev broken_line : List ℕ → Example
broken_line s = record { line = s; answer = refused_as 14 }

-- the form of each kind of line and its limits, on both sides
abbrev pub forms : List Example
forms =
    -- "`D` letter text": "the letter one byte, the text the rest of its line"; 113 is `q`
    good (bytes "D q ('/5'N)") (define 113 (bytes "('/5'N)"))
    ∷ good (bytes "D q  x ") (define 113 (bytes " x "))
    ∷ good (bytes "D 1 x") (define 49 (bytes "x"))
    -- "`D q` with no blank after the letter, while `D q` and one blank carries the empty text"
    ∷ good (bytes "D q ") (define 113 [])
    ∷ broken ("D q" ∷ "D qx" ∷ "D q(;)" ∷ "D  q (;)" ∷ "D" ∷ "D " ∷ "Dq (;)" ∷ "Dxq (;)" ∷ [])
    -- "`X` letter"
    ++ good (bytes "X q") (withdraw 113)
    ∷ broken ("X q " ∷ "X qq" ∷ "X" ∷ "X " ∷ "Xqq" ∷ [])
    -- "`R` letter allowance inputs", "one blank between fields", "inputs perhaps with `-`"
    ++ good (bytes "R q 9") (run 113 9 [])
    ∷ good (bytes "R q 0 5 -7 0") (run 113 0 (pos 5 ∷ neg 7 ∷ pos 0 ∷ []))
    ∷ broken ("R q" ∷ "R q " ∷ "R q  9" ∷ "R q 9 " ∷ "R q 9  5" ∷ "R q -9" ∷ "R q x" ∷ "R q 9x" ∷ "R q 9 x" ∷ "R q 9 5x" ∷ "Rqq 9" ∷ "R qx9" ∷ [])
    ++ broken ("R q 9 -" ∷ "R q 9 --5" ∷ "R q 9 +5" ∷ "R q 9 5-" ∷ "R q 9,5" ∷ "R q /" ∷ "R q :" ∷ [])
    -- "whole numbers of 1 to 9 digits"
    ++ good (bytes "R q 123456789 987654321 -999999999 000000001") (run 113 123456789 (pos 987654321 ∷ neg 999999999 ∷ pos 1 ∷ []))
    ∷ broken ("R q 1234567890" ∷ "R q 9 1234567890" ∷ "R q 9 -1234567890" ∷ "R q 0000000009" ∷ [])
    -- inputs "at most 64"
    ++ good (bytes "R q 9" ++ times 64 (bytes " 5")) (run 113 9 (replicate 64 (pos 5)))
    ∷ broken_line (bytes "R q 9" ++ times 65 (bytes " 5"))
    -- "lines to 300 bytes before the newline"
    ∷ good (bytes "D q " ++ times 296 (bytes "x")) (define 113 (times 296 (bytes "x")))
    ∷ broken_line (bytes "D q " ++ times 297 (bytes "x"))
    -- any other line
    ∷ broken ("" ∷ "q" ∷ "C q x" ∷ "E q x" ∷ "d q x" ∷ "Q q 9" ∷ "S q 9" ∷ "W q" ∷ "Y q" ∷ "r q 9" ∷ " D q x" ∷ [])
