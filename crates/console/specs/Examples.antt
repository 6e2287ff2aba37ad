-- Worked examples of days: an input and what it prints, from bytes to bytes, by the book. Every figure is written out here.
use Rattle.std.specs.Prelude.{◌≡◌, ℕ, List, [], ◌∷◌, ◌++◌, map}
use Rattle.language.specs.Trials.{bytes, times}
use Rattle.book.specs.Book.{fresh_book, book_call}
use Rattle.console.specs.Day.{day_from, day_of}

-- an input, and what it should print
pub record Example : Type 0 where
  pub input : List ℕ
  pub printed : List ℕ

-- every input prints what it should
abbrev pub Hold : List Example → Type 0
Hold xs = map (λ (x : Example). day_of x.input) xs ≡ map (λ (x : Example). x.printed) xs

-- an input with what it prints
abbrev prints : List ℕ → List ℕ → Example
prints i o = record { input = i; printed = o }

-- line k is answered n, and zeros
abbrev answered : List ℕ → List ℕ → List ℕ
answered k n = bytes "   " ++ k ++ bytes "  " ++ n ++ bytes "  0         0   0          0\n"

-- days. proofs/Examples `days-hold`
abbrev pub days : List Example
days =
    -- document 01's four lines; the last lacks its newline
    prints (bytes "D q ('/5'N)\nR q 9\nX q\nR q 9")
    (bytes "   1   0  0         0   0          0\n" ++ bytes "   2   0  1         2   1          5\n" ++ bytes "   3   0  0         0   0          0\n"
    ++ bytes "   4  10  0         0   0          0\n")
    -- a bad line, a refusal, a run with output and one that stops: "a run's output .., if any, follows with a newline after it"
    ∷ prints (bytes "D q\nD 1 ()\nD q ('/5''/-7'''ab'X;)\nR q 9\nR q 3\n")
    (bytes "   1  14  0         0   0          0\n" ++ bytes "   2   1  0         0   0          0\n" ++ bytes "   3   0  0         0   0          0\n"
    ++ bytes "   4   0  1         5   2         -7\nab\n\n" ++ bytes "   5  20  0         3   2         -7\nab\n")
    -- "the newline, which the last may lack": no line, an empty one, two, a last one of one byte
    ∷ prints [] []
    ∷ prints (bytes "\n") (answered (bytes "1") (bytes "14"))
    ∷ prints (bytes "\n\n") (answered (bytes "1") (bytes "14") ++ answered (bytes "2") (bytes "14"))
    ∷ prints (bytes "X q\nX") (answered (bytes "1") (bytes "10") ++ answered (bytes "2") (bytes "14"))
    -- "lines to 300 bytes before the newline": of 300, and of 301, which is one line all the same
    ∷ prints (bytes "D q (" ++ times 294 (bytes " ") ++ bytes ")\nX q") (answered (bytes "1") (bytes " 2") ++ answered (bytes "2") (bytes "10"))
    ∷ prints (bytes "D q (" ++ times 295 (bytes " ") ++ bytes ")\nX q") (answered (bytes "1") (bytes "14") ++ answered (bytes "2") (bytes "10"))
    ∷ prints (times 301 (bytes "x") ++ bytes "\n" ++ times 302 (bytes "x")) (answered (bytes "1") (bytes "14") ++ answered (bytes "2") (bytes "14"))
    -- variables go from line to line
    ∷ prints (bytes "D v (F1'/1'+S1;)\nR v 9\nR v 9\n")
    (bytes "   1   0  0         0   0          0\n" ++ bytes "   2   0  1         5   1          1\n" ++ bytes "   3   0  1         5   1          2\n")
    ∷ []

-- "Lines past 9,999 are not read.": line 9,999 is, and the next is not. proofs/Examples `last-line-prints`
abbrev pub LastLinePrints : Type 0
LastLinePrints =
    day_from book_call (record { kept = fresh_book; done = 9998; line = bytes "X" }) (bytes " q\nX q\nX q")
    ≡ bytes "9999  10  0         0   0          0\n"
