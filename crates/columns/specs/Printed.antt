-- What a desk line prints.
use Rattle.std.specs.Prelude.{ℕ, ◌+◌, ◌*◌, ◌-◌, Bool, true, false, cond, List, [], ◌∷◌, ◌++◌, ℤ, pos, get_or, eqb}
use Rattle.language.specs.Bytes.{newline_byte}
use Rattle.language.specs.Decimals.{padded}
use Rattle.numerals.specs.Numerals.{max_columns}
use Rattle.columns.specs.declared.LineColumns.{LineColumns}

-- the widths of what a line prints: "line number"
abbrev pub line_width : ℕ
line_width = 4

-- "answer"
abbrev pub answer_width : ℕ
answer_width = 4

-- "truth"
abbrev pub truth_width : ℕ
truth_width = 3

-- "steps"
abbrev pub steps_width : ℕ
steps_width = 10

-- "height"
abbrev pub height_width : ℕ
height_width = 4

-- "top"
abbrev pub top_width : ℕ
top_width = 11

-- truth as it is printed
abbrev pub bit : Bool → ℕ
bit true = 1
bit false = 0

-- "Each line prints line number, answer, truth, steps, height, top (0 if none) right-justified in widths 4, 4, 3, 10, 4, 11"
unfoldable pub columns : LineColumns → List ℕ
unfolding padded
columns f =
    padded line_width (pos f.line) ++ padded answer_width (pos f.answer) ++ padded truth_width (pos (bit f.truth))
    ++ padded steps_width (pos f.steps) ++ padded height_width (pos f.height) ++ padded top_width f.top ++ (newline_byte ∷ [])

-- room for a line's columns: six numbers and a newline
abbrev pub most_bytes : ℕ
most_bytes = 6 * max_columns + 1

-- "zeros for `D` and `X` and for refusals"
abbrev pub plain_columns : ℕ → ℕ → LineColumns
plain_columns line answer = record { line = line; answer = answer; truth = false; steps = 0; height = 0; top = pos 0 }

-- "a run's output (4,096 bytes lent), if any, follows with a newline after it"
unfoldable pub paper : List ℕ → List ℕ
paper [] = []
paper (b ∷ o) = (b ∷ o) ++ (newline_byte ∷ [])

-- "top (0 if none)": the list's place below its height
unfoldable pub top : List ℤ → ℕ → ℤ
top p h = cond (eqb h 0) (pos 0) (get_or p (h - 1) (pos 0))
