-- What the first pass over a whole expression leaves for the second.
use Rattle.std.specs.Prelude.{◌≡◌, Result, Ok, Err, List, [], ℕ, ◌≤◌, length, drop}
use Rattle.language.specs.Limits.{max_text}
use Rattle.language.specs.declared.Fault.{Fault}
use Rattle.language.specs.Syntax.{Expr}
use Rattle.language.specs.Tokens.{idle, tokens}
use Rattle.language.specs.Layout.{used_cells, code_start, layout}
use Rattle.language.specs.Reading.{Reading, refused, inside, whole, parse}
use Rattle.emitter.specs.declared.pass.Draft.{Draft}
use Rattle.emitter.specs.Drafts.{fresh}
use Rattle.assembler.specs.Exits.{linked, Fillable}

-- What the first pass starts from: a text that is not long, and a draft with nothing but cell 1.
pub record Blank (s : List ℕ) (d : Draft) : Type 0 where
  pub short : length s ≤ max_text
  pub draft-blank : d ≡ fresh

-- The second pass makes the table of w of what the first left.
pub record Ready (w : Expr) (d : Draft) : Type 0 where
  pub all : d.used ≡ used_cells w
  pub fillable : Fillable d
  pub cells_are : (linked d).cells ≡ (layout w).cells

-- the parser inside the outermost expression, from place i of the text s on
abbrev pub parsed_from : List ℕ → ℕ → Reading
parsed_from s i = parse (tokens (drop i s) idle) (inside (λ e. e) [] code_start 0)

-- the outermost expression is whole, and the parser goes on after it at place n of the text s
pub record Ends (s : List ℕ) (from n : ℕ) (d : Draft) : Type 0 where
  pub expr : Expr
  pub goes_on : parsed_from s from ≡ parse (tokens (drop n s) idle) (whole expr)
  pub ready : Ready expr d

-- the text is refused, or its outermost expression ends
abbrev pub Scans : List ℕ → ℕ → Result ℕ Fault → Draft → Type 0
Scans s from (Ok n) d = Ends s from n d
Scans s from (Err why) d = parsed_from s from ≡ refused why
