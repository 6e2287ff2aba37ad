-- What the first pass makes of a token.
use Rattle.std.specs.Prelude.{Result, Err, List, [], ◌∷◌, ℕ, ◌+◌, ◌≤◌, pos, length, take, drop}
use Rattle.language.specs.Limits.{max_text, max_limit}
use Rattle.language.specs.Syntax.{constant_code}
use Rattle.language.specs.Layout.{opcode}
use Rattle.language.specs.declared.Fault.{Fault}
use Rattle.language.specs.declared.Fault.TheVariants.{Unfinished}
use Rattle.lexer.specs.declared.Token as Lexer
use Rattle.lexer.specs.declared.Token.TheVariants as T
use Rattle.emitter.specs.declared.pass.Draft.{Draft}
use Rattle.emitter.specs.Drafts.{known, semi_at, pass_fit, opened, pass_closed, pass_coloned, operand_cells, test_cells, pass_counted, print_cells, Inside}

-- a token of the text s
unfoldable pub taken : List ℕ → Lexer.Token → Draft → Result Draft Fault
taken s T.End d = Err Unfinished
taken s T.Open d = opened d
taken s T.Close d = pass_closed d
taken s T.Semicolon d = pass_fit d (semi_at d.level ∷ [])
taken s T.Colon d = pass_coloned d
taken s (T.Operator b) d = pass_fit d (known (opcode b) ∷ [])
taken s (T.Variable b k) d = pass_fit d (operand_cells b (pos k))
taken s (T.Condition b) d = pass_fit d (test_cells b d.level)
taken s (T.Call b) d = pass_fit d (test_cells b d.level)
taken s (T.Counter n) d = pass_counted d n
taken s (T.Constant v) d = pass_fit d (operand_cells constant_code v)
taken s (T.Print a n) d = pass_fit d (print_cells (take n (drop a s)))

-- the numbers of a token of the text s
abbrev pub Fine : List ℕ → Lexer.Token → Type 0
Fine s T.End = Unit {0}
Fine s T.Open = Unit {0}
Fine s T.Close = Unit {0}
Fine s T.Semicolon = Unit {0}
Fine s T.Colon = Unit {0}
Fine s (T.Operator b) = Unit {0}
Fine s (T.Variable b k) = Unit {0}
Fine s (T.Condition b) = Unit {0}
Fine s (T.Call b) = Unit {0}
Fine s (T.Counter n) = n ≤ max_limit
Fine s (T.Constant v) = Unit {0}
Fine s (T.Print a n) = a + n ≤ length s

-- a token of the text s that the pass can take
pub record Takeable (s : List ℕ) (t : Lexer.Token) (d : Draft) : Type 0 where
  pub within : Inside d
  pub short : length s ≤ max_text
  pub fine : Fine s t
