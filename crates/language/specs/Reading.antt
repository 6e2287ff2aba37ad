-- The parser: from the tokens of a text to its expression, or to the number of its first fault.
use Rattle.std.specs.Prelude.{ℕ, suc, Bool, true, false, List, [], ◌∷◌, length, leb, ltb}
use Rattle.std.proofs.Math.Option.{Option, none, some}
use Rattle.language.specs.declared.Fault.{Fault}
use Rattle.language.specs.declared.Fault.TheVariants.{LongText, StrayMark, Deep, Unfinished, TableFull, ManyCounters}
use Rattle.language.specs.Limits.{max_text, max_levels, max_cells, max_counters}
use Rattle.language.specs.Syntax.{condition, counter, Expr, close, semi, colon, operate, test, call, inner}
use Rattle.language.specs.Tokens.{Token, opens, closes, semis, colons, begins, ends, does, asks, counts, calls, faults, idle, tokens}
use Rattle.language.specs.Layout.{after_operation, after_predicate, after_call, code_start}

-- what a text is read to: the refusal of its first fault, or its expression
pub data Reading : Type 0 where
  refused : Fault → Reading
  accepted : Expr → Reading

-- Where the parser is: before the outermost `(`; in an expression; after the last `)`. In an expression it knows the expressions that are open,
-- each as what it will be once its rest is known, the innermost apart from those around it; the next free cell; and the counters so far.
pub data Place : Type 0 where
  outside : Place
  inside : (Expr → Expr) → List (Expr → Expr) → ℕ → ℕ → Place
  whole : Expr → Place

-- on where a test holds, else refused
unfoldable pub require : Bool → Fault → (Unit {0} → Reading) → Reading
require true r k = k tt
require false r k = refused r

-- "table full: a mark needs cell 251": the innermost expression goes on as f, and q is the cell after the mark
unfoldable pub extend : (Expr → Expr) → List (Expr → Expr) → ℕ → ℕ → (Place → Reading) → Reading
unfolding require
extend f st q c k = require (leb q (suc max_cells)) TableFull (λ _. k (inside f st q c))

-- a token inside an expression; "(last `)`: both its cells)"; "deep: an 11th level"; "many counters: a 17th"
unfoldable pub within : Token → (Expr → Expr) → List (Expr → Expr) → ℕ → ℕ → (Place → Reading) → Reading
unfolding require extend
within opens f st q c k = require (leb (suc (suc (length st))) max_levels) Deep (λ _. k (inside (λ b. b) (f ∷ st) q c))
within closes f [] q c k = require (leb (suc q) max_cells) TableFull (λ _. k (whole (f close)))
within closes f (g ∷ st) q c k = extend (λ b. g (inner (f close) b)) st (suc q) c k
within semis f st q c k = extend (λ b. f (semi b)) st (suc q) c k
within colons f st q c k = extend (λ b. f (colon b)) st (suc q) c k
within begins f st q c k = k (inside f st q c)
within ends f st q c k = refused Unfinished
within (does o) f st q c k = extend (λ b. f (operate o b)) st (after_operation o q) c k
within (asks t) f st q c k = extend (λ b. f (test (condition t) b)) st (after_predicate (condition t) q) c k
within (counts m) f st q c k =
    require (ltb c max_counters) ManyCounters (λ _. extend (λ b. f (test (counter m c) b)) st (after_predicate (counter m c) q) (suc c) k)
within (calls a) f st q c k = extend (λ b. f (call a b)) st (after_call q) c k
within (faults r) f st q c k = refused r

-- "A text is one outermost expression, with only blanks, newlines and comments around it." Code starts at cell 2.
unfoldable pub starting : Token → (Place → Reading) → Reading
starting opens k = k (inside (λ b. b) [] code_start 0)
starting closes k = refused StrayMark
starting semis k = refused StrayMark
starting colons k = refused StrayMark
starting begins k = refused StrayMark
starting ends k = refused Unfinished
starting (does o) k = refused StrayMark
starting (asks t) k = refused StrayMark
starting (counts m) k = refused StrayMark
starting (calls a) k = refused StrayMark
starting (faults r) k = refused r

-- a token after the last `)`
unfoldable pub ending : Token → Expr → Reading
ending opens w = refused StrayMark
ending closes w = refused StrayMark
ending semis w = refused StrayMark
ending colons w = refused StrayMark
ending begins w = refused StrayMark
ending ends w = accepted w
ending (does o) w = refused StrayMark
ending (asks t) w = refused StrayMark
ending (counts m) w = refused StrayMark
ending (calls a) w = refused StrayMark
ending (faults r) w = refused r

-- the expression of tokens, from a place of the parser on
unfoldable pub parse : List Token → Place → Reading
unfolding within starting ending
parse [] p = refused Unfinished
parse (t ∷ l) outside = starting t (λ p. parse l p)
parse (t ∷ l) (inside f st q c) = within t f st q c (λ p. parse l p)
parse (t ∷ l) (whole w) = ending t w

-- "long text: over 256 bytes", "then for define 2 and the text left to right"
unfoldable pub read : List ℕ → Reading
unfolding require parse tokens
read t = require (leb (length t) max_text) LongText (λ _. parse (tokens t idle) outside)

-- a text's expression, if it is accepted
unfoldable pub expr_of : Reading → Option Expr
expr_of (refused r) = none
expr_of (accepted w) = some w
