-- What the grammar allows in the numbers of an expression.
use mathlib.Core.Path.{◌≡◌}
use Prim.Native.Nat.{◌≤◌, ◌<◌}
use mathlib.Core.Bool.{true}
use Rattle.language.specs.Limits.{max_counters, max_letters, max_variables}
use Rattle.language.specs.Syntax.{Operation, operator, variable, constant, print, Predicate, condition, counter}
use Rattle.language.specs.Syntax.{Expr, close, semi, colon, operate, test, call, inner}
use Rattle.language.specs.Tokens.{print_byte}
use Rattle.language.specs.Values.{is_value}
use Rattle.language.specs.Grammar.{AllBytes}

-- an operation as a text can have it
abbrev pub FormedOperation : Operation → Type 0
FormedOperation (operator o) = Unit {0}
FormedOperation (variable a k) = (1 ≤ k) × (k ≤ max_variables)
FormedOperation (constant v) = is_value v ≡ true
FormedOperation (print b) = AllBytes print_byte b

-- a predicate
abbrev pub FormedPredicate : Predicate → Type 0
FormedPredicate (condition c) = Unit {0}
FormedPredicate (counter m k) = (m < 9999) × (k < max_counters)

-- an expression
abbrev pub FormedExpr : Expr → Type 0
FormedExpr close = Unit {0}
FormedExpr (semi e) = FormedExpr e
FormedExpr (colon e) = FormedExpr e
FormedExpr (operate o e) = FormedOperation o × FormedExpr e
FormedExpr (test p e) = FormedPredicate p × FormedExpr e
FormedExpr (call a e) = (a < max_letters) × FormedExpr e
FormedExpr (inner f e) = FormedExpr f × FormedExpr e
