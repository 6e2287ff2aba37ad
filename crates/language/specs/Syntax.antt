-- Marks and expressions: what a text is once it is read.
use Rattle.std.specs.Prelude.{ℕ, List, [], ◌∷◌, ℤ}

-- "Operators: `A L M P O X I + - * /`." In that order.
pub data Operator : Type 0 where
  absolute discard negate copy write newline input add subtract multiply divide : Operator

-- all operators
abbrev pub operators : List Operator
operators = absolute ∷ discard ∷ negate ∷ copy ∷ write ∷ newline ∷ input ∷ add ∷ subtract ∷ multiply ∷ divide ∷ []

-- an operator's byte
abbrev pub operator_byte : Operator → ℕ
operator_byte absolute = 65
operator_byte discard = 76
operator_byte negate = 77
operator_byte copy = 80
operator_byte write = 79
operator_byte newline = 88
operator_byte input = 73
operator_byte add = 43
operator_byte subtract = 45
operator_byte multiply = 42
operator_byte divide = 47

-- "With a digit after, no blank between: `F S`."
pub data Access : Type 0 where
  fetch save : Access

-- both accesses
abbrev pub accesses : List Access
accesses = fetch ∷ save ∷ []

-- an access's byte
abbrev pub access_byte : Access → ℕ
access_byte fetch = 70
access_byte save = 83

-- "Predicates: `N 0 J`"
pub data Condition : Type 0 where
  negative null equal : Condition

-- all conditions
abbrev pub conditions : List Condition
conditions = negative ∷ null ∷ equal ∷ []

-- a condition's byte
abbrev pub condition_byte : Condition → ℕ
condition_byte negative = 78
condition_byte null = 48
condition_byte equal = 74

-- "A mark's code is minus its byte": the byte of `$`; "for a constant it is -175 and for a print -167 (byte of `/` or `'` plus 128)"
abbrev pub counter_code : ℕ
counter_code = 36

-- a constant's code, negated in its cell
abbrev pub constant_code : ℕ
constant_code = 175

-- a print's code, negated in its cell
abbrev pub print_code : ℕ
print_code = 167

-- The marks that go on or stop the run. A variable has its digit, 0 as 10; a print has its bytes.
pub data Operation : Type 0 where
  operator : Operator → Operation
  variable : Access → ℕ → Operation
  constant : ℤ → Operation
  print : List ℕ → Operation

-- The marks that are true or false, calls and inner expressions aside. `counter m k` is the counter of number m + 1 and order k.
pub data Predicate : Type 0 where
  condition : Condition → Predicate
  counter : ℕ → ℕ → Predicate

-- An expression: what follows its `(`, up to and with its `)`. `inner e b` is the expression `(`e and then b. A call has its letter, a as 0.
pub data Expr : Type 0 where
  close : Expr
  semi colon : Expr → Expr
  operate : Operation → Expr → Expr
  test : Predicate → Expr → Expr
  call : ℕ → Expr → Expr
  inner : Expr → Expr → Expr
