-- How a worked example is tried: a text read, laid out or run from its bytes on, and the figures that it should give.
use Rattle.std.specs.Prelude.{◌≡◌, ℕ, zero, suc, ◌-◌, Bool, true, false, cond, List, [], ◌∷◌, ◌++◌, map, ℤ, pos, neg_ℤ, length, take, replicate, eqb}
use Prim.Native.Char.{Char, code as code_of}
use Prim.Native.String.{String, [] as []ˢ, ◌∷◌ as ◌∷ˢ◌}
use Rattle.std.proofs.Math.Option.{Option, none, some}
use Rattle.language.specs.declared.Table.{Table}
use Rattle.language.specs.declared.Ending.TheVariants.{NoText}
use Rattle.language.specs.Answers.{fault_number, ending_number}
use Rattle.language.specs.Letters.{letter_index}
use Rattle.language.specs.Roles.{bars}
use Rattle.language.specs.Syntax.{Expr}
use Rattle.language.specs.Reading.{Reading, refused, accepted, read, expr_of}
use Rattle.language.specs.Layout.{layout, table_of, code_start}
use Rattle.language.specs.Money.{read_money}
use Rattle.language.specs.Effects.{State, start}
use Rattle.language.specs.Meaning.{Outcome, ended, stopped, meaning}
use Rattle.language.specs.Machine.{Decoded, decode, arrive, run}

-- ── texts and figures ───────────────────────────────────────────────────────────────────────────

-- the bytes of a text in plain characters
abbrev pub bytes : String → List ℕ
bytes []ˢ = []
bytes (c ∷ˢ s) = code_of c ∷ bytes s

-- n times the bytes t
abbrev pub times : ℕ → List ℕ → List ℕ
times zero t = []
times (suc n) t = t ++ times n t

-- minus n
abbrev pub neg : ℕ → ℤ
neg n = neg_ℤ (pos n)

-- so many zeros
abbrev pub zeros : ℕ → List ℤ
zeros n = replicate n (pos 0)

-- "ten variables, 0 when fresh"
abbrev pub fresh : List ℤ
fresh = zeros 10

-- ── a run of texts ──────────────────────────────────────────────────────────────────────────────

-- A run's number, truth and steps; its values with the bottom first; the inputs taken; the ten variables that it holds at its end, variable 0
-- first; and the written bytes.
pub record Result : Type 0 where
  pub number : ℕ
  pub truth : Bool
  pub steps : ℕ
  pub values : List ℤ
  pub taken : ℕ
  pub variables : List ℤ
  pub printed : List ℕ

-- the result of a state
abbrev pub result_in : ℕ → Bool → ℕ → State → Result
result_in k t n s =
    record {
      number = k;
      truth = t;
      steps = n;
      values = take s.height s.stack;
      taken = s.taken;
      variables = s.variables;
      printed = take s.written s.output;
    }

-- what an allowance of n came to
abbrev pub result_of : ℕ → Outcome → Result
result_of n (ended t s r) = result_in 0 t (n - r) s
result_of n (stopped e s r) = result_in (ending_number e) false (n - r) s

-- number, truth, steps and values, with no input taken, the variables 0 and nothing written
abbrev pub simply : ℕ → Bool → ℕ → List ℤ → Result
simply k t n l = record { number = k; truth = t; steps = n; values = l; taken = 0; variables = fresh; printed = [] }

-- finished with a truth after n steps
abbrev pub ends : Bool → ℕ → List ℤ → Result
ends t n l = simply 0 t n l

-- stopped by the number k after n steps
abbrev pub halts : ℕ → ℕ → List ℤ → Result
halts k n l = simply k false n l

-- with k inputs taken
abbrev pub took : ℕ → Result → Result
took k r =
    record {
      number = r.number;
      truth = r.truth;
      steps = r.steps;
      values = r.values;
      taken = k;
      variables = r.variables;
      printed = r.printed;
    }

-- with the variables v
abbrev pub keeps : List ℤ → Result → Result
keeps v r =
    record { number = r.number; truth = r.truth; steps = r.steps; values = r.values; taken = r.taken; variables = v; printed = r.printed }

-- with the bytes of s written
abbrev pub wrote : String → Result → Result
wrote s r =
    record {
      number = r.number;
      truth = r.truth;
      steps = r.steps;
      values = r.values;
      taken = r.taken;
      variables = r.variables;
      printed = bytes s;
    }

-- texts under letters, and which letters are stewards'; and the letter, role, allowance, inputs and room for output bytes of a run
pub record Trial : Type 0 where
  pub texts : List (Char × List ℕ)
  pub stewards : List Char
  pub letter : Char
  pub role : ℕ
  pub allowance : ℕ
  pub inputs : List ℤ
  pub room : ℕ

-- the expression of letter a
unfoldable pub text_at : List (Char × List ℕ) → ℕ → Option Expr
unfolding read expr_of
text_at [] a = none
text_at ((l, t) ∷ ts) a = cond (eqb (letter_index (code_of l)) a) (expr_of (read t)) (text_at ts a)

-- the permission of letter a, where these letters are stewards'
unfoldable pub permission_in : List Char → ℕ → ℕ
permission_in [] a = 0
permission_in (l ∷ ls) a = cond (eqb (letter_index (code_of l)) a) 1 (permission_in ls a)

-- a text is there
abbrev pub is_some : Option Expr → Bool
is_some none = false
is_some (some w) = true

-- the state in which a trial starts
abbrev pub start_of : Trial → State
start_of x = start fresh x.inputs (replicate x.room 42)

-- what the nested meaning comes to, and the table machine over the texts' tables
abbrev pub obeyed_by : Trial → Option Expr → Outcome
obeyed_by x none = stopped NoText (start_of x) x.allowance
obeyed_by x (some w) =
    meaning (text_at x.texts) (permission_in x.stewards) x.role (suc x.allowance) (letter_index (code_of x.letter)) w 0 (start_of x) x.allowance

-- what the nested meaning gives
abbrev pub meant : Trial → Outcome
meant x = obeyed_by x (text_at x.texts (letter_index (code_of x.letter)))

-- the cells of the texts' tables, decoded
abbrev pub decoded_in : Trial → ℕ → ℕ → Decoded
decoded_in x a q = decode (table_of (text_at x.texts a)) q

-- the letters that have a text
abbrev pub stands_in : Trial → ℕ → Bool
stands_in x a = is_some (text_at x.texts a)

-- the letters that are not for the caller
abbrev pub barred_in : Trial → ℕ → Bool
barred_in x a = bars x.role (permission_in x.stewards a)

-- what the table machine gives
abbrev pub machined : Trial → Outcome
machined x =
    run (decoded_in x) (stands_in x) (barred_in x) x.allowance
    (arrive (decoded_in x) (stands_in x) (barred_in x) [] (letter_index (code_of x.letter)) code_start) (start_of x)

-- ── examples ────────────────────────────────────────────────────────────────────────────────────

-- A text's table, all 250 cells of it, where these are used; the number that a text is refused with, 0 if it is accepted; a run's result, by the
-- nested meaning and by the table machine; what a cell of a table says; what the bytes of a slip are read as.
pub data Example : Type 0 where
  laid_out : List ℕ → List ℤ → Example
  refused_as : List ℕ → ℕ → Example
  gives : Trial → Result → Example
  decodes : Table → ℕ → Decoded → Example
  read_as : List ℕ → Option ℤ → Example

-- the used cells and all cells of an accepted text
abbrev pub table_in : Reading → ℕ × List ℤ
table_in (refused r) = (0, [])
table_in (accepted w) = ((layout w).used, (layout w).cells)

-- the number that a text is refused with
abbrev pub number_in : Reading → ℕ
number_in (refused r) = fault_number r
number_in (accepted w) = 0

-- what an example gives, and what it should give
pub data Given : Type 0 where
  table : ℕ × List ℤ → Given
  number : ℕ → Given
  results : Result → Result → Given
  decoded : Decoded → Given
  amount_of : Option ℤ → Given

-- what an example gives
abbrev pub given : Example → Given
given (laid_out t c) = table (table_in (read t))
given (refused_as t k) = number (number_in (read t))
given (gives x r) = results (result_of x.allowance (meant x)) (result_of x.allowance (machined x))
given (decodes t q d) = decoded (decode t q)
given (read_as b v) = amount_of (read_money b)

-- what it should give; "The other cells of the letter's 250 are 0."
abbrev pub due : Example → Given
due (laid_out t c) = table (length c, c ++ zeros (250 - length c))
due (refused_as t k) = number k
due (gives x r) = results r r
due (decodes t q d) = decoded d
due (read_as b v) = amount_of v

-- every example gives what it should
abbrev pub Hold : List Example → Type 0
Hold es = map given es ≡ map due es

-- a text in plain characters and its used cells after the first, which holds 2000
abbrev pub lays : String → List ℤ → Example
lays t c = laid_out (bytes t) (pos 2000 ∷ c)

-- a text in plain characters and the number that it is refused with
abbrev pub fault : String → ℕ → Example
fault t k = refused_as (bytes t) k

-- the bytes of a slip in plain characters, and the cents that they say
abbrev pub says : String → ℤ → Example
says b v = read_as (bytes b) (some v)

-- bytes that say no amount
abbrev pub says_none : String → Example
says_none b = read_as (bytes b) none

-- a text under the letter t, run with an allowance, inputs and room for output
abbrev pub trial : List ℕ → ℕ → List ℤ → ℕ → Result → Example
trial t n i room r =
    gives (record { texts = ("t", t) ∷ []; stewards = []; letter = "t"; role = 0; allowance = n; inputs = i; room = room }) r

-- a text run with an allowance and nothing else
abbrev pub within : ℕ → String → Result → Example
within n t r = trial (bytes t) n [] 0 r

-- "Runs have allowance 1000 unless another is named."
abbrev pub once : String → Result → Example
once t r = within 1000 t r

-- a text run with inputs
abbrev pub fed : List ℤ → String → Result → Example
fed i t r = trial (bytes t) 1000 i 0 r

-- a text run with room for so many output bytes
abbrev pub printing : ℕ → String → Result → Example
printing n t r = trial (bytes t) 1000 [] n r

-- texts under letters, of which some are stewards'; a letter run by a caller with the role k, with an allowance
abbrev pub guarded : ℕ → ℕ → List Char → List (Char × List ℕ) → Char → Result → Example
guarded k n ss ts l r = gives (record { texts = ts; stewards = ss; letter = l; role = k; allowance = n; inputs = []; room = 0 }) r

-- texts under two letters, the first run with an allowance
abbrev pub calling : ℕ → Char → List ℕ → Char → List ℕ → Result → Example
calling n a s b t r = guarded 0 n [] ((a, s) ∷ (b, t) ∷ []) a r

-- texts under `a` and `b`, `a` run
abbrev pub both : String → String → Result → Example
both s t r = calling 1000 "a" (bytes s) "b" (bytes t) r
