-- What a run works on, and what each operation and predicate does to it.
use Rattle.std.specs.Prelude.{ℕ, suc, ◌+◌, ◌*◌, ◌-◌, ◌%◌, Bool, true, false, cond, List, [], ◌∷◌, ℤ, pos, nat_abs, neg_ℤ, ◌+ℤ◌, ◌-ℤ◌, ◌*ℤ◌, length, get_or, set, replicate, leb, ltb, eqb}
use Rattle.std.proofs.Math.Option.{Option, none, some}
use Rattle.std.specs.Int.Signed.{lt_z}
use Rattle.std.proofs.Math.Seq.{paste}
use Rattle.language.specs.declared.Ending.{Ending}
use Rattle.language.specs.declared.Ending.TheVariants.{ListEmpty, ListFull, Range, ZeroDivisor, NoInput, PaperOut, NoText, DeepCalls, StewardCall}
use Rattle.language.specs.Limits.{max_height, max_counters, max_calls, store_counts, write_width, max_variables}
use Rattle.language.specs.Bytes.{newline_byte}
use Rattle.language.specs.Values.{is_value}
use Rattle.language.specs.Decimals.{justified}
use Rattle.language.specs.Division.{quotient}
use Rattle.language.specs.Money.{money}
use Rattle.language.specs.Syntax.{Operator, absolute, discard, negate, copy, write, newline, input, add, subtract, multiply, divide, fetch, save}
use Rattle.language.specs.Syntax.{negative, null, equal, Operation, operator, variable, constant, print, Predicate, condition, counter}

-- The operand stack (the list of document 01) in 64 slots with its height: "The first list place is the bottom; places above the height are 0".
-- The inputs and how many are taken. The ten variables. The counters' counts of trues. The caller's output and how many bytes are written.
pub record State : Type 0 where
  pub stack : List ℤ
  pub height : ℕ
  pub inputs : List ℤ
  pub taken : ℕ
  pub variables : List ℤ
  pub counts : List ℕ
  pub output : List ℕ
  pub written : ℕ

-- Before the first mark of a run with the variables v, the inputs i and the output o: "The list starts empty", "All counters are full when a run
-- starts"
unfoldable pub start : List ℤ → List ℤ → List ℕ → State
start v i o =
    record { stack = replicate max_height (pos 0); height = 0; inputs = i; taken = 0; variables = v; counts = replicate store_counts 0; output = o; written = 0 }

-- an operation goes on with a state, or stops the run
pub data Effect : Type 0 where
  goes : State → Effect
  stops : Ending → Effect

-- a predicate answers with a state, or stops the run
pub data Verdict : Type 0 where
  answers : Bool → State → Verdict
  stops_by : Ending → Verdict

-- ── parts of a state ────────────────────────────────────────────────────────────────────────────

-- the state with another stack and height
abbrev pub with_stack : State → List ℤ → ℕ → State
with_stack s l h =
    record { stack = l; height = h; inputs = s.inputs; taken = s.taken; variables = s.variables; counts = s.counts; output = s.output; written = s.written }

-- with so many inputs taken
abbrev pub with_taken : State → ℕ → State
with_taken s n =
    record { stack = s.stack; height = s.height; inputs = s.inputs; taken = n; variables = s.variables; counts = s.counts; output = s.output; written = s.written }

-- with other variables
abbrev pub with_variables : State → List ℤ → State
with_variables s v =
    record { stack = s.stack; height = s.height; inputs = s.inputs; taken = s.taken; variables = v; counts = s.counts; output = s.output; written = s.written }

-- with other counters' counts
abbrev pub with_counts : State → List ℕ → State
with_counts s c =
    record { stack = s.stack; height = s.height; inputs = s.inputs; taken = s.taken; variables = s.variables; counts = c; output = s.output; written = s.written }

-- with another output, so much of it written
abbrev pub with_output : State → List ℕ → ℕ → State
with_output s o n =
    record { stack = s.stack; height = s.height; inputs = s.inputs; taken = s.taken; variables = s.variables; counts = s.counts; output = o; written = n }

-- ── the stack ───────────────────────────────────────────────────────────────────────────────────

-- the value at the top of the stack
abbrev pub top : State → ℤ
top s = get_or s.stack (s.height - 1) (pos 0)

-- the value below the top
abbrev pub second : State → ℤ
second s = get_or s.stack (s.height - 2) (pos 0)

-- "list empty: too few values": with n values or more, e
abbrev pub needs : ℕ → State → Effect → Effect
needs n s e = cond (ltb s.height n) (stops ListEmpty) e

-- v in place of the top
abbrev pub replaced : State → ℤ → State
replaced s v = with_stack s (set s.stack (s.height - 1) v) s.height

-- the top removed
abbrev pub dropped : State → State
dropped s = with_stack s (set s.stack (s.height - 1) (pos 0)) (s.height - 1)

-- v in place of second and top
abbrev pub combined : State → ℤ → State
combined s v = with_stack s (set (set s.stack (s.height - 2) v) (s.height - 1) (pos 0)) (s.height - 1)

-- "list full: a push on 64"
abbrev pub pushed : State → ℤ → Effect
pushed s v = cond (ltb s.height max_height) (goes (with_stack s (set s.stack s.height v) (s.height + 1))) (stops ListFull)

-- "range: result outside the values"
abbrev pub ranged : ℤ → State → Effect
ranged v s = cond (is_value v) (goes s) (stops Range)

-- ── input and output ────────────────────────────────────────────────────────────────────────────

-- "`I` pushes the next input." "25 before 22"
abbrev pub inputted : State → Effect
inputted s =
    cond (ltb s.taken (length s.inputs)) (pushed (with_taken s (s.taken + 1)) (get_or s.inputs s.taken (pos 0))) (stops NoInput)

-- the bytes b after what is written
abbrev pub emitted_state : State → List ℕ → State
emitted_state s b = with_output s (paste s.output s.written b (length b)) (s.written + length b)

-- "paper out: the bytes of a print, `O` or `X` do not all fit"
abbrev pub emitted : State → List ℕ → Effect
emitted s b = cond (leb (s.written + length b) (length s.output)) (goes (emitted_state s b)) (stops PaperOut)

-- Document 02, U6: "`O` shall write units, a point and two digits of cents, right-justified in 14 columns"
unfoldable pub column : ℤ → List ℕ
unfolding justified money
column v = justified write_width (money v)

-- ── operations ──────────────────────────────────────────────────────────────────────────────────

-- "`A` absolute, `M` negated, `L` removes the top, `P` copies it." "`+ - * /` replace second and top by second-op-top", and of
-- `/` that is `quotient`. "21 before 24 before 23"
unfoldable pub operated : Operator → State → Effect
unfolding column
operated absolute s = needs 1 s (ranged (pos (nat_abs (top s))) (replaced s (pos (nat_abs (top s)))))
operated negate s = needs 1 s (ranged (neg_ℤ (top s)) (replaced s (neg_ℤ (top s))))
operated discard s = needs 1 s (goes (dropped s))
operated copy s = needs 1 s (pushed s (top s))
operated add s = needs 2 s (ranged (second s +ℤ top s) (combined s (second s +ℤ top s)))
operated subtract s = needs 2 s (ranged (second s -ℤ top s) (combined s (second s -ℤ top s)))
operated multiply s = needs 2 s (ranged (second s *ℤ top s) (combined s (second s *ℤ top s)))
operated divide s =
    needs 2 s (cond (eqb (nat_abs (top s)) 0) (stops ZeroDivisor) (ranged (quotient (second s) (top s)) (combined s (quotient (second s) (top s)))))
operated input s = inputted s
operated write s = needs 1 s (emitted s (column (top s)))
operated newline s = emitted s (newline_byte ∷ [])

-- "`Fk` pushes variable k; `Sk` stores the top and keeps it." Digit 10 is variable 0.
unfoldable pub perform : Operation → State → Effect
unfolding operated
perform (operator o) s = operated o s
perform (variable fetch k) s = pushed s (get_or s.variables (k % max_variables) (pos 0))
perform (variable save k) s = needs 1 s (goes (with_variables s (set s.variables (k % max_variables) (top s))))
perform (constant v) s = pushed s v
perform (print b) s = emitted s b

-- ── predicates ──────────────────────────────────────────────────────────────────────────────────

-- "A count belongs to its letter and order."
abbrev pub count_index : ℕ → ℕ → ℕ
count_index l k = l * max_counters + k

-- "while its count of trues is below n it is true and the count rises by one, else it is false and the count is 0": n is m + 1, at index i
abbrev pub counted : State → ℕ → ℕ → Verdict
counted s i m =
    cond (ltb (get_or s.counts i 0) (suc m))
    (answers true (with_counts s (set s.counts i (get_or s.counts i 0 + 1))))
    (answers false (with_counts s (set s.counts i 0)))

-- a predicate that needs n values and answers t
abbrev pub asked : ℕ → State → Bool → Verdict
asked n s t = cond (ltb s.height n) (stops_by ListEmpty) (answers t s)

-- "`N` top negative, `0` top zero, `J` the two top values equal: these remove nothing." In the letter l.
unfoldable pub ask : ℕ → Predicate → State → Verdict
ask l (condition negative) s = asked 1 s (lt_z (top s) (pos 0))
ask l (condition null) s = asked 1 s (eqb (nat_abs (top s)) 0)
ask l (condition equal) s = asked 2 s (eqb (nat_abs (second s -ℤ top s)) 0)
ask l (counter m k) s = counted s (count_index l k) m

-- ── calls ───────────────────────────────────────────────────────────────────────────────────────

-- The call of what stands under a letter, if anything does, which is barred to the run's caller or not, with d calls open: k enters it, or h has what
-- stops it. "no text: call of a cleared letter", "deep calls: a 101st nested call"; document 02, U7: "34 steward call, an ending, a cashier's run calls
-- one, after 27 and before 28". Meaning and machine share this one account.
unfoldable pub on_call : {A B : Type 0} → Option A → Bool → ℕ → (Ending → B) → (A → B) → B
on_call none b d h k = h NoText
on_call (some v) true d h k = h StewardCall
on_call (some v) false d h k = cond (ltb d max_calls) (k v) (h DeepCalls)
