-- The table machine: what the cells of a table say, and how a run goes over the tables of a store. Total over any cells.
use Prim.Native.Nat.{ℕ, zero, suc}
use Rattle.std.specs.Prelude.{Bool, true, false, cond, ℤ, pos, negsuc, length, get_or, ltb, eqb}
use Rattle.std.proofs.Math.Option.{Option, none, some}
use mathlib.Core.List.{List, [], ◌∷◌, ◌++◌, map}
use Rattle.language.specs.declared.Table.{Table}
use Rattle.language.specs.declared.Ending.TheVariants.{Spent, Damaged}
use Rattle.language.specs.Limits.{max_counters, max_limit, max_variables}
use Rattle.language.specs.Syntax.{Operator, operators, operator_byte, Access, accesses, access_byte, Condition, conditions, condition_byte}
use Rattle.language.specs.Syntax.{counter_code, constant_code, print_code, Operation, operator, variable, constant, print, Predicate, condition, counter}
use Rattle.language.specs.Between.{between}
use Rattle.language.specs.Lookup.{lookup}
use Rattle.language.specs.Letters.{is_letter, letter_index}
use Rattle.language.specs.Values.{is_value}
use Rattle.language.specs.Tokens.{print_byte}
use Rattle.language.specs.Layout.{forward, code_start}
use Rattle.language.specs.Effects.{State, Effect, goes, stops, Verdict, answers, stops_by, perform, ask, on_call}
use Rattle.language.specs.Meaning.{Outcome, ended, stopped}

-- ── decoding ────────────────────────────────────────────────────────────────────────────────────

-- The code at a cell. `transfer n` goes on at cell n; `fail` is the last `)`. A mark has the cell after it, and its false exit if it has one.
pub data Instruction : Type 0 where
  transfer : ℕ → Instruction
  fail : Instruction
  operate_at : Operation → ℕ → Instruction
  test_at : Predicate → ℕ → ℕ → Instruction
  call_at : ℕ → ℕ → ℕ → Instruction

-- the last cell, damage, or an instruction
pub data Decoded : Type 0 where
  last damaged : Decoded
  code : Instruction → Decoded

-- what the byte of a negative cell says
pub data Kind : Type 0 where
  is_constant is_print is_counter is_none : Kind
  is_operator : Operator → Kind
  is_variable : Access → Kind
  is_condition : Condition → Kind
  is_call : ℕ → Kind

-- the codes of marks other than calls
abbrev pub kinds : List (ℕ × Kind)
kinds =
    (constant_code, is_constant) ∷ (print_code, is_print) ∷ (counter_code, is_counter)
    ∷ map (λ o. (operator_byte o, is_operator o)) operators
    ++ map (λ a. (access_byte a, is_variable a)) accesses
    ++ map (λ c. (condition_byte c, is_condition c)) conditions

-- a code's kind
unfoldable pub kind : ℕ → Kind
kind b = cond (is_letter b) (is_call (letter_index b)) (lookup kinds is_none b)

-- cell q, the first being 1
abbrev pub cell : Table → ℕ → ℤ
cell t q = get_or (pos 0 ∷ t.cells) q (pos 0)

-- a test that damage fails
unfoldable pub sound : Bool → Decoded → Decoded
sound true d = d
sound false d = damaged

-- a cell that is to hold a number from 0 on
unfoldable pub natural : ℤ → (ℕ → Decoded) → Decoded
natural (pos n) k = k n
natural (negsuc n) k = damaged

-- a cell that is to hold a number below 0: -(n + 1) goes on with n
unfoldable pub minus : ℤ → (ℕ → Decoded) → Decoded
minus (pos n) k = damaged
minus (negsuc n) k = k n

-- "a false outside 2 to used": the false exit in cell q
unfoldable pub exit_at : Table → ℕ → (ℕ → Instruction) → Decoded
unfolding natural sound
exit_at t q i = natural (cell t q) (λ f. sound (between 2 t.used f) (code (i f)))

-- "a print length or byte outside its form": n bytes from cell q on
unfoldable pub bytes_at : Table → ℕ → ℕ → (List ℕ → Decoded) → Decoded
unfolding natural sound
bytes_at t zero q k = k []
bytes_at t (suc n) q k = natural (cell t q) (λ b. sound (print_byte b) (bytes_at t n (suc q) (λ l. k (b ∷ l))))

-- "a mark with a cell after used - 2": the cell after the mark is below used
abbrev pub room : Table → ℕ → Decoded → Decoded
room t q d = sound (ltb q t.used) d

-- A mark at cell q. "a digit outside 1 to 10, an n outside 1 to 9999, an order outside 0 to 15, a constant outside the values"
unfoldable pub mark : Table → ℕ → Kind → Decoded
unfolding sound natural minus exit_at bytes_at
mark t q (is_operator o) = code (operate_at (operator o) (suc q))
mark t q (is_variable a) =
    room t (suc (suc q)) (natural (cell t (suc q)) (λ k. sound (between 1 max_variables k) (code (operate_at (variable a k) (suc (suc q))))))
mark t q is_constant =
    room t (suc (suc q)) (sound (is_value (cell t (suc q))) (code (operate_at (constant (cell t (suc q))) (suc (suc q)))))
mark t q is_print =
    room t (suc (suc q))
    (natural (cell t (suc q)) (λ n. room t (forward n (suc (suc q)))
    (bytes_at t n (suc (suc q)) (λ b. code (operate_at (print b) (forward n (suc (suc q))))))))
mark t q (is_condition c) = room t (suc (suc q)) (exit_at t (suc q) (λ f. test_at (condition c) (suc (suc q)) f))
mark t q is_counter =
    room t (suc (suc (suc (suc q))))
    (minus (cell t (suc q)) (λ m. sound (ltb m max_limit)
    (natural (cell t (suc (suc q))) (λ k. sound (ltb k max_counters)
    (exit_at t (suc (suc (suc q))) (λ f. test_at (counter m k) (suc (suc (suc (suc q)))) f))))))
mark t q (is_call a) = room t (suc (suc q)) (exit_at t (suc q) (λ f. call_at a (suc (suc q)) f))
mark t q is_none = damaged

-- a cell before the last two: "holds 0, a transfer outside 2 to used, a negative that is no code"
unfoldable pub early : Table → ℕ → ℤ → Decoded
unfolding sound mark kind
early t q (pos n) = sound (between 2 t.used n) (code (transfer n))
early t q (negsuc n) = mark t q (kind (suc n))

-- the cell holds n, as it must
unfoldable pub exactly : ℤ → ℕ → Decoded → Decoded
unfolding natural sound
exactly z n d = natural z (λ m. sound (eqb m n) d)

-- "the due cell is outside 2 to used; is the last and not 1; is the one before and not 0; or is earlier and .."
unfoldable pub decode : Table → ℕ → Decoded
unfolding sound early exactly
decode t q =
    sound (between 2 t.used q)
    (cond (eqb q t.used) (exactly (cell t q) 1 last)
    (cond (eqb (suc q) t.used) (exactly (cell t q) 0 (code fail)) (early t q (cell t q))))

-- ── running ─────────────────────────────────────────────────────────────────────────────────────

-- an open call: the letter that called, the cell after the call, and its false exit
pub record Frame : Type 0 where
  pub letter : ℕ
  pub next : ℕ
  pub exit : ℕ

-- what comes next: the run is over with a truth, the due cell is damaged, or an instruction of a letter is due
pub data Due : Type 0 where
  over : Bool → Due
  broken : Due
  due : ℕ → Instruction → List Frame → Due

-- the cell after a mark where it is true, its false exit where it is false
unfoldable pub pick : Bool → ℕ → ℕ → ℕ
pick true n f = n
pick false n f = f

-- what is due at a decoded cell of the letter l; its last cell goes back
unfoldable pub arrived : Decoded → ℕ → List Frame → (Unit {0} → Due) → Due
arrived last l fr back = back tt
arrived damaged l fr back = broken
arrived (code i) l fr back = due l i fr

-- on with what an operation did; where it stops, the state and the steps left are those before it
unfoldable pub on_effect : Effect → State → ℕ → (State → Outcome) → Outcome
on_effect (goes s') s r k = k s'
on_effect (stops e) s r k = stopped e s r

-- on with what a predicate answered; where it stops, the state and the steps left are those before it
unfoldable pub on_verdict : Verdict → State → ℕ → (Bool → State → Outcome) → Outcome
on_verdict (answers t s') s r k = k t s'
on_verdict (stops_by e) s r k = stopped e s r

-- a letter that stands, as what a call enters
abbrev pub present : Bool → Option (Unit {0})
present true = some tt
present false = none

-- over a store whose cells decode so, where these letters stand and these are barred to the run's caller
module _ (at : ℕ → ℕ → Decoded) (stands barred : ℕ → Bool) where
  -- The code of a letter ends with truth t: its caller goes on after the call, or at its false exit. "The return itself is none."
  unfoldable pub return : List Frame → Bool → Due
  unfolding arrived pick
  return [] t = over t
  return (f ∷ fr) t = arrived (at f.letter (pick t f.next f.exit)) f.letter fr (λ _. return fr true)

  -- cell q of the letter l is due; its last cell returns true
  unfoldable pub arrive : List Frame → ℕ → ℕ → Due
  unfolding arrived return
  arrive fr l q = arrived (at l q) l fr (λ _. return fr true)

  -- one step, with r left after it
  unfoldable pub turn : ℕ → (Due → State → Outcome) → ℕ → List Frame → Instruction → State → Outcome
  unfolding arrive return on_effect on_verdict on_call pick
  turn r go l fr (transfer n) s = go (arrive fr l n) s
  turn r go l fr fail s = go (return fr false) s
  turn r go l fr (operate_at o n) s = on_effect (perform o s) s (suc r) (λ s'. go (arrive fr l n) s')
  turn r go l fr (test_at p n f) s = on_verdict (ask l p s) s (suc r) (λ t s'. go (arrive fr l (pick t n f)) s')
  turn r go l fr (call_at a n f) s =
      on_call (present (stands a)) (barred a) (length fr) (λ e. stopped e s (suc r))
      (λ _. go (arrive (record { letter = l; next = n; exit = f } ∷ fr) a code_start) s)

  -- With r steps left: "Where several stops fit: 29, 20, then for that mark .."
  unfoldable pub run : ℕ → Due → State → Outcome
  unfolding turn
  run zero (over t) s = ended t s zero
  run zero broken s = stopped Damaged s zero
  run zero (due l i fr) s = stopped Spent s zero
  run (suc r) (over t) s = ended t s (suc r)
  run (suc r) broken s = stopped Damaged s (suc r)
  run (suc r) (due l i fr) s = turn r (run r) l fr i s
