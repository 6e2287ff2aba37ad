-- The code's commands, numbers and inputs as the definitions have them.
use Rattle.std.specs.Prelude.{◌≡◌, ℕ, ◌≤◌, ◌<◌, List, [], ◌∷◌, ◌++◌, ℤ, length, take, drop, ltb, Option, Some, None}
use Rattle.language.specs.Limits.{max_value}
use Rattle.lines.specs.declared.Command.{Command}
use Rattle.lines.specs.declared.Command.TheVariants.{Define, Withdraw, Run}
use Rattle.lines.specs.Lines.{max_inputs, Request, define, withdraw, run, bad, provided, Field, allowed, given, Mode, sign, number, fields}

-- ── a line's command ────────────────────────────────────────────────────────────────────────────

-- the place after a line's letter
abbrev pub letter_end : ℕ
letter_end = 3

-- the place after the blank that follows a line's letter
abbrev pub field_start : ℕ
field_start = 4

-- what a command of the line s with the inputs x asks for, or that there is none, since the line breaks its form
abbrev pub meant : Option Command → List ℕ → List ℤ → Request
meant (Some (Define l)) s x = define l (drop field_start s)
meant (Some (Withdraw l)) s x = withdraw l
meant (Some (Run l a n)) s x = run l a (take n x)
meant None s x = bad

-- the text of a define is within the line, and the inputs of a run are at most 64
abbrev pub Within : Option Command → List ℕ → Type 0
Within (Some (Define l)) s = field_start ≤ length s
Within (Some (Withdraw l)) s = Unit {0}
Within (Some (Run l a n)) s = n ≤ max_inputs
Within None s = Unit {0}

-- a command of the line s with the inputs x, or none, for the request e
pub record Asks (r : Option Command) (s : List ℕ) (x : List ℤ) (e : Request) : Type 0 where
  pub means : meant r s x ≡ e
  pub within : Within r s

-- the same, where the inputs stand in 64 places
pub record Parsed (r : Option Command) (s : List ℕ) (x : List ℤ) (e : Request) : Type 0 where
  pub asks : Asks r s x e
  pub places : length x ≡ max_inputs

-- a place of the line s, and 64 places for inputs
pub record Ready (s : List ℕ) (from : ℕ) (x : List ℤ) : Type 0 where
  pub inside : from ≤ length s
  pub places : length x ≡ max_inputs

-- ── its numbers ─────────────────────────────────────────────────────────────────────────────────

-- what the rest of a run's line, a blank first if it is not empty, asks for after the allowance a and the inputs x
unfoldable pub after : List ℕ → ℕ → ℕ → List ℤ → Request
unfolding provided fields
after [] l a x = run l a x
after (b ∷ t) l a x = provided (ltb (length x) max_inputs) (λ _. fields t l (sign a x))

-- a number of the value v from a place on, in every run and field, and the place after it
pub record NumberAt (s : List ℕ) (from v next : ℕ) : Type 0 where
  pub means : (l : ℕ) (f : Field) → fields (drop from s) l (number f 0 0) ≡ after (drop next s) l (allowed f v) (given f v)
  pub small : v ≤ max_value
  pub further : from < next
  pub inside : next ≤ length s

-- what the reader of digits answers from a place on: a number's value and the place after it, or none
abbrev pub NumberIs : List ℕ → ℕ → Option (ℕ × ℕ) → Type 0
NumberIs s from (Some r) = NumberAt s from r.0 r.1
NumberIs s from None = (l : ℕ) (f : Field) → fields (drop from s) l (number f 0 0) ≡ bad

-- an input v from a place on, in the mode m of the allowance and the inputs before it, and the place after it
pub record InputAt (m : ℕ → List ℤ → Mode) (s : List ℕ) (from : ℕ) (v : ℤ) (next : ℕ) : Type 0 where
  pub means : (l a : ℕ) (x : List ℤ) → fields (drop from s) l (m a x) ≡ after (drop next s) l a (x ++ (v ∷ []))
  pub further : from < next
  pub inside : next ≤ length s

-- what the reader of an input answers from a place on: its value and the place after it, or none
abbrev pub InputIs : (ℕ → List ℤ → Mode) → List ℕ → ℕ → Option (ℤ × ℕ) → Type 0
InputIs m s from (Some r) = InputAt m s from r.0 r.1
InputIs m s from None = (l a : ℕ) (x : List ℤ) → fields (drop from s) l (m a x) ≡ bad
