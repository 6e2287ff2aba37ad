-- The desk's input in parts: what goes through the desk between a read and a write.
use Rattle.std.specs.Prelude.{◌≡◌, ℕ, ◌+◌, ◌≤◌, min, Bool, true, false, List, ◌++◌, length, take, drop}
use Rattle.book.specs.Store.{Store, fresh_store, store_call}
use Rattle.commands.specs.Served.{paper_bytes}
use Rattle.console.specs.Day.{Progress, day_from}
use Rattle.console.specs.Steps.{kept_bytes}
use Rattle.console.specs.Places.{Advanced}

-- the bytes of output that are held before they are written
abbrev pub held_bytes : ℕ
held_bytes = 65536

-- the buffers of the line so far and of the output
pub record Lent (l o : List ℕ) : Type 0 where
  pub line : length l ≡ kept_bytes
  pub out : length o ≡ held_bytes

-- "The desk program starts from a fresh store"
pub record Fresh (st : Store) (l o : List ℕ) : Type 0 where
  pub store : st ≡ fresh_store
  pub buffers : Lent l o

-- answers of n bytes need not be written before the next line, unless r: its answer finds room after them
pub record Undue (n : ℕ) (r : Bool) : Type 0 where
  pub room : r ≡ false → n ≤ held_bytes → n + paper_bytes ≤ held_bytes
  pub held : r ≡ true → 1 ≤ n

-- A part s from p on, as far as x: some of it is taken, and what the day prints from here is what stands at the start of the output and then what it prints
-- from there, whatever comes after the part.
pub record Serves (s : List ℕ) (p : Progress Store) (x : Advanced) : Type 0 where
  pub some : min 1 (length s) ≤ x.taken
  pub inside : x.taken ≤ length s
  pub few : x.printed ≤ held_bytes
  pub day : (rest : List ℕ) → day_from store_call p (s ++ rest) ≡ take x.printed x.paper ++ day_from store_call x.to (drop x.taken s ++ rest)

-- A part s from p on, as far as p', after n of its bytes: between them no line of it is lost and none done twice.
pub record Relays (s : List ℕ) (p p' : Progress Store) (n : ℕ) : Type 0 where
  pub inside : n ≤ length s
  pub bytes : List ℕ
  pub day : (rest : List ℕ) → day_from store_call p (s ++ rest) ≡ bytes ++ day_from store_call p' (drop n s ++ rest)
