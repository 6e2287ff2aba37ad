-- The steps of the day over what the caller lends: a buffer for the line so far, and a paper for what a line prints.
use Rattle.std.specs.Prelude.{◌≡◌, ℕ, ◌≤◌, Bool, cond, ◌&&◌, List, [], ◌++◌, length, take, drop, leb}
use Rattle.std.proofs.Math.Seq.{paste}
use Rattle.book.specs.Store.{Store, store_call}
use Rattle.commands.specs.Served.{paper_bytes}
use Rattle.console.specs.declared.Place.{Place}
use Rattle.console.specs.declared.Advance.{Advance}
use Rattle.console.specs.Day.{Progress, day_from}
use Rattle.console.specs.Steps.{Stepped, kept_bytes, step_of, end_of}

-- where the day is: its store, its place in the input, and the buffer l at whose start the line so far stands
abbrev pub progress : Store → Place → List ℕ → Progress Store
progress st w l = record { kept = st; done = w.done; line = take w.kept l }

-- n bytes are taken and none is printed
abbrev pub silent : Place → ℕ → Advance
silent w n = record { place = w; taken = n; printed = 0 }

-- What a step came to over the paper: where the day is then, how many bytes it took and printed, and the paper, at whose start they stand.
pub record Advanced : Type 0 where
  pub to : Progress Store
  pub taken : ℕ
  pub printed : ℕ
  pub paper : List ℕ

-- these four together
abbrev pub advances : Progress Store → ℕ → ℕ → List ℕ → Advanced
advances p n m o = record { to = p; taken = n; printed = m; paper = o }

-- a step x printed at the start of the paper o; bytes past what it printed stay
abbrev pub on_paper : List ℕ → Stepped → Advanced
on_paper o x = advances x.to x.taken (length x.bytes) (paste o 0 x.bytes (length x.bytes))

-- the line's buffer l has room for 301 bytes, and the paper o for what any line prints
abbrev pub has_room : List ℕ → List ℕ → Bool
has_room l o = leb kept_bytes (length l) && leb paper_bytes (length o)

-- The step x from p on, over the line's buffer l and the paper o. Where one has no room for any line, nothing is done.
unfoldable pub advanced : List ℕ → List ℕ → Progress Store → Stepped → Advanced
advanced l o p x = cond (has_room l o) (on_paper o x) (advances p 0 0 o)

-- The contract of a step over the part s. What the day prints from here is what this step printed and then what it prints from there, whatever comes
-- after the part; and the step is that of the definition, so that it takes what it can.
pub record Steps (l o s : List ℕ) (p : Progress Store) (x : Advanced) : Type 0 where
  pub day : (rest : List ℕ) → day_from store_call p (s ++ rest) ≡ take x.printed x.paper ++ day_from store_call x.to (drop x.taken s ++ rest)
  pub does : x ≡ advanced l o p (step_of p s)

-- The contract of the end. Where there is room, what the day still prints is what the end printed.
pub record Ends (l o : List ℕ) (p : Progress Store) (x : Advanced) : Type 0 where
  pub day : kept_bytes ≤ length l → paper_bytes ≤ length o → day_from store_call p [] ≡ take x.printed x.paper
  pub does : x ≡ advanced l o p (end_of p)

-- the line so far, k bytes of the buffer l, and the bytes b after it are the first n bytes of l', up to 301 in all
pub record Keeps (l : List ℕ) (k : ℕ) (b l' : List ℕ) (n : ℕ) : Type 0 where
  pub few : n ≤ kept_bytes
  pub bytes : take n l' ≡ take kept_bytes (take k l ++ b)
