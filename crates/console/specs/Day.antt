-- The day: from the bytes of the desk's input to the bytes of its output, by the book alone; and that the store prints the same.
use Rattle.std.specs.Prelude.{◌≡◌, ℕ, suc, ◌-◌, cond, List, [], ◌∷◌, ◌++◌, take, eqb}
use Rattle.language.specs.Bytes.{newline_byte}
use Rattle.book.specs.Calls.{Call}
use Rattle.book.specs.Replies.{Answered}
use Rattle.book.specs.Book.{fresh_book, book_call}
use Rattle.book.specs.Store.{fresh_store, store_call}
use Rattle.commands.specs.Served.{desk_line}

-- "Lines past 9,999 are not read."
abbrev pub max_lines : ℕ
max_lines = 9999

-- the bytes of a line that no newline ended: a line, unless there are none
abbrev pub last_line : List ℕ → List (List ℕ)
last_line [] = []
last_line (b ∷ s) = (b ∷ s) ∷ []

-- The lines of an input, of whose first line the bytes s came before it: each ends before "the newline, which the last may lack".
unfoldable pub lines_from : List ℕ → List ℕ → List (List ℕ)
lines_from s [] = last_line s
lines_from s (b ∷ i) = cond (eqb b newline_byte) (s ∷ lines_from [] i) (lines_from (s ++ (b ∷ [])) i)

-- Where a day is: the store or the book, how many lines are done, and the bytes of the next line so far.
pub record Progress (S : Type 0) : Type 0 where
  pub kept : S
  pub done : ℕ
  pub line : List ℕ

-- the start of a day with the store or the book s
abbrev pub starts : {S : Type 0} → S → Progress S
starts s = record { kept = s; done = 0; line = [] }

-- Of stores or books that answer their calls by f:
module _ {S : Type 0} (f : S → Call → Answered S) where
  -- "Each line prints": the bytes that lines print, line k the first, each over what the line before left
  unfoldable pub session : S → ℕ → List (List ℕ) → List ℕ
  session s k [] = []
  session s k (l ∷ ls) = let x = desk_line f s k l in x.bytes ++ session x.kept (suc k) ls

  -- what the input i prints from there on
  unfoldable pub day_from : Progress S → List ℕ → List ℕ
  day_from p i = session p.kept (suc p.done) (take (max_lines - p.done) (lines_from p.line i))

-- THE DAY: what the desk prints for an input, by the book. "The desk program starts from a fresh store and reads lines from standard input"
unfoldable pub day_of : List ℕ → List ℕ
day_of i = day_from book_call (starts fresh_book) i

-- It is what the store prints. proofs/Day `day-of-store`
abbrev pub DayOfStore : Type 0
DayOfStore = (i : List ℕ) → day_from store_call (starts fresh_store) i ≡ day_of i
