-- One desk line: what it does to a store or a book, and what it prints.
use Rattle.std.specs.Prelude.{ℕ, cond, List, ◌++◌, pos, length, take, replicate, leb}
use Rattle.language.specs.Limits.{max_height}
use Rattle.language.specs.Roles.{open_permission, cashier_role}
use Rattle.numerals.specs.Numerals.{Written, wrote, written}
use Rattle.book.specs.Calls.{Call, defines, withdraws, running}
use Rattle.book.specs.Replies.{Reply, Answered}
use Rattle.book.specs.Store.{Store, store_call}
use Rattle.lines.specs.Lines.{bad_line, Request, define, withdraw, run, bad, request}
use Rattle.columns.specs.declared.LineColumns.{LineColumns}
use Rattle.columns.specs.Printed.{columns, plain_columns, paper, top}

-- "a run's output (4,096 bytes lent)"
abbrev pub output_bytes : ℕ
output_bytes = 4096

-- room for what a line can print: its columns, a run's output and a newline
abbrev pub paper_bytes : ℕ
paper_bytes = 4200

-- the columns of a run's reply in line k
abbrev pub ran_columns : ℕ → Reply → LineColumns
ran_columns k r =
    record {
      line = k;
      answer = r.report.number;
      truth = r.report.truth;
      steps = r.report.steps;
      height = r.report.height;
      top = top r.list r.report.height;
    }

-- what a line comes to: the store or the book after it, and the bytes that it prints
pub record Served (S : Type 0) : Type 0 where
  pub kept : S
  pub bytes : List ℕ

-- the two together
abbrev pub serves : {S : Type 0} → S → List ℕ → Served S
serves s b = record { kept = s; bytes = b }

-- what a run prints: its columns, and its output, if any
unfoldable pub shown : ℕ → Reply → List ℕ
unfolding columns paper top
shown k r = columns (ran_columns k r) ++ paper (take r.report.written r.output)

-- Of a store or a book s that answers its calls by f:
module _ {S : Type 0} (f : S → Call → Answered S) where
  -- what it is after the request of line k, and the bytes printed; a run is lent 64 list places and "4,096 bytes". Document 02, U7: "On the desk program
  -- `D` defines open letters and `R` runs as a cashier."
  unfoldable pub granted : S → ℕ → Request → Served S
  unfolding columns shown
  granted s k (define l t) = let x = f s (defines l open_permission t) in serves x.kept (columns (plain_columns k x.reply.report.number))
  granted s k (withdraw l) = let x = f s (withdraws l) in serves x.kept (columns (plain_columns k x.reply.report.number))
  granted s k (run l n i) =
      let x = f s (running l cashier_role n i (replicate max_height (pos 0)) (replicate output_bytes 0)) in
      serves x.kept (shown k x.reply)
  granted s k bad = serves s (columns (plain_columns k bad_line))

  -- the same of the bytes of line k, without its newline
  unfoldable pub desk_line : S → ℕ → List ℕ → Served S
  unfolding granted request
  desk_line s k l = granted s k (request l)

-- ── over a buffer ───────────────────────────────────────────────────────────────────────────────

-- the store after a line, and the paper with what it printed
pub record Performed : Type 0 where
  pub store : Store
  pub paper : Written

-- the store after a line, and the buffer o of whose bytes the first n are what it printed
abbrev pub performs : Store → ℕ → List ℕ → Performed
performs st n o = record { store = st; paper = wrote n o }

-- the bytes printed at the start of the buffer o
abbrev pub printed : List ℕ → Served Store → Performed
printed o x = record { store = x.kept; paper = written o 0 x.bytes }

-- line k over the buffer o; nothing is done where it has no room for any line
unfoldable pub performed : Store → ℕ → List ℕ → List ℕ → Performed
performed st k s o = cond (leb paper_bytes (length o)) (printed o (desk_line store_call st k s)) (performs st 0 o)
