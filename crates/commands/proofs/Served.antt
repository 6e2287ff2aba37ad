-- What a line does over a buffer, request by request; and a run's figures within what is lent.
use mathlib.Core.Path.{◌≡◌, sym, ap, ◌∙◌, subst}
use Prim.Native.Nat.{ℕ, ◌+◌, ◌≤◌, ◌<◌}
use native.Mathlib.Nat.{le_trans}
use native.Mathlib.Omega.{arith}
use mathlib.Core.Option.{Option, none, some}
use mathlib.Core.List.{List, [], ◌∷◌, ◌++◌}
use lib.IntN.{ℤ, pos}
use lib.ListN.{length, take, replicate, length-take, length-replicate, length-append}
use lib.Seq.{paste, length-take-le}
use borrow.Author.Tests.{le-leb, lt-leb}
use Rattle.language.specs.Bytes.{newline_byte}
use Rattle.language.specs.Limits.{max_height}
use Rattle.language.specs.Roles.{open_permission, cashier_role}
use Rattle.language.specs.Letters.{letter_index}
use Rattle.language.specs.Effects.{start}
use Rattle.language.specs.Meaning.{Outcome, ended, stopped}
use Rattle.language.specs.Tables.{execute}
use Rattle.language.specs.Statements.{Lent, final_state}
use Rattle.language.proofs.EffectsLent.{lent-parts}
use Rattle.numerals.specs.Numerals.{Written, wrote, written}
use Rattle.numerals.proofs.Numerals.{written-room, written-two}
use Rattle.book.specs.declared.Report.{Report}
use Rattle.book.specs.Calls.{Run, Call, defines, withdraws, runs, running}
use Rattle.book.specs.Replies.{Reply, Answered, reported, tells}
use Rattle.book.specs.declared.Refusal.{Refusal}
use Rattle.book.specs.Refusals.{refusal, answer}
use Rattle.book.specs.Store.{Store, store_ran, store_accepts, store_view, store_call, changed, answered}
use Rattle.lines.specs.Lines.{bad_line, Request, define, withdraw, run, bad, request}
use Rattle.columns.specs.declared.LineColumns.{LineColumns}
use Rattle.columns.specs.Printed as Printed
use Rattle.columns.specs.Printed.{columns, most_bytes, paper, top}
use Rattle.columns.proofs.Printed.{columns-most}
use Rattle.commands.specs.Served.{output_bytes, paper_bytes, ran_columns, serves, shown, granted, desk_line, performs, printed, performed}

-- ── a run's figures ─────────────────────────────────────────────────────────────────────────────

-- the height is within the list's 64 places, the output within the m bytes lent
pub record Bounded (m : ℕ) (r : Reply) : Type 0 where
  pub height : r.report.height ≤ max_height
  pub written : r.report.written ≤ m

reported-bounded : (o : List ℕ) (v : List ℤ) (n : ℕ) (x : Outcome) → Lent o (final_state x) → Bounded (length o) (reported v n x)
unfolding reported
reported-bounded o v n (ended t s r) h = record { height = h.height; written = h.written }
reported-bounded o v n (stopped e s r) h = record { height = h.height; written = h.written }

-- of a run of any store
pub run-bounded : (st : Store) (x : Run) → Bounded (length x.output) (store_call st (runs x)).reply
unfolding store_call
run-bounded st x = go (refusal (store_view st) (runs x))
  where
    go : (o : Option Refusal) → Bounded (length x.output) (answer o st st.variables (runs x) (store_accepts st (runs x))).reply
    go none =
        unfold answer store_accepts store_ran in
        reported-bounded x.output st.variables x.allowance
        (execute st.cells st.used st.permissions x.role (letter_index x.letter) x.allowance (start st.variables x.inputs x.output))
        (lent-parts st.cells st.used st.permissions x.role (letter_index x.letter) x.allowance st.variables x.inputs x.output)
    go (some r) = unfold answer tells in record { height = omega arith; written = omega arith }

-- ── what is printed ─────────────────────────────────────────────────────────────────────────────

-- an output is printed with at most a newline more
paper-most : (o : List ℕ) → length (paper o) ≤ length o + 1
unfolding paper
paper-most [] = omega arith
paper-most (b ∷ o) = omega (arith, length-append (b ∷ o) (newline_byte ∷ []))

-- a define or a withdraw c, which left the store st' and answered n
pub changed-printed : (st st' : Store) (k n : ℕ) (c : Call) (o o' : List ℕ) (r : ℕ) → changed st' n c ≡ store_call st c
    → wrote r o' ≡ written o 0 (columns (Printed.plain_columns k n))
    → performs st' r o' ≡ printed o (serves (store_call st c).kept (columns (Printed.plain_columns k (store_call st c).reply.report.number)))
unfolding tells
changed-printed st st' k n c o o' r e p =
    (λ i. record { store = st'; paper = p i })
    ∙ ap (λ (x : Answered Store). printed o (serves x.kept (columns (Printed.plain_columns k x.reply.report.number)))) e

-- a run that left the store st', the list p and the output o, and reported r
module _ (st st' : Store) (l n : ℕ) (i p : List ℤ) (o : List ℕ) (r : Report)
    (e : answered st' r p o ≡ store_call st (running l cashier_role n i (replicate max_height (pos 0)) (replicate output_bytes 0))) where
  bounded : Bounded output_bytes (record { report = r; list = p; output = o; variables = st'.variables })
  bounded =
      let lent : List ℕ = replicate output_bytes 0 in
      let x : Run = record { letter = l; role = cashier_role; allowance = n; inputs = i; list = replicate max_height (pos 0); output = lent } in
      subst (λ m. Bounded m (record { report = r; list = p; output = o; variables = st'.variables })) (length-replicate {A = ℕ} output_bytes 0)
      (subst (λ (y : Answered Store). Bounded (length lent) y.reply) (sym e) (run-bounded st x))

  -- its output and its list are within what was lent
  pub short : r.written ≤ output_bytes
  short = bounded.written

  pub low : r.height ≤ max_height
  low = bounded.height

  pub run-printed : (k : ℕ) (b : List ℕ) (v : ℤ) {m s : ℕ} {b₁ b₂ : List ℕ} → paper_bytes ≤ length b → r.written ≤ length o → v ≡ top p r.height
      → wrote m b₁ ≡ written b 0 (columns (record { line = k; answer = r.number; truth = r.truth; steps = r.steps; height = r.height; top = v }))
      → wrote s b₂ ≡ written b₁ m (paper (take r.written o))
      → performs st' s b₂ ≡ printed b (granted store_call st k (run l n i))
  unfolding granted shown
  run-printed k b v room w g h q =
      let f : LineColumns = record { line = k; answer = r.number; truth = r.truth; steps = r.steps; height = r.height; top = v } in
      let most = columns-most f in
      let size = paper-most (take r.written o) in
      let len = length-take-le r.written o w in
      let z = short in
      (λ j. record { store = st'; paper = written-two b 0 (columns f) (paper (take r.written o)) h q (omega arith) j })
      ∙ ap (λ (y : ℤ). printed b (serves st' (columns (record { line = k; answer = r.number; truth = r.truth; steps = r.steps; height = r.height; top = y }) ++ paper (take r.written o)))) g
      ∙ ap (λ (x : Answered Store). printed b (serves x.kept (columns (ran_columns k x.reply) ++ paper (take x.reply.report.written x.reply.output)))) e

-- ── a line ──────────────────────────────────────────────────────────────────────────────────────

pub no_room : (st : Store) (k : ℕ) (s o : List ℕ) → length o < paper_bytes → performs st 0 o ≡ performed st k s o
unfolding performed
no_room st k s o h = sym (rw (lt-leb paper_bytes (length o) h))

pub by-request : (st : Store) (k : ℕ) (s o : List ℕ) (q : Request) → paper_bytes ≤ length o → q ≡ request s → printed o (granted store_call st k q) ≡ performed st k s o
unfolding performed desk_line
by-request st k s o q h e = ap (λ z. printed o (granted store_call st k z)) e ∙ sym (rw (le-leb paper_bytes (length o) h))

two-most : (a b : List ℕ) (m n : ℕ) → length a ≤ m → length b ≤ n → length (a ++ b) ≤ m + n
two-most a b m n h g = simp length-append (omega arith)

-- what a request prints has room
granted-most : (st : Store) (k : ℕ) (q : Request) → length (granted store_call st k q).bytes ≤ paper_bytes
unfolding granted shown
granted-most st k (define l t) = omega (arith, columns-most (Printed.plain_columns k (store_call st (defines l open_permission t)).reply.report.number))
granted-most st k (withdraw l) = omega (arith, columns-most (Printed.plain_columns k (store_call st (withdraws l)).reply.report.number))
granted-most st k (run l n i) =
    let lent : List ℕ = replicate output_bytes 0 in
    let x : Run = record { letter = l; role = cashier_role; allowance = n; inputs = i; list = replicate max_height (pos 0); output = lent } in
    let r = (store_call st (runs x)).reply in
    let shows = take r.report.written r.output in
    let few : r.report.written ≤ output_bytes =
    omega (arith, (run-bounded st x).written, length-replicate {A = ℕ} output_bytes 0)
    in
    let most : length (paper shows) ≤ output_bytes + 1 = omega (arith, paper-most shows, length-take r.report.written r.output) in
    le_trans (two-most (columns (ran_columns k r)) (paper shows) most_bytes (output_bytes + 1) (columns-most (ran_columns k r)) most) (omega arith)
granted-most st k bad = omega (arith, columns-most (Printed.plain_columns k bad_line))

-- what a line prints has room
pub line-most : (st : Store) (k : ℕ) (s : List ℕ) → length (desk_line store_call st k s).bytes ≤ paper_bytes
unfolding desk_line
line-most st k s = granted-most st k (request s)

-- where there is room for any line: the store is the line's, and what it prints stands at the start of the paper
pub performed-room : (st : Store) (k : ℕ) (s o : List ℕ) → paper_bytes ≤ length o
    → let x = desk_line store_call st k s in
    performed st k s o ≡ performs x.kept (length x.bytes) (paste o 0 x.bytes (length x.bytes))
unfolding performed
performed-room st k s o h =
    let x = desk_line store_call st k s in
    let fits : 0 + length x.bytes ≤ length o = omega (arith, line-most st k s) in
    let from : 0 + length x.bytes ≡ length x.bytes = omega arith in
    rw (le-leb paper_bytes (length o) h)
    (ap (λ (w : Written). record { store = x.kept; paper = w })
    (sym (written-room o 0 x.bytes fits) ∙ ap (λ n. wrote n (paste o 0 x.bytes (length x.bytes))) from))
