-- What is proved about the definitions, each statement with the name of its proof.
use Rattle.std.specs.Prelude.{◌≡◌, ℕ, suc, ◌+◌, ◌≤◌, ◌<◌, Bool, true, false, cond, not, List, ◌∷◌, ◌++◌, ℤ, pos, ◌≤ℤ◌, length, get_or, take, drop, eqb}
use Rattle.std.proofs.Math.Option.{Option, none, some}
use Rattle.language.specs.declared.Table.{Table}
use Rattle.language.specs.declared.Fault.{Fault}
use Rattle.language.specs.declared.Fault.TheVariants.{LongText, Unfinished}
use Rattle.language.specs.declared.Ending.TheVariants.{PaperOut}
use Rattle.language.specs.Answers.{fault_number}
use Rattle.language.specs.Limits.{max_text, max_cells, max_height, write_width}
use Rattle.language.specs.Syntax.{Expr, close, semi, colon, operate, test, call, inner, operator, write, divide}
use Rattle.language.specs.Values.{is_value}
use Rattle.language.specs.Roles.{permission_at}
use Rattle.language.specs.Reading.{Reading, refused, accepted, read}
use Rattle.language.specs.Grammar.{Spells, Within}
use Rattle.language.specs.Layout.{after_operation, after_predicate, after_call, after_expr, false_exit, code_start, used_cells, layout}
use Rattle.language.specs.Division.{NotAbove, IsQuotient, quotient}
use Rattle.language.specs.Money.{read_money}
use Rattle.language.specs.Effects.{State, start, goes, stops, top, second, combined, column, perform}
use Rattle.language.specs.Meaning.{Outcome, ended, stopped, meaning}
use Rattle.language.specs.Machine.{Instruction, transfer, fail, operate_at, test_at, call_at, Decoded, last, code, cell, decode}
use Rattle.language.specs.Tables.{table_at, execute}

-- ── reading ─────────────────────────────────────────────────────────────────────────────────────

-- a text keeps the written grammar and the limits, as an expression
pub record Keeps (t : List ℕ) (w : Expr) : Type 0 where
  pub grammar : Spells t w
  pub limits : Within t w

-- A text is accepted exactly when it keeps grammar and limits, and as that expression. proofs/Grammar `reading-exact`
abbrev pub ReadingExact : Type 0
ReadingExact = (t : List ℕ) (w : Expr) → (read t ≡ accepted w → Keeps t w) × (Keeps t w → read t ≡ accepted w)

-- That expression is unique. proofs/Grammar `spelling-unique`
abbrev pub SpellingUnique : Type 0
SpellingUnique = (t : List ℕ) (w v : Expr) → Keeps t w → Keeps t v → w ≡ v

-- ── the first fault ─────────────────────────────────────────────────────────────────────────────

-- a beginning that no byte has spoilt: it is unfinished, or accepted
abbrev pub NotYet : Reading → Type 0
NotYet (refused r) = r ≡ Unfinished
NotYet (accepted w) = Unit {0}

-- A byte of the text t is at fault with r: every text of at most 256 bytes that agrees with t up to and with that byte is refused by r, and no
-- beginning of t that ends before it is.
pub record FaultAt (r : Fault) (t : List ℕ) : Type 0 where
  pub before : List ℕ
  pub at : ℕ
  pub rest : List ℕ
  pub parts : t ≡ before ++ at ∷ rest
  pub settled : (u : List ℕ) → length (before ++ at ∷ u) ≤ max_text → read (before ++ at ∷ u) ≡ refused r
  pub unspoilt : (p s : List ℕ) → before ≡ p ++ s → NotYet (read p)

-- a number that a byte is at fault with: not 2, which is the text's length, nor 7, which is its end
abbrev pub of_byte : Fault → Bool
of_byte r = cond (eqb (fault_number r) 2) false (not (eqb (fault_number r) 7))

-- "the number of its first fault": such a number refuses a text exactly when a byte is at fault with it. proofs/ReadingFaults `first-fault`
abbrev pub FirstFault : Type 0
FirstFault = (t : List ℕ) (r : Fault) → of_byte r ≡ true → (read t ≡ refused r → FaultAt r t) × (length t ≤ max_text → FaultAt r t → read t ≡ refused r)

-- the text has no byte at fault, and ends before its grammar does
pub record EndsEarly (t : List ℕ) : Type 0 where
  pub text : length t ≤ max_text
  pub faultless : (r : Fault) → of_byte r ≡ true → FaultAt r t → ⊥
  pub incomplete : (w : Expr) → Keeps t w → ⊥

-- "unfinished: the text ends before its grammar does": exactly then. proofs/ReadingFaults `unfinished-exactly`
abbrev pub UnfinishedExactly : Type 0
UnfinishedExactly = (t : List ℕ) → (read t ≡ refused Unfinished → EndsEarly t) × (EndsEarly t → read t ≡ refused Unfinished)

-- "long text: over 256 bytes": exactly then. proofs/ReadingFaults `long-exactly`
abbrev pub LongExactly : Type 0
LongExactly = (t : List ℕ) → (read t ≡ refused LongText → max_text < length t) × (max_text < length t → read t ≡ refused LongText)

-- ── layout ──────────────────────────────────────────────────────────────────────────────────────

-- what an expression's `)` cell says: the last one's 0, or the false exit of the enclosing expression
pub data Closing : Type 0 where
  outermost : Closing
  exit_to : ℕ → Closing

-- a `)` cell's instruction
abbrev pub closing_code : Closing → Instruction
closing_code outermost = fail
closing_code (exit_to f) = transfer f

-- From cell q on, the machine decodes the rest e of an expression that starts at cell h and ends before cell x, mark by mark.
abbrev pub Decodes : (ℕ → Decoded) → Expr → ℕ → ℕ → Closing → ℕ → Type 0
Decodes at close h x c q = (at q ≡ code (closing_code c)) × (suc q ≡ x)
Decodes at (semi e) h x c q = (at q ≡ code (transfer x)) × Decodes at e h x c (suc q)
Decodes at (colon e) h x c q = (at q ≡ code (transfer h)) × Decodes at e h x c (suc q)
Decodes at (operate o e) h x c q = (at q ≡ code (operate_at o (after_operation o q))) × Decodes at e h x c (after_operation o q)
Decodes at (test p e) h x c q =
    (at q ≡ code (test_at p (after_predicate p q) (false_exit e (after_predicate p q)))) × Decodes at e h x c (after_predicate p q)
Decodes at (call a e) h x c q = (at q ≡ code (call_at a (after_call q) (false_exit e (after_call q)))) × Decodes at e h x c (after_call q)
Decodes at (inner f e) h x c q =
    Decodes at f q (after_expr f q) (exit_to (false_exit e (after_expr f q))) q × Decodes at e h x c (after_expr f q)

-- A table has 3 to 250 used cells of 250, says its expression from cell 2 on, and ends at its last used cell. "Cell 1 holds 2000"; "The other cells
-- of the letter's 250 are 0."
pub record Lays (w : Expr) : Type 0 where
  pub least : 3 ≤ (layout w).used
  pub most : (layout w).used ≤ max_cells
  pub whole : length (layout w).cells ≡ max_cells
  pub first : cell (layout w) 1 ≡ pos 2000
  pub decodes : Decodes (decode (layout w)) w code_start (used_cells w) outermost code_start
  pub ends : decode (layout w) (used_cells w) ≡ last
  pub zeros : (q : ℕ) → (layout w).used < q → cell (layout w) q ≡ pos 0

-- An accepted text's table does so. proofs/TablesMeaning `layout-decodes`
abbrev pub LayoutDecodes : Type 0
LayoutDecodes = (t : List ℕ) (w : Expr) → read t ≡ accepted w → Lays w

-- ── what a run reads ────────────────────────────────────────────────────────────────────────────

-- two tables have the same count, and the same cells from cell 2 to it
pub record Alike (t v : Table) : Type 0 where
  pub count : t.used ≡ v.used
  pub within : (q : ℕ) → code_start ≤ q → q ≤ t.used → cell t q ≡ cell v q

-- "Cell 1 holds 2000 and no run reads it", nor a cell past the used ones: over tables so alike a run is the same. proofs/MachineReads `reads-used`
abbrev pub ReadsUsed : Type 0
ReadsUsed =
    (c d : List ℤ) (u v k : List ℕ) (r : ℕ) → ((a : ℕ) → Alike (table_at c u a) (table_at d v a)) → (a n : ℕ) (s : State)
    → execute c u k r a n s ≡ execute d v k r a n s

-- ── division ────────────────────────────────────────────────────────────────────────────────────

-- Document 02, U5: where the divisor is not 0, `quotient` is the number that the law says, and no other is. proofs/Division `quotient-exact`
abbrev pub QuotientExact : Type 0
QuotientExact = (a b q : ℤ) → (b ≡ pos 0 → ⊥) → (quotient a b ≡ q → IsQuotient a b q) × (IsQuotient a b q → quotient a b ≡ q)

-- "the greatest whole number not above the exact quotient": the whole numbers that are not above it are those up to `quotient`.
-- proofs/Division `quotient-greatest`
abbrev pub QuotientGreatest : Type 0
QuotientGreatest = (a b p : ℤ) → (b ≡ pos 0 → ⊥) → (NotAbove a b p → p ≤ℤ quotient a b) × (p ≤ℤ quotient a b → NotAbove a b p)

-- By 0 there is no such number: so 24. proofs/Division `none-by-zero`
abbrev pub NoneByZero : Type 0
NoneByZero = (a q : ℤ) → IsQuotient a (pos 0) q → ⊥

-- In a run: where there are two values and the top is not 0, `/` replaces them by the number that the law says, which is a value too.
-- proofs/Division `divides-down`
abbrev pub DividesDown : Type 0
DividesDown =
    (s : State) (q : ℤ) → 2 ≤ s.height → is_value (second s) ≡ true → (top s ≡ pos 0 → ⊥) → IsQuotient (second s) (top s) q
    → perform (operator divide) s ≡ goes (combined s q)

-- ── money ───────────────────────────────────────────────────────────────────────────────────────

-- Document 02, U6: "right-justified in 14 columns": no value takes more of them, or fewer. proofs/Money `column-width`
abbrev pub ColumnWidth : Type 0
ColumnWidth = (v : ℤ) → length (column v) ≡ write_width

-- Reading back what `O` wrote gives the value. proofs/Money `read_back`
abbrev pub ReadBack : Type 0
ReadBack = (v : ℤ) → is_value v ≡ true → read_money (column v) ≡ some v

-- So no two values look alike on the slip. proofs/Money `columns-differ`
abbrev pub ColumnsDiffer : Type 0
ColumnsDiffer = (v w : ℤ) → is_value v ≡ true → is_value w ≡ true → column v ≡ column w → v ≡ w

-- From s to t, 14 bytes came to the written ones, and they read back as the top.
pub record Shows (s t : State) : Type 0 where
  pub longer : t.written ≡ s.written + write_width
  pub reads : read_money (take write_width (drop s.written t.output)) ≡ some (top s)

-- In a run so it is wherever `O` goes on over a value. "Paper out and the output length follow the new width." proofs/Money `shows-top`
abbrev pub ShowsTop : Type 0
ShowsTop = (s t : State) → is_value (top s) ≡ true → perform (operator write) s ≡ goes t → Shows s t

-- And where the list is not empty, it stops the run by 26 exactly when fewer than 14 bytes are left. proofs/Money `paper-out-exactly`
abbrev pub PaperOutExactly : Type 0
PaperOutExactly =
    (s : State) → 1 ≤ s.height
    → (perform (operator write) s ≡ stops PaperOut → length s.output < s.written + write_width)
    × (length s.output < s.written + write_width → perform (operator write) s ≡ stops PaperOut)

-- ── the machine and the meaning ─────────────────────────────────────────────────────────────────

-- a table is that of an accepted text
pub record HoldsText (t : Table) (w : Expr) : Type 0 where
  pub table : t ≡ layout w
  pub text : List ℕ
  pub reads : read text ≡ accepted w

-- a table is that of an accepted text, or of a cleared letter
abbrev pub Holds : Table → Option Expr → Type 0
Holds t none = t.used ≡ 0
Holds t (some w) = HoldsText t w

-- A run over the tables of standing texts is the nested meaning over the texts, for any marks k and any role r: ending, truth, steps, stack, variables,
-- inputs taken, output. Any bound g above the allowance gives it. proofs/TablesMeaning `machine-meaning`
abbrev pub MachineMeaning : Type 0
MachineMeaning =
    (texts : ℕ → Option Expr) (c : List ℤ) (u k : List ℕ) (r : ℕ) → ((a : ℕ) → Holds (table_at c u a) (texts a))
    → (a : ℕ) (w : Expr) → texts a ≡ some w → (n g : ℕ) (s : State) → n < g → execute c u k r a n s ≡ meaning texts (permission_at k) r g a w 0 s n

-- what a run has done to the caller's list and output o: "The first list place is the bottom; places above the height are 0; output past its
-- length is unchanged"
pub record Lent (o : List ℕ) (s : State) : Type 0 where
  pub places : length s.stack ≡ max_height
  pub height : s.height ≤ max_height
  pub above : (k : ℕ) → s.height ≤ k → get_or s.stack k (pos 0) ≡ pos 0
  pub written : s.written ≤ length o
  pub bytes : length s.output ≡ length o
  pub past : drop s.written s.output ≡ drop s.written o

-- the state in which a run ended or stopped
abbrev pub final_state : Outcome → State
final_state (ended t s r) = s
final_state (stopped e s r) = s

-- Every run over any cells leaves the list and the output so. proofs/EffectsLent `lent-parts`
abbrev pub LentParts : Type 0
LentParts = (c : List ℤ) (u k : List ℕ) (r a n : ℕ) (v i : List ℤ) (o : List ℕ) → Lent o (final_state (execute c u k r a n (start v i o)))
