-- What is proved of a run as the runner makes it, each statement with the name of its proof.
use Rattle.std.specs.Prelude.{◌≡◌, Bool, false, List, ℕ, eqb, ℤ}
use Rattle.language.specs.Letters.{letter_index, letter_byte}
use Rattle.language.specs.Roles.{steward_permission, cashier_role}
use Rattle.book.specs.Calls.{Run, runs}
use Rattle.book.specs.Replies.{reported}
use Rattle.book.specs.Refusals.{is_refusal}
use Rattle.book.specs.Store.{Store, store_call}
use Rattle.book.specs.History.{History, standing, permission_of}
use Rattle.book.specs.Demand3.{run_after}
use Rattle.operands.specs.Loop.{Configuration}
use Rattle.operands.specs.declared.cells.Code.{Code}
use Rattle.interpreter.specs.Fetching.{fetched, Point, Progress, next, course, comes_to, starts_at, goes_on}

-- "before every mark the fetched pair is the store's for the letter then obeyed". For any store and any run, from any configuration. proofs/Claims `pair-stored`
abbrev pub PairStored : Type 0
PairStored =
    (c : List ℤ) (u k : List ℕ) (r : ℕ) (m : Configuration) (n : ℕ) (s : Point) → course c u k r n m ≡ next s → s.pair ≡ fetched u s.configuration.letter

-- "Two stores that differ only in used-cell counts, given the same pair at the same point of otherwise equal runs, go on alike until a call or return is
-- due." proofs/Claims `go-on-alike`
abbrev pub GoOnAlike : Type 0
GoOnAlike = (c : List ℤ) (u v k : List ℕ) (r : ℕ) (p : Code) (n : ℕ) (m : Configuration) → goes_on c u k r p n m ≡ goes_on c v k r p n m

-- a run x of the store st after n turns, each of them a mark obeyed or a return: the letter and the cell that are next, or what the run came to
abbrev pub turns_of : Store → Run → ℕ → Progress
turns_of st x n =
    course st.cells st.used st.permissions x.role n
    (starts_at (letter_index x.letter) x.allowance st.variables x.inputs x.output)

-- "Answers remain those of the meaning": of any store, after any number of turns of a run that is not refused, what the table machine comes to is what the
-- run answers; that this is the meaning is `machine-meaning`. proofs/Claims `answers-remain`
abbrev pub AnswersRemain : Type 0
AnswersRemain =
    (st : Store) (x : Run) → is_refusal (store_call st (runs x)).reply.report.number ≡ false → (n : ℕ)
    → (store_call st (runs x)).reply
    ≡ reported st.variables x.allowance (comes_to st.cells st.used st.permissions x.role (turns_of st x n))

-- ── document 02, U7 ─────────────────────────────────────────────────────────────────────────────

-- letter a, a as 0, is a steward's at the end of a history: the define that its text stands from gave it the permission
abbrev pub is_stewards : History → ℕ → Bool
is_stewards h a = eqb (permission_of (standing h (letter_byte a))) steward_permission

-- a cashier's run that follows, and is not refused
pub record CashierRuns (h : History) (x : Run) : Type 0 where
  pub role : x.role ≡ cashier_role
  pub accepted : is_refusal (run_after h x).report.number ≡ false

-- It obeys no mark of a letter that is a steward's then, through however many letters: whatever number of turns it has made, the letter whose mark is next
-- is not a steward's. So of every session of a program. proofs/Claims `obeys-none`
abbrev pub ObeysNone : History → Type 0
ObeysNone h = (x : Run) → CashierRuns h x → (n : ℕ) (z : Point) → turns_of h.store x n ≡ next z → is_stewards h z.configuration.letter ≡ false
