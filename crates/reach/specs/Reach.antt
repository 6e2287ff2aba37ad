-- U2 of document 02: what a letter can reach. The relation that a reader would write, and the report.
use Rattle.std.specs.Prelude.{◌≡◌, ℕ, zero, suc, ◌-◌, Bool, true, false, cond, not, ◌&&◌, ◌||◌, List, [], ◌∷◌, get_or, eqb}
use Rattle.std.proofs.Math.Option.{Option, none, some}
use Rattle.language.specs.declared.Ending.TheVariants.{Damaged}
use Rattle.language.specs.Answers.{ending_number}
use Rattle.language.specs.Limits.{max_letters}
use Rattle.language.specs.Letters.{letter_index}
use Rattle.language.specs.Tables.{stands_at}
use Rattle.book.specs.declared.Refusal.{Refusal}
use Rattle.book.specs.Refusals.{refusal_number, first, text_tests}
use Rattle.book.specs.Store.{Store, store_view, entry_at}
use Rattle.marks.specs.Marks.{marks, undamaged, calls_in}

-- ── chains of call marks ────────────────────────────────────────────────────────────────────────

-- the letters of the call marks in letter a's table, if it stands
unfoldable pub called_by : Store → ℕ → List ℕ
called_by st a = cond (stands_at st.used a) (calls_in (marks (entry_at st a).table)) []

-- a is one of the list
abbrev pub member : ℕ → List ℕ → Bool
member a [] = false
member a (b ∷ l) = eqb b a || member a l

-- letter a calls letter b: a call mark of b is in a's table, which stands
abbrev pub calls : Store → ℕ → ℕ → Bool
calls st a b = member b (called_by st a)

-- the letters of the list are called one by the other, from letter a to letter b
abbrev pub Chain : Store → ℕ → List ℕ → ℕ → Type 0
Chain st a [] b = a ≡ b
Chain st a (x ∷ l) b = (calls st a x ≡ true) × Chain st x l b

-- "Reached means that some chain of call marks in the standing tables leads there; the letter itself counts as reached."
pub record Reaches (st : Store) (a b : ℕ) : Type 0 where
  pub via : List ℕ
  pub chain : Chain st a via b

-- ── the report ──────────────────────────────────────────────────────────────────────────────────

-- "two marks for each of the 26 letters": a mark for each of n letters, by a test
abbrev pub flags_by : ℕ → (ℕ → Bool) → List ℕ
flags_by zero p = []
flags_by (suc n) p = cond (p zero) 1 0 ∷ flags_by n (λ b. p (suc b))

-- letter b is marked
abbrev pub is_flagged : List ℕ → ℕ → Bool
is_flagged m b = eqb (get_or m b 0) 1

-- one of the first n letters passes a test
abbrev pub any_of : ℕ → (ℕ → Bool) → Bool
any_of zero p = false
any_of (suc n) p = any_of n p || p n

-- a call further: what is marked, and what a marked letter calls, where f says which letter calls which
unfoldable pub spread : (ℕ → ℕ → Bool) → List ℕ → List ℕ
spread f m = flags_by max_letters (λ b. is_flagged m b || any_of max_letters (λ a. is_flagged m a && f a b))

-- n calls further
unfoldable pub spread_by : (ℕ → ℕ → Bool) → ℕ → List ℕ → List ℕ
spread_by f zero m = m
spread_by f (suc n) m = spread f (spread_by f n m)

-- a chain that comes to no letter twice has no more calls than this
abbrev pub most_calls : ℕ
most_calls = max_letters - 1

-- "reached", from letter a
unfoldable pub reached_by : Store → ℕ → List ℕ
reached_by st a = spread_by (calls st) most_calls (flags_by max_letters (λ b. eqb a b))

-- "missing (reached, without a text)", of the letters marked in m
unfoldable pub missing_of : List ℕ → List ℕ → List ℕ
missing_of u m = flags_by max_letters (λ b. is_flagged m b && not (stands_at u b))

-- each of the first n letters passes a test
abbrev pub each_of : ℕ → (ℕ → Bool) → Bool
each_of zero p = true
each_of (suc n) p = each_of n p && p n

-- letter a's table, if it stands, is read without meeting "a cell that 29 describes"
unfoldable pub readable : Store → ℕ → Bool
readable st a = cond (stands_at st.used a) (undamaged (marks (entry_at st a).table)) true

-- The number that a call returns, and what the two lent arrays then hold.
pub record Report : Type 0 where
  pub number : ℕ
  pub reached : List ℕ
  pub missing : List ℕ

-- these three together
abbrev pub reports : ℕ → List ℕ → List ℕ → Report
reports n r m = record { number = n; reached = r; missing = m }

-- "13, 1, 10 in that order"
abbrev pub refusal_of : Store → ℕ → Option Refusal
refusal_of st l = first (text_tests (store_view st) l)

-- "then 29, here a refusal, when reading any standing table mark after mark from cell 2 meets a cell that 29 describes"; else the report of letter l
abbrev pub report_of : Option Refusal → Bool → Store → ℕ → List ℕ → List ℕ → Report
report_of (some x) u st l r m = reports (refusal_number x) r m
report_of none false st l r m = reports (ending_number Damaged) r m
report_of none true st l r m =
    reports 0 (reached_by st (letter_index l)) (missing_of st.used (reached_by st (letter_index l)))

-- What is reported of letter l of any store, in arrays that held r and m; a refused call leaves them so.
unfoldable pub reach : Store → ℕ → List ℕ → List ℕ → Report
reach st l r m = report_of (refusal_of st l) (each_of max_letters (readable st)) st l r m
