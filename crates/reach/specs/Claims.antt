-- What is proved of the report, each statement with the name of its proof.
use Rattle.std.specs.Prelude.{◌≡◌, ℕ, true, false, List}
use Rattle.language.specs.Letters.{letter_index}
use Rattle.language.specs.Tables.{stands_at}
use Rattle.book.specs.Calls.{Run}
use Rattle.book.specs.Store.{Store}
use Rattle.book.specs.History.{History}
use Rattle.book.specs.Demand3.{run_after}
use Rattle.reach.specs.Reach.{Reaches, is_flagged, Report, reach}

-- "Reached means that some chain of call marks in the standing tables leads there; the letter itself counts as reached." In both directions, for any
-- store and any letter, unless the call is refused. proofs/Claims `reached-exactly`
abbrev pub ReachedExactly : Type 0
ReachedExactly =
    (st : Store) (l : ℕ) (r m : List ℕ) (b : ℕ) → (reach st l r m).number ≡ 0
    → (is_flagged (reach st l r m).reached b ≡ true → Reaches st (letter_index l) b)
    × (Reaches st (letter_index l) b → is_flagged (reach st l r m).reached b ≡ true)

-- "missing (reached, without a text)". In both directions. proofs/Claims `missing-exactly`
abbrev pub MissingExactly : Type 0
MissingExactly =
    (st : Store) (l : ℕ) (r m : List ℕ) (b : ℕ) → (reach st l r m).number ≡ 0
    → (is_flagged (reach st l r m).missing b ≡ true → Reaches st (letter_index l) b × (stands_at st.used b ≡ false))
    × (Reaches st (letter_index l) b × (stands_at st.used b ≡ false) → is_flagged (reach st l r m).missing b ≡ true)

-- A refused call leaves both arrays as they were. proofs/Claims `refusal-keeps`
abbrev pub RefusalKeeps : Type 0
RefusalKeeps =
    (st : Store) (l : ℕ) (r m : List ℕ) → ((reach st l r m).number ≡ 0 → ⊥)
    → ((reach st l r m).reached ≡ r) × ((reach st l r m).missing ≡ m)

-- some letter is marked
pub record SomeFlagged (m : List ℕ) : Type 0 where
  pub letter : ℕ
  pub marked : is_flagged m letter ≡ true

-- a report that is given, with a letter marked missing
pub record Warns (x : Report) : Type 0 where
  pub given : x.number ≡ 0
  pub missing : SomeFlagged x.missing

-- "A run of that letter from a sequence-made store may end 27 only when some letter is marked missing." Of every session of a program.
-- proofs/Claims `ends-no-text`
abbrev pub EndsNoText : History → Type 0
EndsNoText h = (x : Run) (r m : List ℕ) → (run_after h x).report.number ≡ 27 → Warns (reach h.store x.letter r m)

-- On a sequence-made store 13 and 29 do not occur here either. proofs/Claims `never-damaged`
abbrev pub NeverDamaged : History → Type 0
NeverDamaged h = (l : ℕ) (r m : List ℕ) → ((reach h.store l r m).number ≡ 13 → ⊥) × ((reach h.store l r m).number ≡ 29 → ⊥)
