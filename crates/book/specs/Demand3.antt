-- Demand 3: for every list of define, withdraw and run calls from a fresh store, refused ones included, each answer is the book's.
--
-- A session is a list of steps of a program: an event, the state that it left, and what it answered. `Promised` asks of each step the very equation that
-- the `ensures` of the function states, over the state that the step before left, and nothing else. Step functions prove, for every argument, that a call
-- makes such a step: rec/src/steps.rt of the functions that librec.a exports, engine/src/steps.rt of the methods of `Store`.
use Rattle.std.specs.Prelude.{◌≡◌, ℕ, suc, Bool, true, false, List, [], ◌∷◌, length}
use Rattle.std.proofs.Math.Option.{Option, none, some}
use Rattle.language.specs.Limits.{max_height}
use Rattle.language.specs.Letters.{is_letter, letter_index, letter_byte}
use Rattle.language.specs.Roles.{is_role, bars}
use Rattle.language.specs.Values.{lawful}
use Rattle.language.specs.Syntax.{Expr}
use Rattle.language.specs.Effects.{start}
use Rattle.language.specs.Meaning.{meaning}
use Rattle.book.specs.Calls.{Run, runs}
use Rattle.book.specs.Replies.{Reply, reported}
use Rattle.book.specs.Refusals.{is_refusal}
use Rattle.book.specs.Book.{fresh_book}
use Rattle.book.specs.Store.{Store, fresh_store}
use Rattle.book.specs.Events.{Event, calls, asked, the_store, the_book}
use Rattle.book.specs.Sessions.{answers, Step, calls_of, replies_of, last_of, Promised}
use Rattle.book.specs.History.{History, Standing, standing, read_text, permission_of}

-- the history that a session made, from the state s on; `of` says which store a state of the program is
abbrev pub history_of : {P : Type 0} → (P → Store) → P → List (Step P Event) → History
history_of of s ss = record { events = calls_of ss; replies = replies_of ss; store = of (last_of s ss) }

-- a claim about histories holds of every session from a fresh store whose steps keep their promises, whatever the program
abbrev pub Always : (History → Type 0) → Type 1
Always claim =
    (P : Type 0) (of : P → Store) (s : P) (ss : List (Step P Event)) → of s ≡ fresh_store → Promised of (asked the_store) s ss → claim (history_of of s ss)

-- a number that no answer of a list has
abbrev pub Never : ℕ → List Reply → Type 0
Never n [] = Unit {0}
Never n (r ∷ rs) = (r.report.number ≡ n → ⊥) × Never n rs

-- Each answer is the book's. "On a store from demand 3's calls, 13 and 29 do not occur."
pub record ByTheBook (h : History) : Type 0 where
  pub replies : h.replies ≡ answers (asked the_book) fresh_book h.events
  pub sound : Never 13 h.replies
  pub undamaged : Never 29 h.replies

-- THE CLAIM. proofs/Demand3 `demand-3`
abbrev pub Demand3 : Type 1
Demand3 = Always ByTheBook

-- ── two readable consequences ───────────────────────────────────────────────────────────────────

-- "a run of a letter a to z with 64 list places, lawful inputs and one of the two roles"
pub record Admissible (x : Run) : Type 0 where
  pub letter : is_letter x.letter ≡ true
  pub role : is_role x.role ≡ true
  pub inputs : lawful x.inputs ≡ true
  pub places : length x.list ≡ max_height

-- the answer to a run that follows
abbrev pub run_after : History → Run → Reply
run_after h x = (asked the_store h.store (calls (runs x))).reply

-- what stands of its letter refuses a run by a caller with the role r: 10, no text does; or 33, one does that is not for the caller
abbrev pub refuses : ℕ → Option Standing → Bool
refuses r none = true
refuses r (some y) = bars r y.permission

-- it "is refused exactly when 10 or 33 fits". proofs/Demand3 `refused-exactly`
abbrev pub RefusedExactly : History → Type 0
RefusedExactly h = (x : Run) → Admissible x → is_refusal (run_after h x).report.number ≡ refuses x.role (standing h x.letter)

-- otherwise it gives what the nested meaning gives over the texts then standing, with their permissions and its role. proofs/Demand3 `obeys-standing`
abbrev pub ObeysStanding : History → Type 0
ObeysStanding h =
    (x : Run) (w : Expr) → Admissible x → read_text (standing h x.letter) ≡ some w → bars x.role (permission_of (standing h x.letter)) ≡ false
    → let v = h.store.variables in
    run_after h x
    ≡ reported v x.allowance
    (meaning (λ a. read_text (standing h (letter_byte a))) (λ a. permission_of (standing h (letter_byte a))) x.role (suc x.allowance)
    (letter_index x.letter) w 0 (start v x.inputs x.output) x.allowance)
