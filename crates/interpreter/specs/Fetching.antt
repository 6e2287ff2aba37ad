-- Document 02, U3: "the runner shall fetch the letter's used-cell count and its start in the store when a run starts, at a call and at a return, and nowhere
-- between". A run as the runner makes it, with the pair that it holds.
use Rattle.std.specs.Prelude.{◌≡◌, Bool, true, false, cond, List, [], ℕ, zero, suc, ◌*◌, ℤ, get_or}
use Rattle.language.specs.Limits.{max_cells}
use Rattle.language.specs.Layout.{code_start}
use Rattle.language.specs.Effects.{start}
use Rattle.language.specs.Meaning.{Outcome}
use Rattle.language.specs.Machine.{Decoded, last, damaged, code, transfer, fail, operate_at, test_at, call_at, decode, arrive, run}
use Rattle.language.specs.Tables.{decode_at, stands_at, barred_at}
use Rattle.operands.specs.declared.Machine.{Machine}
use Rattle.operands.specs.declared.Frame.{Frame}
use Rattle.operands.specs.Operands.{table_in}
use Rattle.operands.specs.Loop.{Configuration, configuration, Turn, continues, enters, finishes, decoded_turn}
use Rattle.dispatch.specs.Turning.{Turning}
use Rattle.operands.specs.declared.cells.Code.{Code}

-- what is fetched of letter a: where its cells start, and its count of the used-cell counts u
abbrev pub fetched : List ℕ → ℕ → Code
fetched u a = record { base = a * max_cells; end = get_or u a 0 }

-- A mark can be obeyed: a turn can be made over the table that was fetched, "the fetched pair is the store's for the letter then obeyed", and that letter,
-- by its permission of the permissions k, is for a caller with the role r (document 02, U7).
pub record Obeying (u k : List ℕ) (r : ℕ) (p : Code) (m : Machine) (f : List Frame) (o : List ℕ) : Type 0 where
  pub turning : Turning p m f o
  pub pair : p ≡ fetched u m.letter
  pub allowed : barred_at k r m.letter ≡ false

-- ── a run ───────────────────────────────────────────────────────────────────────────────────────

-- what the runner holds before a mark: the fetched pair, and where the run stands
pub record Point : Type 0 where
  pub pair : Code
  pub configuration : Configuration

-- a mark is next, or the run is over
pub data Progress : Type 0 where
  next : Point → Progress
  over : Outcome → Progress

-- over a store with the cells c, the used-cell counts u and the permissions k, for a caller with the role r
module _ (c : List ℤ) (u k : List ℕ) (r : ℕ) where
  -- the turn at the due cell of the table that was fetched
  abbrev pub turn_by : Code → Configuration → Turn
  turn_by p m = decoded_turn (stands_at u) (barred_at k r) (decode (table_in c p) m.cell) m

  -- a letter's code is entered: its pair is fetched
  abbrev pub entered : Configuration → Progress
  entered m = next (record { pair = fetched u m.letter; configuration = m })

  -- after a turn: "at a call and at a return, and nowhere between"
  abbrev pub proceeds : Code → Turn → Progress
  proceeds p (continues m) = next (record { pair = p; configuration = m })
  proceeds p (enters m) = entered m
  proceeds p (finishes o) = over o

  -- one turn on
  abbrev pub turned_on : Progress → Progress
  turned_on (next s) = proceeds s.pair (turn_by s.pair s.configuration)
  turned_on (over o) = over o

  -- what is held after n turns of a run from that configuration, the pair fetched "when a run starts"
  unfoldable pub course : ℕ → Configuration → Progress
  course zero m = entered m
  course (suc n) m = turned_on (course n m)

  -- what the table machine comes to from there
  abbrev pub comes_to : Progress → Outcome
  comes_to (over o) = o
  comes_to (next s) =
      let m = s.configuration in
      run (decode_at c u) (stands_at u) (barred_at k r) m.left (arrive (decode_at c u) (stands_at u) (barred_at k r) m.frames m.letter m.cell) m.state

-- where a run of letter a starts, with allowance n, variables v, inputs i and output o
abbrev pub starts_at : ℕ → ℕ → List ℤ → List ℤ → List ℕ → Configuration
starts_at a n v i o = configuration a code_start [] (start v i o) n

-- ── until a call or a return is due ─────────────────────────────────────────────────────────────

-- a call or a return is due where the cell decodes so
abbrev pub leaves : Decoded → Bool
leaves last = true
leaves damaged = false
leaves (code (transfer n)) = false
leaves (code fail) = true
leaves (code (operate_at o n)) = false
leaves (code (test_at p n f)) = false
leaves (code (call_at a n f)) = true

-- on from a turn that goes on
abbrev pub on_turn : Turn → (Configuration → Turn) → Turn
on_turn (continues m) k = k m
on_turn (enters m) k = enters m
on_turn (finishes o) k = finishes o

-- over a store, with the pair p: at most n turns from a configuration, until a call or a return is due
unfoldable pub goes_on : List ℤ → List ℕ → List ℕ → ℕ → Code → ℕ → Configuration → Turn
goes_on c u k r p zero m = continues m
goes_on c u k r p (suc n) m =
    cond (leaves (decode (table_in c p) m.cell)) (continues m) (on_turn (turn_by c u k r p m) (goes_on c u k r p n))
