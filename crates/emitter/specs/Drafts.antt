-- The first pass: the cells of a text with their false exits and ends open, one mark after another.
use Rattle.std.specs.Prelude.{◌≡◌, Result, Ok, Err, ⊤, cond, List, [], ◌∷◌, ℕ, zero, suc, ◌+◌, ◌-◌, ◌≤◌, ◌<◌, ℤ, pos, length, get_or, set, replicate, leb, ltb, eqb}
use Rattle.language.specs.Limits.{max_text, max_levels, max_cells, max_counters, max_limit}
use Rattle.language.specs.Syntax.{counter_code, print_code}
use Rattle.language.specs.Layout.{opcode, first_cell, code_start}
use Rattle.language.specs.declared.Fault.{Fault}
use Rattle.language.specs.declared.Fault.TheVariants.{Deep, TableFull, ManyCounters}
use Rattle.emitter.specs.declared.pass.Open.{Open}
use Rattle.emitter.specs.declared.pass.Open.TheVariants.{Known, Exit, End, Close, Colon}
use Rattle.emitter.specs.declared.pass.Draft.{Draft}
use Rattle.emitter.specs.declared.pass.Pass.{Pass}

-- ── cells ───────────────────────────────────────────────────────────────────────────────────────

-- A cell after the first pass: what it holds, 0 where that is not known yet, and what is open in it.
pub record Cell : Type 0 where
  pub holds : ℤ
  pub waits : Open

-- both together
abbrev pub cell : ℤ → Open → Cell
cell z o = record { holds = z; waits = o }

-- a cell that is known
abbrev pub known : ℤ → Cell
known z = cell z Known

-- a predicate's false exit
abbrev pub exit_at : ℕ → Cell
exit_at v = cell (pos 0) (Exit v)

-- a `;`, which waits for the end of its expression
abbrev pub semi_at : ℕ → Cell
semi_at v = cell (pos 0) (End v)

-- a `)`, which waits for the false exit around it, of the level v there
abbrev pub close_at : ℕ → Cell
close_at v = cell (pos 0) (Close v)

-- a `:`, which is known
abbrev pub colon_at : ℕ → ℤ → Cell
colon_at v z = cell z (Colon v)

-- the places of an array by level: the level around the outermost expression, each level, and one more
abbrev pub level_places : ℕ
level_places = max_levels + 2

-- ── drafts ──────────────────────────────────────────────────────────────────────────────────────

-- inside the outermost `(`, after cell 1
unfoldable pub fresh : Draft
fresh =
    record {
      level = 1;
      used = 1;
      counters = 0;
      cells = set (replicate max_cells (pos 0)) 0 (pos first_cell);
      opens = replicate max_cells Known;
      starts = set (replicate level_places (pos 0)) 1 (pos code_start);
    }

-- one more cell, and what is open in it
abbrev pub put : Draft → Cell → Draft
put d c = record d { used = d.used + 1; cells = set d.cells d.used c.holds; opens = set d.opens d.used c.waits }

-- more cells
abbrev pub lay : Draft → List Cell → Draft
lay d [] = d
lay d (c ∷ cs) = lay (put d c) cs

-- "table full: a mark needs cell 251"
unfoldable pub fit : Draft → List Cell → Result Draft Fault
fit d cs = cond (leb (d.used + length cs) max_cells) (Ok (lay d cs)) (Err TableFull)

-- at another level, with s for the first cells
abbrev pub at_level : Draft → ℕ → List ℤ → Draft
at_level d v s = record d { level = v; starts = s }

-- ── tokens ──────────────────────────────────────────────────────────────────────────────────────

-- "deep: an 11th level"; the first cell of each open level is kept
unfoldable pub opened : Draft → Result Draft Fault
opened d = cond (ltb d.level max_levels) (Ok (at_level d (d.level + 1) (set d.starts (d.level + 1) (pos (d.used + 1))))) (Err Deep)

-- "last `)`: 0, then a last cell holding 1"
unfoldable pub closed : Draft → Result Draft Fault
closed d =
    let e = at_level d (d.level - 1) d.starts in
    cond (eqb (d.level - 1) 0) (fit e (close_at (d.level - 1) ∷ known (pos 1) ∷ [])) (fit e (close_at (d.level - 1) ∷ []))

-- a `:`, which holds the first cell of its expression
unfoldable pub coloned : Draft → Result Draft Fault
coloned d = fit d (colon_at d.level (get_or d.starts d.level (pos 0)) ∷ [])

-- an opcode and a value, as a variable and a constant have them
abbrev pub operand_cells : ℕ → ℤ → List Cell
operand_cells b z = known (opcode b) ∷ known z ∷ []

-- an opcode and a false exit, as a predicate and a call have them
abbrev pub test_cells : ℕ → ℕ → List Cell
test_cells b v = known (opcode b) ∷ exit_at v ∷ []

-- "-36, -n, its order in the text from 0, false"
abbrev pub counter_cells : ℕ → ℕ → ℕ → List Cell
counter_cells n k v = known (opcode counter_code) ∷ known (opcode n) ∷ known (pos k) ∷ exit_at v ∷ []

-- one more counter
abbrev pub count_on : Draft → Draft
count_on d = record d { counters = d.counters + 1 }

-- "many counters: a 17th"
unfoldable pub counted : Draft → ℕ → Result Draft Fault
counted d n = cond (ltb d.counters max_counters) (fit (count_on d) (counter_cells n d.counters d.level)) (Err ManyCounters)

-- a cell for each byte
abbrev pub known_bytes : List ℕ → List Cell
known_bytes [] = []
known_bytes (b ∷ l) = known (pos b) ∷ known_bytes l

-- a print's cells: "code, length, bytes"
abbrev pub print_cells : List ℕ → List Cell
print_cells b = known (opcode print_code) ∷ known (pos (length b)) ∷ known_bytes b

-- ── tokens of a pass ────────────────────────────────────────────────────────────────────────────

-- A pass has its place beside the draft that it is lent, and writes nothing of what is open where the cell is known.

-- the draft, with the pass where p says
abbrev pub draft_at : Draft → Pass → Draft
draft_at d p = record d { level = p.level; used = p.used }

-- what is open in the cells, with this in cell i too; a known cell stands, since it is one that was not used yet
abbrev pub opened_in : List Open → ℕ → Open → List Open
opened_in os i Known = os
opened_in os i (Exit v) = set os i (Exit v)
opened_in os i (End v) = set os i (End v)
opened_in os i (Close v) = set os i (Close v)
opened_in os i (Colon v) = set os i (Colon v)

-- one more cell of a pass
abbrev pub pass_put : Draft → Cell → Draft
pass_put d c = record d { used = d.used + 1; cells = set d.cells d.used c.holds; opens = opened_in d.opens d.used c.waits }

-- more cells
abbrev pub pass_lay : Draft → List Cell → Draft
pass_lay d [] = d
pass_lay d (c ∷ cs) = pass_lay (pass_put d c) cs

-- "table full: a mark needs cell 251"
unfoldable pub pass_fit : Draft → List Cell → Result Draft Fault
pass_fit d cs = cond (leb (d.used + length cs) max_cells) (Ok (pass_lay d cs)) (Err TableFull)

-- "last `)`: 0, then a last cell holding 1"
unfoldable pub pass_closed : Draft → Result Draft Fault
pass_closed d =
    let e = at_level d (d.level - 1) d.starts in
    cond (eqb (d.level - 1) 0) (pass_fit e (close_at (d.level - 1) ∷ known (pos 1) ∷ [])) (pass_fit e (close_at (d.level - 1) ∷ []))

-- a `:`, which holds the first cell of its expression
unfoldable pub pass_coloned : Draft → Result Draft Fault
pass_coloned d = pass_fit d (colon_at d.level (get_or d.starts d.level (pos 0)) ∷ [])

-- "many counters: a 17th"
unfoldable pub pass_counted : Draft → ℕ → Result Draft Fault
pass_counted d n = cond (ltb d.counters max_counters) (pass_fit (count_on d) (counter_cells n d.counters d.level)) (Err ManyCounters)

-- ── what the code's functions need and do ───────────────────────────────────────────────────────

-- the pass is inside the outermost expression, and within the limits
pub record Inside (d : Draft) : Type 0 where
  pub cells_fit : d.used ≤ max_cells
  pub level-least : 1 ≤ d.level
  pub level-most : d.level ≤ max_levels

-- a counter's number that the pass can take
pub record Countable (d : Draft) (n : ℕ) : Type 0 where
  pub within : Inside d
  pub limit : n ≤ max_limit

-- bytes of a text, that the pass can take
pub record Printable (d : Draft) (b : List ℕ) : Type 0 where
  pub within : Inside d
  pub short : length b ≤ max_text

-- The code goes from d to e as a step says, and answers r: a refused mark leaves the draft as it was.
abbrev pub Steps : (Draft → Result Draft Fault) → Draft → Result ⊤ Fault → Draft → Type 0
Steps step d (Ok r) e = step d ≡ Ok e
Steps step d (Err why) e = (step d ≡ Err why) × (e ≡ d)

-- One more cell, after which the pass is at q. The draft's own level and used cells stay.
pub record Puts (c : Cell) (d : Draft) (p : Pass) (e : Draft) (q : Pass) : Type 0 where
  pub cell_is : draft_at e q ≡ pass_put (draft_at d p) c
  pub level-kept : e.level ≡ d.level
  pub used-kept : e.used ≡ d.used

-- The pass goes from p to q, and the draft from d to e, as a step says, and the answer is r. The draft's own level and used cells stay.
pub record Marks (step : Draft → Result Draft Fault) (d : Draft) (p : Pass) (r : Result ⊤ Fault) (e : Draft) (q : Pass) : Type 0 where
  pub steps : Steps step (draft_at d p) r (draft_at e q)
  pub level-kept : e.level ≡ d.level
  pub used-kept : e.used ≡ d.used

-- the n cells from place i on are known
abbrev pub cleared : List Open → ℕ → ℕ → List Open
cleared os i zero = os
cleared os i (suc n) = cleared (set os i Known) (i + 1) n

-- The answer whether there is room for n cells more.
abbrev pub HasRoom : Pass → ℕ → Result ⊤ Fault → Type 0
HasRoom p n (Ok r) = p.used + n ≤ max_cells
HasRoom p n (Err why) = (max_cells < p.used + n) × (why ≡ TableFull)
