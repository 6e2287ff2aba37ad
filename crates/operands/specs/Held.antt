-- What the code holds, and where the table machine stands then.
use Rattle.std.specs.Prelude.{List, [], ◌∷◌, ℕ, zero, suc, ◌-◌, ℤ, get_or}
use Rattle.language.specs.declared.Ending.{Ending}
use Rattle.language.specs.Effects.{State}
use Rattle.language.specs.Meaning.{ended}
use Rattle.language.specs.Machine.{Frame as OpenCall}
use Rattle.operands.specs.declared.Frame.{Frame}
use Rattle.operands.specs.declared.Machine.{Machine}
use Rattle.operands.specs.declared.Status.{Status}
use Rattle.operands.specs.declared.Status.TheVariants.{Goes, Enters, Over, Stopped}
use Rattle.operands.specs.Loop.{Configuration, Turn, continues, enters, finishes, halt}

-- the machine's numbers; the store's cells, used-cell counts and permissions, the caller's role and the inputs, which no turn changes; and what a turn can
-- change
pub record Held : Type 0 where
  pub machine : Machine
  pub cells : List ℤ
  pub used : List ℕ
  pub permissions : List ℕ
  pub role : ℕ
  pub inputs : List ℤ
  pub frames : List Frame
  pub counts : List ℕ
  pub variables : List ℤ
  pub stack : List ℤ
  pub output : List ℕ

-- all of it from its parts
abbrev pub held : Machine → List ℤ → List ℕ → List ℕ → ℕ → List ℤ → List Frame → List ℕ → List ℤ → List ℤ → List ℕ → Held
held m c u k r i f n v l o =
    record { machine = m; cells = c; used = u; permissions = k; role = r; inputs = i; frames = f; counts = n; variables = v; stack = l; output = o }

-- ── where the machine stands ────────────────────────────────────────────────────────────────────

-- no call's numbers, which stand where none is open
abbrev pub no_frame : Frame
no_frame = record { letter = 0; next = 0; exit = 0 }

-- an open call, of its numbers
abbrev pub open_call : Frame → OpenCall
open_call f = record { letter = f.letter; next = f.next; exit = f.exit }

-- the first d open calls, the last first
unfoldable pub frames_of : List Frame → ℕ → List OpenCall
frames_of a zero = []
frames_of a (suc d) = open_call (get_or a d no_frame) ∷ frames_of a d

-- the state of the run
abbrev pub state_of : Held → State
state_of h =
    record {
      stack = h.stack;
      height = h.machine.height;
      inputs = h.inputs;
      taken = h.machine.taken;
      variables = h.variables;
      counts = h.counts;
      output = h.output;
      written = h.machine.written;
    }

-- where the loop stands
abbrev pub configuration_of : Held → Configuration
configuration_of h =
    record {
      letter = h.machine.letter;
      cell = h.machine.at;
      frames = frames_of h.frames h.machine.depth;
      state = state_of h;
      left = h.machine.left;
    }

-- what the machine's status says of a turn that came to the configuration m
abbrev pub turned : Status → Configuration → Turn
turned Goes m = continues m
turned Enters m = enters m
turned (Over t) m = finishes (ended t m.state m.left)
turned (Stopped e) m = halt e m

-- what the turn came to after which the code holds this
abbrev pub outcome : Held → Turn
outcome h = turned h.machine.status (configuration_of h)

-- ── what a function holds of it: the machine's numbers, and .. ──────────────────────────────────

-- nothing else
abbrev pub on_machine : Machine → Held → Held
on_machine m h = held m h.cells h.used h.permissions h.role h.inputs h.frames h.counts h.variables h.stack h.output

-- the open calls
abbrev pub framed : Machine → List Frame → Held → Held
framed m f h = held m h.cells h.used h.permissions h.role h.inputs f h.counts h.variables h.stack h.output

-- the store's used-cell counts and permissions, the caller's role and the open calls
abbrev pub called : Machine → List ℕ → List ℕ → ℕ → List Frame → Held → Held
called m u k r f h = held m h.cells u k r h.inputs f h.counts h.variables h.stack h.output

-- the counters' counts
abbrev pub counting : Machine → List ℕ → Held → Held
counting m n h = held m h.cells h.used h.permissions h.role h.inputs h.frames n h.variables h.stack h.output

-- the stack
abbrev pub stacked : Machine → List ℤ → Held → Held
stacked m l h = held m h.cells h.used h.permissions h.role h.inputs h.frames h.counts h.variables l h.output

-- the inputs and the stack
abbrev pub fed : Machine → List ℤ → List ℤ → Held → Held
fed m i l h = held m h.cells h.used h.permissions h.role i h.frames h.counts h.variables l h.output

-- the variables and the stack
abbrev pub storing : Machine → List ℤ → List ℤ → Held → Held
storing m v l h = held m h.cells h.used h.permissions h.role h.inputs h.frames h.counts v l h.output

-- the output
abbrev pub printing : Machine → List ℕ → Held → Held
printing m o h = held m h.cells h.used h.permissions h.role h.inputs h.frames h.counts h.variables h.stack o

-- the stack and the output
abbrev pub writing : Machine → List ℤ → List ℕ → Held → Held
writing m l o h = held m h.cells h.used h.permissions h.role h.inputs h.frames h.counts h.variables l o

-- ── the machine's numbers ───────────────────────────────────────────────────────────────────────

-- with another status
abbrev pub with_status : Machine → Status → Machine
with_status m k =
    record {
      letter = m.letter;
      at = m.at;
      height = m.height;
      depth = m.depth;
      taken = m.taken;
      written = m.written;
      left = m.left;
      status = k;
    }

-- stopped by an ending
abbrev pub stopped_as : Machine → Ending → Machine
stopped_as m e = with_status m (Stopped e)

-- a step on, to cell q and height h
abbrev pub stepped : Machine → ℕ → ℕ → Machine
stepped m q h =
    record { letter = m.letter; at = q; height = h; depth = m.depth; taken = m.taken; written = m.written; left = m.left - 1; status = Goes }
