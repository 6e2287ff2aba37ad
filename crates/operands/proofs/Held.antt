-- The open calls in their array, and how a letter's code ends.
use mathlib.Core.Path.{◌≡◌, refl, ap}
use mathlib.Core.Bool.{Bool}
use mathlib.Core.List.{List, ◌∷◌}
use Prim.Native.Nat.{ℕ, zero, suc, ◌+◌, ◌-◌, ◌<◌, ◌≤◌}
use native.Mathlib.Omega.{arith}
use native.Mathlib.Numerals.{add-one}
use lib.ListN.{length, get_or, set}
use lib.Seq.{get_or-set_same, get_or-set_other}
use Rattle.language.specs.Effects.{State}
use Rattle.language.specs.Meaning.{ended}
use Rattle.language.specs.Machine.{pick}
use Rattle.operands.specs.declared.Frame.{Frame}
use Rattle.operands.specs.Loop.{configuration, enters, finishes, back}
use Rattle.operands.specs.Held.{no_frame, open_call, frames_of}

-- the last open call
pub frames-pop : (a : List Frame) (d : ℕ) → 0 < d → frames_of a d ≡ open_call (get_or a (d - 1) no_frame) ∷ frames_of a (d - 1)
unfolding frames_of
frames-pop a zero h = absurd (omega arith)
frames-pop a (suc d) h = let e : suc d - 1 ≡ d = omega arith in rw e

-- as many open calls as the depth says
pub length-frames : (a : List Frame) (d : ℕ) → length (frames_of a d) ≡ d
unfolding frames_of
length-frames a zero = refl
length-frames a (suc d) = ap suc (length-frames a d)

-- the last of no open calls ends the run
pub leave_none : (t : Bool) (a : List Frame) (d : ℕ) (s : State) (r : ℕ) → d ≡ 0 → finishes (ended t s r) ≡ back (frames_of a d) t s r
unfolding frames_of
leave_none t a d s r e = rw e

-- an open call is gone back to
pub leave-some : (t : Bool) (a : List Frame) (d : ℕ) (s : State) (r : ℕ) → 0 < d
    → let f = get_or a (d - 1) no_frame in
    enters (configuration f.letter (pick t f.next f.exit) (frames_of a (d - 1)) s r) ≡ back (frames_of a d) t s r
leave-some t a d s r h = rw (frames-pop a d h)

-- ── one more open call ──────────────────────────────────────────────────────────────────────────

-- what is set at place d or after it is none of d calls
frames-set : (a : List Frame) (i d : ℕ) (f : Frame) → d ≤ i → frames_of (set a i f) d ≡ frames_of a d
unfolding frames_of
frames-set a i zero f h = refl
frames-set a i (suc d) f h = rw (get_or-set_other a i d f no_frame (λ e. omega arith), frames-set a i d f (omega arith))

-- one more open call
pub frames-push : (a : List Frame) (d : ℕ) (f : Frame) → d < length a → frames_of (set a d f) (d + 1) ≡ open_call f ∷ frames_of a d
unfolding frames_of
frames-push a d f h = rw (add-one d, get_or-set_same a d f no_frame h, frames-set a d d f (omega arith))
