-- The loop over an accepted text: what is written, and what the steps will write of the rest, are the fair copy.
use mathlib.Core.Path.{◌≡◌, refl, sym, ap, ◌∙◌}
use mathlib.Core.Bool.{Bool, true, false, cond}
use mathlib.Core.List.{List, [], ◌∷◌, ◌++◌, append_assoc, append-nil}
use Prim.Native.Nat.{ℕ, zero, suc, ◌+◌, ◌-◌, ◌≤◌, ◌<◌}
use native.Mathlib.Omega.{arith}
use lib.Dec.{leb, eqb}
use lib.ListN.{length, get_or, drop, length-append, length-drop}
use Rattle.language.specs.Bytes.{blank_byte, quote_byte, dollar_byte, tick_byte, comma_byte, point_byte, colon_byte, semicolon_byte}
use Rattle.language.specs.Syntax.{Expr}
use Rattle.language.specs.Reading.{accepted, read}
use Rattle.numerals.specs.Numerals.{Written, wrote, written}
use Rattle.numerals.proofs.Numerals.{written-room, written-two}
use Rattle.faircopy.specs.FairCopy.{fair_copy}
use Rattle.faircopy.specs.Steps.{Step, takes, after, reach, counter_step, tick_step, step_of, steps, Moves, Fits}
use Rattle.faircopy.specs.declared.Moved.{Moved}
use Rattle.faircopy.proofs.Claims.{copy-shorter}
use Rattle.faircopy.proofs.StepsParts.{tail, tail-drop, first-tail}
use Rattle.faircopy.proofs.StepsCopy.{steps-copy}
use Rattle.faircopy.proofs.Written.{nothing_written}

-- ── a step ──────────────────────────────────────────────────────────────────────────────────────

either : (u : Bool) (x y : Step) → 1 ≤ x.taken → 1 ≤ y.taken → 1 ≤ (cond u x y).taken
either true x y h k = h
either false x y h k = k

-- a step takes a byte or more
step-some : (b : ℕ) (l : List ℕ) → 1 ≤ (step_of b l).taken
unfolding step_of
step-some b l =
    either (leb b blank_byte) (takes 1 []) _ (omega arith)
    (either (eqb b quote_byte) (takes (1 + reach quote_byte l) []) _ (omega arith)
    (either (eqb b comma_byte) (takes 1 (semicolon_byte ∷ [])) _ (omega arith)
    (either (eqb b point_byte) (takes 1 (colon_byte ∷ [])) _ (omega arith)
    (either (eqb b dollar_byte) (after 1 (counter_step l)) _ (omega arith)
    (either (eqb b tick_byte) (after 1 (tick_step l)) (takes 1 (b ∷ [])) (omega arith) (omega arith))))))

-- the step that begins the bytes l
abbrev here : List ℕ → Step
here l = step_of (get_or l 0 0) (tail l)

steps-here : (l : List ℕ) (n : ℕ) → 1 ≤ length l → 1 ≤ n → steps n l ≡ (here l).bytes ++ steps (n - 1) (drop (here l).taken l)
steps-here l zero h k = absurd (omega arith)
steps-here [] (suc n) h k = absurd (omega arith)
steps-here (b ∷ l) (suc n) h k =
    let e : n ≡ suc n - 1 = omega arith in
    let t : l ≡ tail (b ∷ l) = sym (tail-drop (b ∷ l)) in
    (λ i. (step_of b (t i)).bytes ++ steps (e i) (drop (step_of b (t i)).taken (b ∷ l)))

-- ── the loop ────────────────────────────────────────────────────────────────────────────────────

-- of a text accepted as w, what stands before the bytes l is copied to the start of the buffer o, which is o' now
pub record Copying (o : List ℕ) (w : Expr) (l : List ℕ) (at : ℕ) (o' : List ℕ) : Type 0 where
  pub bytes : List ℕ
  pub left : ℕ
  pub enough : length l ≤ left
  pub whole : bytes ++ steps left l ≡ fair_copy w
  pub count : at ≡ length bytes
  pub buffer : wrote at o' ≡ written o 0 bytes
  pub size : length o' ≡ length o

pub copying-none : (s o : List ℕ) (w : Expr) → read s ≡ accepted w → Copying o w s 0 o
copying-none s o w h =
    record {
      bytes = [];
      left = length s;
      enough = omega arith;
      whole = steps-copy s w h;
      count = refl;
      buffer = nothing_written o 0 (omega arith);
      size = refl;
    }

module _ (s o : List ℕ) (w : Expr) (h : read s ≡ accepted w) (room : length s ≤ length o) (l : List ℕ) (at : ℕ) (o' : List ℕ) (q : Copying o w l at o') where
  module _ (some : 1 ≤ length l) where
    abbrev now-bytes : List ℕ
    now-bytes = (here l).bytes

    abbrev rest : List ℕ
    rest = steps (q.left - 1) (drop (here l).taken l)

    whole-more : (q.bytes ++ now-bytes) ++ rest ≡ fair_copy w
    whole-more =
        append_assoc q.bytes now-bytes rest
        ∙ ap (λ (x : List ℕ). q.bytes ++ x) (sym (steps-here l q.left some (omega (arith, q.enough))))
        ∙ q.whole

    pub copying-fits : Fits (here l) o' at
    copying-fits =
        let a = length-append (q.bytes ++ now-bytes) rest in
        let b = length-append q.bytes now-bytes in
        let e = ap length whole-more in
        let c = copy-shorter s w h in
        omega (arith, q.count, q.size)

    module _ (m : Moved) (o'' : List ℕ) (v : Moves (here l) (get_or l 0 0 ∷ tail l) at o' o'' m) where
      moved-rest : m.rest.now ≡ drop (here l).taken l
      moved-rest = v.rest ∙ ap (drop (here l).taken) (first-tail l some)

      -- fewer bytes are left
      pub copying-fewer : length m.rest.now < length l
      copying-fewer =
          let e = ap length moved-rest in
          omega (arith, step-some (get_or l 0 0) (tail l), length-drop (here l).taken l)

      pub copying-more : length o'' ≡ length o' → Copying o w m.rest.now m.at o''
      copying-more z =
          let k : m.at ≡ at + length now-bytes = ap (λ (x : Written). x.next) (v.buffer ∙ sym (written-room o' at now-bytes copying-fits)) in
          record {
            bytes = q.bytes ++ now-bytes;
            left = q.left - 1;
            enough = omega (arith, q.enough, copying-fewer);
            whole = ap (λ (x : List ℕ). (q.bytes ++ now-bytes) ++ steps (q.left - 1) x) moved-rest ∙ whole-more;
            count = omega (arith, q.count, length-append q.bytes now-bytes);
            buffer = written-two o 0 q.bytes now-bytes q.buffer v.buffer (omega (arith, q.count, copying-fits, q.size));
            size = z ∙ q.size;
          }

  pub copying-done : length l < 1 → wrote at o' ≡ written o 0 (fair_copy w)
  copying-done e =
      let f : q.bytes ≡ fair_copy w = sym (append-nil q.bytes) ∙ ap (λ (x : List ℕ). q.bytes ++ x) (sym (no_steps q.left l e)) ∙ q.whole in
      q.buffer ∙ ap (written o 0) f
    where
      no_steps : (n : ℕ) (x : List ℕ) → length x < 1 → steps n x ≡ []
      no_steps zero x k = refl
      no_steps (suc n) [] k = refl
      no_steps (suc n) (b ∷ x) k = absurd (omega arith)
