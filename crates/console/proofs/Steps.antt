-- Steps print what the day prints, whatever parts the input comes in.
use mathlib.Core.Path.{◌≡◌, refl, sym, ap, ◌∙◌}
use mathlib.Core.Bool.{Bool, true, false, cond, ◌&&◌}
use mathlib.Core.List.{List, [], ◌∷◌, ◌++◌, append_assoc, append-nil}
use Prim.Native.Nat.{ℕ, zero, suc, ◌-◌, ◌≤◌, ◌<◌, min}
use native.Mathlib.Omega.{arith}
use lib.ListN.{length, take, drop, length-drop, drop_of_length-le}
use lib.Seq.{take_all, take-nil}
use lib.Dec.{ltb}
use borrow.Author.Tests.{ltb-true, ltb-false, lt-ltb}
use Rattle.book.specs.Store.{Store, fresh_store, store_call}
use Rattle.commands.specs.Served.{Served}
use Rattle.console.specs.Day.{max_lines, last_line, lines_from, Progress, starts, session, day_from}
use Rattle.console.specs.Steps.{line_end, kept_bytes, Stepped, line_done, line_grown, step_of, end_of, StepContinues, EndContinues, steps_of, parts_from, joined, AnyParts}
use Rattle.console.proofs.Day.{day-of-store, line-end-le, lines-grow, lines_end, line-cut, session-cut, day-over}

abbrev day : Progress Store → List ℕ → List ℕ
day p i = day_from store_call p i

-- ── one step ────────────────────────────────────────────────────────────────────────────────────

module _ (p : Progress Store) (open-day : p.done < max_lines) where
  -- a line a, of which the first 301 bytes are obeyed, and what comes after it
  one_line : (a i : List ℕ) (n : ℕ)
      → session store_call p.kept (suc p.done) (take (max_lines - p.done) (a ∷ lines_from [] i))
      ≡ (line_done p (take kept_bytes a) n).bytes ++ day (line_done p (take kept_bytes a) n).to i
  unfolding session day_from line_done
  one_line a i n =
      let e : max_lines - p.done ≡ suc (max_lines - suc p.done) = omega arith in
      rw e
      (ap (λ (x : Served Store). x.bytes ++ session store_call x.kept (suc (suc p.done)) (take (max_lines - suc p.done) (lines_from [] i)))
      (line-cut store_call p.kept (suc p.done) a))

  newline-step : (s rest : List ℕ) → line_end s < length s
      → let x = line_done p (take kept_bytes (p.line ++ take (line_end s) s)) (suc (line_end s)) in
      day p (s ++ rest) ≡ x.bytes ++ day x.to (drop (suc (line_end s)) s ++ rest)
  unfolding day_from
  newline-step s rest h =
      ap (λ ls. session store_call p.kept (suc p.done) (take (max_lines - p.done) ls)) (lines_end s p.line rest h)
      ∙ one_line (p.line ++ take (line_end s) s) (drop (suc (line_end s)) s ++ rest) (suc (line_end s))

  other_step : (s rest : List ℕ) → length s ≤ line_end s
      → let x = line_grown p (take kept_bytes (p.line ++ take (line_end s) s)) (line_end s) in
      day p (s ++ rest) ≡ x.bytes ++ day x.to (drop (line_end s) s ++ rest)
  unfolding day_from
  other_step s rest h =
      let t : take (line_end s) s ≡ s = take_all (line_end s) s h in
      let d : drop (line_end s) s ≡ [] = drop_of_length-le s h in
      rw (t, d)
      (ap (λ ls. session store_call p.kept (suc p.done) (take (max_lines - p.done) ls)) (lines-grow s p.line rest h)
      ∙ session-cut store_call rest (p.line ++ s) (max_lines - p.done) p.kept (suc p.done))

-- what holds of each of its cases holds of a step: a line is done, the line so far grows, or the last line is past
pub step-cases : (p : Progress Store) (s : List ℕ) (P : Stepped → Type 0)
    → let l = take kept_bytes (p.line ++ take (line_end s) s) in
    (p.done < max_lines → line_end s < length s → P (line_done p l (suc (line_end s))))
    → (p.done < max_lines → length s ≤ line_end s → P (line_grown p l (line_end s)))
    → (max_lines ≤ p.done → P (line_grown p p.line (length s)))
    → P (step_of p s)
unfolding step_of
step-cases p s P done grown past = go (ltb p.done max_lines) refl (ltb (line_end s) (length s)) refl
  where
    l : List ℕ
    l = take kept_bytes (p.line ++ take (line_end s) s)

    go : (u : Bool) → ltb p.done max_lines ≡ u → (v : Bool) → ltb (line_end s) (length s) ≡ v
        → P (cond u (cond v (line_done p l (suc (line_end s))) (line_grown p l (line_end s))) (line_grown p p.line (length s)))
    go true e true f = done (ltb-true p.done max_lines e) (ltb-true (line_end s) (length s) f)
    go true e false f = grown (ltb-true p.done max_lines e) (ltb-false (line_end s) (length s) f)
    go false e v f = past (ltb-false p.done max_lines e)

pub step-continues : StepContinues
unfolding line_done
step-continues p s rest =
    step-cases p s (λ x. day p (s ++ rest) ≡ x.bytes ++ day x.to (drop x.taken s ++ rest))
    (λ h g. newline-step p h s rest g)
    (λ h g. other_step p h s rest g)
    (λ h. day-over store_call p (s ++ rest) h ∙ sym (day-over store_call p (drop (length s) s ++ rest) h))

-- what a step takes: at least a byte where there is one, and no more than there are
pub record Takes (s : List ℕ) (n : ℕ) : Type 0 where
  pub some : min 1 (length s) ≤ n
  pub inside : n ≤ length s

pub step-takes : (p : Progress Store) (s : List ℕ) → Takes s (step_of p s).taken
unfolding line_done
step-takes p s =
    step-cases p s (λ x. Takes s x.taken)
    (λ h g. record { some = omega arith; inside = omega arith })
    (λ h g. record { some = omega arith; inside = line-end-le s })
    (λ h. record { some = omega arith; inside = omega arith })

-- ── the end ─────────────────────────────────────────────────────────────────────────────────────

nothing : (s : Store) (k m : ℕ) → session store_call s k (take m []) ≡ []
unfolding session
nothing s k m = rw (take-nil {A = List ℕ} m)

no_line : (s : Store) (n : ℕ) → day (record { kept = s; done = n; line = [] }) [] ≡ []
unfolding day_from lines_from
no_line s n = nothing s (suc n) (max_lines - n)

pub end-continues : EndContinues
unfolding end_of day_from lines_from line_done
end-continues p = go (ltb p.done max_lines) refl
  where
    inner : (a : List ℕ) → a ≡ p.line → p.done < max_lines
        → session store_call p.kept (suc p.done) (take (max_lines - p.done) (last_line a))
        ≡ (cond (ltb 0 (length a)) (line_done p (take kept_bytes a) 0) (line_grown p a 0)).bytes
    inner [] e h = nothing p.kept (suc p.done) (max_lines - p.done)
    inner (b ∷ a) e h =
        let x = line_done p (take kept_bytes (b ∷ a)) 0 in
        one_line p h (b ∷ a) [] 0
        ∙ ap (λ (l : List ℕ). x.bytes ++ l) (no_line x.to.kept (suc p.done))
        ∙ append-nil x.bytes
        ∙ sym (rw (lt-ltb 0 (suc (length a)) (omega arith)))

    go : (u : Bool) → ltb p.done max_lines ≡ u
        → session store_call p.kept (suc p.done) (take (max_lines - p.done) (last_line p.line))
        ≡ (cond (u && ltb 0 (length p.line)) (line_done p (take kept_bytes p.line) 0) (line_grown p p.line 0)).bytes
    go true e = inner p.line refl (ltb-true p.done max_lines e)
    go false e = day-over store_call p [] (ltb-false p.done max_lines e)

-- ── parts ───────────────────────────────────────────────────────────────────────────────────────

steps-continue : (n : ℕ) (p : Progress Store) (s rest : List ℕ) → length s ≤ n
    → let x = steps_of n p s in
    day p (s ++ rest) ≡ x.bytes ++ day x.to rest
unfolding steps_of
steps-continue zero p [] rest h = refl
steps-continue zero p (b ∷ s) rest h = absurd (omega arith)
steps-continue (suc n) p s rest h =
    let x = step_of p s in
    let t = step-takes p s in
    let left : length (drop x.taken s) ≤ n = omega (arith, length-drop x.taken s) in
    step-continues p s rest
    ∙ ap (λ (l : List ℕ). x.bytes ++ l) (steps-continue n x.to (drop x.taken s) rest left)
    ∙ sym (append_assoc x.bytes (steps_of n x.to (drop x.taken s)).bytes (day (steps_of n x.to (drop x.taken s)).to rest))

parts-continue : (ps : List (List ℕ)) (p : Progress Store) → parts_from p ps ≡ day p (joined ps)
unfolding parts_from
parts-continue [] p = sym (end-continues p)
parts-continue (s ∷ ps) p =
    let x = steps_of (length s) p s in
    ap (λ (l : List ℕ). x.bytes ++ l) (parts-continue ps x.to) ∙ sym (steps-continue (length s) p s (joined ps) (omega arith))

pub any-parts : AnyParts
any-parts ps = parts-continue ps (starts fresh_store) ∙ day-of-store (joined ps)
