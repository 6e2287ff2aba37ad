-- The steps over what the caller lends.
use mathlib.Core.Path.{◌≡◌, refl, sym, ap, ◌∙◌, subst}
use mathlib.Core.Bool.{Bool, true, false, cond, ◌&&◌, true≢false}
use mathlib.Core.List.{List, [], ◌++◌, append-nil}
use Prim.Native.Nat.{ℕ, suc, ◌+◌, ◌*◌, ◌-◌, ◌≤◌, ◌<◌, min}
use native.Mathlib.Numerals.{add-one, one-add}
use native.Mathlib.Omega.{arith}
use lib.ListN.{length, take, length-take, drop}
use lib.Seq.{paste, paste-zero, length-paste, take-paste, take_all, take-take, take-length, length-take-le, take-append-le, take-append-add}
use lib.Dec.{leb, ltb, eqb}
use borrow.Author.Tests.{leb-true, leb-false, le-leb, lt-ltb, le-ltb, ltb-false}
use Rattle.std.proofs.Common.{Option, Some, None, ◌⊎◌, inl, inr}
use Rattle.std.specs.List.{position, position_or_len}
use Rattle.std.specs.Option.{unwrap_or}
use Rattle.std.proofs.lemmas.List.Recursion.{is_position_or_len}
use Rattle.language.specs.Bytes.{newline_byte}
use Rattle.numerals.specs.Numerals.{Written, wrote, written}
use Rattle.numerals.proofs.Numerals.{written-room}
use Rattle.book.specs.Store.{Store, store_call}
use Rattle.commands.specs.Served.{paper_bytes, performs, performed}
use Rattle.commands.proofs.Served.{line-most, performed-room}
use Rattle.console.specs.Day.{max_lines, Progress, day_from}
use Rattle.console.specs.Steps.{line_end, kept_bytes, Stepped, line_done, line_grown, step_of, end_of}
use Rattle.console.specs.Places.{Advanced, advances, on_paper, has_room, advanced, Steps, Ends, Keeps}
use Rattle.console.proofs.Day.{line-end-le}
use Rattle.console.proofs.Steps.{step-cases, step-continues, Takes, step-takes, end-continues}

-- ── the end of a line ───────────────────────────────────────────────────────────────────────────

-- the first newline is sought
line-end-position : (s : List ℕ) → line_end s ≡ position_or_len (λ b. eqb b newline_byte) s
unfolding line_end
line-end-position s = is_position_or_len line_end (λ b. eqb b newline_byte) refl (λ b t. ap (cond (eqb b newline_byte) 0) (sym (one-add (line_end t)))) s

pub line-end-found : (s : List ℕ) (r : Option ℕ) → r ≡ position (λ b. eqb b newline_byte) s → unwrap_or r (length s) ≡ line_end s
line-end-found s r e = ap (λ (x : Option ℕ). unwrap_or x (length s)) e ∙ go (ltb n (length s)) refl
  where
    n : ℕ
    n = position_or_len (λ b. eqb b newline_byte) s

    go : (u : Bool) → ltb n (length s) ≡ u → unwrap_or (cond u (Some n) None) (length s) ≡ line_end s
    go true h = sym (line-end-position s)
    go false h = omega (arith, ltb-false n (length s) h, line-end-position s, line-end-le s)

-- ── the line so far ─────────────────────────────────────────────────────────────────────────────

module _ (l : List ℕ) (k : ℕ) (b : List ℕ) (room : kept_bytes ≤ length l) where
  -- so many of its bytes are kept, and so many of those after it
  kept-bytes : (at n : ℕ) → at ≡ min k kept_bytes → n ≡ min (length b) (kept_bytes - at) → take at l ++ take n b ≡ take kept_bytes (take k l ++ b)
  kept-bytes at n e f = go (leb k kept_bytes) refl
    where
      fewer : (u : Bool) → leb (length b) (kept_bytes - k) ≡ u → at ≡ k → take n b ≡ take (kept_bytes - k) b
      fewer true g a =
          let h = leb-true (length b) (kept_bytes - k) g in
          take_all n b (omega arith) ∙ sym (take_all (kept_bytes - k) b h)
      fewer false g a =
          let h = leb-false (length b) (kept_bytes - k) g in
          let all : n ≡ kept_bytes - k = omega arith in
          ap (λ m. take m b) all

      go : (u : Bool) → leb k kept_bytes ≡ u → take at l ++ take n b ≡ take kept_bytes (take k l ++ b)
      go true g =
          let h = leb-true k kept_bytes g in
          let a : at ≡ k = omega arith in
          let len = length-take-le k l (omega arith) in
          let sum : kept_bytes ≡ length (take k l) + (kept_bytes - k) = omega arith in
          (λ i. take (a i) l ++ fewer (leb (length b) (kept_bytes - k)) refl a i)
          ∙ sym (take-append-add (take k l) b (kept_bytes - k))
          ∙ ap (λ m. take m (take k l ++ b)) (sym sum)
      go false g =
          let h = leb-false k kept_bytes g in
          let a : at ≡ kept_bytes = omega arith in
          let z : n ≡ 0 = omega arith in
          let long : kept_bytes ≤ length (take k l) = omega (arith, length-take k l) in
          (λ i. take (a i) l ++ take (z i) b)
          ∙ append-nil (take kept_bytes l)
          ∙ sym (take-take kept_bytes k l (omega arith))
          ∙ sym (take-append-le kept_bytes (take k l) b long)

  pub keeps : (at n r : ℕ) (l' : List ℕ) → at ≡ min k kept_bytes → n ≡ min (length b) (kept_bytes - at) → wrote r l' ≡ written l at (take n b)
      → Keeps l k b l' r
  keeps at n r l' e f w =
      let len = length-take-le n b (omega arith) in
      let x = w ∙ sym (written-room l at (take n b) (omega arith)) in
      let next : r ≡ at + length (take n b) = ap (λ (y : Written). y.next) x in
      let all : take r l' ≡ take at l ++ take (length (take n b)) (take n b) =
      (λ i. take (next i) (x i).buffer) ∙ take-paste l at (take n b) (length (take n b)) (omega arith) (omega arith)
      in
      record {
        few = omega arith;
        bytes = all ∙ ap (λ (y : List ℕ). take at l ++ y) (take-length (take n b)) ∙ kept-bytes at n e f;
      }

-- the line so far, where nothing comes after it
pub kept-all : (l : List ℕ) (k n : ℕ) → kept_bytes ≤ length l → n ≡ min k kept_bytes → take n l ≡ take kept_bytes (take k l)
kept-all l k n room e =
    sym (append-nil (take n l)) ∙ kept-bytes l k [] room n 0 e (omega arith) ∙ ap (take kept_bytes) (append-nil (take k l))

-- what room for any line is
room-both : (u v : Bool) → (u && v) ≡ true → (u ≡ true) × (v ≡ true)
room-both true v e = (refl, e)
room-both false v e = absurd (true≢false (sym e))

pub room-line : (l o : List ℕ) → has_room l o ≡ true → kept_bytes ≤ length l
room-line l o e = leb-true kept_bytes (length l) (room-both (leb kept_bytes (length l)) (leb paper_bytes (length o)) e).0

room-paper : (l o : List ℕ) → has_room l o ≡ true → paper_bytes ≤ length o
room-paper l o e = leb-true paper_bytes (length o) (room-both (leb kept_bytes (length l)) (leb paper_bytes (length o)) e).1

-- ── over the paper ──────────────────────────────────────────────────────────────────────────────

-- what is printed at the start of the paper
paper-start : (o b : List ℕ) → length b ≤ length o → take (length b) (paste o 0 b (length b)) ≡ b
paper-start o b h =
    let e : length b ≡ 0 + length b = omega arith in
    ap (λ n. take n (paste o 0 b (length b))) e ∙ take-paste o 0 b (length b) (omega arith) (omega arith) ∙ take-length b

-- a step over the part s from p on takes some of it, and prints what has room on the paper o, and only with a line
pub record Goes (o s : List ℕ) (p : Progress Store) (x : Advanced) : Type 0 where
  pub takes : Takes s x.taken
  pub little : x.printed ≤ paper_bytes
  pub lines : p.done ≤ max_lines → x.to.done ≤ max_lines
  pub few : x.printed + paper_bytes * p.done ≤ paper_bytes * x.to.done
  pub paper : length x.paper ≡ length o

-- what is printed has room on the paper o
pub record Leaves (o : List ℕ) (x : Advanced) : Type 0 where
  pub little : x.printed ≤ paper_bytes
  pub paper : length x.paper ≡ length o

few : (n k : ℕ) → n ≤ paper_bytes → n + paper_bytes * k ≤ paper_bytes * suc k
few n k h = omega arith

module _ (p : Progress Store) where
  done-most : (l : List ℕ) (n : ℕ) → length (line_done p l n).bytes ≤ paper_bytes
  unfolding line_done
  done-most l n = line-most p.kept (suc p.done) l

  pub step-most : (s : List ℕ) → length (step_of p s).bytes ≤ paper_bytes
  step-most s =
      step-cases p s (λ x. length x.bytes ≤ paper_bytes)
      (λ h g. done-most (take kept_bytes (p.line ++ take (line_end s) s)) (suc (line_end s)))
      (λ h g. omega arith)
      (λ h. omega arith)

  -- a step prints only with a line
  step-few : (s : List ℕ) → length (step_of p s).bytes + paper_bytes * p.done ≤ paper_bytes * (step_of p s).to.done
  unfolding line_done
  step-few s =
      step-cases p s (λ x. length x.bytes + paper_bytes * p.done ≤ paper_bytes * x.to.done)
      (λ h g. few _ p.done (done-most (take kept_bytes (p.line ++ take (line_end s) s)) (suc (line_end s))))
      (λ h g. omega arith)
      (λ h. omega arith)

  step_lines : (s : List ℕ) → p.done ≤ max_lines → (step_of p s).to.done ≤ max_lines
  unfolding line_done
  step_lines s e = step-cases p s (λ x. x.to.done ≤ max_lines) (λ h g. h) (λ h g. e) (λ h. e)

  end-most : length (end_of p).bytes ≤ paper_bytes
  unfolding end_of
  end-most = go (ltb p.done max_lines && ltb 0 (length p.line))
    where
      go : (u : Bool) → length (cond u (line_done p (take kept_bytes p.line) 0) (line_grown p p.line 0)).bytes ≤ paper_bytes
      go true = done-most (take kept_bytes p.line) 0
      go false = omega arith

  module _ (l o : List ℕ) where
    -- there is no room for any line
    pub short : (x : Stepped) → has_room l o ≡ false → advances p 0 0 o ≡ advanced l o p x
    unfolding advanced
    short x h = sym (rw h)

    -- there is room
    roomy : (x : Stepped) → has_room l o ≡ true → on_paper o x ≡ advanced l o p x
    unfolding advanced
    roomy x h = sym (rw h)

    room-for : kept_bytes ≤ length l → paper_bytes ≤ length o → has_room l o ≡ true
    room-for room long = rw (le-leb kept_bytes (length l) room, le-leb paper_bytes (length o) long)

    step-day : (s rest : List ℕ)
        → let y = advanced l o p (step_of p s) in
        day_from store_call p (s ++ rest) ≡ take y.printed y.paper ++ day_from store_call y.to (drop y.taken s ++ rest)
    unfolding advanced
    step-day s rest = go (leb kept_bytes (length l)) (leb paper_bytes (length o)) refl
      where
        x : Stepped
        x = step_of p s

        go : (u v : Bool) → leb paper_bytes (length o) ≡ v
            → let y = cond (u && v) (on_paper o x) (advances p 0 0 o) in
            day_from store_call p (s ++ rest) ≡ take y.printed y.paper ++ day_from store_call y.to (drop y.taken s ++ rest)
        go true true e =
            let h = leb-true paper_bytes (length o) e in
            step-continues p s rest
            ∙ ap (λ (b : List ℕ). b ++ day_from store_call x.to (drop x.taken s ++ rest)) (sym (paper-start o x.bytes (omega (arith, step-most s))))
        go true false e = refl
        go false v e = refl

    -- the contracts from their equations
    pub steps : (s : List ℕ) (x : Advanced) → x ≡ advanced l o p (step_of p s) → Steps l o s p x
    steps s x e =
        record {
          day = λ rest. subst (λ (y : Advanced). day_from store_call p (s ++ rest) ≡ take y.printed y.paper ++ day_from store_call y.to (drop y.taken s ++ rest)) (sym e) (step-day s rest);
          does = e;
        }

    pub ends : (x : Advanced) → x ≡ advanced l o p (end_of p) → Ends l o p x
    ends x e =
        record {
          day = λ room long.
              end-continues p
              ∙ sym (paper-start o (end_of p).bytes (omega (arith, end-most)))
              ∙ ap (λ (y : Advanced). take y.printed y.paper) (roomy (end_of p) (room-for room long) ∙ sym e);
          does = e;
        }

    -- what else a caller needs of a step, where there is room for any line
    pub goes : (s : List ℕ) (x : Advanced) → kept_bytes ≤ length l → paper_bytes ≤ length o → Steps l o s p x → Goes o s p x
    goes s x room long e =
        subst (λ (y : Advanced). Goes o s p y) (roomy (step_of p s) (room-for room long) ∙ sym e.does)
        (record {
          takes = step-takes p s;
          little = step-most s;
          lines = step_lines s;
          few = step-few s;
          paper = length-paste o 0 (step_of p s).bytes (length (step_of p s).bytes) (omega (arith, step-most s)) (omega arith);
        })

    -- and of the end
    pub end_goes : (x : Advanced) → kept_bytes ≤ length l → paper_bytes ≤ length o → Ends l o p x → Leaves o x
    end_goes x room long e =
        subst (λ (y : Advanced). Leaves o y) (roomy (end_of p) (room-for room long) ∙ sym e.does)
        (record {
          little = end-most;
          paper = length-paste o 0 (end_of p).bytes (length (end_of p).bytes) (omega (arith, end-most)) (omega arith);
        })

    -- where there is room for any line
    module _ (room : has_room l o ≡ true) where
      -- nothing is printed
      grows : (x : Stepped) (a : List ℕ) (n : ℕ) → x ≡ line_grown p a n → advances (record { kept = p.kept; done = p.done; line = a }) n 0 o ≡ advanced l o p x
      grows x a n e = ap (advances (record { kept = p.kept; done = p.done; line = a }) n 0) (paste-zero o 0 []) ∙ ap (on_paper o) (sym e) ∙ roomy x room

      -- a line is done
      does-line : (x : Stepped) (a : List ℕ) (n m : ℕ) (st : Store) (o' : List ℕ) → x ≡ line_done p a n
          → performs st m o' ≡ performed p.kept (p.done + 1) a o
          → advances (record { kept = st; done = p.done + 1; line = [] }) n m o' ≡ advanced l o p x
      unfolding line_done
      does-line x a n m st o' e f =
          let z = rw (add-one p.done) at (f ∙ performed-room p.kept (p.done + 1) a o (room-paper l o room)) in
          (λ i. advances (record { kept = (z i).store; done = add-one p.done i; line = [] }) n (z i).paper.next (z i).paper.buffer)
          ∙ ap (on_paper o) (sym e) ∙ roomy x room

      pub steps-past : (s : List ℕ) → max_lines ≤ p.done → advances p (length s) 0 o ≡ advanced l o p (step_of p s)
      unfolding step_of
      steps-past s h = grows (step_of p s) p.line (length s) (rw (le-ltb p.done max_lines h))

      module _ (read : p.done < max_lines) (s a : List ℕ) (n : ℕ) (found : n ≡ line_end s) (kept : a ≡ take kept_bytes (p.line ++ take n s)) where
        line_kept : take kept_bytes (p.line ++ take (line_end s) s) ≡ a
        line_kept = sym (kept ∙ ap (λ m. take kept_bytes (p.line ++ take m s)) found)

        pub steps-grown : n ≡ length s → advances (record { kept = p.kept; done = p.done; line = a }) n 0 o ≡ advanced l o p (step_of p s)
        unfolding step_of
        steps-grown h =
            grows (step_of p s) a n
            (rw (lt-ltb p.done max_lines read, le-ltb (line_end s) (length s) (omega arith)) (λ i. line_grown p (line_kept i) (sym found i)))

        pub steps-line : (m : ℕ) (st : Store) (o' : List ℕ) → n < length s → performs st m o' ≡ performed p.kept (p.done + 1) a o
            → advances (record { kept = st; done = p.done + 1; line = [] }) (n + 1) m o' ≡ advanced l o p (step_of p s)
        unfolding step_of
        steps-line m st o' h f =
            let e : suc (line_end s) ≡ n + 1 = omega arith in
            does-line (step_of p s) a (n + 1) m st o'
            (rw (lt-ltb p.done max_lines read, lt-ltb (line_end s) (length s) (omega arith)) (λ i. line_done p (line_kept i) (e i))) f

      pub ends-line : (a : List ℕ) (m : ℕ) (st : Store) (o' : List ℕ) → p.done < max_lines → 0 < length p.line → a ≡ take kept_bytes p.line
          → performs st m o' ≡ performed p.kept (p.done + 1) a o
          → advances (record { kept = st; done = p.done + 1; line = [] }) 0 m o' ≡ advanced l o p (end_of p)
      unfolding end_of
      ends-line a m st o' h g e f =
          does-line (end_of p) a 0 m st o'
          (rw (lt-ltb p.done max_lines h, lt-ltb 0 (length p.line) g) (ap (λ (b : List ℕ). line_done p b 0) (sym e))) f

      ends-past : max_lines ≤ p.done → advances p 0 0 o ≡ advanced l o p (end_of p)
      unfolding end_of
      ends-past h = grows (end_of p) p.line 0 (rw (le-ltb p.done max_lines h))

      ends-empty : length p.line ≡ 0 → p.done < max_lines → advances p 0 0 o ≡ advanced l o p (end_of p)
      unfolding end_of
      ends-empty h g = grows (end_of p) p.line 0 (rw (lt-ltb p.done max_lines g, le-ltb 0 (length p.line) (omega arith)))

    -- why the end prints nothing
    pub ends-silent : (b : Bool) (k : ℕ) → b ≡ has_room l o → p.line ≡ take k l
        → (b ≡ false) ⊎ (((b ≡ true) × (max_lines ≤ p.done)) ⊎ ((b ≡ true) × (p.done < max_lines) × (k ≡ 0)))
        → advances p 0 0 o ≡ advanced l o p (end_of p)
    ends-silent b k e f (inl h) = short (end_of p) (sym e ∙ h)
    ends-silent b k e f (inr (inl h)) = ends-past (sym e ∙ h.0) h.1
    ends-silent b k e f (inr (inr h)) = ends-empty (sym e ∙ h.0) (omega (arith, ap length f, length-take k l, h.2)) h.1
