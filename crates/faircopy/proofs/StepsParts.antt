-- One step of the copier, part by part.
use mathlib.Core.Path.{◌≡◌, refl, sym, ap, ◌∙◌, subst}
use mathlib.Core.Bool.{Bool, true, false, cond, not}
use mathlib.Core.List.{List, [], ◌∷◌, ◌++◌, append_assoc, append-nil}
use Rattle.std.specs.Prelude.{Option, None, Some}
use Prim.Native.Nat.{ℕ, suc, ◌+◌, ◌-◌, ◌≤◌, ◌<◌}
use native.Mathlib.Omega.{arith}
use lib.Dec.{ltb, eqb}
use lib.ListN.{length, get_or, take, drop, length-append}
use lib.Seq.{drop-drop, take-length, length-paste}
use borrow.Author.Tests.{eq-eqb, ne_eqb, le-leb, lt-leb, ltb-true, ltb-false}
use Rattle.std.specs.List.{position_or_len}
use Rattle.language.specs.Bytes.{blank_byte, quote_byte, dollar_byte, tick_byte, comma_byte, point_byte, slash_byte, minus_byte, digit_byte, colon_byte, semicolon_byte}
use Rattle.numerals.specs.Numerals.{Written, wrote, written}
use Rattle.numerals.proofs.Numerals.{written-room, written-two}
use Rattle.faircopy.specs.Steps.{Step, takes, after, prefixed, reach, through_step, zeros, counter_step, sign_bytes, digits_step, constant_step, tick_step, step_of, Moves, Fits}
use Rattle.faircopy.specs.declared.Moved.{Moved}
use Rattle.faircopy.proofs.Written.{nothing_written}

-- ── the first byte and the others ───────────────────────────────────────────────────────────────

-- the bytes after the first
abbrev pub tail : List ℕ → List ℕ
tail l = take (length l - 1) (drop 1 l)

pub tail-drop : (l : List ℕ) → tail l ≡ drop 1 l
tail-drop [] = refl
tail-drop (b ∷ l) = let e : suc (length l) - 1 ≡ length l = omega arith in ap (λ (n : ℕ). take n l) e ∙ take-length l

pub first-tail : (l : List ℕ) → 1 ≤ length l → get_or l 0 0 ∷ tail l ≡ l
first-tail [] h = absurd (omega arith)
first-tail (b ∷ l) h = ap (λ (t : List ℕ). b ∷ t) (tail-drop (b ∷ l))

-- ── the bytes up to a byte ──────────────────────────────────────────────────────────────────────

module _ (z : ℕ) where
  abbrev pub is_end : ℕ → Bool
  is_end b = eqb b z

  pub reach-within : (l : List ℕ) → reach z l ≤ length l
  reach-within [] = omega arith
  reach-within (b ∷ l) = go (is_end b) (reach-within l)
    where
      go : (u : Bool) → reach z l ≤ length l → cond u 1 (suc (reach z l)) ≤ suc (length l)
      go true h = omega arith
      go false h = omega arith

  place-reach : (l : List ℕ) → position_or_len is_end l < length l → position_or_len is_end l + 1 ≡ reach z l
  place-reach [] h = absurd (omega arith)
  place-reach (b ∷ l) h = go (is_end b) (place-reach l) h
    where
      go : (u : Bool) → (position_or_len is_end l < length l → position_or_len is_end l + 1 ≡ reach z l)
          → cond (not u) (1 + position_or_len is_end l) 0 < suc (length l) → cond (not u) (1 + position_or_len is_end l) 0 + 1 ≡ cond u 1 (suc (reach z l))
      go true r k = refl
      go false r k = let e = r (omega arith) in omega arith

  none-reach : (l : List ℕ) → length l ≤ position_or_len is_end l → length l ≡ reach z l
  none-reach [] h = refl
  none-reach (b ∷ l) h = go (is_end b) (none-reach l) h
    where
      go : (u : Bool) → (length l ≤ position_or_len is_end l → length l ≡ reach z l)
          → suc (length l) ≤ cond (not u) (1 + position_or_len is_end l) 0 → suc (length l) ≡ cond u 1 (suc (reach z l))
      go true r k = absurd (omega arith)
      go false r k = let e = r (omega arith) in omega arith

  -- what the search for the byte finds
  abbrev pub found : List ℕ → Option ℕ
  found l = cond (ltb (position_or_len is_end l) (length l)) (Some (position_or_len is_end l)) None

  pub reach-found : (l : List ℕ) (i : ℕ) → found l ≡ Some i → i + 1 ≡ reach z l
  reach-found l i h = go (ltb (position_or_len is_end l) (length l)) refl h
    where
      go : (u : Bool) → ltb (position_or_len is_end l) (length l) ≡ u → cond u (Some (position_or_len is_end l)) None ≡ Some i → i + 1 ≡ reach z l
      go true e k = let p : position_or_len is_end l ≡ i = cc in let r = place-reach l (ltb-true _ _ e) in omega arith
      go false e k = absurd cc

  pub reach-none : (l : List ℕ) → found l ≡ None → length l ≡ reach z l
  reach-none l h = go (ltb (position_or_len is_end l) (length l)) refl h
    where
      go : (u : Bool) → ltb (position_or_len is_end l) (length l) ≡ u → cond u (Some (position_or_len is_end l)) None ≡ None → length l ≡ reach z l
      go true e k = absurd cc
      go false e k = none-reach l (ltb-false _ _ e)

-- of the bytes l₀, those before the bytes l are copied to place `at` of the buffer o, which is o' now
pub record Through (z : ℕ) (l₀ o : List ℕ) (at : ℕ) (l : List ℕ) (n : ℕ) (o' : List ℕ) : Type 0 where
  pub bytes : List ℕ
  pub whole : bytes ++ (through_step z l).bytes ≡ (through_step z l₀).bytes
  pub rest : drop (reach z l) l ≡ drop (reach z l₀) l₀
  pub count : n ≡ at + length bytes
  pub buffer : wrote n o' ≡ written o at bytes
  pub size : length o' ≡ length o

reach-first : (z : ℕ) (l : List ℕ) → 1 ≤ length l → get_or l 0 0 ≡ z → reach z l ≡ 1
reach-first z [] h e = absurd (omega arith)
reach-first z (b ∷ l) h e = rw (eq-eqb b z e)

reach-later : (z : ℕ) (l : List ℕ) → 1 ≤ length l → (get_or l 0 0 ≡ z → ⊥) → reach z l ≡ suc (reach z (tail l))
reach-later z [] h e = absurd (omega arith)
reach-later z (b ∷ l) h e = rw (ne_eqb b z e, tail-drop (b ∷ l))

module _ (z : ℕ) (l₀ o : List ℕ) (at : ℕ) (h : Fits (through_step z l₀) o at) where
  pub through-none : Through z l₀ o at l₀ at o
  through-none = record { bytes = []; whole = refl; rest = refl; count = omega arith; buffer = nothing_written o at (omega arith); size = refl }

  module _ (l : List ℕ) (n : ℕ) (o' : List ℕ) (q : Through z l₀ o at l n o') where
    -- the first byte is copied
    module _ (some : 1 ≤ length l) (r : ℕ) (o'' : List ℕ) (w : wrote r o'' ≡ written o' n (get_or l 0 0 ∷ [])) where
      abbrev one : List ℕ
      one = get_or l 0 0 ∷ []

      -- what is copied with it
      module _ (t : List ℕ) (e : (through_step z l).bytes ≡ get_or l 0 0 ∷ t) where
        copied_more : (q.bytes ++ one) ++ t ≡ (through_step z l₀).bytes
        copied_more = append_assoc q.bytes one t ∙ ap (λ (x : List ℕ). q.bytes ++ x) (sym e) ∙ q.whole

        room : at + length q.bytes + 1 ≤ length o
        room =
            let k = ap length copied_more in
            omega (arith, h, length-append (q.bytes ++ one) t, length-append q.bytes one)

        both : wrote r o'' ≡ written o at (q.bytes ++ one)
        both = written-two o at q.bytes one q.buffer w (omega (arith, room))

      found-bytes : get_or l 0 0 ≡ z → (through_step z l).bytes ≡ get_or l 0 0 ∷ []
      found-bytes e =
          ap (λ (k : ℕ). take k l) (reach-first z l some e) ∙ ap (take 1) (sym (first-tail l some))

      pub through-found : get_or l 0 0 ≡ z → (m : Moved) → m.rest.now ≡ tail l → m.at ≡ r → Moves (through_step z l₀) l₀ at o o'' m
      through-found e m f g =
          record {
            rest = f ∙ tail-drop l ∙ ap (λ (k : ℕ). drop k l) (sym (reach-first z l some e)) ∙ q.rest;
            buffer = ap (λ (x : ℕ). wrote x o'') g ∙ both [] (found-bytes e)
                ∙ ap (written o at) (sym (append-nil (q.bytes ++ one)) ∙ copied_more [] (found-bytes e));
          }

      more_bytes : (get_or l 0 0 ≡ z → ⊥) → (through_step z l).bytes ≡ get_or l 0 0 ∷ (through_step z (tail l)).bytes
      more_bytes e =
          ap (λ (k : ℕ). take k l) (reach-later z l some e) ∙ ap (take (suc (reach z (tail l)))) (sym (first-tail l some))

      pub through-more : (get_or l 0 0 ≡ z → ⊥) → length o'' ≡ length o' → Through z l₀ o at (tail l) r o''
      through-more e k =
          let t = (through_step z (tail l)).bytes in
          record {
            bytes = q.bytes ++ one;
            whole = copied_more t (more_bytes e);
            rest = ap (drop (suc (reach z (tail l)))) (first-tail l some) ∙ ap (λ (x : ℕ). drop x l) (sym (reach-later z l some e)) ∙ q.rest;
            count =
                ap (λ (x : Written). x.next)
                (both t (more_bytes e) ∙ sym (written-room o at (q.bytes ++ one) (omega (arith, room t (more_bytes e), length-append q.bytes one))));
            buffer = both t (more_bytes e);
            size = k ∙ q.size;
          }

-- ── leading zeros ───────────────────────────────────────────────────────────────────────────────

pub zeros-last : (l : List ℕ) → length l < 2 → zeros l ≡ 0
zeros-last [] h = refl
zeros-last (b ∷ []) h = go (eqb b (digit_byte 0))
  where
    go : (u : Bool) → ◌≡◌ {A = ℕ} (cond u 0 0) 0
    go true = refl
    go false = refl
zeros-last (b ∷ d ∷ l) h = absurd (omega arith)

-- a 0 before a digit is a leading one
pub zeros-more : (l : List ℕ) → 2 ≤ length l → get_or l 0 0 ≡ digit_byte 0 → digit_byte 0 ≤ get_or l 1 0 → drop (zeros (tail l)) (tail l) ≡ drop (zeros l) l
zeros-more [] h z n = absurd (omega arith)
zeros-more (b ∷ []) h z n = absurd (omega arith)
zeros-more (b ∷ d ∷ l) h z n = rw (tail-drop (b ∷ d ∷ l), eq-eqb b (digit_byte 0) z, le-leb (digit_byte 0) d n)

-- ── the sign ────────────────────────────────────────────────────────────────────────────────────

-- no `-`, since none is said, or no digit comes or a 0
pub no-sign : (o : List ℕ) (at : ℕ) → at ≤ length o → (u : Bool) (l : List ℕ) → (u ≡ true → 1 ≤ length l → get_or l 0 0 ≡ digit_byte 0)
    → wrote at o ≡ written o at (sign_bytes u l)
no-sign o at h false l z = nothing_written o at (omega arith)
no-sign o at h true [] z = nothing_written o at (omega arith)
no-sign o at h true (b ∷ l) z = nothing_written o at (omega arith) ∙ ap (written o at) (sym (rw (eq-eqb b (digit_byte 0) (z refl (omega arith)))))

-- ── one step as part of another ─────────────────────────────────────────────────────────────────

pub moves-as : {st u : Step} {l : List ℕ} {at : ℕ} {o o' : List ℕ} {m : Moved} → st ≡ u → Moves u l at o o' m → Moves st l at o o' m
moves-as {st} {u} {l} {at} {o} {o'} {m} e h = subst (λ x. Moves x l at o o' m) (sym e) h

pub moves-after : {st : Step} {at : ℕ} {o o' : List ℕ} {m : Moved} (k : ℕ) (l : List ℕ) → Moves st (drop k l) at o o' m → Moves (after k st) l at o o' m
moves-after {st} k l h = record { rest = h.rest ∙ drop-drop st.taken k l; buffer = h.buffer }

pub fits-as : {st u : Step} (o : List ℕ) (at : ℕ) → st ≡ u → Fits st o at → Fits u o at
fits-as o at e h = subst (λ x. Fits x o at) e h

-- after the bytes b, which were written at a place of the buffer o
module _ (o : List ℕ) (at : ℕ) (b : List ℕ) {o₁ : List ℕ} {n : ℕ} (w : wrote n o₁ ≡ written o at b) (st : Step) (f : Fits (prefixed b st) o at) where
  room_for : at + length b + length st.bytes ≤ length o
  room_for = omega (arith, f, length-append b st.bytes)

  pub fits-prefixed : Fits st o₁ n
  fits-prefixed =
      let e = w ∙ sym (written-room o at b (omega (arith, room_for))) in
      let k : n ≡ at + length b = ap (λ (x : Written). x.next) e in
      let l : length o₁ ≡ length o = ap (λ (x : Written). length x.buffer) e ∙ length-paste o at b (length b) (omega (arith, room_for)) (omega arith) in
      omega (arith, room_for)

  pub moves-prefixed : {l : List ℕ} {o₂ : List ℕ} {m : Moved} → Moves st l n o₁ o₂ m → Moves (prefixed b st) l at o o₂ m
  moves-prefixed h = record { rest = h.rest; buffer = written-two o at b st.bytes w h.buffer room_for }

-- the digits d, which are what is left of the bytes l after leading zeros
pub moves-digits : (z : ℕ) (l : List ℕ) {d : List ℕ} {n : ℕ} {o₁ o₂ : List ℕ} {m : Moved} → d ≡ drop (zeros l) l → Moves (through_step z d) d n o₁ o₂ m
    → Moves (through_step z (drop (zeros l) l)) (drop (zeros l) l) n o₁ o₂ m
moves-digits z l {d} {n} {o₁} {o₂} {m} e h = subst (λ (x : List ℕ). Moves (through_step z x) x n o₁ o₂ m) e h

pub fits-digits : (z : ℕ) (l d : List ℕ) (o : List ℕ) (n : ℕ) → d ≡ drop (zeros l) l → Fits (through_step z (drop (zeros l) l)) o n → Fits (through_step z d) o n
fits-digits z l d o n e h = subst (λ (x : List ℕ). Fits (through_step z x) o n) (sym e) h

-- a constant's sign, of the bytes l
abbrev pub sign : Bool → List ℕ → List ℕ
sign u l = sign_bytes u (drop (zeros l) l)

-- and its digits
abbrev pub digits_only : List ℕ → Step
digits_only l = through_step tick_byte (drop (zeros l) l)

-- after its `'/`
module _ (u : Bool) (l : List ℕ) (o : List ℕ) (at : ℕ) {o₁ : List ℕ} {n₁ : ℕ} (w₁ : wrote n₁ o₁ ≡ written o at (tick_byte ∷ slash_byte ∷ []))
    (f : Fits (digits_step u l) o at) where
  pub after-slash : Fits (prefixed (sign u l) (digits_only l)) o₁ n₁
  after-slash = fits-prefixed o at (tick_byte ∷ slash_byte ∷ []) w₁ (prefixed (sign u l) (digits_only l)) f

  module _ {d o₂ : List ℕ} {n₂ : ℕ} (e : d ≡ drop (zeros l) l) (w₂ : wrote n₂ o₂ ≡ written o₁ n₁ (sign_bytes u d)) where
    sign-written : wrote n₂ o₂ ≡ written o₁ n₁ (sign u l)
    sign-written = w₂ ∙ ap (λ (x : List ℕ). written o₁ n₁ (sign_bytes u x)) e

    pub after-sign : Fits (digits_only l) o₂ n₂
    after-sign = fits-prefixed o₁ n₁ (sign u l) sign-written (digits_only l) after-slash

    pub digits-moved : {o₃ : List ℕ} {m : Moved} → Moves (through_step tick_byte d) d n₂ o₂ o₃ m → Moves (digits_step u l) l at o o₃ m
    digits-moved h =
        moves-after (zeros l) l
        (moves-prefixed o at (tick_byte ∷ slash_byte ∷ []) w₁ (prefixed (sign u l) (digits_only l)) f
        (moves-prefixed o₁ n₁ (sign u l) sign-written (digits_only l) after-slash (moves-digits tick_byte l e h)))

-- ── constants and prints ────────────────────────────────────────────────────────────────────────

pub moves-tail : {st : Step} {at : ℕ} {o o' : List ℕ} {m : Moved} (l : List ℕ) → Moves st (tail l) at o o' m → Moves (after 1 st) l at o o' m
moves-tail {st} {at} {o} {o'} {m} l h = moves-after 1 l (subst (λ (x : List ℕ). Moves st x at o o' m) (tail-drop l) h)

pub constant-minus : (l : List ℕ) → 1 ≤ length l → get_or l 0 0 ≡ minus_byte → constant_step l ≡ after 1 (digits_step true (tail l))
unfolding constant_step
constant-minus [] h e = absurd (omega arith)
constant-minus (b ∷ l) h e = rw (eq-eqb b minus_byte e, tail-drop (b ∷ l))

pub constant-plain : (l : List ℕ) → (1 ≤ length l → get_or l 0 0 ≡ minus_byte → ⊥) → constant_step l ≡ digits_step false l
unfolding constant_step
constant-plain [] n = refl
constant-plain (b ∷ l) n = rw (ne_eqb b minus_byte (n (omega arith)))

pub tick-none : (l : List ℕ) → length l < 1 → tick_step l ≡ takes 0 []
unfolding tick_step
tick-none [] h = refl
tick-none (b ∷ l) h = absurd (omega arith)

pub tick-constant : (l : List ℕ) → 1 ≤ length l → get_or l 0 0 ≡ slash_byte → tick_step l ≡ after 1 (constant_step (tail l))
unfolding tick_step
tick-constant [] h e = absurd (omega arith)
tick-constant (b ∷ l) h e = rw (eq-eqb b slash_byte e, tail-drop (b ∷ l))

pub tick-print : (l : List ℕ) → 1 ≤ length l → (get_or l 0 0 ≡ slash_byte → ⊥)
    → tick_step l ≡ after 1 (prefixed (tick_byte ∷ tick_byte ∷ []) (through_step tick_byte (tail l)))
unfolding tick_step
tick-print [] h n = absurd (omega arith)
tick-print (b ∷ l) h n = rw (ne_eqb b slash_byte n, tail-drop (b ∷ l))

-- ── any byte ────────────────────────────────────────────────────────────────────────────────────

-- the step of a byte that is known
pub step_is : (b z : ℕ) (l : List ℕ) {st : Step} → b ≡ z → step_of z l ≡ st → step_of b l ≡ st
step_is b z l e h = ap (λ (x : ℕ). step_of x l) e ∙ h

module _ (l : List ℕ) where
  pub step-blank : (b : ℕ) → b ≤ blank_byte → step_of b l ≡ takes 1 []
  unfolding step_of
  step-blank b h = rw (le-leb b blank_byte h)

  pub step-quote : step_of quote_byte l ≡ takes (1 + reach quote_byte l) []
  unfolding step_of
  step-quote = refl

  pub step-comma : step_of comma_byte l ≡ takes 1 (semicolon_byte ∷ [])
  unfolding step_of
  step-comma = refl

  pub step-point : step_of point_byte l ≡ takes 1 (colon_byte ∷ [])
  unfolding step_of
  step-point = refl

  pub step-dollar : step_of dollar_byte l ≡ after 1 (counter_step l)
  unfolding step_of
  step-dollar = refl

  pub step-tick : step_of tick_byte l ≡ after 1 (tick_step l)
  unfolding step_of
  step-tick = refl

  pub step_other : (b : ℕ) → blank_byte < b → (b ≡ quote_byte → ⊥) → (b ≡ comma_byte → ⊥) → (b ≡ point_byte → ⊥) → (b ≡ dollar_byte → ⊥)
      → (b ≡ tick_byte → ⊥) → step_of b l ≡ takes 1 (b ∷ [])
  unfolding step_of
  step_other b n q c p d t =
      rw (lt-leb b blank_byte n, ne_eqb b quote_byte q, ne_eqb b comma_byte c, ne_eqb b point_byte p, ne_eqb b dollar_byte d, ne_eqb b tick_byte t)
