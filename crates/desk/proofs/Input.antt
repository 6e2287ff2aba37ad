-- The desk's input in parts.
use mathlib.Core.Path.{◌≡◌, refl, sym, ap, ◌∙◌}
use mathlib.Core.Bool.{false}
use mathlib.Core.List.{List, ◌++◌, append_assoc}
use Prim.Native.Nat.{ℕ, ◌+◌, ◌-◌, ◌≤◌, ◌<◌, min}
use native.Mathlib.Omega.{arith}
use borrow.Rule.Slice.PartMut.{put_mid}
use lib.ListN.{length, take, drop, length-append, length-take, length-drop}
use lib.Seq.{take_all, take-append-le, take-append-add, drop-drop, length-take-le}
use Rattle.book.specs.Store.{Store, store_call}
use Rattle.commands.specs.Served.{paper_bytes}
use Rattle.console.specs.Day.{Progress, day_from}
use Rattle.console.specs.Steps.{kept_bytes}
use Rattle.console.specs.Places.{Advanced, Steps}
use Rattle.console.proofs.Places.{Goes, goes}
use Rattle.desk.specs.Input.{held_bytes, Lent, Undue, Serves, Relays}

-- `at` bytes of the part s from p on are taken, and what they printed is held
pub record Serving (s : List ℕ) (p : Progress Store) (at held : ℕ) (p' : Progress Store) (l o : List ℕ) : Type 0 where
  pub inside : at ≤ length s
  pub after : min 1 held ≤ at
  pub few : held ≤ held_bytes
  pub buffers : Lent l o
  pub day : (rest : List ℕ) → day_from store_call p (s ++ rest) ≡ take held o ++ day_from store_call p' (drop at s ++ rest)

-- the rest of a part
abbrev pub rest_of : List ℕ → ℕ → List ℕ
rest_of s at = take (length s - at) (drop at s)

rest-is : (s : List ℕ) (at : ℕ) → rest_of s at ≡ drop at s
rest-is s at = take_all (length s - at) (drop at s) (omega (arith, length-drop at s))

pub rest-size : (s : List ℕ) (at : ℕ) → length (rest_of s at) ≡ length s - at
rest-size s at = ap length (rest-is s at) ∙ length-drop at s

-- bytes b of the day of the part s from p on, and more bytes of its rest
day-more : (s : List ℕ) (p p' p'' : Progress Store) (at n : ℕ) (a b : List ℕ)
    → ((rest : List ℕ) → day_from store_call p (s ++ rest) ≡ a ++ day_from store_call p' (drop at s ++ rest))
    → ((rest : List ℕ) → day_from store_call p' (rest_of s at ++ rest) ≡ b ++ day_from store_call p'' (drop n (rest_of s at) ++ rest))
    → (rest : List ℕ) → day_from store_call p (s ++ rest) ≡ a ++ b ++ day_from store_call p'' (drop (at + n) s ++ rest)
day-more s p p' p'' at n a b f g rest =
    f rest
    ∙ ap (λ (d : List ℕ). a ++ d)
    (ap (λ (d : List ℕ). day_from store_call p' (d ++ rest)) (sym (rest-is s at))
    ∙ g rest
    ∙ ap (λ (d : List ℕ). b ++ day_from store_call p'' (d ++ rest)) (ap (drop n) (rest-is s at) ∙ drop-drop n at s))
    ∙ sym (append_assoc a b (day_from store_call p'' (drop (at + n) s ++ rest)))

-- ── steps ───────────────────────────────────────────────────────────────────────────────────────

-- the room that is left in the output after the bytes that are held
abbrev pub room_of : List ℕ → ℕ → List ℕ
room_of o held = take (held_bytes - held) (drop held o)

-- a step over the rest of the part s goes on, and stays within the part and the output
pub record Moves (s : List ℕ) (at held : ℕ) (x : Advanced) : Type 0 where
  pub further : at < at + x.taken
  pub inside : at + x.taken ≤ length s
  pub few : held + x.printed ≤ held_bytes

module _ {s : List ℕ} {p : Progress Store} {at held : ℕ} {p' : Progress Store} {l o : List ℕ} (q : Serving s p at held p' l o) (left : at < length s)
    (due : Undue held false) {x : Advanced} (e : Steps l (room_of o held) (rest_of s at) p' x) where
  room : held + paper_bytes ≤ held_bytes
  room = due.room refl q.few

  room-size : length (room_of o held) ≡ held_bytes - held
  room-size = omega (arith, length-take (held_bytes - held) (drop held o), length-drop held o, q.buffers.out)

  went : Goes (room_of o held) (rest_of s at) p' x
  went = goes p' l (room_of o held) (rest_of s at) x (omega (arith, q.buffers.line)) (omega (arith, room, room-size)) e

  pub moves : Moves s at held x
  moves =
      let z = went in
      record {
        further = omega (arith, z.takes.some, rest-size s at);
        inside = omega (arith, z.takes.inside, rest-size s at, q.inside);
        few = omega (arith, z.little, room);
      }

  pub serving-more : (l'' : List ℕ) → length l'' ≡ kept_bytes → Serving s p (at + x.taken) (held + x.printed) x.to l'' (put_mid held (held_bytes - held) o x.paper)
  serving-more l'' h =
      let z = went in
      let m = moves in
      let after = drop (held_bytes - held) (drop held o) in
      let size = length-take-le held o (omega (arith, q.few, q.buffers.out)) in
      let fits : x.printed ≤ length x.paper = omega (arith, z.little, z.paper, room-size, room) in
      let printed : take (held + x.printed) (take held o ++ (x.paper ++ after)) ≡ take held o ++ take x.printed x.paper =
      ap (λ n. take (n + x.printed) (take held o ++ (x.paper ++ after))) (sym size)
      ∙ take-append-add (take held o) (x.paper ++ after) x.printed
      ∙ ap (λ (b : List ℕ). take held o ++ b) (take-append-le x.printed x.paper after fits)
      in
      let whole : length (take held o ++ (x.paper ++ after)) ≡ held_bytes =
      simp length-append (omega (arith, size, z.paper, room-size, length-drop (held_bytes - held) (drop held o), length-drop held o, q.buffers.out))
      in
      record {
        inside = m.inside;
        after = omega (arith, m.further);
        few = m.few;
        buffers = record { line = h; out = whole };
        day = λ rest.
            day-more s p p' x.to at x.taken (take held o) (take x.printed x.paper) q.day e.day rest
            ∙ ap (λ (b : List ℕ). b ++ day_from store_call x.to (drop (at + x.taken) s ++ rest)) (sym printed);
      }

-- ── parts ───────────────────────────────────────────────────────────────────────────────────────

-- `at` bytes of the part s from p on went through the desk
pub record Relaying (s : List ℕ) (p : Progress Store) (at : ℕ) (p' : Progress Store) (l o : List ℕ) : Type 0 where
  pub inside : at ≤ length s
  pub buffers : Lent l o
  pub bytes : List ℕ
  pub day : (rest : List ℕ) → day_from store_call p (s ++ rest) ≡ bytes ++ day_from store_call p' (drop at s ++ rest)

module _ (s : List ℕ) (p : Progress Store) (at : ℕ) (p' : Progress Store) (l o : List ℕ) (q : Relaying s p at p' l o) where
  -- steps over the rest of the part
  module _ (x : Advanced) (e : Serves (rest_of s at) p' x) where
    inside : at + x.taken ≤ length s
    inside = omega (arith, e.inside, rest-size s at, q.inside)

    day : (rest : List ℕ)
        → day_from store_call p (s ++ rest) ≡ q.bytes ++ take x.printed x.paper ++ day_from store_call x.to (drop (at + x.taken) s ++ rest)
    day = day-more s p p' x.to at x.taken q.bytes (take x.printed x.paper) q.day e.day

    pub relaying-more : (l'' o'' : List ℕ) → Lent l'' o'' → Relaying s p (at + x.taken) x.to l'' o''
    relaying-more l'' o'' b = record { inside = inside; buffers = b; bytes = q.bytes ++ take x.printed x.paper; day = day }

    pub relays-some : Relays s p x.to (at + x.taken)
    relays-some = record { inside = inside; bytes = q.bytes ++ take x.printed x.paper; day = day }
