-- The day over a lent output, step by step.
use mathlib.Core.Path.{◌≡◌, refl, sym, ap, ◌∙◌}
use mathlib.Core.List.{List, [], ◌∷◌, ◌++◌, append_assoc, append-nil}
use Prim.Native.Nat.{ℕ, ◌+◌, ◌*◌, ◌-◌, ◌≤◌, ◌<◌}
use native.Mathlib.Omega.{arith}
use lib.ListN.{length, take, drop, length-append, length-drop}
use lib.Seq.{paste, take_all, length-take-le}
use Rattle.std.proofs.lemmas.List.{nil_from_length}
use Rattle.numerals.specs.Numerals.{Written, wrote, written, delivers}
use Rattle.numerals.proofs.Numerals.{written-room, written-two, delivered-whole, delivered-short}
use Rattle.book.specs.Store.{Store, store_call, fresh_store}
use Rattle.commands.specs.Served.{paper_bytes}
use Rattle.console.specs.Day.{max_lines, Progress, starts, day_from, day_of}
use Rattle.console.specs.Steps.{kept_bytes}
use Rattle.console.specs.Places.{Advanced, Steps, Ends}
use Rattle.console.proofs.Day.{day-of-store}
use Rattle.console.proofs.Places.{Goes, Leaves, goes, end_goes}
use Rattle.day.specs.Played.{short_output, played, Prints}

-- what was printed of the day of the input i: n bytes, at the start of the output o, which is o' now; p is where the day is, before so much of the input
pub record Playing (i o : List ℕ) (p : Progress Store) (rest : List ℕ) (n : ℕ) (o' : List ℕ) : Type 0 where
  pub bytes : List ℕ
  pub day : day_of i ≡ bytes ++ day_from store_call p rest
  pub count : n ≡ length bytes
  pub fits : n ≤ length o → wrote n o' ≡ written o 0 bytes
  pub size : length o' ≡ length o
  pub lines : p.done ≤ max_lines
  pub few : n ≤ paper_bytes * p.done

pub playing-none : (i o : List ℕ) → Playing i o (starts fresh_store) i 0 o
playing-none i o =
    record {
      bytes = [];
      day = sym (day-of-store i);
      count = refl;
      fits = λ h. written-room o 0 [] h;
      size = refl;
      lines = omega arith;
      few = omega arith;
    }

-- bytes b after those that were printed
more-fits : (o o' o'' a b : List ℕ) (n m r : ℕ) → n ≡ length a → m ≡ length b → (n ≤ length o → wrote n o' ≡ written o 0 a)
    → wrote r o'' ≡ written o' n b → n + m ≤ length o → wrote (n + m) o'' ≡ written o 0 (a ++ b)
more-fits o o' o'' a b n m r e f g w h =
    let all = written-two o 0 a b (g (omega arith)) w (omega arith) in
    let next : r ≡ n + m =
    let x : r ≡ 0 + length (a ++ b) = ap (λ (z : Written). z.next) (all ∙ sym (written-room o 0 (a ++ b) (omega (arith, length-append a b)))) in
    omega (arith, length-append a b)
    in
    ap (λ k. wrote k o'') (sym next) ∙ all

module _ (i o : List ℕ) (p : Progress Store) (rest : List ℕ) (n : ℕ) (o' : List ℕ) (q : Playing i o p rest n o') (l paper : List ℕ)
    (room : kept_bytes ≤ length l) (long : paper_bytes ≤ length paper) (x : Advanced) (r : ℕ) (o'' : List ℕ)
    (w : wrote r o'' ≡ written o' n (take x.printed x.paper)) (size : length o'' ≡ length o') where
  pub playing-more : Steps l paper rest p x → Playing i o x.to (take (length rest - x.taken) (drop x.taken rest)) (n + x.printed) o''
  playing-more s =
      let z = goes p l paper rest x room long s in
      let b = take x.printed x.paper in
      let left : drop x.taken rest ≡ take (length rest - x.taken) (drop x.taken rest) =
      sym (take_all (length rest - x.taken) (drop x.taken rest) (omega (arith, length-drop x.taken rest)))
      in
      let len : length b ≡ x.printed = length-take-le x.printed x.paper (omega (arith, z.little, z.paper)) in
      record {
        bytes = q.bytes ++ b;
        day =
            q.day
            ∙ ap (λ (d : List ℕ). q.bytes ++ d)
            (ap (day_from store_call p) (sym (append-nil rest))
            ∙ s.day []
            ∙ ap (λ (d : List ℕ). b ++ day_from store_call x.to d) (append-nil (drop x.taken rest) ∙ left))
            ∙ sym (append_assoc q.bytes b (day_from store_call x.to (take (length rest - x.taken) (drop x.taken rest))));
        count = omega (arith, q.count, length-append q.bytes b);
        fits = more-fits o o' o'' q.bytes b n x.printed r q.count (sym len) q.fits w;
        size = size ∙ q.size;
        lines = z.lines q.lines;
        few = omega (arith, z.few, q.few);
      }

  pub playing-ends : length rest ≡ 0 → Ends l paper p x → Prints (day_of i) o o'' (n + x.printed)
  playing-ends h s =
      let z = end_goes p l paper x room long s in
      let b = take x.printed x.paper in
      let len : length b ≡ x.printed = length-take-le x.printed x.paper (omega (arith, z.little, z.paper)) in
      let all : day_of i ≡ q.bytes ++ b =
      q.day ∙ ap (λ (d : List ℕ). q.bytes ++ day_from store_call p d) (nil_from_length rest h) ∙ ap (λ (d : List ℕ). q.bytes ++ d) (s.day room long)
      in
      let sum : n + x.printed ≡ length (day_of i) = omega (arith, q.count, length-append q.bytes b, ap length all) in
      record {
        count = sum;
        fits = λ g.
            let e = more-fits o o' o'' q.bytes b n x.printed r q.count (sym len) q.fits w g in
            ap (λ (y : Written). y.buffer) (e ∙ sym (written-room o 0 (q.bytes ++ b) (omega (arith, length-append q.bytes b))))
            ∙ ap (λ (d : List ℕ). paste o 0 d (length d)) (sym all)
            ∙ ap (paste o 0 (day_of i)) (sym sum);
      }

-- the same at the head of the loop, with the buffers that are lent
pub record Turning (i o : List ℕ) (p : Progress Store) (rest : List ℕ) (n : ℕ) (o' l w : List ℕ) : Type 0 where
  pub playing : Playing i o p rest n o'
  pub line : length l ≡ kept_bytes
  pub paper : length w ≡ paper_bytes

-- what a step and the end come to there
pub turning-goes : {i o : List ℕ} {p : Progress Store} {rest : List ℕ} {n : ℕ} {o' l w : List ℕ} {x : Advanced} → Turning i o p rest n o' l w → Steps l w rest p x → Goes w rest p x
turning-goes q s = goes _ _ _ _ _ (omega (arith, q.line)) (omega (arith, q.paper)) s

pub turning-leaves : {i o : List ℕ} {p : Progress Store} {rest : List ℕ} {n : ℕ} {o' l w : List ℕ} {x : Advanced} → Turning i o p rest n o' l w → Ends l w p x → Leaves w x
turning-leaves q s = end_goes _ _ _ _ (omega (arith, q.line)) (omega (arith, q.paper)) s

-- ── both times ──────────────────────────────────────────────────────────────────────────────────

-- the first time the output's first no bytes were lent, which are a now
module _ (o a d : List ℕ) (n : ℕ) (none : length a ≡ 0) (count : n ≡ length d) where
  as_it_was : a ++ o ≡ o
  as_it_was = go a none
    where
      go : (b : List ℕ) → length b ≡ 0 → b ++ o ≡ o
      go [] e = refl
      go (x ∷ b) e = absurd (omega arith)

  pub too_short : length (a ++ o) < n → delivers short_output 0 (a ++ o) ≡ played o d
  too_short h =
      let same = ap length as_it_was in
      ap (delivers short_output 0) as_it_was ∙ delivered-short short_output o d (omega arith)

  pub long-enough : (o' : List ℕ) (m : ℕ) → n ≤ length (a ++ o) → Prints d (a ++ o) o' m → delivers 0 n o' ≡ played o d
  long-enough o' m h p =
      let same = ap length as_it_was in
      let fits : m ≤ length (a ++ o) = omega (arith, p.count) in
      let e : o' ≡ paste o 0 d (length d) = p.fits fits ∙ (λ i. paste (as_it_was i) 0 d (p.count i)) in
      (λ i. delivers 0 (count i) (e i)) ∙ delivered-whole short_output o d (omega arith)
