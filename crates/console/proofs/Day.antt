-- The store's day is the book's; the lines of an input that comes in parts; and of a long line the first 301 bytes decide.
use mathlib.Core.Path.{◌≡◌, refl, sym, ap, ◌∙◌}
use mathlib.Core.Bool.{Bool, true, false, cond}
use mathlib.Core.List.{List, [], ◌∷◌, ◌++◌, tail, append_assoc, append-nil}
use Prim.Native.Nat.{ℕ, zero, suc, ◌-◌, ◌≤◌, ◌<◌}
use native.Mathlib.Omega.{arith}
use lib.IntN.{ℤ, pos}
use lib.ListN.{length, get_or, take, drop, replicate, length-append, length-take}
use lib.Seq.{take_all}
use lib.Dec.{leb, eqb}
use borrow.Author.Tests.{lt-leb, leb-true, leb-false}
use Rattle.language.specs.Bytes.{newline_byte}
use Rattle.lines.specs.Lines.{max_line, Request, define, withdraw, run, bad, provided, request}
use Rattle.language.specs.Roles.{open_permission, cashier_role}
use Rattle.language.specs.Limits.{max_height}
use Rattle.book.specs.Calls.{Call, defines, withdraws, running}
use Rattle.book.specs.Replies.{Reply, Answered}
use Rattle.book.specs.Book.{fresh_book, book_call}
use Rattle.book.specs.Store.{fresh_store, store_call}
use Rattle.book.specs.Sessions.{answers}
use Rattle.book.proofs.History.{calls-agree}
use Rattle.columns.specs.Printed.{columns, plain_columns}
use Rattle.commands.specs.Served.{output_bytes, Served, shown, granted, desk_line}
use Rattle.console.specs.Day.{max_lines, lines_from, Progress, session, day_from, day_of, DayOfStore}
use Rattle.console.specs.Steps.{line_end, kept_bytes}

-- ── the store's day is the book's ───────────────────────────────────────────────────────────────

-- two that answer every list of calls alike
module _ {S T : Type 0} (f : S → Call → Answered S) (g : T → Call → Answered T) where
  abbrev Alike : S → T → Type 0
  Alike s t = (cs : List Call) → answers f s cs ≡ answers g t cs

  alike-reply : (s : S) (t : T) (c : Call) → Alike s t → (f s c).reply ≡ (g t c).reply
  unfolding answers
  alike-reply s t c h = ap (λ (l : List Reply). get_or l 0 (f s c).reply) (h (c ∷ []))

  alike_next : (s : S) (t : T) (c : Call) → Alike s t → Alike (f s c).kept (g t c).kept
  unfolding answers
  alike_next s t c h cs = ap tail (h (c ∷ cs))

  -- the call of a run's line
  abbrev lends_run : ℕ → ℕ → List ℤ → Call
  lends_run l n i = running l cashier_role n i (replicate max_height (pos 0)) (replicate output_bytes 0)

  -- what a request prints, and what comes after it
  alike-request : (s : S) (t : T) (k : ℕ) (q : Request) → Alike s t
      → ((granted f s k q).bytes ≡ (granted g t k q).bytes) × Alike (granted f s k q).kept (granted g t k q).kept
  unfolding granted
  alike-request s t k (define l x) h = (ap (λ (r : Reply). columns (plain_columns k r.report.number)) (alike-reply s t (defines l open_permission x) h), alike_next s t (defines l open_permission x) h)
  alike-request s t k (withdraw l) h = (ap (λ (r : Reply). columns (plain_columns k r.report.number)) (alike-reply s t (withdraws l) h), alike_next s t (withdraws l) h)
  alike-request s t k (run l n i) h = let c = lends_run l n i in (ap (λ (r : Reply). shown k r) (alike-reply s t c h), alike_next s t c h)
  alike-request s t k bad h = (refl, h)

  alike-session : (ls : List (List ℕ)) (s : S) (t : T) (k : ℕ) → Alike s t → session f s k ls ≡ session g t k ls
  unfolding session desk_line
  alike-session [] s t k h = refl
  alike-session (l ∷ ls) s t k h =
      let x = alike-request s t k (request l) h in
      let y = alike-session ls (granted f s k (request l)).kept (granted g t k (request l)).kept (suc k) x.1 in
      λ i. x.0 i ++ y i

pub day-of-store : DayOfStore
unfolding day_of day_from
day-of-store i = alike-session store_call book_call (take max_lines (lines_from [] i)) fresh_store fresh_book 1 calls-agree

-- ── lines in parts ──────────────────────────────────────────────────────────────────────────────

pub line-end-le : (s : List ℕ) → line_end s ≤ length s
unfolding line_end
line-end-le [] = omega arith
line-end-le (b ∷ s) = go (eqb b newline_byte) (line-end-le s)
  where
    go : (u : Bool) → line_end s ≤ length s → cond u 0 (suc (line_end s)) ≤ suc (length s)
    go true h = omega arith
    go false h = omega arith

-- a part without newline belongs to the line so far
pub lines-grow : (s a rest : List ℕ) → length s ≤ line_end s → lines_from a (s ++ rest) ≡ lines_from (a ++ s) rest
unfolding lines_from line_end
lines-grow [] a rest h = ap (λ l. lines_from l rest) (sym (append-nil a))
lines-grow (b ∷ s) a rest h = go (eqb b newline_byte) (λ g. lines-grow s (a ++ (b ∷ [])) rest g) h
  where
    go : (u : Bool) → (length s ≤ line_end s → lines_from (a ++ (b ∷ [])) (s ++ rest) ≡ lines_from (a ++ (b ∷ []) ++ s) rest)
        → suc (length s) ≤ cond u 0 (suc (line_end s))
        → cond u (a ∷ lines_from [] (s ++ rest)) (lines_from (a ++ (b ∷ [])) (s ++ rest)) ≡ lines_from (a ++ (b ∷ s)) rest
    go true ih g = absurd (omega arith)
    go false ih g = ih (omega arith) ∙ ap (λ l. lines_from l rest) (append_assoc a (b ∷ []) s)

-- a part with a newline ends it
pub lines_end : (s a rest : List ℕ) → line_end s < length s
    → lines_from a (s ++ rest) ≡ (a ++ take (line_end s) s) ∷ lines_from [] (drop (suc (line_end s)) s ++ rest)
unfolding lines_from line_end
lines_end [] a rest h = absurd (omega arith)
lines_end (b ∷ s) a rest h = go (eqb b newline_byte) (λ g. lines_end s (a ++ (b ∷ [])) rest g) h
  where
    go : (u : Bool)
        → (line_end s < length s
        → lines_from (a ++ (b ∷ [])) (s ++ rest) ≡ (a ++ (b ∷ []) ++ take (line_end s) s) ∷ lines_from [] (drop (suc (line_end s)) s ++ rest))
        → cond u 0 (suc (line_end s)) < suc (length s)
        → cond u (a ∷ lines_from [] (s ++ rest)) (lines_from (a ++ (b ∷ [])) (s ++ rest))
        ≡ (a ++ take (cond u 0 (suc (line_end s))) (b ∷ s)) ∷ lines_from [] (drop (suc (cond u 0 (suc (line_end s)))) (b ∷ s) ++ rest)
    go true ih g = ap (λ (l : List ℕ). l ∷ lines_from [] (s ++ rest)) (sym (append-nil a))
    go false ih g =
        ih (omega arith)
        ∙ ap (λ (l : List ℕ). l ∷ lines_from [] (drop (suc (line_end s)) s ++ rest)) (append_assoc a (b ∷ []) (take (line_end s) s))

-- ── long lines ──────────────────────────────────────────────────────────────────────────────────

request-long : (a : List ℕ) → kept_bytes ≤ length a → request a ≡ bad
unfolding request provided
request-long a h = rw (lt-leb (length a) max_line (omega arith))

-- the first 301 bytes are all, or too many
cut : (a : List ℕ) (P : List ℕ → Type 0) → P a → ((b : List ℕ) → kept_bytes ≤ length a → kept_bytes ≤ length b → P b) → P (take kept_bytes a)
cut a P whole long = go (leb (length a) kept_bytes) refl
  where
    go : (u : Bool) → leb (length a) kept_bytes ≡ u → P (take kept_bytes a)
    go true e = rw (take_all kept_bytes a (leb-true (length a) kept_bytes e)) whole
    go false e =
        let h = leb-false (length a) kept_bytes e in
        long (take kept_bytes a) (omega arith) (omega (arith, length-take kept_bytes a))

module _ {S : Type 0} (f : S → Call → Answered S) where
  long-alike : (s : S) (k : ℕ) (a b : List ℕ) → kept_bytes ≤ length a → kept_bytes ≤ length b → desk_line f s k a ≡ desk_line f s k b
  unfolding desk_line
  long-alike s k a b h g = ap (granted f s k) (request-long a h ∙ sym (request-long b g))

  pub line-cut : (s : S) (k : ℕ) (a : List ℕ) → desk_line f s k a ≡ desk_line f s k (take kept_bytes a)
  line-cut s k a = cut a (λ b. desk_line f s k a ≡ desk_line f s k b) refl (λ b h g. long-alike s k a b h g)

  long-session : (i a b : List ℕ) (m : ℕ) (s : S) (k : ℕ) → kept_bytes ≤ length a → kept_bytes ≤ length b
      → session f s k (take m (lines_from a i)) ≡ session f s k (take m (lines_from b i))
  unfolding session lines_from
  long-session [] [] b m s k h g = absurd (omega arith)
  long-session [] (x ∷ a) [] m s k h g = absurd (omega arith)
  long-session [] (x ∷ a) (y ∷ b) zero s k h g = refl
  long-session [] (x ∷ a) (y ∷ b) (suc m) s k h g =
      ap (λ (z : Served S). z.bytes ++ session f z.kept (suc k) (take m [])) (long-alike s k (x ∷ a) (y ∷ b) h g)
  long-session (c ∷ i) a b zero s k h g = refl
  long-session (c ∷ i) a b (suc m) s k h g =
      go (eqb c newline_byte)
      (long-session i (a ++ (c ∷ [])) (b ++ (c ∷ [])) (suc m) s k (omega (arith, length-append a (c ∷ []))) (omega (arith, length-append b (c ∷ []))))
    where
      go : (u : Bool) → session f s k (take (suc m) (lines_from (a ++ (c ∷ [])) i)) ≡ session f s k (take (suc m) (lines_from (b ++ (c ∷ [])) i))
          → session f s k (take (suc m) (cond u (a ∷ lines_from [] i) (lines_from (a ++ (c ∷ [])) i)))
          ≡ session f s k (take (suc m) (cond u (b ∷ lines_from [] i) (lines_from (b ++ (c ∷ [])) i)))
      go true ih = ap (λ (z : Served S). z.bytes ++ session f z.kept (suc k) (take m (lines_from [] i))) (long-alike s k a b h g)
      go false ih = ih

  pub session-cut : (i a : List ℕ) (m : ℕ) (s : S) (k : ℕ)
      → session f s k (take m (lines_from a i)) ≡ session f s k (take m (lines_from (take kept_bytes a) i))
  session-cut i a m s k =
      cut a (λ b. session f s k (take m (lines_from a i)) ≡ session f s k (take m (lines_from b i))) refl (λ b h g. long-session i a b m s k h g)

  -- past the last line nothing is printed
  pub day-over : (p : Progress S) (i : List ℕ) → max_lines ≤ p.done → day_from f p i ≡ []
  unfolding day_from session
  day-over p i h = let e : max_lines - p.done ≡ 0 = omega arith in rw e
