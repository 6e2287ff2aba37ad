-- The parser over tokens. It is sound: what it accepts has the marks that the tokens stand for, and keeps to the limits. And it is complete: from the
-- tokens of an expression within the limits it reads that expression.
use mathlib.Core.Path.{◌≡◌, refl, sym, ap, ◌∙◌, subst}
use Prim.Native.Nat.{ℕ, suc, ◌+◌, ◌≤◌}
use native.Mathlib.Omega.{arith}
use mathlib.Core.Bool.{Bool, true, false, false≢true}
use mathlib.Core.List.{List, [], ◌∷◌}
use lib.ListN.{length}
use lib.Dec.{leb, ltb}
use borrow.Author.Tests.{leb-true, le-leb}
use Rattle.language.specs.declared.Fault.{Fault}
use Rattle.language.specs.declared.Fault.TheVariants.{LongText, Deep, TableFull, ManyCounters}
use Rattle.language.specs.Limits.{max_text, max_levels, max_cells, max_counters}
use Rattle.language.specs.Syntax.{condition, counter, Expr, close, semi, colon, operate, test, call, inner}
use Rattle.language.specs.Tokens.{Token, opens, closes, semis, colons, begins, ends, does, asks, counts, calls, faults, idle, tokens}
use Rattle.language.specs.Layout.{after_operation, after_predicate, after_call, after_expr}
use Rattle.language.specs.Reading.{Reading, refused, accepted, Place, outside, inside, whole, require, extend, within, starting, ending, parse, read}
use Rattle.language.specs.Grammar.{Mark, mOpen, mClose, mSemi, mColon, mOperation, mPredicate, mCall, marks, depth, counters}
use Rattle.language.proofs.LayoutPositions.{after-lt}
use Rattle.language.proofs.GrammarMarks.{tokens_of, marks_in, FormedMarks, expr-formed}

-- no fault before the end
abbrev pub Clean : List Token → Type 0
Clean [] = Unit {0}
Clean (opens ∷ l) = Clean l
Clean (closes ∷ l) = Clean l
Clean (semis ∷ l) = Clean l
Clean (colons ∷ l) = Clean l
Clean (begins ∷ l) = Clean l
Clean (ends ∷ l) = Unit {0}
Clean (does o ∷ l) = Clean l
Clean (asks t ∷ l) = Clean l
Clean (counts m ∷ l) = Clean l
Clean (calls a ∷ l) = Clean l
Clean (faults r ∷ l) = ⊥

-- ── sound: what an accepting parse has read ─────────────────────────────────────────────────────

-- The innermost expression e is closed, before cell q and after c counters; the marks ms complete the expressions around it to w.
abbrev Completed : List (Expr → Expr) → Expr → ℕ → ℕ → List Mark → Expr → Type 0
Completed [] e q c ms w = (ms ≡ []) × (e ≡ w) × (q ≤ max_cells) × (c ≤ max_counters)
Completed (g ∷ st) e q c ms w =
    (d : Expr) × (r : List Mark) × (n : ℕ) × (ms ≡ marks d r) × (depth d + length st ≤ max_levels) × (n ≡ c + counters d)
    × Completed st (g (inner e d)) (after_expr d q) n r w

-- The tokens l hold the rest d of the innermost expression, and then what completes it to w.
abbrev Parsed : (Expr → Expr) → List (Expr → Expr) → ℕ → ℕ → List Token → Expr → Type 0
Parsed f st q c l w =
    Clean l × ((d : Expr) × (r : List Mark) × (n : ℕ) × (marks_in c l ≡ marks d r) × (depth d + length st ≤ max_levels) × (n ≡ c + counters d)
    × Completed st (f d) (after_expr d q) n r w)

abbrev Accepting : Reading → Type 0
Accepting (refused r) = ⊥
Accepting (accepted w) = Unit {0}

-- a refused text is not accepted
pub not-accepted : (r : Fault) (w : Expr) → refused r ≡ accepted w → ⊥
not-accepted r w h = subst Accepting (sym h) tt

required : (u : Bool) (r : Fault) (k : Unit {0} → Reading) (w : Expr) → require u r k ≡ accepted w → (u ≡ true) × (k tt ≡ accepted w)
unfolding require
required true r k w h = (refl, h)
required false r k w h = absurd (not-accepted r w h)

module _ (l : List Token) (k : Place → Reading) (w : Expr)
    (more : (f : Expr → Expr) (st : List (Expr → Expr)) (q c : ℕ) → suc (length st) ≤ max_levels → c ≤ max_counters
    → k (inside f st q c) ≡ accepted w → Parsed f st q c l w)
    (over : (v : Expr) (c : ℕ) → k (whole v) ≡ accepted w → Clean l × (marks_in c l ≡ []) × (v ≡ w)) where
  extended : (f : Expr → Expr) (st : List (Expr → Expr)) (q c : ℕ) → suc (length st) ≤ max_levels → c ≤ max_counters
      → extend f st q c k ≡ accepted w → Parsed f st q c l w
  unfolding extend
  extended f st q c hs hc h = more f st q c hs hc (required (leb q (suc max_cells)) TableFull (λ _. k (inside f st q c)) w h).1

  within-sound : (t : Token) (f : Expr → Expr) (st : List (Expr → Expr)) (q c : ℕ) → suc (length st) ≤ max_levels → c ≤ max_counters
      → within t f st q c k ≡ accepted w → Parsed f st q c (t ∷ l) w
  unfolding within
  within-sound opens f st q c hs hc h =
      let p = required (leb (suc (suc (length st))) max_levels) Deep (λ _. k (inside (λ b. b) (f ∷ st) q c)) w h in
      let (cl, (d, r, n, e, dp, en, (d', r', n', e', dp', en', z))) = more (λ b. b) (f ∷ st) q c (leb-true _ _ p.0) hc p.1 in
      (cl, (inner d d', r', n', ap (λ ms. mOpen ∷ ms) (e ∙ ap (marks d) e'), omega arith, omega arith, z))
  within-sound closes f [] q c hs hc h =
      let p = required (leb (suc q) max_cells) TableFull (λ _. k (whole (f close))) w h in
      let (cl, e, v) = over (f close) c p.1 in
      (cl, (close, [], c, ap (λ ms. mClose ∷ ms) e, omega arith, omega arith, (refl, v, leb-true _ _ p.0, hc)))
  within-sound closes f (g ∷ st) q c hs hc h =
      let (cl, z) = extended (λ b. g (inner (f close) b)) st (suc q) c (omega arith) hc h in
      (cl, (close, marks_in c l, c, refl, omega arith, omega arith, z))
  within-sound semis f st q c hs hc h =
      let (cl, (d, r, n, e, dp, en, z)) = extended (λ b. f (semi b)) st (suc q) c hs hc h in
      (cl, (semi d, r, n, ap (λ ms. mSemi ∷ ms) e, dp, en, z))
  within-sound colons f st q c hs hc h =
      let (cl, (d, r, n, e, dp, en, z)) = extended (λ b. f (colon b)) st (suc q) c hs hc h in
      (cl, (colon d, r, n, ap (λ ms. mColon ∷ ms) e, dp, en, z))
  within-sound begins f st q c hs hc h = more f st q c hs hc h
  within-sound ends f st q c hs hc h = absurd (not-accepted _ w h)
  within-sound (does o) f st q c hs hc h =
      let (cl, (d, r, n, e, dp, en, z)) = extended (λ b. f (operate o b)) st (after_operation o q) c hs hc h in
      (cl, (operate o d, r, n, ap (λ ms. mOperation o ∷ ms) e, dp, en, z))
  within-sound (asks t) f st q c hs hc h =
      let (cl, (d, r, n, e, dp, en, z)) = extended (λ b. f (test (condition t) b)) st (after_predicate (condition t) q) c hs hc h in
      (cl, (test (condition t) d, r, n, ap (λ ms. mPredicate (condition t) ∷ ms) e, dp, omega arith, z))
  within-sound (counts m) f st q c hs hc h =
      let p = required (ltb c max_counters) ManyCounters (λ _. extend (λ b. f (test (counter m c) b)) st (after_predicate (counter m c) q) (suc c) k) w h in
      let (cl, (d, r, n, e, dp, en, z)) = extended (λ b. f (test (counter m c) b)) st (after_predicate (counter m c) q) (suc c) hs (leb-true _ _ p.0) p.1 in
      (cl, (test (counter m c) d, r, n, ap (λ ms. mPredicate (counter m c) ∷ ms) e, dp, omega arith, z))
  within-sound (calls a) f st q c hs hc h =
      let (cl, (d, r, n, e, dp, en, z)) = extended (λ b. f (call a b)) st (after_call q) c hs hc h in
      (cl, (call a d, r, n, ap (λ ms. mCall a ∷ ms) e, dp, en, z))
  within-sound (faults r) f st q c hs hc h = absurd (not-accepted _ w h)

ending-sound : (t : Token) (l : List Token) (v w : Expr) (c : ℕ) → ending t v ≡ accepted w → Clean (t ∷ l) × (marks_in c (t ∷ l) ≡ []) × (v ≡ w)
unfolding ending
ending-sound opens l v w c h = absurd (not-accepted _ w h)
ending-sound closes l v w c h = absurd (not-accepted _ w h)
ending-sound semis l v w c h = absurd (not-accepted _ w h)
ending-sound colons l v w c h = absurd (not-accepted _ w h)
ending-sound begins l v w c h = absurd (not-accepted _ w h)
ending-sound ends l v w c h = (tt, refl, cc)
ending-sound (does o) l v w c h = absurd (not-accepted _ w h)
ending-sound (asks t) l v w c h = absurd (not-accepted _ w h)
ending-sound (counts m) l v w c h = absurd (not-accepted _ w h)
ending-sound (calls a) l v w c h = absurd (not-accepted _ w h)
ending-sound (faults r) l v w c h = absurd (not-accepted _ w h)

over-sound : (l : List Token) (v w : Expr) (c : ℕ) → parse l (whole v) ≡ accepted w → Clean l × (marks_in c l ≡ []) × (v ≡ w)
unfolding parse
over-sound [] v w c h = absurd (not-accepted _ w h)
over-sound (t ∷ l) v w c h = ending-sound t l v w c h

inside-sound : (l : List Token) (w : Expr) (f : Expr → Expr) (st : List (Expr → Expr)) (q c : ℕ) → suc (length st) ≤ max_levels → c ≤ max_counters
    → parse l (inside f st q c) ≡ accepted w → Parsed f st q c l w
unfolding parse
inside-sound [] w f st q c hs hc h = absurd (not-accepted _ w h)
inside-sound (t ∷ l) w f st q c hs hc h =
    within-sound l (λ p. parse l p) w (λ f' st' q' c' hs' hc' h'. inside-sound l w f' st' q' c' hs' hc' h') (λ v c' h'. over-sound l v w c' h')
    t f st q c hs hc h

-- the tokens l are those of the expression w, which keeps the limits
pub record Sound (l : List Token) (w : Expr) : Type 0 where
  pub clean : Clean l
  pub order : marks_in 0 l ≡ mOpen ∷ marks w []
  pub levels : depth w ≤ max_levels
  pub counted : counters w ≤ max_counters
  pub cells : after_expr w 2 ≤ max_cells

starting-sound : (t : Token) (l : List Token) (w : Expr) → starting t (λ p. parse l p) ≡ accepted w → Sound (t ∷ l) w
unfolding starting
starting-sound opens l w h =
    let (cl, (d, r, n, e, dp, en, (er, ew, hq, hc))) = inside-sound l w (λ b. b) [] 2 0 (omega arith) (omega arith) h in
    subst (λ v. Sound (opens ∷ l) v) ew
    (record {
      clean = cl;
      order = ap (λ ms. mOpen ∷ ms) (e ∙ ap (marks d) er);
      levels = omega arith;
      counted = omega arith;
      cells = hq;
    })
starting-sound closes l w h = absurd (not-accepted _ w h)
starting-sound semis l w h = absurd (not-accepted _ w h)
starting-sound colons l w h = absurd (not-accepted _ w h)
starting-sound begins l w h = absurd (not-accepted _ w h)
starting-sound ends l w h = absurd (not-accepted _ w h)
starting-sound (does o) l w h = absurd (not-accepted _ w h)
starting-sound (asks t) l w h = absurd (not-accepted _ w h)
starting-sound (counts m) l w h = absurd (not-accepted _ w h)
starting-sound (calls a) l w h = absurd (not-accepted _ w h)
starting-sound (faults r) l w h = absurd (not-accepted _ w h)

parse-sound : (l : List Token) (w : Expr) → parse l outside ≡ accepted w → Sound l w
unfolding parse
parse-sound [] w h = absurd (not-accepted _ w h)
parse-sound (t ∷ l) w h = starting-sound t l w h

pub read-sound : (t : List ℕ) (w : Expr) → read t ≡ accepted w → (length t ≤ max_text) × Sound (tokens t idle) w
unfolding read
read-sound t w h =
    let p = required (leb (length t) max_text) LongText (λ _. parse (tokens t idle) outside) w h in
    (leb-true (length t) max_text p.0, parse-sound (tokens t idle) w p.1)

-- ── positions and levels ────────────────────────────────────────────────────────────────────────

depth-positive : (e : Expr) → 1 ≤ depth e
depth-positive close = omega arith
depth-positive (semi e) = depth-positive e
depth-positive (colon e) = depth-positive e
depth-positive (operate o e) = depth-positive e
depth-positive (test p e) = depth-positive e
depth-positive (call a e) = depth-positive e
depth-positive (inner f e) = omega (arith, depth-positive e)

-- ── complete: what it reads from the tokens of marks ────────────────────────────────────────────

require-true : (u : Bool) (r : Fault) (k : Unit {0} → Reading) → u ≡ true → require u r k ≡ k tt
unfolding require
require-true true r k h = refl
require-true false r k h = absurd (false≢true h)

extend-true : (f : Expr → Expr) (st : List (Expr → Expr)) (q c : ℕ) (k : Place → Reading) → q ≤ suc max_cells
    → extend f st q c k ≡ k (inside f st q c)
unfolding extend
extend-true f st q c k h = require-true (leb q (suc max_cells)) TableFull (λ _. k (inside f st q c)) (le-leb q (suc max_cells) h)

-- where the parser is once the innermost expression is closed and is e
abbrev after : Expr → List (Expr → Expr) → ℕ → ℕ → Place
after e [] q c = whole e
after e (g ∷ st) q c = inside (λ b. g (inner e b)) st q c

expr-complete : (e : Expr) (r : List Mark) (f : Expr → Expr) (st : List (Expr → Expr)) (q c n : ℕ) → n ≡ c + counters e → n ≤ max_counters
    → depth e + length st ≤ max_levels → after_expr e q ≤ max_cells → FormedMarks c (marks e r)
    → parse (tokens_of (marks e r)) (inside f st q c) ≡ parse (tokens_of r) (after (f e) st (after_expr e q) n)
unfolding parse
expr-complete close r f [] q c n p hn hd hq h =
    require-true (leb (suc q) max_cells) TableFull (λ _. parse (tokens_of r) (whole (f close))) (le-leb (suc q) max_cells hq)
expr-complete close r f (g ∷ st) q c n p hn hd hq h =
    let e : c ≡ n = omega arith in
    extend-true (λ b. g (inner (f close) b)) st (suc q) c (λ l. parse (tokens_of r) l) (omega arith)
    ∙ ap (λ m. parse (tokens_of r) (inside (λ b. g (inner (f close) b)) st (suc q) m)) e
expr-complete (semi e) r f st q c n p hn hd hq h =
    extend-true (λ b. f (semi b)) st (suc q) c (λ l. parse (tokens_of (marks e r)) l) (omega (arith, after-lt e (suc q)))
    ∙ expr-complete e r (λ b. f (semi b)) st (suc q) c n p hn hd hq h
expr-complete (colon e) r f st q c n p hn hd hq h =
    extend-true (λ b. f (colon b)) st (suc q) c (λ l. parse (tokens_of (marks e r)) l) (omega (arith, after-lt e (suc q)))
    ∙ expr-complete e r (λ b. f (colon b)) st (suc q) c n p hn hd hq h
expr-complete (operate o e) r f st q c n p hn hd hq h =
    extend-true (λ b. f (operate o b)) st (after_operation o q) c (λ l. parse (tokens_of (marks e r)) l) (omega (arith, after-lt e (after_operation o q)))
    ∙ expr-complete e r (λ b. f (operate o b)) st (after_operation o q) c n p hn hd hq h.1
expr-complete (test (condition t) e) r f st q c n p hn hd hq h =
    extend-true (λ b. f (test (condition t) b)) st (suc (suc q)) c (λ l. parse (tokens_of (marks e r)) l) (omega (arith, after-lt e (suc (suc q))))
    ∙ expr-complete e r (λ b. f (test (condition t) b)) st (suc (suc q)) c n (omega arith) hn hd hq h
expr-complete (test (counter m k) e) r f st q c n p hn hd hq h =
    let q' = after_predicate (counter m k) q in
    let g : Expr → Expr = λ b. f (test (counter m c) b) in
    require-true (ltb c max_counters) ManyCounters (λ _. extend g st q' (suc c) (λ l. parse (tokens_of (marks e r)) l))
    (le-leb (suc c) max_counters (omega arith))
    ∙ extend-true g st q' (suc c) (λ l. parse (tokens_of (marks e r)) l) (omega (arith, after-lt e q'))
    ∙ expr-complete e r g st q' (suc c) n (omega arith) hn hd hq h.2
    ∙ ap (λ j. parse (tokens_of r) (after (f (test (counter m j) e)) st (after_expr e q') n)) (sym h.1)
expr-complete (call a e) r f st q c n p hn hd hq h =
    extend-true (λ b. f (call a b)) st (after_call q) c (λ l. parse (tokens_of (marks e r)) l) (omega (arith, after-lt e (after_call q)))
    ∙ expr-complete e r (λ b. f (call a b)) st (after_call q) c n p hn hd hq h.1
expr-complete (inner d e) r f st q c n p hn hd hq h =
    let m = c + counters d in
    let lt = after-lt e (after_expr d q) in
    require-true (leb (suc (suc (length st))) max_levels) Deep (λ _. parse (tokens_of (marks d (marks e r))) (inside (λ b. b) (f ∷ st) q c))
    (le-leb (suc (suc (length st))) max_levels (omega (arith, depth-positive d)))
    ∙ expr-complete d (marks e r) (λ b. b) (f ∷ st) q c m refl (omega arith) (omega arith) (omega arith) h
    ∙ expr-complete e r (λ b. f (inner d b)) st (after_expr d q) m n (omega arith) hn (omega arith) hq
    (expr-formed d (marks e r) c m refl (omega arith) h).1

pub read-complete : (t : List ℕ) (w : Expr) → length t ≤ max_text → tokens t idle ≡ tokens_of (mOpen ∷ marks w []) → FormedMarks 0 (marks w [])
    → depth w ≤ max_levels → counters w ≤ max_counters → after_expr w 2 ≤ max_cells → read t ≡ accepted w
unfolding read
read-complete t w ht e h hd hn hq =
    require-true (leb (length t) max_text) LongText (λ _. parse (tokens t idle) outside) (le-leb (length t) max_text ht)
    ∙ ap (λ l. parse l outside) e
    ∙ expr-complete w [] (λ b. b) [] 2 0 (counters w) (omega arith) hn (omega arith) hq h
