-- The first pass goes with the parser: what it holds is the image of the parser's state, and each token keeps it so.
use mathlib.Core.Path.{◌≡◌, refl, sym, ap, ◌∙◌, subst}
use mathlib.Core.Bool.{Bool, true, false}
use mathlib.Core.List.{List, [], ◌∷◌, ◌++◌}
use mathlib.Core.Logic.{◌⊎◌, inl, inr}
use Prim.Native.Nat.{ℕ, suc, ◌+◌, ◌-◌, ◌≤◌, ◌<◌}
use native.Mathlib.Omega.{arith}
use lib.IntN.{ℤ, pos}
use lib.ListN.{length, get_or, set, take, drop, length-set}
use lib.Seq.{get_or-set_same, get_or-set_other}
use lib.Dec.{leb}
use borrow.Author.Tests.{leb-true, leb-false, le-leb, lt-leb, lt-ltb, le-ltb}
use Rattle.language.specs.Limits.{max_cells, max_levels, max_counters}
use Rattle.std.specs.Prelude.{Result, Ok, Err}
use Rattle.language.specs.declared.Fault.{Fault}
use Rattle.language.specs.declared.Fault.TheVariants.{TableFull}
use Rattle.language.specs.Syntax.{Operation, operator, variable, constant, print}
use Rattle.language.specs.Syntax.{condition, counter, Expr, close, semi, colon, operate, test, call, inner}
use Rattle.language.specs.Tokens.{Token, opens, closes, semis, colons, begins, faults, does, asks, counts, calls}
use Rattle.language.specs.Layout.{after_operation, after_predicate, after_expr, used_cells, code_start, opcode}
use Rattle.language.specs.Reading.{Reading, refused, Place, inside, whole, require, extend, within, parse}
use Rattle.lexer.specs.declared.Token as Lexer
use Rattle.lexer.specs.declared.Token.TheVariants as T
use Rattle.lexer.specs.Lexing.{Means}
use Rattle.emitter.specs.declared.pass.Draft.{Draft}
use Rattle.emitter.specs.Drafts.{level_places, Cell, known, semi_at, close_at, colon_at, pass_lay, pass_fit, at_level, opened, pass_closed, pass_coloned, operand_cells, test_cells, counter_cells, count_on, pass_counted, known_bytes}
use Rattle.assembler.specs.Taking.{taken}
use Rattle.assembler.specs.Scanning.{Ready}
use Rattle.language.proofs.LayoutPositions.{forward-add}
use Rattle.language.proofs.Tests.{by-ltb}
use Rattle.emitter.proofs.Drafts.{pass_fit_room, pass_fit_full, open_room, open_full, pass_close_last, pass_close_inner, pass_count_room, pass_count_full, bytes_length}
use Rattle.assembler.proofs.ExitsLayout.{operation_draft, predicate_draft, call_draft, emit}
use Rattle.assembler.proofs.ExitsFilling.{Low}
use Rattle.assembler.proofs.ScanningCells.{pile, pile-append, Cells, grown, lay-kept, lay-used, text_cells, head_cell, ready}

-- ── the image of the parser's state ─────────────────────────────────────────────────────────────

-- f is an open expression with u around it, from cell h on, up to cell q: the cells R before it and its own are R'
pub record Context (f : Expr → Expr) (u h q : ℕ) (R R' : List Cell) : Type 0 where
  pub emits : (e : Expr) (r : List Cell) → pile (emit (f e) u h h r) R ≡ pile (emit e u h q r) R'
  pub reaches : (e : Expr) → after_expr (f e) h ≡ after_expr e q

-- the expressions around the one that starts at cell h, with the cells R before it, and the first cell of each in F
abbrev pub Around : List (Expr → Expr) → ℕ → List Cell → List ℤ → Type 0
Around [] h R F = (h ≡ code_start) × (R ≡ head_cell) × (get_or F 1 (pos 0) ≡ pos code_start)
Around (g ∷ st) h R F =
    (h₀ : ℕ) × (R₀ : List Cell) × Context g (length st) h₀ h R₀ R × (get_or F (suc (suc (length st))) (pos 0) ≡ pos h) × Around st h₀ R₀ F

-- The draft d is the image of the parser's place inside the expression f, with st around it, cell q next and c counters so far.
pub record Image (d : Draft) (f : Expr → Expr) (st : List (Expr → Expr)) (q c : ℕ) : Type 0 where
  pub level-is : d.level ≡ suc (length st)
  pub counters-are : d.counters ≡ c
  pub deep : length st ≤ max_levels - 1
  pub places : length d.starts ≡ level_places
  pub size : suc d.used ≡ q
  pub start : ℕ
  pub outer : List Cell
  pub inner-cells : List Cell
  pub spare : ℕ
  pub cells_are : Cells d inner-cells spare
  pub here : Context f (length st) start q outer inner-cells
  pub around : Around st start outer d.starts

-- The parser goes on over l inside the expression, or after it.
pub data Stands (P : Reading) (l : List Token) (d : Draft) : Type 0 where
  goes : (f : Expr → Expr) (st : List (Expr → Expr)) (q c : ℕ) → P ≡ parse l (inside f st q c) → Image d f st q c → Stands P l d
  closes-all : (w : Expr) → P ≡ parse l (whole w) → d.level ≡ 0 → Ready w d → Stands P l d

-- After a token: the text is refused, or the parser goes on.
abbrev pub Outcome : Reading → List Token → Result Draft Fault → Type 0
Outcome P l (Ok d) = Stands P l d
Outcome P l (Err why) = P ≡ refused why

-- ── positions ───────────────────────────────────────────────────────────────────────────────────

operation-far : (o : Operation) (q : ℕ) → after_operation o q ≡ q + length (operation_draft o)
operation-far (operator o) q = omega arith
operation-far (variable a k) q = omega arith
operation-far (constant v) q = omega arith
operation-far (print b) q = omega (arith, forward-add (length b) (suc (suc q)), bytes_length b)

start-here : (st : List (Expr → Expr)) (h : ℕ) (R : List Cell) (F : List ℤ) → Around st h R F → get_or F (suc (length st)) (pos 0) ≡ pos h
start-here [] h R F a = a.2 ∙ ap pos (sym a.0)
start-here (g ∷ st) h R F a = a.3

around-set : (st : List (Expr → Expr)) (h : ℕ) (R : List Cell) (F : List ℤ) (v : ℕ) (z : ℤ) → suc (length st) < v → Around st h R F → Around st h R (set F v z)
around-set [] h R F v z k a = (a.0, a.1, get_or-set_other F v 1 z (pos 0) (λ e. omega arith) ∙ a.2)
around-set (g ∷ st) h R F v z k a =
    (a.0, a.1, a.2, get_or-set_other F v (suc (suc (length st))) z (pos 0) (λ e. omega arith) ∙ a.3, around-set st a.0 a.1 F v z (omega arith) a.4)

-- ── a mark's cells ──────────────────────────────────────────────────────────────────────────────

extend-room : (f : Expr → Expr) (st : List (Expr → Expr)) (q c : ℕ) (k : Place → Reading) → q ≤ (suc max_cells) → extend f st q c k ≡ k (inside f st q c)
unfolding extend require
extend-room f st q c k h = simp (le-leb q (suc max_cells) h)

extend-full : (f : Expr → Expr) (st : List (Expr → Expr)) (q c : ℕ) (k : Place → Reading) → (suc max_cells) < q → extend f st q c k ≡ refused TableFull
unfolding extend require
extend-full f st q c k h = simp (lt-leb q (suc max_cells) h)

by-leb : (a b : ℕ) (P : Type 0) → (a ≤ b → P) → (b < a → P) → P
by-leb a b P f g = go (leb a b) refl
  where
    go : (t : Bool) → leb a b ≡ t → P
    go true e = f (leb-true a b e)
    go false e = g (leb-false a b e)

-- g is one more mark of the expression f, and its cells are cs
module _ (l : List Token) (d : Draft) (f g : Expr → Expr) (st : List (Expr → Expr)) (q c q' : ℕ) (cs : List Cell) (im : Image d f st q c)
    (low : Low cs) (far : q' ≡ q + length cs)
    (own : (e : Expr) (r : List Cell) → emit (g e) (length st) im.start q r ≡ cs ++ emit e (length st) im.start q' r)
    (past : (e : Expr) → after_expr (g e) q ≡ after_expr e q')
  where
    image : d.used + length cs ≤ max_cells → Image (pass_lay d cs) (λ e. f (g e)) st q' c
    image h =
        let k = lay-kept d cs in
        record {
          level-is = k.level-kept ∙ im.level-is;
          counters-are = k.counters-kept ∙ im.counters-are;
          deep = im.deep;
          places = ap length k.starts-kept ∙ im.places;
          size = omega (arith, far, lay-used d cs, im.size);
          start = im.start;
          outer = im.outer;
          inner-cells = pile cs im.inner-cells;
          spare = im.spare - length cs;
          cells_are = grown d im.inner-cells im.spare cs low im.cells_are h;
          here =
              record {
                emits = λ e r. im.here.emits (g e) r ∙ ap (λ x. pile x im.inner-cells) (own e r) ∙ pile-append cs (emit e (length st) im.start q' r) im.inner-cells;
                reaches = λ e. im.here.reaches (g e) ∙ past e;
              };
          around = subst (Around st im.start im.outer) (sym k.starts-kept) im.around;
        }

    extended : Outcome (extend (λ e. f (g e)) st q' c (λ p. parse l p)) l (pass_fit d cs)
    extended =
        by-leb (d.used + length cs) max_cells (Outcome (extend (λ e. f (g e)) st q' c (λ p. parse l p)) l (pass_fit d cs))
        (λ h. subst (λ x. Outcome (extend (λ e. f (g e)) st q' c (λ p. parse l p)) l x) (sym (pass_fit_room d cs h))
        (goes (λ e. f (g e)) st q' c (extend-room (λ e. f (g e)) st q' c (λ p. parse l p) (omega (arith, far, im.size))) (image h)))
        (λ h. subst (λ x. Outcome (extend (λ e. f (g e)) st q' c (λ p. parse l p)) l x) (sym (pass_fit_full d cs h))
        (extend-full (λ e. f (g e)) st q' c (λ p. parse l p) (omega (arith, far, im.size))))

-- ── parentheses ─────────────────────────────────────────────────────────────────────────────────

module _ (l : List Token) (d : Draft) (f : Expr → Expr) (st : List (Expr → Expr)) (q c : ℕ) (im : Image d f st q c) where
  image-open : length st < 9 → Image (at_level d (d.level + 1) (set d.starts (d.level + 1) (pos (d.used + 1)))) (λ e. e) (f ∷ st) q c
  image-open h =
      let e : d.level + 1 ≡ suc (suc (length st)) = omega (arith, im.level-is) in
      let k = im.cells_are in
      record {
        level-is = e;
        counters-are = im.counters-are;
        deep = h;
        places = length-set d.starts (d.level + 1) (pos (d.used + 1)) ∙ im.places;
        size = im.size;
        start = q;
        outer = im.inner-cells;
        inner-cells = im.inner-cells;
        spare = im.spare;
        cells_are = record { values-are = k.values-are; opens-are = k.opens-are; used-is = k.used-is; room = k.room; low = k.low };
        here = record { emits = λ e r. refl; reaches = λ e. refl };
        around =
            subst (λ v. Around (f ∷ st) q im.inner-cells (set d.starts v (pos (d.used + 1)))) (sym e) (
              im.start,
              im.outer,
              im.here,
              get_or-set_same d.starts (suc (suc (length st))) _ (pos 0) (omega (arith, im.places)) ∙ ap pos (omega (arith, im.size)),
              around-set st im.start im.outer d.starts (suc (suc (length st))) _ (omega arith) im.around,
            );
      }

  opening : Outcome (within opens f st q c (λ p. parse l p)) l (opened d)
  unfolding within require
  opening =
      by-ltb (length st) (max_levels - 1) (λ _. Outcome (within opens f st q c (λ p. parse l p)) l (opened d))
      (λ h. subst (λ x. Outcome (within opens f st q c (λ p. parse l p)) l x) (sym (open_room d (omega (arith, im.level-is))))
      (goes (λ e. e) (f ∷ st) q c (simp (le-leb (suc (suc (length st))) max_levels (omega arith))) (image-open h)))
      (λ h. subst (λ x. Outcome (within opens f st q c (λ p. parse l p)) l x) (sym (open_full d (omega (arith, im.level-is))))
      (simp (lt-leb (suc (suc (length st))) max_levels (omega arith))))

-- the same draft at another level
same-cells : (d : Draft) (R : List Cell) (n v : ℕ) → Cells d R n → Cells (at_level d v d.starts) R n
same-cells d R n v k =
    record { values-are = k.values-are; opens-are = k.opens-are; used-is = k.used-is; room = k.room; low = k.low }

-- an inner `)`
module _ (l : List Token) (d : Draft) (f g : Expr → Expr) (st : List (Expr → Expr)) (q c : ℕ) (im : Image d f (g ∷ st) q c) where
  abbrev lowered : Draft
  lowered = at_level d (suc (length st)) d.starts

  abbrev closing : List Cell
  closing = close_at (suc (length st)) ∷ []

  image-close : d.used + 1 ≤ max_cells → Image (pass_lay lowered closing) (λ e. g (inner (f close) e)) st (suc q) c
  image-close h =
      let a = im.around in
      record {
        level-is = refl;
        counters-are = im.counters-are;
        deep = omega (arith, im.deep);
        places = im.places;
        size = omega (arith, im.size);
        start = a.0;
        outer = a.1;
        inner-cells = close_at (suc (length st)) ∷ im.inner-cells;
        spare = im.spare - 1;
        cells_are = grown lowered im.inner-cells im.spare closing (omega (arith, im.deep), tt) (same-cells d im.inner-cells im.spare (suc (length st)) im.cells_are) h;
        here =
            record {
              emits = λ e r.
                  a.2.emits (inner (f close) e) r
                  ∙ im.here.emits close (emit e (length st) a.0 (after_expr (f close) im.start) r)
                  ∙ ap (λ n. pile (emit e (length st) a.0 n r) (close_at (suc (length st)) ∷ im.inner-cells)) (im.here.reaches close);
              reaches = λ e. a.2.reaches (inner (f close) e) ∙ ap (after_expr e) (im.here.reaches close);
            };
        around = a.4;
      }

  closing-inner : Outcome (extend (λ e. g (inner (f close) e)) st (suc q) c (λ p. parse l p)) l (pass_closed d)
  closing-inner =
      let P = extend (λ e. g (inner (f close) e)) st (suc q) c (λ p. parse l p) in
      let v : d.level - 1 ≡ suc (length st) = omega (arith, im.level-is) in
      let z : pass_closed d ≡ pass_fit lowered closing =
      pass_close_inner d (λ e. omega (arith, im.level-is)) ∙ ap (λ v. pass_fit (at_level d v d.starts) (close_at v ∷ [])) v in
      subst (λ x. Outcome P l x) (sym z)
      (by-leb (d.used + 1) max_cells (Outcome P l (pass_fit lowered closing))
      (λ h. subst (λ x. Outcome P l x) (sym (pass_fit_room lowered closing h))
      (goes (λ e. g (inner (f close) e)) st (suc q) c (extend-room (λ e. g (inner (f close) e)) st (suc q) c (λ p. parse l p) (omega (arith, im.size))) (image-close h)))
      (λ h. subst (λ x. Outcome P l x) (sym (pass_fit_full lowered closing h))
      (extend-full (λ e. g (inner (f close) e)) st (suc q) c (λ p. parse l p) (omega (arith, im.size)))))

-- the last `)`
module _ (l : List Token) (d : Draft) (f : Expr → Expr) (q c : ℕ) (im : Image d f [] q c) where
  abbrev outside-all : Draft
  outside-all = at_level d 0 d.starts

  abbrev last-cells : List Cell
  last-cells = close_at 0 ∷ known (pos 1) ∷ []

  table : d.used + 2 ≤ max_cells
      → Ready (f close) (pass_lay outside-all last-cells)
  table h =
      let a = im.around in
      let k = grown outside-all im.inner-cells im.spare last-cells (omega arith, (omega arith, tt)) (same-cells d im.inner-cells im.spare 0 im.cells_are) h in
      let e : pile last-cells im.inner-cells ≡ pile (text_cells (f close)) head_cell =
      sym (im.here.emits close (known (pos 1) ∷ []))
      ∙ ap (λ n. pile (emit (f close) 0 n n (known (pos 1) ∷ [])) im.outer) a.0
      ∙ ap (pile (text_cells (f close))) a.1 in
      let u : suc q ≡ used_cells (f close) = sym (im.here.reaches close) ∙ ap (after_expr (f close)) a.0 in
      ready (pass_lay outside-all last-cells) (f close) (im.spare - 2) (subst (λ R. Cells (pass_lay outside-all last-cells) R (im.spare - 2)) e k) (omega (arith, u, im.size))

  closing-last : Outcome (within closes f [] q c (λ p. parse l p)) l (pass_closed d)
  unfolding within require
  closing-last =
      let P = within closes f [] q c (λ p. parse l p) in
      let v : d.level - 1 ≡ 0 = omega (arith, im.level-is) in
      let z : pass_closed d ≡ pass_fit outside-all last-cells = pass_close_last d v ∙ ap (λ v. pass_fit (at_level d v d.starts) (close_at v ∷ known (pos 1) ∷ [])) v in
      subst (λ x. Outcome P l x) (sym z)
      (by-leb (d.used + 2) max_cells (Outcome P l (pass_fit outside-all last-cells))
      (λ h. subst (λ x. Outcome P l x) (sym (pass_fit_room outside-all last-cells h))
      (closes-all (f close) (simp (le-leb (suc q) max_cells (omega (arith, im.size)))) refl (table h)))
      (λ h. subst (λ x. Outcome P l x) (sym (pass_fit_full outside-all last-cells h)) (simp (lt-leb (suc q) max_cells (omega (arith, im.size))))))

closing-any : (l : List Token) (d : Draft) (f : Expr → Expr) (st : List (Expr → Expr)) (q c : ℕ) → Image d f st q c
    → Outcome (within closes f st q c (λ p. parse l p)) l (pass_closed d)
unfolding within
closing-any l d f [] q c im = closing-last l d f q c im
closing-any l d f (g ∷ st) q c im = closing-inner l d f g st q c im

-- ── counters ────────────────────────────────────────────────────────────────────────────────────

module _ (l : List Token) (d : Draft) (f : Expr → Expr) (st : List (Expr → Expr)) (q c : ℕ) (im : Image d f st q c) where
  image-count : Image (count_on d) f st q (suc c)
  image-count =
      let k = im.cells_are in
      record {
        level-is = im.level-is;
        counters-are = omega (arith, im.counters-are);
        deep = im.deep;
        places = im.places;
        size = im.size;
        start = im.start;
        outer = im.outer;
        inner-cells = im.inner-cells;
        spare = im.spare;
        cells_are = record { values-are = k.values-are; opens-are = k.opens-are; used-is = k.used-is; room = k.room; low = k.low };
        here = im.here;
        around = im.around;
      }

  counting : (m : ℕ) → Outcome (within (counts m) f st q c (λ p. parse l p)) l (pass_counted d (suc m))
  unfolding within require
  counting m =
      let P = within (counts m) f st q c (λ p. parse l p) in
      by-ltb c max_counters (λ _. Outcome P l (pass_counted d (suc m)))
      (λ h.
      let z : pass_counted d (suc m) ≡ pass_fit (count_on d) (counter_cells (suc m) c (suc (length st))) =
      pass_count_room d (suc m) (omega (arith, im.counters-are))
      ∙ ap (λ k. pass_fit (count_on d) (counter_cells (suc m) k d.level)) im.counters-are
      ∙ ap (λ v. pass_fit (count_on d) (counter_cells (suc m) c v)) im.level-is in
      let p : P ≡ extend (λ e. f (test (counter m c) e)) st (after_predicate (counter m c) q) (suc c) (λ p. parse l p) = simp (lt-ltb c max_counters h) in
      subst (λ x. Outcome P l x) (sym z)
      (subst (λ x. Outcome x l (pass_fit (count_on d) (counter_cells (suc m) c (suc (length st))))) (sym p)
      (extended l (count_on d) f (test (counter m c)) st q (suc c) (after_predicate (counter m c) q) (counter_cells (suc m) c (suc (length st))) image-count
      (omega arith, (omega arith, (omega arith, (omega (arith, im.deep), tt)))) (omega arith) (λ e r. refl) (λ e. refl))))
      (λ h. subst (λ x. Outcome P l x) (sym (pass_count_full d (suc m) (omega (arith, im.counters-are)))) (simp (le-ltb c max_counters h)))

-- ── one token ───────────────────────────────────────────────────────────────────────────────────

bytes_low : (b : List ℕ) → Low (known_bytes b)
bytes_low [] = tt
bytes_low (x ∷ b) = (omega arith, bytes_low b)

operation-low : (o : Operation) → Low (operation_draft o)
operation-low (operator o) = (omega arith, tt)
operation-low (variable a k) = (omega arith, (omega arith, tt))
operation-low (constant v) = (omega arith, (omega arith, tt))
operation-low (print b) = (omega arith, (omega arith, bytes_low b))

module _ (s : List ℕ) (l : List Token) (d : Draft) (f : Expr → Expr) (st : List (Expr → Expr)) (q c : ℕ) (im : Image d f st q c) where
  -- the parser's state
  abbrev at : Place
  at = inside f st q c

  -- from the tokens t that stand there
  from : (t t' : List Token) (e : Result Draft Fault) → t ≡ t' → Outcome (parse t' at) l e → Outcome (parse t at) l e
  from t t' e p o = subst (λ t. Outcome (parse t at) l e) (sym p) o

  -- cells at the draft's level
  level-at : (P : Reading) (cs : ℕ → List Cell) → Outcome P l (pass_fit d (cs (suc (length st)))) → Outcome P l (pass_fit d (cs d.level))
  level-at P cs o = subst (λ v. Outcome P l (pass_fit d (cs v))) (sym im.level-is) o

  operating-on : (o : Operation) → Outcome (extend (λ e. f (operate o e)) st (after_operation o q) c (λ p. parse l p)) l (pass_fit d (operation_draft o))
  operating-on o = extended l d f (operate o) st q c (after_operation o q) (operation_draft o) im (operation-low o) (operation-far o q) (λ e r. refl) (λ e. refl)

  pub one_fault : (r : Fault) (ts : List Token) → (ts ≡ faults r ∷ []) ⊎ (ts ≡ begins ∷ faults r ∷ []) → parse ts at ≡ refused r
  unfolding parse
  one_fault r ts (inl m) = ap (λ t. parse t at) m
  one_fault r ts (inr m) = ap (λ t. parse t at) m

  pub one_token : (t : Lexer.Token) (ts : List Token) → Means s t ts l → Outcome (parse ts at) l (taken s t d)
  unfolding parse within taken pass_coloned
  one_token T.End ts m = ap (λ t. parse t at) m
  one_token T.Open ts m = from ts (opens ∷ l) (opened d) m (opening l d f st q c im)
  one_token T.Close ts m = from ts (closes ∷ l) (pass_closed d) m (closing-any l d f st q c im)
  one_token T.Semicolon ts m =
      from ts (semis ∷ l) _ m
      (level-at _ (λ v. semi_at v ∷ [])
      (extended l d f semi st q c (suc q) (semi_at (suc (length st)) ∷ []) im (omega (arith, im.deep), tt) (omega arith) (λ e r. refl) (λ e. refl)))
  one_token T.Colon ts m =
      let e : get_or d.starts d.level (pos 0) ≡ pos im.start =
      ap (λ v. get_or d.starts v (pos 0)) im.level-is ∙ start-here st im.start im.outer d.starts im.around in
      from ts (colons ∷ l) _ m
      (subst (λ z. Outcome (parse (colons ∷ l) at) l (pass_fit d (colon_at d.level z ∷ []))) (sym e)
      (level-at _ (λ v. colon_at v (pos im.start) ∷ [])
      (extended l d f colon st q c (suc q) (colon_at (suc (length st)) (pos im.start) ∷ []) im (omega (arith, im.deep), tt) (omega arith) (λ e r. refl) (λ e. refl))))
  one_token (T.Operator b) ts m =
      from ts _ _ m.here-is (subst (λ b. Outcome (parse (begins ∷ does (operator m.mark) ∷ l) at) l (pass_fit d (known (opcode b) ∷ []))) m.byte-is (operating-on (operator m.mark)))
  one_token (T.Variable b k) ts m =
      from ts _ _ m.here-is
      (subst (λ b. Outcome (parse (begins ∷ does (variable m.mark k) ∷ l) at) l (pass_fit d (operand_cells b (pos k)))) m.byte-is (operating-on (variable m.mark k)))
  one_token (T.Condition b) ts m =
      from ts _ _ m.here-is
      (subst (λ b. Outcome (parse (begins ∷ asks m.mark ∷ l) at) l (pass_fit d (test_cells b d.level))) m.byte-is
      (level-at _ (λ v. predicate_draft (condition m.mark) v)
      (extended l d f (test (condition m.mark)) st q c (suc (suc q)) (predicate_draft (condition m.mark) (suc (length st))) im (omega arith, (omega (arith, im.deep), tt)) (omega arith) (λ e r. refl) (λ e. refl))))
  one_token (T.Call b) ts m =
      from ts _ _ m.here-is
      (subst (λ b. Outcome (parse (begins ∷ calls m.mark ∷ l) at) l (pass_fit d (test_cells b d.level))) m.byte-is
      (level-at _ (λ v. call_draft m.mark v)
      (extended l d f (call m.mark) st q c (suc (suc q)) (call_draft m.mark (suc (length st))) im (omega arith, (omega (arith, im.deep), tt)) (omega arith) (λ e r. refl) (λ e. refl))))
  one_token (T.Counter n) ts m =
      from ts _ _ m.stands.here-is
      (subst (λ n. Outcome (parse (begins ∷ counts m.stands.mark ∷ l) at) l (pass_counted d n)) m.stands.byte-is (counting l d f st q c im m.stands.mark))
  one_token (T.Constant v) ts m = from ts _ _ m (operating-on (constant v))
  one_token (T.Print a n) ts m = from ts _ _ m.here-is (operating-on (print (take n (drop a s))))
