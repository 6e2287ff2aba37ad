-- A draft follows a pass: a mark of the draft is the pass's mark, with the known cells written in what is open too.
use mathlib.Core.Path.{◌≡◌, refl, sym, ap, ◌∙◌, subst}
use mathlib.Core.Bool.{Bool, true, false}
use mathlib.Core.List.{List, [], ◌∷◌}
use Prim.Native.Nat.{ℕ, zero, suc, ◌+◌, ◌-◌, ◌≤◌, ◌<◌}
use native.Mathlib.Omega.{arith}
use lib.IntN.{ℤ, pos}
use lib.ListN.{length, set}
use lib.Seq.{set_comm}
use lib.Dec.{eqb}
use mir.Val.{bool_byte}
use borrow.Author.Tests.{eqb-true, eqb-false}
use Rattle.std.specs.Prelude.{Result, Ok, Err, is_ok, ⊤}
use Rattle.language.specs.Limits.{max_cells, max_counters}
use Rattle.language.specs.Layout.{opcode}
use Rattle.language.specs.Syntax.{print_code}
use Rattle.language.specs.declared.Fault.{Fault}
use Rattle.language.specs.declared.Fault.TheVariants.{TableFull, ManyCounters}
use Rattle.emitter.specs.declared.pass.Open.{Open}
use Rattle.emitter.specs.declared.pass.Open.TheVariants.{Known}
use Rattle.emitter.specs.declared.pass.Draft.{Draft}
use Rattle.emitter.specs.Drafts.{Cell, known, exit_at, close_at, lay, fit, closed, counted, at_level, count_on, operand_cells, test_cells, counter_cells, known_bytes, print_cells, Steps}
use Rattle.emitter.specs.Drafts.{pass_put, pass_lay, pass_fit, pass_closed, pass_counted, cleared}
use Rattle.emitter.proofs.Drafts.{fit_room, fit_full, close_last, close_inner, count_room, count_full, pass_fit_room, pass_fit_full, pass_close_last, pass_close_inner, pass_count_room, pass_count_full, bytes_length}
use Rattle.language.proofs.Tests.{by-ltb}

-- ── cells ───────────────────────────────────────────────────────────────────────────────────────

-- a draft with n cells known from place i on
abbrev pub clears : ℕ → ℕ → Draft → Draft
clears i n d = record d { opens = cleared d.opens i n }

-- a later cell stays
pub cleared_later : (os : List Open) (i n j : ℕ) (o : Open) → i + n ≤ j → cleared (set os j o) i n ≡ set (cleared os i n) j o
cleared_later os i zero j o h = refl
cleared_later os i (suc n) j o h =
    ap (λ l. cleared l (i + 1) n) (set_comm os j i o Known (λ e. omega (arith, e))) ∙ cleared_later (set os i Known) (i + 1) n j o (omega arith)

-- the cells of bytes are known
pub lay_bytes : (d : Draft) (os : List Open) (l : List ℕ)
    → lay (record d { opens = os }) (known_bytes l) ≡ record (pass_lay d (known_bytes l)) { opens = cleared os d.used (length l) }
lay_bytes d os [] = refl
lay_bytes d os (b ∷ l) = lay_bytes (pass_put d (known (pos b))) (set os d.used Known) l

-- and leave what is open in a pass
pub open_bytes : (d : Draft) (l : List ℕ) → (pass_lay d (known_bytes l)).opens ≡ d.opens
open_bytes d [] = refl
open_bytes d (b ∷ l) = open_bytes (pass_put d (known (pos b))) l

-- ── steps ───────────────────────────────────────────────────────────────────────────────────────

-- a step, with something more done to the draft where it is one
abbrev pub whole : (Draft → Draft) → Result Draft Fault → Result Draft Fault
whole f (Ok d) = Ok (f d)
whole f (Err r) = Err r

-- A step of the draft is one of the pass with n cells from place i on known, and where it is one, these cells are there.
pub record Widens (s p : Draft → Result Draft Fault) (i n : ℕ) (d : Draft) : Type 0 where
  pub same : s d ≡ whole (clears i n) (p d)
  pub room : (x : Draft) → p d ≡ Ok x → i + n ≤ max_cells

-- cells, of which n from place i on are known
pub fit_widens : (cs : List Cell) (i n : ℕ) (d : Draft) → lay d cs ≡ clears i n (pass_lay d cs) → i + n ≤ d.used + length cs
    → Widens (λ d. fit d cs) (λ d. pass_fit d cs) i n d
unfolding fit pass_fit
fit_widens cs i n d h k = by-ltb max_cells (d.used + length cs) (λ _. Widens (λ d. fit d cs) (λ d. pass_fit d cs) i n d) full here
  where
    here : d.used + length cs ≤ max_cells → Widens (λ d. fit d cs) (λ d. pass_fit d cs) i n d
    here m = record { same = fit_room d cs m ∙ ap Ok h ∙ sym (ap (whole (clears i n)) (pass_fit_room d cs m)); room = λ x e. omega (arith, m, k) }

    full : max_cells < d.used + length cs → Widens (λ d. fit d cs) (λ d. pass_fit d cs) i n d
    full m =
        record {
          same = fit_full d cs m ∙ sym (ap (whole (clears i n)) (pass_fit_full d cs m));
          room = λ x e. let z : Err TableFull ≡ Ok x = sym (pass_fit_full d cs m) ∙ e in cc;
        }

pub operator_widens : (z : ℤ) (d : Draft) → Widens (λ d. fit d (known z ∷ [])) (λ d. pass_fit d (known z ∷ [])) d.used 1 d
operator_widens z d = fit_widens (known z ∷ []) d.used 1 d refl (omega arith)

-- the value as it is handed on
pub operand_widens : (b : ℕ) (z y : ℤ) (d : Draft) → y ≡ z → Widens (λ d. fit d (operand_cells b z)) (λ d. pass_fit d (operand_cells b y)) d.used 2 d
operand_widens b z y d e =
    subst (λ y. Widens (λ d. fit d (operand_cells b z)) (λ d. pass_fit d (operand_cells b y)) d.used 2 d) (sym e)
    (fit_widens (operand_cells b z) d.used 2 d refl (omega arith))

pub test_widens : (b : ℕ) (d : Draft) → Widens (λ d. fit d (test_cells b d.level)) (λ d. pass_fit d (test_cells b d.level)) d.used 1 d
test_widens b d =
    let cs : List Cell = test_cells b d.level in
    let later = cleared_later d.opens d.used 1 (d.used + 1) (exit_at d.level).waits (omega arith) in
    let w = fit_widens cs d.used 1 d (ap (λ os. record (lay d cs) { opens = os }) (sym later)) (omega arith) in
    record { same = w.same; room = w.room }

pub counter_widens : (n : ℕ) (d : Draft) → Widens (λ d. counted d n) (λ d. pass_counted d n) d.used 3 d
counter_widens n d = by-ltb d.counters max_counters (λ _. Widens (λ d. counted d n) (λ d. pass_counted d n) d.used 3 d) here full
  where
    cs : List Cell
    cs = counter_cells n d.counters d.level

    cells : Widens (λ d. fit d cs) (λ d. pass_fit d cs) d.used 3 (count_on d)
    cells =
        let later = cleared_later d.opens d.used 3 (d.used + 1 + 1 + 1) (exit_at d.level).waits (omega arith) in
        fit_widens cs d.used 3 (count_on d) (ap (λ os. record (lay (count_on d) cs) { opens = os }) (sym later)) (omega arith)

    here : d.counters < max_counters → Widens (λ d. counted d n) (λ d. pass_counted d n) d.used 3 d
    here h =
        record {
          same = count_room d n h ∙ cells.same ∙ sym (ap (whole (clears d.used 3)) (pass_count_room d n h));
          room = λ x e. cells.room x (sym (pass_count_room d n h) ∙ e);
        }

    full : max_counters ≤ d.counters → Widens (λ d. counted d n) (λ d. pass_counted d n) d.used 3 d
    full h =
        record {
          same = count_full d n h ∙ sym (ap (whole (clears d.used 3)) (pass_count_full d n h));
          room = λ x e. let z : Err ManyCounters ≡ Ok x = sym (pass_count_full d n h) ∙ e in cc;
        }

pub print_widens : (b : List ℕ) (d : Draft) → Widens (λ d. fit d (print_cells b)) (λ d. pass_fit d (print_cells b)) d.used (2 + length b) d
print_widens b d =
    subst (λ n. Widens (λ d. fit d (print_cells b)) (λ d. pass_fit d (print_cells b)) d.used n d) two
    (fit_widens (print_cells b) d.used (suc (suc (length b))) d
    (lay_bytes head (set (set d.opens d.used Known) (d.used + 1) Known) b
    ∙ ap (λ os. record (pass_lay head (known_bytes b)) { opens = cleared (set (set os d.used Known) (d.used + 1) Known) (d.used + 1 + 1) (length b) })
    (sym (open_bytes head b)))
    (omega (arith, bytes_length b)))
  where
    head : Draft
    head = pass_put (pass_put d (known (opcode print_code))) (known (pos (length b)))

    two : suc (suc (length b)) ≡ 2 + length b
    two = omega arith

-- the last `)` has a second cell, which is known
pub close_widens : (d : Draft) (n : ℕ) → 1 ≤ d.level → n ≡ bool_byte (eqb d.level 1) → Widens (λ d. closed d) (λ d. pass_closed d) (d.used + 1) n d
close_widens d n least e = subst (λ n. Widens (λ d. closed d) (λ d. pass_closed d) (d.used + 1) n d) (sym e) (go (eqb d.level 1) refl)
  where
    inside : Draft
    inside = at_level d (d.level - 1) d.starts

    go : (b : Bool) → eqb d.level 1 ≡ b → Widens (λ d. closed d) (λ d. pass_closed d) (d.used + 1) (bool_byte b) d
    go true q =
        let v = eqb-true d.level 1 q in
        let h : d.level - 1 ≡ 0 = omega (arith, v) in
        let w = fit_widens (close_at (d.level - 1) ∷ known (pos 1) ∷ []) (d.used + 1) 1 inside refl (omega arith) in
        record {
          same = close_last d h ∙ w.same ∙ sym (ap (whole (clears (d.used + 1) 1)) (pass_close_last d h));
          room = λ x k. w.room x (sym (pass_close_last d h) ∙ k);
        }
    go false q =
        let v = eqb-false d.level 1 q in
        let h : d.level - 1 ≡ 0 → ⊥ = λ z. v (omega (arith, z, least)) in
        let w = fit_widens (close_at (d.level - 1) ∷ []) (d.used + 1) 0 inside refl (omega arith) in
        record {
          same = close_inner d h ∙ w.same ∙ sym (ap (whole (clears (d.used + 1) 0)) (pass_close_inner d h));
          room = λ x k. w.room x (sym (pass_close_inner d h) ∙ k);
        }

-- ── what a method of the draft does after the pass ──────────────────────────────────────────────

module _ {s p : Draft → Result Draft Fault} {i n : ℕ} {d d' : Draft} (w : Widens s p i n d) (from : d' ≡ d) where
  -- the cells are there
  pub has_room : (r : Result ⊤ Fault) (e : Draft) → Steps p d' r e → true ≡ is_ok r → i + n ≤ max_cells
  has_room (Ok r) e h o = w.room e (ap p (sym from) ∙ h)
  has_room (Err why) e h o = absurd cc

  -- a mark that is taken
  pub taken : (r : Result ⊤ Fault) (e : Draft) → Steps p d' r e → true ≡ is_ok r → Steps s d r (clears i n e)
  taken (Ok r) e h o = w.same ∙ ap (whole (clears i n)) (ap p (sym from) ∙ h)
  taken (Err why) e h o = absurd cc

  -- one that is refused
  pub refused : (r : Result ⊤ Fault) (e : Draft) → Steps p d' r e → false ≡ is_ok r → Steps s d r e
  refused (Ok r) e h o = absurd cc
  refused (Err why) e h o = (w.same ∙ ap (whole (clears i n)) (ap p (sym from) ∙ h.0), h.1 ∙ from)
