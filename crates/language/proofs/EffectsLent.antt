-- A run leaves zeros above its list's height, and the output past its length as it was.
use mathlib.Core.Path.{◌≡◌, refl, sym, ap, ◌∙◌}
use Prim.Native.Nat.{ℕ, zero, suc, ◌+◌, ◌-◌, ◌%◌, ◌≤◌, ◌<◌}
use native.Mathlib.Omega.{arith}
use mathlib.Core.Bool.{Bool, true, false, cond}
use mathlib.Core.List.{List, [], ◌∷◌}
use lib.IntN.{ℤ, pos, nat_abs}
use lib.ListN.{length, get_or, set, drop, length-set, length-replicate, replicate}
use lib.Seq.{length-paste, drop-paste, drop-drop, get_or-set_same, get_or-set_other}
use lib.Dec.{leb, ltb, eqb}
use borrow.Author.Tests.{ltb-true, ltb-false, leb-true, eqb-true, eqb-false}
use Rattle.language.specs.Bytes.{newline_byte}
use Rattle.language.specs.declared.Ending.TheVariants.{ListEmpty, ListFull, Range, ZeroDivisor, NoInput, PaperOut}
use Rattle.language.specs.Limits.{max_height, max_variables}
use Rattle.language.specs.Syntax.{Operator, absolute, discard, negate, copy, write, newline, input, add, subtract, multiply, divide, fetch, save}
use Rattle.language.specs.Syntax.{negative, null, equal, Operation, operator, variable, constant, print, Predicate, condition, counter}
use Rattle.language.specs.Effects.{State, Effect, goes, stops, stops_by, needs, ranged, pushed, emitted, emitted_state, replaced, dropped, combined, with_stack, with_taken, operated, perform, ask, top, column, count_index}
use Rattle.language.specs.Values.{is_value}
use Rattle.language.specs.Meaning.{Outcome, ended, stopped}
use Rattle.language.specs.Machine.{Decoded, last, damaged, code, transfer, fail, operate_at, test_at, call_at}
use Rattle.language.specs.Effects.{start}
use Rattle.language.specs.Tables.{decode_at, stands_at, barred_at, execute}
use Rattle.language.specs.Statements.{Lent, final_state, LentParts}
use Rattle.language.proofs.MachineInvariants.{DecodedSo, EffectSo, VerdictSo, OutcomeSo, effect-cond, verdict-cond, letter-keeps}

-- every place of a list of one element holds it, and so does what is past its end
pub replicate-at : {A : Type 0} (x : A) (n a : ℕ) → get_or (replicate n x) a x ≡ x
replicate-at x zero a = refl
replicate-at x (suc n) zero = refl
replicate-at x (suc n) (suc a) = replicate-at x n a

module _ (o : List ℕ) where
  -- an operation that goes on leaves them so
  abbrev pub LentEffect : Effect → Type 0
  LentEffect x = EffectSo (Lent o) x

  module _ (s : State) (h : Lent o s) where
    -- with the stack that is needed
    lent-needs : (n : ℕ) (x : Effect) → (n ≤ s.height → LentEffect x) → LentEffect (needs n s x)
    lent-needs n x k = go (ltb s.height n) refl
      where
        go : (u : Bool) → ltb s.height n ≡ u → LentEffect (cond u (stops ListEmpty) x)
        go true e = tt
        go false e = k (ltb-false s.height n e)

    lent-ranged : (v : ℤ) (s' : State) → Lent o s' → LentEffect (ranged v s')
    lent-ranged v s' k = effect-cond (Lent o) (is_value v) (goes s') (stops Range) k tt

    -- slot i holds v, and above height n all are 0
    lent-set : (l : List ℤ) (i n : ℕ) (v : ℤ) → length l ≡ max_height → i < max_height
        → ((k : ℕ) → n ≤ k → (k ≡ i → ⊥) → get_or l k (pos 0) ≡ pos 0) → (n ≤ i → v ≡ pos 0)
        → (k : ℕ) → n ≤ k → get_or (set l i v) k (pos 0) ≡ pos 0
    lent-set l i n v len lt other same k le = go (eqb k i) refl
      where
        go : (u : Bool) → eqb k i ≡ u → get_or (set l i v) k (pos 0) ≡ pos 0
        go true e =
            let q = eqb-true k i e in
            ap (λ z. get_or (set l i v) z (pos 0)) q ∙ get_or-set_same l i v (pos 0) (omega arith) ∙ same (omega arith)
        go false e = get_or-set_other l i k v (pos 0) (eqb-false k i e) ∙ other k le (eqb-false k i e)

    lent-replaced : (v : ℤ) → 1 ≤ s.height → Lent o (replaced s v)
    lent-replaced v le =
        record {
          places = length-set s.stack (s.height - 1) v ∙ h.places;
          height = h.height;
          above = lent-set s.stack (s.height - 1) s.height v h.places (omega (arith, h.height)) (λ k p _. h.above k p) (λ p. absurd (omega arith));
          written = h.written;
          bytes = h.bytes;
          past = h.past;
        }

    lent-dropped : 1 ≤ s.height → Lent o (dropped s)
    lent-dropped le =
        record {
          places = length-set s.stack (s.height - 1) (pos 0) ∙ h.places;
          height = omega (arith, h.height);
          above = lent-set s.stack (s.height - 1) (s.height - 1) (pos 0) h.places (omega (arith, h.height)) (λ k p q. h.above k (omega (arith, q))) (λ _. refl);
          written = h.written;
          bytes = h.bytes;
          past = h.past;
        }

    lent-combined : (v : ℤ) → 2 ≤ s.height → Lent o (combined s v)
    lent-combined v le =
        let len = length-set s.stack (s.height - 2) v ∙ h.places in
        record {
          places = length-set (set s.stack (s.height - 2) v) (s.height - 1) (pos 0) ∙ len;
          height = omega (arith, h.height);
          above = lent-set (set s.stack (s.height - 2) v) (s.height - 1) (s.height - 1) (pos 0) len (omega (arith, h.height))
              (λ k p q. get_or-set_other s.stack (s.height - 2) k v (pos 0) (λ e. omega arith) ∙ h.above k (omega (arith, q))) (λ _. refl);
          written = h.written;
          bytes = h.bytes;
          past = h.past;
        }

    lent-pushed : (v : ℤ) → LentEffect (pushed s v)
    lent-pushed v = go (ltb s.height max_height) refl
      where
        go : (u : Bool) → ltb s.height max_height ≡ u
            → LentEffect (cond u (goes (with_stack s (set s.stack s.height v) (s.height + 1))) (stops ListFull))
        go true e =
            let lt = ltb-true s.height max_height e in
            record {
              places = length-set s.stack s.height v ∙ h.places;
              height = omega arith;
              above = lent-set s.stack s.height (s.height + 1) v h.places lt (λ k p _. h.above k (omega arith)) (λ p. absurd (omega arith));
              written = h.written;
              bytes = h.bytes;
              past = h.past;
            }
        go false e = tt

    lent-emitted : (b : List ℕ) → LentEffect (emitted s b)
    lent-emitted b = go (leb (s.written + length b) (length s.output)) refl
      where
        go : (u : Bool) → leb (s.written + length b) (length s.output) ≡ u → LentEffect (cond u (goes (emitted_state s b)) (stops PaperOut))
        go true e =
            let le = leb-true (s.written + length b) (length s.output) e in
            record {
              places = h.places;
              height = h.height;
              above = h.above;
              written = omega (arith, h.bytes);
              bytes = length-paste s.output s.written b (length b) le (omega arith) ∙ h.bytes;
              past =
                  drop-paste s.output s.written b (length b) (omega arith) (omega arith)
                  ∙ sym (drop-drop (length b) s.written s.output)
                  ∙ ap (λ z. drop (length b) z) h.past
                  ∙ drop-drop (length b) s.written o;
            }
        go false e = tt

  -- the inputs do not matter
  lent-taken : (s : State) (n : ℕ) → Lent o s → Lent o (with_taken s n)
  lent-taken s n h = record { places = h.places; height = h.height; above = h.above; written = h.written; bytes = h.bytes; past = h.past }

  lent-operated : (x : Operator) (s : State) → Lent o s → LentEffect (operated x s)
  unfolding operated
  lent-operated absolute s h = lent-needs s h 1 _ (λ p. lent-ranged s h _ _ (lent-replaced s h _ p))
  lent-operated negate s h = lent-needs s h 1 _ (λ p. lent-ranged s h _ _ (lent-replaced s h _ p))
  lent-operated discard s h = lent-needs s h 1 (goes (dropped s)) (λ p. lent-dropped s h p)
  lent-operated copy s h = lent-needs s h 1 _ (λ p. lent-pushed s h (top s))
  lent-operated add s h = lent-needs s h 2 _ (λ p. lent-ranged s h _ _ (lent-combined s h _ p))
  lent-operated subtract s h = lent-needs s h 2 _ (λ p. lent-ranged s h _ _ (lent-combined s h _ p))
  lent-operated multiply s h = lent-needs s h 2 _ (λ p. lent-ranged s h _ _ (lent-combined s h _ p))
  lent-operated divide s h =
      lent-needs s h 2 _ (λ p. effect-cond (Lent o) (eqb (nat_abs (top s)) 0) (stops ZeroDivisor) _ tt (lent-ranged s h _ _ (lent-combined s h _ p)))
  lent-operated input s h =
      effect-cond (Lent o) (ltb s.taken (length s.inputs)) _ (stops NoInput)
      (lent-pushed (with_taken s (s.taken + 1)) (lent-taken s (s.taken + 1) h) (get_or s.inputs s.taken (pos 0))) tt
  lent-operated write s h = lent-needs s h 1 _ (λ p. lent-emitted s h (column (top s)))
  lent-operated newline s h = lent-emitted s h (newline_byte ∷ [])

  -- an operation leaves the list and the output so
  pub lent-performed : (x : Operation) (s : State) → Unit {0} → Lent o s → LentEffect (perform x s)
  unfolding perform
  lent-performed (operator x) s u h = lent-operated x s h
  lent-performed (variable fetch k) s u h = lent-pushed s h (get_or s.variables (k % max_variables) (pos 0))
  lent-performed (variable save k) s u h =
      lent-needs s h 1 (goes _) (λ p. record { places = h.places; height = h.height; above = h.above; written = h.written; bytes = h.bytes; past = h.past })
  lent-performed (constant v) s u h = lent-pushed s h v
  lent-performed (print b) s u h = lent-emitted s h b

  -- and so does a predicate
  pub lent-asked : (l : ℕ) (p : Predicate) (s : State) → Lent o s → VerdictSo (Lent o) (ask l p s)
  unfolding ask
  lent-asked l (condition negative) s h = verdict-cond (Lent o) (ltb s.height 1) (stops_by ListEmpty) _ tt h
  lent-asked l (condition null) s h = verdict-cond (Lent o) (ltb s.height 1) (stops_by ListEmpty) _ tt h
  lent-asked l (condition equal) s h = verdict-cond (Lent o) (ltb s.height 2) (stops_by ListEmpty) _ tt h
  lent-asked l (counter m k) s h =
      verdict-cond (Lent o) (ltb (get_or s.counts (count_index l k) 0) (suc m)) _ _
      (record { places = h.places; height = h.height; above = h.above; written = h.written; bytes = h.bytes; past = h.past })
      (record { places = h.places; height = h.height; above = h.above; written = h.written; bytes = h.bytes; past = h.past })

  -- a run starts so
  pub lent-start : (v i : List ℤ) → Lent o (start v i o)
  unfolding start
  lent-start v i =
      record {
        places = length-replicate max_height (pos 0);
        height = omega arith;
        above = λ k _. replicate-at (pos 0) max_height k;
        written = omega arith;
        bytes = refl;
        past = refl;
      }

any-decoded : (d : Decoded) → DecodedSo (λ _. Unit {0}) d
unfolding DecodedSo
any-decoded last = tt
any-decoded damaged = tt
any-decoded (code (transfer n)) = tt
any-decoded (code fail) = tt
any-decoded (code (operate_at x n)) = tt
any-decoded (code (test_at p n f)) = tt
any-decoded (code (call_at a n f)) = tt

final : (o : List ℕ) (x : Outcome) → OutcomeSo (Lent o) x → Lent o (final_state x)
final o (ended t s r) h = h
final o (stopped e s r) h = h

-- Every run over any cells leaves the list and the output so.
pub lent-parts : LentParts
unfolding execute
lent-parts c u k r a n v i o =
    final o (execute c u k r a n (start v i o)) (letter-keeps (Lent o) (λ _. Unit {0}) (lent-performed o) (lent-asked o) (decode_at c u) (stands_at u) (barred_at k r) (λ l q. any-decoded _) a n (start v i o)
    (lent-start o v i))
