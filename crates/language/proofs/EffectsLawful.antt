-- A run keeps every number within the values: stack, inputs and variables. So a run never makes a store that 13 refuses.
use mathlib.Core.Path.{◌≡◌, refl}
use Prim.Native.Nat.{ℕ, zero, suc, ◌+◌, ◌-◌, ◌%◌}
use mathlib.Core.Bool.{Bool, true, false, cond}
use mathlib.Core.List.{List, [], ◌∷◌}
use lib.IntN.{ℤ, pos, negsuc, nat_abs, neg_ℤ}
use lib.ListN.{length, get_or, set, replicate}
use lib.Dec.{leb, ltb, eqb}
use Rattle.language.specs.Bytes.{newline_byte}
use Rattle.language.specs.declared.Table.{Table}
use Rattle.language.specs.declared.Ending.TheVariants.{ListEmpty, ListFull, Range, ZeroDivisor, NoInput, PaperOut}
use Rattle.language.specs.Limits.{max_height, max_counters, max_variables}
use Rattle.language.specs.Syntax.{Operator, absolute, discard, negate, copy, write, newline, input, add, subtract, multiply, divide, fetch, save}
use Rattle.language.specs.Syntax.{negative, null, equal, Operation, operator, variable, constant, print, Predicate, condition, counter}
use Rattle.language.specs.Between.{between}
use Rattle.language.specs.Tokens.{print_byte}
use Rattle.language.specs.Layout.{forward}
use Rattle.language.specs.Effects.{State, Effect, goes, stops, Verdict, stops_by, needs, ranged, pushed, emitted, emitted_state, replaced, dropped, combined, with_taken, operated, perform, ask, top, column, count_index}
use Rattle.language.specs.Values.{is_value, lawful}
use Rattle.language.specs.Machine.{Instruction, transfer, fail, operate_at, test_at, call_at, Decoded, last, damaged, code, Kind, is_constant, is_print, is_counter, is_none, is_operator, is_variable, is_condition, is_call, kind, cell, sound, natural, minus, exit_at, bytes_at, room, mark, early, exactly, decode}
use Rattle.language.specs.Effects.{start}
use Rattle.language.specs.Tables.{table_at, decode_at, stands_at, barred_at, execute}
use Rattle.language.proofs.Tests.{both_true, first-true, second-true}
use Rattle.language.proofs.MachineInvariants.{Coded, DecodedSo, EffectSo, VerdictSo, OutcomeSo, effect-cond, verdict-cond, letter-keeps}

-- ── lists of values ─────────────────────────────────────────────────────────────────────────────

-- every number of a list is within the values
abbrev pub Lawful : List ℤ → Type 0
Lawful l = lawful l ≡ true

lawful-set : (l : List ℤ) (i : ℕ) (v : ℤ) → Lawful l → is_value v ≡ true → Lawful (set l i v)
unfolding lawful
lawful-set [] i v h k = refl
lawful-set (x ∷ l) zero v h k = both_true (is_value v) (lawful l) k (second-true (is_value x) (lawful l) h)
lawful-set (x ∷ l) (suc i) v h k =
    both_true (is_value x) (lawful (set l i v)) (first-true (is_value x) (lawful l) h) (lawful-set l i v (second-true (is_value x) (lawful l) h) k)

lawful-get : (l : List ℤ) (i : ℕ) → Lawful l → is_value (get_or l i (pos 0)) ≡ true
unfolding lawful is_value
lawful-get [] i h = refl
lawful-get (x ∷ l) zero h = first-true (is_value x) (lawful l) h
lawful-get (x ∷ l) (suc i) h = lawful-get l i (second-true (is_value x) (lawful l) h)

-- zeros are
pub lawful-zeros : (n : ℕ) → Lawful (replicate n (pos 0))
unfolding lawful is_value
lawful-zeros zero = refl
lawful-zeros (suc n) = lawful-zeros n

zero-value : is_value (pos 0) ≡ true
unfolding is_value
zero-value = refl

-- a constant is within the values
abbrev LawfulOperation : Operation → Type 0
LawfulOperation (operator o) = Unit {0}
LawfulOperation (variable a k) = Unit {0}
LawfulOperation (constant v) = is_value v ≡ true
LawfulOperation (print b) = Unit {0}

-- ── states ──────────────────────────────────────────────────────────────────────────────────────

-- so are the numbers of a state
pub record Sane (s : State) : Type 0 where
  pub stack : Lawful s.stack
  pub inputs : Lawful s.inputs
  pub variables : Lawful s.variables

abbrev SaneEffect : Effect → Type 0
SaneEffect x = EffectSo Sane x

abbrev SaneVerdict : Verdict → Type 0
SaneVerdict x = VerdictSo Sane x

-- a result within the values
sane-ranged : (v : ℤ) (s : State) → (is_value v ≡ true → Sane s) → SaneEffect (ranged v s)
sane-ranged v s h = go (is_value v) h
  where
    go : (u : Bool) → (u ≡ true → Sane s) → SaneEffect (cond u (goes s) (stops Range))
    go true k = k refl
    go false k = tt

module _ (s : State) (h : Sane s) where
  sane-needs : (n : ℕ) (x : Effect) → SaneEffect x → SaneEffect (needs n s x)
  sane-needs n x k = effect-cond Sane (ltb s.height n) (stops ListEmpty) x tt k

  top-value : is_value (top s) ≡ true
  top-value = lawful-get s.stack (s.height - 1) h.stack

  sane-replaced : (v : ℤ) → is_value v ≡ true → Sane (replaced s v)
  sane-replaced v k =
      record { stack = lawful-set s.stack (s.height - 1) v h.stack k; inputs = h.inputs; variables = h.variables }

  sane-dropped : Sane (dropped s)
  sane-dropped =
      record { stack = lawful-set s.stack (s.height - 1) (pos 0) h.stack zero-value; inputs = h.inputs; variables = h.variables }

  sane-combined : (v : ℤ) → is_value v ≡ true → Sane (combined s v)
  sane-combined v k =
      record {
        stack = lawful-set (set s.stack (s.height - 2) v) (s.height - 1) (pos 0) (lawful-set s.stack (s.height - 2) v h.stack k) zero-value;
        inputs = h.inputs;
        variables = h.variables;
      }

  sane-pushed : (v : ℤ) → is_value v ≡ true → SaneEffect (pushed s v)
  sane-pushed v k =
      effect-cond Sane (ltb s.height max_height) _ (stops ListFull)
      (record { stack = lawful-set s.stack s.height v h.stack k; inputs = h.inputs; variables = h.variables }) tt

  sane-emitted : (b : List ℕ) → SaneEffect (emitted s b)
  sane-emitted b =
      effect-cond Sane (leb (s.written + length b) (length s.output)) (goes (emitted_state s b)) (stops PaperOut)
      (record { stack = h.stack; inputs = h.inputs; variables = h.variables }) tt

  sane-operated : (o : Operator) → SaneEffect (operated o s)
  unfolding operated
  sane-operated absolute = sane-needs 1 _ (sane-ranged (pos (nat_abs (top s))) _ (λ k. sane-replaced _ k))
  sane-operated negate = sane-needs 1 _ (sane-ranged (neg_ℤ (top s)) _ (λ k. sane-replaced _ k))
  sane-operated discard = sane-needs 1 _ sane-dropped
  sane-operated copy = sane-needs 1 _ (sane-pushed (top s) top-value)
  sane-operated add = sane-needs 2 _ (sane-ranged _ _ (λ k. sane-combined _ k))
  sane-operated subtract = sane-needs 2 _ (sane-ranged _ _ (λ k. sane-combined _ k))
  sane-operated multiply = sane-needs 2 _ (sane-ranged _ _ (λ k. sane-combined _ k))
  sane-operated divide =
      sane-needs 2 _ (effect-cond Sane (eqb (nat_abs (top s)) 0) (stops ZeroDivisor) _ tt (sane-ranged _ _ (λ k. sane-combined _ k)))
  sane-operated input =
      effect-cond Sane (ltb s.taken (length s.inputs)) _ (stops NoInput) (sane-input (lawful-get s.inputs s.taken h.inputs)) tt
    where
      sane-input : is_value (get_or s.inputs s.taken (pos 0)) ≡ true
          → SaneEffect (pushed (with_taken s (s.taken + 1)) (get_or s.inputs s.taken (pos 0)))
      sane-input k =
          effect-cond Sane (ltb s.height max_height) _ (stops ListFull)
          (record { stack = lawful-set s.stack s.height _ h.stack k; inputs = h.inputs; variables = h.variables }) tt
  sane-operated write = sane-needs 1 _ (sane-emitted (column (top s)))
  sane-operated newline = sane-emitted (newline_byte ∷ [])

  sane-performed : (o : Operation) → LawfulOperation o → SaneEffect (perform o s)
  unfolding perform
  sane-performed (operator o) k = sane-operated o
  sane-performed (variable fetch i) k = sane-pushed _ (lawful-get s.variables (i % max_variables) h.variables)
  sane-performed (variable save i) k =
      sane-needs 1 _ (record { stack = h.stack; inputs = h.inputs; variables = lawful-set s.variables (i % max_variables) (top s) h.variables top-value })
  sane-performed (constant v) k = sane-pushed v k
  sane-performed (print b) k = sane-emitted b

  sane-asked : (l : ℕ) (p : Predicate) → SaneVerdict (ask l p s)
  unfolding ask
  sane-asked l (condition negative) = verdict-cond Sane (ltb s.height 1) (stops_by ListEmpty) _ tt h
  sane-asked l (condition null) = verdict-cond Sane (ltb s.height 1) (stops_by ListEmpty) _ tt h
  sane-asked l (condition equal) = verdict-cond Sane (ltb s.height 2) (stops_by ListEmpty) _ tt h
  sane-asked l (counter m k) =
      verdict-cond Sane (ltb (get_or s.counts (count_index l k) 0) (suc m)) _ _
      (record { stack = h.stack; inputs = h.inputs; variables = h.variables })
      (record { stack = h.stack; inputs = h.inputs; variables = h.variables })

-- ── decoding ────────────────────────────────────────────────────────────────────────────────────

abbrev LawfulCode : Instruction → Type 0
LawfulCode i = Coded LawfulOperation i

abbrev LawfulDecoded : Decoded → Type 0
LawfulDecoded d = DecodedSo LawfulOperation d

lawful-sound : (u : Bool) (d : Decoded) → (u ≡ true → LawfulDecoded d) → LawfulDecoded (sound u d)
unfolding DecodedSo sound
lawful-sound true d h = h refl
lawful-sound false d h = tt

lawful-natural : (z : ℤ) (k : ℕ → Decoded) → ((n : ℕ) → LawfulDecoded (k n)) → LawfulDecoded (natural z k)
unfolding DecodedSo natural
lawful-natural (pos n) k h = h n
lawful-natural (negsuc n) k h = tt

lawful-minus : (z : ℤ) (k : ℕ → Decoded) → ((n : ℕ) → LawfulDecoded (k n)) → LawfulDecoded (minus z k)
unfolding DecodedSo minus
lawful-minus (pos n) k h = tt
lawful-minus (negsuc n) k h = h n

lawful-cond : (u : Bool) (x y : Decoded) → LawfulDecoded x → LawfulDecoded y → LawfulDecoded (cond u x y)
lawful-cond true x y h k = h
lawful-cond false x y h k = k

lawful-code : (i : Instruction) → LawfulCode i → LawfulDecoded (code i)
unfolding DecodedSo
lawful-code i h = h

lawful-last : LawfulDecoded last
unfolding DecodedSo
lawful-last = tt

lawful-damaged : LawfulDecoded damaged
unfolding DecodedSo
lawful-damaged = tt

module _ (t : Table) where
  lawful-exit : (q : ℕ) (i : ℕ → Instruction) → ((f : ℕ) → LawfulCode (i f)) → LawfulDecoded (exit_at t q i)
  unfolding exit_at
  lawful-exit q i h = lawful-natural (cell t q) _ (λ f. lawful-sound (between 2 t.used f) (code (i f)) (λ _. lawful-code (i f) (h f)))

  lawful-bytes : (n q : ℕ) (k : List ℕ → Decoded) → ((b : List ℕ) → LawfulDecoded (k b)) → LawfulDecoded (bytes_at t n q k)
  unfolding bytes_at
  lawful-bytes zero q k h = h []
  lawful-bytes (suc n) q k h = lawful-natural (cell t q) _ (λ b. lawful-sound (print_byte b) _ (λ _. lawful-bytes n (suc q) (λ l. k (b ∷ l)) (λ l. h (b ∷ l))))

  -- within the used cells
  lawful-room : (q : ℕ) (d : Decoded) → LawfulDecoded d → LawfulDecoded (room t q d)
  lawful-room q d h = lawful-sound (ltb q t.used) d (λ _. h)

  lawful-mark : (q : ℕ) (k : Kind) → LawfulDecoded (mark t q k)
  unfolding mark
  lawful-mark q (is_operator o) = lawful-code (operate_at (operator o) (suc q)) tt
  lawful-mark q (is_variable a) =
      lawful-room (suc (suc q)) _
      (lawful-natural (cell t (suc q)) (λ k. sound (between 1 max_variables k) (code (operate_at (variable a k) (suc (suc q)))))
      (λ k. lawful-sound (between 1 max_variables k) (code (operate_at (variable a k) (suc (suc q)))) (λ _. lawful-code _ tt)))
  lawful-mark q is_constant =
      lawful-room (suc (suc q)) (sound (is_value (cell t (suc q))) (code (operate_at (constant (cell t (suc q))) (suc (suc q)))))
      (lawful-sound (is_value (cell t (suc q))) (code (operate_at (constant (cell t (suc q))) (suc (suc q))))
      (λ h. lawful-code (operate_at (constant (cell t (suc q))) (suc (suc q))) h))
  lawful-mark q is_print =
      let k : ℕ → List ℕ → Decoded = λ n b. code (operate_at (print b) (forward n (suc (suc q)))) in
      lawful-room (suc (suc q)) (natural (cell t (suc q)) (λ n. room t (forward n (suc (suc q))) (bytes_at t n (suc (suc q)) (k n))))
      (lawful-natural (cell t (suc q)) (λ n. room t (forward n (suc (suc q))) (bytes_at t n (suc (suc q)) (k n)))
      (λ n. lawful-room (forward n (suc (suc q))) (bytes_at t n (suc (suc q)) (k n))
      (lawful-bytes n (suc (suc q)) (k n) (λ b. lawful-code (operate_at (print b) (forward n (suc (suc q)))) tt))))
  lawful-mark q (is_condition c) =
      let i : ℕ → Instruction = λ f. test_at (condition c) (suc (suc q)) f in
      lawful-room (suc (suc q)) (exit_at t (suc q) i) (lawful-exit (suc q) i (λ f. tt))
  lawful-mark q is_counter =
      let i : ℕ → ℕ → ℕ → Instruction = λ m k f. test_at (counter m k) (suc (suc (suc (suc q)))) f in
      let c : ℕ → ℕ → Decoded = λ m k. sound (ltb k max_counters) (exit_at t (suc (suc (suc q))) (i m k)) in
      let d : ℕ → Decoded = λ m. sound (ltb m 9999) (natural (cell t (suc (suc q))) (c m)) in
      lawful-room (suc (suc (suc (suc q)))) (minus (cell t (suc q)) d)
      (lawful-minus (cell t (suc q)) d
      (λ m. lawful-sound (ltb m 9999) (natural (cell t (suc (suc q))) (c m))
      (λ _. lawful-natural (cell t (suc (suc q))) (c m)
      (λ k. lawful-sound (ltb k max_counters) (exit_at t (suc (suc (suc q))) (i m k)) (λ _. lawful-exit (suc (suc (suc q))) (i m k) (λ f. tt))))))
  lawful-mark q (is_call a) =
      let i : ℕ → Instruction = λ f. call_at a (suc (suc q)) f in
      lawful-room (suc (suc q)) (exit_at t (suc q) i) (lawful-exit (suc q) i (λ f. tt))
  lawful-mark q is_none = lawful-damaged

  lawful-early : (q : ℕ) (z : ℤ) → LawfulDecoded (early t q z)
  unfolding early
  lawful-early q (pos n) = lawful-sound (between 2 t.used n) (code (transfer n)) (λ _. lawful-code (transfer n) tt)
  lawful-early q (negsuc n) = lawful-mark q (kind (suc n))

  lawful-exactly : (z : ℤ) (n : ℕ) (d : Decoded) → LawfulDecoded d → LawfulDecoded (exactly z n d)
  unfolding exactly
  lawful-exactly z n d h = lawful-natural z _ (λ m. lawful-sound (eqb m n) d (λ _. h))

  lawful-decode : (q : ℕ) → LawfulDecoded (decode t q)
  unfolding decode
  lawful-decode q =
      lawful-sound (between 2 t.used q) _ (λ _. lawful-cond (eqb q t.used) _ _ (lawful-exactly (cell t q) 1 last lawful-last)
      (lawful-cond (eqb (suc q) t.used) _ _ (lawful-exactly (cell t q) 0 (code fail) (lawful-code fail tt)) (lawful-early q (cell t q))))

-- ── running ─────────────────────────────────────────────────────────────────────────────────────

-- A run over any cells leaves its stack, inputs and variables within the values.
pub lawful-execute : (c : List ℤ) (u k : List ℕ) (r a n : ℕ) (v i : List ℤ) (o : List ℕ) → lawful v ≡ true → lawful i ≡ true
    → OutcomeSo Sane (execute c u k r a n (start v i o))
unfolding execute start
lawful-execute c u k r a n v i o hv hi =
    letter-keeps Sane LawfulOperation (λ o s k h. sane-performed s h o k) (λ l p s h. sane-asked s h l p) (decode_at c u) (stands_at u) (barred_at k r)
    (λ l q. lawful-decode (table_at c u l) q) a n (start v i o) (record { stack = lawful-zeros max_height; inputs = hi; variables = hv })
