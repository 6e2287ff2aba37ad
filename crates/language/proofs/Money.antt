-- Money with a point: its width, and that it is read back.
use mathlib.Core.Path.{◌≡◌, refl, sym, ap, ◌∙◌, subst}
use mathlib.Core.Bool.{Bool, true, false, cond, false≢true}
use mathlib.Core.Option.{some, some-injective}
use mathlib.Core.List.{List, [], ◌∷◌, ◌++◌, append_assoc}
use Prim.Native.Nat.{ℕ, zero, suc, ◌+◌, ◌*◌, ◌-◌, ◌/◌, ◌%◌, ◌^◌, ◌≤◌, ◌<◌}
use native.Mathlib.Nat.{pow-succ'}
use native.Mathlib.Omega.{arith}
use lib.IntN.{ℤ, pos, negsuc, nat_abs}
use lib.Dec.{ltb, leb}
use lib.ListN.{length, take, drop, replicate, length-append, length-take}
use lib.Seq.{paste, take_at, drop_at, take_all}
use borrow.Author.Tests.{ltb-true, ltb-false, leb-true, leb-false, lt-leb, le-ltb, ne_eqb}
use Rattle.language.specs.Bytes.{blank_byte, minus_byte, digit_byte}
use Rattle.language.specs.Limits.{max_value, write_width}
use Rattle.language.specs.Values.{is_value}
use Rattle.language.specs.Decimals.{digits, decimals}
use Rattle.language.specs.Tokens.{signed}
use Rattle.language.specs.Money.{unit_cents, pointed, amount, money, read_units, read_amount, with_sign, read_money}
use Rattle.language.specs.declared.Ending.TheVariants.{ListEmpty, PaperOut}
use Rattle.language.specs.Effects.{State, Effect, goes, stops, top, emitted_state, column, perform}
use Rattle.language.specs.Statements.{ColumnWidth, ReadBack, ColumnsDiffer, Shows, ShowsTop, PaperOutExactly}
use Rattle.language.proofs.Decimals.{many, few, length-decimals, length-justified}
use Rattle.language.proofs.TokensComplete.{digit-true, digit-of}

-- ── its width ───────────────────────────────────────────────────────────────────────────────────

length-amount : (m : Bool) (n : ℕ) → length (amount m n) ≤ write_width
length-amount m n = omega (arith, length-decimals m (n / unit_cents), length-append (decimals m (n / unit_cents)) (pointed (n % unit_cents)))

length-money : (v : ℤ) → length (money v) ≤ write_width
unfolding money
length-money (pos n) = length-amount false n
length-money (negsuc n) = length-amount true (suc n)

pub column-width : ColumnWidth
unfolding column
column-width v = length-justified write_width (money v) (length-money v)

-- ── read back ───────────────────────────────────────────────────────────────────────────────────

-- a digit of units more
units-digit : (u d : ℕ) (r : List ℕ) → d < 10 → read_units u (digit_byte d ∷ r) ≡ read_units (10 * u + d) r
unfolding read_units
units-digit u d r h = rw (digit-true d h, digit-of d)

-- the first one
first-digit : (d : ℕ) (r : List ℕ) → d < 10 → read_amount (digit_byte d ∷ r) ≡ read_units d r
first-digit d r h = rw (digit-true d h, digit-of d)

-- the units
units-read : (f n : ℕ) (r : List ℕ) → n < 10 ^ suc f → read_amount (digits (suc f) n ++ r) ≡ read_units n r
units-read zero n r h = ap (λ (l : List ℕ). read_amount (l ++ r)) (few 0 n (omega arith)) ∙ first-digit n r (omega arith)
units-read (suc f) n r h = let p = pow-succ' 10 (suc f) in go (ltb n 10) refl (units-read f (n / 10) (digit_byte (n % 10) ∷ r) (omega arith))
  where
    go : (u : Bool) → ltb n 10 ≡ u → read_amount (digits (suc f) (n / 10) ++ (digit_byte (n % 10) ∷ r)) ≡ read_units (n / 10) (digit_byte (n % 10) ∷ r)
        → read_amount (digits (suc (suc f)) n ++ r) ≡ read_units n r
    go true e i = let g = ltb-true n 10 e in ap (λ (l : List ℕ). read_amount (l ++ r)) (few (suc f) n g) ∙ first-digit n r g
    go false e i =
        let q : 10 * (n / 10) + n % 10 ≡ n = omega arith in
        ap (λ (l : List ℕ). read_amount (l ++ r)) (many (suc f) n (ltb-false n 10 e))
        ∙ ap read_amount (append_assoc (digits (suc f) (n / 10)) (digit_byte (n % 10) ∷ []) r)
        ∙ i
        ∙ units-digit (n / 10) (n % 10) r (omega arith)
        ∙ ap (λ (m : ℕ). read_units m r) q

-- the point and the cents
cents-read : (u c : ℕ) → c < unit_cents → read_units u (pointed c) ≡ some (unit_cents * u + c)
unfolding read_units
cents-read u c h =
    let q : 10 * (c / 10) + c % 10 ≡ c = omega arith in
    rw (digit-true (c / 10) (omega arith), digit-true (c % 10) (omega arith), digit-of (c / 10), digit-of (c % 10), q)

-- an amount without its sign
amount-read : (n : ℕ) → n < 10 ^ 12 → read_amount (amount false n) ≡ some n
amount-read n h =
    let q : unit_cents * (n / unit_cents) + n % unit_cents ≡ n = omega arith in
    units-read 9 (n / unit_cents) (pointed (n % unit_cents)) (omega arith)
    ∙ cents-read (n / unit_cents) (n % unit_cents) (omega arith)
    ∙ ap some q

-- a number's digits begin with one
digits-begin : (f n : ℕ) (r : List ℕ) (P : List ℕ → Type 0) → ((d : ℕ) (l : List ℕ) → P (digit_byte d ∷ l)) → P (digits (suc f) n ++ r)
unfolding digits
digits-begin zero n r P h = go (ltb n 10)
  where
    go : (u : Bool) → P (cond u (digit_byte n ∷ []) (digit_byte (n % 10) ∷ []) ++ r)
    go true = h n r
    go false = h (n % 10) r
digits-begin (suc f) n r P h = go (ltb n 10) (digits-begin f (n / 10) (digit_byte (n % 10) ∷ r) P h)
  where
    go : (u : Bool) → P (digits (suc f) (n / 10) ++ (digit_byte (n % 10) ∷ r))
        → P (cond u (digit_byte n ∷ []) (digits (suc f) (n / 10) ++ (digit_byte (n % 10) ∷ [])) ++ r)
    go true i = h n r
    go false i = subst P (sym (append_assoc (digits (suc f) (n / 10)) (digit_byte (n % 10) ∷ []) r)) i

-- blanks are passed over
blanks-read : (k : ℕ) (l : List ℕ) → read_money (replicate k blank_byte ++ l) ≡ read_money l
unfolding read_money
blanks-read zero l = refl
blanks-read (suc k) l = blanks-read k l

-- what begins with a digit has no sign
digit-begins : (d : ℕ) (l : List ℕ) → read_money (digit_byte d ∷ l) ≡ with_sign false (read_amount (digit_byte d ∷ l))
unfolding read_money
digit-begins d l = rw (ne_eqb (digit_byte d) blank_byte (omega arith), ne_eqb (digit_byte d) minus_byte (omega arith))

-- an amount with its sign
sign_read : (m : Bool) (n : ℕ) → n < 10 ^ 12 → read_money (amount m n) ≡ some (signed m n)
unfolding read_money
sign_read true n h = ap (with_sign true) (amount-read n h)
sign_read false n h =
    digits-begin 9 (n / unit_cents) (pointed (n % unit_cents)) (λ (l : List ℕ). read_money l ≡ with_sign false (read_amount l)) digit-begins
    ∙ ap (with_sign false) (amount-read n h)

money-read : (v : ℤ) → nat_abs v < 10 ^ 12 → read_money (money v) ≡ some v
unfolding money
money-read (pos n) h = sign_read false n h
money-read (negsuc n) h = sign_read true (suc n) h

pub read_back : ReadBack
unfolding column is_value
read_back v h =
    blanks-read (write_width - length (money v)) (money v) ∙ money-read v (omega (arith, leb-true (nat_abs v) max_value h))

pub columns-differ : ColumnsDiffer
columns-differ v w h k e = some-injective v w (sym (read_back v h) ∙ ap read_money e ∙ read_back w k)

-- ── in a run ────────────────────────────────────────────────────────────────────────────────────

-- bytes that were pasted, taken out again
pasted : (o b : List ℕ) (at : ℕ) → at + length b ≤ length o → take (length b) (drop at (paste o at b (length b))) ≡ b
pasted o b at h =
    let e = length-take at o in
    let r = drop (at + length b) o in
    ap (λ (l : List ℕ). take (length b) (drop at l)) (append_assoc (take at o) (take (length b) b) r)
    ∙ ap (take (length b)) (drop_at (take at o) (take (length b) b ++ r) at (omega arith))
    ∙ ap (λ (l : List ℕ). take (length b) (l ++ r)) (take_all (length b) b (omega arith))
    ∙ take_at b r (length b) refl

-- an operation goes on
abbrev going : Effect → Bool
going (goes s) = true
going (stops e) = false

-- with which state
abbrev going_to : State → Effect → State
going_to s (goes t) = t
going_to s (stops e) = s

-- what `O` has written where it goes on
emitted_state-shows : (s : State) → is_value (top s) ≡ true → s.written + length (column (top s)) ≤ length s.output → Shows s (emitted_state s (column (top s)))
emitted_state-shows s v h =
    let c = column (top s) in
    let w = column-width (top s) in
    record {
      longer = ap (λ (k : ℕ). s.written + k) w;
      reads =
          ap (λ (k : ℕ). read_money (take k (drop s.written (emitted_state s c).output))) (sym w)
          ∙ ap read_money (pasted s.output c s.written h)
          ∙ read_back (top s) v;
    }

pub shows-top : ShowsTop
unfolding perform
shows-top s t v e = go (ltb s.height 1) (leb (s.written + length (column (top s))) (length s.output)) refl e
  where
    go : (u w : Bool) → leb (s.written + length (column (top s))) (length s.output) ≡ w
        → cond u (stops ListEmpty) (cond w (goes (emitted_state s (column (top s)))) (stops PaperOut)) ≡ goes t → Shows s t
    go true w f e = absurd (false≢true (ap going e))
    go false true f e = subst (Shows s) (ap (going_to s) e) (emitted_state-shows s v (leb-true _ _ f))
    go false false f e = absurd (false≢true (ap going e))

pub paper-out-exactly : PaperOutExactly
unfolding perform
paper-out-exactly s h =
    let c = column (top s) in
    let w = column-width (top s) in
    rw (le-ltb s.height 1 h)
    (out (leb (s.written + length c) (length s.output)) refl, λ g. rw (lt-leb (s.written + length c) (length s.output) (omega (arith, w))))
  where
    out : (u : Bool) → leb (s.written + length (column (top s))) (length s.output) ≡ u
        → cond u (goes (emitted_state s (column (top s)))) (stops PaperOut) ≡ stops PaperOut → length s.output < s.written + write_width
    out true f e = absurd (false≢true (sym (ap going e)))
    out false f e = let g = leb-false (s.written + length (column (top s))) (length s.output) f in omega (arith, column-width (top s), g)
