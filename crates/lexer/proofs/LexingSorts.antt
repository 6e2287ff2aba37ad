-- The kind of a byte says the class that the definitions give it.
use mathlib.Core.Path.{◌≡◌, refl, subst}
use mathlib.Core.Bool.{Bool, true, false, cond}
use mathlib.Core.Logic.{◌⊎◌, inl, inr}
use Prim.Native.Nat.{ℕ, ◌<◌}
use native.Mathlib.Omega.{arith}
use lib.Dec.{T, eqb, eqb→eq}
use borrow.Author.Tests.{ne_eqb}
use Rattle.language.specs.Syntax.{operator_byte, access_byte, condition_byte}
use Rattle.language.specs.Letters.{letter_byte}
use Rattle.language.specs.Between.{between}
use Rattle.language.specs.Tokens.{Class, blank, quote, opening, closing, semicolon, point, dollar, tick, stray, operating, accessing, comparing, calling, class}
use Rattle.lexer.specs.Lexing.{NoSpace, Stands, class_rank, byte_rank, kind_ranked, kind_of}
use Rattle.language.specs.Bytes.{blank_byte, digit_byte, newline_byte, open_byte, quote_byte}
use Rattle.lexer.specs.declared.Kind.{Kind}
use Rattle.lexer.specs.declared.Kind.TheVariants as K
use Rattle.language.proofs.Between.{between-bounds}
use Rattle.language.proofs.Keys.{either, in-range}

-- the byte of a class that has one of several
abbrev own_byte : Class → ℕ → Bool
own_byte blank b = true
own_byte quote b = true
own_byte opening b = true
own_byte closing b = true
own_byte semicolon b = true
own_byte point b = true
own_byte (operating o) b = eqb (operator_byte o) b
own_byte (accessing a) b = eqb (access_byte a) b
own_byte (comparing c) b = eqb (condition_byte c) b
own_byte (calling a) b = eqb (letter_byte a) b
own_byte dollar b = true
own_byte tick b = true
own_byte stray b = true

own-byte : (b : ℕ) → b < 256 → T (own_byte (class b) b)
unfolding class
own-byte b h = in-range (λ (b : ℕ). own_byte (class b) b) 0 256 tt b (omega arith) (omega arith)

abbrev is_stray : Class → Bool
is_stray blank = false
is_stray quote = false
is_stray opening = false
is_stray closing = false
is_stray semicolon = false
is_stray point = false
is_stray (operating o) = false
is_stray (accessing a) = false
is_stray (comparing c) = false
is_stray (calling a) = false
is_stray dollar = false
is_stray tick = false
is_stray stray = true

stray-is : (c : Class) → T (is_stray c) → c ≡ stray
stray-is blank t = absurd t
stray-is quote t = absurd t
stray-is opening t = absurd t
stray-is closing t = absurd t
stray-is semicolon t = absurd t
stray-is point t = absurd t
stray-is (operating o) t = absurd t
stray-is (accessing a) t = absurd t
stray-is (comparing c) t = absurd t
stray-is (calling a) t = absurd t
stray-is dollar t = absurd t
stray-is tick t = absurd t
stray-is stray t = refl

digit-stray : (b : ℕ) → between (digit_byte 1) (digit_byte 9) b ≡ true → class b ≡ stray
unfolding class
digit-stray b e =
    let k = between-bounds (digit_byte 1) (digit_byte 9) b e in
    stray-is (class b) (in-range (λ (b : ℕ). is_stray (class b)) (digit_byte 1) 9 tt b k.0 (omega arith))

-- the byte's class, by its kind
abbrev pub Sorted : Kind → ℕ → Type 0
Sorted K.Blank b = class b ≡ blank
Sorted K.Quote b = class b ≡ quote
Sorted K.Open b = class b ≡ opening
Sorted K.Close b = class b ≡ closing
Sorted K.Semicolon b = class b ≡ semicolon
Sorted K.Colon b = class b ≡ point
Sorted K.Operator b = Stands operator_byte b operating (class b)
Sorted K.Access b = Stands access_byte b accessing (class b)
Sorted K.Condition b = Stands condition_byte b comparing (class b)
Sorted K.Letter b = Stands letter_byte b calling (class b)
Sorted K.Dollar b = class b ≡ dollar
Sorted K.Tick b = class b ≡ tick
Sorted K.Digit b = class b ≡ stray
Sorted K.Stray b = class b ≡ stray

pub sorted : (b : ℕ) → b < 256 → Sorted (kind_of b) b
unfolding kind_of byte_rank
sorted b h = go (between (digit_byte 1) (digit_byte 9) b) (class b) refl refl
  where
    own : (c : Class) → class b ≡ c → T (own_byte c b)
    own c e = subst (λ c. T (own_byte c b)) e (own-byte b h)

    go : (t : Bool) (c : Class) → between (digit_byte 1) (digit_byte 9) b ≡ t → class b ≡ c → Sorted (kind_ranked (cond t 12 (class_rank c))) b
    go true c e f = digit-stray b e
    go false blank e f = f
    go false quote e f = f
    go false opening e f = f
    go false closing e f = f
    go false semicolon e f = f
    go false point e f = f
    go false (operating o) e f = record { mark = o; byte-is = eqb→eq _ b (own (operating o) f); here-is = f }
    go false (accessing a) e f = record { mark = a; byte-is = eqb→eq _ b (own (accessing a) f); here-is = f }
    go false (comparing c) e f = record { mark = c; byte-is = eqb→eq _ b (own (comparing c) f); here-is = f }
    go false (calling a) e f = record { mark = a; byte-is = eqb→eq _ b (own (calling a) f); here-is = f }
    go false dollar e f = f
    go false tick e f = f
    go false stray e f = f

-- ── what stands around the outermost expression ─────────────────────────────────────────────────

-- a class that is not skipped between marks
abbrev pub is_permission : Class → Bool
is_permission blank = false
is_permission quote = false
is_permission opening = true
is_permission closing = true
is_permission semicolon = true
is_permission point = true
is_permission (operating o) = true
is_permission (accessing a) = true
is_permission (comparing c) = true
is_permission (calling a) = true
is_permission dollar = true
is_permission tick = true
is_permission stray = true

abbrev is_opening : Class → Bool
is_opening blank = false
is_opening quote = false
is_opening opening = true
is_opening closing = false
is_opening semicolon = false
is_opening point = false
is_opening (operating o) = false
is_opening (accessing a) = false
is_opening (comparing c) = false
is_opening (calling a) = false
is_opening dollar = false
is_opening tick = false
is_opening stray = false

-- such a class other than the `(`
abbrev pub is_other : Class → Bool
is_other c = cond (is_opening c) false (is_permission c)

else-right : (a x : Bool) → T (either a x) → a ≡ false → T x
else-right true x t e = absurd (subst (λ (b : Bool). T b) e t)
else-right false x t e = t

module _ (b : ℕ) (h : b < 256) (i : NoSpace b) where
  -- a byte that is not skipped is of such a class
  pub a-mark : T (is_permission (class b))
  unfolding class
  a-mark =
      else-right (eqb b quote_byte) _
      (else-right (eqb b newline_byte) _
      (else-right (eqb b blank_byte) _
      (in-range (λ (b : ℕ). either (eqb b blank_byte) (either (eqb b newline_byte) (either (eqb b quote_byte) (is_permission (class b))))) 0 256 tt b (omega arith) (omega arith))
      (ne_eqb b blank_byte i.no-blank))
      (ne_eqb b newline_byte i.no-newline))
      (ne_eqb b quote_byte i.no-quote)

  -- one that is no `(` either
  pub no-opening : (b ≡ open_byte → ⊥) → T (is_other (class b))
  unfolding class
  no-opening n =
      else-right (eqb b open_byte) _
      (else-right (eqb b quote_byte) _
      (else-right (eqb b newline_byte) _
      (else-right (eqb b blank_byte) _
      (in-range (λ (b : ℕ). either (eqb b blank_byte) (either (eqb b newline_byte) (either (eqb b quote_byte) (either (eqb b open_byte) (is_other (class b)))))) 0 256 tt b (omega arith) (omega arith))
      (ne_eqb b blank_byte i.no-blank))
      (ne_eqb b newline_byte i.no-newline))
      (ne_eqb b quote_byte i.no-quote))
      (ne_eqb b open_byte n)

-- the class of `(`
pub the-opening : (b : ℕ) → b ≡ open_byte → class b ≡ opening
unfolding class
the-opening b e = rw e

pub the-quote : (b : ℕ) → b ≡ quote_byte → class b ≡ quote
unfolding class
the-quote b e = rw e

pub the-blank : (b : ℕ) → (b ≡ newline_byte) ⊎ (b ≡ blank_byte) → class b ≡ blank
unfolding class
the-blank b (inl e) = rw e
the-blank b (inr e) = rw e
