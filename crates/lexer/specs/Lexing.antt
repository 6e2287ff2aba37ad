-- What the lexer's functions answer, in terms of the tokens that the definitions give the bytes of a text.
use Rattle.std.specs.Prelude.{◌≡◌, false, cond, List, [], ◌∷◌, ◌⊎◌, ℕ, suc, ◌+◌, ◌^◌, ◌≤◌, ◌<◌, length, get_or, take, drop, eqb, Result, Ok, Err}
use Rattle.language.specs.declared.Fault.{Fault}
use Rattle.language.specs.Syntax.{operator_byte, access_byte, condition_byte, operator, variable, constant, print}
use Rattle.language.specs.Tokens.{Token, opens, closes, semis, colons, begins, ends, does, asks, counts, calls, faults}
use Rattle.language.specs.Between.{between}
use Rattle.language.specs.Bytes.{blank_byte, newline_byte, quote_byte, digit_byte}
use Rattle.language.specs.Limits.{max_limit}
use Rattle.language.specs.Letters.{letter_byte}
use Rattle.language.specs.Tokens.{Class, blank, quote, opening, closing, semicolon, point, dollar, tick, stray, operating, accessing, comparing, calling, class}
use Rattle.language.specs.Tokens.{Form, constant_form, most_digits, idle, number, numeral, tokens}
use Rattle.lexer.specs.declared.Kind.{Kind}
use Rattle.lexer.specs.declared.Kind.TheVariants as K
use Rattle.lexer.specs.declared.Token as Lexer
use Rattle.lexer.specs.declared.Token.TheVariants as T
use Rattle.lexer.specs.declared.Lexed.{Lexed}
use Rattle.lexer.specs.declared.Misread.{Misread}
use Rattle.lexer.specs.declared.Number.{Number}

-- ── the kind of a byte ──────────────────────────────────────────────────────────────────────────

-- the place of a class in the order of `Kind`
abbrev pub class_rank : Class → ℕ
class_rank blank = 0
class_rank quote = 1
class_rank opening = 2
class_rank closing = 3
class_rank semicolon = 4
class_rank point = 5
class_rank (operating o) = 6
class_rank (accessing a) = 7
class_rank (comparing c) = 8
class_rank (calling a) = 9
class_rank dollar = 10
class_rank tick = 11
class_rank stray = 13

-- a digit other than 0 begins no mark and is 12
unfoldable pub byte_rank : ℕ → ℕ
unfolding class
byte_rank b = cond (between (digit_byte 1) (digit_byte 9) b) 12 (class_rank (class b))

-- the kind at a place of that order
abbrev pub kind_ranked : ℕ → Kind
kind_ranked n =
    (cond (eqb n 0) K.Blank
    (cond (eqb n 1) K.Quote
    (cond (eqb n 2) K.Open
    (cond (eqb n 3) K.Close
    (cond (eqb n 4) K.Semicolon
    (cond (eqb n 5) K.Colon
    (cond (eqb n 6) K.Operator
    (cond (eqb n 7) K.Access
    (cond (eqb n 8) K.Condition
    (cond (eqb n 9) K.Letter
    (cond (eqb n 10) K.Dollar
    (cond (eqb n 11) K.Tick
    (cond (eqb n 12) K.Digit K.Stray)))))))))))))

-- "the kind of mark" that a byte begins
unfoldable pub kind_of : ℕ → Kind
unfolding byte_rank
kind_of b = kind_ranked (byte_rank b)

-- ── a number ────────────────────────────────────────────────────────────────────────────────────

-- place `from` is in the text s, so many digits fit the code's number, and the closing byte comes before the digits
pub record Countable (s : List ℕ) (from most close : ℕ) : Type 0 where
  pub inside : from ≤ length s
  pub few : most ≤ most_digits (constant_form false)
  pub closing : close < digit_byte 0

-- the number v of form f, whose digits start at place `from` of the text s and whose closing byte stands before place n
pub record NumberTo (s : List ℕ) (f : Form) (from v n : ℕ) : Type 0 where
  pub tokens-are : tokens (drop from s) (number f 0 0) ≡ numeral f v (λ m. tokens (drop n s) m)
  pub below : v < 10 ^ most_digits f
  pub after : from ≤ n
  pub inside : n ≤ length s

-- the reading of a number of form f, whose digits start at place `from` of the text s
abbrev pub NumberIs : List ℕ → Form → ℕ → Result Number Fault → Type 0
NumberIs s f from (Ok n) = NumberTo s f from n.value n.next
NumberIs s f from (Err r) = tokens (drop from s) (number f 0 0) ≡ faults r ∷ []

-- ── what is skipped between marks ───────────────────────────────────────────────────────────────

-- from place `from` of the text s to place n, where the tokens are t
pub record SkipsTo (t : List Token) (s : List ℕ) (from n : ℕ) : Type 0 where
  pub tokens-are : t ≡ tokens (drop n s) idle
  pub after : from ≤ n
  pub inside : from < n → n ≤ length s

-- from place `from` of the text s on, where the tokens are t
abbrev pub Skips : List Token → List ℕ → ℕ → Result ℕ Fault → Type 0
Skips t s from (Ok n) = SkipsTo t s from n
Skips t s from (Err r) = t ≡ faults r ∷ []

-- the byte is no blank, newline or `"`
pub record NoSpace (b : ℕ) : Type 0 where
  pub no-blank : b ≡ blank_byte → ⊥
  pub no-newline : b ≡ newline_byte → ⊥
  pub no-quote : b ≡ quote_byte → ⊥

-- no blank, newline or comment begins at place i
abbrev pub MarkAt : List ℕ → ℕ → Type 0
MarkAt s i = i < length s → NoSpace (get_or s i 0)

-- nothing to skip is left
abbrev pub Settles : List ℕ → Result ℕ Fault → Type 0
Settles s (Ok n) = MarkAt s n
Settles s (Err r) = Unit {0}

-- what is skipped, all of it
pub record SkipsOver (s : List ℕ) (from : ℕ) (r : Result ℕ Fault) : Type 0 where
  pub skips : Skips (tokens (drop from s) idle) s from r
  pub settles : Settles s r

-- ── a token ─────────────────────────────────────────────────────────────────────────────────────

-- the byte b is that of a mark, and x is what stands for that mark
pub record Stands {A B : Type 0} (byte_of : A → ℕ) (b : ℕ) (here : A → B) (x : B) : Type 0 where
  pub mark : A
  pub byte-is : byte_of mark ≡ b
  pub here-is : x ≡ here mark

-- the counter's number n, and the tokens t of which its own is the first, and l are the others
pub record Counts (n : ℕ) (t l : List Token) : Type 0 where
  pub stands : Stands suc n (λ m. begins ∷ counts m ∷ l) t
  pub limit : n ≤ max_limit

-- the same for the print of the n bytes from place a of the text s on
pub record Prints (s : List ℕ) (a n : ℕ) (t l : List Token) : Type 0 where
  pub part : a + n ≤ length s
  pub here-is : t ≡ begins ∷ does (print (take n (drop a s))) ∷ l

-- The code's token is the first of the tokens t of the text s, with `begins` where a mark inside an expression begins, and l are the others.
abbrev pub Means : List ℕ → Lexer.Token → List Token → List Token → Type 0
Means s T.End t l = t ≡ ends ∷ []
Means s T.Open t l = t ≡ opens ∷ l
Means s T.Close t l = t ≡ closes ∷ l
Means s T.Semicolon t l = t ≡ semis ∷ l
Means s T.Colon t l = t ≡ colons ∷ l
Means s (T.Operator b) t l = Stands operator_byte b (λ o. begins ∷ does (operator o) ∷ l) t
Means s (T.Variable b k) t l = Stands access_byte b (λ a. begins ∷ does (variable a k) ∷ l) t
Means s (T.Condition b) t l = Stands condition_byte b (λ c. begins ∷ asks c ∷ l) t
Means s (T.Call b) t l = Stands letter_byte b (λ a. begins ∷ calls a ∷ l) t
Means s (T.Counter n) t l = Counts n t l
Means s (T.Constant v) t l = t ≡ begins ∷ does (constant v) ∷ l
Means s (T.Print a n) t l = Prints s a n t l

-- a token read from place `from` of the text s on, where the tokens are t
pub record LexesTo (t : List Token) (s : List ℕ) (from : ℕ) (l : Lexed) : Type 0 where
  pub means : Means s l.token t (tokens (drop l.next s) idle)
  pub after : from ≤ l.next
  pub inside : l.next ≤ length s

-- a fault after the first byte of a mark
pub record LexesFault (t : List Token) (s : List ℕ) (from : ℕ) (m : Misread) : Type 0 where
  pub means : t ≡ begins ∷ faults m.fault ∷ []
  pub after : from ≤ m.next
  pub inside : m.next ≤ length s

-- a reading after the first byte of a mark, where the tokens are t
abbrev pub Lexes : List Token → List ℕ → ℕ → Result Lexed Misread → Type 0
Lexes t s from (Ok l) = LexesTo t s from l
Lexes t s from (Err m) = LexesFault t s from m

-- where a whole token is read: all but the end of the text takes bytes of the text
pub record TakesTo (t : List Token) (s : List ℕ) (from : ℕ) (l : Lexed) : Type 0 where
  pub means : Means s l.token t (tokens (drop l.next s) idle)
  pub further : (l.token ≡ T.End → ⊥) → from < l.next
  pub inside : (l.token ≡ T.End → ⊥) → l.next ≤ length s

-- a fault before a mark or in one: it too takes bytes of the text
pub record TakesFault (t : List Token) (s : List ℕ) (from : ℕ) (m : Misread) : Type 0 where
  pub means : (t ≡ faults m.fault ∷ []) ⊎ (t ≡ begins ∷ faults m.fault ∷ [])
  pub further : from < m.next
  pub inside : m.next ≤ length s

-- the reading of a whole token
abbrev pub Takes : List Token → List ℕ → ℕ → Result Lexed Misread → Type 0
Takes t s from (Ok l) = TakesTo t s from l
Takes t s from (Err m) = TakesFault t s from m
