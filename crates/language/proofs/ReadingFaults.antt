-- The number of a refused text is that of its first fault, and one of 2 to 9. A byte takes the reader from mode and place to mode and place, or refuses for good; the
-- end of a text refuses as unfinished or accepts.
use mathlib.Core.Path.{◌≡◌, refl, sym, ap, ◌∙◌, subst}
use Prim.Native.Nat.{ℕ, zero, suc, ◌+◌, ◌*◌, ◌-◌, ◌≤◌, ◌<◌}
use native.Mathlib.Omega.{arith}
use mathlib.Core.Bool.{Bool, true, false, false≢true}
use mathlib.Core.List.{List, [], ◌∷◌, ◌++◌, reverse, append-nil}
use lib.ListN.{length, get_or, length-append}
use lib.Dec.{leb, ltb, eqb}
use borrow.Author.Tests.{leb-true, leb-false, le-leb, lt-leb}
use Rattle.language.specs.declared.Fault.{Fault}
use Rattle.language.specs.declared.Fault.TheVariants.{LongText, StrayMark, Deep, BadCounter, Unfinished, TableFull, ManyCounters}
use Rattle.language.specs.Answers.{fault_number}
use Rattle.language.specs.Limits.{max_text, max_levels, max_cells, max_counters}
use Rattle.language.specs.Bytes.{digit_byte, is_digit, minus_byte, quote_byte, slash_byte, tick_byte}
use Rattle.language.specs.Syntax.{Access, operator, variable, constant, print, condition, counter, Expr, close, semi, colon, operate, test, call, inner}
use Rattle.language.specs.Tokens.{Token, opens, closes, semis, colons, begins, ends, does, asks, counts, calls, faults}
use Rattle.language.specs.Tokens.{Class, blank, quote, opening, closing, semicolon, point, dollar, tick, stray, operating, accessing, comparing, calling, class}
use Rattle.language.specs.Tokens.{comment_byte, print_byte, Form, counter_form, constant_form, most_digits, closing_byte, form_fault, signed, digit_cell}
use Rattle.language.specs.Tokens.{Mode, idle, comment, after-tick, after-slash, after-access, number, printing}
use Rattle.language.specs.Tokens.{fault, unless, first, numeral, numbered, scan_number, slashed, ticked, accessed, printed, commented, scan, finish, tokens}
use Rattle.language.specs.Layout.{after_operation, after_predicate, after_call, code_start}
use Rattle.language.specs.Reading.{Reading, refused, accepted, Place, outside, inside, whole, require, extend, within, starting, ending, parse, read}
use Rattle.language.specs.Statements.{NotYet, FaultAt, of_byte, FirstFault, EndsEarly, UnfinishedExactly, LongExactly}
use Rattle.language.proofs.ReadingParsing.{not-accepted}
use Rattle.language.proofs.Grammar.{reading-sound, reading-complete}

-- ── a byte in the lexer ─────────────────────────────────────────────────────────────────────────

-- tokens that neither end a text nor break a form
abbrev Plain : List Token → Type 0
Plain [] = Unit {0}
Plain (opens ∷ l) = Plain l
Plain (closes ∷ l) = Plain l
Plain (semis ∷ l) = Plain l
Plain (colons ∷ l) = Plain l
Plain (begins ∷ l) = Plain l
Plain (ends ∷ l) = ⊥
Plain (does o ∷ l) = Plain l
Plain (asks t ∷ l) = Plain l
Plain (counts m ∷ l) = Plain l
Plain (calls a ∷ l) = Plain l
Plain (faults r ∷ l) = ⊥

-- A byte, as a function of the tokens after it, gives plain tokens and goes on from a mode, or breaks a form.
data Lexed (x : (Mode → List Token) → List Token) : Type 0 where
  emits : (ts : List Token) (m : Mode) → Plain ts → ((k : Mode → List Token) → x k ≡ ts ++ k m) → Lexed x
  breaks : (r : Fault) → of_byte r ≡ true → ((k : Mode → List Token) → x k ≡ fault r) → Lexed x

form-byte : (f : Form) → of_byte (form_fault f) ≡ true
form-byte counter_form = refl
form-byte (constant_form s) = refl

lex-unless : (u : Bool) (r : Fault) (x : (Mode → List Token) → List Token) → of_byte r ≡ true → Lexed x → Lexed (λ k. unless u r (λ _. x k))
unfolding unless
lex-unless true r x h l = l
lex-unless false r x h l = breaks r h (λ k. refl)

lex-first : (c : Class) → Lexed (λ k. first c k)
unfolding first
lex-first blank = emits [] idle tt (λ k. refl)
lex-first quote = emits [] comment tt (λ k. refl)
lex-first opening = emits (opens ∷ []) idle tt (λ k. refl)
lex-first closing = emits (closes ∷ []) idle tt (λ k. refl)
lex-first semicolon = emits (semis ∷ []) idle tt (λ k. refl)
lex-first point = emits (colons ∷ []) idle tt (λ k. refl)
lex-first dollar = emits (begins ∷ []) (number counter_form 0 0) tt (λ k. refl)
lex-first tick = emits (begins ∷ []) after-tick tt (λ k. refl)
lex-first stray = breaks StrayMark refl (λ k. refl)
lex-first (operating o) = emits (begins ∷ does (operator o) ∷ []) idle tt (λ k. refl)
lex-first (accessing a) = emits (begins ∷ []) (after-access a) tt (λ k. refl)
lex-first (comparing c) = emits (begins ∷ asks c ∷ []) idle tt (λ k. refl)
lex-first (calling a) = emits (begins ∷ calls a ∷ []) idle tt (λ k. refl)

lex-numeral : (f : Form) (v : ℕ) → Lexed (λ k. numeral f v k)
unfolding numeral
lex-numeral counter_form zero = breaks BadCounter refl (λ k. refl)
lex-numeral counter_form (suc m) = emits (counts m ∷ []) idle tt (λ k. refl)
lex-numeral (constant_form s) v = emits (does (constant (signed s v)) ∷ []) idle tt (λ k. refl)

lex-numbered : (u c : Bool) (b : ℕ) (f : Form) (n v : ℕ) → Lexed (λ k. numbered u c b f n v k)
unfolding numbered
lex-numbered true c b f n v =
    lex-unless (ltb n (most_digits f)) (form_fault f) (λ k. k (number f (suc n) (10 * v + (b - digit_byte 0)))) (form-byte f)
    (emits [] (number f (suc n) (10 * v + (b - digit_byte 0))) tt (λ k. refl))
lex-numbered false true b f n v = lex-unless (ltb 0 n) (form_fault f) (λ k. numeral f v k) (form-byte f) (lex-numeral f v)
lex-numbered false false b f n v = breaks (form_fault f) (form-byte f) (λ k. refl)

lex-slashed : (u : Bool) (b : ℕ) → Lexed (λ k. slashed u b k)
unfolding slashed scan_number
lex-slashed true b = emits [] (number (constant_form true) 0 0) tt (λ k. refl)
lex-slashed false b = lex-numbered (is_digit b) (eqb b tick_byte) b (constant_form false) 0 0

lex-ticked : (u v : Bool) → Lexed (λ k. ticked u v k)
unfolding ticked
lex-ticked true v = emits [] (printing []) tt (λ k. refl)
lex-ticked false true = emits [] after-slash tt (λ k. refl)
lex-ticked false false = breaks StrayMark refl (λ k. refl)

lex-accessed : (u : Bool) (a : Access) (d : ℕ) → Lexed (λ k. accessed u a d k)
unfolding accessed
lex-accessed true a d = emits (does (variable a (digit_cell d)) ∷ []) idle tt (λ k. refl)
lex-accessed false a d = breaks StrayMark refl (λ k. refl)

lex-printed : (u v : Bool) (b : ℕ) (l : List ℕ) → Lexed (λ k. printed u v b l k)
unfolding printed
lex-printed true v b l = emits (does (print (reverse l)) ∷ []) idle tt (λ k. refl)
lex-printed false true b l = emits [] (printing (b ∷ l)) tt (λ k. refl)
lex-printed false false b l = breaks StrayMark refl (λ k. refl)

lex-commented : (u v : Bool) → Lexed (λ k. commented u v k)
unfolding commented
lex-commented true v = emits [] idle tt (λ k. refl)
lex-commented false true = emits [] comment tt (λ k. refl)
lex-commented false false = breaks StrayMark refl (λ k. refl)

lex-byte : (m : Mode) (b : ℕ) → Lexed (λ k. scan m b k)
unfolding scan scan_number
lex-byte idle b = lex-first (class b)
lex-byte comment b = lex-commented (eqb b quote_byte) (comment_byte b)
lex-byte after-tick b = lex-ticked (eqb b tick_byte) (eqb b slash_byte)
lex-byte after-slash b = lex-slashed (eqb b minus_byte) b
lex-byte (after-access a) b = lex-accessed (is_digit b) a (b - digit_byte 0)
lex-byte (number f n v) b = lex-numbered (is_digit b) (eqb b (closing_byte f)) b f n v
lex-byte (printing l) b = lex-printed (eqb b tick_byte) (print_byte b) b l

-- ── plain tokens in the parser ──────────────────────────────────────────────────────────────────

-- Tokens, as a function of those after them, take the parser to a place or refuse the text.
data Parsed (y : List Token → Reading) : Type 0 where
  moves : (p : Place) → ((l : List Token) → y l ≡ parse l p) → Parsed y
  refuses : (r : Fault) → of_byte r ≡ true → ((l : List Token) → y l ≡ refused r) → Parsed y

parse-require : (u : Bool) (r : Fault) (y : List Token → Reading) → of_byte r ≡ true → Parsed y → Parsed (λ l. require u r (λ _. y l))
unfolding require
parse-require true r y h p = p
parse-require false r y h p = refuses r h (λ l. refl)

parse-extend : (f : Expr → Expr) (st : List (Expr → Expr)) (q c : ℕ) → Parsed (λ l. extend f st q c (λ p. parse l p))
unfolding extend
parse-extend f st q c = parse-require (leb q (suc max_cells)) TableFull (λ l. parse l (inside f st q c)) refl (moves (inside f st q c) (λ l. refl))

parse-within : (t : Token) (f : Expr → Expr) (st : List (Expr → Expr)) (q c : ℕ) → Plain (t ∷ []) → Parsed (λ l. within t f st q c (λ p. parse l p))
unfolding within
parse-within opens f st q c h =
    parse-require (leb (suc (suc (length st))) max_levels) Deep (λ l. parse l (inside (λ b. b) (f ∷ st) q c)) refl
    (moves (inside (λ b. b) (f ∷ st) q c) (λ l. refl))
parse-within closes f [] q c h =
    parse-require (leb (suc q) max_cells) TableFull (λ l. parse l (whole (f close))) refl (moves (whole (f close)) (λ l. refl))
parse-within closes f (g ∷ st) q c h = parse-extend (λ b. g (inner (f close) b)) st (suc q) c
parse-within semis f st q c h = parse-extend (λ b. f (semi b)) st (suc q) c
parse-within colons f st q c h = parse-extend (λ b. f (colon b)) st (suc q) c
parse-within begins f st q c h = moves (inside f st q c) (λ l. refl)
parse-within ends f st q c h = absurd h
parse-within (does o) f st q c h = parse-extend (λ b. f (operate o b)) st (after_operation o q) c
parse-within (asks t) f st q c h = parse-extend (λ b. f (test (condition t) b)) st (after_predicate (condition t) q) c
parse-within (counts m) f st q c h =
    parse-require (ltb c max_counters) ManyCounters
    (λ l. extend (λ b. f (test (counter m c) b)) st (after_predicate (counter m c) q) (suc c) (λ p. parse l p)) refl
    (parse-extend (λ b. f (test (counter m c) b)) st (after_predicate (counter m c) q) (suc c))
parse-within (calls a) f st q c h = parse-extend (λ b. f (call a b)) st (after_call q) c
parse-within (faults r) f st q c h = absurd h

parse-starting : (t : Token) → Plain (t ∷ []) → Parsed (λ l. starting t (λ p. parse l p))
unfolding starting
parse-starting opens h = moves (inside (λ b. b) [] code_start 0) (λ l. refl)
parse-starting closes h = refuses StrayMark refl (λ l. refl)
parse-starting semis h = refuses StrayMark refl (λ l. refl)
parse-starting colons h = refuses StrayMark refl (λ l. refl)
parse-starting begins h = refuses StrayMark refl (λ l. refl)
parse-starting ends h = absurd h
parse-starting (does o) h = refuses StrayMark refl (λ l. refl)
parse-starting (asks t) h = refuses StrayMark refl (λ l. refl)
parse-starting (counts m) h = refuses StrayMark refl (λ l. refl)
parse-starting (calls a) h = refuses StrayMark refl (λ l. refl)
parse-starting (faults r) h = absurd h

parse-ending : (t : Token) (w : Expr) → Plain (t ∷ []) → Parsed (λ l. ending t w)
unfolding ending
parse-ending opens w h = refuses StrayMark refl (λ l. refl)
parse-ending closes w h = refuses StrayMark refl (λ l. refl)
parse-ending semis w h = refuses StrayMark refl (λ l. refl)
parse-ending colons w h = refuses StrayMark refl (λ l. refl)
parse-ending begins w h = refuses StrayMark refl (λ l. refl)
parse-ending ends w h = absurd h
parse-ending (does o) w h = refuses StrayMark refl (λ l. refl)
parse-ending (asks t) w h = refuses StrayMark refl (λ l. refl)
parse-ending (counts m) w h = refuses StrayMark refl (λ l. refl)
parse-ending (calls a) w h = refuses StrayMark refl (λ l. refl)
parse-ending (faults r) w h = absurd h

parse-token : (t : Token) (p : Place) → Plain (t ∷ []) → Parsed (λ l. parse (t ∷ l) p)
unfolding parse
parse-token t outside h = parse-starting t h
parse-token t (inside f st q c) h = parse-within t f st q c h
parse-token t (whole w) h = parse-ending t w h

plain-first : (t : Token) (l : List Token) → Plain (t ∷ l) → Plain (t ∷ []) × Plain l
plain-first opens l h = (tt, h)
plain-first closes l h = (tt, h)
plain-first semis l h = (tt, h)
plain-first colons l h = (tt, h)
plain-first begins l h = (tt, h)
plain-first ends l h = absurd h
plain-first (does o) l h = (tt, h)
plain-first (asks t) l h = (tt, h)
plain-first (counts m) l h = (tt, h)
plain-first (calls a) l h = (tt, h)
plain-first (faults r) l h = absurd h

-- a token, and then tokens ts that move on from every place
parse-then : (t : Token) (ts : List Token) (p : Place) → ((q : Place) → Parsed (λ l. parse (ts ++ l) q)) → Parsed (λ l. parse (t ∷ l) p)
    → Parsed (λ l. parse (t ∷ ts ++ l) p)
parse-then t ts p more (moves q e) = go (more q)
  where
    go : Parsed (λ l. parse (ts ++ l) q) → Parsed (λ l. parse (t ∷ ts ++ l) p)
    go (moves o d) = moves o (λ l. e (ts ++ l) ∙ d l)
    go (refuses r g d) = refuses r g (λ l. e (ts ++ l) ∙ d l)
parse-then t ts p more (refuses r g e) = refuses r g (λ l. e (ts ++ l))

parse_plain : (ts : List Token) (p : Place) → Plain ts → Parsed (λ l. parse (ts ++ l) p)
parse_plain [] p h = moves p (λ l. refl)
parse_plain (t ∷ ts) p h =
    let (g, k) = plain-first t ts h in
    parse-then t ts p (λ q. parse_plain ts q k) (parse-token t p g)

-- ── a text, byte by byte ────────────────────────────────────────────────────────────────────────

-- f reads a text: a byte of t is at fault with r, or no beginning of t is spoilt
data Traced (t : List ℕ) (f : List ℕ → Reading) : Type 0 where
  spoilt : (r : Fault) → of_byte r ≡ true → (before : List ℕ) (at : ℕ) (rest : List ℕ) → t ≡ before ++ at ∷ rest
      → ((u : List ℕ) → f (before ++ at ∷ u) ≡ refused r) → ((p s : List ℕ) → before ≡ p ++ s → NotYet (f p)) → Traced t f
  clear : ((p s : List ℕ) → t ≡ p ++ s → NotYet (f p)) → Traced t f

tail : List ℕ → List ℕ
tail [] = []
tail (b ∷ l) = l

-- the beginnings of no bytes, and those of b and l
begin-none : (f : List ℕ → Reading) → NotYet (f []) → (p s : List ℕ) → [] ≡ p ++ s → NotYet (f p)
begin-none f h [] s e = h
begin-none f h (b ∷ p) s e = absurd (omega (arith, ap length e))

begin-more : (b : ℕ) (l : List ℕ) (f : List ℕ → Reading) → NotYet (f []) → ((p s : List ℕ) → l ≡ p ++ s → NotYet (f (b ∷ p)))
    → (p s : List ℕ) → b ∷ l ≡ p ++ s → NotYet (f p)
unfolding tail
begin-more b l f h g [] s e = h
begin-more b l f h g (c ∷ p) s e = subst (λ n. NotYet (f (n ∷ p))) (ap (λ z. get_or z 0 0) e) (g p s (ap tail e))

-- the next byte of_byte the text; or the text goes on as g reads it
spoilt-here : (b : ℕ) (l : List ℕ) (f : List ℕ → Reading) (r : Fault) → of_byte r ≡ true → NotYet (f []) → ((u : List ℕ) → f (b ∷ u) ≡ refused r)
    → Traced (b ∷ l) f
spoilt-here b l f r g h e = spoilt r g [] b l refl e (begin-none f h)

spoilt-later : (b : ℕ) (l : List ℕ) (f g : List ℕ → Reading) → NotYet (f []) → ((u : List ℕ) → f (b ∷ u) ≡ g u) → Traced l g → Traced (b ∷ l) f
spoilt-later b l f g h e (spoilt r o before at rest q d k) =
    spoilt r o (b ∷ before) at rest (ap (λ z. b ∷ z) q) (λ u. e (before ++ at ∷ u) ∙ d u)
    (begin-more b before f h (λ p s z. subst NotYet (sym (e p)) (k p s z)))
spoilt-later b l f g h e (clear k) = clear (begin-more b l f h (λ p s z. subst NotYet (sym (e p)) (k p s z)))

end-notyet : (m : Mode) (p : Place) → NotYet (parse (finish m) p)
unfolding parse finish
end-notyet idle outside = refl
end-notyet idle (inside f st q c) = refl
end-notyet idle (whole w) = tt
end-notyet comment outside = refl
end-notyet comment (inside f st q c) = refl
end-notyet comment (whole w) = refl
end-notyet after-tick outside = refl
end-notyet after-tick (inside f st q c) = refl
end-notyet after-tick (whole w) = refl
end-notyet after-slash outside = refl
end-notyet after-slash (inside f st q c) = refl
end-notyet after-slash (whole w) = refl
end-notyet (after-access a) outside = refl
end-notyet (after-access a) (inside f st q c) = refl
end-notyet (after-access a) (whole w) = refl
end-notyet (number f n v) outside = refl
end-notyet (number f n v) (inside g st q c) = refl
end-notyet (number f n v) (whole w) = refl
end-notyet (printing l) outside = refl
end-notyet (printing l) (inside f st q c) = refl
end-notyet (printing l) (whole w) = refl

broken : (r : Fault) (q : Place) → parse (fault r) q ≡ refused r
unfolding parse
broken r outside = refl
broken r (inside f st q c) = refl
broken r (whole w) = refl

-- a byte b in the mode m at the place p, with what follows from every mode and place
module _ (b : ℕ) (l : List ℕ) (m : Mode) (p : Place) (more : (n : Mode) (q : Place) → Traced l (λ u. parse (tokens u n) q)) where
  trace-plain : (ts : List Token) (n : Mode) → ((k : Mode → List Token) → scan m b k ≡ ts ++ k n) → Parsed (λ z. parse (ts ++ z) p)
      → Traced (b ∷ l) (λ u. parse (tokens u m) p)
  unfolding tokens
  trace-plain ts n e (moves q d) =
      spoilt-later b l (λ u. parse (tokens u m) p) (λ u. parse (tokens u n) q) (end-notyet m p)
      (λ u. ap (λ z. parse z p) (e (λ m'. tokens u m')) ∙ d (tokens u n)) (more n q)
  trace-plain ts n e (refuses r g d) =
      spoilt-here b l (λ u. parse (tokens u m) p) r g (end-notyet m p) (λ u. ap (λ z. parse z p) (e (λ m'. tokens u m')) ∙ d (tokens u n))

  trace-byte : Lexed (λ k. scan m b k) → Traced (b ∷ l) (λ u. parse (tokens u m) p)
  unfolding tokens
  trace-byte (emits ts n h e) = trace-plain ts n e (parse_plain ts p h)
  trace-byte (breaks r g e) =
      spoilt-here b l (λ u. parse (tokens u m) p) r g (end-notyet m p) (λ u. ap (λ z. parse z p) (e (λ m'. tokens u m')) ∙ broken r p)

trace : (t : List ℕ) (m : Mode) (p : Place) → Traced t (λ u. parse (tokens u m) p)
unfolding tokens
trace [] m p = clear (begin-none (λ u. parse (tokens u m) p) (end-notyet m p))
trace (b ∷ l) m p = trace-byte b l m p (λ n q. trace l n q) (lex-byte m b)

-- ── texts of at most 256 bytes ──────────────────────────────────────────────────────────────────

-- a text without its length
abbrev parsed : List ℕ → Reading
parsed t = parse (tokens t idle) outside

read_short : (t : List ℕ) → length t ≤ max_text → read t ≡ parsed t
unfolding read require
read_short t h = simp (le-leb (length t) max_text h)

read-long : (t : List ℕ) → max_text < length t → read t ≡ refused LongText
unfolding read require
read-long t h = simp (lt-leb (length t) max_text h)

-- the refusal of a reading, with r for an accepted one
refusal : Fault → Reading → Fault
refusal r (refused e) = e
refusal r (accepted w) = r

same-refusal : (r s : Fault) → refused r ≡ refused s → r ≡ s
unfolding refusal
same-refusal r s e = ap (refusal r) e

-- the numbers 2 and 7 are of no byte
byte-not-long : (r : Fault) → of_byte r ≡ true → r ≡ LongText → ⊥
byte-not-long r h e = false≢true (sym (ap of_byte e) ∙ h)

byte-not-unfinished : (r : Fault) → of_byte r ≡ true → r ≡ Unfinished → ⊥
byte-not-unfinished r h e = false≢true (sym (ap of_byte e) ∙ h)

long-not-early : LongText ≡ Unfinished → ⊥
long-not-early q = false≢true (ap (λ r. eqb (fault_number r) 7) q)

-- a short text has a byte at fault, or is unfinished or accepted
data Judged (t : List ℕ) : Type 0 where
  at_byte : (r : Fault) → of_byte r ≡ true → FaultAt r t → Judged t
  at-end : NotYet (read t) → Judged t

fits-part : (t p s : List ℕ) → t ≡ p ++ s → length t ≤ max_text → length p ≤ max_text
fits-part t p s e h = omega (arith, ap length e, length-append p s)

judged : (t : List ℕ) → length t ≤ max_text → Judged t
judged t h = go (trace t idle outside)
  where
    go : Traced t parsed → Judged t
    go (spoilt r o before at rest e d k) =
        let hb = fits-part t before (at ∷ rest) e h in
        at_byte r o
        (record {
          before = before;
          at = at;
          rest = rest;
          parts = e;
          settled = λ u hu. read_short (before ++ at ∷ u) hu ∙ d u;
          unspoilt = λ p s q. subst NotYet (sym (read_short p (fits-part before p s q hb))) (k p s q);
        })
    go (clear k) = at-end (subst NotYet (sym (read_short t h)) (k t [] (sym (append-nil t))))

fault-reads : (t : List ℕ) (r : Fault) → length t ≤ max_text → FaultAt r t → read t ≡ refused r
fault-reads t r h f = ap read f.parts ∙ f.settled f.rest (subst (λ z. length z ≤ max_text) f.parts h)

-- a text of more than 256 bytes has the number 2
short-enough : (t : List ℕ) (r : Fault) → read t ≡ refused r → (r ≡ LongText → ⊥) → length t ≤ max_text
short-enough t r e h = go (leb (length t) max_text) refl
  where
    go : (u : Bool) → leb (length t) max_text ≡ u → length t ≤ max_text
    go true q = leb-true (length t) max_text q
    go false q = absurd (h (same-refusal r LongText (sym e ∙ read-long t (leb-false (length t) max_text q))))

pub first-fault : FirstFault
first-fault t r o = (λ e. go e (judged t (short-enough t r e (byte-not-long r o))), fault-reads t r)
  where
    go : read t ≡ refused r → Judged t → FaultAt r t
    go e (at_byte s p f) = subst (λ z. FaultAt z t) (same-refusal s r (sym (fault-reads t s (short-enough t r e (byte-not-long r o)) f) ∙ e)) f
    go e (at-end h) = absurd (byte-not-unfinished r o (subst NotYet e h))

pub unfinished-exactly : UnfinishedExactly
unfinished-exactly t = (early, λ e. go e (judged t e.text) (read t) refl)
  where
    early : read t ≡ refused Unfinished → EndsEarly t
    early e =
        let h = short-enough t Unfinished e (λ q. long-not-early (sym q)) in
        record {
          text = h;
          faultless = λ r o f. byte-not-unfinished r o (same-refusal r Unfinished (sym (fault-reads t r h f) ∙ e));
          incomplete = λ w k. not-accepted Unfinished w (sym e ∙ reading-complete t w k);
        }

    go : EndsEarly t → Judged t → (x : Reading) → read t ≡ x → read t ≡ refused Unfinished
    go e (at_byte r o f) x q = absurd (e.faultless r o f)
    go e (at-end h) (refused r) q = q ∙ ap refused (subst NotYet q h)
    go e (at-end h) (accepted w) q = absurd (e.incomplete w (reading-sound t w q))

pub long-exactly : LongExactly
long-exactly t = (λ e. go e (leb (length t) max_text) refl, read-long t)
  where
    judge : read t ≡ refused LongText → (h : length t ≤ max_text) → Judged t → ⊥
    judge e h (at_byte r o f) = byte-not-long r o (same-refusal r LongText (sym (fault-reads t r h f) ∙ e))
    judge e h (at-end n) = long-not-early (subst NotYet e n)

    go : read t ≡ refused LongText → (u : Bool) → leb (length t) max_text ≡ u → max_text < length t
    go e true q = absurd (judge e (leb-true (length t) max_text q) (judged t (leb-true (length t) max_text q)))
    go e false q = leb-false (length t) max_text q
