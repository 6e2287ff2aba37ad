-- A whole text: its length, what stands before the outermost `(`, the first pass, and what stands after the last `)`.
use mathlib.Core.Path.{◌≡◌, refl, sym, ap, ◌∙◌}
use mathlib.Core.List.{List, [], ◌∷◌}
use Prim.Native.Nat.{ℕ, ◌+◌, ◌≤◌, ◌<◌}
use lib.ListN.{length, get_or, drop}
use lib.Dec.{T}
use borrow.Author.Tests.{le-leb, lt-leb}
use Rattle.std.specs.Prelude.{Ok, Err}
use Rattle.language.specs.Limits.{max_text}
use Rattle.language.specs.declared.Fault.{Fault}
use Rattle.language.specs.declared.Fault.TheVariants.{LongText, StrayMark, Unfinished}
use Rattle.language.specs.Syntax.{Expr}
use Rattle.language.specs.Tokens.{Token, faults, Class, blank, quote, opening, closing, semicolon, point, dollar, tick, stray, operating, accessing, comparing, calling, class}
use Rattle.language.specs.Tokens.{Mode, idle, first, finish, tokens}
use Rattle.language.specs.Reading.{refused, accepted, outside, whole, require, starting, ending, parse, read}
use Rattle.emitter.specs.declared.pass.Draft.{Draft}
use Rattle.lexer.specs.Lexing.{MarkAt, SkipsTo}
use Rattle.language.specs.Bytes.{open_byte}
use Rattle.linker.specs.Linked.{linked}
use Rattle.assembler.specs.Exits.{linked as settled}
use Rattle.assembler.specs.Scanning.{parsed_from, Ends}
use Rattle.lexer.proofs.LexingSorts.{is_permission, is_other, a-mark, no-opening, the-opening}
use Rattle.lexer.proofs.Lexing.{tokens-end, tokens-first}

-- ── the length ──────────────────────────────────────────────────────────────────────────────────

read-long : (s : List ℕ) → max_text < length s → read s ≡ refused LongText
unfolding read require
read-long s h = simp (lt-leb (length s) max_text h)

read_short : (s : List ℕ) → length s ≤ max_text → read s ≡ parse (tokens s idle) outside
unfolding read require
read_short s h = simp (le-leb (length s) max_text h)

pub link-long : (s : List ℕ) → max_text < length s → Err LongText ≡ linked (read s)
link-long s h = sym (ap linked (read-long s h))

-- ── before the outermost `(` and after the last `)` ─────────────────────────────────────────────

stray-before : (c : Class) (k : Mode → List Token) → T (is_other c) → parse (first c k) outside ≡ refused StrayMark
unfolding first parse starting
stray-before blank k t = absurd t
stray-before quote k t = absurd t
stray-before opening k t = absurd t
stray-before closing k t = refl
stray-before semicolon k t = refl
stray-before point k t = refl
stray-before (operating o) k t = refl
stray-before (accessing a) k t = refl
stray-before (comparing c) k t = refl
stray-before (calling a) k t = refl
stray-before dollar k t = refl
stray-before tick k t = refl
stray-before stray k t = refl

stray-after : (c : Class) (k : Mode → List Token) (w : Expr) → T (is_permission c) → parse (first c k) (whole w) ≡ refused StrayMark
unfolding first parse ending
stray-after blank k w t = absurd t
stray-after quote k w t = absurd t
stray-after opening k w t = refl
stray-after closing k w t = refl
stray-after semicolon k w t = refl
stray-after point k w t = refl
stray-after (operating o) k w t = refl
stray-after (accessing a) k w t = refl
stray-after (comparing c) k w t = refl
stray-after (calling a) k w t = refl
stray-after dollar k w t = refl
stray-after tick k w t = refl
stray-after stray k w t = refl

before-fault : (t : List Token) (r : Fault) → t ≡ faults r ∷ [] → parse t outside ≡ refused r
unfolding parse starting
before-fault t r e = ap (λ t. parse t outside) e

after-fault : (t : List Token) (r : Fault) (w : Expr) → t ≡ faults r ∷ [] → parse t (whole w) ≡ refused r
unfolding parse ending
after-fault t r w e = ap (λ t. parse t (whole w)) e

before-end : (s : List ℕ) (i : ℕ) → length s ≤ i → parse (tokens (drop i s) idle) outside ≡ refused Unfinished
unfolding finish parse starting
before-end s i h = ap (λ t. parse t outside) (tokens-end s i idle h)

after-end : (s : List ℕ) (i : ℕ) (w : Expr) → length s ≤ i → parse (tokens (drop i s) idle) (whole w) ≡ accepted w
unfolding finish parse ending
after-end s i w h = ap (λ t. parse t (whole w)) (tokens-end s i idle h)

module _ (s : List ℕ) (i : ℕ) (h : i < length s) (byte : get_or s i 0 < 256) (mark : MarkAt s i) where
  before-stray : (get_or s i 0 ≡ open_byte → ⊥) → parse (tokens (drop i s) idle) outside ≡ refused StrayMark
  before-stray n =
      ap (λ t. parse t outside) (tokens-first s i h _ refl)
      ∙ stray-before (class (get_or s i 0)) _ (no-opening (get_or s i 0) byte (mark h) n)

  before-open : get_or s i 0 ≡ open_byte → parse (tokens (drop i s) idle) outside ≡ parsed_from s (i + 1)
  unfolding first parse starting
  before-open e = ap (λ t. parse t outside) (tokens-first s i h opening (the-opening (get_or s i 0) e))

  after-stray : (w : Expr) → parse (tokens (drop i s) idle) (whole w) ≡ refused StrayMark
  after-stray w =
      ap (λ t. parse t (whole w)) (tokens-first s i h _ refl)
      ∙ stray-after (class (get_or s i 0)) _ w (a-mark (get_or s i 0) byte (mark h))

-- ── up to the outermost `(` ─────────────────────────────────────────────────────────────────────

module _ (s : List ℕ) (short : length s ≤ max_text) where
  pub link-unskipped : (r : Fault) → tokens s idle ≡ faults r ∷ [] → Err r ≡ linked (read s)
  link-unskipped r e = sym (ap linked (read_short s short ∙ before-fault (tokens s idle) r e))

  module _ (i : ℕ) (k : SkipsTo (tokens s idle) s 0 i) where
    read_at : read s ≡ parse (tokens (drop i s) idle) outside
    read_at = read_short s short ∙ ap (λ t. parse t outside) k.tokens-are

    pub link-empty : length s ≤ i → Err Unfinished ≡ linked (read s)
    link-empty h = sym (ap linked (read_at ∙ before-end s i h))

    module _ (h : i < length s) (byte : get_or s i 0 < 256) (mark : MarkAt s i) where
      pub link-stray : (get_or s i 0 ≡ open_byte → ⊥) → Err StrayMark ≡ linked (read s)
      link-stray n = sym (ap linked (read_at ∙ before-stray s i h byte mark n))

      pub link-inside : get_or s i 0 ≡ open_byte → linked (parsed_from s (i + 1)) ≡ linked (read s)
      link-inside e = sym (ap linked (read_at ∙ before-open s i h byte mark e))

-- ── from the outermost `(` on ───────────────────────────────────────────────────────────────────

-- the outermost expression of the text s ends before place n
module _ (s : List ℕ) (from n : ℕ) (d : Draft) (e : Ends s from n d) where
  pub link-unskipped-after : (r : Fault) → tokens (drop n s) idle ≡ faults r ∷ [] → Err r ≡ linked (parsed_from s from)
  link-unskipped-after r q = sym (ap linked (e.goes_on ∙ after-fault _ r e.expr q))

  pub link-counts : (f : Draft) → f ≡ settled d → f.used ≡ d.used
  unfolding settled
  link-counts f h = ap (λ (x : Draft). x.used) h

  module _ (j : ℕ) (k : SkipsTo (tokens (drop n s) idle) s n j) where
    pub link-stray-after : j < length s → get_or s j 0 < 256 → MarkAt s j → Err StrayMark ≡ linked (parsed_from s from)
    link-stray-after l b m =
        sym (ap linked (e.goes_on ∙ ap (λ t. parse t (whole e.expr)) k.tokens-are ∙ after-stray s j l b m e.expr))

    pub link-whole : length s ≤ j → (f : Draft) → f ≡ settled d → Ok (record { used = f.used; cells = f.cells }) ≡ linked (parsed_from s from)
    unfolding settled
    link-whole l f h =
        (λ i. Ok (record { used = (ap (λ (x : Draft). x.used) h ∙ e.ready.all) i; cells = (ap (λ (x : Draft). x.cells) h ∙ e.ready.cells_are) i }))
        ∙ sym (ap linked (e.goes_on ∙ ap (λ t. parse t (whole e.expr)) k.tokens-are ∙ after-end s j e.expr l))

    pub link-unfilled : length s ≤ j → Ok (record { used = d.used; cells = (settled d).cells }) ≡ linked (parsed_from s from)
    unfolding settled
    link-unfilled l = link-whole l (settled d) refl
