-- What is claimed of every fair copy is proved.
use mathlib.Core.Path.{◌≡◌, refl, sym, ap, ◌∙◌}
use mathlib.Core.List.{List, [], ◌∷◌}
use mathlib.Core.Option.{some, some-injective}
use Prim.Native.Nat.{ℕ, ◌≤◌}
use native.Mathlib.Omega.{arith}
use lib.ListN.{length}
use borrow.Author.Tests.{le-leb}
use Rattle.language.specs.Syntax.{Expr}
use Rattle.language.specs.Tokens.{idle, tokens}
use Rattle.language.specs.Reading.{Reading, refused, accepted, read}
use Rattle.language.specs.Grammar.{spell_all, marks_of, mOpen, marks}
use Rattle.language.proofs.Grammar.{lexed-marks, reading-sound, reading-complete}
use Rattle.language.proofs.GrammarMarks.{marks_in, spelled-marks}
use Rattle.linker.specs.Linked.{linked, link_number}
use Rattle.faircopy.specs.FairCopy.{marks_bytes, fair_copy, copy_of, copied}
use Rattle.faircopy.specs.Claims.{SameExpression, SameTable, CopyOfCopy, NeverLonger, PaperOfText, AllCopiesFair}
use Rattle.faircopy.proofs.ClaimsLengths.{never-longer as marks-shorter, fair}
use Rattle.faircopy.proofs.ClaimsSpelling.{Spelling, spelling}

-- the lexemes of an accepted text's copy
copy-spelled : (t : List ℕ) (w : Expr) → read t ≡ accepted w → Spelling 0 (mOpen ∷ marks w [])
copy-spelled t w h = spelling (mOpen ∷ marks w []) 0 (spelled-marks t w (reading-sound t w h).grammar)

pub copy-shorter : (t : List ℕ) (w : Expr) → read t ≡ accepted w → length (fair_copy w) ≤ length t
copy-shorter t w h =
    let g = (reading-sound t w h).grammar in
    let n = marks-shorter g.lexemes 0 g.formed in
    let e = ap (λ ms. length (marks_bytes ms)) g.order in
    let b = ap length g.bytes in
    omega arith

pub same-expression : SameExpression
same-expression t w h =
    let k = reading-sound t w h in
    let s = copy-spelled t w h in
    reading-complete (fair_copy w) w
    record {
      grammar = record { lexemes = s.lexemes; formed = s.formed; bytes = s.bytes; order = s.order };
      limits =
          record {
            text = let n = copy-shorter t w h in omega (arith, k.limits.text);
            levels = k.limits.levels;
            counted = k.limits.counted;
            cells = k.limits.cells;
          };
    }

-- ── of a text with a copy ───────────────────────────────────────────────────────────────────────

-- A text with a copy is accepted, and the copy is its expression's.
abbrev IsCopy : List ℕ → List ℕ → Type 0
IsCopy t c = (w : Expr) × (read t ≡ accepted w) × (fair_copy w ≡ c)

copy-of : (t c : List ℕ) → copy_of (read t) ≡ some c → IsCopy t c
copy-of t c h = go (read t) refl h
  where
    go : (r : Reading) → read t ≡ r → copy_of r ≡ some c → IsCopy t c
    go (refused f) e h = let z : ◌≡◌ {A = ℕ} 0 1 = cc in absurd (omega arith)
    go (accepted w) e h = (w, e, some-injective (fair_copy w) c h)

pub same-table : SameTable
same-table t c h =
    let (w, r, e) = copy-of t c h in
    ap (λ l. linked (read l)) (sym e) ∙ ap linked (same-expression t w r) ∙ ap linked (sym r)

pub copy-of-copy : CopyOfCopy
copy-of-copy t c h =
    let (w, r, e) = copy-of t c h in
    ap (λ l. copy_of (read l)) (sym e) ∙ ap copy_of (same-expression t w r) ∙ ap some e

pub never-longer : NeverLonger
never-longer t c h = let (w, r, e) = copy-of t c h in let n = copy-shorter t w r in let l = ap length e in omega arith

pub paper-of-text : PaperOfText
paper-of-text t p h = go (read t) refl
  where
    go : (r : Reading) → read t ≡ r → (copied p r).number ≡ link_number (linked r)
    go (refused f) e = refl
    go (accepted w) e = let n = copy-shorter t w e in rw (le-leb (length (fair_copy w)) (length p) (omega arith))

pub all_fair : AllCopiesFair
all_fair t c h xs f b =
    let (w, r, e) = copy-of t c h in
    let s = copy-spelled t w r in
    let same : fair_copy w ≡ spell_all xs = e ∙ b in
    let order : marks_of 0 xs ≡ mOpen ∷ marks w [] =
    sym (lexed-marks xs f) ∙ ap (λ l. marks_in 0 (tokens l idle)) (sym same ∙ s.bytes) ∙ lexed-marks s.lexemes s.formed ∙ s.order in
    fair xs 0 f (sym same ∙ ap marks_bytes (sym order))
