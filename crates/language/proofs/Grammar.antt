-- The parser reads exactly the written grammar: what it accepts the grammar spells within the limits, and what the grammar so spells it accepts.
use mathlib.Core.Path.{◌≡◌, sym, ap, ◌∙◌}
use Prim.Native.Nat.{ℕ}
use mathlib.Core.List.{List}
use Rattle.language.specs.Syntax.{Expr}
use Rattle.language.specs.Tokens.{idle, tokens}
use Rattle.language.specs.Reading.{accepted, read}
use Rattle.language.specs.Grammar.{Lexeme, spell_all, AllFormed, marks_of}
use Rattle.language.specs.Statements.{Keeps, ReadingExact, SpellingUnique}
use Rattle.language.proofs.GrammarMarks.{tokens_of, marks_in, tokens-marks, lexemes-formed, spelled-marks}
use Rattle.language.proofs.ReadingParsing.{read-sound, read-complete}
use Rattle.language.proofs.TokensComplete.{lexing-complete}
use Rattle.language.proofs.TokensSound.{lexing-sound}

pub lexed-marks : (xs : List Lexeme) → AllFormed xs → marks_in 0 (tokens (spell_all xs) idle) ≡ marks_of 0 xs
lexed-marks xs h = ap (marks_in 0) (lexing-complete xs 0 h) ∙ tokens-marks (marks_of 0 xs) 0 (lexemes-formed xs 0 h)

pub reading-sound : (t : List ℕ) (w : Expr) → read t ≡ accepted w → Keeps t w
reading-sound t w h =
    let (ht, s) = read-sound t w h in
    let (xs, hx, e) = lexing-sound t s.clean in
    let p = ap (λ l. marks_in 0 (tokens l idle)) e ∙ lexed-marks xs hx in
    record {
      grammar = record { lexemes = xs; formed = hx; bytes = e; order = sym p ∙ s.order };
      limits = record { text = ht; levels = s.levels; counted = s.counted; cells = s.cells };
    }

pub reading-complete : (t : List ℕ) (w : Expr) → Keeps t w → read t ≡ accepted w
reading-complete t w k =
    let s = k.grammar in
    let i = k.limits in
    read-complete t w i.text
    (ap (λ l. tokens l idle) s.bytes ∙ lexing-complete s.lexemes 0 s.formed ∙ ap tokens_of s.order)
    (spelled-marks t w s) i.levels i.counted i.cells

pub reading-exact : ReadingExact
reading-exact t w = (reading-sound t w, reading-complete t w)

pub spelling-unique : SpellingUnique
spelling-unique t w v s u =
    let p = reading-complete t w s in
    let q = reading-complete t v u in
    cc
