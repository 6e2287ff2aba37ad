-- Document 02, U1: what is proved of every fair copy.
use Rattle.std.specs.Prelude.{◌≡◌, ℕ, ◌≤◌, Bool, true, false, List, [], ◌∷◌, length}
use Rattle.std.proofs.Math.Option.{some}
use Rattle.language.specs.Syntax.{Expr}
use Rattle.language.specs.Grammar.{Lexeme, blank, newline, comma, semicolon, colon-sign, point, left, right, comment, print-of, operator-of, variable-of, condition-of, call-of, counter-of, constant_of}
use Rattle.language.specs.Grammar.{spell_all, AllFormed, value_from}
use Rattle.language.specs.Reading.{accepted, read}
use Rattle.linker.specs.Linked.{linked, link_number}
use Rattle.faircopy.specs.FairCopy.{fair_copy, copy_of, copied}

-- "the same marks in the same order": the copy is accepted as the same expression. proofs/Claims `same-expression`
abbrev pub SameExpression : Type 0
SameExpression = (t : List ℕ) (w : Expr) → read t ≡ accepted w → read (fair_copy w) ≡ accepted w

-- "The copy must link to the very table of the original". proofs/Claims `same-table`
abbrev pub SameTable : Type 0
SameTable = (t c : List ℕ) → copy_of (read t) ≡ some c → linked (read c) ≡ linked (read t)

-- "and a fair copy of a fair copy must be itself". proofs/Claims `copy-of-copy`
abbrev pub CopyOfCopy : Type 0
CopyOfCopy = (t c : List ℕ) → copy_of (read t) ≡ some c → copy_of (read c) ≡ some c

-- A copy is never longer than its text. proofs/Claims `never-longer`
abbrev pub NeverLonger : Type 0
NeverLonger = (t c : List ℕ) → copy_of (read t) ≡ some c → length c ≤ length t

-- So a paper as long as the text is never too short: the number is the linker's. proofs/Claims `paper-of-text`
abbrev pub PaperOfText : Type 0
PaperOfText = (t p : List ℕ) → length t ≤ length p → (copied p (read t)).number ≡ link_number (linked (read t))

-- ── what is not in a copy ───────────────────────────────────────────────────────────────────────

-- "without leading zeros": more digits than one do not begin with 0
abbrev pub Plain : List ℕ → Type 0
Plain [] = Unit {0}
Plain (d ∷ []) = Unit {0}
Plain (d ∷ e ∷ l) = 1 ≤ d

-- "minus zero becoming 0": after a `-` stands no 0
abbrev pub Signed : Bool → List ℕ → Type 0
Signed true ds = 1 ≤ value_from 0 ds
Signed false ds = Unit {0}

-- "no comments, no blanks or newlines outside prints, `;` for `,` and `:` for `.`, and every constant and counter without leading zeros"
abbrev pub Fair : Lexeme → Type 0
Fair blank = ⊥
Fair newline = ⊥
Fair (comment c) = ⊥
Fair comma = ⊥
Fair point = ⊥
Fair (counter-of ds) = Plain ds
Fair (constant_of s ds) = Plain ds × Signed s ds
Fair left = Unit {0}
Fair right = Unit {0}
Fair semicolon = Unit {0}
Fair colon-sign = Unit {0}
Fair (operator-of o) = Unit {0}
Fair (variable-of a d) = Unit {0}
Fair (condition-of c) = Unit {0}
Fair (call-of a) = Unit {0}
Fair (print-of b) = Unit {0}

-- so are all lexemes
abbrev pub AllFair : List Lexeme → Type 0
AllFair [] = Unit {0}
AllFair (x ∷ xs) = Fair x × AllFair xs

-- However a copy is taken apart into lexemes, all are fair. proofs/Claims `all_fair`
abbrev pub AllCopiesFair : Type 0
AllCopiesFair = (t c : List ℕ) → copy_of (read t) ≡ some c → (xs : List Lexeme) → AllFormed xs → c ≡ spell_all xs → AllFair xs
