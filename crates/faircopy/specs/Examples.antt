-- Fair copies, each from the bytes of a text to the bytes of its copy.
use Rattle.std.specs.Prelude.{◌≡◌, ℕ, List, [], ◌∷◌, map, replicate}
use Prim.Native.String.{String}
use Rattle.std.proofs.Math.Option.{some}
use Rattle.language.specs.Trials.{bytes}
use Rattle.language.specs.Reading.{read}
use Rattle.numerals.specs.Numerals.{Delivery, delivers}
use Rattle.faircopy.specs.FairCopy.{copy_of, copied}

-- a text and its copy
pub record Trial : Type 0 where
  pub text : String
  pub copy : String

-- the two together
abbrev pub gives : String → String → Trial
gives t c = record { text = t; copy = c }

-- Comments and blanks; separators; blanks, quotes, `,` and `.` of a print; counters and constants, and those without a zero to lose; every other mark.
abbrev pub trials : List Trial
trials =
    gives "()" "()"
    ∷ gives "\n \"a ' (\" ( \"\" ; \n) \"b\"" "(;)"
    ∷ gives "( N , N . N ; N : )" "(N;N:N;N:)"
    ∷ gives "(''' '' , . \"a\"  0' )" "(''''' , . \"a\"  0')"
    ∷ gives "($0007$ $0010$ $9$ $1000$)" "($7$$10$$9$$1000$)"
    ∷ gives "('/-0' '/-000' '/000000000' '/0')" "('/0''/0''/0''/0')"
    ∷ gives "('/-007' '/007' '/-10' '/100' '/-999999999')" "('/-7''/7''/-10''/100''/-999999999')"
    ∷ gives "( A L M P O X I + - * / ( N 0 J ) a z F0 S0 F1 S9 ; )" "(ALMPOXI+-*/(N0J)azF0S0F1S9;)"
    ∷ []

-- proofs/Examples `trials-hold`
abbrev pub TrialsHold : Type 0
TrialsHold = map (λ x. copy_of (read (bytes x.text))) trials ≡ map (λ x. some (bytes x.copy)) trials

-- a paper of so many bytes that hold 9
abbrev pub paper : ℕ → List ℕ
paper n = replicate n 9

-- `( )` on papers of four bytes, two, one and none; a text without a copy on a long paper and on none
abbrev pub papers : List Delivery
papers =
    copied (paper 4) (read (bytes "( )"))
    ∷ copied (paper 2) (read (bytes "( )"))
    ∷ copied (paper 1) (read (bytes "( )"))
    ∷ copied [] (read (bytes "( )"))
    ∷ copied (paper 4) (read (bytes "(B)"))
    ∷ copied [] (read (bytes "("))
    ∷ []

-- the bytes past the copy stay; where there is none, its number, no length, and the paper as it was
abbrev pub papers_left : List Delivery
papers_left =
    delivers 0 2 (40 ∷ 41 ∷ 9 ∷ 9 ∷ [])
    ∷ delivers 0 2 (40 ∷ 41 ∷ [])
    ∷ delivers 30 0 (9 ∷ [])
    ∷ delivers 30 0 []
    ∷ delivers 3 0 (9 ∷ 9 ∷ 9 ∷ 9 ∷ [])
    ∷ delivers 7 0 []
    ∷ []

-- proofs/Examples `papers-hold`
abbrev pub PapersHold : Type 0
PapersHold = papers ≡ papers_left
