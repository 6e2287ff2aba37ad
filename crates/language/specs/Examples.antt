-- Worked examples, from the bytes of the texts on. Document 01's starred ones are one list. The other lists pin what definition and code take from
-- one place: numbers, limits, bytes, cells, effects and stops. Every figure is written out here and none is taken from a definition.
use Rattle.std.specs.Prelude.{ℕ, ◌-◌, true, false, List, [], ◌∷◌, ◌++◌, map, ℤ, pos, replicate}
use Prim.Native.String.{String}
use Rattle.language.specs.declared.Table.{Table}
use Rattle.language.specs.Machine.{transfer, fail, last, damaged, code}
use Rattle.language.specs.Trials.{bytes, times, neg, zeros, Result, ends, halts, took, keeps, wrote, Example, refused_as, gives, decodes, lays, fault, says, says_none, trial, within, once, fed, printing, guarded, calling, both}

-- ── document 01, "Examples", the starred ones ───────────────────────────────────────────────────

-- the starred examples of document 01
abbrev pub starred : List Example
starred =
    lays "()" (pos 0 ∷ pos 1 ∷ [])
    ∷ once "()" (ends false 1 [])
    ∷ lays "(;)" (pos 4 ∷ pos 0 ∷ pos 1 ∷ [])
    ∷ once "(;)" (ends true 1 [])
    ∷ lays "(())" (pos 4 ∷ pos 0 ∷ pos 1 ∷ [])
    ∷ once "(())" (ends true 1 [])
    ∷ lays "(:)" (pos 2 ∷ pos 0 ∷ pos 1 ∷ [])
    ∷ within 7 "(:)" (halts 20 7 [])
    ∷ within 0 "(:)" (halts 20 0 [])
    ∷ lays "(N;)" (neg 78 ∷ pos 5 ∷ pos 6 ∷ pos 0 ∷ pos 1 ∷ [])
    ∷ lays "(N)" (neg 78 ∷ pos 5 ∷ pos 0 ∷ pos 1 ∷ [])
    ∷ lays "('/5'N)" (neg 175 ∷ pos 5 ∷ neg 78 ∷ pos 7 ∷ pos 0 ∷ pos 1 ∷ [])
    ∷ once "('/5'N)" (ends true 2 (pos 5 ∷ []))
    ∷ once "('/0'($5$'/1'+:;);)" (ends true 24 (pos 5 ∷ []))
    ∷ once "('/0'('/1'+$5$:;);)" (ends true 26 (pos 6 ∷ []))
    ∷ gives
    (record { texts = ("d", bytes "(0L'/1';'/1'-d'/2'*;)") ∷ ("m", bytes "(Id;)") ∷ []; stewards = []; letter = "m"; role = 0; allowance = 1000; inputs = pos 3 ∷ []; room = 0 })
    (took 1 (ends true 28 (pos 8 ∷ [])))
    ∷ once "(((((((((())))))))))" (ends true 5 [])
    ∷ fault "((((((((((()))))))))))" 4
    ∷ []

-- ── refusals of a text ──────────────────────────────────────────────────────────────────────────

-- each of these texts is refused with the number k, or accepted where k is 0
abbrev each : ℕ → List String → List Example
each k ts = map (λ t. fault t k) ts

-- so is each of these bytes between s and t
abbrev each_byte : ℕ → String → String → List ℕ → List Example
each_byte k s t bs = map (λ b. refused_as (bytes s ++ b ∷ bytes t) k) bs

-- the first bytes of all marks but `(`
abbrev mark_bytes : List ℕ
mark_bytes = bytes ");,:.ALMPOXI+-*/FSN0Jaz$'"

-- the refusals 3, 5, 6 and 7 of a text's forms, and what is accepted beside them
abbrev pub faults : List Example
faults =
    -- 3, "a byte that may not stand there": every plain byte that begins no mark, and the bytes beside newline, blank and the last plain one
    each_byte 3 "(" ")" (bytes "!#%&123456789<=>?@BCDEGHKQRTUVWYZ[\\]^_`{|}~" ++ 0 ∷ 9 ∷ 11 ∷ 31 ∷ 127 ∷ 128 ∷ 255 ∷ [])
    -- "A text is one outermost expression": a mark before its `(` and after its `)`, by its first byte, whatever its form
    ++ each_byte 3 "" "" mark_bytes
    ++ each_byte 3 "()" "" (bytes "(" ++ mark_bytes)
    ++ each 3 ("A()" ∷ "$1$()" ∷ "$0$()" ∷ "'/1'()" ∷ "'/x()" ∷ "F1()" ∷ "()$x" ∷ "()'/x" ∷ "()''" ∷ "()x\"" ∷ [])
    -- "with only blanks, newlines and comments around it"
    ++ each 0 ("\n \"a(\" (\n;\"b\" \" \n\"\"\") \n\"\"" ∷ [])
    -- "With a digit after, no blank between: `F S`": each digit, and the bytes beside them
    ++ each 0 ("(F0S1F2S3F4S5F6S7F8S9)" ∷ [])
    ++ each 3 ("(F)" ∷ "(S)" ∷ "(F 1)" ∷ "(S/)" ∷ "(F:)" ∷ [])
    -- after `'` comes `/` or `'`
    ++ each 3 ("('x)" ∷ "('1')" ∷ "('-1')" ∷ "(' '/1')" ∷ [])
    -- a comment has "bytes 32 to 126 or 10 other than `"`"
    ++ each_byte 0 "(\"" "\")" (10 ∷ 32 ∷ 33 ∷ 35 ∷ 39 ∷ 126 ∷ [])
    ++ each_byte 3 "(\"" "\")" (9 ∷ 11 ∷ 31 ∷ 127 ∷ [])
    ++ each 7 ("(\"\"\")" ∷ [])
    -- a print has "bytes 32 to 126 other than `'`"
    ++ each_byte 0 "(''" "')" (32 ∷ 34 ∷ 38 ∷ 40 ∷ 126 ∷ [])
    ++ each_byte 3 "(''" "')" (9 ∷ 10 ∷ 11 ∷ 31 ∷ 127 ∷ [])
    ++ each 0 ("(''')" ∷ [])
    ++ each 3 ("('''')" ∷ [])
    -- 5: "`$`, 1 to 4 digits, `$`; its number is 1 or more"
    ++ each 0 ("($1$$0001$$9999$$2345$$678$$90$)" ∷ [])
    ++ each 5 ("($x$)" ∷ "($1x$)" ∷ "($$)" ∷ "($0$)" ∷ "($0000$)" ∷ "($10000$)" ∷ "($ 1$)" ∷ "($1 $)" ∷ "($-1$)" ∷ "($/$)" ∷ "($1:$)" ∷ "($1'" ∷ [])
    -- 6: "`'/`, perhaps `-`, 1 to 9 digits, `'`"
    ++ each 0 ("('/0''/-0''/999999999''/-999999999''/000000001''/123456789')" ∷ [])
    ++ each 6 ("('/x')" ∷ "('/1x')" ∷ "('/-x')" ∷ "('/')" ∷ "('/-')" ∷ "('/--1')" ∷ "('/+1')" ∷ "('/1-')" ∷ "('/ 1')" ∷ "('/1 ')" ∷ [])
    ++ each 6 ("('//')" ∷ "('/1:')" ∷ "('/1$" ∷ "('/1000000000')" ∷ "('/-0000000001')" ∷ [])
    -- 7, "the text ends before its grammar does": before the `(`, between marks and inside each mark
    ++ each 7 ("" ∷ " \n\"a\"" ∷ "\"" ∷ "(" ∷ "(()" ∷ "(A;:" ∷ "(\"a" ∷ "(F" ∷ "(S" ∷ "($" ∷ "($0" ∷ [])
    ++ each 7 ("('" ∷ "('/" ∷ "('/-" ∷ "('/1" ∷ "(''" ∷ "(''a" ∷ "()\"" ∷ [])
    -- "the text left to right": the first fault's number
    ++ each 3 ("(#'/x" ∷ [])
    ++ each 6 ("('/x#" ∷ "('/x($x" ∷ [])
    ++ each 5 ("($x'/x" ∷ [])

-- ── limits ──────────────────────────────────────────────────────────────────────────────────────

-- the beginning of a text with n counters, of 4 cells each
abbrev counters : ℕ → List ℕ
counters n = bytes "(" ++ times n (bytes "$1$")

-- the beginning of a text with n marks of two cells, after the bytes t
abbrev tests : List ℕ → ℕ → List ℕ
tests t n = t ++ times n (bytes "N")

-- the beginning of a text whose cells 2 to 249 are used
abbrev to249 : List ℕ
to249 = tests (bytes "(") 124

-- 2 to 250
abbrev to250 : List ℕ
to250 = to249 ++ bytes "A"

-- the beginning of a text with 16 counters whose cells 2 to 247 are used, so that one more counter would need cell 251
abbrev brim16 : List ℕ
brim16 = tests (counters 16) 91

-- the same with 15 counters
abbrev brim15 : List ℕ
brim15 = tests (counters 15) 93

-- a print of n bytes at the beginning of a text
abbrev print_of : ℕ → List ℕ
print_of n = bytes "(''" ++ times n (bytes "x") ++ bytes "'"

-- a text of blanks in a pair, n bytes in all
abbrev blanks : ℕ → List ℕ
blanks n = bytes "(" ++ times (n - 2) (bytes " ") ++ bytes ")"

-- the beginning of a text with n levels
abbrev levels : ℕ → List ℕ
levels n = times n (bytes "(")

-- after the beginning t, each of these is refused with the number k, or accepted where k is 0
abbrev upon : ℕ → List ℕ → List String → List Example
upon k t ss = map (λ s. refused_as (t ++ bytes s) k) ss

-- the limits of a text, on both sides, and the order at one mark: "its form (3, 5, 6, 7) comes before 9, and 9 before 8"
abbrev pub limits : List Example
limits =
    -- 2, "over 256 bytes", before "the text left to right"
    refused_as (blanks 256) 0
    ∷ refused_as (blanks 257) 2
    ∷ refused_as (times 256 (bytes "#")) 3
    ∷ refused_as (times 257 (bytes "#")) 2
    -- 4, "an 11th level", before anything later
    ∷ upon 0 (levels 10) ("))))))))))" ∷ ")()()())))))))))" ∷ [])
    ++ upon 3 (levels 10) ("#(" ∷ [])
    ++ upon 4 (levels 11) (")))))))))))" ∷ "#" ∷ "" ∷ [])
    ++ upon 4 (to250 ++ levels 10) ("A" ∷ [])
    -- 9, "a 17th"
    ++ upon 0 (counters 16) (")" ∷ [])
    ++ upon 3 (counters 16) ("#$1$" ∷ [])
    ++ upon 9 (counters 16) ("$1$)" ∷ "$1$#" ∷ [])
    -- 8, "a mark needs cell 251": each kind of mark
    ++ upon 8 to250 ("A" ∷ "F1" ∷ "N" ∷ "a" ∷ "$1$" ∷ "'/1'" ∷ "'''" ∷ ";" ∷ ":" ∷ "()" ∷ ")" ∷ "A#" ∷ [])
    ++ upon 8 to249 ("F1" ∷ "N" ∷ "a" ∷ "$1$" ∷ "'/1'" ∷ "'''" ∷ [])
    -- cell 250 is there: what comes after the mark is the first fault
    ++ upon 3 to249 ("A#" ∷ ";#" ∷ ":#" ∷ "()#" ∷ [])
    ++ upon 3 brim15 ("F1#" ∷ "N#" ∷ "a#" ∷ "'/1'#" ∷ "''x'#" ∷ [])
    -- a print's bytes are cells
    ++ upon 0 (print_of 245) (")" ∷ [])
    ++ upon 8 (print_of 246) (")" ∷ [])
    ++ upon 3 (print_of 247) ("#" ∷ [])
    ++ upon 8 (print_of 248) ("#" ∷ [])
    -- "last `)`: both its cells"
    ++ upon 8 to249 (")" ∷ [])
    ++ upon 0 (tests (bytes "(A") 123) (")" ∷ [])
    ++ upon 8 (tests (bytes "(AA") 123) (")" ∷ [])
    -- the form before 8
    ++ upon 3 to250 ("Fx" ∷ "'x" ∷ "''\n" ∷ "#" ∷ [])
    ++ upon 5 to250 ("$0$" ∷ "$x" ∷ [])
    ++ upon 6 to250 ("'/x" ∷ [])
    ++ upon 7 to250 ("F" ∷ "$1" ∷ "'/1" ∷ "''x" ∷ "" ∷ [])
    -- the form before 9
    ++ upon 5 (counters 16) ("$x" ∷ "$0$" ∷ "$12345" ∷ [])
    ++ upon 7 (counters 16) ("$1" ∷ [])
    -- 9 before 8, the form before both
    ++ upon 9 brim16 ("$1$" ∷ [])
    ++ upon 8 brim15 ("$1$" ∷ [])
    ++ upon 5 brim16 ("$0$" ∷ [])
    ++ upon 7 brim16 ("$1" ∷ [])

-- ── the code table ──────────────────────────────────────────────────────────────────────────────

-- the cells of every kind of mark, all 250 cells of each table
abbrev pub layouts : List Example
layouts =
    -- each operator's code is minus its byte
    lays "(ALMPOXI+-*/)"
    (neg 65 ∷ neg 76 ∷ neg 77 ∷ neg 80 ∷ neg 79 ∷ neg 88 ∷ neg 73 ∷ neg 43 ∷ neg 45 ∷ neg 42 ∷ neg 47 ∷ pos 0 ∷ pos 1 ∷ [])
    -- each predicate's, and the first and last letters', with the false of a last segment
    ∷ lays "(N0Jabyz)"
    (neg 78 ∷ pos 17 ∷ neg 48 ∷ pos 17 ∷ neg 74 ∷ pos 17 ∷ neg 97 ∷ pos 17 ∷ neg 98 ∷ pos 17 ∷ neg 121 ∷ pos 17 ∷ neg 122 ∷ pos 17 ∷ pos 0 ∷ pos 1 ∷ [])
    -- "code, digit (0 as 10)"; "-36, -n, its order in the text from 0, false"; "code, length, bytes"
    ∷ lays "(F0 S9 + $12$ $3$ ''ab' z)"
    (neg 70 ∷ pos 10 ∷ neg 83 ∷ pos 9 ∷ neg 43 ∷ neg 36 ∷ neg 12 ∷ pos 0 ∷ pos 22 ∷ neg 36 ∷ neg 3 ∷ pos 1 ∷ pos 22
    ∷ neg 167 ∷ pos 2 ∷ pos 97 ∷ pos 98 ∷ neg 122 ∷ pos 22 ∷ pos 0 ∷ pos 1 ∷ [])
    ∷ lays "(F1S0'''$9999$''~ ')"
    (neg 70 ∷ pos 1 ∷ neg 83 ∷ pos 10 ∷ neg 167 ∷ pos 0 ∷ neg 36 ∷ neg 9999 ∷ pos 0 ∷ pos 17 ∷ neg 167 ∷ pos 2 ∷ pos 126 ∷ pos 32 ∷ pos 0 ∷ pos 1 ∷ [])
    -- "code, the value"
    ∷ lays "('/-12''/0''/-0''/007''/999999999''/-999999999')"
    (neg 175 ∷ neg 12 ∷ neg 175 ∷ pos 0 ∷ neg 175 ∷ pos 0 ∷ neg 175 ∷ pos 7 ∷ neg 175 ∷ pos 999999999 ∷ neg 175 ∷ neg 999999999 ∷ pos 0 ∷ pos 1 ∷ [])
    -- blanks, newlines and a comment are skipped; `,` is `;` and `.` is `:`
    ∷ lays "\n(\" a\"N , N.) \n" (neg 78 ∷ pos 5 ∷ pos 9 ∷ neg 78 ∷ pos 8 ∷ pos 2 ∷ pos 0 ∷ pos 1 ∷ [])
    ∷ lays "(N;N:)" (neg 78 ∷ pos 5 ∷ pos 9 ∷ neg 78 ∷ pos 8 ∷ pos 2 ∷ pos 0 ∷ pos 1 ∷ [])
    -- inner expressions: their first cell, the cell after their `)` cell, and the enclosing expression's false in their `)` cell
    ∷ lays "(A(N:;)L;P(X)a)"
    (neg 65 ∷ neg 78 ∷ pos 6 ∷ pos 3 ∷ pos 8 ∷ pos 10 ∷ neg 76 ∷ pos 16 ∷ neg 80 ∷ neg 88 ∷ pos 16 ∷ neg 97 ∷ pos 16 ∷ pos 0 ∷ pos 1 ∷ [])
    -- a false is the cell after the next separator of the same expression, whatever stands between
    ∷ lays "(N(;:)F1'/1''''$1$a0;(($1$)z:))"
    (neg 78 ∷ pos 22 ∷ pos 7 ∷ pos 4 ∷ pos 22 ∷ neg 70 ∷ pos 1 ∷ neg 175 ∷ pos 1 ∷ neg 167 ∷ pos 0 ∷ neg 36 ∷ neg 1 ∷ pos 0 ∷ pos 22
    ∷ neg 97 ∷ pos 22 ∷ neg 48 ∷ pos 22 ∷ pos 32 ∷ neg 36 ∷ neg 1 ∷ pos 1 ∷ pos 27 ∷ pos 30 ∷ neg 122 ∷ pos 30 ∷ pos 22 ∷ pos 32 ∷ pos 0 ∷ pos 1 ∷ [])
    ∷ []

-- a table of five cells, of which four are used: cells 1 and 5 hold what would be a transfer to cell 2
abbrev five : Table
five = record { used = 4; cells = pos 2 ∷ pos 4 ∷ pos 0 ∷ pos 1 ∷ pos 2 ∷ [] }

-- "the due cell is outside 2 to used", which no run over a store that 13 lets through meets
abbrev pub decodings : List Example
decodings =
    decodes five 0 damaged
    ∷ decodes five 1 damaged
    ∷ decodes five 2 (code (transfer 4))
    ∷ decodes five 3 (code fail)
    ∷ decodes five 4 last
    ∷ decodes five 5 damaged
    ∷ []

-- ── effects ─────────────────────────────────────────────────────────────────────────────────────

-- what each operator and predicate does
abbrev pub effects : List Example
effects =
    -- "`A` absolute, `M` negated, `L` removes the top, `P` copies it."
    once "('/5'A;)" (ends true 3 (pos 5 ∷ []))
    ∷ once "('/-5'A;)" (ends true 3 (pos 5 ∷ []))
    ∷ once "('/5'M;)" (ends true 3 (neg 5 ∷ []))
    ∷ once "('/-5'M;)" (ends true 3 (pos 5 ∷ []))
    ∷ once "('/5''/6'L;)" (ends true 4 (pos 5 ∷ []))
    ∷ once "('/5''/6'P;)" (ends true 4 (pos 5 ∷ pos 6 ∷ pos 6 ∷ []))
    -- "`+ - * /` replace second and top by second-op-top"
    ∷ once "('/1''/7''/-2'+;)" (ends true 5 (pos 1 ∷ pos 5 ∷ []))
    ∷ once "('/1''/5''/7'-;)" (ends true 5 (pos 1 ∷ neg 2 ∷ []))
    ∷ once "('/1''/-4''/3'*;)" (ends true 5 (pos 1 ∷ neg 12 ∷ []))
    ∷ once "('/1''/8''/2'/;)" (ends true 5 (pos 1 ∷ pos 4 ∷ []))
    -- Document 02, U5: "`/` gives the greatest whole number not above the exact quotient." "-7 by 2 is -4, 7 by -2 is -4, -7 by -2 is 3."
    ∷ once "('/7''/2'/;)" (ends true 4 (pos 3 ∷ []))
    ∷ once "('/-7''/2'/;)" (ends true 4 (neg 4 ∷ []))
    ∷ once "('/7''/-2'/;)" (ends true 4 (neg 4 ∷ []))
    ∷ once "('/-7''/-2'/;)" (ends true 4 (pos 3 ∷ []))
    -- exact quotients
    ∷ once "('/8''/2'/;)" (ends true 4 (pos 4 ∷ []))
    ∷ once "('/-8''/2'/;)" (ends true 4 (neg 4 ∷ []))
    ∷ once "('/8''/-2'/;)" (ends true 4 (neg 4 ∷ []))
    ∷ once "('/-8''/-2'/;)" (ends true 4 (pos 4 ∷ []))
    -- between -1 and 1
    ∷ once "('/1''/2'/;)" (ends true 4 (pos 0 ∷ []))
    ∷ once "('/-1''/2'/;)" (ends true 4 (neg 1 ∷ []))
    ∷ once "('/1''/-2'/;)" (ends true 4 (neg 1 ∷ []))
    ∷ once "('/-1''/-2'/;)" (ends true 4 (pos 0 ∷ []))
    ∷ once "('/0''/2'/;)" (ends true 4 (pos 0 ∷ []))
    ∷ once "('/0''/-2'/;)" (ends true 4 (pos 0 ∷ []))
    -- the ends of the range by 1 and -1, 1 and -1 by them, and they by each other
    ∷ once "('/999999999''/1'/;)" (ends true 4 (pos 999999999 ∷ []))
    ∷ once "('/-999999999''/1'/;)" (ends true 4 (neg 999999999 ∷ []))
    ∷ once "('/999999999''/-1'/;)" (ends true 4 (neg 999999999 ∷ []))
    ∷ once "('/-999999999''/-1'/;)" (ends true 4 (pos 999999999 ∷ []))
    ∷ once "('/1''/999999999'/;)" (ends true 4 (pos 0 ∷ []))
    ∷ once "('/-1''/999999999'/;)" (ends true 4 (neg 1 ∷ []))
    ∷ once "('/1''/-999999999'/;)" (ends true 4 (neg 1 ∷ []))
    ∷ once "('/-1''/-999999999'/;)" (ends true 4 (pos 0 ∷ []))
    ∷ once "('/999999999''/999999999'/;)" (ends true 4 (pos 1 ∷ []))
    ∷ once "('/-999999999''/999999999'/;)" (ends true 4 (neg 1 ∷ []))
    ∷ once "('/999999999''/-999999999'/;)" (ends true 4 (neg 1 ∷ []))
    ∷ once "('/-999999999''/-999999999'/;)" (ends true 4 (pos 1 ∷ []))
    ∷ once "('/-999999999''/999999998'/;)" (ends true 4 (neg 2 ∷ []))
    ∷ once "('/-999999999''/2'/;)" (ends true 4 (neg 500000000 ∷ []))
    -- "`N` top negative, `0` top zero, `J` the two top values equal: these remove nothing."
    ∷ once "('/-1'N;)" (ends true 3 (neg 1 ∷ []))
    ∷ once "('/0'N;)" (ends false 3 (pos 0 ∷ []))
    ∷ once "('/1'N;)" (ends false 3 (pos 1 ∷ []))
    ∷ once "('/0'0;)" (ends true 3 (pos 0 ∷ []))
    ∷ once "('/1'0;)" (ends false 3 (pos 1 ∷ []))
    ∷ once "('/-1'0;)" (ends false 3 (neg 1 ∷ []))
    ∷ once "('/3''/4''/4'J;)" (ends true 5 (pos 3 ∷ pos 4 ∷ pos 4 ∷ []))
    ∷ once "('/4''/4''/3'J;)" (ends false 5 (pos 4 ∷ pos 4 ∷ pos 3 ∷ []))
    ∷ once "('/4''/5'J;)" (ends false 4 (pos 4 ∷ pos 5 ∷ []))
    ∷ once "('/4''/-4'J;)" (ends false 4 (pos 4 ∷ neg 4 ∷ []))
    -- "`Fk` pushes variable k; `Sk` stores the top and keeps it.": which variable each digit is
    ∷ once "('/10'S0L'/1'S1L'/2'S2L'/3'S3L'/4'S4L'/5'S5L'/6'S6L'/7'S7L'/8'S8L'/9'S9L;)"
    (keeps (pos 10 ∷ pos 1 ∷ pos 2 ∷ pos 3 ∷ pos 4 ∷ pos 5 ∷ pos 6 ∷ pos 7 ∷ pos 8 ∷ pos 9 ∷ []) (ends true 31 []))
    ∷ once "('/3'S0'/4'S9F0F9F1;)" (keeps (pos 3 ∷ zeros 8 ++ pos 4 ∷ []) (ends true 8 (pos 3 ∷ pos 4 ∷ pos 3 ∷ pos 4 ∷ pos 0 ∷ [])))
    -- "`I` pushes the next input."
    ∷ fed (pos 5 ∷ neg 7 ∷ []) "(II;)" (took 2 (ends true 3 (pos 5 ∷ neg 7 ∷ [])))
    ∷ fed (pos 5 ∷ neg 7 ∷ []) "(I;)" (took 1 (ends true 2 (pos 5 ∷ [])))
    -- Document 02, U6: "`O` shall write units, a point and two digits of cents, right-justified in 14 columns: 5 is `0.05`, -5 is `-0.05`, -1250 is
    -- `-12.50`, 0 is `0.00`"
    ∷ printing 14 "('/5'O;)" (wrote "          0.05" (ends true 3 (pos 5 ∷ [])))
    ∷ printing 14 "('/-5'O;)" (wrote "         -0.05" (ends true 3 (neg 5 ∷ [])))
    ∷ printing 14 "('/-1250'O;)" (wrote "        -12.50" (ends true 3 (neg 1250 ∷ [])))
    ∷ printing 14 "('/0'O;)" (wrote "          0.00" (ends true 3 (pos 0 ∷ [])))
    -- next to where the digits of cents, the units and their digits change
    ∷ printing 14 "('/1'O;)" (wrote "          0.01" (ends true 3 (pos 1 ∷ [])))
    ∷ printing 14 "('/-1'O;)" (wrote "         -0.01" (ends true 3 (neg 1 ∷ [])))
    ∷ printing 14 "('/9'O;)" (wrote "          0.09" (ends true 3 (pos 9 ∷ [])))
    ∷ printing 14 "('/10'O;)" (wrote "          0.10" (ends true 3 (pos 10 ∷ [])))
    ∷ printing 14 "('/-10'O;)" (wrote "         -0.10" (ends true 3 (neg 10 ∷ [])))
    ∷ printing 14 "('/99'O;)" (wrote "          0.99" (ends true 3 (pos 99 ∷ [])))
    ∷ printing 14 "('/-99'O;)" (wrote "         -0.99" (ends true 3 (neg 99 ∷ [])))
    ∷ printing 14 "('/100'O;)" (wrote "          1.00" (ends true 3 (pos 100 ∷ [])))
    ∷ printing 14 "('/-100'O;)" (wrote "         -1.00" (ends true 3 (neg 100 ∷ [])))
    ∷ printing 14 "('/101'O;)" (wrote "          1.01" (ends true 3 (pos 101 ∷ [])))
    ∷ printing 14 "('/999'O;)" (wrote "          9.99" (ends true 3 (pos 999 ∷ [])))
    ∷ printing 14 "('/1000'O;)" (wrote "         10.00" (ends true 3 (pos 1000 ∷ [])))
    ∷ printing 14 "('/-1000'O;)" (wrote "        -10.00" (ends true 3 (neg 1000 ∷ [])))
    ∷ printing 14 "('/1250'O;)" (wrote "         12.50" (ends true 3 (pos 1250 ∷ [])))
    -- all digits, and the ends of the range
    ∷ printing 14 "('/987654321'O;)" (wrote "    9876543.21" (ends true 3 (pos 987654321 ∷ [])))
    ∷ printing 14 "('/999999999'O;)" (wrote "    9999999.99" (ends true 3 (pos 999999999 ∷ [])))
    ∷ printing 14 "('/-999999999'O;)" (wrote "   -9999999.99" (ends true 3 (neg 999999999 ∷ [])))
    -- "`X` a newline; a print writes its bytes"
    ∷ printing 1 "(X;)" (wrote "\n" (ends true 2 []))
    ∷ printing 9 "(''a ~'''b';)" (wrote "a ~b" (ends true 3 []))
    ∷ printing 0 "(''';)" (ends true 2 [])
    ∷ printing 20 "('/-5'O''ab'XL;)" (wrote "         -0.05ab\n" (ends true 6 []))
    ∷ []

-- ── slips ───────────────────────────────────────────────────────────────────────────────────────

-- what is read where `O` has written, and what is not read
abbrev pub slips : List Example
slips =
    -- in 14 columns, as `O` writes them
    says "          0.05" (pos 5)
    ∷ says "         -0.05" (neg 5)
    ∷ says "        -12.50" (neg 1250)
    ∷ says "          0.00" (pos 0)
    ∷ says "    9999999.99" (pos 999999999)
    ∷ says "   -9999999.99" (neg 999999999)
    -- without blanks, and in another order of digits
    ∷ says "1.23" (pos 123)
    ∷ says "-3.21" (neg 321)
    ∷ says "100.10" (pos 10010)
    -- a zero more, and minus zero
    ∷ says "00.05" (pos 5)
    ∷ says "-0.00" (pos 0)
    -- no units, no point, a point that is another byte, one digit of cents, three, none
    ∷ map says_none (".05" ∷ "-.05" ∷ "5" ∷ "005" ∷ "0,05" ∷ "0 05" ∷ "0.5" ∷ "0.050" ∷ "0." ∷ [])
    -- a byte that is no digit in the units or the cents, a blank within or behind, two signs, another sign, a sign alone, nothing
    ++ map says_none ("0x.05" ∷ "0/.05" ∷ "0:.05" ∷ "0.x5" ∷ "0.5x" ∷ "0.-5" ∷ "- 0.05" ∷ "0 .05" ∷ "0.05 " ∷ "--0.05" ∷ "+0.05" ∷ " " ∷ "" ∷ "-" ∷ [])

-- ── segments, counters and calls ────────────────────────────────────────────────────────────────

-- where a run goes from mark to mark, and its steps
abbrev pub control : List Example
control =
    -- "Reaching `;` ends true, `:` starts the expression again, `)` ends false."
    once "('/1';'/2')" (ends true 2 (pos 1 ∷ []))
    ∷ once "('/1')" (ends false 2 (pos 1 ∷ []))
    ∷ within 4 "('/1':'/2')" (halts 20 4 (pos 1 ∷ pos 1 ∷ []))
    -- "A false predicate goes to the next segment; in the last segment it ends the expression true"
    ∷ once "('/5'N(A;)z+$1$;'/1';'/2';)" (ends true 4 (pos 5 ∷ pos 1 ∷ []))
    ∷ once "('/5'N:'/1')" (ends false 4 (pos 5 ∷ pos 1 ∷ []))
    ∷ once "('/5'N'/1')" (ends true 2 (pos 5 ∷ []))
    ∷ once "('/-5'N)" (ends false 3 (neg 5 ∷ []))
    -- "An inner expression is a predicate with that truth."
    ∷ once "(('/1';)'/2';'/3';)" (ends true 4 (pos 1 ∷ pos 2 ∷ []))
    ∷ once "(('/1')'/2';'/3';)" (ends true 4 (pos 1 ∷ pos 3 ∷ []))
    ∷ once "(('/1'N)'/2';'/3';)" (ends true 4 (pos 1 ∷ pos 2 ∷ []))
    ∷ once "('/0'(0L'/1':'/2');)" (ends false 9 (pos 1 ∷ pos 2 ∷ []))
    -- "A call is a predicate with the truth of the standing text." A call is a step, "The return itself is none"
    ∷ both "(b'/2';'/3';)" "('/1';)" (ends true 5 (pos 1 ∷ pos 2 ∷ []))
    ∷ both "(b'/2';'/3';)" "('/1')" (ends true 5 (pos 1 ∷ pos 3 ∷ []))
    ∷ both "(b'/2')" "('/1'N)" (ends false 5 (pos 1 ∷ pos 2 ∷ []))
    ∷ both "(b)" "()" (ends true 2 [])
    -- "A counter of n is true n times, then false and full again"
    ∷ once "($1$'/1':'/2';)" (ends true 6 (pos 1 ∷ pos 2 ∷ []))
    ∷ once "(($2$'/1':;)$1$:;)" (ends true 20 (pos 1 ∷ pos 1 ∷ pos 1 ∷ pos 1 ∷ []))
    -- "a counter left partway goes on from there, shared by all recursive entries"
    ∷ once "('/1'$3$t;;)" (ends true 15 (pos 1 ∷ pos 1 ∷ pos 1 ∷ pos 1 ∷ []))
    -- "A count belongs to its letter and order.": two orders in one letter, one order in two letters
    ∷ once "($1$'/1'$1$'/2';)" (ends true 5 (pos 1 ∷ pos 2 ∷ []))
    ∷ both "($1$b'/1';)" "($1$;)" (ends true 6 (pos 1 ∷ []))
    -- the last order of one letter and the first of the next; the last of all
    ∷ calling 1000 "y" (counters 16 ++ bytes "z;)") "z" (bytes "($1$;)") (ends true 20 [])
    ∷ calling 1000 "z" (bytes "(" ++ times 15 (bytes "$9$") ++ bytes "$1$:;)") "y" [] (ends true 34 [])
    ∷ []

-- ── stops ───────────────────────────────────────────────────────────────────────────────────────

-- a text whose first mark is the byte b, over no values
abbrev empty_at : ℕ → Example
empty_at b = trial (bytes "(" ++ b ∷ bytes ";)") 1000 [] 99 (halts 21 0 [])

-- a text that comes to the byte b over the one value 0
abbrev short_at : ℕ → Example
short_at b = trial (bytes "('/0'" ++ b ∷ bytes ";)") 1000 [] 0 (halts 21 1 (pos 0 ∷ []))

-- n values 1
abbrev ones : ℕ → List ℤ
ones n = replicate n (pos 1)

-- a text that pushes 64 values and goes on with s, run with the inputs i
abbrev over64 : List ℤ → String → Result → Example
over64 i s r = trial (bytes "('/1'" ++ times 63 (bytes "P") ++ bytes s) 1000 i 0 r

-- the numbers 20 to 28, what is left and counted where a run stops, and the order of stops
abbrev pub stops : List Example
stops =
    -- 20, "steps equal the allowance and another step is due"; none is due at the finish
    within 2 "('/5'N)" (ends true 2 (pos 5 ∷ []))
    ∷ within 1 "('/5'N)" (halts 20 1 (pos 5 ∷ []))
    ∷ within 1 "()" (ends false 1 [])
    ∷ within 0 "()" (halts 20 0 [])
    ∷ within 1 "(;)" (ends true 1 [])
    ∷ within 0 "(;)" (halts 20 0 [])
    ∷ within 0 "($1$)" (halts 20 0 [])
    ∷ calling 3 "a" (bytes "(b;)") "b" (bytes "(;)") (ends true 3 [])
    ∷ calling 2 "a" (bytes "(b;)") "b" (bytes "(;)") (halts 20 2 [])
    ∷ calling 1 "a" (bytes "(b;)") "b" (bytes "(;)") (halts 20 1 [])
    ∷ calling 0 "a" (bytes "(b;)") "b" (bytes "(;)") (halts 20 0 [])
    -- 20 before what stops the mark
    ∷ within 0 "(A;)" (halts 20 0 [])
    ∷ within 0 "(N;)" (halts 20 0 [])
    ∷ within 0 "(z;)" (halts 20 0 [])
    -- 21, "too few values"; before 24 and 26
    ∷ map empty_at (bytes "AMLPON0J+-*/")
    ++ map short_at (bytes "J+-*/")
    ++ once "(S1;)" (halts 21 0 [])
    ∷ once "(O;)" (halts 21 0 [])
    -- 22, "a push on 64": each mark that pushes; 25 before it; the input is not taken
    ∷ over64 [] ";)" (ends true 65 (ones 64))
    ∷ over64 [] "P;)" (halts 22 64 (ones 64))
    ∷ over64 [] "'/1';)" (halts 22 64 (ones 64))
    ∷ over64 [] "F1;)" (halts 22 64 (ones 64))
    ∷ over64 (pos 5 ∷ []) "I;)" (halts 22 64 (ones 64))
    ∷ over64 [] "I;)" (halts 25 64 (ones 64))
    -- 23, "result outside the values"
    ∷ once "('/999999998''/1'+;)" (ends true 4 (pos 999999999 ∷ []))
    ∷ once "('/999999999''/1'+;)" (halts 23 2 (pos 999999999 ∷ pos 1 ∷ []))
    ∷ once "('/-999999998''/1'-;)" (ends true 4 (neg 999999999 ∷ []))
    ∷ once "('/-999999999''/1'-;)" (halts 23 2 (neg 999999999 ∷ pos 1 ∷ []))
    ∷ once "('/333333333''/-3'*;)" (ends true 4 (neg 999999999 ∷ []))
    ∷ once "('/500000000''/2'*;)" (halts 23 2 (pos 500000000 ∷ pos 2 ∷ []))
    ∷ once "('/-999999999'P*;)" (halts 23 2 (neg 999999999 ∷ neg 999999999 ∷ []))
    ∷ once "('/-999999999'M;)" (ends true 3 (pos 999999999 ∷ []))
    ∷ once "('/-999999999'A;)" (ends true 3 (pos 999999999 ∷ []))
    ∷ once "('/999999999'M;)" (ends true 3 (neg 999999999 ∷ []))
    -- 24, after 21 and before 23
    ∷ once "('/1''/0'/;)" (halts 24 2 (pos 1 ∷ pos 0 ∷ []))
    ∷ once "('/0''/0'/;)" (halts 24 2 (pos 0 ∷ pos 0 ∷ []))
    ∷ once "('/0''/1'/;)" (ends true 4 (pos 0 ∷ []))
    -- 25, "no input"
    ∷ once "(I;)" (halts 25 0 [])
    ∷ fed (pos 5 ∷ []) "(II;)" (took 1 (halts 25 1 (pos 5 ∷ [])))
    -- 26, "the bytes of a print, `O` or `X` do not all fit": nothing of them is written
    ∷ printing 13 "('/-5'O;)" (halts 26 1 (neg 5 ∷ []))
    ∷ printing 28 "('/-5'O'/70'O;)" (wrote "         -0.05          0.70" (ends true 5 (neg 5 ∷ pos 70 ∷ [])))
    ∷ printing 27 "('/-5'O'/70'O;)" (wrote "         -0.05" (halts 26 3 (neg 5 ∷ pos 70 ∷ [])))
    ∷ printing 0 "(X;)" (halts 26 0 [])
    ∷ printing 2 "(''ab';)" (wrote "ab" (ends true 2 []))
    ∷ printing 1 "(''ab';)" (halts 26 0 [])
    ∷ printing 3 "(''ab'''cd';)" (wrote "ab" (halts 26 1 []))
    ∷ printing 16 "('/-5'O''ab'XL;)" (wrote "         -0.05ab" (halts 26 3 (neg 5 ∷ [])))
    -- 27, "call of a cleared letter"
    ∷ once "(p;)" (halts 27 0 [])
    ∷ both "(b;)" "('/1'c;)" (halts 27 2 (pos 1 ∷ []))
    -- 28, "a 101st nested call", after 27
    ∷ once "($100$t)" (ends true 251 [])
    ∷ once "($101$t)" (halts 28 201 [])
    ∷ once "($100$t;z)" (halts 27 201 [])
    -- a stop in a callee, and what the run holds there
    ∷ both "('/4'S2b;)" "(LL;)" (keeps (zeros 2 ++ pos 4 ∷ zeros 7) (halts 21 4 []))
    ∷ []

-- ── letters for stewards ────────────────────────────────────────────────────────────────────────

-- Document 02, U7: "34 steward call, an ending, a cashier's run calls one, after 27 and before 28". The letter `a` is run, by a cashier, 0, or a steward, 1.
abbrev pub guardings : List Example
guardings =
    -- a call of an open letter; of a steward's; the same by a steward
    guarded 0 1000 [] (("a", bytes "(b;)") ∷ ("b", bytes "(;)") ∷ []) "a" (ends true 3 [])
    ∷ guarded 0 1000 ("b" ∷ []) (("a", bytes "(b;)") ∷ ("b", bytes "(;)") ∷ []) "a" (halts 34 0 [])
    ∷ guarded 1 1000 ("b" ∷ []) (("a", bytes "(b;)") ∷ ("b", bytes "(;)") ∷ []) "a" (ends true 3 [])
    ∷ guarded 1 1000 [] (("a", bytes "(b;)") ∷ ("b", bytes "(;)") ∷ []) "a" (ends true 3 [])
    -- "A mark that stops a run changes nothing and is not counted."
    ∷ guarded 0 1000 ("b" ∷ []) (("a", bytes "('/4'S2b;)") ∷ ("b", bytes "(L;)") ∷ []) "a" (keeps (zeros 2 ++ pos 4 ∷ zeros 7) (halts 34 2 (pos 4 ∷ [])))
    -- a level further down; after a return; both levels by a steward
    ∷ guarded 0 1000 ("c" ∷ []) (("a", bytes "(b;)") ∷ ("b", bytes "('/1'c;)") ∷ ("c", bytes "(;)") ∷ []) "a" (halts 34 2 (pos 1 ∷ []))
    ∷ guarded 0 1000 ("c" ∷ []) (("a", bytes "(bc;)") ∷ ("b", bytes "('/1';)") ∷ ("c", bytes "(;)") ∷ []) "a" (halts 34 3 (pos 1 ∷ []))
    ∷ guarded 1 1000 ("b" ∷ "c" ∷ []) (("a", bytes "(b;)") ∷ ("b", bytes "('/1'c;)") ∷ ("c", bytes "('/2';)") ∷ []) "a" (ends true 7 (pos 1 ∷ pos 2 ∷ []))
    -- the mark is that of the letter called, not of the one that calls, nor of a neighbour
    ∷ guarded 0 1000 ("a" ∷ "c" ∷ []) (("a", bytes "(b;)") ∷ ("b", bytes "(;)") ∷ []) "a" (ends true 3 [])
    -- the first and the last letter
    ∷ guarded 0 1000 ("a" ∷ []) (("z", bytes "(a;)") ∷ ("a", bytes "(;)") ∷ []) "z" (halts 34 0 [])
    ∷ guarded 0 1000 ("z" ∷ []) (("a", bytes "(z;)") ∷ ("z", bytes "(;)") ∷ []) "a" (halts 34 0 [])
    -- after 20 and 27, before 28
    ∷ guarded 0 0 ("b" ∷ []) (("a", bytes "(b;)") ∷ ("b", bytes "(;)") ∷ []) "a" (halts 20 0 [])
    ∷ guarded 0 1000 ("b" ∷ []) (("a", bytes "(b;)") ∷ []) "a" (halts 27 0 [])
    ∷ guarded 0 1000 ("z" ∷ []) (("t", bytes "($100$t;z)") ∷ ("z", bytes "(;)") ∷ []) "t" (halts 34 201 [])
    ∷ guarded 1 1000 ("z" ∷ []) (("t", bytes "($100$t;z)") ∷ ("z", bytes "(;)") ∷ []) "t" (halts 28 201 [])
    -- a call that is not reached stops nothing
    ∷ guarded 0 1000 ("b" ∷ []) (("a", bytes "(;b)") ∷ ("b", bytes "(;)") ∷ []) "a" (ends true 1 [])
    ∷ []
