-- Worked examples of reports, from the bytes of the texts on. Every mark is written out here and none is taken from a definition.
use Rattle.std.specs.Prelude.{◌≡◌, ℕ, zero, suc, ◌+◌, ◌%◌, Bool, List, [], ◌∷◌, ◌++◌, map, ℤ, pos, replicate, eqb}
use Prim.Native.Char.{Char, code}
use Prim.Native.String.{String}
use Rattle.language.specs.declared.Table.{Table}
use Rattle.language.specs.Limits.{max_letters}
use Rattle.language.specs.Reading.{read, expr_of}
use Rattle.language.specs.Layout.{table_of}
use Rattle.language.specs.Trials.{bytes, neg}
use Rattle.book.specs.Calls.{defines, withdraws}
use Rattle.book.specs.Store.{Store, store_of, fresh_store, store_call}
use Rattle.book.specs.Sessions.{after}
use Rattle.reach.specs.Reach.{flags_by, spread_by, most_calls, Report, reach}

-- ── how a report is shown ───────────────────────────────────────────────────────────────────────

-- the bytes of the letters whose marks are 1, from byte b on; any other mark but 0 is shown as `?`
abbrev pub letters_from : ℕ → List ℕ → List ℕ
letters_from b [] = []
letters_from b (zero ∷ m) = letters_from (suc b) m
letters_from b (suc zero ∷ m) = b ∷ letters_from (suc b) m
letters_from b (suc (suc n) ∷ m) = 63 ∷ letters_from (suc b) m

-- what a call answers: its number, and the letters that the two arrays then mark
pub record Shown : Type 0 where
  pub number : ℕ
  pub reached : List ℕ
  pub missing : List ℕ

abbrev pub shown : Report → Shown
shown x = record { number = x.number; reached = letters_from 97 x.reached; missing = letters_from 97 x.missing }

-- number, letters reached, letters missing
abbrev pub says : ℕ → String → String → Shown
says n r m = record { number = n; reached = bytes r; missing = bytes m }

-- the report of letter l; before the call three marks of one array hold 7 and two of the other
abbrev pub of : Store → ℕ → Shown
of st l = shown (reach st l (replicate 3 7) (replicate 2 7))

-- each report, with what it says
abbrev pub Hold : {A : Type 0} → List (A × A) → Type 0
Hold [] = Unit {0}
Hold ((x, y) ∷ l) = (x ≡ y) × Hold l

-- ── stores of texts ─────────────────────────────────────────────────────────────────────────────

-- the tables of these texts, of letter a, b and so on; of a text that is refused, as the empty one is, that of a cleared letter
abbrev pub tables_of : List String → List Table
tables_of [] = []
tables_of (t ∷ ts) = table_of (expr_of (read (bytes t))) ∷ tables_of ts

-- their cells, letter after letter
abbrev pub cells_of : List Table → List ℤ
cells_of [] = []
cells_of (t ∷ ts) = t.cells ++ cells_of ts

-- the report of letter l of a store with these texts
abbrev pub texts : List String → Char → Shown
texts ts l = of (store_of (cells_of (tables_of ts)) (map (λ (t : Table). t.used) (tables_of ts)) [] []) (code l)

-- reports over texts. proofs/Examples `reports-hold`
abbrev pub reports : List (Shown × Shown)
reports =
    -- a letter that calls none, and one that calls itself
    (texts ("(I;)" ∷ []) "a", says 0 "a" "")
    ∷ (texts ("(a;)" ∷ []) "a", says 0 "a" "")
    -- a circle, and a letter without a text
    ∷ (texts ("(b;)" ∷ "(ac;)" ∷ []) "a", says 0 "abc" "c")
    ∷ (texts ("(b;)" ∷ "(ac;)" ∷ []) "b", says 0 "abc" "c")
    -- "through however many others"
    ∷ (texts ("(d;)" ∷ "" ∷ "(z;)" ∷ "(c;)" ∷ []) "a", says 0 "acdz" "z")
    ∷ (texts ("(d;)" ∷ "(a)" ∷ "()" ∷ "(c;)" ∷ []) "a", says 0 "acd" "")
    -- a call that no run comes to is a call mark
    ∷ (texts ("(;b)" ∷ []) "a", says 0 "ab" "b")
    -- the bytes of a print, a comment, a constant's value, a counter's number: `'/-100'` and `$101$` hold the codes of `d` and `e`
    ∷ (texts ("(''bc' \"f\" '/-100' ($101$ g);)" ∷ []) "a", says 0 "ag" "g")
    -- "missing (reached, without a text)": other letters without a text are not
    ∷ (texts ("(c;)" ∷ "" ∷ "(;)" ∷ []) "a", says 0 "ac" "")
    -- refused: both arrays are as they were
    ∷ (texts ("(b;)" ∷ []) "b", says 10 "???" "??")
    ∷ (texts ("(b;)" ∷ []) "`", says 1 "???" "??")
    ∷ (texts ("(b;)" ∷ []) "{", says 1 "???" "??")
    ∷ []

-- The calls of a text that was replaced, and of one that was withdrawn, are gone: letter a calls b, and then c; and b, which has called c, is withdrawn.
-- proofs/Examples `changes-hold`
abbrev pub changes : List (Shown × Shown)
changes =
    (of (after store_call fresh_store (defines 97 0 (bytes "(b;)") ∷ defines 97 0 (bytes "(c;)") ∷ [])) 97, says 0 "ac" "c")
    ∷ (of (after store_call fresh_store (defines 97 0 (bytes "(b;)") ∷ defines 98 1 (bytes "(c;)") ∷ withdraws 98 ∷ [])) 97, says 0 "ab" "b")
    ∷ []

-- ── 26 letters in a chain ───────────────────────────────────────────────────────────────────────

-- the letters that are reached from letter a, where f says which calls which
abbrev pub follows : (ℕ → ℕ → Bool) → ℕ → List ℕ
follows f a = letters_from 97 (spread_by f most_calls (flags_by max_letters (λ b. eqb a b)))

-- each letter calls the next; each calls the one before; each the next but one, and y and z the first two. proofs/Examples `chains-hold`
abbrev pub chains : List (List ℕ × List ℕ)
chains =
    (follows (λ a b. eqb (suc a) b) 0, bytes "abcdefghijklmnopqrstuvwxyz")
    ∷ (follows (λ a b. eqb (suc a) b) 2, bytes "cdefghijklmnopqrstuvwxyz")
    ∷ (follows (λ a b. eqb a (suc b)) 25, bytes "abcdefghijklmnopqrstuvwxyz")
    ∷ (follows (λ a b. eqb a (suc b)) 2, bytes "abc")
    ∷ (follows (λ a b. eqb ((a + 2) % 26) b) 25, bytes "bdfhjlnprtvxz")
    ∷ []

-- ── any store ───────────────────────────────────────────────────────────────────────────────────

-- the cells given, and then n that hold 0: 250 in all
abbrev pub padded : List ℤ → ℕ → List ℤ
padded l n = l ++ replicate n (pos 0)

-- letter a with `(b;)`, and letter b with the cells given, then n that hold 0, u of them used; letters from c on have no text; the permissions k and the
-- variables v
abbrev pub marked : List ℤ → ℕ → ℕ → List ℕ → List ℤ → Store
marked l n u k v =
    store_of (padded (pos 2000 ∷ neg 98 ∷ pos 5 ∷ pos 6 ∷ pos 0 ∷ pos 1 ∷ []) 244 ++ padded l n) (6 ∷ u ∷ []) k v

-- with every letter open
abbrev pub beside : List ℤ → ℕ → ℕ → List ℤ → Store
beside l n u v = marked l n u [] v

-- the same where a's text is `(;)`, which calls nothing
abbrev pub apart : List ℤ → ℕ → ℕ → Store
apart l n u = store_of (padded (pos 2000 ∷ pos 4 ∷ pos 0 ∷ pos 1 ∷ []) 246 ++ padded l n) (4 ∷ u ∷ []) [] []

-- `(c)`: code, false, the last `)`, the last cell
abbrev pub calls_c : List ℤ
calls_c = pos 2000 ∷ neg 99 ∷ pos 5 ∷ pos 0 ∷ pos 1 ∷ []

-- reports of letter a of any store. proofs/Examples `strays-hold`
abbrev pub strays : List (Shown × Shown)
strays =
    (of (beside calls_c 245 5 []) 97, says 0 "abc" "c")
    -- cell 1, and cells past the used ones, say nothing
    ∷ (of (beside (neg 100 ∷ neg 99 ∷ pos 5 ∷ pos 0 ∷ pos 1 ∷ neg 100 ∷ pos 5 ∷ []) 243 5 []) 97, says 0 "abc" "c")
    -- nor do the cells of a letter whose count is 0
    ∷ (of (beside calls_c 245 0 []) 97, says 0 "ab" "b")
    -- a transfer and a false exit are not followed: all marks are met, `d` past the transfer to the last cell
    ∷ (of (beside (pos 2000 ∷ pos 6 ∷ neg 100 ∷ pos 6 ∷ pos 0 ∷ pos 1 ∷ []) 244 6 []) 97, says 0 "abd" "d")
    -- 29: the last cell is not 1, the one before not 0, a mark reaches into them, a false outside, no code; in a table that is reached or not
    ∷ (of (beside (pos 2000 ∷ neg 99 ∷ pos 5 ∷ pos 0 ∷ pos 2 ∷ []) 245 5 []) 97, says 29 "???" "??")
    ∷ (of (beside (pos 2000 ∷ neg 99 ∷ pos 5 ∷ pos 2 ∷ pos 1 ∷ []) 245 5 []) 97, says 29 "???" "??")
    ∷ (of (beside (pos 2000 ∷ neg 99 ∷ pos 0 ∷ pos 1 ∷ []) 246 4 []) 97, says 29 "???" "??")
    ∷ (of (beside (pos 2000 ∷ neg 99 ∷ pos 6 ∷ pos 0 ∷ pos 1 ∷ []) 245 5 []) 97, says 29 "???" "??")
    ∷ (of (beside (pos 2000 ∷ neg 66 ∷ pos 5 ∷ pos 0 ∷ pos 1 ∷ []) 245 5 []) 97, says 29 "???" "??")
    ∷ (of (apart (pos 2000 ∷ neg 66 ∷ pos 5 ∷ pos 0 ∷ pos 1 ∷ []) 245 5) 97, says 29 "???" "??")
    -- damage that no run comes to, after a transfer to the last cell
    ∷ (of (apart (pos 2000 ∷ pos 5 ∷ neg 66 ∷ pos 0 ∷ pos 1 ∷ []) 245 5) 97, says 29 "???" "??")
    -- a steward's letter is reached as any other
    ∷ (of (marked calls_c 245 5 (0 ∷ 1 ∷ 1 ∷ []) []) 97, says 0 "abc" "c")
    -- "13, 1, 10 in that order, then 29": a bad count beside a damaged table, a bad variable, a bad mark, no letter, a letter without a text
    ∷ (of (apart calls_c 245 2) 96, says 13 "???" "??")
    ∷ (of (beside (pos 2000 ∷ neg 66 ∷ pos 5 ∷ pos 0 ∷ pos 1 ∷ []) 245 5 (pos 1000000000 ∷ [])) 97, says 13 "???" "??")
    ∷ (of (marked (pos 2000 ∷ neg 66 ∷ pos 5 ∷ pos 0 ∷ pos 1 ∷ []) 245 5 (0 ∷ 0 ∷ 2 ∷ []) []) 96, says 13 "???" "??")
    ∷ (of (apart (pos 2000 ∷ neg 66 ∷ pos 5 ∷ pos 0 ∷ pos 1 ∷ []) 245 5) 96, says 1 "???" "??")
    ∷ (of (apart (pos 2000 ∷ neg 66 ∷ pos 5 ∷ pos 0 ∷ pos 1 ∷ []) 245 5) 99, says 10 "???" "??")
    ∷ []
