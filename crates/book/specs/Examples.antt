-- Worked examples of calls, from the bytes of the texts on: lists of calls of book and store, and single calls of stores whose cells, counts, marks or
-- variables are damaged. Every figure is written out here and none is taken from a definition.
use Rattle.std.specs.Prelude.{◌≡◌, ℕ, zero, suc, ◌-◌, true, false, List, [], ◌∷◌, ◌++◌, map, ℤ, pos, length, take, replicate}
use Prim.Native.Char.{Char, code}
use Prim.Native.String.{String}
use Rattle.language.specs.Roles.{permission_at}
use Rattle.language.specs.Trials.{bytes, times, neg, zeros, fresh, Result, simply, ends, halts, took, keeps, wrote}
use Rattle.book.specs.Calls.{Call, defines, withdraws, running}
use Rattle.book.specs.Replies.{Reply}
use Rattle.book.specs.Book.{fresh_book, book_call}
use Rattle.book.specs.Store.{Store, store_of, fresh_store, entry_at, store_call}
use Rattle.book.specs.Refusals.{is_refusal}
use Rattle.book.specs.Sessions.{answers, after}

-- ── calls ───────────────────────────────────────────────────────────────────────────────────────

-- list places that hold 7
abbrev sevens : ℕ → List ℤ
sevens n = replicate n (pos 7)

-- define letter l as the text t, with the permission k
abbrev D' : Char → ℕ → String → Call
D' l k t = defines (code l) k (bytes t)

-- the same as an open letter
abbrev D : Char → String → Call
D l t = D' l 0 t

-- the same as a steward's
abbrev G : Char → String → Call
G l t = D' l 1 t

-- withdraw letter l
abbrev X : Char → Call
X l = withdraws (code l)

-- a caller with the role k runs letter l with allowance n and inputs i, lending the list places p
abbrev R'' : ℕ → Char → ℕ → List ℤ → List ℤ → Call
R'' k l n i p = running (code l) k n i p []

-- the same by a cashier
abbrev R' : Char → ℕ → List ℤ → List ℤ → Call
R' l n i p = R'' 0 l n i p

-- the same lending 64 places
abbrev R : Char → ℕ → List ℤ → Call
R l n i = R' l n i (sevens 64)

-- the same by a steward
abbrev B : Char → ℕ → List ℤ → Call
B l n i = R'' 1 l n i (sevens 64)

-- a cashier runs letter l lending the output bytes o
abbrev W : Char → String → Call
W l o = running (code l) 0 1000 [] (sevens 64) (bytes o)

-- an answer's number, truth, steps, values with the bottom first, inputs taken, variables, and written bytes
abbrev pub result_of : Reply → Result
result_of r =
    record {
      number = r.report.number;
      truth = r.report.truth;
      steps = r.report.steps;
      values = take r.report.height r.list;
      taken = r.report.taken;
      variables = r.variables;
      printed = take r.report.written r.output;
    }

-- "its number, every other figure 0 and truth false"
abbrev plainly : ℕ → Result
plainly n = simply n false 0 []

-- the store's variables where only variable 1 is not 0
abbrev second : ℕ → List ℤ
second n = pos 0 ∷ pos n ∷ zeros 8

-- ── lists of calls ──────────────────────────────────────────────────────────────────────────────

-- calls from the fresh store, each with its result
pub record Session : Type 0 where
  pub calls : List Call
  pub results : List Result

-- what the book and the store give
abbrev pub given : Session → List Result × List Result
given x = (map result_of (answers book_call fresh_book x.calls), map result_of (answers store_call fresh_store x.calls))

-- what they should give
abbrev pub due : Session → List Result × List Result
due x = (x.results, x.results)

-- every session gives what it should
abbrev pub Hold : List Session → Type 0
Hold xs = map given xs ≡ map due xs

-- examples of what book and store take from one place
abbrev pub sessions : List Session
sessions =
    -- a withdrawn letter pays no more through another letter; 10, "withdraw or run of a cleared letter"
    record {
      calls = D "p" "('/5';)" ∷ D "q" "(p;)" ∷ R "q" 9 [] ∷ X "p" ∷ R "q" 9 [] ∷ R "p" 9 [] ∷ X "p" ∷ X "1" ∷ [];
      results = plainly 0 ∷ plainly 0 ∷ ends true 4 (pos 5 ∷ []) ∷ plainly 0 ∷ halts 27 0 [] ∷ plainly 10 ∷ plainly 10 ∷ plainly 1 ∷ [];
    }
    -- "Define replaces a letter's table."; a refused define leaves it
    ∷ record {
      calls = D "p" "('/5';)" ∷ D "p" "('/6')" ∷ R "p" 9 [] ∷ D "p" "(" ∷ R "p" 9 [] ∷ [];
      results = plainly 0 ∷ plainly 0 ∷ ends false 2 (pos 6 ∷ []) ∷ plainly 7 ∷ ends false 2 (pos 6 ∷ []) ∷ [];
    }
    -- a finished run keeps its variables, a stopped one does not
    ∷ record {
      calls = D "s" "(IS1L;)" ∷ D "t" "('/9'S1:)" ∷ D "f" "(F1;)" ∷ R "s" 9 (pos 7 ∷ pos 8 ∷ []) ∷ R "t" 4 [] ∷ R "f" 9 [] ∷ X "f" ∷ X "f" ∷ [];
      results =
          plainly 0 ∷ plainly 0 ∷ plainly 0 ∷ keeps (second 7) (took 1 (ends true 4 [])) ∷ keeps (second 7) (halts 20 4 (pos 9 ∷ pos 9 ∷ []))
          ∷ keeps (second 7) (ends true 2 (pos 7 ∷ [])) ∷ keeps (second 7) (plainly 0) ∷ keeps (second 7) (plainly 10) ∷ [];
    }
    -- all counters are full when a run starts
    ∷ record {
      calls = D "c" "('/1'$3$c;;)" ∷ R "c" 99 [] ∷ R "c" 99 [] ∷ [];
      results =
          plainly 0 ∷ ends true 15 (pos 1 ∷ pos 1 ∷ pos 1 ∷ pos 1 ∷ []) ∷ ends true 15 (pos 1 ∷ pos 1 ∷ pos 1 ∷ pos 1 ∷ []) ∷ [];
    }
    -- the first and the last letter, each with its own table; 1, "not `a` to `z`"
    ∷ record {
      calls = D "z" "('/26';)" ∷ D "a" "(z'/1';)" ∷ D "`" "()" ∷ D "{" "()" ∷ R "a" 9 [] ∷ R "z" 9 [] ∷ X "`" ∷ X "{" ∷ R "`" 9 [] ∷ R "{" 9 [] ∷ [];
      results =
          plainly 0 ∷ plainly 0 ∷ plainly 1 ∷ plainly 1 ∷ ends true 5 (pos 26 ∷ pos 1 ∷ []) ∷ ends true 2 (pos 26 ∷ [])
          ∷ plainly 1 ∷ plainly 1 ∷ plainly 1 ∷ plainly 1 ∷ [];
    }
    -- "for define 2 and the text left to right", each after 1
    ∷ record {
      calls =
          defines (code "1") 0 (times 257 (bytes "#")) ∷ defines (code "a") 0 (times 257 (bytes "#")) ∷ D "1" "#" ∷ D "a" "#"
          ∷ D "a" "(((((((((((" ∷ D "a" "($0$)" ∷ D "a" "('/x')" ∷ D "a" "" ∷ defines (code "a") 0 (bytes "(" ++ times 125 (bytes "N"))
          ∷ defines (code "a") 0 (bytes "(" ++ times 17 (bytes "$1$")) ∷ X "a" ∷ [];
      results =
          plainly 1 ∷ plainly 2 ∷ plainly 1 ∷ plainly 3 ∷ plainly 4 ∷ plainly 5 ∷ plainly 6 ∷ plainly 7 ∷ plainly 8 ∷ plainly 9 ∷ plainly 10 ∷ [];
    }
    -- "for run 10, 11, 12", each after 1
    ∷ record {
      calls =
          D "a" "(;)" ∷ R' "{" 9 (pos 1000000000 ∷ []) [] ∷ R' "b" 9 (pos 1000000000 ∷ []) [] ∷ R' "a" 9 (pos 1000000000 ∷ []) [] ∷ R' "a" 9 [] [] ∷ [];
      results = plainly 0 ∷ plainly 1 ∷ plainly 10 ∷ plainly 11 ∷ plainly 12 ∷ [];
    }
    -- 11, "an input outside the values", taken or not; 12, "not 64 places"
    ∷ record {
      calls =
          D "a" "(I;)" ∷ R "a" 9 (pos 999999999 ∷ []) ∷ R "a" 9 (neg 999999999 ∷ []) ∷ R "a" 9 (neg 1000000000 ∷ [])
          ∷ R "a" 9 (pos 1 ∷ pos 1000000000 ∷ []) ∷ R' "a" 9 (pos 1 ∷ []) (sevens 63) ∷ R' "a" 9 (pos 1 ∷ []) (sevens 65) ∷ R "a" 9 (pos 1 ∷ []) ∷ [];
      results =
          plainly 0 ∷ took 1 (ends true 2 (pos 999999999 ∷ [])) ∷ took 1 (ends true 2 (neg 999999999 ∷ [])) ∷ plainly 11
          ∷ plainly 11 ∷ plainly 12 ∷ plainly 12 ∷ took 1 (ends true 2 (pos 1 ∷ [])) ∷ [];
    }
    -- output bytes, finished, stopped and refused
    ∷ record {
      calls = D "w" "(''ab'''cd';)" ∷ W "w" "xxxxx" ∷ W "w" "xxx" ∷ W "w" "x" ∷ W "v" "x" ∷ [];
      results = plainly 0 ∷ wrote "abcd" (ends true 3 []) ∷ wrote "ab" (halts 26 1 []) ∷ halts 26 0 [] ∷ plainly 10 ∷ [];
    }
    ∷ []

-- document 02, U7: marks and roles
abbrev pub roles : List Session
roles =
    -- 33, "a cashier runs a steward letter"; "the role is remembered nowhere afterwards"
    record {
      calls = G "s" "('/5';)" ∷ R "s" 9 [] ∷ B "s" 9 [] ∷ R "s" 9 [] ∷ D "o" "('/6';)" ∷ B "o" 9 [] ∷ R "o" 9 [] ∷ R "s" 9 [] ∷ [];
      results =
          plainly 0 ∷ plainly 33 ∷ ends true 2 (pos 5 ∷ []) ∷ plainly 33 ∷ plainly 0 ∷ ends true 2 (pos 6 ∷ [])
          ∷ ends true 2 (pos 6 ∷ []) ∷ plainly 33 ∷ [];
    }
    -- "a mark, set by define": each accepted one sets it anew, a refused one leaves it
    ∷ record {
      calls =
          D "s" "(;)" ∷ R "s" 9 [] ∷ G "s" "(;)" ∷ R "s" 9 [] ∷ D "s" "(" ∷ R "s" 9 [] ∷ D' "s" 2 "(;)" ∷ R "s" 9 [] ∷ D "s" "(;)" ∷ R "s" 9 []
          ∷ G "s" "#" ∷ R "s" 9 [] ∷ [];
      results =
          plainly 0 ∷ ends true 1 [] ∷ plainly 0 ∷ plainly 33 ∷ plainly 7 ∷ plainly 33 ∷ plainly 35 ∷ plainly 33 ∷ plainly 0 ∷ ends true 1 []
          ∷ plainly 3 ∷ ends true 1 [] ∷ [];
    }
    -- a withdrawn letter: 10, for both; it is defined anew as any other
    ∷ record {
      calls = G "s" "(;)" ∷ X "s" ∷ R "s" 9 [] ∷ B "s" 9 [] ∷ X "s" ∷ D "s" "(;)" ∷ R "s" 9 [] ∷ [];
      results = plainly 0 ∷ plainly 0 ∷ plainly 10 ∷ plainly 10 ∷ plainly 10 ∷ plainly 0 ∷ ends true 1 [] ∷ [];
    }
    -- 34, "a cashier's run calls one", from the letter's next define on, through however many letters; its variables are not kept
    ∷ record {
      calls =
          D "a" "('/7'S1b;)" ∷ D "b" "(c;)" ∷ D "c" "('/1';)" ∷ R "a" 9 [] ∷ G "c" "('/2';)" ∷ R "a" 9 [] ∷ R "b" 9 [] ∷ B "b" 9 []
          ∷ D "a" "('/8'S1b;)" ∷ R "a" 9 [] ∷ B "a" 9 [] ∷ X "c" ∷ R "b" 9 [] ∷ [];
      results =
          plainly 0 ∷ plainly 0 ∷ plainly 0 ∷ keeps (second 7) (ends true 8 (pos 7 ∷ pos 1 ∷ [])) ∷ keeps (second 7) (plainly 0)
          ∷ keeps (second 7) (halts 34 3 (pos 7 ∷ [])) ∷ keeps (second 7) (halts 34 0 []) ∷ keeps (second 7) (ends true 4 (pos 2 ∷ []))
          ∷ keeps (second 7) (plainly 0) ∷ keeps (second 7) (halts 34 3 (pos 8 ∷ [])) ∷ keeps (second 8) (ends true 8 (pos 8 ∷ pos 2 ∷ []))
          ∷ keeps (second 8) (plainly 0) ∷ keeps (second 8) (halts 27 0 []) ∷ [];
    }
    -- "35 bad mark, a mark or role neither of the two, directly after 1": before 2 and a text's faults, before 10, 33, 11 and 12
    ∷ record {
      calls =
          D' "1" 2 "(;)" ∷ D' "a" 2 "(;)" ∷ D' "a" 255 "(;)" ∷ defines (code "a") 2 (times 257 (bytes "#")) ∷ D' "a" 2 "#" ∷ R "a" 9 []
          ∷ R'' 2 "1" 9 [] [] ∷ R'' 2 "a" 9 [] (sevens 64) ∷ G "a" "(;)" ∷ R'' 2 "a" 9 (pos 1000000000 ∷ []) [] ∷ R'' 255 "a" 9 [] (sevens 64) ∷ [];
      results =
          plainly 1 ∷ plainly 35 ∷ plainly 35 ∷ plainly 35 ∷ plainly 35 ∷ plainly 10 ∷ plainly 1 ∷ plainly 35 ∷ plainly 0 ∷ plainly 35 ∷ plainly 35 ∷ [];
    }
    -- 33 "directly after 10": after 1 and 10, before 11 and 12
    ∷ record {
      calls =
          G "a" "(;)" ∷ R' "`" 9 [] [] ∷ R' "b" 9 [] [] ∷ R' "a" 9 (pos 1000000000 ∷ []) (sevens 64) ∷ R' "a" 9 [] [] ∷ R'' 1 "a" 9 (pos 1000000000 ∷ []) []
          ∷ R'' 1 "a" 9 [] [] ∷ B "a" 9 [] ∷ [];
      results = plainly 0 ∷ plainly 1 ∷ plainly 10 ∷ plainly 33 ∷ plainly 33 ∷ plainly 11 ∷ plainly 12 ∷ ends true 1 [] ∷ [];
    }
    ∷ []

-- ── what a call lends ───────────────────────────────────────────────────────────────────────────

-- calls from the fresh store, each with every list place and output byte that it leaves
pub record Lending : Type 0 where
  pub calls : List Call
  pub left : List (List ℤ × List ℕ)

-- what an answer leaves
abbrev pub left_in : Reply → List ℤ × List ℕ
left_in r = (r.list, r.output)

-- what book and store leave
abbrev pub leaving : Lending → List (List ℤ × List ℕ) × List (List ℤ × List ℕ)
leaving x = (map left_in (answers book_call fresh_book x.calls), map left_in (answers store_call fresh_store x.calls))

-- what they should leave
abbrev pub due_left : Lending → List (List ℤ × List ℕ) × List (List ℤ × List ℕ)
due_left x = (x.left, x.left)

-- every list of calls leaves what it should
abbrev pub HoldLent : List Lending → Type 0
HoldLent xs = map leaving xs ≡ map due_left xs

-- a run of `w` that lends these list places and three bytes
abbrev wRun : List ℤ → Call
wRun p = running (code "w") 0 9 [] p (bytes "xyz")

-- "places above the height are 0; output past its length is unchanged"; a refusal leaves "any list and output, as they were"
abbrev pub lendings : List Lending
lendings =
    record {
      calls = D "w" "('/5''/6''/7'L+''ab';)" ∷ wRun (sevens 64) ∷ D "w" "('/5'''ab'I;)" ∷ wRun (sevens 64) ∷ wRun (sevens 2) ∷ X "w" ∷ wRun (sevens 64) ∷ [];
      left =
          ([], []) ∷ (pos 11 ∷ zeros 63, bytes "abz") ∷ ([], []) ∷ (pos 5 ∷ zeros 63, bytes "abz") ∷ (sevens 2, bytes "xyz")
          ∷ ([], []) ∷ (sevens 64, bytes "xyz") ∷ [];
    }
    -- 33 and 35 refuse; 34 ends a run
    ∷ record {
      calls = G "w" "('/5';)" ∷ wRun (sevens 64) ∷ running (code "w") 2 9 [] (sevens 64) (bytes "xyz") ∷ G "v" "()" ∷ D "w" "('/5'''ab'v;)" ∷ wRun (sevens 64) ∷ [];
      left = ([], []) ∷ (sevens 64, bytes "xyz") ∷ (sevens 64, bytes "xyz") ∷ ([], []) ∷ ([], []) ∷ (pos 5 ∷ zeros 63, bytes "abz") ∷ [];
    }
    ∷ []

-- ── what a store keeps ──────────────────────────────────────────────────────────────────────────

-- calls from the fresh store, and the permission and the used cells of a letter after them, a as 0; a cleared letter has none
pub record Keeping : Type 0 where
  pub calls : List Call
  pub letter : ℕ
  pub permission : ℕ
  pub cells : List ℤ

-- how many cells, counts, marks and variables a store has
abbrev pub sizes : Store → List ℕ
sizes st = length st.cells ∷ length st.used ∷ length st.permissions ∷ length st.variables ∷ []

-- what the store keeps of a letter: its count, its permission and its cells
abbrev pub kept_in : Store → ℕ → List ℕ × ℕ × ℕ × List ℤ
kept_in st a = (sizes st, (entry_at st a).table.used, (entry_at st a).permission, (entry_at st a).table.cells)

-- what calls leave in the store, and which permission in the book
abbrev pub kept : Keeping → (List ℕ × ℕ × ℕ × List ℤ) × ℕ
kept x = (kept_in (after store_call fresh_store x.calls) x.letter, permission_at (after book_call fresh_book x.calls).permissions x.letter)

-- what they should leave: "26 letters' tables with their used-cell counts, and ten variables", each table of 250 cells, and 26 permissions
abbrev pub due_kept : Keeping → (List ℕ × ℕ × ℕ × List ℤ) × ℕ
due_kept x = ((6500 ∷ 26 ∷ 26 ∷ 10 ∷ [], length x.cells, x.permission, x.cells ++ zeros (250 - length x.cells)), x.permission)

-- every list of calls leaves what it should
abbrev pub HoldKept : List Keeping → Type 0
HoldKept xs = map kept xs ≡ map due_kept xs

-- "Define replaces a letter's table. Withdraw clears it to 0. The used-cell count is replaced or cleared with the table"; document 02, U7: "a mark, set
-- by define", "a fresh store's marks are open", "Withdraw clears the mark to open."
abbrev pub keepings : List Keeping
keepings =
    record { calls = []; letter = 25; permission = 0; cells = [] }
    ∷ record { calls = D "z" "(A;)" ∷ D "z" "(;)" ∷ R "z" 9 [] ∷ []; letter = 25; permission = 0; cells = pos 2000 ∷ pos 4 ∷ pos 0 ∷ pos 1 ∷ [] }
    ∷ record { calls = D "z" "(;)" ∷ D "y" "()" ∷ D "z" "(" ∷ []; letter = 24; permission = 0; cells = pos 2000 ∷ pos 0 ∷ pos 1 ∷ [] }
    ∷ record { calls = D "a" "(;)" ∷ X "a" ∷ []; letter = 0; permission = 0; cells = [] }
    ∷ record { calls = G "z" "()" ∷ []; letter = 25; permission = 1; cells = pos 2000 ∷ pos 0 ∷ pos 1 ∷ [] }
    ∷ record { calls = G "a" "()" ∷ D "b" "(;)" ∷ X "b" ∷ R "a" 9 [] ∷ B "a" 9 [] ∷ D "a" "(" ∷ []; letter = 0; permission = 1; cells = pos 2000 ∷ pos 0 ∷ pos 1 ∷ [] }
    ∷ record { calls = G "a" "(;)" ∷ D "a" "()" ∷ G "b" "()" ∷ []; letter = 0; permission = 0; cells = pos 2000 ∷ pos 0 ∷ pos 1 ∷ [] }
    ∷ record { calls = D "a" "(;)" ∷ G "a" "()" ∷ D "b" "()" ∷ []; letter = 0; permission = 1; cells = pos 2000 ∷ pos 0 ∷ pos 1 ∷ [] }
    ∷ record { calls = G "a" "(;)" ∷ X "a" ∷ []; letter = 0; permission = 0; cells = [] }
    ∷ record { calls = G "a" "(;)" ∷ G "b" "(;)" ∷ X "a" ∷ []; letter = 1; permission = 1; cells = pos 2000 ∷ pos 4 ∷ pos 0 ∷ pos 1 ∷ [] }
    ∷ []

-- ── damaged stores ──────────────────────────────────────────────────────────────────────────────

-- one call of any store, with the number and the steps of its answer
pub record Probe : Type 0 where
  pub store : Store
  pub call : Call
  pub number : ℕ
  pub steps : ℕ

-- what the store gives
abbrev pub found : Probe → ℕ × ℕ
found x = ((store_call x.store x.call).reply.report.number, (store_call x.store x.call).reply.report.steps)

-- what it should give
abbrev pub due_found : Probe → ℕ × ℕ
due_found x = (x.number, x.steps)

-- every call gives what it should
abbrev pub HoldFound : List Probe → Type 0
HoldFound xs = map found xs ≡ map due_found xs

-- the store whose letter a has these cells after its first, all used
abbrev holding : List ℤ → Store
holding c = store_of (pos 2000 ∷ c) (suc (length c) ∷ []) [] fresh

-- the store whose letters a and b have these cells after their first; of b's n are used, and its permission is k
abbrev marked : List ℤ → List ℤ → ℕ → ℕ → Store
marked c d n k = store_of (pos 2000 ∷ c ++ zeros (249 - length c) ++ pos 2000 ∷ d) (suc (length c) ∷ n ∷ []) (0 ∷ k ∷ []) fresh

-- both open, and all cells used
abbrev pair : List ℤ → List ℤ → Store
pair c d = marked c d (suc (length d)) 0

-- a run of letter l of a store with an allowance, and room for 9 bytes
abbrev probe : Store → Char → ℕ → ℕ → ℕ → Probe
probe st l a k n = record { store = st; call = running (code l) 0 a [] (sevens 64) (replicate 9 0); number = k; steps = n }

-- a run of letter a over such cells with allowance 9
abbrev over : List ℤ → ℕ → ℕ → Probe
over c k n = probe (holding c) "a" 9 k n

-- the last two cells
abbrev tail : List ℤ
tail = pos 0 ∷ pos 1 ∷ []

-- the numbers from m on, n of them
abbrev from : ℕ → ℕ → List ℕ
from m zero = []
from m (suc n) = m ∷ from (suc m) n

-- the numbers to 176 that are no code, and 2000
abbrev no_codes : List ℕ
no_codes =
    from 1 35 ++ from 37 5 ++ 44 ∷ 46 ∷ from 49 16 ++ from 66 4 ++ 71 ∷ 72 ∷ 75 ∷ 81 ∷ 82 ∷ from 84 4 ++ from 89 8 ++ from 123 44 ++ from 168 7
    ++ 176 ∷ 2000 ∷ []

-- 29 by each clause of document 01, on both sides of its bounds. The first cell of a list is cell 2.
abbrev pub damaged : List Probe
damaged =
    -- "a transfer outside 2 to used", 4 here; "earlier and holds 0"
    over (pos 1 ∷ tail) 29 0
    ∷ over (pos 2 ∷ tail) 20 9
    ∷ over (pos 3 ∷ tail) 0 2
    ∷ over (pos 4 ∷ tail) 0 1
    ∷ over (pos 5 ∷ tail) 29 0
    ∷ over (pos 0 ∷ tail) 29 0
    -- "is the last and not 1"
    ∷ over (pos 4 ∷ pos 0 ∷ pos 0 ∷ []) 29 1
    ∷ over (pos 4 ∷ pos 0 ∷ pos 2 ∷ []) 29 1
    ∷ over (pos 4 ∷ pos 0 ∷ neg 1 ∷ []) 29 1
    -- "is the one before and not 0"
    ∷ over tail 0 1
    ∷ over (pos 1 ∷ pos 1 ∷ []) 29 0
    ∷ over (pos 2 ∷ pos 1 ∷ []) 29 0
    ∷ over (pos 3 ∷ pos 1 ∷ []) 29 0
    ∷ over (neg 88 ∷ pos 1 ∷ []) 29 0
    -- "a negative that is no code", before what would do for a mark with a digit or a false, for a constant or a print, for a counter
    ∷ map (λ b. over (neg b ∷ pos 3 ∷ pos 3 ∷ pos 3 ∷ pos 3 ∷ tail) 29 0) no_codes
    ++ map (λ b. over (neg b ∷ pos 0 ∷ tail) 29 0) no_codes
    ++ map (λ b. over (neg b ∷ neg 1 ∷ pos 0 ∷ pos 7 ∷ tail) 29 0) no_codes
    -- "a mark with a cell after used - 2": an operator has none; `F`, `S`, a constant, a print's length and bytes, a condition, a counter, a call
    ++ over (neg 88 ∷ tail) 0 2
    ∷ over (neg 70 ∷ pos 1 ∷ tail) 0 2
    ∷ over (neg 70 ∷ pos 1 ∷ pos 1 ∷ []) 29 0
    ∷ over (neg 70 ∷ pos 1 ∷ neg 83 ∷ pos 1 ∷ tail) 0 3
    ∷ over (neg 70 ∷ pos 1 ∷ neg 83 ∷ pos 1 ∷ pos 1 ∷ []) 29 1
    ∷ over (neg 175 ∷ pos 1 ∷ tail) 0 2
    ∷ over (neg 175 ∷ pos 1 ∷ pos 1 ∷ []) 29 0
    ∷ over (neg 167 ∷ pos 0 ∷ tail) 0 2
    ∷ over (neg 167 ∷ pos 0 ∷ pos 1 ∷ []) 29 0
    ∷ over (neg 167 ∷ pos 2 ∷ pos 97 ∷ pos 98 ∷ tail) 0 2
    ∷ over (neg 167 ∷ pos 2 ∷ pos 97 ∷ pos 98 ∷ pos 1 ∷ []) 29 0
    ∷ over (neg 70 ∷ pos 1 ∷ neg 78 ∷ pos 7 ∷ tail) 0 2
    ∷ over (neg 70 ∷ pos 1 ∷ neg 78 ∷ pos 6 ∷ pos 1 ∷ []) 29 1
    ∷ over (neg 36 ∷ neg 1 ∷ pos 0 ∷ pos 7 ∷ tail) 0 2
    ∷ over (neg 36 ∷ neg 1 ∷ pos 0 ∷ pos 6 ∷ pos 1 ∷ []) 29 0
    ∷ over (neg 98 ∷ pos 5 ∷ tail) 27 0
    ∷ over (neg 98 ∷ pos 4 ∷ pos 1 ∷ []) 29 0
    -- "a false outside 2 to used": a condition's, 2 to 7; a counter's, 2 to 7; a call's, 2 to 5
    ∷ over (neg 70 ∷ pos 1 ∷ neg 78 ∷ neg 2 ∷ tail) 29 1
    ∷ over (neg 70 ∷ pos 1 ∷ neg 78 ∷ pos 1 ∷ tail) 29 1
    ∷ over (neg 70 ∷ pos 1 ∷ neg 78 ∷ pos 2 ∷ tail) 20 9
    ∷ over (neg 70 ∷ pos 1 ∷ neg 78 ∷ pos 8 ∷ tail) 29 1
    ∷ over (neg 36 ∷ neg 1 ∷ pos 0 ∷ neg 2 ∷ tail) 29 0
    ∷ over (neg 36 ∷ neg 1 ∷ pos 0 ∷ pos 1 ∷ tail) 29 0
    ∷ over (neg 36 ∷ neg 1 ∷ pos 0 ∷ pos 2 ∷ tail) 0 2
    ∷ over (neg 36 ∷ neg 1 ∷ pos 0 ∷ pos 8 ∷ tail) 29 0
    ∷ over (neg 98 ∷ neg 2 ∷ tail) 29 0
    ∷ over (neg 98 ∷ pos 1 ∷ tail) 29 0
    ∷ over (neg 98 ∷ pos 2 ∷ tail) 27 0
    ∷ over (neg 98 ∷ pos 6 ∷ tail) 29 0
    -- "a digit outside 1 to 10"
    ∷ over (neg 70 ∷ neg 1 ∷ tail) 29 0
    ∷ over (neg 70 ∷ pos 0 ∷ tail) 29 0
    ∷ over (neg 70 ∷ pos 10 ∷ tail) 0 2
    ∷ over (neg 70 ∷ pos 11 ∷ tail) 29 0
    ∷ over (neg 70 ∷ pos 1 ∷ neg 83 ∷ pos 0 ∷ tail) 29 1
    ∷ over (neg 70 ∷ pos 1 ∷ neg 83 ∷ pos 10 ∷ tail) 0 3
    ∷ over (neg 70 ∷ pos 1 ∷ neg 83 ∷ pos 11 ∷ tail) 29 1
    -- "an n outside 1 to 9999", which stands as -n
    ∷ over (neg 36 ∷ pos 1 ∷ pos 0 ∷ pos 7 ∷ tail) 29 0
    ∷ over (neg 36 ∷ pos 0 ∷ pos 0 ∷ pos 7 ∷ tail) 29 0
    ∷ over (neg 36 ∷ neg 9999 ∷ pos 0 ∷ pos 7 ∷ tail) 0 2
    ∷ over (neg 36 ∷ neg 10000 ∷ pos 0 ∷ pos 7 ∷ tail) 29 0
    -- "an order outside 0 to 15"
    ∷ over (neg 36 ∷ neg 1 ∷ neg 1 ∷ pos 7 ∷ tail) 29 0
    ∷ over (neg 36 ∷ neg 1 ∷ pos 15 ∷ pos 7 ∷ tail) 0 2
    ∷ over (neg 36 ∷ neg 1 ∷ pos 16 ∷ pos 7 ∷ tail) 29 0
    -- "a constant outside the values"
    ∷ over (neg 175 ∷ pos 999999999 ∷ tail) 0 2
    ∷ over (neg 175 ∷ pos 1000000000 ∷ tail) 29 0
    ∷ over (neg 175 ∷ neg 999999999 ∷ tail) 0 2
    ∷ over (neg 175 ∷ neg 1000000000 ∷ tail) 29 0
    -- "a print length or byte outside its form"
    ∷ over (neg 167 ∷ neg 1 ∷ tail) 29 0
    ∷ over (neg 167 ∷ pos 3 ∷ pos 97 ∷ pos 98 ∷ pos 99 ∷ pos 1 ∷ []) 29 0
    ∷ over (neg 167 ∷ pos 1 ∷ neg 97 ∷ tail) 29 0
    ∷ over (neg 167 ∷ pos 1 ∷ pos 31 ∷ tail) 29 0
    ∷ over (neg 167 ∷ pos 1 ∷ pos 32 ∷ tail) 0 2
    ∷ over (neg 167 ∷ pos 1 ∷ pos 39 ∷ tail) 29 0
    ∷ over (neg 167 ∷ pos 1 ∷ pos 126 ∷ tail) 0 2
    ∷ over (neg 167 ∷ pos 1 ∷ pos 127 ∷ tail) 29 0
    ∷ over (neg 167 ∷ pos 2 ∷ pos 97 ∷ pos 10 ∷ tail) 29 0
    -- "Cell 1 holds 2000 and no run reads it."
    ∷ probe (store_of (pos 0 ∷ pos 4 ∷ tail) (4 ∷ []) [] fresh) "a" 9 0 1
    -- a table of 250 cells
    ∷ over (pos 250 ∷ zeros 247 ++ pos 1 ∷ []) 0 1
    ∷ over (pos 250 ∷ zeros 247 ++ pos 2 ∷ []) 29 1
    -- "29, 20, then for that mark ..": a damaged cell is due, with no step left; before 21 and 27
    ∷ probe (holding (pos 1 ∷ tail)) "a" 0 29 0
    ∷ probe (holding (pos 4 ∷ tail)) "a" 0 20 0
    ∷ probe (holding (pos 4 ∷ pos 0 ∷ pos 2 ∷ [])) "a" 1 29 1
    ∷ over (neg 78 ∷ pos 1 ∷ tail) 29 0
    -- the callee's first cell, the cell after a call and the false of a call; each letter's own cells
    ∷ probe (pair (neg 98 ∷ pos 5 ∷ tail) (pos 1 ∷ tail)) "a" 9 29 1
    ∷ probe (pair (neg 98 ∷ pos 5 ∷ tail) (pos 1 ∷ tail)) "a" 1 29 1
    ∷ probe (pair (neg 98 ∷ pos 5 ∷ pos 1 ∷ pos 1 ∷ []) (pos 4 ∷ tail)) "a" 2 29 2
    ∷ probe (pair (neg 98 ∷ pos 5 ∷ pos 0 ∷ pos 0 ∷ []) tail) "a" 2 29 2
    ∷ probe (pair (neg 98 ∷ pos 5 ∷ tail) (pos 4 ∷ tail)) "a" 9 0 3
    ∷ probe (pair (neg 98 ∷ pos 5 ∷ tail) tail) "a" 9 0 2
    ∷ probe (pair (pos 1 ∷ tail) (pos 4 ∷ tail)) "b" 9 0 1
    -- the call of a steward's letter: after 29, 20 and 27; of a cleared letter with a steward's mark
    ∷ probe (marked (neg 98 ∷ pos 5 ∷ tail) (pos 4 ∷ tail) 4 1) "a" 9 34 0
    ∷ probe (marked (neg 98 ∷ pos 6 ∷ tail) (pos 4 ∷ tail) 4 1) "a" 9 29 0
    ∷ probe (marked (neg 98 ∷ pos 5 ∷ tail) (pos 4 ∷ tail) 4 1) "a" 0 20 0
    ∷ probe (marked (neg 98 ∷ pos 5 ∷ tail) (pos 4 ∷ tail) 0 1) "a" 9 27 0
    -- its run: after 10; a damaged table is not looked at
    ∷ probe (marked (neg 98 ∷ pos 5 ∷ tail) (pos 4 ∷ tail) 0 1) "b" 9 10 0
    ∷ probe (marked (neg 98 ∷ pos 5 ∷ tail) (pos 0 ∷ tail) 4 1) "b" 9 33 0
    ∷ []

-- the store whose letter b stands as `()`, with these counts, marks and variables first and last
abbrev holding_at : ℕ → ℕ → ℕ → ℕ → ℤ → ℤ → Store
holding_at a z k m v w =
    store_of (zeros 250 ++ pos 2000 ∷ tail) (a ∷ 3 ∷ replicate 23 0 ++ z ∷ []) (k ∷ replicate 24 0 ++ m ∷ []) (v ∷ zeros 8 ++ w ∷ [])

-- with every letter open
abbrev counting : ℕ → ℕ → ℤ → ℤ → Store
counting a z v w = holding_at a z 0 0 v w

-- with these marks, first and last
abbrev marking : ℕ → ℕ → Store
marking k m = holding_at 0 0 k m (pos 0) (pos 0)

-- a call of a store, with the number and the steps of its answer
abbrev asking : Store → Call → ℕ → ℕ → Probe
asking st c k n = record { store = st; call = c; number = k; steps = n }

-- a define, a withdrawal and a run of b are accepted
abbrev sound : Store → List Probe
sound st = asking st (D "b" "(;)") 0 0 ∷ asking st (X "b") 0 0 ∷ asking st (R "b" 9 []) 0 1 ∷ []

-- they are refused as 13, and so are others that 1, 2, 10, 11, 12 and 35 fit
abbrev bad : Store → List Probe
bad st =
    asking st (D "b" "(;)") 13 0 ∷ asking st (X "b") 13 0 ∷ asking st (R "b" 9 []) 13 0
    ∷ asking st (D "1" "#") 13 0 ∷ asking st (X "1") 13 0 ∷ asking st (R' "1" 9 [] []) 13 0
    ∷ asking st (defines (code "b") 0 (times 257 (bytes "#"))) 13 0 ∷ asking st (X "c") 13 0 ∷ asking st (R' "b" 9 (pos 1000000000 ∷ []) []) 13 0
    ∷ asking st (D' "b" 2 "(;)") 13 0 ∷ asking st (R'' 2 "b" 9 [] (sevens 64)) 13 0 ∷ asking st (B "b" 9 []) 13 0 ∷ []

-- 13, "a used count neither 0 nor 3 to 250, or a variable outside the values", in the first and the last letter and variable; document 02, U7: "The
-- bad-store test covers a mark with any other value."
abbrev pub spoilt : List Probe
spoilt =
    sound (counting 0 0 (pos 0) (pos 0))
    ++ bad (counting 1 0 (pos 0) (pos 0))
    ++ bad (counting 2 0 (pos 0) (pos 0))
    ++ sound (counting 3 250 (pos 0) (pos 0))
    ++ sound (counting 250 3 (pos 0) (pos 0))
    ++ bad (counting 251 0 (pos 0) (pos 0))
    ++ bad (counting 0 1 (pos 0) (pos 0))
    ++ bad (counting 0 2 (pos 0) (pos 0))
    ++ bad (counting 0 251 (pos 0) (pos 0))
    ++ sound (counting 0 0 (pos 999999999) (neg 999999999))
    ++ sound (counting 0 0 (neg 999999999) (pos 999999999))
    ++ bad (counting 0 0 (pos 1000000000) (pos 0))
    ++ bad (counting 0 0 (neg 1000000000) (pos 0))
    ++ bad (counting 0 0 (pos 0) (pos 1000000000))
    ++ bad (counting 0 0 (pos 0) (neg 1000000000))
    ++ sound (marking 1 0)
    ++ sound (marking 0 1)
    ++ bad (marking 2 0)
    ++ bad (marking 0 2)
    ++ bad (marking 255 1)
    ++ bad (marking 1 256)

-- ── numbers ─────────────────────────────────────────────────────────────────────────────────────

-- which of these numbers refuse: "Finished is 0. Numbers 1 to 14 refuse; 20 to 29 end a run."; document 02, U7: 33 and 35 refuse; 34 is "an ending"
abbrev pub numbers : List ℕ
numbers = 0 ∷ 1 ∷ 14 ∷ 15 ∷ 20 ∷ 29 ∷ 32 ∷ 33 ∷ 34 ∷ 35 ∷ 36 ∷ []

-- proofs/Examples `numbers-hold`
abbrev pub NumbersHold : Type 0
NumbersHold = map is_refusal numbers ≡ false ∷ true ∷ true ∷ false ∷ false ∷ false ∷ false ∷ true ∷ false ∷ true ∷ false ∷ []
