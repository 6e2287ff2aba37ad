-- The day in steps over a store, and whatever parts the input comes in.
use Rattle.std.specs.Prelude.{◌≡◌, ℕ, zero, suc, ◌+◌, cond, ◌&&◌, List, [], ◌∷◌, ◌++◌, length, take, drop, ltb, eqb}
use Rattle.language.specs.Bytes.{newline_byte}
use Rattle.lines.specs.Lines.{max_line}
use Rattle.book.specs.Store.{Store, fresh_store, store_call}
use Rattle.commands.specs.Served.{desk_line}
use Rattle.console.specs.Day.{max_lines, Progress, starts, day_from, day_of}

-- What a step over a part of the input comes to: where the day is then, how many bytes of the part it took, and the bytes that it printed.
pub record Stepped : Type 0 where
  pub to : Progress Store
  pub taken : ℕ
  pub bytes : List ℕ

-- how many bytes of a part come before its first newline: all, where it has none
unfoldable pub line_end : List ℕ → ℕ
line_end [] = 0
line_end (b ∷ s) = cond (eqb b newline_byte) 0 (suc (line_end s))

-- "lines to 300 bytes before the newline": of a longer line the first 301 bytes are kept, which its form refuses
abbrev pub kept_bytes : ℕ
kept_bytes = suc max_line

-- the next line is l, and n bytes are taken with it
unfoldable pub line_done : Progress Store → List ℕ → ℕ → Stepped
line_done p l n =
    let x = desk_line store_call p.kept (suc p.done) l in
    record { to = record { kept = x.kept; done = suc p.done; line = [] }; taken = n; bytes = x.bytes }

-- nothing is printed: n bytes are taken, and the next line is l so far
abbrev pub line_grown : Progress Store → List ℕ → ℕ → Stepped
line_grown p l n = record { to = record { kept = p.kept; done = p.done; line = l }; taken = n; bytes = [] }

-- A step over the part s: to the end of the line and past its newline, or to the end of the part. After the last line all is taken and nothing done.
unfoldable pub step_of : Progress Store → List ℕ → Stepped
step_of p s =
    let n = line_end s in
    let l = take kept_bytes (p.line ++ take n s) in
    cond (ltb p.done max_lines) (cond (ltb n (length s)) (line_done p l (suc n)) (line_grown p l n)) (line_grown p p.line (length s))

-- The input has ended: a last line without newline is done.
unfoldable pub end_of : Progress Store → Stepped
end_of p =
    cond (ltb p.done max_lines && ltb 0 (length p.line)) (line_done p (take kept_bytes p.line) 0) (line_grown p p.line 0)

-- What the day prints from here is what a step printed, and then what it prints from there, whatever comes after the part. proofs/Steps `step-continues`
abbrev pub StepContinues : Type 0
StepContinues =
    (p : Progress Store) (s rest : List ℕ)
    → let x = step_of p s in
    day_from store_call p (s ++ rest) ≡ x.bytes ++ day_from store_call x.to (drop x.taken s ++ rest)

-- What it prints of an input that has ended is what the end prints. proofs/Steps `end-continues`
abbrev pub EndContinues : Type 0
EndContinues = (p : Progress Store) → day_from store_call p [] ≡ (end_of p).bytes

-- so many steps over a part
unfoldable pub steps_of : ℕ → Progress Store → List ℕ → Stepped
steps_of zero p s = line_grown p p.line 0
steps_of (suc n) p s =
    let x = step_of p s in
    let y = steps_of n x.to (drop x.taken s) in
    record { to = y.to; taken = x.taken + y.taken; bytes = x.bytes ++ y.bytes }

-- parts of an input, one after the other, each in as many steps as it has bytes (a step takes at least one), and then the end
unfoldable pub parts_from : Progress Store → List (List ℕ) → List ℕ
parts_from p [] = (end_of p).bytes
parts_from p (s ∷ ps) = let x = steps_of (length s) p s in x.bytes ++ parts_from x.to ps

-- the bytes of all parts
abbrev pub joined : List (List ℕ) → List ℕ
joined [] = []
joined (s ∷ ps) = s ++ joined ps

-- Any cutting of an input into parts gives the bytes of the whole. proofs/Steps `any-parts`
abbrev pub AnyParts : Type 0
AnyParts = (ps : List (List ℕ)) → parts_from (starts fresh_store) ps ≡ day_of (joined ps)
