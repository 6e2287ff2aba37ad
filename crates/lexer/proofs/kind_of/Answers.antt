-- `kind_of` meets its contract. Each way through the match has the byte at some keys, or in a range and at none of the keys; there its rank is computed.
use mathlib.Core.Path.{◌≡◌, sym, ap}
use mathlib.Core.Bool.{Bool}
use mathlib.Core.List.{List, [], ◌∷◌}
use Prim.Native.Nat.{ℕ, ◌+◌, ◌≤◌, ◌<◌}
use lib.Dec.{T, eqb, eqb→eq}
use types.Run.{OneOf}
use Rattle.language.specs.Limits.{max_letters}
use Rattle.language.specs.Letters.{first_letter}
use Rattle.lexer.specs.Lexing.{byte_rank, kind_ranked, kind_of}
use Rattle.language.proofs.Keys.{every_from, every_of, of-keys, or_key, in-gap}
use native.Mathlib.Omega.{arith}
use Rattle.lexer.proofs.kind_of.Goals as goal

abbrev has : ℕ → ℕ → Bool
has k b = eqb (byte_rank b) k

ranked : (k b : ℕ) → T (has k b) → kind_ranked k ≡ kind_of b
unfolding kind_of
ranked k b t = ap kind_ranked (sym (eqb→eq (byte_rank b) k t))

at-keys : (k : ℕ) (ks : List ℕ) → T (every_of (has k) ks) → (b : ℕ) → OneOf ks b → kind_ranked k ≡ kind_of b
at-keys k ks t b h = ranked k b (of-keys (has k) ks t b h)

-- the keys of the match's arms, the last arm first
abbrev arms : List (List ℕ)
arms =
    (39 ∷ []) ∷ (36 ∷ []) ∷ (48 ∷ 74 ∷ 78 ∷ []) ∷ (70 ∷ 83 ∷ []) ∷ (45 ∷ 47 ∷ 65 ∷ 73 ∷ 88 ∷ []) ∷ (46 ∷ 58 ∷ []) ∷ (44 ∷ 59 ∷ []) ∷ (41 ∷ []) ∷ (40 ∷ [])
    ∷ (34 ∷ []) ∷ (10 ∷ 32 ∷ []) ∷ []

pub returns-in-32 : goal.returns-in-32
unfolding byte_rank
returns-in-32 c = at-keys 0 (10 ∷ 32 ∷ []) tt c.args.b c.in-32.is

pub returns-in-34 : goal.returns-in-34
unfolding byte_rank
returns-in-34 c = at-keys 1 (34 ∷ []) tt c.args.b c.in-34.is

pub returns-in-40 : goal.returns-in-40
unfolding byte_rank
returns-in-40 c = at-keys 2 (40 ∷ []) tt c.args.b c.in-40.is

pub returns-in-41 : goal.returns-in-41
unfolding byte_rank
returns-in-41 c = at-keys 3 (41 ∷ []) tt c.args.b c.in-41.is

pub returns-in-59 : goal.returns-in-59
unfolding byte_rank
returns-in-59 c = at-keys 4 (44 ∷ 59 ∷ []) tt c.args.b c.in-59.is

pub returns-in-58 : goal.returns-in-58
unfolding byte_rank
returns-in-58 c = at-keys 5 (46 ∷ 58 ∷ []) tt c.args.b c.in-58.is

pub returns-in-70 : goal.returns-in-70
unfolding byte_rank
returns-in-70 c = at-keys 7 (70 ∷ 83 ∷ []) tt c.args.b c.in-70.is

pub returns-in-78 : goal.returns-in-78
unfolding byte_rank
returns-in-78 c = at-keys 8 (48 ∷ 74 ∷ 78 ∷ []) tt c.args.b c.in-78.is

pub returns-in-36 : goal.returns-in-36
unfolding byte_rank
returns-in-36 c = at-keys 10 (36 ∷ []) tt c.args.b c.in-36.is

pub returns-in-39 : goal.returns-in-39
unfolding byte_rank
returns-in-39 c = at-keys 11 (39 ∷ []) tt c.args.b c.in-39.is

pub returns-in-49-to-57 : goal.returns-in-49-to-57
unfolding byte_rank
returns-in-49-to-57 c =
    let between-keys : (k lo n : ℕ) → T (every_from (λ b. or_key arms b (has k b)) lo n) → lo ≤ c.args.b → c.args.b < lo + n
    → kind_ranked k ≡ kind_of c.args.b = λ k lo n t h h'. ranked k c.args.b (in-gap (has k) arms lo n t c.args.b h h' c.in-49-to-57.in_default-own.rest) in
    between-keys 12 44 14 tt (omega arith) (omega arith)

pub returns-in-97-to-122 : goal.returns-in-97-to-122
unfolding byte_rank
returns-in-97-to-122 c =
    let between-keys : (k lo n : ℕ) → T (every_from (λ b. or_key arms b (has k b)) lo n) → lo ≤ c.args.b → c.args.b < lo + n
    → kind_ranked k ≡ kind_of c.args.b = λ k lo n t h h'. ranked k c.args.b (in-gap (has k) arms lo n t c.args.b h h' c.in-97-to-122.in_default-own.rest) in
    between-keys 9 first_letter max_letters tt (omega arith) (omega arith)

pub returns-in_default : goal.returns-in_default
unfolding byte_rank
returns-in_default c =
    let between-keys : (k lo n : ℕ) → T (every_from (λ b. or_key arms b (has k b)) lo n) → lo ≤ c.args.b → c.args.b < lo + n
    → kind_ranked k ≡ kind_of c.args.b = λ k lo n t h h'. ranked k c.args.b (in-gap (has k) arms lo n t c.args.b h h' c.in_default.in_default-own.rest) in
    between-keys 13 0 39 tt (omega arith) (omega arith)

pub returns-in_default-2 : goal.returns-in_default-2
unfolding byte_rank
returns-in_default-2 c =
    let between-keys : (k lo n : ℕ) → T (every_from (λ b. or_key arms b (has k b)) lo n) → lo ≤ c.args.b → c.args.b < lo + n
    → kind_ranked k ≡ kind_of c.args.b = λ k lo n t h h'. ranked k c.args.b (in-gap (has k) arms lo n t c.args.b h h' c.in_default.in_default-own.rest) in
    between-keys 13 58 18 tt (omega arith) (omega arith)

pub returns-in_default-3 : goal.returns-in_default-3
unfolding byte_rank
returns-in_default-3 c =
    let between-keys : (k lo n : ℕ) → T (every_from (λ b. or_key arms b (has k b)) lo n) → lo ≤ c.args.b → c.args.b < lo + n
    → kind_ranked k ≡ kind_of c.args.b = λ k lo n t h h'. ranked k c.args.b (in-gap (has k) arms lo n t c.args.b h h' c.in_default.in_default-own.rest) in
    between-keys 13 81 16 tt (omega arith) (omega arith)

pub returns-in_default-4 : goal.returns-in_default-4
unfolding byte_rank
returns-in_default-4 c =
    let between-keys : (k lo n : ℕ) → T (every_from (λ b. or_key arms b (has k b)) lo n) → lo ≤ c.args.b → c.args.b < lo + n
    → kind_ranked k ≡ kind_of c.args.b = λ k lo n t h h'. ranked k c.args.b (in-gap (has k) arms lo n t c.args.b h h' c.in_default.in_default-own.rest) in
    between-keys 13 123 133 tt (omega arith) (omega arith)

pub returns-in-65 : goal.returns-in-65
unfolding byte_rank
returns-in-65 c = at-keys 6 (45 ∷ 47 ∷ 65 ∷ 73 ∷ 88 ∷ []) tt c.args.b c.in-65.is

pub returns-in-65-2 : goal.returns-in-65-2
unfolding byte_rank
returns-in-65-2 c =
    let between-keys : (k lo n : ℕ) → T (every_from (λ b. or_key arms b (has k b)) lo n) → lo ≤ c.args.b → c.args.b < lo + n
    → kind_ranked k ≡ kind_of c.args.b = λ k lo n t h h'. ranked k c.args.b (in-gap (has k) arms lo n t c.args.b h h' c.in-65.in_default-own.rest) in
    between-keys 6 39 5 tt (omega arith) (omega arith)

pub returns-in-65-3 : goal.returns-in-65-3
unfolding byte_rank
returns-in-65-3 c =
    let between-keys : (k lo n : ℕ) → T (every_from (λ b. or_key arms b (has k b)) lo n) → lo ≤ c.args.b → c.args.b < lo + n
    → kind_ranked k ≡ kind_of c.args.b = λ k lo n t h h'. ranked k c.args.b (in-gap (has k) arms lo n t c.args.b h h' c.in-65.in_default-own.rest) in
    between-keys 6 76 5 tt (omega arith) (omega arith)
