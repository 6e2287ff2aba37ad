-- The loop of the first pass: from the outermost `(` to a refusal or to the last `)`.
use mathlib.Core.Path.{◌≡◌, refl, sym, ap, ◌∙◌, subst}
use mathlib.Core.List.{List, [], ◌∷◌}
use mathlib.Core.Logic.{◌⊎◌}
use Prim.Native.Nat.{ℕ}
use native.Mathlib.Omega.{arith}
use lib.ListN.{drop}
use Rattle.std.specs.Prelude.{Result, Ok, Err, is_err}
use Rattle.std.proofs.lemmas.Bool.{true≢false}
use Rattle.language.specs.declared.Fault.{Fault}
use Rattle.language.specs.Layout.{code_start}
use Rattle.language.specs.Tokens.{Token, begins, faults, idle, tokens}
use Rattle.language.specs.Reading.{Reading, refused}
use Rattle.lexer.specs.declared.Token as Lexer
use Rattle.lexer.specs.declared.Token.TheVariants as T
use Rattle.lexer.specs.Lexing.{Means}
use Rattle.emitter.specs.declared.pass.Draft.{Draft}
use Rattle.emitter.specs.Drafts.{fresh, Inside}
use Rattle.assembler.specs.Taking.{taken, Fine}
use Rattle.assembler.specs.Scanning.{parsed_from, Ends}
use Rattle.assembler.proofs.ScanningCells.{head_cell}
use Rattle.assembler.proofs.ScanningSimulation.{Image, Stands, Outcome, goes, closes-all, one_token, one_fault}

-- ── the start ───────────────────────────────────────────────────────────────────────────────────

fresh-image : Image fresh (λ e. e) [] code_start 0
unfolding fresh
fresh-image =
    record {
      level-is = refl;
      counters-are = refl;
      deep = omega arith;
      places = refl;
      size = refl;
      start = code_start;
      outer = head_cell;
      inner-cells = head_cell;
      spare = 249;
      cells_are = record { values-are = refl; opens-are = refl; used-is = refl; room = refl; low = (omega arith, tt) };
      here = record { emits = λ e r. refl; reaches = λ e. refl };
      around = (refl, refl, refl);
    }

pub starts_out : (s : List ℕ) (from : ℕ) (d : Draft) → d ≡ fresh → Stands (parsed_from s from) (tokens (drop from s) idle) d
starts_out s from d e = subst (Stands (parsed_from s from) (tokens (drop from s) idle)) (sym e) (goes (λ e. e) [] code_start 0 refl fresh-image)

err-not-ok : (why : Fault) (e : Draft) → ◌≡◌ {A = Result Draft Fault} (Err why) (Ok e) → ⊥
err-not-ok why e k = true≢false (ap is_err k)

-- ── one turn ────────────────────────────────────────────────────────────────────────────────────

pub bounds : (P : Reading) (l : List Token) (d : Draft) → Stands P l d → (d.level ≡ 0 → ⊥) → Inside d
bounds P l d (goes g st q i r im) n =
    record {
      cells_fit = omega (arith, im.cells_are.used-is, im.cells_are.room);
      level-least = omega (arith, im.level-is);
      level-most = omega (arith, im.level-is, im.deep);
    }
bounds P l d (closes-all w q z r) n = absurd (n z)

outcome : (s : List ℕ) (l l' : List Token) (t : Lexer.Token) (P : Reading) (d : Draft) → Stands P l d → (d.level ≡ 0 → ⊥) → Means s t l l'
    → Outcome P l' (taken s t d)
outcome s l l' t P d (goes f st q c p im) n m = subst (λ P. Outcome P l' (taken s t d)) (sym p) (one_token s l' d f st q c im t l m)
outcome s l l' t P d (closes-all w p v r) n m = absurd (n v)

pub goes_on : (s : List ℕ) (l l' : List Token) (t : Lexer.Token) (P : Reading) (d e : Draft) → Stands P l d → (d.level ≡ 0 → ⊥) → Means s t l l'
    → taken s t d ≡ Ok e → Stands P l' e
goes_on s l l' t P d e h n m k = subst (Outcome P l') k (outcome s l l' t P d h n m)

pub is_refused : (s : List ℕ) (l l' : List Token) (t : Lexer.Token) (P : Reading) (d : Draft) (why : Fault) → Stands P l d → (d.level ≡ 0 → ⊥) → Means s t l l'
    → taken s t d ≡ Err why → P ≡ refused why
is_refused s l l' t P d why h n m k = subst (Outcome P l') k (outcome s l l' t P d h n m)

pub is_faulty : (l : List Token) (P : Reading) (d : Draft) (why : Fault) → Stands P l d → (d.level ≡ 0 → ⊥) → (l ≡ faults why ∷ []) ⊎ (l ≡ begins ∷ faults why ∷ [])
    → P ≡ refused why
is_faulty l P d why (goes f st q c p im) n m = p ∙ one_fault [] [] d f st q c im why l m
is_faulty l P d why (closes-all w p v r) n m = absurd (n v)

-- a token that the pass goes on after is not the end
pub not_end : (s : List ℕ) (t : Lexer.Token) (d e : Draft) → taken s t d ≡ Ok e → t ≡ T.End → ⊥
unfolding taken
not_end s t d e k q = err-not-ok _ e (sym (ap (λ t. taken s t d) q) ∙ k)

pub fine : (s : List ℕ) (t : Lexer.Token) (l l' : List Token) → Means s t l l' → Fine s t
fine s T.End l l' m = tt
fine s T.Open l l' m = tt
fine s T.Close l l' m = tt
fine s T.Semicolon l l' m = tt
fine s T.Colon l l' m = tt
fine s (T.Operator b) l l' m = tt
fine s (T.Variable b k) l l' m = tt
fine s (T.Condition b) l l' m = tt
fine s (T.Call b) l l' m = tt
fine s (T.Counter n) l l' m = m.limit
fine s (T.Constant v) l l' m = tt
fine s (T.Print a n) l l' m = m.part

-- ── the finish ──────────────────────────────────────────────────────────────────────────────────

pub ends_whole : (s : List ℕ) (from next : ℕ) (d : Draft) → Stands (parsed_from s from) (tokens (drop next s) idle) d → d.level ≡ 0 → Ends s from next d
ends_whole s from next d (goes f st x c q im) v = absurd (omega (arith, im.level-is))
ends_whole s from next d (closes-all w q z r) v = record { expr = w; goes_on = q; ready = r }
