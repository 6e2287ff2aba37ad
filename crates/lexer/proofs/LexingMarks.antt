-- What stands at place i of a text, after what is skipped from place `from` on, by the kind of its byte.
use mathlib.Core.Path.{◌≡◌, sym, ◌∙◌, subst}
use mathlib.Core.List.{List, [], ◌∷◌}
use Prim.Native.Nat.{ℕ, ◌+◌, ◌<◌}
use native.Mathlib.Omega.{arith}
use lib.ListN.{length, get_or, drop}
use Rattle.language.specs.Syntax.{access_byte}
use Rattle.language.specs.Tokens.{begins, faults, idle, comment, after-tick, after-access, number, counter_form, Class, class, first, tokens}
use Rattle.language.specs.declared.Fault.TheVariants.{StrayMark}
use Rattle.lexer.specs.Lexing.{Stands, Means, TakesTo, kind_of}
use Rattle.lexer.specs.declared.Kind.{Kind}
use Rattle.lexer.specs.declared.Kind.TheVariants as K
use Rattle.lexer.specs.declared.Token as Lexer
use Rattle.lexer.specs.declared.Token.TheVariants as T
use Rattle.lexer.proofs.Lexing.{Skipping, tokens-first}
use Rattle.lexer.proofs.LexingSorts.{Sorted, sorted}

-- the token x, read from place `from` of the text s, has one byte, at place i
abbrev pub Read : List ℕ → ℕ → ℕ → Lexer.Token → Type 0
Read s from i x = TakesTo (tokens (drop from s) idle) s from (record { token = x; next = i + 1 })

abbrev pub Marked : Kind → List ℕ → ℕ → ℕ → Type 0
Marked K.Blank s from i = Skipping s from (i + 1)
Marked K.Quote s from i = tokens (drop from s) idle ≡ tokens (drop (i + 1) s) comment
Marked K.Open s from i = Read s from i T.Open
Marked K.Close s from i = Read s from i T.Close
Marked K.Semicolon s from i = Read s from i T.Semicolon
Marked K.Colon s from i = Read s from i T.Colon
Marked K.Operator s from i = Read s from i (T.Operator (get_or s i 0))
Marked K.Access s from i = Stands access_byte (get_or s i 0) (λ a. begins ∷ tokens (drop (i + 1) s) (after-access a)) (tokens (drop from s) idle)
Marked K.Condition s from i = Read s from i (T.Condition (get_or s i 0))
Marked K.Letter s from i = Read s from i (T.Call (get_or s i 0))
Marked K.Dollar s from i = tokens (drop from s) idle ≡ begins ∷ tokens (drop (i + 1) s) (number counter_form 0 0)
Marked K.Tick s from i = tokens (drop from s) idle ≡ begins ∷ tokens (drop (i + 1) s) after-tick
Marked K.Digit s from i = tokens (drop from s) idle ≡ faults StrayMark ∷ []
Marked K.Stray s from i = tokens (drop from s) idle ≡ faults StrayMark ∷ []

module _ (s : List ℕ) (from i : ℕ) (skipped : Skipping s from i) (h : i < length s) (fits : get_or s i 0 < 256) where
  whole : (x : Lexer.Token) → Means s x (tokens (drop from s) idle) (tokens (drop (i + 1) s) idle) → Read s from i x
  whole x q = record { means = q; further = λ _. omega (arith, skipped.after); inside = λ _. omega arith }

  here : (c : Class) → class (get_or s i 0) ≡ c → tokens (drop from s) idle ≡ first c (λ m. tokens (drop (i + 1) s) m)
  here c e = sym skipped.same ∙ tokens-first s i h c e

  by-kind : (k : Kind) → Sorted k (get_or s i 0) → Marked k s from i
  unfolding first
  by-kind K.Blank e = record { after = omega (arith, skipped.after); inside = λ _. omega arith; same = sym (here _ e) }
  by-kind K.Quote e = here _ e
  by-kind K.Open e = whole T.Open (here _ e)
  by-kind K.Close e = whole T.Close (here _ e)
  by-kind K.Semicolon e = whole T.Semicolon (here _ e)
  by-kind K.Colon e = whole T.Colon (here _ e)
  by-kind K.Operator q = whole (T.Operator (get_or s i 0)) (record { mark = q.mark; byte-is = q.byte-is; here-is = here _ q.here-is })
  by-kind K.Access q = record { mark = q.mark; byte-is = q.byte-is; here-is = here _ q.here-is }
  by-kind K.Condition q = whole (T.Condition (get_or s i 0)) (record { mark = q.mark; byte-is = q.byte-is; here-is = here _ q.here-is })
  by-kind K.Letter q = whole (T.Call (get_or s i 0)) (record { mark = q.mark; byte-is = q.byte-is; here-is = here _ q.here-is })
  by-kind K.Dollar e = here _ e
  by-kind K.Tick e = here _ e
  by-kind K.Digit e = here _ e
  by-kind K.Stray e = here _ e

  -- what `kind_of` found says what stands there
  pub marked : (k : Kind) → k ≡ kind_of (get_or s i 0) → Marked k s from i
  marked k e = by-kind k (subst (λ k. Sorted k (get_or s i 0)) (sym e) (sorted (get_or s i 0) fits))
