-- Sessions: lists of calls with their answers, of anything that answers calls of some kind.
use Rattle.std.specs.Prelude.{◌≡◌, List, [], ◌∷◌, map}
use Rattle.book.specs.Replies.{Reply, Answered, leaves}

-- ── by definition ───────────────────────────────────────────────────────────────────────────────

-- the answers to a list of calls, where f says what one comes to; each later call is one of the state that the call before left
unfoldable pub answers : {S C : Type 0} → (S → C → Answered S) → S → List C → List Reply
answers f s [] = []
answers f s (c ∷ cs) = (f s c).reply ∷ answers f (f s c).kept cs

-- the state that a list of calls leaves
unfoldable pub after : {S C : Type 0} → (S → C → Answered S) → S → List C → S
after f s [] = s
after f s (c ∷ cs) = after f (f s c).kept cs

-- ── of a program ────────────────────────────────────────────────────────────────────────────────

-- A step of a program with states P: a call, the state that it left, and "all that the call returns beside the store".
pub record Step (P C : Type 0) : Type 0 where
  pub call : C
  pub state : P
  pub reply : Reply

-- what was asked
abbrev pub calls_of : {P C : Type 0} → List (Step P C) → List C
calls_of ss = map (λ x. x.call) ss

-- what was answered
abbrev pub replies_of : {P C : Type 0} → List (Step P C) → List Reply
replies_of ss = map (λ x. x.reply) ss

-- the state that the last step left
abbrev pub last_of : {P C : Type 0} → P → List (Step P C) → P
last_of s [] = s
last_of s (x ∷ ss) = last_of x.state ss

-- Each step keeps its promise: it leaves and answers what f says, over the state that the step before left. `of` says which state of f a program's is.
abbrev pub Promised : {P S C : Type 0} → (P → S) → (S → C → Answered S) → P → List (Step P C) → Type 0
Promised of f s [] = Unit {0}
Promised of f s (x ∷ ss) = (leaves (of x.state) x.reply ≡ f (of s) x.call) × Promised of f x.state ss

-- the steps from s on answered and left what f says
pub record Follows {P S C : Type 0} (of : P → S) (f : S → C → Answered S) (s : P) (ss : List (Step P C)) : Type 0 where
  pub replies : replies_of ss ≡ answers f (of s) (calls_of ss)
  pub last : of (last_of s ss) ≡ after f (of s) (calls_of ss)

-- THE TRANSFER: what each step promises, the session keeps. So a claim about lists of calls is one about the program. proofs/Sessions `transfer`
abbrev pub Transfer : Type 1
Transfer =
    (P S C : Type 0) (of : P → S) (f : S → C → Answered S) (s : P) (ss : List (Step P C)) → Promised of f s ss → Follows of f s ss
