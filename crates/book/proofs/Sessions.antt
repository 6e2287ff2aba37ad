-- What each step promises, the session keeps.
use mathlib.Core.Path.{◌≡◌, refl, ap, ◌∙◌}
use mathlib.Core.List.{List, [], ◌∷◌, map}
use Rattle.book.specs.Calls.{Call}
use Rattle.book.specs.Replies.{Answered}
use Rattle.book.specs.Events.{calls, Answering, asked}
use Rattle.book.specs.Sessions.{answers, after, Step, calls_of, replies_of, last_of, Promised, Transfer}

module _ {P S C : Type 0} (of : P → S) (f : S → C → Answered S) where
  same-replies : (s : P) (ss : List (Step P C)) → Promised of f s ss → replies_of ss ≡ answers f (of s) (calls_of ss)
  unfolding answers
  same-replies s [] h = refl
  same-replies s (x ∷ ss) h =
      let e = same-replies x.state ss h.1 ∙ ap (λ (z : Answered S). answers f z.kept (calls_of ss)) h.0 in
      λ i. (h.0 i).reply ∷ e i

  same-last : (s : P) (ss : List (Step P C)) → Promised of f s ss → of (last_of s ss) ≡ after f (of s) (calls_of ss)
  unfolding after
  same-last s [] h = refl
  same-last s (x ∷ ss) h = same-last x.state ss h.1 ∙ ap (λ (z : Answered S). after f z.kept (calls_of ss)) h.0

pub transfer : Transfer
transfer P S C of f s ss h = record { replies = same-replies of f s ss h; last = same-last of f s ss h }

-- ── calls alone ─────────────────────────────────────────────────────────────────────────────────

-- a list of events that are calls is answered as the calls are
pub as-calls : {S : Type 0} (a : Answering S) (s : S) (cs : List Call) → answers (asked a) s (map calls cs) ≡ answers a.call s cs
unfolding answers
as-calls a s [] = refl
as-calls a s (c ∷ cs) = ap (λ rs. (a.call s c).reply ∷ rs) (as-calls a (a.call s c).kept cs)
