-- Histories: what was asked of a store since it was fresh, what was answered, and which texts stand then.
use Rattle.std.specs.Prelude.{ℕ, cond, ◌&&◌, List, [], ◌∷◌, eqb}
use Rattle.std.proofs.Math.Option.{Option, none, some}
use Rattle.language.specs.Roles.{open_permission}
use Rattle.language.specs.Syntax.{Expr}
use Rattle.language.specs.Reading.{read, expr_of}
use Rattle.book.specs.Calls.{defines, withdraws, runs}
use Rattle.book.specs.Replies.{Reply}
use Rattle.book.specs.Store.{Store}
use Rattle.book.specs.Events.{Event, calls}

-- events, their answers, and the store that they left
pub record History : Type 0 where
  pub events : List Event
  pub replies : List Reply
  pub store : Store

-- ── what stands ─────────────────────────────────────────────────────────────────────────────────

-- a text that stands, with the permission that its define gave its letter
pub record Standing : Type 0 where
  pub permission : ℕ
  pub text : List ℕ

-- A text stands from its accepted define to the next accepted define or withdraw of its letter. Accepted is answered 0. After an event and its
-- answer, what stands of letter l where x stood before:
abbrev pub stands_after : ℕ → Option Standing → Event → Reply → Option Standing
stands_after l x (calls (defines m k t)) r = cond (eqb m l && eqb r.report.number 0) (some (record { permission = k; text = t })) x
stands_after l x (calls (withdraws m)) r = cond (eqb m l && eqb r.report.number 0) none x
stands_after l x (calls (runs y)) r = x

-- after a list of events and their answers
abbrev pub standing_from : Option Standing → List Event → List Reply → ℕ → Option Standing
standing_from x [] rs l = x
standing_from x (e ∷ es) [] l = x
standing_from x (e ∷ es) (r ∷ rs) l = standing_from (stands_after l x e r) es rs l

-- the text of letter l that stands at the end of a history, if one does
abbrev pub standing : History → ℕ → Option Standing
standing h l = standing_from none h.events h.replies l

-- a text's expression, if one stands and is accepted
abbrev pub read_text : Option Standing → Option Expr
read_text none = none
read_text (some x) = expr_of (read x.text)

-- the permission that a text stands with; a letter without a text is open
abbrev pub permission_of : Option Standing → ℕ
permission_of none = open_permission
permission_of (some x) = x.permission
