-- Which refusal a call meets: the numbers, and the tests in their order, one list for the store and the book.
use Rattle.std.specs.Prelude.{ℕ, Result, Ok, Err, Bool, true, false, not, ◌||◌, List, [], ◌∷◌, ◌++◌, ℤ, length, eqb}
use Rattle.std.proofs.Math.Option.{Option, none, some}
use Rattle.language.specs.Answers.{fault_number}
use Rattle.language.specs.Between.{between}
use Rattle.language.specs.Limits.{max_height}
use Rattle.language.specs.Letters.{is_letter, letter_index}
use Rattle.language.specs.Values.{lawful}
use Rattle.language.specs.Roles.{is_permission, is_role, bars}
use Rattle.language.specs.Reading.{Reading, refused, accepted, read}
use Rattle.book.specs.declared.Refusal.{Refusal}
use Rattle.book.specs.declared.Refusal.TheVariants.{NoSuchLetter, BadText, NotStanding, BadInput, BadList, BadStore, NotForCashiers, BadMark}
use Rattle.book.specs.Calls.{Run, Call, defines, withdraws, runs}
use Rattle.book.specs.Replies.{Answered, leaves, tells}

-- ── numbers ─────────────────────────────────────────────────────────────────────────────────────

-- "Numbers 1 to 14 refuse"; document 02, U7: "33 not for cashiers", "35 bad mark"
abbrev pub refusal_number : Refusal → ℕ
refusal_number NoSuchLetter = 1
refusal_number (BadText f) = fault_number f
refusal_number NotStanding = 10
refusal_number BadInput = 11
refusal_number BadList = 12
refusal_number BadStore = 13
refusal_number NotForCashiers = 33
refusal_number BadMark = 35

-- "Define and withdraw return 0 or a refusal"
abbrev pub answer_number : Result Unit Refusal → ℕ
answer_number (Ok u) = 0
answer_number (Err r) = refusal_number r

-- a number that refuses; 14 is a desk line's
abbrev pub is_refusal : ℕ → Bool
is_refusal n = between 1 14 n || eqb n (refusal_number NotForCashiers) || eqb n (refusal_number BadMark)

-- ── tests ───────────────────────────────────────────────────────────────────────────────────────

-- the refusal r, unless the test holds
abbrev pub unless : Bool → Refusal → Option Refusal
unless true r = none
unless false r = some r

-- the refusal of a text, if it has one
abbrev pub fault_of : Reading → Option Refusal
fault_of (refused f) = some (BadText f)
fault_of (accepted w) = none

-- the first refusal of a list, if it has one
abbrev pub first : List (Option Refusal) → Option Refusal
first [] = none
first (none ∷ l) = first l
first (some r ∷ l) = some r

-- What the tests ask of a store or a book: whether it is sound, which letters stand, and the letters' permissions, a as 0.
pub record View : Type 0 where
  pub sound : Bool
  pub stands : ℕ → Bool
  pub permission : ℕ → ℕ

-- "Order: 13, 1": what every call on a store opens with
abbrev pub opening : View → ℕ → List (Option Refusal)
opening v l = unless v.sound BadStore ∷ unless (is_letter l) NoSuchLetter ∷ []

-- document 02, U7: "35 bad mark, a mark or role neither of the two, directly after 1"; a define's mark is the letter's permission
abbrev pub mark_tests : View → ℕ → ℕ → List (Option Refusal)
mark_tests v l k = opening v l ++ (unless (is_permission k) BadMark ∷ [])

-- and the role of a run's caller
abbrev pub role_tests : View → ℕ → ℕ → List (Option Refusal)
role_tests v l r = opening v l ++ (unless (is_role r) BadMark ∷ [])

-- "not standing: withdraw or run of a cleared letter"
abbrev pub not_standing : View → ℕ → Option Refusal
not_standing v l = unless (v.stands (letter_index l)) NotStanding

-- "then .. for withdraw 10": what a call that needs a letter's text opens with
abbrev pub text_tests : View → ℕ → List (Option Refusal)
text_tests v l = opening v l ++ (not_standing v l ∷ [])

-- "for run 10, 11, 12"; document 02, U7: "33 not for cashiers, a cashier runs a steward letter, directly after 10"
abbrev pub closing : View → Run → List (Option Refusal)
closing v x =
    not_standing v x.letter ∷ unless (not (bars x.role (v.permission (letter_index x.letter)))) NotForCashiers
    ∷ unless (lawful x.inputs) BadInput ∷ unless (eqb (length x.list) max_height) BadList ∷ []

-- "Order: 13, 1, then for define 2 and the text left to right; for withdraw 10; for run 10, 11, 12."
unfoldable pub tests : View → Call → List (Option Refusal)
unfolding is_permission is_role bars
tests v (defines l k t) = mark_tests v l k ++ (fault_of (read t) ∷ [])
tests v (withdraws l) = text_tests v l
tests v (runs x) = role_tests v x.letter x.role ++ closing v x

-- the refusal that a call meets, if one fits
unfoldable pub refusal : View → Call → Option Refusal
unfolding tests
refusal v c = first (tests v c)

-- ── answers ─────────────────────────────────────────────────────────────────────────────────────

-- 0, or the number of a refusal
abbrev pub zero_or : Option Refusal → ℕ
zero_or none = 0
zero_or (some r) = refusal_number r

-- 0, or the number of the first refusal of a list
abbrev pub refused_by : List (Option Refusal) → ℕ
refused_by l = zero_or (first l)

-- The answer to a call of s, a store or a book with the variables v, that is refused or else comes to x. "A call refused .. answers its number as
-- said there and leaves the book, and any list and output, as they were."
unfoldable pub answer : {S : Type 0} → Option Refusal → S → List ℤ → Call → Answered S → Answered S
unfolding tells
answer none s v c x = x
answer (some r) s v c x = leaves s (tells (refusal_number r) c v)
