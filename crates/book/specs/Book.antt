-- The book: the reference model that demand 3 measures the program by.
use Rattle.std.specs.Prelude.{ℕ, suc, Bool, true, false, List, ℤ, pos, get_or, set, replicate}
use Rattle.std.proofs.Math.Option.{Option, none, some}
use Rattle.language.specs.declared.Ending.TheVariants.{NoText}
use Rattle.language.specs.Limits.{max_letters, max_variables}
use Rattle.language.specs.Letters.{letter_index}
use Rattle.language.specs.Roles.{open_permission, permission_at}
use Rattle.language.specs.Syntax.{Expr}
use Rattle.language.specs.Reading.{read, expr_of}
use Rattle.language.specs.Effects.{start}
use Rattle.language.specs.Meaning.{Outcome, stopped, meaning}
use Rattle.book.specs.Calls.{Run, Call, defines, withdraws, runs}
use Rattle.book.specs.Replies.{Reply, Answered, leaves, reported, tells}
use Rattle.book.specs.Refusals.{View, refusal, answer}

-- "It keeps at most one text for each letter, and ten variables." A text is kept as the expression that it is read to. Document 02, U7: "the book keeps
-- each mark beside its text".
pub record Book : Type 0 where
  pub texts : List (Option Expr)
  pub permissions : List ℕ
  pub variables : List ℤ

-- "a fresh book has no text; the variables of both are 0"; "a fresh store's marks are open"
unfoldable pub fresh_book : Book
fresh_book =
    record { texts = replicate max_letters none; permissions = replicate max_letters open_permission; variables = replicate max_variables (pos 0) }

-- the text of letter a, if there is one: "To the book a cleared letter is one without a text."
unfoldable pub text_of : List (Option Expr) → ℕ → Option Expr
text_of ts a = get_or ts a none

-- a text is there
abbrev pub is_text : Option Expr → Bool
is_text none = false
is_text (some w) = true

-- the book with another text of letter a, or none, and the permission k beside it
unfoldable pub with_text : Book → ℕ → Option Expr → ℕ → Book
with_text b a x k = record { texts = set b.texts a x; permissions = set b.permissions a k; variables = b.variables }

-- the book with other variables
unfoldable pub with_variables : Book → List ℤ → Book
with_variables b v = record { texts = b.texts; permissions = b.permissions; variables = v }

-- "Any other run obeys its letter's text by the nested meaning, over the book's texts and variables", with its role and the book's permissions. (A letter
-- without a text is refused before.)
unfoldable pub obeyed : Book → Run → Option Expr → Outcome
unfolding meaning start text_of
obeyed b x none = stopped NoText (start b.variables x.inputs x.output) x.allowance
obeyed b x (some w) =
    meaning (text_of b.texts) (permission_at b.permissions) x.role (suc x.allowance) (letter_index x.letter) w 0
    (start b.variables x.inputs x.output) x.allowance

-- what a run answers
unfoldable pub book_ran : Book → Run → Reply
unfolding reported obeyed text_of
book_ran b x = reported b.variables x.allowance (obeyed b x (text_of b.texts (letter_index x.letter)))

-- A call that is not refused. "Any other define is accepted: its text replaces its letter's, answer 0", with the mark "set by define". "Any other
-- withdraw is accepted: its letter's text goes, answer 0." "Withdraw clears the mark to open." "If it finishes, the book keeps the variables it leaves."
unfoldable pub book_accepts : Book → Call → Answered Book
unfolding tells with_text with_variables book_ran read expr_of
book_accepts b (defines l k t) = leaves (with_text b (letter_index l) (expr_of (read t)) k) (tells 0 (defines l k t) b.variables)
book_accepts b (withdraws l) = leaves (with_text b (letter_index l) none open_permission) (tells 0 (withdraws l) b.variables)
book_accepts b (runs x) = leaves (with_variables b (book_ran b x).variables) (book_ran b x)

-- what the tests of a call ask of a book; to it the store is always sound: "13 never fits here"
abbrev pub book_view : Book → View
book_view b = record { sound = true; stands = λ a. is_text (text_of b.texts a); permission = permission_at b.permissions }

-- any call
unfoldable pub book_call : Book → Call → Answered Book
unfolding refusal answer book_accepts text_of
book_call b c = answer (refusal (book_view b) c) b b.variables c (book_accepts b c)
