-- Events: what a history is a list of.
use Rattle.std.specs.Prelude.{List, ℤ}
use Rattle.book.specs.Calls.{Call}
use Rattle.book.specs.Replies.{Answered}
use Rattle.book.specs.Book.{Book, book_call}
use Rattle.book.specs.Store.{Store, store_call}

-- what is asked of a store or a book: a call
pub data Event : Type 0 where
  calls : Call → Event

-- What answers events, a store or a book: how it answers a call, and its variables.
pub record Answering (S : Type 0) : Type 0 where
  pub call : S → Call → Answered S
  pub variables : S → List ℤ

-- what an event comes to
abbrev pub asked : {S : Type 0} → Answering S → S → Event → Answered S
asked a s (calls c) = a.call s c

-- the store
abbrev pub the_store : Answering Store
the_store = record { call = store_call; variables = λ (st : Store). st.variables }

-- the book
abbrev pub the_book : Answering Book
the_book = record { call = book_call; variables = λ (b : Book). b.variables }
