-- The worked examples of calls hold, by computation.
use mathlib.Core.Path.{refl}
use Rattle.language.specs.Values.{is_value}
use Rattle.language.specs.Effects.{perform, ask}
use Rattle.language.specs.Machine.{decode}
use Rattle.book.specs.Book.{fresh_book, book_call}
use Rattle.book.specs.Store.{fresh_store, store_call}
use Rattle.book.specs.Sessions.{answers, after}
use Rattle.book.specs.Examples.{Hold, HoldLent, HoldKept, HoldFound, sessions, roles, lendings, keepings, damaged, spoilt, NumbersHold}

pub sessions-hold : Hold sessions
unfolding fresh_book fresh_store answers book_call store_call is_value perform ask decode
sessions-hold = refl

pub roles-hold : Hold roles
unfolding fresh_book fresh_store answers book_call store_call is_value perform ask decode
roles-hold = refl

pub lendings-hold : HoldLent lendings
unfolding fresh_book fresh_store answers book_call store_call is_value perform ask decode
lendings-hold = refl

pub keepings-hold : HoldKept keepings
unfolding fresh_book fresh_store after book_call store_call is_value perform ask decode
keepings-hold = refl

pub damaged-hold : HoldFound damaged
unfolding store_call is_value perform ask decode
damaged-hold = refl

pub spoilt-hold : HoldFound spoilt
unfolding store_call is_value perform ask decode
spoilt-hold = refl

pub numbers-hold : NumbersHold
numbers-hold = refl
