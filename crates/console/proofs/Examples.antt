-- The examples hold, by computation.
use mathlib.Core.Path.{refl}
use Rattle.language.specs.Values.{is_value, lawful}
use Rattle.language.specs.Effects.{perform, ask}
use Rattle.book.specs.Book.{fresh_book, book_call}
use Rattle.commands.specs.Served.{desk_line}
use Rattle.console.specs.Day.{lines_from, session, day_from, day_of}
use Rattle.console.specs.Examples.{Hold, days, LastLinePrints}

pub days-hold : Hold days
unfolding day_of day_from session lines_from desk_line fresh_book is_value lawful perform ask book_call
days-hold = refl

pub last-line-prints : LastLinePrints
unfolding day_from session lines_from desk_line fresh_book is_value lawful perform ask book_call
last-line-prints = refl
