-- What holds of every session holds of the library's.
use Rattle.book.specs.Store.{Store}
use Rattle.book.specs.Demand3.{ByTheBook, RefusedExactly, ObeysStanding}
use Rattle.book.proofs.Demand3 as Book
use Rattle.interpreter.specs.Claims.{ObeysNone}
use Rattle.interpreter.proofs.Claims as Interpreter
use Rattle.reach.specs.Claims.{EndsNoText}
use Rattle.reach.proofs.Claims as Reach
use Rattle.rec.specs.Sessions.{held, OfLibrary}

-- demand 3
pub demand-3 : OfLibrary ByTheBook
demand-3 = Book.demand-3 Store held

pub refused-exactly : OfLibrary RefusedExactly
refused-exactly = Book.refused-exactly Store held

pub obeys-standing : OfLibrary ObeysStanding
obeys-standing = Book.obeys-standing Store held

-- document 02, U2
pub ends-no-text : OfLibrary EndsNoText
ends-no-text = Reach.ends-no-text Store held

-- document 02, U7
pub obeys-none : OfLibrary ObeysNone
obeys-none = Interpreter.obeys-none Store held
