-- What holds of every session holds of those of `Store`.
use Rattle.book.specs.Demand3.{ByTheBook, RefusedExactly, ObeysStanding}
use Rattle.book.proofs.Demand3 as Book
use Rattle.interpreter.specs.Claims.{ObeysNone}
use Rattle.interpreter.proofs.Claims as Interpreter
use Rattle.engine.specs.declared.Store.{Store}
use Rattle.engine.specs.Stored.{stored, OfStore}

-- demand 3
pub demand-3 : OfStore ByTheBook
demand-3 = Book.demand-3 Store stored

pub refused-exactly : OfStore RefusedExactly
refused-exactly = Book.refused-exactly Store stored

pub obeys-standing : OfStore ObeysStanding
obeys-standing = Book.obeys-standing Store stored

-- document 02, U7
pub obeys-none : OfStore ObeysNone
obeys-none = Interpreter.obeys-none Store stored
