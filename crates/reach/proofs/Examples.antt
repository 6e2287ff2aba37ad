-- The worked examples of reports hold, by computation.
use mathlib.Core.Path.{refl}
use Rattle.language.specs.Values.{is_value, lawful}
use Rattle.language.specs.Reading.{read, expr_of}
use Rattle.language.specs.Machine.{decode}
use Rattle.book.specs.Store.{fresh_store, sound_store, store_call}
use Rattle.book.specs.Sessions.{after}
use Rattle.marks.specs.Marks.{marks, calls_in, undamaged}
use Rattle.reach.specs.Reach.{called_by, spread, spread_by, reached_by, missing_of, readable, reach}
use Rattle.reach.specs.Examples.{Hold, reports, changes, chains, strays}

pub reports-hold : Hold reports
unfolding read expr_of sound_store is_value lawful marks calls_in undamaged called_by spread spread_by reached_by missing_of readable reach decode
reports-hold = (refl, (refl, (refl, (refl, (refl, (refl, (refl, (refl, (refl, (refl, (refl, (refl, tt))))))))))))

pub changes-hold : Hold changes
unfolding fresh_store sound_store is_value lawful after store_call marks calls_in undamaged called_by spread spread_by reached_by missing_of readable reach decode
changes-hold = (refl, (refl, tt))

pub chains-hold : Hold chains
unfolding spread spread_by
chains-hold = (refl, (refl, (refl, (refl, (refl, tt)))))

pub strays-hold : Hold strays
unfolding sound_store is_value lawful marks calls_in undamaged called_by spread spread_by reached_by missing_of readable reach decode
strays-hold = (refl, (refl, (refl, (refl, (refl, (refl, (refl, (refl, (refl, (refl, (refl, (refl, (refl, (refl, (refl, (refl, (refl, tt)))))))))))))))))
