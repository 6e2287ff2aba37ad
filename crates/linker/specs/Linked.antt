-- What a text links to.
use Rattle.std.specs.Prelude.{ℕ, ⊤, Result, Ok, Err}
use Rattle.language.specs.declared.Fault.{Fault}
use Rattle.language.specs.declared.Table.{Table}
use Rattle.language.specs.Answers.{fault_number}
use Rattle.language.specs.Layout.{layout}
use Rattle.language.specs.Reading.{Reading, refused, accepted}

-- the code table of an accepted text, or the text's first fault
abbrev pub linked : Reading → Result Table Fault
linked (refused r) = Err r
linked (accepted w) = Ok (layout w)

-- whether a text is accepted, or its first fault
abbrev pub judged : Reading → Result ⊤ Fault
judged (refused r) = Err r
judged (accepted w) = Ok tt

-- document 01's number of a link, 0 where the text is accepted
abbrev pub link_number : Result Table Fault → ℕ
link_number (Ok t) = 0
link_number (Err r) = fault_number r
