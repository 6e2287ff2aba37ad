-- The numbers of documents 01 and 02 for faults of a text and for endings. Those of refused calls stand in `book`.
use Rattle.std.specs.Prelude.{ℕ}
use Rattle.language.specs.declared.Fault.{Fault}
use Rattle.language.specs.declared.Fault.TheVariants.{LongText, StrayMark, Deep, BadCounter, BadConstant, Unfinished, TableFull, ManyCounters}
use Rattle.language.specs.declared.Ending.{Ending}
use Rattle.language.specs.declared.Ending.TheVariants.{Finished, Spent, ListEmpty, ListFull, Range, ZeroDivisor, NoInput, PaperOut, NoText, DeepCalls, Damaged, StewardCall}

-- "Numbers 1 to 14 refuse": those of a text's first fault
abbrev pub fault_number : Fault → ℕ
fault_number LongText = 2
fault_number StrayMark = 3
fault_number Deep = 4
fault_number BadCounter = 5
fault_number BadConstant = 6
fault_number Unfinished = 7
fault_number TableFull = 8
fault_number ManyCounters = 9

-- "Finished is 0." "20 to 29 end a run"; document 02, U7: "34 steward call, an ending"
abbrev pub ending_number : Ending → ℕ
ending_number Finished = 0
ending_number Spent = 20
ending_number ListEmpty = 21
ending_number ListFull = 22
ending_number Range = 23
ending_number ZeroDivisor = 24
ending_number NoInput = 25
ending_number PaperOut = 26
ending_number NoText = 27
ending_number DeepCalls = 28
ending_number Damaged = 29
ending_number StewardCall = 34
