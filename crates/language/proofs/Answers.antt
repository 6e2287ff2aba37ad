-- The numbers of faults: 2 to 9.
use mathlib.Core.Path.{◌≡◌, refl, sym, ap, ◌∙◌}
use mathlib.Core.Bool.{true, false≢true}
use Rattle.language.specs.Between.{between}
use Rattle.language.specs.declared.Fault.{Fault}
use Rattle.language.specs.declared.Fault.TheVariants.{LongText, StrayMark, Deep, BadCounter, BadConstant, Unfinished, TableFull, ManyCounters}
use Rattle.language.specs.Answers.{fault_number}

pub fault-bounds : (f : Fault) → between 2 9 (fault_number f) ≡ true
fault-bounds LongText = refl
fault-bounds StrayMark = refl
fault-bounds Deep = refl
fault-bounds BadCounter = refl
fault-bounds BadConstant = refl
fault-bounds Unfinished = refl
fault-bounds TableFull = refl
fault-bounds ManyCounters = refl

-- no fault's number is 0
pub fault-not-zero : (f : Fault) → fault_number f ≡ 0 → ⊥
fault-not-zero f e = false≢true (ap (between 2 9) (sym e) ∙ fault-bounds f)
