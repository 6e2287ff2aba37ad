-- A text linked into lent places, as C asks for it.
use Rattle.std.specs.Prelude.{Result, Ok, Err, List, ℕ, min, ℤ, length}
use Rattle.std.proofs.Math.Seq.{paste}
use Rattle.language.specs.declared.Fault.{Fault}
use Rattle.language.specs.declared.Table.{Table}
use Rattle.language.specs.Answers.{fault_number}
use Rattle.language.specs.Layout.{layout}
use Rattle.language.specs.Limits.{max_cells}
use Rattle.language.specs.Reading.{Reading, refused, accepted}

-- the answer of a link and the lent places
pub record LinkedOver : Type 0 where
  pub answer : Result ℕ Fault
  pub places : List ℤ

-- both together
abbrev pub links_over : Result ℕ Fault → List ℤ → LinkedOver
links_over r p = record { answer = r; places = p }

-- What a text links to, over the lent places p: its used-cell count, and in the places the table's cells, up to 250 of them; or its fault, and the places
-- as they were.
abbrev pub linked_over : List ℤ → Result Table Fault → LinkedOver
linked_over p (Ok t) = links_over (Ok t.used) (paste p 0 t.cells (min max_cells (length p)))
linked_over p (Err r) = links_over (Err r) p

-- the number that is returned, the used-cell count and the lent places
pub record LinkedInto : Type 0 where
  pub number : ℕ
  pub used : ℕ
  pub places : List ℤ

-- these three together
abbrev pub links_into : ℕ → ℕ → List ℤ → LinkedInto
links_into n u p = record { number = n; used = u; places = p }

-- A text read, over the lent places p: "A refusal of any call returns its number, every other figure 0", and the places are as they were; of an accepted
-- text they hold the table's cells, up to 250 of them.
abbrev pub linked_into : List ℤ → Reading → LinkedInto
linked_into p (refused r) = links_into (fault_number r) 0 p
linked_into p (accepted w) = links_into 0 (layout w).used (paste p 0 (layout w).cells (min max_cells (length p)))
