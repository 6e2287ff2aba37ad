-- What the functions over lent arrays do to an entry.
use Rattle.std.specs.Prelude.{◌≡◌, ⊤, ℕ, List, ℤ, Result, Ok, Err}
use Rattle.language.specs.declared.Fault.{Fault}
use Rattle.language.specs.declared.Table.{Table}
use Rattle.book.specs.Store.{store_of, with_entry}

-- the entry of letter k becomes that of the table t with the permission m, whatever the variables
abbrev pub Puts : List ℤ → List ℕ → List ℕ → ℕ → Table → ℕ → List ℤ → List ℕ → List ℕ → Type 0
Puts c u ms k t m c' u' ms' = (v : List ℤ) → store_of c' u' ms' v ≡ with_entry (store_of c u ms v) k (record { table = t; permission = m })

-- the same with what a text links to, or its fault, and nothing changes
abbrev pub PutsText : List ℤ → List ℕ → List ℕ → ℕ → Result Table Fault → ℕ → Result ⊤ Fault → List ℤ → List ℕ → List ℕ → Type 0
PutsText c u ms k (Ok t) m r c' u' ms' = (r ≡ Ok tt) × Puts c u ms k t m c' u' ms'
PutsText c u ms k (Err e) m r c' u' ms' = (r ≡ Err e) × (c' ≡ c) × (u' ≡ u) × (ms' ≡ ms)
