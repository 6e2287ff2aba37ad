-- A text linked into lent places, from its bytes on, with every figure written out.
use Rattle.std.specs.Prelude.{◌≡◌, List, [], ◌∷◌, ℕ, ℤ, pos, replicate, take, drop}
use Rattle.language.specs.Trials.{bytes}
use Rattle.language.specs.Reading.{read}
use Rattle.linker.specs.Into.{LinkedInto, links_into, linked_into}

-- so many places that hold 9
abbrev pub nines : ℕ → List ℤ
nines n = replicate n (pos 9)

-- links of `(:)` and of texts that are refused, over 2, 5 and no places
abbrev pub links : List LinkedInto
links =
    linked_into (nines 2) (read (bytes "(:)"))
    ∷ linked_into [] (read (bytes "(:)"))
    ∷ linked_into (nines 2) (read (bytes "(:"))
    ∷ linked_into (nines 5) (read (bytes "'"))
    ∷ []

-- the used-cell count with an accepted text, also where not all its cells find room; a refused one leaves the places as they were
abbrev pub links_due : List LinkedInto
links_due =
    links_into 0 4 (pos 2000 ∷ pos 2 ∷ [])
    ∷ links_into 0 4 []
    ∷ links_into 7 0 (pos 9 ∷ pos 9 ∷ [])
    ∷ links_into 3 0 (pos 9 ∷ pos 9 ∷ pos 9 ∷ pos 9 ∷ pos 9 ∷ [])
    ∷ []

-- proofs/Examples `links-hold`
abbrev pub LinksHold : Type 0
LinksHold = links ≡ links_due

-- of 252 places the last two stay. proofs/Examples `link-of-more`
abbrev pub LinkOfMore : Type 0
LinkOfMore =
    (take 4 (linked_into (nines 252) (read (bytes "(:)"))).places ≡ pos 2000 ∷ pos 2 ∷ pos 0 ∷ pos 1 ∷ [])
    × (drop 248 (linked_into (nines 252) (read (bytes "(:)"))).places ≡ pos 0 ∷ pos 0 ∷ pos 9 ∷ pos 9 ∷ [])
