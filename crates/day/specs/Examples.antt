-- Days over lent outputs, with every figure written out.
use Rattle.std.specs.Prelude.{◌≡◌, List, [], ◌∷◌}
use Rattle.numerals.specs.Numerals.{Delivery, delivers}
use Rattle.day.specs.Played.{played}

-- a day of two bytes with three, two, one and no bytes of room, and a day of none
abbrev pub outputs : List Delivery
outputs = played (9 ∷ 9 ∷ 9 ∷ []) (1 ∷ 2 ∷ []) ∷ played (9 ∷ 9 ∷ []) (1 ∷ 2 ∷ []) ∷ played (9 ∷ []) (1 ∷ 2 ∷ []) ∷ played [] (1 ∷ 2 ∷ []) ∷ played (9 ∷ []) [] ∷ []

-- the bytes past the day stay; a refused day is 50, says no bytes, and leaves the output as it was
abbrev pub outputs_left : List Delivery
outputs_left = delivers 0 2 (1 ∷ 2 ∷ 9 ∷ []) ∷ delivers 0 2 (1 ∷ 2 ∷ []) ∷ delivers 50 0 (9 ∷ []) ∷ delivers 50 0 [] ∷ delivers 0 0 (9 ∷ []) ∷ []

-- proofs/Examples `outputs-hold`
abbrev pub OutputsHold : Type 0
OutputsHold = outputs ≡ outputs_left
