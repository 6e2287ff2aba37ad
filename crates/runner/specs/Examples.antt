-- The figures of a run for C, written out.
use Rattle.std.specs.Prelude.{◌≡◌, true, false, [], ◌∷◌}
use Rattle.runner.specs.Figures.{figures_of}

-- truth, steps, height, taken, written. proofs/Examples `figures-hold`
abbrev pub FiguresHold : Type 0
FiguresHold =
    (figures_of (record { number = 20; truth = true; steps = 2; height = 3; taken = 4; written = 5 }) ≡ 1 ∷ 2 ∷ 3 ∷ 4 ∷ 5 ∷ [])
    × (figures_of (record { number = 20; truth = false; steps = 2; height = 3; taken = 4; written = 5 }) ≡ 0 ∷ 2 ∷ 3 ∷ 4 ∷ 5 ∷ [])
