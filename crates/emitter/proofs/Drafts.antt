-- The limits of the first pass: what each of its steps is on either side of one.
use mathlib.Core.Path.{◌≡◌, refl, ap}
use mathlib.Core.List.{List, [], ◌∷◌}
use Prim.Native.Nat.{ℕ, suc, ◌+◌, ◌-◌, ◌≤◌, ◌<◌}
use lib.IntN.{pos}
use lib.ListN.{length, drop, set}
use Rattle.std.proofs.lemmas.List.{drop_all}
use borrow.Author.Tests.{le-leb, lt-leb, lt-ltb, le-ltb, eq-eqb, ne_eqb}
use Rattle.std.specs.Prelude.{Ok, Err}
use Rattle.language.specs.Limits.{max_cells, max_levels, max_counters}
use Rattle.language.specs.declared.Fault.TheVariants.{Deep, TableFull, ManyCounters}
use Rattle.emitter.specs.declared.pass.Draft.{Draft}
use Rattle.emitter.specs.Drafts.{Cell, known, close_at, lay, fit, at_level, opened, closed, counter_cells, count_on, counted, known_bytes}
use Rattle.emitter.specs.Drafts.{pass_lay, pass_fit, pass_closed, pass_counted}

-- there is room for the cells
pub fit_room : (d : Draft) (cs : List Cell) → d.used + length cs ≤ max_cells → fit d cs ≡ Ok (lay d cs)
unfolding fit
fit_room d cs h = simp (le-leb _ _ h)

-- there is none
pub fit_full : (d : Draft) (cs : List Cell) → max_cells < d.used + length cs → fit d cs ≡ Err TableFull
unfolding fit
fit_full d cs h = simp (lt-leb _ _ h)

-- one level more
pub open_room : (d : Draft) → d.level < max_levels → opened d ≡ Ok (at_level d (d.level + 1) (set d.starts (d.level + 1) (pos (d.used + 1))))
unfolding opened
open_room d h = simp (lt-ltb _ _ h)

-- an 11th level
pub open_full : (d : Draft) → max_levels ≤ d.level → opened d ≡ Err Deep
unfolding opened
open_full d h = simp (le-ltb _ _ h)

-- the last `)`
pub close_last : (d : Draft) → d.level - 1 ≡ 0 → closed d ≡ fit (at_level d (d.level - 1) d.starts) (close_at (d.level - 1) ∷ known (pos 1) ∷ [])
unfolding closed
close_last d h = simp (eq-eqb (d.level - 1) 0 h)

-- an inner `)`
pub close_inner : (d : Draft) → (d.level - 1 ≡ 0 → ⊥) → closed d ≡ fit (at_level d (d.level - 1) d.starts) (close_at (d.level - 1) ∷ [])
unfolding closed
close_inner d h = simp (ne_eqb (d.level - 1) 0 h)

-- one counter more
pub count_room : (d : Draft) (n : ℕ) → d.counters < max_counters → counted d n ≡ fit (count_on d) (counter_cells n d.counters d.level)
unfolding counted
count_room d n h = simp (lt-ltb _ _ h)

-- a 17th
pub count_full : (d : Draft) (n : ℕ) → max_counters ≤ d.counters → counted d n ≡ Err ManyCounters
unfolding counted
count_full d n h = simp (le-ltb _ _ h)

-- a cell for each byte
pub bytes_length : (l : List ℕ) → length (known_bytes l) ≡ length l
bytes_length [] = refl
bytes_length (b ∷ l) = ap suc (bytes_length l)

-- once no bytes are left
pub bytes_past : (l : List ℕ) (i : ℕ) (d : Draft) → length l ≤ i → lay d (known_bytes (drop i l)) ≡ d
bytes_past l i d h = ap (λ b. lay d (known_bytes b)) (drop_all i l h)

-- ── the same of a pass ──────────────────────────────────────────────────────────────────────────

-- there is room for the cells
pub pass_fit_room : (d : Draft) (cs : List Cell) → d.used + length cs ≤ max_cells → pass_fit d cs ≡ Ok (pass_lay d cs)
unfolding pass_fit
pass_fit_room d cs h = simp (le-leb _ _ h)

-- there is none
pub pass_fit_full : (d : Draft) (cs : List Cell) → max_cells < d.used + length cs → pass_fit d cs ≡ Err TableFull
unfolding pass_fit
pass_fit_full d cs h = simp (lt-leb _ _ h)

-- the last `)`
pub pass_close_last : (d : Draft) → d.level - 1 ≡ 0
    → pass_closed d ≡ pass_fit (at_level d (d.level - 1) d.starts) (close_at (d.level - 1) ∷ known (pos 1) ∷ [])
unfolding pass_closed
pass_close_last d h = simp (eq-eqb (d.level - 1) 0 h)

-- an inner `)`
pub pass_close_inner : (d : Draft) → (d.level - 1 ≡ 0 → ⊥) → pass_closed d ≡ pass_fit (at_level d (d.level - 1) d.starts) (close_at (d.level - 1) ∷ [])
unfolding pass_closed
pass_close_inner d h = simp (ne_eqb (d.level - 1) 0 h)

-- one counter more
pub pass_count_room : (d : Draft) (n : ℕ) → d.counters < max_counters → pass_counted d n ≡ pass_fit (count_on d) (counter_cells n d.counters d.level)
unfolding pass_counted
pass_count_room d n h = simp (lt-ltb _ _ h)

-- a 17th
pub pass_count_full : (d : Draft) (n : ℕ) → max_counters ≤ d.counters → pass_counted d n ≡ Err ManyCounters
unfolding pass_counted
pass_count_full d n h = simp (le-ltb _ _ h)

-- once no bytes are left
pub pass_bytes_past : (l : List ℕ) (i : ℕ) (d : Draft) → length l ≤ i → pass_lay d (known_bytes (drop i l)) ≡ d
pass_bytes_past l i d h = ap (λ b. pass_lay d (known_bytes b)) (drop_all i l h)
