-- What conditions and counters answer.
use mathlib.Core.Path.{◌≡◌, refl}
use mathlib.Core.Bool.{true, false}
use Prim.Native.Nat.{ℕ, suc, ◌+◌, ◌-◌, ◌<◌, ◌≤◌}
use native.Mathlib.Omega.{arith}
use lib.ListN.{get_or, set}
use borrow.Author.Tests.{lt-ltb, le-ltb}
use Rattle.language.specs.Syntax.{condition, counter}
use Rattle.language.specs.Effects.{State, answers, asked, with_counts, count_index, ask}
use Rattle.operands.proofs.Operands.{counter-bounds}
use Rattle.predicates.specs.declared.conditions.Condition.{Condition}
use Rattle.predicates.specs.declared.conditions.Condition.TheVariants.{Negative, Null, Equal}
use Rattle.predicates.specs.Conditions.{condition_of, needed, holding}

-- `N 0 J`
pub condition-asked : (l : ℕ) (g : Condition) (s : State) → ask l (condition (condition_of g)) s ≡ asked (needed g) s (holding g s.stack s.height)
unfolding ask
condition-asked l Negative s = refl
condition-asked l Null s = refl
condition-asked l Equal s = refl

-- ── counters ────────────────────────────────────────────────────────────────────────────────────

module _ (s : State) (l n k : ℕ) (some : 0 < n) where
  is-n : suc (n - 1) ≡ n
  is-n = omega arith

  -- a counter that is true
  pub count-true : get_or s.counts (count_index l k) 0 < n
      → ask l (counter (n - 1) k) s ≡ answers true (with_counts s (set s.counts (count_index l k) (get_or s.counts (count_index l k) 0 + 1)))
  unfolding ask
  count-true h = rw (is-n, lt-ltb _ n h)

  -- a counter that is false
  pub count-false : n ≤ get_or s.counts (count_index l k) 0
      → ask l (counter (n - 1) k) s ≡ answers false (with_counts s (set s.counts (count_index l k) 0))
  unfolding ask
  count-false h = rw (is-n, le-ltb _ n h)

-- what is known of a counter that was read
pub ruleset counted = (counter-bounds)
