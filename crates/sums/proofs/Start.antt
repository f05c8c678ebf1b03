-- Where the search for w starts: at the constant part plus the lengths of the rows above, for each of their rounded-up quotients is at
-- least 1.
-- Assumes nothing.
use Rattle.std.specs.Prelude.{ℕ, ◌+◌, ◌≤◌, ◌<◌}
use Rattle.std.proofs.Common.{arith}
use Rattle.sums.specs.Masks.{Mask}
use Rattle.sums.specs.Sums.{sum_over, load, demand}
use Rattle.sums.specs.Laws.{sum_mono}
use Rattle.sums.proofs.Loads.{load_once}
use Rattle.sums.specs.Climb.{OnWay, from_below}

module _ (n : ℕ) (C T J : ℕ → ℕ) (base : ℕ) (above : Mask) (T_pos : (k : ℕ) → k < n → 0 < T k) where
  -- F is nowhere below that
  demand_least : (w : ℕ) → base + sum_over n above C ≤ demand n C T J base above w
  unfolding demand
  demand_least w = omega (arith, sum_mono n above above C (load C T J w) (λ k _ t. t) (λ k l _. load_once C T J w k (T_pos k l)))

  -- so no solution lies below it, and the search may climb from there
  pub start_on_way : OnWay (demand n C T J base above) (base + sum_over n above C)
  start_on_way = from_below _ _ demand_least
