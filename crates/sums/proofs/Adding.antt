-- Adding up along a run as far as a cap, for what rows add within w and for their lengths alike: place by place, and the run behind on top
-- of the run before. Assumes nothing.
use Prim.Native.Nat.{ℕ, ◌+◌, ◌≤◌, ◌<◌}
use native.Mathlib.Nat.{le_refl}
use native.Mathlib.Omega.{arith}
use mathlib.Core.Path.{◌≡◌, refl, sym, subst}
use Rattle.sums.specs.Masks.{run, outside}
use Rattle.sums.specs.Sums.{sum_over}
use Rattle.sums.specs.Laws.{sum_part}
use Rattle.sums.specs.Runs.{run_none, run_next, sum_around}
use Rattle.sums.specs.Least.{DemandIs}
use Rattle.std.specs.Prelude.{Option}

-- before place k: `start` and the places passed, within the cap
pub record Added (f : ℕ → ℕ) (start from to cap k sum : ℕ) : Type 0 where
  pub begun : from ≤ k
  pub inside : k ≤ to
  pub within : sum ≤ cap
  pub is : sum ≡ start + sum_over k (run from to) f

module _ {f : ℕ → ℕ} {start from to cap : ℕ} where
  pub none_added : {k x : ℕ} → from ≤ to → start ≤ cap → x ≡ start → k ≡ from → Added f start from to cap k x
  none_added {k} {x} l h e is = subst (λ (j : ℕ). Added f start from to cap j x) (sym is) (record { begun = le_refl from; inside = l; within = omega arith; is = omega (arith, run_none ◌+◌ 0 refl from to f) })

  module _ {k sum y : ℕ} (h : Added f start from to cap k sum) (l : k < to) (next : y ≡ sum + f k) where
    one_more : y ≡ start + sum_over (k + 1) (run from to) f
    one_more = omega (arith, h.is, run_next ◌+◌ 0 refl from to f k h.begun l)

    pub next_added : {k' : ℕ} → k' ≡ k + 1 → y ≤ cap → Added f start from to cap k' y
    next_added k-is w = subst (λ (j : ℕ). Added f start from to cap j y) (sym k-is) (record { begun = omega (arith, h.begun); inside = omega arith; within = w; is = one_more })

    -- past the cap with one place more, past it with all
    pub next_past : cap < y → cap < start + sum_over to (run from to) f
    next_past p = omega (arith, one_more, sum_part (run from to) f (k + 1) to (omega arith))

module _ (f : ℕ → ℕ) (base n s e cap : ℕ) (se : s ≤ e) (en : e ≤ n) where
  -- past the cap with the places before the run, past it with all around it
  pub before_past : cap < base + sum_over s (run 0 s) f → cap < base + sum_over n (outside s e) f
  before_past p = omega (arith, sum_around f n s e se en)

  -- on top of the places before the run, those behind it
  pub behind_added : (d : Option ℕ) {x : ℕ} → x ≡ base + sum_over s (run 0 s) f → DemandIs (x + sum_over n (run e n) f) cap d → DemandIs (base + sum_over n (outside s e) f) cap d
  behind_added d h = subst (λ (y : ℕ). DemandIs y cap d) (omega (arith, sum_around f n s e se en))
