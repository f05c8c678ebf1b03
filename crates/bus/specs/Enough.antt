-- What a band needs on the bus: when a number w is enough for it, and what its frames and those above it count for. The parts of the sum stand here
-- each for what it is for; that the least solution of F is enough follows in proofs/Kept.antt. Definitions only.
-- Assumes nothing.
use Rattle.std.specs.Prelude.{ℕ, ◌+◌, ◌-◌, ◌≤◌, ◌<◌, max, ◌⊎◌, cond, List, length, T as Is}
use Rattle.sums.specs.Sums.{sum_over, load}
use Rattle.order.specs.Table.{Table, B, MAX, SUM, MIN, least_e}
use Rattle.order.specs.Orders.{own, above, below}
use Rattle.bus.specs.Model.{Frame, ◌∈◌}
use Rattle.bus.specs.Compete.{Wins}

-- the jitter of row k, and how long after it is queued a frame may come to compete
abbrev pub jitter : (τ : Table) (f : ℕ → ℕ) → ℕ → ℕ
jitter τ f k = τ.J k + f k

module _ (τ : Table) (o : List ℕ) where
  -- the longest frame that can hold the bus before the turn of the band at place p: one below it, or one of its own
  unfoldable pub longest : (p : ℕ) → ℕ
  longest p = max (B τ (below τ o p)) (MAX τ (own τ o p))

  -- what comes above it within w
  abbrev pub rush : (f : ℕ → ℕ) (p w : ℕ) → ℕ
  rush f p w = sum_over τ.n (above τ o p) (load τ.C τ.T (jitter τ f) w)

  -- w is enough for the band: it has room for the longest frame before its turn, for the rest of the band, and for all that comes above; and with
  -- the shortest frame it is within the time allowed
  pub record Enough (f : ℕ → ℕ) (p w : ℕ) : Type 0 where
    pub inside : p < length o
    pub room : longest p + (SUM τ (own τ o p) - MIN τ (own τ o p)) + rush f p w ≤ w
    pub within : w + MIN τ (own τ o p) ≤ least_e τ (own τ o p)

  -- where a frame below the band begins, nothing of the band waits and nothing above it competes
  abbrev pub Clear : (comp : List Frame → List Frame) → ℕ → Type 0
  Clear comp p =
      (g : Frame) (w : List Frame) → Wins τ o g w → ((x : Frame) → x ∈ w → x.row < τ.n) → g.row < τ.n → Is (below τ o p g.row)
      → (x : Frame) → x ∈ w → (Is (own τ o p x.row) → ⊥) × (x ∈ comp w → Is (above τ o p x.row) → ⊥)

  -- every row is of the band, above it or below it
  abbrev pub Side : (p k : ℕ) → Type 0
  Side p k = Is (own τ o p k) ⊎ (Is (above τ o p k) ⊎ Is (below τ o p k))

  module _ (p : ℕ) where
    -- ---- what a frame counts for: its own bits if it is above, the most that its row allows if it is of the band

    unfoldable pub bits : Frame → ℕ
    bits x = cond (above τ o p x.row) x.len 0

    unfoldable pub most : Frame → ℕ
    most x = cond (own τ o p x.row) (τ.C x.row) 0
