-- How many frames of one row a list has, and whether they keep to the jitter. Definitions only.
-- Assumes nothing.
use Rattle.std.specs.Prelude.{ℕ, ◌≤◌, ◌≡◌}
use Rattle.std.proofs.Math.Decide.{ℕ_discrete}
use mathlib.Core.List.{List}
use Rattle.order.specs.Table.{Table}
use Rattle.bus.specs.Model.{Frame, ◌∈◌}
use Rattle.bus.specs.Frames.{total}

-- 1 where it is so
abbrev pub one_if : {P : Type 0} → Dec P → ℕ
one_if (yes p) = 1
one_if (no p) = 0

-- how many frames of row k a list has
abbrev pub how_many : ℕ → List Frame → ℕ
how_many k l = total (λ x. one_if (ℕ_discrete x.row k)) l

module _ (τ : Table) (k : ℕ) where
  -- all of row k keep to the jitter
  abbrev pub Punctual : List Frame → Type 0
  Punctual l = (y : Frame) → y ∈ l → y.row ≡ k → y.wait ≤ τ.J k
