-- A run for every table, in which every row is queued at once; and the figures of the rows of ByHand. Definitions only.
-- Assumes nothing.
use Rattle.std.specs.Prelude.{ℕ, zero, suc, List, [], ◌∷◌, replicate}
use Rattle.order.specs.Table.{Table}
use Rattle.bus.specs.Model.{Frame, Run}

module _ (τ : Table) where
  -- a frame of row k, queued at 0 after all its jitter, as long as it may be
  abbrev pub full : ℕ → Frame
  full k = record { row = k; queued = 0; wait = τ.J k; len = τ.C k }

  abbrev pub fulls : ℕ → List Frame
  fulls zero = []
  fulls (suc n) = full n ∷ fulls n

  -- all rows at once, and then d quiet bit times
  abbrev pub burst : ℕ → Run
  burst d = fulls τ.n ∷ replicate d []

-- the figures of the four rows of ByHand, as proofs/Witness.antt has them
abbrev pub figures : List ℕ
figures = 7 ∷ 16 ∷ 16 ∷ 21 ∷ []
