-- A row that moves from above to below: what may change of one row. That the sums never rise by it is in proofs/Moving. Definitions only.
-- Assumes nothing.
use Rattle.std.specs.Prelude.{◌⊎◌, Bool, not, T as Is}

-- of one row: above afterwards (a') only if above before (a); below afterwards (b') only if below before (b), or if it came from above
pub record Moved (a' b' a b : Bool) : Type 0 where
  pub up : Is a' → Is a
  pub down : Is b' → Is b ⊎ (Is a × Is (not a'))
