-- What it is that all bands which are watched together begin in time. Definitions only.
-- Assumes nothing.
use Rattle.std.specs.Prelude.{ℕ, ◌+◌, ◌<◌, List, T as Is}
use Rattle.order.specs.Table.{Table, MIN}
use Rattle.order.specs.Orders.{own}
use Rattle.bus.specs.Model.{Frame, Run, ◌∈◌}
use Rattle.bus.specs.Trace.{joined}

-- what waits in bit time t, of the bands watched, begins in time
abbrev pub Soon : (τ : Table) (o : List ℕ) (run : Run) (Watched : ℕ → Type 0) (w : ℕ → ℕ) → ℕ → Type 0
Soon τ o run Watched w t =
    (x : Frame) → x ∈ (joined τ o run t).waiting → (p : ℕ) → Watched p → Is (own τ o p x.row) → t + τ.C x.row < x.queued + w p + MIN τ (own τ o p)
