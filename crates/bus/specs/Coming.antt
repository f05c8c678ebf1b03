-- What comes in a stretch of time: the bits of the frames above a band that come to compete, and the most of the band's own. Definitions only.
-- Assumes nothing.
use Rattle.std.specs.Prelude.{ℕ}
use mathlib.Core.List.{List}
use Rattle.order.specs.Table.{Table}
use Rattle.bus.specs.Model.{Frame, Run, during}
use Rattle.bus.specs.Frames.{total}
use Rattle.bus.specs.Trace.{window}
use Rattle.bus.specs.Competing.{fresh}
use Rattle.bus.specs.Enough.{bits, most}

-- the bits above the band at place p that come to compete in the d bit times from s on
unfoldable pub coming : (τ : Table) (o : List ℕ) (run : Run) (comp : List Frame → List Frame) (p s d : ℕ) → ℕ
coming τ o run comp p s d = total (bits τ o p) (window (fresh τ o run comp) s d)

-- and the most that is queued in them of the band
unfoldable pub own_coming : (τ : Table) (o : List ℕ) (run : Run) (p s d : ℕ) → ℕ
own_coming τ o run p s d = total (most τ o p) (window (during run) s d)
