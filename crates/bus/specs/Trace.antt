-- What one sees of a run: the bits still to pass, the state within a bit time, and the frames of a stretch of time. Definitions only.
-- Assumes nothing.
use Prim.Native.Nat.{ℕ, zero, suc}
use mathlib.Core.List.{List, [], ◌++◌}
use Rattle.order.specs.Table.{Table}
use Rattle.bus.specs.Model.{Frame, Run, State, Bus, free, sending, during, compete, join, state}

-- the bits still to pass
abbrev pub left : Bus → ℕ
left free = 0
left (sending f l) = suc l

-- ---- one bit time after another

module _ (τ : Table) (o : List ℕ) (run : Run) where
  -- in bit time t: when the frames queued in it have joined, and after the competition
  abbrev pub joined : ℕ → State
  joined t = join (during run t) (state τ o run t)

  abbrev pub settled : ℕ → State
  settled t = compete τ o (joined t)

-- ---- what comes in a stretch of time

-- the frames of the d bit times from s on, where each has the frames that `by` says
unfoldable pub window : (by : ℕ → List Frame) (s d : ℕ) → List Frame
window by s zero = []
window by s (suc d) = by s ++ window by (suc s) d
