-- Which of the frames that wait are taken to compete for the bus. Where the order keeps queues together all may be; where queues interleave,
-- the heads. The proof of the bus stands on what the two have in common: what competes goes on competing until it begins, so that the frames
-- which come to compete in a stretch of time are each counted once. Definitions only.
-- Assumes nothing.
use Prim.Native.Nat.{ℕ, zero, suc, ◌+◌, ◌≤◌, ◌<◌}
use Rattle.std.specs.Prelude.{◌≡◌, ◌⊎◌, List, ◌++◌}
use Rattle.order.specs.Table.{Table}
use Rattle.bus.specs.Model.{Frame, Run, ◌∈◌, not?, keep, Spaced}
use Rattle.bus.specs.Frames.{in?}
use Rattle.bus.specs.Compete.{Takes}
use Rattle.bus.specs.Trace.{joined}

pub record Competes (τ : Table) (comp : List Frame → List Frame) : Type 0 where
  pub part : (w : List Frame) (x : Frame) → x ∈ comp w → x ∈ w
  pub spaced : (w : List Frame) → Spaced τ w → Spaced τ (comp w)
  pub winner : (g : Frame) (w w' : List Frame) → Takes τ g w w' → g ∈ comp w
  pub stays : (g x : Frame) (w w' : List Frame) → Takes τ g w w' → x ∈ comp w → (g ≡ x) ⊎ (x ∈ comp w')
  pub behind : (w z : List Frame) (x : Frame) → x ∈ comp w → x ∈ comp (w ++ z)

module _ (τ : Table) (o : List ℕ) (run : Run) (comp : List Frame → List Frame) where
  -- the frames that compete in bit time t; those that come to compete in it, and those that still compete after it
  abbrev pub rivals : ℕ → List Frame
  rivals t = comp (joined τ o run t).waiting

  unfoldable pub fresh : ℕ → List Frame
  fresh zero = rivals 0
  fresh (suc t) = keep (λ x. not? (in? x (rivals t))) (rivals (suc t))

  unfoldable pub remaining : ℕ → List Frame
  remaining t = keep (λ x. in? x (rivals t)) (rivals (suc t))

  -- before bit time e a frame of row k comes to compete no later than f k after it is queued
  abbrev pub Prompt : (f : ℕ → ℕ) (e : ℕ) → Type 0
  Prompt f e = (t : ℕ) → t < e → (x : Frame) → x ∈ fresh t → t ≤ x.queued + f x.row
