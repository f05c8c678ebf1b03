-- The rows that stand already, highest first: whole bands, each row once, queues together and their rows rising. Definition only: its
-- laws are in proofs/Standing.
-- Assumes nothing.
use Rattle.std.specs.Prelude.{ℕ, ◌<◌, ◌≡◌, List, T as Is}
use Rattle.order.specs.Table.{Table}
use Rattle.order.specs.Orders.{mem, NoRepeat, Together, Ranked}

pub record Standing (τ : Table) (placed : List ℕ) : Type 0 where
  pub range : (k : ℕ) → Is (mem placed k) → k < τ.n
  pub whole : (j k : ℕ) → Is (mem placed j) → k < τ.n → τ.key k ≡ τ.key j → Is (mem placed k)
  pub once : NoRepeat placed
  pub together : Together τ placed
  pub ranked : Ranked τ placed
