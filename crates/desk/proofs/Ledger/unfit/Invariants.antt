-- `desk::Ledger::unfit` meets its contract: the rows before i can be read. Assumes nothing.
use Prim.Native.Nat.{ℕ, ◌<◌}
use mathlib.Core.Path.{◌≡◌}
use Rattle.licence.specs.Row.{bad_field}
use Rattle.desk.proofs.Ledger.unfit.Given as goal

abbrev pub invariant-loop-i : goal.invariant-loop-i
invariant-loop-i l = (k : ℕ) → k < l.i → bad_field l.self.words k ≡ 0
