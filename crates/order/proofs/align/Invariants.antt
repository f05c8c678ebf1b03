-- `order::align` meets its contract: the places before p have their rows. Assumes nothing.
use Rattle.std.specs.Prelude.{ℕ, ◌<◌, ◌≡◌, get_or, length}
use Rattle.sums.specs.Columns.{at}
use Rattle.sums.specs.declared.Terms.{Terms}
use Rattle.order.proofs.align.Given as goal

abbrev pub invariant-loop-p : goal.invariant-loop-p
invariant-loop-p l = (length l.along ≡ length l.initial.along) × ((k : ℕ) (d : Terms) → k < l.p → get_or l.along k d ≡ get_or l.rows (at l.order k) d)
