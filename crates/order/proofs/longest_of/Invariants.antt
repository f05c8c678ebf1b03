-- `order::longest_of` meets its contract: it is the longest of `below` and of the places passed. Assumes nothing.
use Rattle.std.specs.Prelude.{◌≡◌, ◌+◌, ◌≤◌, max}
use Rattle.sums.specs.Columns.{at}
use Rattle.sums.specs.Terms.{lengths}
use Rattle.sums.specs.Masks.{run}
use Rattle.sums.specs.Sums.{max_over}
use Rattle.order.proofs.longest_of.Given as goal

abbrev pub invariant-loop-row : goal.invariant-loop-row
invariant-loop-row l = (l.longest ≡ max l.below (max_over (l.fn.band.s + l.row-index) (run l.fn.band.s l.fn.band.e) (at (lengths l.rows)))) × (l.longest ≤ 4096)
