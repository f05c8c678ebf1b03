-- `order::numbers_of` meets its contract: the four numbers are those of the places passed. Assumes nothing.
use Rattle.std.specs.Prelude.{◌+◌}
use Rattle.sums.specs.Columns.{at}
use Rattle.sums.specs.Terms.{lengths, allowed}
use Rattle.sums.specs.Masks.{run}
use Rattle.order.specs.Sheet.{NumbersAre}
use Rattle.order.proofs.numbers_of.Given as goal

abbrev pub invariant-loop-row : goal.invariant-loop-row
invariant-loop-row l =
    NumbersAre (l.fn.band.s + l.row-index) (at (lengths l.rows)) (at (allowed l.rows)) (run l.fn.band.s l.fn.band.e) (record { longest = l.longest; sum = l.sum; shortest = l.shortest; tightest = l.tightest })
