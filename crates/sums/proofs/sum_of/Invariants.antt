-- `sums::sum_of` meets its contract: it adds up what the rows add, place by place. Assumes nothing.
use Rattle.std.proofs.Common.{◌+◌}
use Rattle.sums.specs.Columns.{at}
use Rattle.sums.specs.Terms.{column}
use Rattle.sums.proofs.Adding.{Added}
use Rattle.sums.proofs.sum_of.Given as goal

abbrev pub invariant-loop-row : goal.invariant-loop-row
invariant-loop-row g l = Added (at (column (g.A.Adds.adds l.adds) l.rows)) l.start l.fn.part.s l.fn.part.e l.cap (l.fn.part.s + l.row-index) l.sum
