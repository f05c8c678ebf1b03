-- `finder::line_up` meets its contract: the bands of the first rows below k stand. Assumes nothing.
use Prim.Native.Nat.{◌+◌}
use Rattle.std.specs.Prelude.{length}
use Rattle.sums.specs.Columns.{at}
use Rattle.sums.specs.Terms.{keys}
use Rattle.order.specs.Marks.{Flags}
use Rattle.finder.proofs.Lining.{Lined}
use Rattle.finder.proofs.line_up.Given as goal

abbrev pub invariant-loop-k : goal.invariant-loop-k
invariant-loop-k l = Flags (at (keys l.rows)) l.used (65 + length l.rows) l.k × Lined (length l.rows) (keys l.rows) l.made l.end l.k
