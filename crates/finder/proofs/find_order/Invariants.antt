-- `finder::find_order` meets its contract: before each place the rows that stand follow the placing rule, and at a place no band tried so
-- far passes. `l.fn.rows` are the rows as they were lent; what stands in their places by then means nothing. Assumes nothing.
use Rattle.std.specs.Prelude.{◌≡◌, ◌≤◌, ◌-◌}
use Rattle.std.proofs.Math.Seq.{slice}
use Rattle.order.specs.Sheet.{sheet_of}
use Rattle.finder.proofs.Waiting.{Tried}
use Rattle.finder.proofs.Columns.{Both, KnownRows}
use Rattle.finder.proofs.find_order.Given as goal

abbrev pub invariant-places : goal.invariant-places
invariant-places l = Both l.made l.along × KnownRows l.fn.rows l.made l.along l.top l.tried l.below

abbrev pub decreases-places : goal.decreases-places
decreases-places l = l.top

abbrev pub invariant-loop-s : goal.invariant-loop-s
invariant-loop-s l =
    (l.s ≤ l.top) × (l.top ≡ l.initial.top) × Tried (sheet_of l.fn.rows) (slice l.top l.n l.made) l.s l.bands × Both l.made l.along × KnownRows l.fn.rows l.made l.along l.top l.tried l.below

abbrev pub decreases-loop-s : goal.decreases-loop-s
decreases-loop-s l = l.top - l.s
