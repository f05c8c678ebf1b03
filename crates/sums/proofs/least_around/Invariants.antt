-- `sums::least_around` meets its contract: it climbs, and stays within the cap. Where it starts is argued in `below-start`, and seen only
-- before the loop. Assumes nothing.
use Prim.Native.Nat.{◌≤◌, ◌-◌}
use Rattle.std.specs.Prelude.{length}
use Rattle.sums.specs.Columns.{at}
use Rattle.sums.specs.Terms.{lengths, periods, jitters}
use Rattle.sums.specs.Masks.{outside}
use Rattle.sums.specs.Sums.{demand}
use Rattle.sums.specs.Climb.{OnWay}
use Rattle.sums.proofs.least_around.Given as goal

abbrev pub invariant-loop-next : goal.invariant-loop-next
invariant-loop-next l = OnWay (demand (length l.rows) (at (lengths l.rows)) (at (periods l.rows)) (at (jitters l.rows)) l.base (outside l.band.s l.band.e)) l.w × (l.w ≤ l.cap)

abbrev pub decreases-loop-next : goal.decreases-loop-next
decreases-loop-next l = l.cap - l.w
