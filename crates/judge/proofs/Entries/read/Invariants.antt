-- `judge::Entries::read` meets its contract: no entry before p is bad, and their rows are flagged. Assumes nothing.
use Rattle.std.specs.Prelude.{length}
use Rattle.sums.specs.Masks.{None}
use Rattle.sums.specs.Columns.{at}
use Rattle.order.specs.Orders.{bad_entry}
use Rattle.order.specs.Marks.{Flags}
use Rattle.judge.proofs.Entries.read.Given as goal

abbrev pub invariant-loop-p : goal.invariant-loop-p
invariant-loop-p l =
    record { marks : Flags (at l.order) l.used (length l.order) l.p; fine : None l.p (bad_entry (length l.order) l.order) }
