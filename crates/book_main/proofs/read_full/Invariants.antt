-- `book_main::read_full` meets its contract: what was read is in the list, and each time round more of it is. Assumes nothing.
use Prim.Native.Nat.{◌-◌, ◌≤◌}
use lib.ListN.{length}
use Rattle.book_main.proofs.read_full.Given as goal

abbrev pub invariant-loop-end : goal.invariant-loop-end
invariant-loop-end g l = l.end ≤ length l.list

abbrev pub decreases-loop-end : goal.decreases-loop-end
decreases-loop-end g l = length l.list - l.end
