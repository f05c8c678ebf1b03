-- `listing::put_lines` meets its contract: the lines from a place of the order on are left to store. Assumes nothing.
use Prim.Native.Nat.{◌+◌, ◌*◌, ◌≤◌}
use mathlib.Core.Path.{◌≡◌}
use lib.ListN.{length}
use lib.Seq.{sets}
use Rattle.listing.specs.Text.{lines, line_most}
use Rattle.listing.proofs.Left.{lines_from}
use Rattle.listing.proofs.put_lines.Given as goal

abbrev pub invariant-loop-row : goal.invariant-loop-row
invariant-loop-row l =
    (l.end ≤ line_most * l.row-index) × (l.end + length (lines_from l.order l.figures l.row-index) ≡ length (lines l.order l.figures))
    × (sets l.text l.end (lines_from l.order l.figures l.row-index) ≡ sets l.initial.text 0 (lines l.order l.figures))
