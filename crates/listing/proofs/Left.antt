-- The lines that are left to store. Assumes nothing.
use Prim.Native.Nat.{ℕ, ◌-◌}
use mathlib.Core.List.{List}
use lib.ListN.{length}
use Rattle.sums.specs.Columns.{at}
use Rattle.book.specs.Bytes.{each}
use Rattle.listing.specs.Text.{line}

-- the line at a place of the order, and the lines from there on
abbrev pub line_at : (order figures : List ℕ) → ℕ → List ℕ
line_at order figures p = line (at order p) (at figures (at order p))

abbrev pub lines_from : (order figures : List ℕ) → ℕ → List ℕ
lines_from order figures p = each (line_at order figures) p (length order - p)
