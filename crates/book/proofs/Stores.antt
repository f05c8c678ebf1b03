-- What is left to store of the offsets, and of the bodies. Assumes nothing.
use Prim.Native.Nat.{ℕ, ◌-◌}
use mathlib.Core.List.{List}
use lib.ListN.{length}
use Rattle.sums.specs.Columns.{at}
use Rattle.book.specs.Bytes.{low, high, each}
use Rattle.book.specs.Book.{offset}

-- the offsets from row i on
abbrev pub offsets_from : (n i : ℕ) → List ℕ
offsets_from n i = each (λ j. high 4 (offset n j)) i (n - i)

-- the bodies from word m on
abbrev pub bodies_from : List ℕ → ℕ → List ℕ
bodies_from words m = each (λ j. low 4 (at words j)) m (length words - m)
