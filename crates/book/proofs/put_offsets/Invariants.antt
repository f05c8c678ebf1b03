-- `book::put_offsets` meets its contract: the offsets from row i on are left to store. Assumes nothing.
use Prim.Native.Nat.{◌+◌, ◌*◌, ◌≤◌}
use mathlib.Core.Path.{◌≡◌}
use lib.Seq.{sets}
use Rattle.book.specs.Book.{offsets}
use Rattle.book.proofs.Stores.{offsets_from}
use Rattle.book.proofs.put_offsets.Given as goal

abbrev pub invariant-loop-i : goal.invariant-loop-i
invariant-loop-i l = (l.i ≤ l.n) × (sets l.book (2 + 4 * l.i) (offsets_from l.n l.i) ≡ sets l.initial.book 2 (offsets l.n))
