-- `book::put_bodies` meets its contract: the words from word m on are left to store. Assumes nothing.
use Prim.Native.Nat.{◌+◌, ◌*◌, ◌≤◌}
use mathlib.Core.Path.{◌≡◌}
use lib.ListN.{length}
use lib.Seq.{sets}
use Rattle.book.specs.Book.{bodies}
use Rattle.book.proofs.Stores.{bodies_from}
use Rattle.book.proofs.put_bodies.Given as goal

abbrev pub invariant-loop-m : goal.invariant-loop-m
invariant-loop-m l = (l.m ≤ length l.words) × (sets l.book (l.start + 4 * l.m) (bodies_from l.words l.m) ≡ sets l.initial.book l.start (bodies l.words))
