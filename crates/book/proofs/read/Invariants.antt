-- `book::read` meets its contract: the checks run in the order of `book_refusal` and `read_refusal`, and no offset before row i is wrong. Assumes nothing.
use Prim.Native.Nat.{◌≤◌}
use Rattle.sums.specs.Masks.{None}
use Rattle.book.specs.Book.{wrong_offset}
use Rattle.book.proofs.read.Given as goal

abbrev pub invariant-loop-i : goal.invariant-loop-i
invariant-loop-i l = (l.i ≤ l.n) × None l.i (wrong_offset l.book)
