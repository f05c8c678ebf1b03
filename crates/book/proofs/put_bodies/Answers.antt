-- `book::put_bodies` meets its contract: the words from word m on are left to store. Assumes nothing.
use native.Mathlib.Omega.{arith}
use Prim.Native.Nat.{ℕ, ◌+◌, ◌*◌}
use mathlib.Core.Path.{ap, ◌∙◌}
use mathlib.Core.List.{List}
use lib.ListN.{length}
use lib.Seq.{sets}
use Rattle.sums.specs.Columns.{at}
use Rattle.book.specs.Bytes.{low}
use Rattle.book.specs.ListLaws.{each_stored}
use Rattle.book.proofs.Spelling.{four_low}
use Rattle.book.proofs.Stores.{bodies_from}
use Rattle.book.proofs.put_bodies.Goals as goal

pub loop-m-preserved : goal.loop-m-preserved
loop-m-preserved c =
    let l = c.loop-m in
    let a = c.args in
    let bytes = c.to_le_bytes.ensures ∙ four_low (at a.words.now l.m) in
    (omega arith, ap (λ (b : List ℕ). sets b (a.start + 4 * (l.m + 1)) (bodies_from a.words.now (l.m + 1))) (c.put.ensures ∙ ap (sets l.book (a.start + 4 * l.m)) bytes) ∙ each_stored l.book (λ j. low 4 (at a.words.now j)) (a.start + 4 * l.m) (a.start + 4 * (l.m + 1)) l.m (length a.words.now) (omega arith) c.loop-m-test.true ∙ l.invariant.1)
