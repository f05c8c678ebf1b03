-- `book::put_offsets` meets its contract: the offsets from row i on are left to store. Assumes nothing.
use native.Mathlib.Omega.{arith}
use Prim.Native.Nat.{ℕ, ◌+◌, ◌*◌}
use mathlib.Core.Path.{ap, ap₂, ◌∙◌}
use mathlib.Core.List.{List}
use lib.Seq.{sets}
use Rattle.book.specs.Bytes.{high}
use Rattle.book.specs.Book.{offset}
use Rattle.book.specs.ListLaws.{each_stored}
use Rattle.book.proofs.Spelling.{four_high}
use Rattle.book.proofs.Stores.{offsets_from}
use Rattle.book.proofs.put_offsets.Goals as goal

pub loop-i-preserved : goal.loop-i-preserved
loop-i-preserved c =
    let l = c.loop-i in
    let n = c.args.n in
    let bytes = c.to_be_bytes.ensures ∙ four_high c.start_of.result ∙ ap (high 4) c.start_of.ensures in
    (omega arith, ap (λ (b : List ℕ). sets b (2 + 4 * (l.i + 1)) (offsets_from n (l.i + 1))) (c.put.ensures ∙ ap₂ (λ (i : ℕ) (bytes : List ℕ). sets l.book (2 + 4 * i) bytes) c.from.ensures bytes) ∙ each_stored l.book (λ j. high 4 (offset n j)) (2 + 4 * l.i) (2 + 4 * (l.i + 1)) l.i n (omega arith) c.loop-i-test.true ∙ l.invariant.1)
