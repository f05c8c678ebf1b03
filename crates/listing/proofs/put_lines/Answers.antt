-- `listing::put_lines` meets its contract: the lines from place p of the order on are left to store. Assumes nothing.
use native.Mathlib.Omega.{arith}
use Prim.Native.Nat.{ℕ, ◌+◌}
use mathlib.Core.Path.{ap, ◌∙◌}
use mathlib.Core.List.{List}
use lib.ListN.{length, length-append}
use lib.Seq.{sets}
use Rattle.sums.specs.Columns.{at}
use Rattle.book.specs.ListLaws.{each_step, each_stored}
use Rattle.listing.specs.TextLaws.{line_most_lem}
use Rattle.listing.proofs.Left.{line_at, lines_from}
use Rattle.listing.proofs.put_lines.Goals as goal
use Rattle.listing.proofs.put_lines.Goals.{After-put_line-end}

pub loop-row-preserved : goal.loop-row-preserved
loop-row-preserved c =
    let l = c.loop-row in
    let p = l.row-index in
    let o = c.args.order.now in
    let f = c.args.figures.now in
    let e = c.put_line-end.ensures in
    let most = line_most_lem (at o p) (at f (at o p)) (omega (arith, c.type_inv.order p)) (omega (arith, c.type_inv.figures (at o p))) in
    let others = ap length (each_step (line_at o f) p (length o) c.loop-row-test.true) ∙ length-append (line_at o f p) (lines_from o f (p + 1)) in
    (omega (arith, most), omega (arith, others), ap (λ (x : List ℕ). sets x c.put_line-end.result (lines_from o f (p + 1))) e.1 ∙ each_stored l.text (line_at o f) l.end c.put_line-end.result p (length o) e.0 c.loop-row-test.true ∙ l.invariant.2)
