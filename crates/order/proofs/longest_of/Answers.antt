-- `order::longest_of` meets its contract: it is the longest of `below` and of the places passed. Assumes nothing.
use Rattle.std.specs.Prelude.{◌≡◌, ◌+◌, max}
use Rattle.std.proofs.Common.{arith, refl}
use Rattle.sums.specs.Columns.{at}
use Rattle.sums.specs.Terms.{lengths}
use Rattle.sums.specs.TermLaws.{cut_inside, cut_at}
use Rattle.sums.specs.Runs.{run_none, run_next}
use Rattle.order.proofs.longest_of.Goals as goal

pub loop-row-init : goal.loop-row-init
loop-row-init c =
    let a = c.args in
    let here : a.band.s + 0 ≡ a.band.s = omega arith in
    rw here (omega (arith, run_none max 0 refl a.band.s a.band.e (at (lengths a.rows.now))), c.requires.short)

pub loop-row-preserved : goal.loop-row-preserved
loop-row-preserved c =
    let a = c.args in
    let p = a.band.s + c.loop-row.row-index in
    let inside = cut_inside a.rows.now a.band.s a.band.e c.loop-row.row-index c.loop-row-test.true in
    let row = cut_at a.rows.now a.band.s a.band.e c.loop-row.row-index c.loop-row-test.true (λ row. row.length) in
    let step = run_next max 0 refl a.band.s a.band.e (at (lengths a.rows.now)) p (omega arith) inside in
    let next : a.band.s + (c.loop-row.row-index + 1) ≡ p + 1 = omega arith in
    let most = c.requires.most p (omega arith) inside in
    rw next (omega (arith, c.max-longest.ensures, row, step, c.loop-row.invariant.0), omega (arith, c.max-longest.ensures, row, most, c.loop-row.invariant.1))
