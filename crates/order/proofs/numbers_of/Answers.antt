-- `order::numbers_of` meets its contract: the four numbers are those of the places passed. Assumes nothing.
use Rattle.std.specs.Prelude.{◌≡◌, ◌+◌}
use Rattle.std.proofs.Common.{arith, ap}
use Rattle.sums.specs.Columns.{at}
use Rattle.sums.specs.Terms.{lengths}
use Rattle.sums.specs.TermLaws.{cut_inside, cut_at}
use Rattle.sums.specs.Masks.{run}
use Rattle.sums.specs.Laws.{sum_bound}
use Rattle.licence.specs.Limit.{limit}
use Rattle.order.proofs.Rows.{numbers_none, numbers_next}
use Rattle.order.proofs.numbers_of.Goals as goal

pub loop-row-init : goal.loop-row-init
loop-row-init c = let here : c.args.band.s + 0 ≡ c.args.band.s = omega arith in rw here (numbers_none _ _ _ _)

pub overflow_add-sum : goal.overflow_add-sum
unfolding limit
overflow_add-sum c =
    let a = c.args in
    let l = c.loop-row in
    let p = a.band.s + l.row-index in
    let h = c.requires.0 in
    let inside = cut_inside a.rows.now a.band.s a.band.e l.row-index c.loop-row-test.true in
    omega (arith, l.invariant.sum, h.few, sum_bound p (run a.band.s a.band.e) (at (lengths a.rows.now)) 4096 (λ k b. h.c_most k (omega arith)), h.c_most p inside, cut_at a.rows.now a.band.s a.band.e l.row-index c.loop-row-test.true (λ row. row.length))

pub loop-row-preserved : goal.loop-row-preserved
loop-row-preserved c =
    let a = c.args in
    let i = c.loop-row.row-index in
    let inside = cut_inside a.rows.now a.band.s a.band.e i c.loop-row-test.true in
    let length = cut_at a.rows.now a.band.s a.band.e i c.loop-row-test.true (λ row. row.length) in
    let allowed = cut_at a.rows.now a.band.s a.band.e i c.loop-row-test.true (λ row. row.allowed) in
    let next : a.band.s + (i + 1) ≡ a.band.s + i + 1 = omega arith in
    rw next (numbers_next _ _ _ _ (a.band.s + i) _ _ (omega arith) inside (rw length at c.max-longest.ensures) (ap (λ x. c.loop-row.sum + x) length) (rw length at c.min-shortest.ensures) (rw allowed at c.min-tightest.ensures) c.loop-row.invariant)
