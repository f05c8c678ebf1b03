-- `order::judge_run` meets its contract: the search runs over the rows around the run, with the constant part of the band and what MIN leaves
-- of the time allowed as its cap. Assumes nothing.
use Rattle.std.proofs.Common.{arith}
use Rattle.licence.specs.Limit.{limit}
use Rattle.order.proofs.Rows.{Bounds, bounds}
use Rattle.order.proofs.Ruling.{no_time, found, never}
use Rattle.order.proofs.judge_run.Goals as goal
use Rattle.order.proofs.judge_run.Goals.{After-numbers_of-x}

bounded : (c : After-numbers_of-x) → Bounds c.args.band.e c.numbers_of-x.result
bounded c = bounds c.requires c.numbers_of-x.ensures

pub returns-then-x : goal.returns-then-x
returns-then-x c = no_time c.requires c.numbers_of-x.ensures c.if-x.true

pub overflow_sub-base : goal.overflow_sub-base
overflow_sub-base c = (bounded (goal.at.overflow_sub-base c).After-numbers_of-x).shortest

pub overflow_add-base : goal.overflow_add-base
unfolding limit
overflow_add-base c =
    let b = bounded (goal.at.overflow_add-base c).After-numbers_of-x in
    let p = c.requires in
    omega (arith, p.lengths.few, p.inside, p.short, c.max.ensures)

pub least_around-requires : goal.least_around-requires
least_around-requires c =
    let b = bounded (goal.at.least_around-requires c).After-numbers_of-x in
    let p = c.requires in
    (p.rates, p.inside, omega arith)

pub returns-in_err-w : goal.returns-in_err-w
returns-in_err-w c = rw c.from_residual.ensures (never c.requires c.numbers_of-x.ensures c.max.ensures c.if-x.false c.in_err-w.ensures)

pub returns : goal.returns
returns c = found c.requires c.numbers_of-x.ensures c.max.ensures c.if-x.false c.in_ok-w.ensures.0 c.in_ok-w.ensures.1
