-- `judge::Entries::first_zero` meets its contract: no row before place p has the figure 0. Assumes nothing.
use Rattle.std.proofs.Common.{arith, sym, ◌≡◌, length}
use Rattle.sums.specs.MaskLaws.{lowest_at, lowest_none}
use Rattle.order.specs.Split.{none_next}
use Rattle.judge.specs.Walk.{zero_at}
use Rattle.judge.proofs.Tests.{zero_here, zero_not}
use Rattle.judge.proofs.Entries.first_zero.Goals as goal

pub returns-then-figures-row-eq0 : goal.returns-then-figures-row-eq0
returns-then-figures-row-eq0 c =
    sym (lowest_at _ _ c.loop-p.p c.loop-p-test.true (zero_here _ _ _ c.if-figures-row-eq0.true) c.loop-p.invariant)

pub loop-p-preserved : goal.loop-p-preserved
loop-p-preserved c =
    let a = c.args in
    none_next (zero_at a.figures.now a.self.now.order.now) c.loop-p.invariant (zero_not _ _ _ c.if-figures-row-eq0.false)

pub returns : goal.returns
returns c =
    let e : c.loop-p.p ≡ length c.args.self.now.order.now = omega arith in
    sym (lowest_none _ _ (rw e at c.loop-p.invariant))
