-- `sums::least_around` meets its contract: it climbs, and stays within the cap. Where it starts is argued in `below_start`, and seen only
-- before the loop. Assumes nothing.
use Rattle.std.specs.Prelude.{ℕ, ◌+◌, ◌≤◌, ◌≡◌, List, length}
use Rattle.std.proofs.Common.{arith, sym, subst, ◌∙◌}
use Rattle.sums.specs.declared.Terms.{Terms}
use Rattle.sums.specs.Terms.{lengths, periods, jitters}
use Rattle.sums.specs.Columns.{at}
use Rattle.sums.specs.Masks.{outside}
use Rattle.sums.specs.Sums.{sum_over, demand}
use Rattle.sums.specs.Laws.{demand_grows}
use Rattle.sums.specs.Climb.{OnWay, one_step, too_far, arrived}
use Rattle.sums.proofs.Start.{start_on_way}
use Rattle.sums.proofs.Loads.{demand_added}
use Rattle.sums.proofs.least_around.Goals as goal
use Rattle.sums.proofs.least_around.Goals.{Start, In_ok-next}

abbrev F : (base : ℕ) (rows : List Terms) (s e : ℕ) → ℕ → ℕ
F base rows s e = demand (length rows) (at (lengths rows)) (at (periods rows)) (at (jitters rows)) base (outside s e)

-- no solution lies below the constant part and the lengths of the rows above
below_start : (c : Start) → let a = c.args in OnWay (F a.base a.rows.now a.band.s a.band.e) (a.base + sum_over (length a.rows.now) (outside a.band.s a.band.e) (at (lengths a.rows.now)))
below_start c = start_on_way _ _ _ _ _ _ c.requires.0.t_least

-- the sum is F(w), and within the cap
summed : (c : In_ok-next) → let a = c.args in (c.in_ok-next.next ≡ F a.base a.rows.now a.band.s a.band.e c.loop-next.w) × (c.in_ok-next.next ≤ a.cap)
summed c = (c.in_ok-next.ensures.0 ∙ demand_added _ _ _ _, c.in_ok-next.ensures.1)

pub returns-then-cap-base : goal.returns-then-cap-base
returns-then-cap-base c = too_far _ _ (below_start (goal.at.returns-then-cap-base c).Start) (omega arith)

pub returns-in_err-w : goal.returns-in_err-w
returns-in_err-w c = rw c.from_residual.ensures (too_far _ _ (below_start (goal.at.returns-in_err-w c).Start) c.in_err-w.ensures)

pub loop-next-init : goal.loop-next-init
loop-next-init c = let e = c.in_ok-w.ensures in (subst (OnWay _) (sym e.0) (below_start (goal.at.loop-next-init c).Start), e.1)

pub returns-in_err-next : goal.returns-in_err-next
returns-in_err-next c =
    let far = rw (demand_added c.args.rows.now c.args.base _ c.loop-next.w) at c.in_err-next.ensures in
    rw c.from_residual-in_err-next.ensures (too_far _ _ (one_step _ (demand_grows _ _ _ _ _ _) c.loop-next.invariant.0) far)

pub returns-then-next-w : goal.returns-then-next-w
returns-then-next-w c =
    let e = summed (goal.at.returns-then-next-w c).In_ok-next in
    (arrived _ c.loop-next.invariant.0 (sym e.0 ∙ c.if-next-w.true), c.loop-next.invariant.1)

pub loop-next-smaller : goal.loop-next-smaller
loop-next-smaller c =
    let e = summed (goal.at.loop-next-smaller c).In_ok-next in
    omega (arith, e.0, e.1, c.loop-next.invariant.0.rises, c.if-next-w.false)

pub loop-next-preserved : goal.loop-next-preserved
loop-next-preserved c =
    let e = summed (goal.at.loop-next-preserved c).In_ok-next in
    (subst (OnWay _) (sym e.0) (one_step _ (demand_grows _ _ _ _ _ _) c.loop-next.invariant.0), e.1)
