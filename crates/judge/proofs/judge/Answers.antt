-- `judge::judge` meets its contract: what the table's checks refuse is refused, and what is judged over its rows is judged over its
-- words. Assumes nothing.
use native.Mathlib.Omega.{arith}
use Rattle.intake.specs.Laws.{accepted}
use Rattle.intake.specs.Held.{held_rows}
use Rattle.judge.proofs.Joined.{joined}
use Rattle.judge.proofs.judge.Goals as goal

pub judge_order-requires : goal.judge_order-requires
judge_order-requires c =
    let x = c.in_ok-n.ensures.1 in
    (held_rows _ _ _ x, omega (arith, (accepted _ _ x.unrefused).roomy, x.count))

pub returns : goal.returns
returns c = joined _ _ _ _ _ c.in_ok-n.ensures.1 c.judge_order.ensures
