-- `finder::find` meets its contract: what the table's checks refuse is refused, and what is found over its rows is found over its words.
-- Assumes nothing.
use Rattle.std.proofs.Common.{arith, rules}
use Rattle.licence.specs.Limit.{limit}
use Rattle.intake.specs.Laws.{accepted}
use Rattle.intake.specs.Held.{held_rows}
use Rattle.finder.proofs.Joined.{joined}
use Rattle.finder.proofs.find.Goals as goal

pub take_in-requires : goal.take_in-requires
unfolding limit
take_in-requires c = search rules

pub find_order-requires : goal.find_order-requires
find_order-requires c =
    let x = c.in_ok-n.ensures.1 in
    (held_rows _ _ _ x, omega (arith, (accepted _ _ x.unrefused).roomy, x.count))

pub returns : goal.returns
returns c = joined _ _ _ _ c.in_ok-n.ensures.1 c.find_order.ensures
