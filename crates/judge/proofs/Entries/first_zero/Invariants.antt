-- `judge::Entries::first_zero` meets its contract: no row before place p has the figure 0. Assumes nothing.
use Rattle.sums.specs.Masks.{None}
use Rattle.judge.specs.Walk.{zero_at}
use Rattle.judge.proofs.Entries.first_zero.Given as goal

abbrev pub invariant-loop-p : goal.invariant-loop-p
invariant-loop-p l = None l.p (zero_at l.figures l.self.order.now)
