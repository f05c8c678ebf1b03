-- `sums::sum_around` meets its contract: what the rows before the run add is where the rows behind it start. Assumes nothing.
use Rattle.sums.proofs.Adding.{before_past, behind_added}
use Rattle.sums.proofs.sum_around.Goals as goal

pub returns-in_err-before : goal.returns-in_err-before
returns-in_err-before g c = rw c.from_residual.ensures (before_past _ _ _ _ _ _ c.args.band.forward c.requires.1 c.in_err-before.ensures)

pub returns : goal.returns
returns g c = behind_added _ _ _ _ _ _ c.args.band.forward c.requires.1 c.sum_of-2.result c.in_ok-before.ensures.0 c.sum_of-2.ensures
