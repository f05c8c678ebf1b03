-- `desk::fresh` meets its contract. Assumes nothing.
use mathlib.Core.Path.{refl}
use Rattle.licence.specs.Limit.{limit}
use Rattle.desk.proofs.fresh.Goals as goal

pub returns : goal.returns
unfolding limit
returns c = refl
