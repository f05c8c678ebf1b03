-- `licence::size_allowed` meets its contract. Assumes nothing.
use native.Mathlib.Omega.{arith}
use Rattle.licence.specs.Row.{size_allowed}
use Rattle.licence.proofs.Tests.{tests}
use Rattle.licence.proofs.size_allowed.Goals as goal

pub returns-then-f-eq0 : goal.returns-then-f-eq0
unfolding size_allowed
returns-then-f-eq0 c = grind arith

pub returns-else-f-eq0 : goal.returns-else-f-eq0
unfolding size_allowed
returns-else-f-eq0 c = search tests
