-- `finder::put_band` meets its contract: the rows of the band below i stand behind the first places. Assumes nothing.
use Rattle.sums.specs.Columns.{at}
use Rattle.sums.specs.Terms.{keys}
use Rattle.finder.specs.Steps.{own_of}
use Rattle.finder.proofs.Lining.{Behind}
use Rattle.finder.proofs.put_band.Given as goal

abbrev pub invariant-loop-i : goal.invariant-loop-i
invariant-loop-i l = Behind l.initial.made l.end (own_of (keys l.rows) (at (keys l.rows) l.k)) l.made l.next l.i
