-- `judge::run_start` meets its contract: the places from s - 1 on have one key. Assumes nothing.
use Rattle.std.specs.Prelude.{◌-◌, ◌<◌, length}
use Rattle.sums.specs.Terms.{keys}
use Rattle.judge.proofs.OneKey.{OneKey}
use Rattle.judge.proofs.run_start.Given as goal

abbrev pub invariant-loop-s : goal.invariant-loop-s
invariant-loop-s l = record { some : 0 < l.s; one : OneKey (keys l.along) (l.s - 1) (length l.along) }
