-- `judge::Entries::fill_runs` meets its contract: the runs from place e on have their figures, and `below` is the longest C there. Assumes nothing.
use Rattle.std.specs.Prelude.{◌≤◌, ◌<◌, ◌-◌, ◌≡◌, length}
use Rattle.sums.specs.Masks.{run}
use Rattle.sums.specs.Sums.{max_over}
use Rattle.sums.specs.Columns.{at}
use Rattle.sums.specs.Terms.{lengths, periods, jitters, allowed, keys}
use Rattle.judge.specs.Walk.{FilledFrom}
use Rattle.judge.proofs.Entries.fill_runs.Given as goal

abbrev pub invariant-loop-e : goal.invariant-loop-e
invariant-loop-e l =
    let rows = l.along in
    let n = length rows in
    let key = at (keys rows) in
    (l.e ≤ n) × FilledFrom n (lengths rows) (periods rows) (jitters rows) (allowed rows) (keys rows) l.self.order.now l.initial.figures l.figures l.e × (l.below ≡ max_over n (run l.e n) (at (lengths rows))) × (l.below ≤ 4096) × (l.e < n → 0 < l.e → key (l.e - 1) ≡ key l.e → ⊥)

abbrev pub decreases-loop-e : goal.decreases-loop-e
decreases-loop-e l = l.e
