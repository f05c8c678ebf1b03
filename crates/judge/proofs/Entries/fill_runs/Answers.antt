-- `judge::Entries::fill_runs` meets its contract: the runs from place e on have their figures, and `below` is the longest C there. Assumes nothing.
use Rattle.std.specs.Prelude.{max, length}
use Rattle.std.proofs.Common.{arith, refl, sym}
use Rattle.sums.specs.Runs.{run_none, max_runs}
use Rattle.sums.specs.Columns.{at}
use Rattle.sums.specs.Terms.{lengths}
use Rattle.order.specs.Parts.{run_part, verdict_part}
use Rattle.judge.proofs.Filling.{filled_none, filled_next, run_there, starts_part}
use Rattle.judge.proofs.Entries.fill_runs.Goals as goal

pub loop-e-init : goal.loop-e-init
loop-e-init c =
    let rows = c.args.along.now in
    (omega arith, filled_none, sym (run_none max 0 refl (length rows) (length rows) (at (lengths rows))), omega arith, λ l. absurd (omega arith))

pub judge_run-requires : goal.judge_run-requires
judge_run-requires c =
    let l = c.loop-e in
    run_part c.args.along.now l.e l.invariant.0 (run_there c.requires.0 (starts_part c.args.along.now l.e l.invariant.0 c.run_start.ensures).some l.invariant.0 l.invariant.3)

pub loop-e-preserved : goal.loop-e-preserved
loop-e-preserved c =
    let l = c.loop-e in
    let rows = c.args.along.now in
    let starts = starts_part rows l.e l.invariant.0 c.run_start.ensures in
    let verdict = verdict_part rows l.e l.invariant.0 _ _ _ _ c.judge_run.ensures in
    let join = max_runs c.run_start.result l.e (length rows) (at (lengths rows)) (omega (arith, starts.some)) l.invariant.0 in (
      omega (arith, starts.some, l.invariant.0),
      filled_next (rw c.requires.1 c.args.self.now.in_range) (rw c.requires.1 c.args.self.now.distinct) l.invariant.0 l.invariant.1 starts l.invariant.4 c.judge_run.result l.invariant.2 verdict c.unwrap_or-figure.ensures c.put_for.ensures,
      omega (arith, c.longest_of-below.ensures.is, l.invariant.2, join),
      c.longest_of-below.ensures.short,
      λ i. starts.first,
    )
