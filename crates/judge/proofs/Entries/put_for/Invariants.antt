-- `judge::Entries::put_for` meets its contract: what stands for the rows of the places passed is written, and nothing else. Assumes nothing.
use Rattle.std.specs.Prelude.{◌+◌}
use Rattle.judge.specs.Walk.{PutFor}
use Rattle.judge.proofs.Entries.put_for.Given as goal

abbrev pub invariant-loop-row : goal.invariant-loop-row
invariant-loop-row l = PutFor l.self.order.now l.fn.band.s (l.fn.band.s + l.row-index) l.figure l.initial.figures l.figures
