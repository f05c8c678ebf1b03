-- `intake::read_rows` meets its contract: after i rows, all of them can be read and are held. Assumes nothing.
use Rattle.std.specs.Prelude.{◌≡◌, length}
use Rattle.intake.proofs.Progress.{Progress}
use Rattle.intake.proofs.read_rows.Given as goal

abbrev pub invariant-loop-i : goal.invariant-loop-i
invariant-loop-i l = (length l.rows ≡ length l.initial.rows) × Progress l.table l.i l.rows
