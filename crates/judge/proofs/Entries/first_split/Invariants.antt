-- `judge::Entries::first_split` meets its contract: no place before p resumes a band, their keys are flagged, and `last` is the key of the last of
-- them. Assumes nothing.
use Rattle.std.specs.Prelude.{◌+◌, ◌-◌, ◌<◌, ◌≡◌, length}
use Rattle.sums.specs.Masks.{None}
use Rattle.sums.specs.Columns.{at}
use Rattle.sums.specs.Terms.{keys}
use Rattle.order.specs.Orders.{resumes}
use Rattle.order.specs.Marks.{Flags}
use Rattle.judge.proofs.Entries.first_split.Given as goal

abbrev pub invariant-loop-p : goal.invariant-loop-p
invariant-loop-p l =
    record {
      marks : Flags (λ i. at (keys l.rows) (at l.self.order.now i)) l.used (65 + length l.self.order.now) l.p;
      last : 0 < l.p → l.last ≡ at (keys l.rows) (at l.self.order.now (l.p - 1));
      fine : None l.p (resumes (at (keys l.rows)) l.self.order.now);
    }
