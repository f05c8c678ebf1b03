-- `intake::count_rows` meets its contract: the checks run in the order of `shape_refusal`. Assumes nothing.
use native.Mathlib.Omega.{arith}
use mathlib.Core.Path.{◌≡◌, refl}
use lib.ListN.{length}
use Rattle.licence.specs.Limit.{limit}
use Rattle.intake.specs.Laws.{no_words, not_by_six, by_six, shape_1, shape_2, shape_none}
use Rattle.intake.proofs.count_rows.Goals as goal
use Rattle.intake.proofs.count_rows.Goals.{Else-is_empty, then-is_empty-via-then-is_empty, then-is_empty-via-else-is_empty+then-table-ne0}

some_words : (c : Else-is_empty) → length c.args.table.now ≡ 0 → ⊥
some_words c = grind arith

pub returns-then-is_empty : goal.returns-then-is_empty
returns-then-is_empty c = shape_1 _ (elim c.then-is_empty.branch [
  | then-is_empty-via-then-is_empty w ↦ no_words _ (grind arith)
  | then-is_empty-via-else-is_empty+then-table-ne0 w ↦ not_by_six _ (grind arith) w.if-table-ne0.true
])

pub returns-then-n-gt-LIMIT : goal.returns-then-n-gt-LIMIT
unfolding limit
returns-then-n-gt-LIMIT c = shape_2 _ (by_six _ (some_words (goal.at.returns-then-n-gt-LIMIT c).Else-is_empty) c.if-table-ne0.false) c.if-n-gt-LIMIT.true

pub returns : goal.returns
unfolding limit
returns c = (shape_none _ (by_six _ (some_words (goal.at.returns c).Else-is_empty) c.if-table-ne0.false) c.if-n-gt-LIMIT.false, refl)
