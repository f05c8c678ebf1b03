-- The checks of a lent table and of the room for the answer: refusals 1 to 4, in order. Definitions only.
-- Assumes nothing.
use Rattle.std.specs.Prelude.{ℕ, List, ltb}
use Rattle.sums.specs.Masks.{lowest}
use Rattle.licence.specs.Limit.{limit}
use Rattle.licence.specs.Row.{bad_field}
use Rattle.intake.specs.Words.{ragged, rows, bad_row}
use Rattle.intake.specs.Answer.{answer, Check, refuse_if, refuse_at, ◌then◌}

-- the shape of any words: 1 ragged; 2 too many rows
unfoldable pub shape_refusal : List ℕ → Check
shape_refusal words =
    refuse_if (ragged words) (answer 1 0 0)
    then refuse_if (ltb limit (rows words)) (answer 2 0 0)

-- 1 and 2; 3 bad row, the lowest, with its lowest bad field; 4 the lent list is shorter than n
unfoldable pub table_refusal : (words : List ℕ) (room : ℕ) → Check
table_refusal words room =
    shape_refusal words
    then refuse_at (lowest (rows words) (bad_row words)) (λ i. answer 3 i (bad_field words i))
    then refuse_if (ltb room (rows words)) (answer 4 0 0)
