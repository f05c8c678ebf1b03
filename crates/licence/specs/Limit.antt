-- How many rows a table may have: the one definition, beside the one constant `LIMIT` of src/lib.rt. Definitions only.
-- Assumes nothing.
use Rattle.std.specs.Prelude.{ℕ}

-- 'A table has 1 to 64 rows'
unfoldable pub limit : ℕ
limit = 64
