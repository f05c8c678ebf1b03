-- A lent table of words, six to a row, and the numbers that it stands for. Definitions only.
-- Assumes nothing.
use Rattle.std.specs.Prelude.{ℕ, ◌/◌, ◌%◌, Bool, not, ◌||◌, List, length, eqb}
use Rattle.sums.specs.Masks.{Mask}
use Rattle.licence.specs.Row.{row_at, bad_field, bit_times, allowed_time, band_key}
use Rattle.order.specs.Table.{Table}

-- no words, or not a multiple of six
unfoldable pub ragged : List ℕ → Bool
ragged words = eqb (length words) 0 || not (eqb (length words % 6) 0)

-- how many rows
abbrev pub rows : List ℕ → ℕ
rows words = length words / 6

-- row i can't be read
abbrev pub bad_row : List ℕ → Mask
bad_row words i = not (eqb (bad_field words i) 0)

-- the numbers of the rows: C, T, J, E = D - J, and the key of the band
abbrev pub table_of : List ℕ → Table
table_of words =
    record {
      n = rows words;
      C = λ i. bit_times (row_at words i).length;
      T = λ i. (row_at words i).period;
      J = λ i. (row_at words i).jitter;
      E = λ i. allowed_time (row_at words i);
      key = λ i. band_key (row_at words i).queue i;
    }
