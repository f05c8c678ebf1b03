-- Rows as code holds them, one behind the other: their numbers, column by column, and the bounds that document 01 sets them. Definitions
-- only; their laws are in TermLaws.
-- Assumes nothing.
use Rattle.std.specs.Prelude.{ℕ, ◌≤◌, List, length, map}
use Rattle.sums.specs.Columns.{Columns}
use Rattle.sums.specs.declared.Terms.{Terms}

-- a number of each row
abbrev pub column : (Terms → ℕ) → List Terms → List ℕ
column f rows = map f rows

abbrev pub lengths : List Terms → List ℕ
lengths = column (λ row. row.length)

abbrev pub periods : List Terms → List ℕ
periods = column (λ row. row.period)

abbrev pub jitters : List Terms → List ℕ
jitters = column (λ row. row.jitter)

abbrev pub allowed : List Terms → List ℕ
allowed = column (λ row. row.allowed)

abbrev pub keys : List Terms → List ℕ
keys = column (λ row. row.key)

-- what stands for a row past the end
abbrev pub nothing : Terms
nothing = record { length = 0; period = 0; jitter = 0; allowed = 0; key = 0 }

-- a row with numbers as document 01 allows them
pub record Bounded (row : Terms) : Type 0 where
  pub c_most : row.length ≤ 4096
  pub t_least : 1 ≤ row.period
  pub t_most : row.period ≤ 1000000
  pub j_most : row.jitter ≤ 1000000

-- rows with such numbers, so that no sum wraps
abbrev pub Rates : List Terms → Type 0
Rates rows = Columns (length rows) (lengths rows) (periods rows) (jitters rows)
