-- Numbers in lists: the number at a place, and the numbers of rows as code holds them, a list for each of C, T and J. Definitions only.
-- Assumes nothing.
use Rattle.std.specs.Prelude.{ℕ, ◌≤◌, ◌<◌, List, length, get_or, eqb}
use Rattle.sums.specs.Masks.{Mask}

-- the number at place k of a list
abbrev pub at : List ℕ → ℕ → ℕ
at l k = get_or l k 0

-- the rows whose flag is up
abbrev pub flagged : List ℕ → Mask
flagged l k = eqb (at l k) 1

-- n rows with numbers as document 01 allows them, so that no sum wraps
pub record Columns (n : ℕ) (c t j : List ℕ) : Type 0 where
  pub long_c : n ≤ length c
  pub long_t : n ≤ length t
  pub long_j : n ≤ length j
  pub c_most : (k : ℕ) → k < n → at c k ≤ 4096
  pub t_least : (k : ℕ) → k < n → 1 ≤ at t k
  pub t_most : (k : ℕ) → k < n → at t k ≤ 1000000
  pub j_most : (k : ℕ) → k < n → at j k ≤ 1000000
