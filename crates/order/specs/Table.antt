-- A table as numbers, the sums of a band, and what it is for a band to pass. A priority row is a band of one row, so that F, B and R are
-- written once; Figures shows that for one row they are the text's formulas. Definitions only.
-- Assumes nothing.
use Rattle.std.specs.Prelude.{ℕ, ◌+◌, ◌-◌, ◌≤◌, max, ◌≡◌, eqb}
use Rattle.sums.specs.Masks.{Mask}
use Rattle.sums.specs.Sums.{sum_over, max_over, min_over, demand}
use Rattle.sums.specs.Least.{Least, Fits}

-- rows 0 to n - 1, each with its length C, period T, jitter J and time allowed E; rows with one key are one band
pub record Table : Type 0 where
  pub n : ℕ
  pub C : ℕ → ℕ
  pub T : ℕ → ℕ
  pub J : ℕ → ℕ
  pub E : ℕ → ℕ
  pub key : ℕ → ℕ

module _ (τ : Table) where
  -- the rows of the band with key b
  abbrev pub band : ℕ → Mask
  band b k = eqb (τ.key k) b

  -- the longest C of any row below; 0 if there is none
  abbrev pub B : (below : Mask) → ℕ
  B below = max_over τ.n below τ.C

  -- the longest, the sum and the shortest of the band's C, and the least E in the band
  abbrev pub MAX : (own : Mask) → ℕ
  MAX own = max_over τ.n own τ.C

  abbrev pub SUM : (own : Mask) → ℕ
  SUM own = sum_over τ.n own τ.C

  abbrev pub MIN : (own : Mask) → ℕ
  MIN own = min_over τ.n own τ.C

  abbrev pub least_e : (own : Mask) → ℕ
  least_e own = min_over τ.n own τ.E

  -- the constant part of F: max(B, MAX) + SUM - MIN
  unfoldable pub base : (own below : Mask) → ℕ
  base own below = max (B below) (MAX own) + (SUM own - MIN own)

  -- F(w): the constant part, and the sum over the rows above
  abbrev pub F : (own above below : Mask) → ℕ → ℕ
  F own above below = demand τ.n τ.C τ.T τ.J (base own below) above

  -- the band passes: some w has F(w) = w, and R = w + MIN is no more than the least E in the band. Otherwise its rows are late
  abbrev pub Passes : (own above below : Mask) → Type 0
  Passes own above below = Fits (F own above below) (MIN own) (least_e own)

-- R is w + m for the least w with F(w) = w, and no more than e
pub record FigureIs (F : ℕ → ℕ) (m e R : ℕ) : Type 0 where
  pub w : ℕ
  pub least : Least F w
  pub is : R ≡ w + m
  pub within : R ≤ e

-- R is the band's figure
abbrev pub Figure : (τ : Table) (own above below : Mask) (R : ℕ) → Type 0
Figure τ own above below R = FigureIs (F τ own above below) (MIN τ own) (least_e τ own) R
