-- The least solution of F(w) = w, a solution within a limit, and what a search up to a cap answers. Definitions only.
-- Assumes nothing.
use Rattle.std.specs.Prelude.{ℕ, ◌+◌, ◌≤◌, ◌<◌, ◌≡◌, Option, Some, None}

-- w is the least whole number with F(w) = w
pub record Least (F : ℕ → ℕ) (w : ℕ) : Type 0 where
  pub solves : F w ≡ w
  pub least : (v : ℕ) → F v ≡ v → w ≤ v

-- some w has F(w) = w, and w + m is no more than e
pub record Fits (F : ℕ → ℕ) (m e : ℕ) : Type 0 where
  pub w : ℕ
  pub solves : F w ≡ w
  pub within : w + m ≤ e

-- F does not fall
abbrev pub Grows : (ℕ → ℕ) → Type 0
Grows F = (a b : ℕ) → a ≤ b → F a ≤ F b

-- the search up to a cap. Some w: w is the least solution, and within the cap. None: no solution is within the cap
abbrev pub SettledIs : (ℕ → ℕ) → ℕ → Option ℕ → Type 0
SettledIs F cap (Some w) = Least F w × (w ≤ cap)
SettledIs F cap None = (v : ℕ) → F v ≡ v → cap < v

-- the number x as far as a cap. Some r: it is r, and within the cap. None: it is past the cap
abbrev pub DemandIs : ℕ → ℕ → Option ℕ → Type 0
DemandIs x cap (Some r) = (r ≡ x) × (r ≤ cap)
DemandIs x cap None = cap < x
