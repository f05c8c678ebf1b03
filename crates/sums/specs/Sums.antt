-- The sums of document 01: over the rows 0 .. n - 1 that a mask has, the rounded-up quotient, and the right side F of the equation for
-- w. A mask takes the place of a list, so that no sum depends on an order of its terms. Definitions only.
-- Assumes nothing.
use Rattle.std.specs.Prelude.{ℕ, zero, suc, ◌+◌, ◌-◌, ◌*◌, ◌/◌, max, min, cond}
use Rattle.sums.specs.Masks.{Mask}

-- f of the rows below n that m has, put together by op; z where there is none
unfoldable pub over : (op : ℕ → ℕ → ℕ) (z n : ℕ) → Mask → (ℕ → ℕ) → ℕ
over op z zero m f = z
over op z (suc n) m f = op (over op z n m f) (cond (m n) (f n) z)

-- the sum of f over the rows of m
abbrev pub sum_over : ℕ → Mask → (ℕ → ℕ) → ℕ
sum_over n m f = over ◌+◌ 0 n m f

-- the greatest f of the rows of m; 0 if there is none
abbrev pub max_over : ℕ → Mask → (ℕ → ℕ) → ℕ
max_over n m f = over max 0 n m f

-- the least of d and of f of the rows of m
abbrev pub min_from : ℕ → ℕ → Mask → (ℕ → ℕ) → ℕ
min_from d n m f = over min d n m f

-- the least f of the rows of m; 0 if there is none
abbrev pub min_over : ℕ → Mask → (ℕ → ℕ) → ℕ
min_over n m f = min_from (max_over n m f) n m f

-- how many rows m has
abbrev pub count : ℕ → Mask → ℕ
count n m = sum_over n m (λ k. 1)

-- the quotient a / t, rounded up
unfoldable pub ceil : ℕ → ℕ → ℕ
ceil a t = (a + (t - 1)) / t

-- what row k above adds within w: C times the rounded-up quotient (w + J + 1) / T
unfoldable pub load : (C T J : ℕ → ℕ) → ℕ → ℕ → ℕ
load C T J w k = C k * ceil (w + J k + 1) (T k)

-- F(w): the constant part, and the sum over the rows above
unfoldable pub demand : (n : ℕ) (C T J : ℕ → ℕ) (base : ℕ) (above : Mask) → ℕ → ℕ
demand n C T J base above w = base + sum_over n above (load C T J w)
