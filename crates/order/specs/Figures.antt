-- A band passes exactly when it has a figure, the figure is one and at least 1, and for a priority row F, MIN and the least E are the
-- formulas of the text.
-- Assumes nothing.
use Prim.Native.Nat.{ℕ, ◌+◌, ◌*◌, ◌≤◌, ◌<◌, max, min}
use Rattle.std.proofs.Common.{le_trans, arith, ap, ◌∙◌}
use Rattle.std.specs.Prelude.{◌≡◌, T as Is}
use Rattle.std.proofs.Math.Path.{refl}
use Rattle.sums.specs.Masks.{Mask}
use Rattle.sums.specs.Sums.{sum_over, max_over, min_over, ceil, load, demand}
use Rattle.sums.specs.Laws.{demand_grows, min_ge, max_ge, over_alone}
use Rattle.sums.specs.Least.{Least, Fits}
use Rattle.sums.specs.Climb.{least_fits, least_one, climbed, least_climbed}
use Rattle.order.specs.Table.{Table, B, MIN, least_e, base, F, Passes, FigureIs, Figure}

pub figure_one : (F : ℕ → ℕ) (m e : ℕ) {R R' : ℕ} → FigureIs F m e R → FigureIs F m e R' → R ≡ R'
figure_one F m e p q = omega (arith, p.is, q.is, least_one F p.least q.least)

pub figure_fits : (F : ℕ → ℕ) (m e : ℕ) {R : ℕ} → FigureIs F m e R → Fits F m e
figure_fits F m e p = record { w = p.w; solves = p.least.solves; within = omega (arith, p.is, p.within) }

module _ (τ : Table) (own above below : Mask) where
  pub figure_passes : {R : ℕ} → Figure τ own above below R → Passes τ own above below
  figure_passes p = figure_fits _ _ _ p

  pub passes_figure : Passes τ own above below → (R : ℕ) × Figure τ own above below R
  passes_figure p =
      let x = least_fits (F τ own above below) (demand_grows _ _ _ _ _ _) (MIN τ own) (least_e τ own) p in
      (x.0 + MIN τ own, record { w = x.0; least = x.1; is = refl; within = x.2 })

  -- as it is worked out by hand: F is taken k times from 0 on, and then stays
  pub figure_climbed : (k : ℕ) → F τ own above below (climbed (F τ own above below) k) ≡ climbed (F τ own above below) k → climbed (F τ own above below) k + MIN τ own ≤ least_e τ own
      → Figure τ own above below (climbed (F τ own above below) k + MIN τ own)
  figure_climbed k stays h =
      record { w = climbed (F τ own above below) k; least = least_climbed (F τ own above below) (demand_grows _ _ _ _ _ _) k stays; is = refl; within = h }

  -- where every row has a bit, no figure is 0
  pub figure_pos : ((k : ℕ) → k < τ.n → 1 ≤ τ.C k) → (m : ℕ) → m < τ.n → Is (own m) → {R : ℕ} → Figure τ own above below R → 1 ≤ R
  figure_pos some m l h p =
      omega (arith, p.is, min_ge (max_over τ.n own τ.C) own τ.C τ.n 1 (le_trans (some m l) (max_ge τ.n own τ.C m l h)) (λ k i _. some k i))

-- ---- a priority row: a band of the one row m

module _ (τ : Table) (own : Mask) (m : ℕ) (l : m < τ.n) (here : Is (own m)) (alone : (k : ℕ) → k < τ.n → Is (own k) → k ≡ m) where
  max_alone : (f : ℕ → ℕ) → max_over τ.n own f ≡ f m
  max_alone f = over_alone max 0 refl own f m (omega arith) (omega arith) τ.n l here alone

  min_alone : (f : ℕ → ℕ) → min_over τ.n own f ≡ f m
  min_alone f = rw (max_alone f) (over_alone min (f m) (omega arith) own f m (omega arith) (omega arith) τ.n l here alone)

  pub priority_MIN : MIN τ own ≡ τ.C m
  priority_MIN = min_alone τ.C

  pub priority_E : least_e τ own ≡ τ.E m
  priority_E = min_alone τ.E

  -- F(w) = max(B, C of m) + the sum, over rows k above, of C of k times the rounded-up quotient (w + J of k + 1) / T of k
  pub priority_F : (above below : Mask) (w : ℕ)
      → F τ own above below w ≡ max (B τ below) (τ.C m) + sum_over τ.n above (λ k. τ.C k * ceil (w + τ.J k + 1) (τ.T k))
  unfolding demand base load
  priority_F above below w =
      omega (arith, max_alone τ.C, min_alone τ.C, over_alone ◌+◌ 0 refl own τ.C m (omega arith) (omega arith) τ.n l here alone)

  -- R = w + C of m, no more than E of m
  pub priority_R : (above below : Mask) (R : ℕ) → Figure τ own above below R → (w : ℕ) × Least (F τ own above below) w × (R ≡ w + τ.C m) × (R ≤ τ.E m)
  priority_R above below R p = (p.w, p.least, p.is ∙ ap (λ (x : ℕ). p.w + x) priority_MIN, omega (arith, p.within, priority_E))
