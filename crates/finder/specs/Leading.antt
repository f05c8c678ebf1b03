-- The bands as the placing rule takes them: each at its first row, of which it has one and only one; those unplaced and those to try; and what
-- changes when one is placed.
-- Assumes nothing.
use Rattle.std.specs.Prelude.{ℕ, ◌≤◌, ◌<◌, ◌≡◌, refl, ◌⊎◌, false, not, List}
use Rattle.std.proofs.Math.Decide.{dec_lt}
use native.Mathlib.Omega.{arith}
use Rattle.std.proofs.Common.{sym, ◌∙◌, inl, inr, T_not}
use Rattle.std.proofs.Math.Dec.{T as Is, eqb→eq, not_T}
use Rattle.sums.specs.Masks.{any_below, Place, at, nowhere, lowest}
use Rattle.sums.specs.MaskLaws.{is_false, same_test, and_left, and_right, and_intro, any_intro, any_elim, Lowest, is_at, is_none, lowest_is}
use Rattle.order.specs.Table.{Table, band}
use Rattle.order.specs.Bands.{band_intro}
use Rattle.order.specs.Orders.{mem}
use Rattle.finder.specs.Placing.{rising, leads, unplaced, placing, Test, candidate}
use Rattle.finder.specs.Rising.{mem_left, mem_right, mem_append, rising_elim, rising_intro}

module _ (τ : Table) where
  -- the lowest row of the band leads it
  pub leader : (k : ℕ) → k < τ.n → (u : ℕ) × (u < τ.n) × Is (leads τ u) × (τ.key u ≡ τ.key k)
  unfolding leads
  leader k l = go (lowest τ.n (band τ (τ.key k))) (lowest_is τ.n (band τ (τ.key k)))
    where
      go : (p : Place) → Lowest τ.n (band τ (τ.key k)) p → (u : ℕ) × (u < τ.n) × Is (leads τ u) × (τ.key u ≡ τ.key k)
      go (at u) (is_at i t none) = (u, i, not_T (any_below u (band τ (τ.key u))) before, e)
        where
          e : τ.key u ≡ τ.key k
          e = eqb→eq (τ.key u) (τ.key k) t

          before : Is (any_below u (band τ (τ.key u))) → ⊥
          before h = let (j, b, s) = any_elim u (band τ (τ.key u)) h in none j b (band_intro τ (τ.key k) j (eqb→eq (τ.key j) (τ.key u) s ∙ e))
      go nowhere (is_none h) = absurd (h k l (band_intro τ (τ.key k) k refl))

  -- no row of the band is before the one that leads
  not_before : (j k : ℕ) → Is (leads τ k) → τ.key j ≡ τ.key k → k ≤ j
  unfolding leads
  not_before j k h e = go (dec_lt j k)
    where
      go : Dec (j < k) → k ≤ j
      go (yes l) = absurd (T_not (any_below k (band τ (τ.key k))) h (any_intro k (band τ (τ.key k)) j l (band_intro τ (τ.key k) j e)))
      go (no l) = omega arith

  pub one_leader : (j k : ℕ) → Is (leads τ j) → Is (leads τ k) → τ.key j ≡ τ.key k → j ≡ k
  one_leader j k hj hk e = omega (arith, not_before j k hk e, not_before k j hj (sym e))

  -- the rows that are placed with the band of row k: all of it, and no others
  pub band_rows_elim : (k j : ℕ) → Is (mem (rising τ.n (band τ (τ.key k))) j) → (j < τ.n) × (τ.key j ≡ τ.key k)
  band_rows_elim k j h = let (l, t) = rising_elim τ.n (band τ (τ.key k)) j h in (l, eqb→eq (τ.key j) (τ.key k) t)

  pub band_rows_intro : (k j : ℕ) → j < τ.n → τ.key j ≡ τ.key k → Is (mem (rising τ.n (band τ (τ.key k))) j)
  band_rows_intro k j l e = rising_intro τ.n (band τ (τ.key k)) j l (band_intro τ (τ.key k) j e)

  -- a band is unplaced: its first row does not stand
  module _ (placed : List ℕ) (k : ℕ) where
    pub unplaced_intro : Is (leads τ k) → (Is (mem placed k) → ⊥) → Is (unplaced τ placed k)
    unplaced_intro h out = and_intro (leads τ k) (not (mem placed k)) h (not_T (mem placed k) out)

    pub unplaced_leads : Is (unplaced τ placed k) → Is (leads τ k)
    unplaced_leads h = and_left (leads τ k) (not (mem placed k)) h

    pub unplaced_out : Is (unplaced τ placed k) → Is (mem placed k) → ⊥
    unplaced_out h = T_not (mem placed k) (and_right (leads τ k) (not (mem placed k)) h)

    pub candidate_unplaced : (may : Test) → Is (candidate τ may placed k) → Is (unplaced τ placed k)
    candidate_unplaced may h = and_left (unplaced τ placed k) (may placed (τ.key k)) h

  -- placing the band of row k takes that band, and no other, from those unplaced
  module _ (placed : List ℕ) (k : ℕ) where
    abbrev new : List ℕ
    new = rising τ.n (band τ (τ.key k))

    pub placed_now : k < τ.n → unplaced τ (placing τ placed k) k ≡ false
    placed_now l = is_false (unplaced τ (placing τ placed k) k) (λ t. unplaced_out (placing τ placed k) k t (mem_left new placed k (band_rows_intro k k l refl)))

    pub others_unplaced : Is (unplaced τ placed k) → (i : ℕ) → (i ≡ k → ⊥) → unplaced τ placed i ≡ unplaced τ (placing τ placed k) i
    others_unplaced h i other =
        same_test (unplaced τ placed i) (unplaced τ (placing τ placed k) i)
        (λ t. unplaced_intro (placing τ placed k) i (unplaced_leads placed i t) (λ m. still t (mem_append new placed i m)))
        (λ t. unplaced_intro placed i (unplaced_leads (placing τ placed k) i t) (λ m. unplaced_out (placing τ placed k) i t (mem_right new placed i m)))
      where
        still : Is (unplaced τ placed i) → Is (mem new i) ⊎ Is (mem placed i) → ⊥
        still t (inl m) = other (one_leader i k (unplaced_leads placed i t) (unplaced_leads placed k h) (band_rows_elim k i m).1)
        still t (inr m) = unplaced_out placed i t m
