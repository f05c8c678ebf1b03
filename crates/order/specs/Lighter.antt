-- A lighter table: rows of another table, no longer, no more often, with no more jitter and no less time. What passes there passes here.
-- Assumes nothing.
use Rattle.std.specs.Prelude.{ℕ, ◌≤◌, ◌<◌, ◌≡◌, T as Is}
use Rattle.std.proofs.Common.{le_refl}
use native.Mathlib.Omega.{arith}
use Rattle.sums.specs.Masks.{Mask}
use Rattle.sums.specs.Sums.{sum_over, load, demand}
use Rattle.sums.specs.Laws.{min_le, sum_ge, load_mono, demand_grows}
use Rattle.sums.specs.Climb.{least_below}
use Rattle.sums.specs.Embed.{Embeds, sum_embed, max_embed, min_embed, rest_embed}
use Rattle.order.specs.Table.{Table, MAX, base, F, Passes}

-- row k of τ' is row φ k of τ, no longer, no more often, with no more jitter and no less time
pub record Lighter (φ : ℕ → ℕ) (τ' τ : Table) : Type 0 where
  pub inside : (k : ℕ) → k < τ'.n → φ k < τ.n
  pub apart : (j k : ℕ) → j < τ'.n → k < τ'.n → φ j ≡ φ k → j ≡ k
  pub period : (k : ℕ) → k < τ'.n → 0 < τ.T (φ k)
  pub C_le : (k : ℕ) → k < τ'.n → τ'.C k ≤ τ.C (φ k)
  pub T_ge : (k : ℕ) → k < τ'.n → τ.T (φ k) ≤ τ'.T k
  pub J_le : (k : ℕ) → k < τ'.n → τ'.J k ≤ τ.J (φ k)
  pub E_ge : (k : ℕ) → k < τ'.n → τ.E (φ k) ≤ τ'.E k

-- φ takes the rows of m' below n into m
abbrev pub Into : (φ : ℕ → ℕ) (n : ℕ) (m' m : Mask) → Type 0
Into φ n m' m = (k : ℕ) → k < n → Is (m' k) → Is (m (φ k))

module _ (φ : ℕ → ℕ) (τ' τ : Table) (light : Lighter φ τ' τ) where
  embeds : (m' m : Mask) → Into φ τ'.n m' m → Embeds φ τ'.n τ.n m' m
  embeds m' m s = record { inside = λ k b _. light.inside k b; into = s; apart = light.apart }

  longest : (m' m : Mask) → Into φ τ'.n m' m → MAX τ' m' ≤ MAX τ m
  longest m' m s = max_embed φ τ'.n τ.n m' m τ'.C τ.C (embeds m' m s) (λ k b _. light.C_le k b)

  loads : (m' m : Mask) → Into φ τ'.n m' m → (w' w : ℕ) → w' ≤ w → sum_over τ'.n m' (load τ'.C τ'.T τ'.J w') ≤ sum_over τ.n m (load τ.C τ.T τ.J w)
  unfolding load
  loads m' m s w' w h =
      sum_embed φ τ'.n τ.n m' m (load τ'.C τ'.T τ'.J w') (load τ.C τ.T τ.J w) (embeds m' m s)
      (λ k b _. load_mono (λ j. τ.C (φ j)) (λ j. τ.T (φ j)) (λ j. τ.J (φ j)) τ'.C τ'.T τ'.J w w' k (light.period k b) h (light.C_le k b) (light.T_ge k b) (light.J_le k b))

  -- a band passes in the lighter table. MIN may grow with a short row gone, but by no more than w falls: w + MIN has all of SUM
  pub lighter_passes : (own' above' below' own above below : Mask) (i : ℕ) → i < τ'.n → Is (own' i) → Into φ τ'.n own' own → Into φ τ'.n above' above → Into φ τ'.n below' below
      → Passes τ own above below → Passes τ' own' above' below'
  unfolding base demand
  lighter_passes own' above' below' own above below i l t into_own into_above into_below p =
      let e = embeds own' own into_own in
      let top = longest own' own into_own in
      let blocking = longest below' below into_below in
      let rest = rest_embed φ τ'.n τ.n own' own τ'.C τ.C e i l t (λ k b _. light.C_le k b) in
      let post : F τ' own' above' below' p.w ≤ p.w = omega (arith, loads above' above into_above p.w p.w (le_refl p.w), p.solves) in
      let x = least_below (F τ' own' above' below') (demand_grows τ'.n τ'.C τ'.T τ'.J (base τ' own' below') above') p.w post in
      record {
        w = x.0;
        solves = x.1.solves;
        within =
            omega (
              arith,
              x.1.solves,
              p.solves,
              p.within,
              loads above' above into_above x.0 p.w x.2,
              sum_embed φ τ'.n τ.n own' own τ'.C τ.C e (λ k b _. light.C_le k b),
              min_le (MAX τ' own') own' τ'.C τ'.n i l t,
              sum_ge τ'.n own' τ'.C i l t,
              min_embed φ τ'.n τ.n own' own τ'.E τ.E e i l t (λ k b _. light.E_ge k b),
            );
      }
