-- The equation of a band looks only at the rows below n: tables and masks that agree there have one F, one MIN and one least E, and so one
-- verdict and one figure.
-- Assumes nothing.
use Prim.Native.Nat.{ℕ, ◌+◌, ◌<◌, max, min}
use Rattle.std.specs.Prelude.{◌≡◌}
use Rattle.std.proofs.Common.{sym, ap, ◌∙◌}
use Rattle.std.proofs.Math.Path.{subst₃, fun_ext}
use Rattle.sums.specs.Masks.{Mask}
use Rattle.sums.specs.Sums.{max_over, min_from, min_over}
use Rattle.sums.specs.Laws.{over_same, demand_same}
use Rattle.order.specs.Table.{Table, MIN, least_e, base, F}

min_same : (n : ℕ) (m m' : Mask) (f f' : ℕ → ℕ) → ((k : ℕ) → k < n → m k ≡ m' k) → ((k : ℕ) → k < n → f k ≡ f' k) → min_over n m f ≡ min_over n m' f'
min_same n m m' f f' hm hf = ap (λ (d : ℕ). min_from d n m f) (over_same max 0 n m m' f f' hm hf) ∙ over_same min (max_over n m' f') n m m' f f' hm hf

-- two masks have the same rows below n
abbrev pub SameRows : ℕ → Mask → Mask → Type 0
SameRows n m m' = (k : ℕ) → k < n → m k ≡ m' k

-- tables with the same numbers in one number of rows
module _ (n : ℕ) (C C' T T' J J' E E' key key' : ℕ → ℕ) (h_c : (k : ℕ) → k < n → C k ≡ C' k) (h_t : (k : ℕ) → k < n → T k ≡ T' k)
    (h_j : (k : ℕ) → k < n → J k ≡ J' k) (h_e : (k : ℕ) → k < n → E k ≡ E' k) (o o' a a' b b' : Mask) (ho : SameRows n o o') (ha : SameRows n a a') (hb : SameRows n b b') where
  abbrev τ₁ : Table
  τ₁ = record { n = n; C = C; T = T; J = J; E = E; key = key }

  abbrev τ₂ : Table
  τ₂ = record { n = n; C = C'; T = T'; J = J'; E = E'; key = key' }

  base_same : base τ₁ o b ≡ base τ₂ o' b'
  unfolding base
  base_same = cc (over_same max 0 n b b' C C' hb h_c, over_same max 0 n o o' C C' ho h_c, over_same ◌+◌ 0 n o o' C C' ho h_c, min_same n o o' C C' ho h_c)

  F_same : F τ₁ o a b ≡ F τ₂ o' a' b'
  F_same = fun_ext (λ w. demand_same n C T J C' T' J' (base τ₁ o b) (base τ₂ o' b') a a' base_same ha (λ k l. (h_c k l, h_t k l, h_j k l)) w)

  pub same : (P : (ℕ → ℕ) → ℕ → ℕ → Type 0) → P (F τ₁ o a b) (MIN τ₁ o) (least_e τ₁ o) → P (F τ₂ o' a' b') (MIN τ₂ o') (least_e τ₂ o')
  same P h = subst₃ P F_same (min_same n o o' C C' ho h_c) (min_same n o o' E E' ho h_e) h

  pub same_back : (P : (ℕ → ℕ) → ℕ → ℕ → Type 0) → P (F τ₂ o' a' b') (MIN τ₂ o') (least_e τ₂ o') → P (F τ₁ o a b) (MIN τ₁ o) (least_e τ₁ o)
  same_back P h = subst₃ P (sym F_same) (sym (min_same n o o' C C' ho h_c)) (sym (min_same n o o' E E' ho h_e)) h
