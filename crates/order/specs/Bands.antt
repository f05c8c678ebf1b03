-- Rows of one band share one verdict and one figure: where queues are kept together, the places of a band have the same rows above them and
-- the same rows below.
-- Assumes nothing.
use Rattle.std.specs.Prelude.{ℕ, suc, ◌≤◌, ◌<◌, ◌≡◌, refl, ◌⊎◌, List, not, length, take, drop, T as Is, eqb}
use Rattle.std.proofs.Common.{eq-or-lt_of_le, arith, sym, ap, ◌∙◌, subst, inl, inr, T_not}
use Rattle.std.proofs.Math.Decide.{dec_lt}
use Rattle.std.proofs.Math.Dec.{eqb_refl}
use Rattle.sums.specs.Masks.{except}
use Rattle.sums.specs.MaskLaws.{and_left, and_right, and_intro, same_test}
use Rattle.sums.specs.Columns.{at}
use Rattle.order.specs.Table.{Table, band, MIN, least_e, F}
use Rattle.order.specs.Orders.{mem, key_at, Together, own, above, below}
use Rattle.order.specs.Places.{take_at, at_take, drop_at, at_drop}
use Rattle.order.specs.Same.{same}

module _ (τ : Table) where
  pub band_intro : (b k : ℕ) → τ.key k ≡ b → Is (band τ b k)
  band_intro b k e = subst (λ (x : ℕ). Is (eqb (τ.key k) x)) e (eqb_refl (τ.key k))

  pub not_band : (b k : ℕ) → Is (not (band τ b k)) → τ.key k ≡ b → ⊥
  not_band b k h e = T_not (band τ b k) h (band_intro b k e)

  module _ (o : List ℕ) (tog : Together τ o) (i j : ℕ) (hj : j < length o) (ij : i < j) (one : key_at τ o i ≡ key_at τ o j) where
    abbrev x : ℕ
    x = key_at τ o j

    -- what stands from place i to place j is of the band
    between : (p : ℕ) → i ≤ p → p ≤ j → key_at τ o p ≡ x
    between p hp pj = go (eq-or-lt_of_le hp) (eq-or-lt_of_le pj)
      where
        go : (i ≡ p) ⊎ (i < p) → (p ≡ j) ⊎ (p < j) → key_at τ o p ≡ x
        go (inl e) w = ap (key_at τ o) (sym e) ∙ one
        go (inr l) (inl e) = ap (key_at τ o) e
        go (inr l) (inr m) = tog i p j l m hj one ∙ one

    -- a row that is not of the band stands before i if before j, and behind j if behind i
    sooner : (k p : ℕ) → p < j → at o p ≡ k → Is (not (band τ x k)) → p < i
    sooner k p l e h = go (dec_lt p i)
      where
        go : Dec (p < i) → p < i
        go (yes q) = q
        go (no q) = absurd (not_band x k h (ap τ.key (sym e) ∙ between p (omega arith) (omega arith)))

    later : (k p : ℕ) → i < p → at o p ≡ k → Is (not (band τ x k)) → j < p
    later k p l e h = go (dec_lt j p)
      where
        go : Dec (j < p) → j < p
        go (yes q) = q
        go (no q) = absurd (not_band x k h (ap τ.key (sym e) ∙ between p (omega arith) (omega arith)))

    above_same : (k : ℕ) → except (mem (take i o)) (band τ x) k ≡ except (mem (take j o)) (band τ x) k
    above_same k = same_test _ _ down up
      where
        down : Is (except (mem (take i o)) (band τ x) k) → Is (except (mem (take j o)) (band τ x) k)
        down h =
            let r = take_at o i k (and_left (mem (take i o) k) (not (band τ x k)) h) in
            and_intro (mem (take j o) k) (not (band τ x k)) (subst (λ (y : ℕ). Is (mem (take j o) y)) r.3 (at_take o j r.0 (omega (arith, r.1)) r.2)) (and_right (mem (take i o) k) (not (band τ x k)) h)

        up : Is (except (mem (take j o)) (band τ x) k) → Is (except (mem (take i o)) (band τ x) k)
        up h =
            let r = take_at o j k (and_left (mem (take j o) k) (not (band τ x k)) h) in
            let q = and_right (mem (take j o) k) (not (band τ x k)) h in
            and_intro (mem (take i o) k) (not (band τ x k)) (subst (λ (y : ℕ). Is (mem (take i o) y)) r.3 (at_take o i r.0 (sooner k r.0 r.1 r.3 q) r.2)) q

    below_same : (k : ℕ) → except (mem (drop (suc i) o)) (band τ x) k ≡ except (mem (drop (suc j) o)) (band τ x) k
    below_same k = same_test _ _ down up
      where
        down : Is (except (mem (drop (suc i) o)) (band τ x) k) → Is (except (mem (drop (suc j) o)) (band τ x) k)
        down h =
            let r = drop_at o i k (and_left (mem (drop (suc i) o) k) (not (band τ x k)) h) in
            let q = and_right (mem (drop (suc i) o) k) (not (band τ x k)) h in
            and_intro (mem (drop (suc j) o) k) (not (band τ x k)) (subst (λ (y : ℕ). Is (mem (drop (suc j) o) y)) r.3 (at_drop o j r.0 (later k r.0 r.1 r.3 q) r.2)) q

        up : Is (except (mem (drop (suc j) o)) (band τ x) k) → Is (except (mem (drop (suc i) o)) (band τ x) k)
        up h =
            let r = drop_at o j k (and_left (mem (drop (suc j) o) k) (not (band τ x k)) h) in
            and_intro (mem (drop (suc i) o) k) (not (band τ x k)) (subst (λ (y : ℕ). Is (mem (drop (suc i) o) y)) r.3 (at_drop o i r.0 (omega (arith, r.1)) r.2)) (and_right (mem (drop (suc j) o) k) (not (band τ x k)) h)

    -- whatever holds of the band's F, MIN and least E at the one place holds at the other
    pub shared : (P : (ℕ → ℕ) → ℕ → ℕ → Type 0) → P (F τ (own τ o i) (above τ o i) (below τ o i)) (MIN τ (own τ o i)) (least_e τ (own τ o i))
        → P (F τ (own τ o j) (above τ o j) (below τ o j)) (MIN τ (own τ o j)) (least_e τ (own τ o j))
    shared P h =
        same τ.n τ.C τ.C τ.T τ.T τ.J τ.J τ.E τ.E τ.key τ.key (λ k l. refl) (λ k l. refl) (λ k l. refl) (λ k l. refl)
        (own τ o i) (own τ o j) (above τ o i) (above τ o j) (below τ o i) (below τ o j)
        (λ k l. ap (λ (b : ℕ). band τ b k) one)
        (λ k l. ap (λ (b : ℕ). except (mem (take i o)) (band τ b) k) one ∙ above_same k)
        (λ k l. ap (λ (b : ℕ). except (mem (drop (suc i) o)) (band τ b) k) one ∙ below_same k)
        P h
