-- Columns arranged along a list of rows: the verdict on a run of places is the verdict on the band whose rows stand there, where the other
-- rows of the list are those above it.
-- Assumes nothing.
use Prim.Native.Nat.{ℕ, ◌+◌, ◌-◌, ◌<◌, max, min}
use Rattle.std.proofs.Common.{arith, sym, ap, ◌∙◌}
use Rattle.std.specs.Prelude.{◌≡◌, not, ◌&&◌, Option, List, length, T as Is}
use Rattle.std.proofs.Math.Path.{refl, ap₂, subst₃, fun_ext}
use Rattle.sums.specs.Masks.{Mask, run, outside}
use Rattle.sums.specs.MaskLaws.{same_test, and_right, and_intro}
use Rattle.sums.specs.Sums.{over, sum_over, max_over, min_from, min_over, load, demand}
use Rattle.sums.specs.Laws.{over_same, load_same}
use Rattle.sums.specs.Columns.{at}
use Rattle.order.specs.Table.{Table, B, MIN, least_e, base, F}
use Rattle.order.specs.Orders.{mem, NoRepeat}
use Rattle.order.specs.Along.{along}
use Rattle.order.specs.Sheet.{RunVerdict, VerdictIs}

module _ (τ : Table) (l : List ℕ) (once : NoRepeat l) (range : (k : ℕ) → Is (mem l k) → k < τ.n) (own : Mask) (s e : ℕ)
    (places : (p : ℕ) → p < length l → run s e p ≡ own (at l p)) (whole : (k : ℕ) → k < τ.n → Is (own k) → Is (mem l k)) where
  -- what is put together over the run is put together over the band
  own_over : (op : ℕ → ℕ → ℕ) (z : ℕ) → op z z ≡ z → ((a b c : ℕ) → op (op a b) c ≡ op (op a c) b) → (g : List ℕ) (f : ℕ → ℕ) → ((p : ℕ) → p < length l → at g p ≡ f (at l p))
      → over op z (length l) (run s e) (at g) ≡ over op z τ.n own f
  own_over op z zz swap g f h =
      over_same op z (length l) (run s e) (λ p. own (at l p)) (at g) (λ p. f (at l p)) places h
      ∙ (along op z zz swap τ.n l once range own f
      ∙ over_same op z τ.n (λ k. mem l k && own k) own f f (λ k i. same_test _ _ (and_right (mem l k) (own k)) (λ o. and_intro (mem l k) (own k) (whole k i o) o)) (λ k i. refl))

  pub own_max : (g : List ℕ) (f : ℕ → ℕ) → ((p : ℕ) → p < length l → at g p ≡ f (at l p)) → max_over (length l) (run s e) (at g) ≡ max_over τ.n own f
  own_max = own_over max 0 refl (λ x y z. omega arith)

  own_min : (g : List ℕ) (f : ℕ → ℕ) → ((p : ℕ) → p < length l → at g p ≡ f (at l p)) → min_over (length l) (run s e) (at g) ≡ min_over τ.n own f
  own_min g f h =
      ap (λ (d : ℕ). min_from d (length l) (run s e) (at g)) (own_max g f h) ∙ own_over min (max_over τ.n own f) (omega arith) (λ x y z. omega arith) g f h

  module _ (c t j a : List ℕ) (hc : (p : ℕ) → p < length l → at c p ≡ τ.C (at l p)) (ht : (p : ℕ) → p < length l → at t p ≡ τ.T (at l p))
      (hj : (p : ℕ) → p < length l → at j p ≡ τ.J (at l p)) (ha : (p : ℕ) → p < length l → at a p ≡ τ.E (at l p))
      (above below : Mask) (longest : ℕ) (others : (k : ℕ) → k < τ.n → above k ≡ (mem l k && not (own k))) (blocking : longest ≡ B τ below) where
    base_same : max longest (max_over (length l) (run s e) (at c)) + (sum_over (length l) (run s e) (at c) - min_over (length l) (run s e) (at c)) ≡ base τ own below
    unfolding base
    base_same = cc (blocking, own_max c τ.C hc, own_over ◌+◌ 0 refl (λ x y z. omega arith) c τ.C hc, own_min c τ.C hc)

    above_same : (w : ℕ) → sum_over (length l) (outside s e) (load (at c) (at t) (at j) w) ≡ sum_over τ.n above (load τ.C τ.T τ.J w)
    above_same w =
        over_same ◌+◌ 0 (length l) (outside s e) (λ p. not (own (at l p))) _ (λ p. load τ.C τ.T τ.J w (at l p)) (λ p i. ap not (places p i))
        (λ p i. load_same (at c) (at t) (at j) τ.C τ.T τ.J w p (at l p) (hc p i) (ht p i) (hj p i))
        ∙ (along ◌+◌ 0 refl (λ x y z. omega arith) τ.n l once range (λ k. not (own k)) (load τ.C τ.T τ.J w)
        ∙ over_same ◌+◌ 0 τ.n (λ k. mem l k && not (own k)) above _ _ (λ k i. sym (others k i)) (λ k i. refl))

    pub run_verdict : (v : Option ℕ) → RunVerdict (length l) c t j a s e longest v → VerdictIs (F τ own above below) (MIN τ own) (least_e τ own) v
    unfolding demand
    run_verdict v h = subst₃ (λ (f : ℕ → ℕ) (m x : ℕ). VerdictIs f m x v) (fun_ext (λ w. ap₂ ◌+◌ base_same (above_same w))) (own_min c τ.C hc) (own_min a τ.E ha) h
