-- What a band needs on the bus: on which side of it each row stands, that the longest frame before its turn is long enough, and what its frames and
-- those above it count for.
-- Assumes nothing.
use Rattle.std.specs.Prelude.{ℕ, suc, ◌≤◌, ◌<◌, ◌≡◌, ◌⊎◌, not, List, length, take, drop, T as Is}
use native.Mathlib.Omega.{arith}
use Rattle.std.proofs.Common.{ap, inl, inr}
use Rattle.std.proofs.Math.Dec.{eqb_refl}
use Rattle.sums.specs.MaskLaws.{which, is_true, is_false, and_intro}
use Rattle.sums.specs.Columns.{at}
use Rattle.sums.specs.Laws.{max_ge, min_le}
use Rattle.order.specs.Table.{Table, MIN}
use Rattle.order.specs.Orders.{mem, Order, key_at, own, above, below}
use Rattle.order.specs.Lists.{mem_get_or}
use Rattle.order.specs.Places.{mem_cut}
use Rattle.order.specs.Bands.{band_intro}
use Rattle.bus.specs.Model.{Frame, Sane}
use Rattle.bus.specs.Enough.{longest, Side, bits, most}

module _ (τ : Table) (o : List ℕ) where
  pub side : Order τ o → (p k : ℕ) → k < τ.n → Side τ o p k
  side ord p k l = go (which (own τ o p k)) (mem_cut o p k (ord.every k l))
    where
      go : Is (own τ o p k) ⊎ Is (not (own τ o p k)) → Is (mem (take p o) k) ⊎ ((k ≡ at o p) ⊎ Is (mem (drop (suc p) o) k)) → Side τ o p k
      go (inl h) w = inl h
      go (inr h) (inl a) = inr (inl (and_intro (mem (take p o) k) (not (own τ o p k)) a h))
      go (inr h) (inr (inl e)) = inl (band_intro τ (key_at τ o p) k (ap τ.key e))
      go (inr h) (inr (inr b)) = inr (inr (and_intro (mem (drop (suc p) o) k) (not (own τ o p k)) b h))

  module _ (p : ℕ) where
    -- ---- lengths

    pub long_own : (k : ℕ) → k < τ.n → Is (own τ o p k) → τ.C k ≤ longest τ o p
    unfolding longest
    long_own k l h = let q = max_ge τ.n (own τ o p) τ.C k l h in omega arith

    pub long_below : (k : ℕ) → k < τ.n → Is (below τ o p k) → τ.C k ≤ longest τ o p
    unfolding longest
    long_below k l h = let q = max_ge τ.n (below τ o p) τ.C k l h in omega arith

    pub short_own : (k : ℕ) → k < τ.n → Is (own τ o p k) → MIN τ (own τ o p) ≤ τ.C k
    short_own k l h = min_le _ (own τ o p) τ.C τ.n k l h

    -- the band has a row, so that the longest is no shorter than its shortest, and is a bit at least
    pub longest_most : Sane τ → Order τ o → p < length o → (1 ≤ longest τ o p) × (MIN τ (own τ o p) ≤ longest τ o p)
    longest_most sane ord inside =
        let l : at o p < τ.n = ord.range (at o p) (mem_get_or o p inside) in
        let h : Is (own τ o p (at o p)) = eqb_refl (key_at τ o p) in
        let q = long_own (at o p) l h in
        (omega (arith, sane.some_bits (at o p) l), omega (arith, short_own (at o p) l h))

    -- ---- what a frame counts for

    pub bits_above : (x : Frame) → Is (above τ o p x.row) → bits τ o p x ≡ x.len
    unfolding bits
    bits_above x h = rw (is_true (above τ o p x.row) h)

    pub no_bits : (x : Frame) → (Is (above τ o p x.row) → ⊥) → bits τ o p x ≡ 0
    unfolding bits
    no_bits x h = rw (is_false (above τ o p x.row) h)

    pub most_own : (x : Frame) → Is (own τ o p x.row) → most τ o p x ≡ τ.C x.row
    unfolding most
    most_own x h = rw (is_true (own τ o p x.row) h)

    pub no_most : (x : Frame) → (Is (own τ o p x.row) → ⊥) → most τ o p x ≡ 0
    unfolding most
    no_most x h = rw (is_false (own τ o p x.row) h)
