-- Sums over rows that are taken one to one into other rows. Where no number is greater than the one it is taken to, neither is the sum,
-- the greatest, or the sum less the least; where none is less, neither is the least.
-- Assumes nothing.
use Rattle.std.specs.Prelude.{ℕ, zero, suc, ◌+◌, ◌-◌, ◌≤◌, ◌<◌, max, min, ◌≡◌, refl, Bool, true, false, not, cond, T as Is, eqb}
use Rattle.std.proofs.Common.{zero-le, le_refl, le_trans, arith, subst, eqb→eq, T_not}
use Rattle.std.proofs.Math.Dec.{eqb_refl, not_T}
use Rattle.sums.specs.Masks.{Mask, except}
use Rattle.sums.specs.MaskLaws.{is_true, is_false, same_test, and_left, and_right, and_intro}
use Rattle.sums.specs.Sums.{over, sum_over, max_over, min_over}
use Rattle.sums.specs.Laws.{over_mono, sum_insert, max_bound, max_ge, min_le, min_ge}

-- φ takes the rows of m' below n' to rows of m below n, no two to one
pub record Embeds (φ : ℕ → ℕ) (n' n : ℕ) (m' m : Mask) : Type 0 where
  pub inside : (k : ℕ) → k < n' → Is (m' k) → φ k < n
  pub into : (k : ℕ) → k < n' → Is (m' k) → Is (m (φ k))
  pub apart : (j k : ℕ) → j < n' → k < n' → φ j ≡ φ k → j ≡ k

-- ---- a row taken out

-- the rows of m other than x
abbrev but : Mask → ℕ → Mask
but m x = except m (λ k. eqb k x)

but_in : (m : Mask) (x k : ℕ) → Is (but m x k) → Is (m k)
but_in m x k h = and_left (m k) (not (eqb k x)) h

but_other : (m : Mask) (x k : ℕ) → Is (but m x k) → k ≡ x → ⊥
but_other m x k h e = T_not (eqb k x) (and_right (m k) (not (eqb k x)) h) (subst (λ (y : ℕ). Is (eqb k y)) e (eqb_refl k))

but_intro : (m : Mask) (x k : ℕ) → Is (m k) → (k ≡ x → ⊥) → Is (but m x k)
but_intro m x k h d = and_intro (m k) (not (eqb k x)) h (not_T (eqb k x) (λ t. d (eqb→eq k x t)))

sum_but : (n : ℕ) (m : Mask) (f : ℕ → ℕ) (x : ℕ) → x < n → Is (m x) → sum_over n m f ≡ sum_over n (but m x) f + f x
sum_but n m f x l h =
    sum_insert n (but m x) m f x l (is_false (but m x x) (λ t. but_other m x x t refl)) (is_true (m x) h)
    (λ k i d. same_test (m k) (but m x k) (λ t. but_intro m x k t d) (but_in m x k))

-- some of the rows are taken as all are, and into the rows other than y if none is taken to y
module _ {φ : ℕ → ℕ} {n' n : ℕ} {m' m : Mask} (e : Embeds φ n' n m' m) where
  embeds_part : (i : ℕ) (part : Mask) → i ≤ n' → ((k : ℕ) → k < i → Is (part k) → Is (m' k)) → Embeds φ i n part m
  embeds_part i part b s =
      record {
        inside = λ k l t. e.inside k (omega arith) (s k l t);
        into = λ k l t. e.into k (omega arith) (s k l t);
        apart = λ j k p q. e.apart j k (omega arith) (omega arith);
      }

  embeds_but : (y : ℕ) → ((k : ℕ) → k < n' → Is (m' k) → φ k ≡ y → ⊥) → Embeds φ n' n m' (but m y)
  embeds_but y d = record { inside = e.inside; into = λ k l t. but_intro m y (φ k) (e.into k l t) (d k l t); apart = e.apart }

-- the last row is taken out of m', and the row that it is taken to out of m
pub sum_embed : (φ : ℕ → ℕ) (n' n : ℕ) (m' m : Mask) (f' f : ℕ → ℕ) → Embeds φ n' n m' m → ((k : ℕ) → k < n' → Is (m' k) → f' k ≤ f (φ k)) → sum_over n' m' f' ≤ sum_over n m f
unfolding over
sum_embed φ zero n m' m f' f e h = zero-le
sum_embed φ (suc n') n m' m f' f e h = go (m' n') refl (λ x d. sum_embed φ n' n m' x f' f d (λ k l. h k (omega arith)))
  where
    before : Embeds φ n' n m' m
    before = embeds_part e n' m' (omega arith) (λ k _ t. t)

    go : (b : Bool) → m' n' ≡ b → ((x : Mask) → Embeds φ n' n m' x → sum_over n' m' f' ≤ sum_over n x f) → sum_over n' m' f' + cond b (f' n') 0 ≤ sum_over n m f
    go false q ih = omega (arith, ih m before)
    go true q ih =
        let t : Is (m' n') = rw q tt in
        let last = le_refl (suc n') in
        omega (
          arith,
          h n' last t,
          sum_but n m f (φ n') (e.inside n' last t) (e.into n' last t),
          ih (but m (φ n')) (embeds_but before (φ n') (λ k l _ p. omega (arith, e.apart k n' (omega arith) last p))),
        )

module _ (φ : ℕ → ℕ) (n' n : ℕ) (m' m : Mask) (f' f : ℕ → ℕ) (e : Embeds φ n' n m' m) where
  -- each f' on the mask is within the greatest f, so that the greatest is that of numbers cut off there
  pub max_embed : ((k : ℕ) → k < n' → Is (m' k) → f' k ≤ f (φ k)) → max_over n' m' f' ≤ max_over n m f
  max_embed h =
      le_trans
      (over_mono max (λ a b c d p q. omega arith) n' m' m' f' (λ k. min (f' k) (max_over n m f)) (λ k _ t. t)
      (λ k l t. omega (arith, h k l t, max_ge n m f (φ k) (e.inside k l t) (e.into k l t))))
      (max_bound n' m' (λ k. min (f' k) (max_over n m f)) (max_over n m f) (λ k l. omega arith))

  -- the least f is no greater than that of a row which φ takes one to
  least_le : (k : ℕ) → k < n' → Is (m' k) → min_over n m f ≤ f (φ k)
  least_le k l t = min_le (max_over n m f) m f n (φ k) (e.inside k l t) (e.into k l t)

  module _ (i : ℕ) (l : i < n') (t : Is (m' i)) where
    -- where m' has a row, what is no greater than any f' is no greater than the least
    least_ge : (v : ℕ) → ((k : ℕ) → k < n' → Is (m' k) → v ≤ f' k) → v ≤ min_over n' m' f'
    least_ge v h = min_ge (max_over n' m' f') m' f' n' v (le_trans (h i l t) (max_ge n' m' f' i l t)) h

    pub min_embed : ((k : ℕ) → k < n' → Is (m' k) → f (φ k) ≤ f' k) → min_over n m f ≤ min_over n' m' f'
    min_embed h = least_ge (min_over n m f) (λ k b u. le_trans (least_le k b u) (h k b u))

    -- whichever row is left out, with the row it is taken to, the sum of the others is no greater; and the least f is no greater than what
    -- is left out
    pub rest_embed : ((k : ℕ) → k < n' → Is (m' k) → f' k ≤ f (φ k)) → sum_over n' m' f' - min_over n' m' f' ≤ sum_over n m f - min_over n m f
    rest_embed h = omega (arith, least_ge (sum_over n' m' f' - (sum_over n m f - min_over n m f)) one_out)
      where
        one_out : (k : ℕ) → k < n' → Is (m' k) → sum_over n' m' f' - (sum_over n m f - min_over n m f) ≤ f' k
        one_out k b u =
            omega (
              arith,
              least_le k b u,
              sum_but n' m' f' k b u,
              sum_but n m f (φ k) (e.inside k b u) (e.into k b u),
              sum_embed φ n' n (but m' k) (but m (φ k)) f' f
                  (embeds_but (embeds_part e n' (but m' k) (le_refl n') (λ j _. but_in m' k j)) (φ k) (λ j c v q. but_other m' k j v (e.apart j k c b q)))
                  (λ j c v. h j c (but_in m' k j v)),
            )
