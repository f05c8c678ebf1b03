-- How many bands the placing rule tries: a band placed is one less unplaced, and no more are tried at a place than are unplaced.
-- Assumes nothing.
use Rattle.std.specs.Prelude.{ℕ, zero, suc, ◌+◌, ◌-◌, ◌*◌, ◌≤◌, ◌<◌, ◌≡◌, ◌⊎◌, cond, List, [], T as Is}
use Rattle.std.proofs.Common.{suc-le-suc, le_refl, le_trans, mul-le-mul, eq-or-lt_of_le, le_of_suc-le-suc, arith, inl, inr}
use Rattle.sums.specs.Masks.{Mask}
use Rattle.sums.specs.MaskLaws.{is_true}
use Rattle.sums.specs.Sums.{over, count}
use Rattle.sums.specs.Laws.{sum_mono, sum_insert, sum_ge}
use Rattle.order.specs.Table.{Table}
use Rattle.finder.specs.Placing.{Ending, found, none, leads, unplaced, placing, Test, candidate, Finds, done, place, stuck}
use Rattle.finder.specs.Leading.{unplaced_leads, candidate_unplaced, placed_now, others_unplaced}

-- a part has no more
count_part : (n : ℕ) (p q : Mask) → ((i : ℕ) → Is (p i) → Is (q i)) → count n p ≤ count n q
count_part n p q h = sum_mono n p q (λ i. 1) (λ i. 1) (λ i _. h i) (λ i _ _. le_refl 1)

-- those of a part before k, and k itself
pub count_before : (n k : ℕ) (p q : Mask) → ((i : ℕ) → Is (p i) → Is (q i)) → k < n → Is (q k) → suc (count k p) ≤ count n q
unfolding over
count_before zero k p q h l t = absurd (omega arith)
count_before (suc n) k p q h l t = go (eq-or-lt_of_le (le_of_suc-le-suc l)) (count_before n k p q h)
  where
    go : (k ≡ n) ⊎ (k < n) → (k < n → Is (q k) → suc (count k p) ≤ count n q) → suc (count k p) ≤ count n q + cond (q n) 1 0
    go (inl e) ih = rw (e, is_true (q n) (rw e at t)) (omega (arith, count_part n p q h))
    go (inr i) ih = omega (arith, ih i t)

module _ (τ : Table) where
  -- a band placed is one less unplaced
  one_less : (placed : List ℕ) (k : ℕ) → k < τ.n → Is (unplaced τ placed k) → count τ.n (unplaced τ placed) ≡ count τ.n (unplaced τ (placing τ placed k)) + 1
  one_less placed k l h =
      sum_insert τ.n (unplaced τ (placing τ placed k)) (unplaced τ placed) (λ i. 1) k l (placed_now τ placed k l) (is_true (unplaced τ placed k) h) (λ i _. others_unplaced τ placed k h i)

  -- twice the number tried is at most s; and what is unplaced is at least one band, and at most all
  abbrev pub TriedWithin : (s : ℕ) → Ending → Type 0
  TriedWithin s (found o t) = 2 * t ≤ s
  TriedWithin s (none u t) = (2 * t ≤ s) × (1 ≤ u) × (u ≤ count τ.n (leads τ))

  wider : (s s' : ℕ) (r : Ending) → s ≤ s' → TriedWithin s r → TriedWithin s' r
  wider s s' (found o t) l h = le_trans h l
  wider s s' (none u t) l h = (le_trans h.0 l, h.1, h.2)

-- with x to place, c tried at this place, and y to place after it
turn : (x y t c : ℕ) → x ≡ y + 1 → c ≤ x → 2 * (t + c) + y * suc y ≤ 2 * t + x * suc x
turn x y t c e l = rw e (omega arith)

module _ (τ : Table) (may : Test) where
  -- how many bands are unplaced
  abbrev left : List ℕ → ℕ
  left placed = count τ.n (unplaced τ placed)

  -- from any rows placed, with t tried so far
  tried_from : {placed : List ℕ} {t : ℕ} {r : Ending} → Finds τ may placed t r → TriedWithin τ (2 * t + left placed * suc (left placed)) r
  tried_from (done h) = omega arith
  tried_from {placed} {t} {r} (place k l s first f) =
      wider τ _ _ r
      (turn (left placed) (left (placing τ placed k)) t (suc (count k (candidate τ may placed))) (one_less τ placed k l (candidate_unplaced τ placed k may s.0))
      (count_before τ.n k (candidate τ may placed) (unplaced τ placed) (λ i. candidate_unplaced τ placed i may) l (candidate_unplaced τ placed k may s.0)))
      (tried_from f)
  tried_from {placed} {t} (stuck u l h stop) =
      let some : 1 ≤ left placed = sum_ge τ.n (unplaced τ placed) (λ i. 1) u l h in (
        le_trans (omega arith)
            (turn (left placed) (left placed - 1) t (count τ.n (candidate τ may placed)) (omega arith)
            (count_part τ.n (candidate τ may placed) (unplaced τ placed) (λ i. candidate_unplaced τ placed i may))),
        some,
        count_part τ.n (unplaced τ placed) (leads τ) (unplaced_leads τ placed),
      )

  -- with b bands no more than b(b + 1) / 2 are tried
  pub tried_bound : {r : Ending} → Finds τ may [] 0 r → TriedWithin τ (count τ.n (leads τ) * suc (count τ.n (leads τ))) r
  tried_bound {r} f =
      let all = count_part τ.n (unplaced τ []) (leads τ) (unplaced_leads τ []) in
      wider τ _ _ r (omega (arith, mul-le-mul all (suc-le-suc all))) (tried_from f)
