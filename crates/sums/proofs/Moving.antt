-- A row that moves from above to below never raises max(B, MAX) + the loads above: B grows by at most its C, and its load, at least C, goes.
-- Assumes nothing.
use Rattle.std.specs.Prelude.{ℕ, zero, suc, ◌+◌, ◌≤◌, ◌<◌, max, ◌⊎◌, Bool, true, false, cond}
use Rattle.std.proofs.Common.{zero-le, le_refl, arith, inl, inr}
use Rattle.sums.specs.Masks.{Mask}
use Rattle.sums.specs.Sums.{over, sum_over, max_over, load}
use Rattle.sums.specs.Laws.{sum_mono}
use Rattle.sums.specs.Move.{Moved}
use Rattle.sums.proofs.Loads.{load_once}

-- one row more, with x the longest below so far and s the loads so far
move_one : (a' b' a b : Bool) → Moved a' b' a b → (c l x' s' x s : ℕ) → c ≤ l → s' ≤ s → x' + s' ≤ x + s
    → max x' (cond b' c 0) + (s' + cond a' l 0) ≤ max x (cond b c 0) + (s + cond a l 0)
move_one true b' false b h c l x' s' x s p q r = absurd (h.up tt)
move_one true true true true h c l x' s' x s p q r = omega arith
move_one true true true false h c l x' s' x s p q r = absurd (go (h.down tt))
  where
    go : ⊥ ⊎ (Unit {0} × ⊥) → ⊥
    go (inl e) = e
    go (inr e) = e.1
move_one true false true true h c l x' s' x s p q r = omega arith
move_one true false true false h c l x' s' x s p q r = omega arith
move_one false true true true h c l x' s' x s p q r = omega arith
move_one false true true false h c l x' s' x s p q r = omega arith
move_one false true false true h c l x' s' x s p q r = omega arith
move_one false true false false h c l x' s' x s p q r = absurd (go (h.down tt))
  where
    go : ⊥ ⊎ (⊥ × Unit {0}) → ⊥
    go (inl e) = e
    go (inr e) = e.0
move_one false false true true h c l x' s' x s p q r = omega arith
move_one false false true false h c l x' s' x s p q r = omega arith
move_one false false false true h c l x' s' x s p q r = omega arith
move_one false false false false h c l x' s' x s p q r = omega arith

move_sum : (n : ℕ) (a' b' a b : Mask) (c l : ℕ → ℕ) → ((k : ℕ) → k < n → Moved (a' k) (b' k) (a k) (b k)) → ((k : ℕ) → k < n → c k ≤ l k)
    → max_over n b' c + sum_over n a' l ≤ max_over n b c + sum_over n a l
unfolding over
move_sum zero a' b' a b c l h p = zero-le
move_sum (suc n) a' b' a b c l h p =
    move_one (a' n) (b' n) (a n) (b n) (h n (le_refl (suc n))) (c n) (l n) (max_over n b' c) (sum_over n a' l) (max_over n b c) (sum_over n a l) (p n (le_refl (suc n)))
    (sum_mono n a' a l l (λ k q. (h k (omega arith)).up) (λ k _ _. le_refl (l k)))
    (move_sum n a' b' a b c l (λ k q. h k (omega arith)) (λ k q. p k (omega arith)))

-- of loads, with any length x of the band's own beside B
pub move_loads : (n x : ℕ) (C T J : ℕ → ℕ) (a' b' a b : Mask) (w : ℕ) → ((k : ℕ) → k < n → 0 < T k) → ((k : ℕ) → k < n → Moved (a' k) (b' k) (a k) (b k))
    → max (max_over n b' C) x + sum_over n a' (load C T J w) ≤ max (max_over n b C) x + sum_over n a (load C T J w)
move_loads n x C T J a' b' a b w T_pos h =
    let m = move_sum n a' b' a b C (load C T J w) h (λ k q. load_once C T J w k (T_pos k q)) in
    let s = sum_mono n a' a (load C T J w) (load C T J w) (λ k q. (h k q).up) (λ k _ _. le_refl (load C T J w k)) in
    omega arith
