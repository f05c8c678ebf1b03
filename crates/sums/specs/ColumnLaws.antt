-- Columns that are filled from their start, place by place, and the first places of columns.
-- Assumes nothing.
use Rattle.std.specs.Prelude.{ℕ, ◌+◌, ◌≤◌, ◌<◌, List, length, set}
use Rattle.std.proofs.Common.{arith, sym, subst, get_or-set_same, get_or-set_other, below_more}
use Rattle.sums.specs.Columns.{Columns, at}

-- what holds at each place below g, and of a new number, holds below g + 1 once the number is written at g
pub set_below : (P : ℕ → ℕ → Type 0) (l : List ℕ) (g v : ℕ) → g < length l → ((k : ℕ) → k < g → P k (at l k)) → P g v → (k : ℕ) → k < g + 1 → P k (at (set l g v) k)
set_below P l g v h p q =
    below_more (λ (k : ℕ). P k (at (set l g v) k)) g (λ k i. subst (P k) (sym (get_or-set_other l g k v 0 (λ e. omega arith))) (p k i)) (subst (P g) (sym (get_or-set_same l g v 0 h)) q)

-- the first m places of columns are columns
pub columns_part : {n m : ℕ} {c t j : List ℕ} → m ≤ n → Columns n c t j → Columns m c t j
columns_part l h =
    record {
      long_c = omega (arith, h.long_c);
      long_t = omega (arith, h.long_t);
      long_j = omega (arith, h.long_j);
      c_most = λ k b. h.c_most k (omega arith);
      t_least = λ k b. h.t_least k (omega arith);
      t_most = λ k b. h.t_most k (omega arith);
      j_most = λ k b. h.j_most k (omega arith);
    }
