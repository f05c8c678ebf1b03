-- A list of n row numbers, none out of range and none twice, has every row: by counting.
-- Assumes nothing.
use Rattle.std.specs.Prelude.{ℕ, zero, suc, ◌+◌, ◌≤◌, ◌<◌, ◌≡◌, refl, ◌⊎◌, List, [], ◌∷◌, Bool, true, false, cond, length, T as Is}
use Rattle.std.proofs.Common.{zero-le, le_refl, eq-or-lt_of_le, le_of_suc-le-suc, arith, sym, ap, ◌∙◌, subst, inl, inr}
use Rattle.sums.specs.Masks.{Mask}
use Rattle.sums.specs.MaskLaws.{is_true, is_false, same_test}
use Rattle.sums.specs.Sums.{over, count}
use Rattle.sums.specs.Laws.{over_empty, sum_insert}
use Rattle.order.specs.Table.{Table}
use Rattle.order.specs.Orders.{mem, NoRepeat, Order}
use Rattle.order.specs.Lists.{mem_nil, mem_here, mem_there, mem_cases}

abbrev pub bit : Bool → ℕ
bit b = cond b 1 0

bit_yes : (b : Bool) → Is b → bit b ≡ 1
bit_yes true h = refl
bit_yes false h = absurd h

bit_is : (b : Bool) → 0 < bit b → Is b
bit_is true h = tt
bit_is false h = absurd (omega arith)

pub bit_le : (b : Bool) → bit b ≤ 1
bit_le true = le_refl 1
bit_le false = zero-le

pub count_le : (n : ℕ) (m : Mask) → count n m ≤ n
unfolding over
count_le zero m = zero-le
count_le (suc n) m = omega (arith, count_le n m, bit_le (m n))

-- one number more
count_add : (n : ℕ) (l : List ℕ) (x : ℕ) → x < n → (Is (mem l x) → ⊥) → count n (mem (x ∷ l)) ≡ suc (count n (mem l))
count_add n l x b new =
    let s = sum_insert n (mem l) (mem (x ∷ l)) (λ k. 1) x b (is_false (mem l x) new) (is_true (mem (x ∷ l) x) (mem_here x l)) (λ k i d. same_test (mem (x ∷ l) k) (mem l k) (λ h. other k d (mem_cases x l k h)) (mem_there x l k)) in
    omega arith
  where
    other : (k : ℕ) → (k ≡ x → ⊥) → (k ≡ x) ⊎ Is (mem l k) → Is (mem l k)
    other k d (inl e) = absurd (d e)
    other k d (inr m) = m

pub count_list : (n : ℕ) (l : List ℕ) → NoRepeat l → ((k : ℕ) → Is (mem l k) → k < n) → count n (mem l) ≡ length l
count_list n [] p r = over_empty ◌+◌ 0 refl (mem []) (λ k. 1) n (λ k l. mem_nil k)
count_list n (x ∷ l) p r = count_add n l x (r x (mem_here x l)) p.0 ∙ ap suc (count_list n l p.1 (λ k h. r k (mem_there x l k h)))

-- a mask that has n of the numbers below n has them all
pub count_full : (n : ℕ) (m : Mask) → count n m ≡ n → (k : ℕ) → k < n → Is (m k)
unfolding over
count_full zero m e k l = absurd (omega arith)
count_full (suc n) m e k l = go (eq-or-lt_of_le (le_of_suc-le-suc l)) (λ h i. count_full n m h k i)
  where
    go : (k ≡ n) ⊎ (k < n) → (count n m ≡ n → k < n → Is (m k)) → Is (m k)
    go (inl q) ih = subst (λ (y : ℕ). Is (m y)) (sym q) (bit_is (m n) (omega (arith, count_le n m)))
    go (inr q) ih = ih (omega (arith, count_le n m, bit_le (m n))) q

pub count_all : (n : ℕ) (m : Mask) → ((k : ℕ) → k < n → Is (m k)) → count n m ≡ n
unfolding over
count_all zero m h = refl
count_all (suc n) m h = omega (arith, count_all n m (λ k l. h k (omega arith)), bit_yes (m n) (h n (le_refl (suc n))))

module _ (τ : Table) (o : List ℕ) where
  -- n entries, none out of range, none repeated: an order
  pub order_of_length : length o ≡ τ.n → ((k : ℕ) → Is (mem o k) → k < τ.n) → NoRepeat o → Order τ o
  order_of_length e r p = record { range = r; every = count_full τ.n (mem o) (count_list τ.n o p r ∙ e); once = p }

  -- an order has n entries
  pub order_length : Order τ o → length o ≡ τ.n
  order_length h = sym (count_list τ.n o h.once h.range) ∙ count_all τ.n (mem o) h.every
