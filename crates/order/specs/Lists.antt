-- Laws of membership in a list of row numbers.
-- Assumes nothing.
use Rattle.std.specs.Prelude.{ℕ, zero, suc, ◌<◌, ◌≡◌, refl, ◌⊎◌, List, [], ◌∷◌, length, get_or, T as Is, eqb}
use Rattle.std.proofs.Common.{zero-le, suc-le-suc, le_of_suc-le-suc, arith, sym, ap, subst, inl, inr, eqb→eq}
use Rattle.std.proofs.Math.Dec.{eqb_refl}
use Rattle.sums.specs.MaskLaws.{or_cases, or_left, or_right}
use Rattle.order.specs.Orders.{mem, NoRepeat}

pub mem_nil : (k : ℕ) → Is (mem [] k) → ⊥
unfolding mem
mem_nil k h = h

pub mem_here : (x : ℕ) (l : List ℕ) → Is (mem (x ∷ l) x)
unfolding mem
mem_here x l = or_left (eqb x x) (mem l x) (eqb_refl x)

pub mem_there : (x : ℕ) (l : List ℕ) (k : ℕ) → Is (mem l k) → Is (mem (x ∷ l) k)
unfolding mem
mem_there x l k h = or_right (eqb k x) (mem l k) h

pub mem_cases : (x : ℕ) (l : List ℕ) (k : ℕ) → Is (mem (x ∷ l) k) → (k ≡ x) ⊎ Is (mem l k)
unfolding mem
mem_cases x l k h = go (or_cases (eqb k x) (mem l k) h)
  where
    go : Is (eqb k x) ⊎ Is (mem l k) → (k ≡ x) ⊎ Is (mem l k)
    go (inl e) = inl (eqb→eq k x e)
    go (inr e) = inr e

pub mem_get_or : (l : List ℕ) (j : ℕ) → j < length l → Is (mem l (get_or l j 0))
mem_get_or [] j h = absurd (omega arith)
mem_get_or (x ∷ l) zero h = mem_here x l
mem_get_or (x ∷ l) (suc j) h = mem_there x l (get_or l j 0) (mem_get_or l j (le_of_suc-le-suc h))

-- a member stands at a place
pub mem_at : (l : List ℕ) (k : ℕ) → Is (mem l k) → (j : ℕ) × (j < length l) × (get_or l j 0 ≡ k)
mem_at [] k h = absurd (mem_nil k h)
mem_at (x ∷ l) k h = go (mem_cases x l k h) (mem_at l k)
  where
    go : (k ≡ x) ⊎ Is (mem l k) → (Is (mem l k) → (j : ℕ) × (j < length l) × (get_or l j 0 ≡ k)) → (j : ℕ) × (j < suc (length l)) × (get_or (x ∷ l) j 0 ≡ k)
    go (inl e) ih = (0, suc-le-suc zero-le, sym e)
    go (inr m) ih = let r = ih m in (suc r.0, suc-le-suc r.1, r.2)

-- no repeat: one place for each number
pub one_place : (l : List ℕ) (i j : ℕ) → NoRepeat l → i < length l → j < length l → get_or l i 0 ≡ get_or l j 0 → i ≡ j
one_place [] i j p hi hj e = absurd (omega arith)
one_place (x ∷ l) zero zero p hi hj e = refl
one_place (x ∷ l) zero (suc j) p hi hj e = absurd (p.0 (subst (λ (y : ℕ). Is (mem l y)) (sym e) (mem_get_or l j (le_of_suc-le-suc hj))))
one_place (x ∷ l) (suc i) zero p hi hj e = absurd (p.0 (subst (λ (y : ℕ). Is (mem l y)) e (mem_get_or l i (le_of_suc-le-suc hi))))
one_place (x ∷ l) (suc i) (suc j) p hi hj e = ap suc (one_place l i j p.1 (le_of_suc-le-suc hi) (le_of_suc-le-suc hj) e)

-- one place for each number: no repeat
pub no_repeat : (l : List ℕ) → ((i j : ℕ) → i < j → j < length l → get_or l i 0 ≡ get_or l j 0 → ⊥) → NoRepeat l
no_repeat [] h = tt
no_repeat (x ∷ l) h = (
  (λ m. let r = mem_at l x m in h 0 (suc r.0) (suc-le-suc zero-le) (suc-le-suc r.1) (sym r.2)),
  no_repeat l (λ i j a b. h (suc i) (suc j) (suc-le-suc a) (suc-le-suc b)),
)
