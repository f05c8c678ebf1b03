-- What stands before a place of a list, and behind it.
-- Assumes nothing.
use Rattle.std.specs.Prelude.{ℕ, zero, suc, ◌+◌, ◌-◌, ◌<◌, ◌≡◌, ◌⊎◌, List, [], ◌∷◌, length, get_or, take, drop, T as Is}
use Rattle.std.proofs.Common.{zero-le, suc-le-suc, le_of_suc-le-suc, arith, sym, ap, ◌∙◌, subst, inl, inr, length-drop, get_or-drop}
use Rattle.std.proofs.Math.Decide.{dec_lt}
use Rattle.sums.specs.Masks.{Mask}
use Rattle.order.specs.Orders.{mem, NoRepeat}
use Rattle.order.specs.Lists.{mem_nil, mem_here, mem_there, mem_cases, mem_get_or, mem_at, one_place}

pub drop_at : (l : List ℕ) (i k : ℕ) → Is (mem (drop (suc i) l) k) → (j : ℕ) × (i < j) × (j < length l) × (get_or l j 0 ≡ k)
drop_at l i k h = let r = mem_at (drop (suc i) l) k h in
    (suc i + r.0, omega arith, omega (arith, r.1, length-drop (suc i) l), sym (get_or-drop (suc i) l r.0 0) ∙ r.2)

pub at_drop : (l : List ℕ) (i j : ℕ) → i < j → j < length l → Is (mem (drop (suc i) l) (get_or l j 0))
at_drop l i j h k = subst (λ (y : ℕ). Is (mem (drop (suc i) l) y)) (get_or-drop (suc i) l (j - suc i) 0 ∙ ap (λ (y : ℕ). get_or l y 0) (omega arith))
    (mem_get_or (drop (suc i) l) (j - suc i) (omega (arith, length-drop (suc i) l)))

pub take_at : (l : List ℕ) (i k : ℕ) → Is (mem (take i l) k) → (j : ℕ) × (j < i) × (j < length l) × (get_or l j 0 ≡ k)
take_at [] zero k h = absurd (mem_nil k h)
take_at [] (suc i) k h = absurd (mem_nil k h)
take_at (x ∷ l) zero k h = absurd (mem_nil k h)
take_at (x ∷ l) (suc i) k h = go (mem_cases x (take i l) k h) (take_at l i k)
  where
    go : (k ≡ x) ⊎ Is (mem (take i l) k) → (Is (mem (take i l) k) → (j : ℕ) × (j < i) × (j < length l) × (get_or l j 0 ≡ k)) → (j : ℕ) × (j < suc i) × (j < suc (length l)) × (get_or (x ∷ l) j 0 ≡ k)
    go (inl e) ih = (0, suc-le-suc zero-le, suc-le-suc zero-le, sym e)
    go (inr m) ih = let r = ih m in (suc r.0, suc-le-suc r.1, suc-le-suc r.2, r.3)

pub at_take : (l : List ℕ) (i j : ℕ) → j < i → j < length l → Is (mem (take i l) (get_or l j 0))
at_take [] i j h k = absurd (omega arith)
at_take (x ∷ l) zero j h k = absurd (omega arith)
at_take (x ∷ l) (suc i) zero h k = mem_here x (take i l)
at_take (x ∷ l) (suc i) (suc j) h k = mem_there x (take i l) (get_or l j 0) (at_take l i j (le_of_suc-le-suc h) (le_of_suc-le-suc k))

-- what stands before a place stands in the list, and not twice
pub take_mem : (l : List ℕ) (i k : ℕ) → Is (mem (take i l) k) → Is (mem l k)
take_mem l i k h = let r = take_at l i k h in subst (λ (y : ℕ). Is (mem l y)) r.3 (mem_get_or l r.0 r.2)

pub no_repeat_take : (l : List ℕ) (i : ℕ) → NoRepeat l → NoRepeat (take i l)
no_repeat_take [] zero p = tt
no_repeat_take [] (suc i) p = tt
no_repeat_take (x ∷ l) zero p = tt
no_repeat_take (x ∷ l) (suc i) p = ((λ h. p.0 (take_mem l i x h)), no_repeat_take l i p.1)

-- a number of the list stands before a place, at it, or behind it
pub mem_cut : (l : List ℕ) (j k : ℕ) → Is (mem l k) → Is (mem (take j l) k) ⊎ ((k ≡ get_or l j 0) ⊎ Is (mem (drop (suc j) l) k))
mem_cut l j k h = let r = mem_at l k h in go r.0 r.1 r.2 (dec_lt r.0 j) (dec_lt j r.0)
  where
    go : (i : ℕ) → i < length l → get_or l i 0 ≡ k → Dec (i < j) → Dec (j < i) → Is (mem (take j l) k) ⊎ ((k ≡ get_or l j 0) ⊎ Is (mem (drop (suc j) l) k))
    go i b e (yes q) w = inl (subst (λ (y : ℕ). Is (mem (take j l) y)) e (at_take l j i q b))
    go i b e (no p) (no q) = let d : i ≡ j = omega arith in inr (inl (sym e ∙ ap (λ (y : ℕ). get_or l y 0) d))
    go i b e (no p) (yes q) = inr (inr (subst (λ (y : ℕ). Is (mem (drop (suc j) l) y)) e (at_drop l j i q b)))

-- and not at two of these
pub no_repeat_cut : (l : List ℕ) (j k : ℕ) → NoRepeat l → Is (mem (take j l) k) → Is (mem (drop (suc j) l) k) → ⊥
no_repeat_cut l j k p a b =
    let r = take_at l j k a in
    let s = drop_at l j k b in
    absurd (omega (arith, one_place l r.0 s.0 p r.2 s.2 (r.3 ∙ sym s.3), r.1, s.1))

-- a test holds of every row of a list, if it holds of each one that has only such rows behind it
pub from_last : (m : Mask) (l : List ℕ) → ((p : ℕ) → p < length l → ((k : ℕ) → Is (mem (drop (suc p) l) k) → Is (m k)) → Is (m (get_or l p 0))) → (k : ℕ) → Is (mem l k) → Is (m k)
from_last m [] h k i = absurd (mem_nil k i)
from_last m (x ∷ l) h k i = go (from_last m l (λ p b. h (suc p) (suc-le-suc b))) (mem_cases x l k i)
  where
    go : ((j : ℕ) → Is (mem l j) → Is (m j)) → (k ≡ x) ⊎ Is (mem l k) → Is (m k)
    go rest (inl e) = rw e (h 0 (suc-le-suc zero-le) rest)
    go rest (inr b) = rest k b
