-- The rising rows of a mask: one row more, how many they are, and that a rising list with the same rows is the same list. Assumes nothing.
use Prim.Native.Nat.{ℕ, zero, suc, ◌+◌, ◌≤◌, ◌<◌, suc-le-suc, zero-le}
use native.Mathlib.Numerals.{add-one}
use native.Mathlib.Nat.{le_refl}
use native.Mathlib.Omega.{arith}
use mathlib.Core.Path.{◌≡◌, refl, ap, ap₂, subst, subst₂, ◌∙◌}
use mathlib.Core.Logic.{◌⊎◌, inl, inr}
use mathlib.Core.Bool.{Bool, true, false, cond}
use mathlib.Core.List.{List, [], ◌∷◌, ◌++◌, append-nil}
use lib.ListN.{length, length-append}
use lib.Dec.{T as Is}
use Rattle.sums.specs.Masks.{Mask}
use Rattle.sums.specs.MaskLaws.{is_false}
use Rattle.sums.specs.Columns.{at}
use Rattle.sums.specs.Sums.{over, count}
use Rattle.order.specs.Orders.{mem}
use Rattle.order.specs.Lists.{mem_nil, mem_here, mem_there, mem_cases, mem_at}
use Rattle.finder.specs.Placing.{rising}
use Rattle.finder.specs.Rising.{at_left, at_right, Pairs}

module _ (k : ℕ) (m : Mask) where
  pub rising_here : m k ≡ true → rising (k + 1) m ≡ rising k m ++ (k ∷ [])
  unfolding rising
  rising_here e = rw (add-one, e)

  pub rising_else : m k ≡ false → rising (k + 1) m ≡ rising k m
  unfolding rising
  rising_else e = rw (add-one, e) (append-nil (rising k m))

pub rising_none : (k : ℕ) (m : Mask) → ((i : ℕ) → i < k → Is (m i) → ⊥) → rising k m ≡ []
unfolding rising
rising_none zero m h = refl
rising_none (suc k) m h = rw (rising_none k m (λ i l. h i (omega arith)), is_false (m k) (h k (le_refl (suc k))))

pub rising_length : (n : ℕ) (m : Mask) → length (rising n m) ≡ count n m
unfolding rising over
rising_length zero m = refl
rising_length (suc n) m = length-append (rising n m) (cond (m n) (n ∷ []) []) ∙ ap₂ ◌+◌ (rising_length n m) (one (m n))
  where
    one : (b : Bool) → length (cond b (n ∷ []) []) ≡ cond b 1 0
    one true = refl
    one false = refl

-- in a rising list the first is below the others, and the others rise
pub pairs_first : (x : ℕ) (l : List ℕ) → Pairs ◌<◌ (x ∷ l) → (k : ℕ) → Is (mem l k) → x < k
pairs_first x l h k m = let (p, inside, stands) = mem_at l k m in subst (λ (y : ℕ). x < y) stands (h 0 (suc p) (suc-le-suc zero-le) (suc-le-suc inside))

pub pairs_rest : (x : ℕ) (l : List ℕ) → Pairs ◌<◌ (x ∷ l) → Pairs ◌<◌ l
pairs_rest x l h a b i j = h (suc a) (suc b) (suc-le-suc i) (suc-le-suc j)

-- what holds of the pairs of two lists one behind the other holds of those of each, and from the one to the other
pub pairs_parts : (R : ℕ → ℕ → Type 0) (s t : List ℕ) → Pairs R (s ++ t) → Pairs R s × Pairs R t × ((j k : ℕ) → Is (mem s j) → Is (mem t k) → R j k)
pairs_parts R s t h = (
  λ a b l m. subst₂ R (at_left s t a (omega arith)) (at_left s t b m) (h a b l (omega (arith, length-append s t))),
  λ a b l m. subst₂ R (behind a) (behind b) (h (length s + a) (length s + b) (omega arith) (omega (arith, length-append s t))),
  λ j k m i.
      let (a, la, ea) = mem_at s j m in
      let (b, lb, eb) = mem_at t k i in
      subst₂ R (at_left s t a la ∙ ea) (behind b ∙ eb) (h a (length s + b) (omega arith) (omega (arith, length-append s t))),
)
  where
    behind : (a : ℕ) → at (s ++ t) (length s + a) ≡ at t a
    behind a = at_right s t (length s + a) (omega arith) ∙ ap (at t) (omega arith)

-- each row of the one is a row of the other
abbrev pub Part : List ℕ → List ℕ → Type 0
Part l l' = (k : ℕ) → Is (mem l k) → Is (mem l' k)

pub one_rising : (l l' : List ℕ) → Pairs ◌<◌ l → Pairs ◌<◌ l' → Part l l' → Part l' l → l ≡ l'
one_rising [] [] p q h g = refl
one_rising [] (y ∷ l') p q h g = absurd (mem_nil y (g y (mem_here y l')))
one_rising (x ∷ l) [] p q h g = absurd (mem_nil x (h x (mem_here x l)))
one_rising (x ∷ l) (y ∷ l') p q h g =
    let e : x ≡ y = omega (arith, not_over (mem_cases y l' x (h x (mem_here x l))), not_under (mem_cases x l y (g y (mem_here y l')))) in
    ap₂ ◌∷◌ e (one_rising l l' (pairs_rest x l p) (pairs_rest y l' q)
    (λ k m. other l' (omega (arith, pairs_first x l p k m)) (mem_cases y l' k (h k (mem_there x l k m))))
    (λ k m. other l (omega (arith, pairs_first y l' q k m)) (mem_cases x l k (g k (mem_there y l' k m)))))
  where
    not_over : (x ≡ y) ⊎ Is (mem l' x) → y ≤ x
    not_over (inl e) = omega arith
    not_over (inr m) = omega (arith, pairs_first y l' q x m)

    not_under : (y ≡ x) ⊎ Is (mem l y) → x ≤ y
    not_under (inl e) = omega arith
    not_under (inr m) = omega (arith, pairs_first x l p y m)

    other : (r : List ℕ) {k z : ℕ} → z < k → (k ≡ z) ⊎ Is (mem r k) → Is (mem r k)
    other r lt (inl e) = absurd (omega arith)
    other r lt (inr m) = m
