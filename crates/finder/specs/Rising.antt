-- Lists of rows one behind the other, and the rows of a mask, rising: which rows they have, and what holds of each entry and a later one.
-- Assumes nothing.
use Rattle.std.specs.Prelude.{ℕ, zero, suc, ◌-◌, ◌≤◌, ◌<◌, ◌≡◌, refl, ◌⊎◌, Bool, true, false, cond, ◌||◌, List, [], ◌∷◌, ◌++◌, length, T as Is, eqb}
use Rattle.std.proofs.Common.{le_refl, eq-or-lt_of_le, le_of_suc-le-suc, arith, sym, ap, ap₂, ◌∙◌, subst, subst₂, inl, inr, length-append, get_or-append-add}
use Rattle.std.proofs.Math.Decide.{dec_lt}
use Rattle.std.proofs.Math.Bool.{or_assoc}
use Rattle.std.proofs.Math.ListN.{get_or-append}
use Rattle.sums.specs.Masks.{Mask}
use Rattle.sums.specs.MaskLaws.{or_cases, or_left, or_right}
use Rattle.sums.specs.Columns.{at}
use Rattle.order.specs.Orders.{mem, NoRepeat}
use Rattle.order.specs.Lists.{mem_nil, mem_here, mem_cases, mem_get_or, one_place, no_repeat}
use Rattle.finder.specs.Placing.{rising}

-- ---- two lists, one behind the other

pub mem_both : (s t : List ℕ) (k : ℕ) → mem (s ++ t) k ≡ (mem s k || mem t k)
unfolding mem
mem_both [] t k = refl
mem_both (x ∷ s) t k = ap (λ (b : Bool). eqb k x || b) (mem_both s t k) ∙ sym (or_assoc (eqb k x) (mem s k) (mem t k))

module _ (s t : List ℕ) where
  pub mem_left : (k : ℕ) → Is (mem s k) → Is (mem (s ++ t) k)
  mem_left k h = rw (mem_both s t k) (or_left (mem s k) (mem t k) h)

  pub mem_right : (k : ℕ) → Is (mem t k) → Is (mem (s ++ t) k)
  mem_right k h = rw (mem_both s t k) (or_right (mem s k) (mem t k) h)

  pub mem_append : (k : ℕ) → Is (mem (s ++ t) k) → Is (mem s k) ⊎ Is (mem t k)
  mem_append k h = or_cases (mem s k) (mem t k) (rw (mem_both s t k) at h)

  -- what stands at a place stands in the first list, or in the second
  pub at_left : (j : ℕ) → j < length s → at (s ++ t) j ≡ at s j
  at_left j h = get_or-append s t 0 j h

  pub at_right : (j : ℕ) → length s ≤ j → at (s ++ t) j ≡ at t (j - length s)
  at_right j h = ap (at (s ++ t)) (omega arith) ∙ get_or-append-add s t (j - length s) 0

-- each entry stands so to each later one
abbrev pub Pairs : (ℕ → ℕ → Type 0) → List ℕ → Type 0
Pairs R l = (a b : ℕ) → a < b → b < length l → R (at l a) (at l b)

-- in each of two lists, and from the first to the second: then in both, one behind the other
pub pairs_append : (R : ℕ → ℕ → Type 0) (s t : List ℕ) → Pairs R s → Pairs R t → ((j k : ℕ) → Is (mem s j) → Is (mem t k) → R j k) → Pairs R (s ++ t)
pairs_append R s t p q h a b l m = go (dec_lt a (length s)) (dec_lt b (length s))
  where
    far : length s ≤ b → b - length s < length t
    far i = omega (arith, length-append s t)

    go : Dec (a < length s) → Dec (b < length s) → R (at (s ++ t) a) (at (s ++ t) b)
    go w (yes j) = subst₂ R (sym (at_left s t a (omega arith))) (sym (at_left s t b j)) (p a b l j)
    go (yes i) (no j) = subst₂ R (sym (at_left s t a i)) (sym (at_right s t b (omega arith))) (h (at s a) (at t (b - length s)) (mem_get_or s a i) (mem_get_or t (b - length s) (far (omega arith))))
    go (no i) (no j) = subst₂ R (sym (at_right s t a (omega arith))) (sym (at_right s t b (omega arith))) (q (a - length s) (b - length s) (omega arith) (far (omega arith)))

pub no_repeat_append : (s t : List ℕ) → NoRepeat s → NoRepeat t → ((k : ℕ) → Is (mem s k) → Is (mem t k) → ⊥) → NoRepeat (s ++ t)
no_repeat_append s t p q h =
    no_repeat (s ++ t) (pairs_append (λ (j k : ℕ). j ≡ k → ⊥) s t (apart s p) (apart t q) (λ j k m n e. h k (subst (λ (x : ℕ). Is (mem s x)) e m) n))
  where
    apart : (l : List ℕ) → NoRepeat l → Pairs (λ (j k : ℕ). j ≡ k → ⊥) l
    apart l o a b i j e = omega (arith, one_place l a b o (omega arith) j e)

-- ---- the rows of a mask, rising

-- the last of them, if it is one
last_elim : (b : Bool) (n k : ℕ) → Is (mem (cond b (n ∷ []) []) k) → (k ≡ n) × Is b
last_elim true n k h = go (mem_cases n [] k h)
  where
    go : (k ≡ n) ⊎ Is (mem [] k) → (k ≡ n) × Unit {0}
    go (inl e) = (e, tt)
    go (inr e) = absurd (mem_nil k e)
last_elim false n k h = absurd (mem_nil k h)

last_intro : (b : Bool) (n : ℕ) → Is b → Is (mem (cond b (n ∷ []) []) n)
last_intro true n h = mem_here n []
last_intro false n h = absurd h

last_alone : (b : Bool) (n : ℕ) → Pairs ◌<◌ (cond b (n ∷ []) [])
last_alone true n i j l h = absurd (omega arith)
last_alone false n i j l h = absurd (omega arith)

pub rising_elim : (n : ℕ) (m : Mask) (k : ℕ) → Is (mem (rising n m) k) → (k < n) × Is (m k)
unfolding rising
rising_elim zero m k h = absurd (mem_nil k h)
rising_elim (suc n) m k h = go (mem_append (rising n m) (cond (m n) (n ∷ []) []) k h) (rising_elim n m k)
  where
    go : Is (mem (rising n m) k) ⊎ Is (mem (cond (m n) (n ∷ []) []) k) → (Is (mem (rising n m) k) → (k < n) × Is (m k)) → (k < suc n) × Is (m k)
    go (inl i) ih = let (l, t) = ih i in (omega arith, t)
    go (inr i) ih = let (e, t) = last_elim (m n) n k i in (omega arith, rw e t)

pub rising_intro : (n : ℕ) (m : Mask) (k : ℕ) → k < n → Is (m k) → Is (mem (rising n m) k)
unfolding rising
rising_intro zero m k l h = absurd (omega arith)
rising_intro (suc n) m k l h = go (eq-or-lt_of_le (le_of_suc-le-suc l)) (rising_intro n m k)
  where
    go : (k ≡ n) ⊎ (k < n) → (k < n → Is (m k) → Is (mem (rising n m) k)) → Is (mem (rising n m ++ cond (m n) (n ∷ []) []) k)
    go (inl e) ih = mem_right (rising n m) (cond (m n) (n ∷ []) []) k (rw e (last_intro (m n) n (rw e at h)))
    go (inr i) ih = mem_left (rising n m) (cond (m n) (n ∷ []) []) k (ih i h)

-- each is less than the later ones
pub rising_rises : (n : ℕ) (m : Mask) → Pairs ◌<◌ (rising n m)
unfolding rising
rising_rises zero m = λ a b l h. absurd (omega arith)
rising_rises (suc n) m =
    pairs_append ◌<◌ (rising n m) (cond (m n) (n ∷ []) []) (rising_rises n m) (last_alone (m n) n) (λ j k p q. omega (arith, (rising_elim n m j p).0, (last_elim (m n) n k q).0))

pub rising_once : (n : ℕ) (m : Mask) → NoRepeat (rising n m)
rising_once n m = no_repeat (rising n m) (λ a b l h e. omega (arith, rising_rises n m a b l h))

-- masks with the same rows below n have one list
pub rising_same : (n : ℕ) (m m' : Mask) → ((k : ℕ) → k < n → m k ≡ m' k) → rising n m ≡ rising n m'
unfolding rising
rising_same zero m m' h = refl
rising_same (suc n) m m' h = ap₂ (λ (l : List ℕ) (b : Bool). l ++ cond b (n ∷ []) []) (rising_same n m m' (λ k l. h k (omega arith))) (h n (le_refl (suc n)))
