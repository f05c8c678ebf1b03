-- Laws of Booleans and of the questions of Masks.
-- Assumes nothing.
use Rattle.std.specs.Prelude.{ℕ, zero, suc, ◌<◌, ◌≡◌, refl, ◌⊎◌, Bool, true, false, not, ◌&&◌, ◌||◌, T as Is, leb}
use Rattle.std.proofs.Common.{le_refl, eq-or-lt_of_le, le_of_suc-le-suc, arith, ap, subst, inl, inr, leb→le}
use Rattle.std.proofs.Math.Dec.{nleb→lt}
use Rattle.sums.specs.Masks.{Mask, any_below, Place, at, nowhere, or_else, lowest}

pub which : (b : Bool) → Is b ⊎ Is (not b)
which true = inl tt
which false = inr tt

pub is_true : (b : Bool) → Is b → b ≡ true
is_true true h = refl
is_true false h = absurd h

pub is_false : (b : Bool) → (Is b → ⊥) → b ≡ false
is_false true h = absurd (h tt)
is_false false h = refl

-- two tests that hold together are one
pub same_test : (a b : Bool) → (Is a → Is b) → (Is b → Is a) → a ≡ b
same_test true true p q = refl
same_test true false p q = absurd (p tt)
same_test false true p q = absurd (q tt)
same_test false false p q = refl

pub and_left : (a b : Bool) → Is (a && b) → Is a
and_left true b h = tt
and_left false b h = h

pub and_right : (a b : Bool) → Is (a && b) → Is b
and_right true b h = h
and_right false b h = absurd h

pub and_intro : (a b : Bool) → Is a → Is b → Is (a && b)
and_intro true b p q = q
and_intro false b p q = p

pub or_cases : (a b : Bool) → Is (a || b) → Is a ⊎ Is b
or_cases true b h = inl tt
or_cases false b h = inr h

pub or_left : (a b : Bool) → Is a → Is (a || b)
or_left true b h = tt
or_left false b h = absurd h

pub or_right : (a b : Bool) → Is b → Is (a || b)
or_right true b h = tt
or_right false b h = h

-- ---- some number below n passes

pub any_elim : (n : ℕ) (p : Mask) → Is (any_below n p) → (k : ℕ) × (k < n) × Is (p k)
unfolding any_below
any_elim zero p h = absurd h
any_elim (suc n) p h = go (or_cases (any_below n p) (p n) h) (any_elim n p)
  where
    go : Is (any_below n p) ⊎ Is (p n) → (Is (any_below n p) → (k : ℕ) × (k < n) × Is (p k)) → (k : ℕ) × (k < suc n) × Is (p k)
    go (inl t) ih = let r = ih t in (r.0, omega (arith, r.1), r.2)
    go (inr t) ih = (n, le_refl (suc n), t)

pub any_intro : (n : ℕ) (p : Mask) (k : ℕ) → k < n → Is (p k) → Is (any_below n p)
unfolding any_below
any_intro zero p k l h = absurd (omega arith)
any_intro (suc n) p k l h = go (eq-or-lt_of_le (le_of_suc-le-suc l)) (any_intro n p k)
  where
    go : (k ≡ n) ⊎ (k < n) → (k < n → Is (p k) → Is (any_below n p)) → Is (any_below n p || p n)
    go (inl e) ih = or_right (any_below n p) (p n) (subst (λ (x : ℕ). Is (p x)) e h)
    go (inr q) ih = or_left (any_below n p) (p n) (ih q h)

pub any_same : (n : ℕ) (p q : Mask) → ((k : ℕ) → k < n → p k ≡ q k) → any_below n p ≡ any_below n q
unfolding any_below
any_same zero p q h = refl
any_same (suc n) p q h = cc (any_same n p q (λ k l. h k (omega arith)), h n (le_refl (suc n)))

-- ---- the lowest that passes

-- what it is for a place to be the lowest
pub data Lowest (n : ℕ) (p : Mask) : Place → Type 0 where
  is_at : {k : ℕ} → k < n → Is (p k) → ((j : ℕ) → j < k → Is (p j) → ⊥) → Lowest n p (at k)
  is_none : ((j : ℕ) → j < n → Is (p j) → ⊥) → Lowest n p nowhere

lowest_next : (n : ℕ) (p : Mask) (r : Place) → Lowest n p r → Lowest (suc n) p (or_else r (p n) n)
unfolding or_else
lowest_next n p (at k) (is_at l h m) = is_at {k = k} (omega arith) h m
lowest_next n p nowhere (is_none h) = go (p n) refl
  where
    go : (b : Bool) → p n ≡ b → Lowest (suc n) p (or_else nowhere b n)
    go true e = is_at (le_refl (suc n)) (rw e tt) h
    go false e = is_none (λ j l t. one j (eq-or-lt_of_le (le_of_suc-le-suc l)) t)
      where
        one : (j : ℕ) → (j ≡ n) ⊎ (j < n) → Is (p j) → ⊥
        one j (inl q) t = let f : Is (p n) = subst (λ (x : ℕ). Is (p x)) q t in rw e at f
        one j (inr q) t = h j q t

pub lowest_is : (n : ℕ) (p : Mask) → Lowest n p (lowest n p)
unfolding lowest
lowest_is zero p = is_none (λ j l t. absurd (omega arith))
lowest_is (suc n) p = lowest_next n p (lowest n p) (lowest_is n p)

-- only one place is the lowest
pub lowest_one : (n : ℕ) (p : Mask) (r s : Place) → Lowest n p r → Lowest n p s → r ≡ s
lowest_one n p (at k) (at j) (is_at l h m) (is_at l' h' m') = go (which (leb k j)) (which (leb j k))
  where
    go : Is (leb k j) ⊎ Is (not (leb k j)) → Is (leb j k) ⊎ Is (not (leb j k)) → at k ≡ at j
    go (inr s) w = absurd (m j (nleb→lt k j s) h')
    go (inl s) (inr t) = absurd (m' k (nleb→lt j k t) h)
    go (inl s) (inl t) = ap at (omega (arith, leb→le k j s, leb→le j k t))
lowest_one n p (at k) nowhere (is_at l h m) (is_none h') = absurd (h' k l h)
lowest_one n p nowhere (at j) (is_none h) (is_at l h' m) = absurd (h j l h')
lowest_one n p nowhere nowhere (is_none h) (is_none h') = refl

-- in the shape of a search: the place found, or none
pub lowest_at : (n : ℕ) (p : Mask) (k : ℕ) → k < n → Is (p k) → ((j : ℕ) → j < k → Is (p j) → ⊥) → lowest n p ≡ at k
lowest_at n p k l h m = lowest_one n p (lowest n p) (at k) (lowest_is n p) (is_at l h m)

pub lowest_none : (n : ℕ) (p : Mask) → ((j : ℕ) → j < n → Is (p j) → ⊥) → lowest n p ≡ nowhere
lowest_none n p h = lowest_one n p (lowest n p) nowhere (lowest_is n p) (is_none h)

pub none_lowest : (n : ℕ) (p : Mask) → lowest n p ≡ nowhere → (j : ℕ) → j < n → Is (p j) → ⊥
none_lowest n p e = go (subst (Lowest n p) e (lowest_is n p))
  where
    go : Lowest n p nowhere → (j : ℕ) → j < n → Is (p j) → ⊥
    go (is_none h) = h

-- two tests that agree below n have one lowest place
pub lowest_same : (n : ℕ) (p q : Mask) → ((k : ℕ) → k < n → p k ≡ q k) → lowest n p ≡ lowest n q
unfolding lowest
lowest_same zero p q h = refl
lowest_same (suc n) p q h = cc (lowest_same n p q (λ k l. h k (omega arith)), h n (le_refl (suc n)))
