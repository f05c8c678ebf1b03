-- Lists of frames: what a number of each comes to in all, and the parts of a list that a test keeps.
-- Assumes nothing.
use Rattle.std.specs.Prelude.{ℕ, ◌+◌, ◌≤◌, ◌≡◌, refl, ◌⊎◌}
use Rattle.std.proofs.Common.{arith, sym, ap, ◌∙◌, inl, inr}
use mathlib.Core.List.Memᴰ
use mathlib.Core.List.{List, [], ◌∷◌, ◌++◌}
use Rattle.bus.specs.Model.{Frame, ◌∈◌, if, not?, keep}
use Rattle.bus.specs.Frames.{total, Once}

pub total_append : (h : Frame → ℕ) (a b : List Frame) → total h (a ++ b) ≡ total h a + total h b
total_append h [] b = omega arith
total_append h (x ∷ a) b = omega (arith, total_append h a b)

pub total_zero : (h : Frame → ℕ) (l : List Frame) → ((x : Frame) → x ∈ l → h x ≡ 0) → total h l ≡ 0
total_zero h [] p = refl
total_zero h (x ∷ l) p = omega (arith, p x (Memᴰ.head refl), total_zero h l (λ y m. p y (Memᴰ.tail m)))

pub total_split : (g h k : Frame → ℕ) (l : List Frame) → ((x : Frame) → x ∈ l → g x ≤ h x + k x) → total g l ≤ total h l + total k l
total_split g h k [] p = omega arith
total_split g h k (x ∷ l) p = omega (arith, p x (Memᴰ.head refl), total_split g h k l (λ y m. p y (Memᴰ.tail m)))

pub total_mono : (g h : Frame → ℕ) (l : List Frame) → ((x : Frame) → x ∈ l → g x ≤ h x) → total g l ≤ total h l
total_mono g h l p = omega (arith, total_split g h (λ x. 0) l (λ x m. omega (arith, p x m)), total_zero (λ x. 0) l (λ x m. refl))

pub total_in : (h : Frame → ℕ) (x : Frame) (l : List Frame) → x ∈ l → h x ≤ total h l
total_in h x [] m = elim m [ ]
total_in h x (y ∷ l) (Memᴰ.head e) = omega (arith, ap h e)
total_in h x (y ∷ l) (Memᴰ.tail m) = omega (arith, total_in h x l m)

-- ---- what a test keeps

module _ {P : Frame → Type 0} (p : (x : Frame) → Dec (P x)) where
  pub kept : (x : Frame) (l : List Frame) → x ∈ keep p l → (x ∈ l) × P x
  unfolding keep
  kept x [] m = elim m [ ]
  kept x (y ∷ l) m = go (p y) (λ k. kept x l k) m
    where
      go : (d : Dec (P y)) → (x ∈ keep p l → (x ∈ l) × P x) → x ∈ if d (y ∷ keep p l) (keep p l) → (x ∈ (y ∷ l)) × P x
      go (yes q) ih (Memᴰ.head e) = (Memᴰ.head e, rw e q)
      go (yes q) ih (Memᴰ.tail k) = (Memᴰ.tail (ih k).0, (ih k).1)
      go (no q) ih k = (Memᴰ.tail (ih k).0, (ih k).1)

  pub keeps : (x : Frame) (l : List Frame) → x ∈ l → P x → x ∈ keep p l
  unfolding keep
  keeps x [] m q = elim m [ ]
  keeps x (y ∷ l) m q = go (p y) (λ k. keeps x l k q) m
    where
      go : (d : Dec (P y)) → (x ∈ l → x ∈ keep p l) → x ∈ (y ∷ l) → x ∈ if d (y ∷ keep p l) (keep p l)
      go (yes a) ih (Memᴰ.head e) = Memᴰ.head e
      go (yes a) ih (Memᴰ.tail k) = Memᴰ.tail (ih k)
      go (no a) ih (Memᴰ.head e) = absurd (a (rw (sym e) q))
      go (no a) ih (Memᴰ.tail k) = ih k

pub total_parts : {P : Frame → Type 0} (p : (x : Frame) → Dec (P x)) (h : Frame → ℕ) (l : List Frame) → total h l ≡ total h (keep p l) + total h (keep (λ x. not? (p x)) l)
unfolding keep
total_parts p h [] = omega arith
total_parts {P = P} p h (x ∷ l) = go (p x) (total_parts p h l)
  where
    rest : List Frame
    rest = keep (λ y. not? (p y)) l

    go : (d : Dec (P x)) → total h l ≡ total h (keep p l) + total h rest
        → h x + total h l ≡ total h (if d (x ∷ keep p l) (keep p l)) + total h (if (not? d) (x ∷ rest) rest)
    go (yes q) ih = omega arith
    go (no q) ih = omega arith

-- ---- lists with no frame twice

-- a list without one of its frames
abbrev Without : (Frame → ℕ) → Frame → List Frame → Type 0
Without h x l = (r : List Frame) × (total h l ≡ h x + total h r) × ((y : Frame) → y ∈ l → (y ≡ x) ⊎ (y ∈ r))

without : (h : Frame → ℕ) (x : Frame) (l : List Frame) → x ∈ l → Without h x l
without h x [] m = elim m [ ]
without h x (y ∷ l) (Memᴰ.head e) =
    (l, omega (arith, ap h e), λ z m. elim m [ Memᴰ.head k ↦ inl (k ∙ sym e) | Memᴰ.tail k ↦ inr k ])
without h x (y ∷ l) (Memᴰ.tail m) = go (without h x l m)
  where
    go : Without h x l → Without h x (y ∷ l)
    go (r, e, f) = (
      y ∷ r,
      omega (arith, e),
      λ z k. elim k [
        | Memᴰ.head j ↦ inr (Memᴰ.head j)
        | Memᴰ.tail j ↦ elim (f z j) [ inl i ↦ inl i | inr i ↦ inr (Memᴰ.tail i) ]
      ],
    )

-- it comes to no more than a list that has all its frames
pub total_part : (h : Frame → ℕ) (l w : List Frame) → Once l → ((x : Frame) → x ∈ l → x ∈ w) → total h l ≤ total h w
total_part h [] w o s = omega arith
total_part h (x ∷ l) w o s = go (without h x w (s x (Memᴰ.head refl))) (λ (r : List Frame) k. total_part h l r o.1 k)
  where
    go : Without h x w → ((r : List Frame) → ((y : Frame) → y ∈ l → y ∈ r) → total h l ≤ total h r) → h x + total h l ≤ total h w
    go (r, e, f) ih = omega (
      arith,
      e,
      ih r (λ y m. elim (f y (s y (Memᴰ.tail m))) [
        | inl i ↦ absurd (o.0 (rw i at m))
        | inr i ↦ i
      ]),
    )
