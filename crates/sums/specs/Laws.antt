-- Laws of the sums, each said once for sum, greatest and least alike: they look only at the rows below n, they take in one row more, and
-- they grow with what they are over. So does F.
-- Assumes nothing.
use Prim.Native.Nat.{ℕ, zero, suc, ◌+◌, ◌*◌, ◌≤◌, ◌<◌, max, min, zero-le}
use Rattle.std.proofs.Common.{le_refl, le_trans, le_antisymm, mul-le-mul, add-le-add, eq-or-lt_of_le, le_of_suc-le-suc, sym, subst, ◌∙◌, inl, inr}
use Rattle.std.proofs.Math.Numerals.{add-one}
use native.Mathlib.Omega.{arith}
use Rattle.std.specs.Prelude.{◌≡◌, ◌⊎◌, Bool, true, false, cond}
use Rattle.std.proofs.Math.Path.{refl, ap}
use Rattle.std.proofs.Math.Dec.{T as Is}
use Rattle.sums.specs.Masks.{Mask}
use Rattle.sums.specs.MaskLaws.{is_true, is_false}
use Rattle.sums.specs.Sums.{over, sum_over, max_over, min_from, min_over, load, demand}
use Rattle.sums.specs.Quotient.{ceil_mono, ceil_anti}

-- ---- only the rows below n count

module _ (op : ℕ → ℕ → ℕ) (z : ℕ) where
  pub over_same : (n : ℕ) (m m' : Mask) (f f' : ℕ → ℕ) → ((k : ℕ) → k < n → m k ≡ m' k) → ((k : ℕ) → k < n → f k ≡ f' k) → over op z n m f ≡ over op z n m' f'
  unfolding over
  over_same zero m m' f f' hm hf = refl
  over_same (suc n) m m' f f' hm hf =
      cc (over_same n m m' f f' (λ k l. hm k (omega arith)) (λ k l. hf k (omega arith)), hm n (le_refl (suc n)), hf n (le_refl (suc n)))

  -- ---- one row more, as a loop that counts k + 1 has it

  pub over_next : (k : ℕ) (m : Mask) (f : ℕ → ℕ) → over op z (k + 1) m f ≡ op (over op z k m f) (cond (m k) (f k) z)
  unfolding over
  over_next k m f = rw add-one

-- ---- no row, and one row

module _ (op : ℕ → ℕ → ℕ) (z : ℕ) (zz : op z z ≡ z) (m : Mask) (f : ℕ → ℕ) where
  pub over_empty : (n : ℕ) → ((k : ℕ) → k < n → Is (m k) → ⊥) → over op z n m f ≡ z
  unfolding over
  over_empty zero h = refl
  over_empty (suc n) h = rw (over_empty n (λ k l. h k (omega arith)), is_false (m n) (h n (le_refl (suc n)))) zz

  pub over_alone : (x : ℕ) → op z (f x) ≡ f x → op (f x) z ≡ f x → (n : ℕ) → x < n → Is (m x) → ((k : ℕ) → k < n → Is (m k) → k ≡ x) → over op z n m f ≡ f x
  unfolding over
  over_alone x left right zero l t h = absurd (omega arith)
  over_alone x left right (suc n) l t h = go (eq-or-lt_of_le (le_of_suc-le-suc l)) (λ i. over_alone x left right n i t (λ k j. h k (omega arith)))
    where
      go : (x ≡ n) ⊎ (x < n) → (x < n → over op z n m f ≡ f x) → op (over op z n m f) (cond (m n) (f n) z) ≡ f x
      go (inl e) ih = rw (over_empty n (λ k j u. let q = h k (omega arith) u in omega arith), ← e, is_true (m x) t) left
      go (inr i) ih = rw (ih i, is_false (m n) (λ u. let q = h n (le_refl (suc n)) u in omega arith)) right

-- ---- they grow with what they are over

cond_le : (b c : Bool) {x y : ℕ} → (Is b → Is c) → (Is b → x ≤ y) → cond b x 0 ≤ cond c y 0
cond_le true true s h = h tt
cond_le true false s h = absurd (s tt)
cond_le false true s h = zero-le
cond_le false false s h = zero-le

abbrev pub Monotone : (ℕ → ℕ → ℕ) → Type 0
Monotone op = (a b c d : ℕ) → a ≤ b → c ≤ d → op a c ≤ op b d

pub over_mono : (op : ℕ → ℕ → ℕ) → Monotone op → (n : ℕ) (m m' : Mask) (f f' : ℕ → ℕ) → ((k : ℕ) → k < n → Is (m k) → Is (m' k)) → ((k : ℕ) → k < n → Is (m k) → f k ≤ f' k)
    → over op 0 n m f ≤ over op 0 n m' f'
unfolding over
over_mono op mono zero m m' f f' s h = zero-le
over_mono op mono (suc n) m m' f f' s h =
    mono _ _ _ _ (over_mono op mono n m m' f f' (λ k l. s k (omega arith)) (λ k l. h k (omega arith)))
    (cond_le (m n) (m' n) (s n (le_refl (suc n))) (h n (le_refl (suc n))))

pub sum_mono : (n : ℕ) (m m' : Mask) (f f' : ℕ → ℕ) → ((k : ℕ) → k < n → Is (m k) → Is (m' k)) → ((k : ℕ) → k < n → Is (m k) → f k ≤ f' k) → sum_over n m f ≤ sum_over n m' f'
sum_mono = over_mono ◌+◌ (λ a b c d h k. add-le-add h k)

-- ---- rows in any order, for an op that does not care which of two comes first

module _ (op : ℕ → ℕ → ℕ) (z : ℕ) (zz : op z z ≡ z) (swap : (a b c : ℕ) → op (op a b) c ≡ op (op a c) b) where
  -- z adds nothing
  pub over_idle : (n : ℕ) (m : Mask) (f : ℕ → ℕ) → op (over op z n m f) z ≡ over op z n m f
  unfolding over
  over_idle zero m f = zz
  over_idle (suc n) m f = swap _ _ _ ∙ ap (λ (y : ℕ). op y (cond (m n) (f n) z)) (over_idle n m f)

  -- rows from e on that m does not have add nothing
  pub over_beyond : (e n : ℕ) (m : Mask) (f : ℕ → ℕ) → e ≤ n → ((k : ℕ) → e ≤ k → k < n → Is (m k) → ⊥) → over op z n m f ≡ over op z e m f
  unfolding over
  over_beyond e zero m f l h = let q : 0 ≡ e = omega arith in ap (λ (y : ℕ). over op z y m f) q
  over_beyond e (suc n) m f l h = go (eq-or-lt_of_le l) (λ i. over_beyond e n m f i (λ k b c. h k b (omega arith)))
    where
      go : (e ≡ suc n) ⊎ (e < suc n) → (e ≤ n → over op z n m f ≡ over op z e m f) → over op z (suc n) m f ≡ over op z e m f
      go (inl q) ih = ap (λ (y : ℕ). over op z y m f) (sym q)
      go (inr i) ih = rw (is_false (m n) (h n (omega arith) (le_refl (suc n)))) (over_idle n m f ∙ ih (omega arith))

  -- a mask with one row more
  pub over_insert : (n : ℕ) (m m' : Mask) (f : ℕ → ℕ) (x : ℕ) → x < n → m x ≡ false → m' x ≡ true → ((k : ℕ) → k < n → (k ≡ x → ⊥) → m' k ≡ m k) → over op z n m' f ≡ op (over op z n m f) (f x)
  unfolding over
  over_insert zero m m' f x l out in' h = absurd (omega arith)
  over_insert (suc n) m m' f x l out in' h = go (eq-or-lt_of_le (le_of_suc-le-suc l)) (λ i. over_insert n m m' f x i out in' (λ k b. h k (omega arith)))
    where
      go : (x ≡ n) ⊎ (x < n) → (x < n → over op z n m' f ≡ op (over op z n m f) (f x)) → over op z (suc n) m' f ≡ op (over op z (suc n) m f) (f x)
      go (inl e) ih = rw (← e, out, in', over_idle x m f) (ap (λ (y : ℕ). op y (f x)) (over_same op z x m' m f f (λ k b. h k (omega arith) (λ q. absurd (omega arith))) (λ k b. refl)))
      go (inr i) ih = rw (ih i, h n (le_refl (suc n)) (λ q. absurd (omega arith))) (swap _ _ _)

pub sum_insert : (n : ℕ) (m m' : Mask) (f : ℕ → ℕ) (x : ℕ) → x < n → m x ≡ false → m' x ≡ true → ((k : ℕ) → k < n → (k ≡ x → ⊥) → m' k ≡ m k) → sum_over n m' f ≡ sum_over n m f + f x
sum_insert = over_insert ◌+◌ 0 refl (λ a b c. omega arith)

-- two sums are one
pub sum_add : (n : ℕ) (m : Mask) (f g : ℕ → ℕ) → sum_over n m f + sum_over n m g ≡ sum_over n m (λ k. f k + g k)
unfolding over
sum_add zero m f g = refl
sum_add (suc n) m f g = go (m n) (sum_add n m f g)
  where
    go : (b : Bool) → sum_over n m f + sum_over n m g ≡ sum_over n m (λ k. f k + g k)
        → sum_over n m f + cond b (f n) 0 + (sum_over n m g + cond b (g n) 0) ≡ sum_over n m (λ k. f k + g k) + cond b (f n + g n) 0
    go true ih = omega arith
    go false ih = omega arith

-- some of the rows have no more than all
pub sum_part : (m : Mask) (f : ℕ → ℕ) (k n : ℕ) → k ≤ n → sum_over k m f ≤ sum_over n m f
unfolding over
sum_part m f zero zero l = le_refl _
sum_part m f (suc k) zero l = absurd (omega arith)
sum_part m f k (suc n) l = go (eq-or-lt_of_le l) (sum_part m f k n)
  where
    go : (k ≡ suc n) ⊎ (k < suc n) → (k ≤ n → sum_over k m f ≤ sum_over n m f) → sum_over k m f ≤ sum_over (suc n) m f
    go (inl e) ih = rw e (le_refl _)
    go (inr q) ih = let i = ih (omega arith) in omega arith

-- ---- sum, greatest and least have bounds

cond_most : (b : Bool) (x v : ℕ) → x ≤ v → cond b x 0 ≤ v
cond_most true x v h = h
cond_most false x v h = zero-le

pub sum_bound : (n : ℕ) (m : Mask) (f : ℕ → ℕ) (v : ℕ) → ((k : ℕ) → k < n → f k ≤ v) → sum_over n m f ≤ n * v
unfolding over
sum_bound zero m f v h = zero-le
sum_bound (suc n) m f v h = omega (arith, sum_bound n m f v (λ k l. h k (omega arith)), cond_most (m n) (f n) v (h n (le_refl (suc n))))

pub max_bound : (n : ℕ) (m : Mask) (f : ℕ → ℕ) (v : ℕ) → ((k : ℕ) → k < n → f k ≤ v) → max_over n m f ≤ v
unfolding over
max_bound zero m f v h = zero-le
max_bound (suc n) m f v h = omega (arith, max_bound n m f v (λ k l. h k (omega arith)), cond_most (m n) (f n) v (h n (le_refl (suc n))))

cond_in : (b : Bool) (x y : ℕ) → Is b → cond b x y ≡ x
cond_in true x y h = refl
cond_in false x y h = absurd h

cond_ge : (b : Bool) (x y v : ℕ) → (Is b → v ≤ x) → v ≤ y → v ≤ cond b x y
cond_ge true x y v h k = h tt
cond_ge false x y v h k = k

pub max_ge : (n : ℕ) (m : Mask) (f : ℕ → ℕ) (k : ℕ) → k < n → Is (m k) → f k ≤ max_over n m f
unfolding over
max_ge zero m f k l h = absurd (omega arith)
max_ge (suc n) m f k l h = go (eq-or-lt_of_le (le_of_suc-le-suc l)) (max_ge n m f k)
  where
    go : (k ≡ n) ⊎ (k < n) → (k < n → Is (m k) → f k ≤ max_over n m f) → f k ≤ max (max_over n m f) (cond (m n) (f n) 0)
    go (inl e) ih = let c = cond_in (m n) (f n) 0 (subst (λ (x : ℕ). Is (m x)) e h) in let d = ap f e in omega arith
    go (inr q) ih = let i = ih q h in omega arith

max_le_sum : (n : ℕ) (m : Mask) (f : ℕ → ℕ) → max_over n m f ≤ sum_over n m f
unfolding over
max_le_sum zero m f = zero-le
max_le_sum (suc n) m f = let i = max_le_sum n m f in omega arith

pub sum_ge : (n : ℕ) (m : Mask) (f : ℕ → ℕ) (k : ℕ) → k < n → Is (m k) → f k ≤ sum_over n m f
sum_ge n m f k l h = le_trans (max_ge n m f k l h) (max_le_sum n m f)

module _ (d : ℕ) (m : Mask) (f : ℕ → ℕ) where
  pub min_le : (n k : ℕ) → k < n → Is (m k) → min_from d n m f ≤ f k
  unfolding over
  min_le zero k l h = absurd (omega arith)
  min_le (suc n) k l h = go (eq-or-lt_of_le (le_of_suc-le-suc l)) (min_le n k)
    where
      go : (k ≡ n) ⊎ (k < n) → (k < n → Is (m k) → min_from d n m f ≤ f k) → min (min_from d n m f) (cond (m n) (f n) d) ≤ f k
      go (inl e) ih = let c = cond_in (m n) (f n) d (subst (λ (x : ℕ). Is (m x)) e h) in let q = ap f e in omega arith
      go (inr q) ih = let i = ih q h in omega arith

  pub min_ge : (n v : ℕ) → v ≤ d → ((k : ℕ) → k < n → Is (m k) → v ≤ f k) → v ≤ min_from d n m f
  unfolding over
  min_ge zero v b h = b
  min_ge (suc n) v b h =
      let i = min_ge n v b (λ k l. h k (omega arith)) in
      let c = cond_ge (m n) (f n) d v (h n (le_refl (suc n))) b in
      omega arith

-- where m has a row, the least does not depend on where it starts
pub min_start : (d d' n : ℕ) (m : Mask) (f : ℕ → ℕ) (k : ℕ) → k < n → Is (m k) → f k ≤ d → f k ≤ d' → min_from d n m f ≡ min_from d' n m f
min_start d d' n m f k l h p q = le_antisymm (half d d' q) (half d' d p)
  where
    half : (x y : ℕ) → f k ≤ y → min_from x n m f ≤ min_from y n m f
    half x y b = min_ge y m f n (min_from x n m f) (le_trans (min_le x m f n k l h) b) (min_le x m f n)

-- as code takes it, from any top that no number passes
pub min_over_lem : (top n : ℕ) (m : Mask) (f : ℕ → ℕ) (k : ℕ) → k < n → Is (m k) → ((i : ℕ) → i < n → f i ≤ top) → min_from top n m f ≡ min_over n m f
min_over_lem top n m f k l h b = min_start top (max_over n m f) n m f k l h (b k l) (max_ge n m f k l h)

-- ---- what a row above adds

-- it grows with w, with its C and J, and falls with its T
pub load_mono : (C T J C' T' J' : ℕ → ℕ) (w w' k : ℕ) → 0 < T k → w' ≤ w → C' k ≤ C k → T k ≤ T' k → J' k ≤ J k → load C' T' J' w' k ≤ load C T J w k
unfolding load
load_mono C T J C' T' J' w w' k p hw h_c h_t h_j =
    mul-le-mul h_c (le_trans (ceil_anti _ p h_t) (ceil_mono (T k) (omega arith)))

pub load_grows : (C T J : ℕ → ℕ) (w w' k : ℕ) → w' ≤ w → load C T J w' k ≤ load C T J w k
unfolding load
load_grows C T J w w' k hw = mul-le-mul (le_refl (C k)) (ceil_mono (T k) (omega arith))

pub load_same : (C T J C' T' J' : ℕ → ℕ) (w k k' : ℕ) → C k ≡ C' k' → T k ≡ T' k' → J k ≡ J' k' → load C T J w k ≡ load C' T' J' w k'
unfolding load
load_same C T J C' T' J' w k k' c t j = cc

-- ---- F

-- F is monotone
pub demand_grows : (n : ℕ) (C T J : ℕ → ℕ) (base : ℕ) (above : Mask) (a b : ℕ) → a ≤ b → demand n C T J base above a ≤ demand n C T J base above b
unfolding demand
demand_grows n C T J base above a b h =
    omega (arith, sum_mono n above above (load C T J a) (load C T J b) (λ k _ t. t) (λ k _ _. load_grows C T J b a k h))

-- F is monotone in the constant part, in the rows above and in their C and J, and antitone in their T
pub demand_le : (n : ℕ) (C T J C' T' J' : ℕ → ℕ) (base base' : ℕ) (above above' : Mask) → base' ≤ base
    → ((k : ℕ) → k < n → Is (above' k) → Is (above k)) → ((k : ℕ) → k < n → Is (above' k) → (0 < T k) × (C' k ≤ C k) × (T k ≤ T' k) × (J' k ≤ J k))
    → (w : ℕ) → demand n C' T' J' base' above' w ≤ demand n C T J base above w
unfolding demand
demand_le n C T J C' T' J' base base' above above' hb s h w =
    omega (
      arith,
      sum_mono n above' above (load C' T' J' w) (load C T J w) s
          (λ k l t. let q = h k l t in load_mono C T J C' T' J' w w k q.0 (le_refl w) q.1 q.2 q.3),
    )

-- F looks only at the rows below n
pub demand_same : (n : ℕ) (C T J C' T' J' : ℕ → ℕ) (base base' : ℕ) (above above' : Mask) → base ≡ base' → ((k : ℕ) → k < n → above k ≡ above' k)
    → ((k : ℕ) → k < n → (C k ≡ C' k) × (T k ≡ T' k) × (J k ≡ J' k)) → (w : ℕ) → demand n C T J base above w ≡ demand n C' T' J' base' above' w
unfolding demand
demand_same n C T J C' T' J' base base' above above' hb ha h w =
    cc (hb, over_same ◌+◌ 0 n above above' (load C T J w) (load C' T' J' w) ha (λ k l. let q = h k l in load_same C T J C' T' J' w k k q.0 q.1 q.2))
