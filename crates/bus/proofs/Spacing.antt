-- Lists of frames in which those of one row lie a period apart: their parts are so too, no frame is in them twice, and only so many frames
-- of one row are queued in a stretch of time.
-- Assumes nothing.
use Prim.Native.Nat.{ℕ, ◌+◌, ◌-◌, ◌*◌, ◌≤◌, ◌<◌}
use Rattle.std.proofs.Math.Nat.{mul-le-mul_right}
use Rattle.std.proofs.Common.{le-div_iff_mul-le, arith, sym, ap, ◌∙◌, inl, inr}
use Rattle.std.proofs.Math.Decide.{ℕ_discrete, dec_le}
use Rattle.std.specs.Prelude.{◌≡◌, refl, ◌⊎◌, Bool, true, false, cond}
use mathlib.Core.List.Memᴰ
use mathlib.Core.List.{List, [], ◌∷◌, ◌++◌}
use Rattle.sums.specs.Masks.{Mask}
use Rattle.sums.specs.Sums.{sum_over, ceil}
use Rattle.sums.specs.Laws.{sum_add, sum_ge, sum_mono}
use Rattle.order.specs.Table.{Table}
use Rattle.bus.specs.Model.{Frame, ◌∈◌, if, keep, After, Apart, Spaced}
use Rattle.bus.specs.Frames.{total, Once}
use Rattle.bus.specs.Spacing.{one_if, how_many, Punctual}
use Rattle.bus.proofs.Frames.{total_split, total_mono, total_zero, kept}

module _ (τ : Table) where
  -- ---- parts of a list

  pub spaced_keep : {P : Frame → Type 0} (p : (x : Frame) → Dec (P x)) (l : List Frame) → Spaced τ l → Spaced τ (keep p l)
  unfolding keep
  spaced_keep p [] sp = tt
  spaced_keep {P = P} p (y ∷ l) sp = go (p y) (spaced_keep p l sp.1)
    where
      go : (d : Dec (P y)) → Spaced τ (keep p l) → Spaced τ (if d (y ∷ keep p l) (keep p l))
      go (yes q) ih = (λ x m. sp.0 x (kept p x l m).0, ih)
      go (no q) ih = ih

  pub spaced_left : (a b : List Frame) → Spaced τ (a ++ b) → Spaced τ a
  spaced_left [] b sp = tt
  spaced_left (x ∷ a) b sp = (λ y m. sp.0 y (Memᴰ.append_left b m), spaced_left a b sp.1)

  pub spaced_right : (a b : List Frame) → Spaced τ (a ++ b) → Spaced τ b
  spaced_right [] b sp = sp
  spaced_right (x ∷ a) b sp = spaced_right a b sp.1

  pub spaced_append : (a b : List Frame) → Spaced τ a → Spaced τ b → ((x y : Frame) → x ∈ a → y ∈ b → x.row ≡ y.row → Apart τ x y) → Spaced τ (a ++ b)
  spaced_append [] b sa sb h = sb
  spaced_append (x ∷ a) b sa sb h = (
    λ y m e. elim (Memᴰ.append_cases a m) [ inl i ↦ sa.0 y i e | inr i ↦ h x y (Memᴰ.head refl) i e ],
    spaced_append a b sa.1 sb (λ u v m n. h u v (Memᴰ.tail m) n),
  )

  -- ---- no frame twice

  -- no frame lies a period after itself
  pub not_apart : (x : Frame) → 1 ≤ τ.T x.row → Apart τ x x → ⊥
  not_apart x t (inl h) = omega arith
  not_apart x t (inr h) = omega arith

  pub spaced_once : (l : List Frame) → ((x : Frame) → x ∈ l → 1 ≤ τ.T x.row) → Spaced τ l → Once l
  spaced_once [] t sp = tt
  spaced_once (x ∷ l) t sp = (λ m. not_apart x (t x (Memᴰ.head refl)) (sp.0 x m refl), spaced_once l (λ y m. t y (Memᴰ.tail m)) sp.1)

  apart_sym : (x y : Frame) → Apart τ x y → Apart τ y x
  apart_sym x y (inl h) = inr h
  apart_sym x y (inr h) = inl h

  -- two frames of one row are one, or apart
  pub one_or_apart : (l : List Frame) (x y : Frame) → Spaced τ l → x ∈ l → y ∈ l → x.row ≡ y.row → (x ≡ y) ⊎ Apart τ x y
  one_or_apart [] x y sp m n e = elim m [ ]
  one_or_apart (z ∷ l) x y sp (Memᴰ.head a) (Memᴰ.head b) e = inl (a ∙ sym b)
  one_or_apart (z ∷ l) x y sp (Memᴰ.head a) (Memᴰ.tail n) e = inr (rw a (sp.0 y n (ap (λ (f : Frame). f.row) (sym a) ∙ e)))
  one_or_apart (z ∷ l) x y sp (Memᴰ.tail m) (Memᴰ.head b) e =
      inr (apart_sym y x (rw b (sp.0 x m (ap (λ (f : Frame). f.row) (sym b) ∙ sym e))))
  one_or_apart (z ∷ l) x y sp (Memᴰ.tail m) (Memᴰ.tail n) e = one_or_apart l x y sp.1 m n e

-- ---- how many

one_yes : {P : Type 0} (d : Dec P) → P → one_if d ≡ 1
one_yes (yes p) q = refl
one_yes (no p) q = absurd (p q)

one_no : {P : Type 0} (d : Dec P) → (P → ⊥) → one_if d ≡ 0
one_no (yes p) q = absurd (q p)
one_no (no p) q = refl

one_or : {P Q R : Type 0} (d : Dec P) (e : Dec Q) (f : Dec R) → (P → Q ⊎ R) → one_if d ≤ one_if e + one_if f
one_or (yes p) e f h = elim (h p) [ inl q ↦ omega (arith, one_yes e q) | inr r ↦ omega (arith, one_yes f r) ]
one_or (no p) e f h = omega arith

one_le : {P Q : Type 0} (d : Dec P) (e : Dec Q) → (P → Q) → one_if d ≤ one_if e
one_le (yes p) e h = omega (arith, one_yes e (h p))
one_le (no p) e h = omega arith

-- a sum by frames is one by rows
pub by_rows : (n : ℕ) (m : Mask) (G : ℕ → ℕ) (l : List Frame) → ((x : Frame) → x ∈ l → x.row < n)
    → total (λ x. cond (m x.row) (G x.row) 0) l ≤ sum_over n m (λ k. G k * how_many k l)
by_rows n m G [] p = omega arith
by_rows n m G (x ∷ l) p =
    let here : ℕ → ℕ = λ k. G k * one_if (ℕ_discrete x.row k) in
    let rest : ℕ → ℕ = λ k. G k * how_many k l in
    let both : sum_over n m (λ k. here k + rest k) ≤ sum_over n m (λ k. G k * how_many k (x ∷ l)) = sum_mono n m m (λ k. here k + rest k) (λ k. G k * how_many k (x ∷ l)) (λ k _ t. t) (λ k _ _. omega arith) in
    omega (arith, both, sum_add n m here rest, by_rows n m G l (λ y i. p y (Memᴰ.tail i)), mine (m x.row) refl)
  where
    mine : (b : Bool) → m x.row ≡ b → cond b (G x.row) 0 ≤ sum_over n m (λ k. G k * one_if (ℕ_discrete x.row k))
    mine false q = omega arith
    mine true q =
        omega (arith, sum_ge n m (λ k. G k * one_if (ℕ_discrete x.row k)) x.row (p x (Memᴰ.head refl)) (rw q tt), ap (λ (c : ℕ). G x.row * c) (one_yes (ℕ_discrete x.row x.row) refl))

module _ (τ : Table) (k : ℕ) where
  -- a frame's event, J later, so that it is no earlier than time 0
  abbrev event : Frame → ℕ
  event x = x.queued + (τ.J k - x.wait)

  -- x is of row k, and its event, with the period after it, lies from lo to hi
  abbrev Inside : ℕ → ℕ → Frame → Type 0
  Inside lo hi x = (x.row ≡ k) × (lo ≤ event x) × (event x + τ.T k ≤ hi)

  inside? : (lo hi : ℕ) (x : Frame) → Dec (Inside lo hi x)
  inside? lo hi x = go (ℕ_discrete x.row k) (dec_le lo (event x)) (dec_le (event x + τ.T k) hi)
    where
      go : Dec (x.row ≡ k) → Dec (lo ≤ event x) → Dec (event x + τ.T k ≤ hi) → Dec (Inside lo hi x)
      go (yes a) (yes b) (yes c) = yes (a, b, c)
      go (yes a) (yes b) (no c) = no (λ z. c z.2)
      go (yes a) (no b) c = no (λ z. b z.1)
      go (no a) b c = no (λ z. a z.0)

  abbrev packed : ℕ → ℕ → List Frame → ℕ
  packed lo hi l = total (λ x. one_if (inside? lo hi x)) l

  -- the events of a list beside that of x lie before it, or a period after it
  beside : (lo hi : ℕ) (x : Frame) (l : List Frame) → x.row ≡ k → ((y : Frame) → y ∈ l → x.row ≡ y.row → Apart τ x y) → Punctual τ k l → x.wait ≤ τ.J k
      → packed lo hi l ≤ packed lo (event x) l + packed (event x + τ.T k) hi l
  beside lo hi x l e apart wl wx = total_split _ _ _ l (λ y m. one_or (inside? lo hi y) (inside? lo (event x) y) (inside? (event x + τ.T k) hi y) (side y m))
    where
      side : (y : Frame) → y ∈ l → Inside lo hi y → Inside lo (event x) y ⊎ Inside (event x + τ.T k) hi y
      side y m i =
          let wy : y.wait ≤ τ.J k = wl y m i.0 in
          elim (apart y m (e ∙ sym i.0)) [
            | inl b ↦ inr (i.0, omega (arith, ap τ.T e), i.2)
            | inr a ↦ inl (i.0, i.1, omega (arith, ap τ.T i.0))
          ]

  -- periods do not overlap
  pack : (l : List Frame) → Spaced τ l → Punctual τ k l → (lo hi : ℕ) → lo ≤ hi → packed lo hi l * τ.T k + lo ≤ hi
  pack [] sp w lo hi h = omega arith
  pack (x ∷ l) sp w lo hi h = go (inside? lo hi x) (pack l sp.1 (λ y m. w y (Memᴰ.tail m)))
    where
      go : (d : Dec (Inside lo hi x)) → ((a b : ℕ) → a ≤ b → packed a b l * τ.T k + a ≤ b) → (one_if d + packed lo hi l) * τ.T k + lo ≤ hi
      go (yes i) ih =
          let b : packed lo hi l * τ.T k ≤ (packed lo (event x) l + packed (event x + τ.T k) hi l) * τ.T k =
          mul-le-mul_right (τ.T k) (beside lo hi x l i.0 sp.0 (λ y m. w y (Memᴰ.tail m)) (w x (Memᴰ.head refl) i.0))
          in omega (arith, b, ih lo (event x) i.1, ih (event x + τ.T k) hi i.2)
      go (no i) ih = omega (arith, ih lo hi h)

  -- of those queued in d bit times there are no more than the rounded-up quotient (d + J + 1) / T
  pub crowd : (s d : ℕ) (l : List Frame) → 1 ≤ τ.T k → Spaced τ l → Punctual τ k l → ((y : Frame) → y ∈ l → y.row ≡ k → (s ≤ y.queued) × (y.queued < s + d))
      → how_many k l ≤ ceil (d + τ.J k + 1) (τ.T k)
  unfolding ceil
  crowd s d l t sp w b =
      let hi : ℕ = s + d + τ.J k + τ.T k in
      let a : how_many k l ≤ packed s hi l =
      total_mono _ _ l (λ y m. one_le (ℕ_discrete y.row k) (inside? s hi y) (λ e. (e, omega (arith, b y m e), omega (arith, b y m e, w y m e))))
      in
      let p : packed s hi l * τ.T k + s ≤ hi = pack l sp w s hi (omega arith) in
      (le-div_iff_mul-le t).1 (omega (arith, mul-le-mul_right (τ.T k) a, p))

  -- and no more than one, if two would be apart and cannot be
  pub alone : (l : List Frame) → Spaced τ l → ((x y : Frame) → x ∈ l → y ∈ l → x.row ≡ k → y.row ≡ k → After τ x y → ⊥) → how_many k l ≤ 1
  alone [] sp h = omega arith
  alone (x ∷ l) sp h = go (ℕ_discrete x.row k) (alone l sp.1 (λ y z m n. h y z (Memᴰ.tail m) (Memᴰ.tail n)))
    where
      none : x.row ≡ k → (y : Frame) → y ∈ l → y.row ≡ k → ⊥
      none e y m q = elim (sp.0 y m (e ∙ sym q)) [
        | inl a ↦ h x y (Memᴰ.head refl) (Memᴰ.tail m) e q a
        | inr a ↦ h y x (Memᴰ.tail m) (Memᴰ.head refl) q e a
      ]

      go : (d : Dec (x.row ≡ k)) → how_many k l ≤ 1 → one_if d + how_many k l ≤ 1
      go (yes e) ih = omega (arith, total_zero (λ (y : Frame). one_if (ℕ_discrete y.row k)) l (λ y m. one_no (ℕ_discrete y.row k) (none e y m)))
      go (no e) ih = omega arith
