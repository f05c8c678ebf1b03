-- Lists of frames: what a number of each comes to in all, whether a frame is in them, and whether one is in them twice. Definitions only.
-- Assumes nothing.
use Rattle.std.specs.Prelude.{ℕ, ◌+◌, ◌≡◌}
use Rattle.std.proofs.Math.Decide.{ℕ_discrete}
use Rattle.std.proofs.Common.{ap}
use mathlib.Core.List.Memᴰ
use mathlib.Core.List.{List, [], ◌∷◌}
use Rattle.bus.specs.Model.{Frame, ◌∈◌}

-- the sum of h over the frames of a list
abbrev pub total : (Frame → ℕ) → List Frame → ℕ
total h [] = 0
total h (x ∷ l) = h x + total h l

-- ---- is a frame in a list?

same_frame : (x y : Frame) → Dec (x ≡ y)
same_frame x y = go (ℕ_discrete x.row y.row) (ℕ_discrete x.queued y.queued) (ℕ_discrete x.wait y.wait) (ℕ_discrete x.len y.len)
  where
    go : Dec (x.row ≡ y.row) → Dec (x.queued ≡ y.queued) → Dec (x.wait ≡ y.wait) → Dec (x.len ≡ y.len) → Dec (x ≡ y)
    go (yes a) (yes b) (yes c) (yes d) = yes (λ i. record { row = a i; queued = b i; wait = c i; len = d i })
    go (no n) b c d = no (λ e. n (ap (λ (f : Frame). f.row) e))
    go (yes a) (no n) c d = no (λ e. n (ap (λ (f : Frame). f.queued) e))
    go (yes a) (yes b) (no n) d = no (λ e. n (ap (λ (f : Frame). f.wait) e))
    go (yes a) (yes b) (yes c) (no n) = no (λ e. n (ap (λ (f : Frame). f.len) e))

pub in? : (x : Frame) (l : List Frame) → Dec (x ∈ l)
in? x [] = no (λ m. elim m [ ])
in? x (y ∷ l) = go (same_frame x y) (in? x l)
  where
    go : Dec (x ≡ y) → Dec (x ∈ l) → Dec (x ∈ (y ∷ l))
    go (yes e) d = yes (Memᴰ.head e)
    go (no n) (yes m) = yes (Memᴰ.tail m)
    go (no n) (no m) = no (λ k. elim k [ Memᴰ.head e ↦ n e | Memᴰ.tail j ↦ m j ])

-- ---- lists with no frame twice

abbrev pub Once : List Frame → Type 0
Once [] = Unit {0}
Once (x ∷ l) = (x ∈ l → ⊥) × Once l
