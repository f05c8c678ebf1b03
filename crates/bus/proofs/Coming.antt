-- What comes in a stretch of time no longer than w: of the frames above a band that come to compete no more than its sum allows for, and of the band's own
-- at most one of each row.
-- Assumes nothing.
use Rattle.std.specs.Prelude.{ℕ, ◌+◌, ◌-◌, ◌≤◌, ◌<◌, ◌≡◌, Bool, true, false, T as Is}
use Rattle.std.proofs.Math.Nat.{mul-le-mul_left, le_trans}
use Rattle.std.proofs.Common.{arith, sym, ap, subst}
use Rattle.std.proofs.Math.Bool.{cond}
use mathlib.Core.List.{List}
use Rattle.sums.specs.Sums.{max_over, load, ceil}
use Rattle.sums.specs.Laws.{sum_mono, min_le}
use Rattle.order.specs.Table.{Table, SUM, MIN, least_e}
use Rattle.order.specs.Orders.{own, above}
use Rattle.bus.specs.Model.{Frame, Run, ◌∈◌, during, After, Licensed, Legal, Sane}
use Rattle.bus.specs.Spacing.{how_many}
use Rattle.bus.specs.Trace.{joined, window}
use Rattle.bus.specs.Competing.{Competes, fresh, Prompt}
use Rattle.bus.specs.Enough.{jitter, rush, bits, most}
use Rattle.bus.specs.Coming.{coming, own_coming}
use Rattle.bus.proofs.Frames.{total_mono}
use Rattle.bus.proofs.Spacing.{by_rows, crowd, alone}
use Rattle.bus.proofs.Trace.{lawful, queued_by, spaced_window, in_window}
use Rattle.bus.proofs.Competing.{rival_waits, fresh_rival, fresh_spaced}

module _ (τ : Table) (sane : Sane τ) (o : List ℕ) (run : Run) (legal : Legal τ run) (p w : ℕ) where
  pub own_coming_most : w + MIN τ (own τ o p) ≤ least_e τ (own τ o p) → (s d : ℕ) → d ≤ w → own_coming τ o run p s d ≤ SUM τ (own τ o p)
  unfolding own_coming most
  own_coming_most within s d h =
      le_trans (by_rows τ.n (own τ o p) τ.C l (λ x m. (lawful_in x m).2.row_is))
      (sum_mono τ.n (own τ o p) (own τ o p) _ τ.C (λ k _ t. t) (λ k i t. omega (arith, mul-le-mul_left (τ.C k) (alone τ k l (spaced_window τ o run legal s d) (clash k i t)))))
    where
      l : List Frame
      l = window (during run) s d

      lawful_in : (x : Frame) → x ∈ l → (s ≤ x.queued) × (x.queued < s + d) × Licensed τ x.queued x
      lawful_in x m =
          let y = in_window (during run) d s x m in
          let z = legal.licensed y.0 x y.3 in
          (omega (arith, y.1, z.queued_at), omega (arith, y.2, z.queued_at), subst (λ (j : ℕ). Licensed τ j x) (sym z.queued_at) z)

      -- w is no longer than a period less the jitter, so one frame of each row is all
      clash : (k : ℕ) → k < τ.n → Is (own τ o p k) → (x y : Frame) → x ∈ l → y ∈ l → x.row ≡ k → y.row ≡ k → After τ x y → ⊥
      clash k i t x y mx my ex ey g =
          omega (
            arith,
            g,
            (lawful_in x mx).0,
            (lawful_in y my).1,
            (lawful_in x mx).2.wait_most,
            ap τ.J ex,
            ap τ.T ex,
            within,
            min_le (max_over τ.n (own τ o p) τ.E) (own τ o p) τ.E τ.n k i t,
            sane.within k i,
          )

  module _ (comp : List Frame → List Frame) (K : Competes τ comp) where
    abbrev new : ℕ → List Frame
    new = fresh τ o run comp

    pub coming_most : (f : ℕ → ℕ) (s d : ℕ) → d ≤ w → Prompt τ o run comp f (s + d) → coming τ o run comp p s d ≤ rush τ o f p w
    unfolding coming bits load
    coming_most f s d h prompt =
        le_trans (total_mono (bits τ o p) (λ x. cond (above τ o p x.row) (τ.C x.row) 0) l (λ x m. longer (above τ o p x.row) (lawful_in x m).len_most))
        (le_trans (by_rows τ.n (above τ o p) τ.C l (λ x m. (lawful_in x m).row_is))
        (sum_mono τ.n (above τ o p) (above τ o p) _ _ (λ k _ t. t) (λ k i _. mul-le-mul_left (τ.C k) (few k i))))
      where
        l : List Frame
        l = window new s d

        there : (x : Frame) → x ∈ l → (u : ℕ) × (s ≤ u) × (u < s + d) × (x ∈ new u)
        there x m = in_window new d s x m

        waits : (x : Frame) (u : ℕ) → x ∈ new u → x ∈ (joined τ o run u).waiting
        waits x u m = rival_waits τ sane o run legal comp K u x (fresh_rival τ sane o run legal comp K u x m)

        lawful_in : (x : Frame) → x ∈ l → Licensed τ x.queued x
        lawful_in x m = let y = there x m in lawful τ o run legal y.0 x (waits x y.0 y.3)

        longer : (b : Bool) {x y : ℕ} → x ≤ y → cond b x 0 ≤ cond b y 0
        longer true q = q
        longer false q = omega arith

        few : (k : ℕ) → k < τ.n → how_many k l ≤ ceil (w + jitter τ f k + 1) (τ.T k)
        few k i =
            subst (λ (a : ℕ). how_many k l ≤ ceil a (τ.T k)) (omega arith)
            (crowd τ k (s - f k) (w + f k) l (sane.period k i) (fresh_spaced τ sane o run legal comp K d s)
            (λ y m e. omega (arith, (lawful_in y m).wait_most, ap τ.J e))
            (λ y m e. let u = there y m in
            let late = prompt u.0 u.2 y u.3 in
            let early = queued_by τ o run legal u.0 y (waits y u.0 u.3) in
            (omega (arith, u.1, ap f e), omega (arith, u.2))))
