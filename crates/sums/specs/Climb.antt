-- The climb to the least solution, and what follows from it: a post-solution has a least solution below it.
-- Assumes nothing.
use Rattle.std.specs.Prelude.{ℕ, zero, suc, ◌+◌, ◌≤◌, ◌<◌, ◌≡◌, Option, Some, None}
use Rattle.std.proofs.Common.{zero-le, le_trans, le_of_eq, le_antisymm, arith, subst}
use Rattle.std.proofs.Math.Decide.{ℕ_discrete}
use Rattle.sums.specs.Least.{Least, Fits, Grows, SettledIs, DemandIs}

-- w is on the way: F is not below it there, and no w with F(w) ≤ w is below it
pub record OnWay (F : ℕ → ℕ) (w : ℕ) : Type 0 where
  pub rises : w ≤ F w
  pub low : (v : ℕ) → F v ≤ v → w ≤ v

-- what F never goes below is on the way
pub from_below : (F : ℕ → ℕ) (w : ℕ) → ((v : ℕ) → w ≤ F v) → OnWay F w
from_below F w h = record { rises = h w; low = λ v e. le_trans (h v) e }

-- where it stays, it is the least solution
pub arrived : (F : ℕ → ℕ) {w : ℕ} → OnWay F w → F w ≡ w → Least F w
arrived F h e = record { solves = e; least = λ v q. h.low v (le_of_eq q) }

-- where it goes past a limit, no solution is within it
pub too_far : (F : ℕ → ℕ) {w : ℕ} (cap : ℕ) → OnWay F w → cap < w → (v : ℕ) → F v ≡ v → cap < v
too_far F cap h l v e = let q = h.low v (le_of_eq e) in omega arith

module _ (F : ℕ → ℕ) (grows : Grows F) where
  pub one_step : {w : ℕ} → OnWay F w → OnWay F (F w)
  one_step {w} h = record { rises = grows w (F w) h.rises; low = λ v e. le_trans (grows w v (h.low v e)) e }

  module _ (v : ℕ) (post : F v ≤ v) where
    climb : (fuel w : ℕ) → v ≤ w + fuel → OnWay F w → (x : ℕ) × Least F x × (x ≤ v)
    climb zero w f h = (w, arrived F h (le_antisymm (le_trans (grows w v (h.low v post)) (le_trans post (omega arith))) h.rises), h.low v post)
    climb (suc fuel) w f h =
        elim (ℕ_discrete (F w) w) [
          | yes e ↦ (w, arrived F h e, h.low v post)
          | no ne ↦ climb fuel (F w) (further ne) (one_step h)
        ]
      where
        further : (F w ≡ w → ⊥) → v ≤ F w + fuel
        further ne = let r = h.rises in omega arith

    -- a least solution, no greater than v
    pub least_below : (x : ℕ) × Least F x × (x ≤ v)
    least_below = climb v 0 (omega arith) (from_below F 0 (λ u. zero-le))

  -- where a solution fits, the least one does
  pub least_fits : (m e : ℕ) → Fits F m e → (x : ℕ) × Least F x × (x + m ≤ e)
  least_fits m e p = let x = least_below p.w (le_of_eq p.solves) in (x.0, x.1, omega (arith, x.2, p.within))

-- F taken k times from 0 on
abbrev pub climbed : (ℕ → ℕ) → ℕ → ℕ
climbed F zero = 0
climbed F (suc k) = F (climbed F k)

-- where that stays, it is the least solution
pub least_climbed : (F : ℕ → ℕ) → Grows F → (k : ℕ) → F (climbed F k) ≡ climbed F k → Least F (climbed F k)
least_climbed F grows k e = arrived F (on_way k) e
  where
    on_way : (k : ℕ) → OnWay F (climbed F k)
    on_way zero = from_below F 0 (λ u. zero-le)
    on_way (suc k) = one_step F grows (on_way k)

pub least_one : (F : ℕ → ℕ) {w v : ℕ} → Least F w → Least F v → w ≡ v
least_one F {w} {v} a b = le_antisymm (a.least v b.solves) (b.least w a.solves)

-- a smaller right side, a smaller m and a wider limit keep a solution within the limit, with no greater w
pub fits_mono : (F G : ℕ → ℕ) (m m' e e' : ℕ) → Grows G → ((w : ℕ) → G w ≤ F w) → m' ≤ m → e ≤ e' → (p : Fits F m e) → (q : Fits G m' e') × (q.w ≤ p.w)
fits_mono F G m m' e e' grows le hm he p =
    let x = least_below G grows p.w (le_trans (le p.w) (le_of_eq p.solves)) in
    (record { w = x.0; solves = x.1.solves; within = omega (arith, x.2, p.within) }, x.2)

-- ---- what code asks of an answer

module _ (F : ℕ → ℕ) (cap : ℕ) where
  pub settled_at : {s : Option ℕ} {w : ℕ} → SettledIs F cap s → s ≡ Some w → Least F w × (w ≤ cap)
  settled_at h e = subst (λ (x : Option ℕ). SettledIs F cap x) e h

  pub settled_never : {s : Option ℕ} → SettledIs F cap s → s ≡ None → (v : ℕ) → F v ≡ v → cap < v
  settled_never h e = subst (λ (x : Option ℕ). SettledIs F cap x) e h

module _ (x cap : ℕ) where
  pub demand_is : {d : Option ℕ} {r : ℕ} → DemandIs x cap d → d ≡ Some r → (r ≡ x) × (r ≤ cap)
  demand_is h e = subst (λ (y : Option ℕ). DemandIs x cap y) e h

  pub demand_past : {d : Option ℕ} → DemandIs x cap d → d ≡ None → cap < x
  demand_past h e = subst (λ (y : Option ℕ). DemandIs x cap y) e h
