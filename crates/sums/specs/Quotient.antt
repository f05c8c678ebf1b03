-- Laws of the rounded-up quotient.
-- Assumes nothing.
use Rattle.std.specs.Prelude.{ℕ, zero, suc, ◌+◌, ◌-◌, ◌*◌, ◌/◌, ◌≤◌, ◌<◌, ◌≡◌}
use Rattle.std.proofs.Common.{zero-le, suc-le-suc, div-lt_iff_lt-mul, le_of_suc-le-suc, zero-mul, mul-one, le_of_eq, le_trans, mul-le-mul_left, arith, sym, ap, ◌∙◌}
use Rattle.std.proofs.Math.Nat.{div-zero, lt-div-mul-add, add-div_right}
use Rattle.sums.specs.Sums.{ceil}

pub ceil_le : {a q : ℕ} (t : ℕ) → 0 < t → a ≤ q * t → ceil a t ≤ q
unfolding ceil
ceil_le {a} {q} t p h = le_of_suc-le-suc ((div-lt_iff_lt-mul {k = t} {x = a + (t - 1)} {y = suc q} p).1 (omega arith))

pub ceil_ge : (a t : ℕ) → 0 < t → a ≤ ceil a t * t
unfolding ceil
ceil_ge a t p = omega (arith, lt-div-mul-add {a = a + (t - 1)} {b = t} p)

pub ceil_mono : {a b : ℕ} (t : ℕ) → a ≤ b → ceil a t ≤ ceil b t
unfolding ceil
ceil_mono {a} {b} zero h = rw div-zero zero-le
ceil_mono {a} {b} (suc t) h = ceil_le (suc t) (suc-le-suc zero-le) (le_trans h (ceil_ge b (suc t) (suc-le-suc zero-le)))

-- a longer period gives no more
pub ceil_anti : (a : ℕ) {s t : ℕ} → 0 < s → s ≤ t → ceil a t ≤ ceil a s
ceil_anti a {s} {t} h k = ceil_le t (omega arith) (le_trans (ceil_ge a s h) (mul-le-mul_left (ceil a s) k))

pub ceil_pos : (a t : ℕ) → 0 < a → 0 < t → 0 < ceil a t
ceil_pos a t h k = go (ceil a t) (ceil_ge a t k)
  where
    go : (q : ℕ) → a ≤ q * t → 0 < q
    go zero e = omega (arith, zero-mul t)
    go (suc q) e = suc-le-suc zero-le

pub ceil_bound : (a t : ℕ) → 0 < t → ceil a t ≤ a
ceil_bound a t p = ceil_le t p (le_trans (le_of_eq (sym (mul-one a))) (mul-le-mul_left a p))

-- as code takes it
pub ceil_next : (a t : ℕ) → 0 < t → ceil (a + 1) t ≡ a / t + 1
unfolding ceil
ceil_next a t p = ap (λ (x : ℕ). x / t) (omega arith) ∙ add-div_right a p
