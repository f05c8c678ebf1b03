-- The numbers of a run, place by place, and their bounds. Assumes nothing.
use Prim.Native.Nat.{ℕ, ◌+◌, ◌*◌, ◌≤◌, ◌<◌, max, min}
use native.Mathlib.Omega.{arith}
use mathlib.Core.Path.{◌≡◌, refl, sym}
use mathlib.Core.List.{List}
use Rattle.sums.specs.Masks.{run}
use Rattle.sums.specs.Laws.{sum_bound, sum_ge, max_bound, min_le}
use Rattle.sums.specs.Runs.{run_here, run_none, run_next}
use Rattle.sums.specs.Columns.{at}
use Rattle.order.specs.Sheet.{NumbersAre, top, RunIn}
use Rattle.order.specs.Columns.{lengths_part}
use Rattle.order.specs.declared.Numbers.{Numbers}

module _ (C A : ℕ → ℕ) (s e : ℕ) where
  pub numbers_none : NumbersAre s C A (run s e) (record { longest = 0; sum = 0; shortest = top; tightest = top })
  numbers_none =
      record {
        longest = sym (run_none max 0 refl s e C);
        sum = sym (run_none ◌+◌ 0 refl s e C);
        shortest = sym (run_none min top refl s e C);
        tightest = sym (run_none min top refl s e A);
      }

  pub numbers_next : (p : ℕ) (x y : Numbers) → s ≤ p → p < e
      → y.longest ≡ max x.longest (C p) → y.sum ≡ x.sum + C p → y.shortest ≡ min x.shortest (C p) → y.tightest ≡ min x.tightest (A p)
      → NumbersAre p C A (run s e) x → NumbersAre (p + 1) C A (run s e) y
  numbers_next p x y l h longest sum shortest tightest is =
      record {
        longest = cc (is.longest, run_next max 0 refl s e C p l h);
        sum = cc (is.sum, run_next ◌+◌ 0 refl s e C p l h);
        shortest = cc (is.shortest, run_next min top refl s e C p l h);
        tightest = cc (is.tightest, run_next min top refl s e A p l h);
      }

-- no sum of a run's numbers wraps
pub record Bounds (e : ℕ) (x : Numbers) : Type 0 where
  pub longest : x.longest ≤ 4096
  pub sum : x.sum ≤ e * 4096
  pub shortest : x.shortest ≤ x.sum
  pub tightest : x.tightest ≤ 1000000

pub bounds : {n : ℕ} {c t j a : List ℕ} {s e below : ℕ} {x : Numbers} → RunIn n c t j a s e below → NumbersAre e (at c) (at a) (run s e) x → Bounds e x
bounds {c = c} {a = a} {s = s} {e = e} h is =
    let l = h.some in
    let here = run_here s e s (omega arith) l in
    let part = lengths_part h.inside h.lengths in
    record {
      longest = omega (arith, is.longest, max_bound e (run s e) (at c) 4096 part.c_most);
      sum = omega (arith, is.sum, sum_bound e (run s e) (at c) 4096 part.c_most);
      shortest = omega (arith, is.shortest, is.sum, min_le top (run s e) (at c) e s l here, sum_ge e (run s e) (at c) s l here);
      tightest = omega (arith, is.tightest, min_le top (run s e) (at a) e s l here, part.e_most s l);
    }
