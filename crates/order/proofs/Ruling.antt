-- From the numbers of a run, and what the search over the rows around it answers, to the verdict. Assumes nothing.
use Prim.Native.Nat.{ℕ, ◌+◌, ◌-◌, ◌≤◌, ◌<◌, max, min}
use native.Mathlib.Omega.{arith}
use mathlib.Core.Path.{◌≡◌, refl, sym, subst₃, ◌∙◌}
use mathlib.Core.List.{List}
use Rattle.sums.specs.Masks.{run, outside}
use Rattle.sums.specs.Sums.{min_over, min_from, demand}
use Rattle.sums.specs.Laws.{min_over_lem}
use Rattle.sums.specs.Runs.{run_here, run_beyond}
use Rattle.sums.specs.Least.{Least}
use Rattle.sums.specs.Columns.{at}
use Rattle.order.specs.Sheet.{NumbersAre, top, VerdictIs, RunIn, RunVerdict}
use Rattle.order.specs.declared.Numbers.{Numbers}
use Rattle.std.specs.Prelude.{Option, Some, None}

module _ {n : ℕ} {c t j a : List ℕ} {s e below : ℕ} {x : Numbers} (h : RunIn n c t j a s e below) (is : NumbersAre e (at c) (at a) (run s e) x) where
  -- F with the constant part open
  abbrev F : ℕ → ℕ → ℕ
  F base = demand n (at c) (at t) (at j) base (outside s e)

  -- the numbers of the first e places are those of all n
  least : (f : ℕ → ℕ) → ((k : ℕ) → k < n → f k ≤ top) → min_from top e (run s e) f ≡ min_over n (run s e) f
  least f b = sym (run_beyond min top refl s e f (λ a b c. omega arith) n h.inside) ∙ min_over_lem top n (run s e) f s (omega (arith, h.some, h.inside)) (run_here s e s (omega arith) h.some) b

  says : (l : ℕ) → l ≡ max below x.longest → (v : Option ℕ) → VerdictIs (F (l + (x.sum - x.shortest))) x.shortest x.tightest v → RunVerdict n c t j a s e below v
  says l longest v ruling =
      let shortest = is.shortest ∙ least (at c) (λ k i. omega (arith, h.lengths.c_most k i)) in
      subst₃ (λ (b m y : ℕ). VerdictIs (F b) m y v)
      (cc (longest, is.longest, is.sum, shortest, run_beyond max 0 refl s e (at c) (λ a b c. omega arith) n h.inside, run_beyond ◌+◌ 0 refl s e (at c) (λ a b c. omega arith) n h.inside))
      shortest
      (is.tightest ∙ least (at a) (λ k i. omega (arith, h.lengths.e_most k i)))
      ruling

  -- the shortest length alone is past the time allowed
  pub no_time : x.tightest < x.shortest → RunVerdict n c t j a s e below None
  no_time late = says (max below x.longest) refl None (λ p. absurd (omega (arith, p.within)))

  module _ {l : ℕ} (longest : l ≡ max below x.longest) (time : x.shortest ≤ x.tightest) where
    pub found : {w : ℕ} → Least (F (l + (x.sum - x.shortest))) w → w ≤ x.tightest - x.shortest → RunVerdict n c t j a s e below (Some (w + x.shortest))
    found {w} solved within = says l longest (Some (w + x.shortest)) (record { w = w; least = solved; is = refl; within = omega arith })

    pub never : ((v : ℕ) → F (l + (x.sum - x.shortest)) v ≡ v → x.tightest - x.shortest < v) → RunVerdict n c t j a s e below None
    never past = says l longest None (λ p. absurd (omega (arith, past p.w p.solves, p.within)))
