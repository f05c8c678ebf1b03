-- What a row above adds is at least its C, whatever w is. Here, and not in specs/, since it rests on the + 1 of the quotient.
-- Assumes nothing.
use Rattle.std.specs.Prelude.{ℕ, ◌+◌, ◌*◌, ◌≤◌, ◌<◌, ◌≡◌, List, length}
use Rattle.std.proofs.Common.{arith, sym, ap, ◌∙◌, refl, le_refl, le_trans, le_of_eq}
use Rattle.std.proofs.Math.Nat.{mul-one, mul-le-mul}
use Rattle.sums.specs.Masks.{Mask}
use Rattle.sums.specs.Sums.{sum_over, ceil, load, demand}
use Rattle.sums.specs.Laws.{over_same}
use Rattle.sums.specs.Columns.{at}
use Rattle.sums.specs.Terms.{column, nothing, lengths, periods, jitters}
use Rattle.sums.specs.TermLaws.{at_column}
use Rattle.sums.specs.declared.Terms.{Terms}
use Rattle.sums.specs.Quotient.{ceil_pos}

-- it is at least C
pub load_once : (C T J : ℕ → ℕ) (w k : ℕ) → 0 < T k → C k ≤ load C T J w k
unfolding load
load_once C T J w k p = le_trans (le_of_eq (sym (mul-one (C k)))) (mul-le-mul (le_refl (C k)) (ceil_pos _ (T k) (omega arith) p))

-- what each row adds within w, as code has it
abbrev pub added : ℕ → Terms → ℕ
added w row = row.length * ceil (w + row.jitter + 1) row.period

added_at : (rows : List Terms) (w k : ℕ) → k < length rows → at (column (added w) rows) k ≡ load (at (lengths rows)) (at (periods rows)) (at (jitters rows)) w k
unfolding load
added_at rows w k l =
    at_column (added w) rows k nothing l
    ∙ sym (rw (at_column (λ row. row.length) rows k nothing l, at_column (λ row. row.period) rows k nothing l, at_column (λ row. row.jitter) rows k nothing l))

-- the constant part, and what the rows of a mask add within w, is F(w)
pub demand_added : (rows : List Terms) (base : ℕ) (above : Mask) (w : ℕ)
    → base + sum_over (length rows) above (at (column (added w) rows)) ≡ demand (length rows) (at (lengths rows)) (at (periods rows)) (at (jitters rows)) base above w
unfolding demand
demand_added rows base above w = ap (λ (x : ℕ). base + x) (over_same ◌+◌ 0 (length rows) above above _ _ (λ k l. refl) (λ k l. added_at rows w k l))
