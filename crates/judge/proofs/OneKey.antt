-- Places of one key, as the search for the start of a run passes them. Assumes nothing.
use native.Mathlib.Decide.{dec_lt}
use native.Mathlib.Omega.{arith}
use Prim.Native.Nat.{ℕ, ◌≤◌, ◌<◌, ◌-◌}
use mathlib.Core.Path.{◌≡◌, sym, ap, ◌∙◌}
use mathlib.Core.List.{List}
use Rattle.sums.specs.Columns.{at}

-- the places s .. e - 1 have the key of place s
abbrev pub OneKey : (key : List ℕ) (s e : ℕ) → Type 0
OneKey key s e = (p : ℕ) → s ≤ p → p < e → at key p ≡ at key s

-- the place before is of the run too
pub one_more : (key : List ℕ) (s e : ℕ) → at key (s - 1) ≡ at key s → OneKey key s e → OneKey key (s - 1) e
one_more key s e same h p l b = go (dec_lt p s)
  where
    go : Dec (p < s) → at key p ≡ at key (s - 1)
    go (yes d) = ap (at key) (omega arith)
    go (no d) = h p (omega arith) b ∙ sym same
