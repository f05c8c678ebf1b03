-- Sets of rows as tests on row numbers, and the two questions that are asked of a test: does any number below n pass it, and which is
-- the lowest? Definitions only; their laws are in MaskLaws.
-- Assumes nothing.
use Rattle.std.specs.Prelude.{ℕ, zero, suc, ◌<◌, Bool, true, false, not, ◌&&◌, ◌||◌, T as Is, leb, ltb}

-- a set of rows: those at which it is true
abbrev pub Mask : Type 0
Mask = ℕ → Bool

-- the rows of m that are not in o
abbrev pub except : Mask → Mask → Mask
except m o k = m k && not (o k)

-- the places s .. e - 1, and all others
abbrev pub run : (s e : ℕ) → Mask
run s e p = leb s p && ltb p e

abbrev pub outside : (s e : ℕ) → Mask
outside s e p = not (run s e p)

-- does some number below n pass the test?
unfoldable pub any_below : ℕ → Mask → Bool
any_below zero p = false
any_below (suc n) p = any_below n p || p n

-- no number below n passes the test
abbrev pub None : ℕ → Mask → Type 0
None n p = (k : ℕ) → k < n → Is (p k) → ⊥

-- a place, or that there is none
pub data Place : Type 0 where
  at : ℕ → Place
  nowhere : Place

-- a place found, else n if the test holds there
unfoldable pub or_else : Place → Bool → ℕ → Place
or_else (at k) b n = at k
or_else nowhere true n = at n
or_else nowhere false n = nowhere

-- the lowest number below n that passes the test
unfoldable pub lowest : ℕ → Mask → Place
unfolding or_else
lowest zero p = nowhere
lowest (suc n) p = or_else (lowest n p) (p n) n
