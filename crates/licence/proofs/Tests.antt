-- How a contract by nested tests is met: `search tests` has each test's value from what the branches on the way told.
-- Assumes nothing.
use Prim.Native.Nat.{ℕ}
use mathlib.Core.Bool.{Bool, true, false, cond, not, ◌&&◌}
use mathlib.Core.Path.{◌≡◌, sym, ◌∙◌, subst}
use native.Mathlib.Omega.{arith}
use Rattle.std.specs.Prelude.{Some, leb}
use Rattle.std.specs.Ordering.{nat_cmp, partial_le, partial_lt}
use borrow.Author.Tests.{le-leb, lt-leb, eq-eqb, ne_eqb, not-true, not-false}

-- a chain of tests goes on past one that held, and stops at one that failed
pub goes_on : (b : Bool) (x y r : ℕ) → b ≡ true → r ≡ y → r ≡ cond (not b) x y
goes_on b x y r h e = subst (λ (t : Bool). r ≡ cond (not t) x y) (sym h) e

pub stops : (b : Bool) (x y r : ℕ) → b ≡ false → r ≡ x → r ≡ cond (not b) x y
stops b x y r h e = subst (λ (t : Bool). r ≡ cond (not t) x y) (sym h) e

-- the test b, which a call answered by a: what the branch on `!a` told
pub told_true : (a b : Bool) → a ≡ b → not a ≡ false → b ≡ true
told_true a b e h = sym e ∙ not-false a h

pub told_false : (a b : Bool) → a ≡ b → not a ≡ true → b ≡ false
told_false a b e h = sym e ∙ not-true a h

-- `contains` of a range from lo to hi
le_told : (a b : ℕ) → partial_le (λ x y. Some (nat_cmp x y)) a b ≡ leb a b
le_told a b = grind arith

pub range_tells : {start end lo hi : ℕ} {spent : Bool} (x : ℕ) → start ≡ lo → end ≡ hi → spent ≡ false
    → (partial_le (λ x y. Some (nat_cmp x y)) start x && cond spent (partial_lt (λ x y. Some (nat_cmp x y)) x end) (partial_le (λ x y. Some (nat_cmp x y)) x end))
    ≡ (leb lo x && leb x hi)
range_tells {lo = lo} {hi = hi} x s e f = rw (s, e, f) (cc (le_told lo x, le_told x hi))

pub ruleset tests = (goes_on, stops, told_true, told_false, le-leb, lt-leb, eq-eqb, ne_eqb)
