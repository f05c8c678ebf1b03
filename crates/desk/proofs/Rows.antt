-- The part of a list that is cut off on both sides, and the words behind a gap laid over it. Assumes nothing.
use Prim.Native.Nat.{ℕ, zero, suc, ◌+◌, ◌-◌, ◌≤◌}
use native.Mathlib.Omega.{arith}
use mathlib.Core.Path.{◌≡◌, sym, ap, ap₂, ◌∙◌}
use mathlib.Core.List.{List, [], ◌∷◌, ◌++◌}
use lib.ListN.{length, take, drop}
use lib.Seq.{paste, slice, take-nil}

drop_take : (a b : ℕ) (l : List ℕ) → slice a b l ≡ take (b - a) (drop a l)
drop_take zero b l = let z : b ≡ b - 0 = omega arith in ap (λ (k : ℕ). take k l) z
drop_take (suc a) zero l = let z : 0 ≡ 0 - suc a = omega arith in ap (λ (k : ℕ). take k (drop (suc a) l)) z
drop_take (suc a) (suc b) [] = sym (take-nil (suc b - suc a))
drop_take (suc a) (suc b) (x ∷ l) = let z : b - a ≡ suc b - suc a = omega arith in drop_take a b l ∙ ap (λ (k : ℕ). take k (drop a l)) z

-- the words behind a gap of six, up to the end, laid over it
pub gap_closed : (w : List ℕ) (gap end : ℕ) → gap + 6 ≤ end → end ≤ length w → paste w gap (drop (gap + 6) w) (end - (gap + 6)) ≡ take gap w ++ slice (gap + 6) end w ++ drop (end - 6) w
gap_closed w gap end h k =
    let next : gap + (end - (gap + 6)) ≡ end - 6 = omega arith in
    ap₂ (λ (r : List ℕ) (n : ℕ). take gap w ++ r ++ drop n w) (sym (drop_take (gap + 6) end w)) next
