-- The promise of specs/Stuffing is kept: C has as many stuff bits as any bits may need, and not one more.
-- Assumes nothing.
use Rattle.std.specs.Prelude.{ℕ, zero, suc, ◌+◌, ◌-◌, ◌*◌, ◌/◌, ◌≤◌, Bool, true, false, cond, not, List, [], ◌∷◌, ◌≡◌, refl, eqb, length}
use Rattle.std.proofs.Common.{arith, ap, lit≤, eqb-true}
use Rattle.std.proofs.lemmas.Bool.{eqb-false}
use Rattle.licence.specs.Row.{frame, bit_times}
use Rattle.licence.specs.Stuffing.{run, wire, Longest, FramesLongest, FramesInTens}

-- ---- the most bits on the wire for n bits after a run of k: 5 - k of them at least go before the first stuff bit, and 4 before each next

abbrev most : (n k : ℕ) → ℕ
most n k = n + (n + k - 1) / 4

run_most : (b : Bool) (k : ℕ) (x : Bool) → run b k x ≤ suc k
run_most true k true = omega arith
run_most true k false = omega arith
run_most false k true = omega arith
run_most false k false = omega arith

-- one bit more, which ends a run of r: the rest makes u after a stuff bit y where r is 5, else v
one_more : (n k r : ℕ) (y : Bool) (u v : List Bool) (t : Bool) → eqb r 5 ≡ t → r ≤ suc k → k ≤ 4 → length u ≤ most n 1 → (r ≤ 4 → length v ≤ most n r)
    → suc (length (cond t (y ∷ u) v)) ≤ most (suc n) k
one_more n k r y u v true e h k4 lu lv = omega (arith, lu, eqb-true r 5 e)
one_more n k r y u v false e h k4 lu lv = omega (arith, lv (omega (arith, eqb-false r 5 e)))

at_most : (b : Bool) (k : ℕ) (bits : List Bool) → k ≤ 4 → length (wire b k bits) ≤ most (length bits) k
unfolding wire
at_most b k [] h = omega arith
at_most b k (x ∷ bits) h =
    one_more (length bits) k (run b k x) (not x) _ _ _ refl (run_most b k x) h (at_most (not x) 1 bits (lit≤ tt)) (at_most x (run b k x) bits)

-- ---- and so many there are where each bit is as the last one on the wire: 00000 1111 0000 1111 and so on, with a stuff bit at each gap

abbrev Reached : (b : Bool) (k n : ℕ) → Type 0
Reached b k n = (bits : List Bool) × (length bits ≡ n) × (length (wire b k bits) ≡ most n k)

same_bit : (b : Bool) (k : ℕ) (bits : List Bool) (t : Bool) → eqb (suc k) 5 ≡ t
    → length (wire b k (b ∷ bits)) ≡ suc (length (cond t (not b ∷ wire (not b) 1 bits) (wire b (suc k) bits)))
unfolding wire
same_bit true k bits t e = rw e
same_bit false k bits t e = rw e

so_many : (b : Bool) (k n : ℕ) → k ≤ 4 → Reached b k n
unfolding wire
so_many b k zero h = ([], refl, omega arith)
so_many b k (suc n) h = go (eqb (suc k) 5) refl (so_many (not b) 1 n (lit≤ tt)) (so_many b (suc k) n)
  where
    go : (t : Bool) → eqb (suc k) 5 ≡ t → Reached (not b) 1 n → (suc k ≤ 4 → Reached b (suc k) n) → Reached b k (suc n)
    go true e after_stuff running_on =
        (b ∷ after_stuff.0, ap suc after_stuff.1, omega (arith, same_bit b k after_stuff.0 true e, after_stuff.2, eqb-true (suc k) 5 e))
    go false e after_stuff running_on =
        let next = running_on (omega (arith, eqb-false (suc k) 5 e)) in
        (b ∷ next.0, ap suc next.1, omega (arith, same_bit b k next.0 false e, next.2))

-- ---- so `frame` has the stuff bits that any bits may need, and not one more

frame_longest : (g s : ℕ) → Longest (g + 8 * s) (frame g s)
frame_longest g s =
    record {
      no_more = λ bits l. omega (arith, at_most false 0 bits (lit≤ tt), l);
      reached = let r = so_many false 0 (g + 8 * s) (lit≤ tt) in (r.0, r.1, omega (arith, r.2));
    }

pub frames_longest : FramesLongest
unfolding bit_times
frames_longest s = (frame_longest 34 s, frame_longest 54 s)

pub frames_in_tens : FramesInTens
unfolding bit_times
frames_in_tens s = (omega arith, omega arith)
