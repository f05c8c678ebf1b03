-- A part of a list that is written over. Assumes nothing.
use Prim.Native.Nat.{ℕ, ◌+◌, ◌≤◌}
use native.Mathlib.Omega.{arith}
use mathlib.Core.Path.{◌≡◌, sym, ap, ◌∙◌}
use mathlib.Core.List.{List, ◌++◌}
use lib.ListN.{length, take, drop}
use lib.Seq.{sets, sets-eq, take_all}
use Rattle.std.proofs.lemmas.Slice.{put_mid-paste}

-- what is copied over k places from place `at` on is stored there
pub part_stored : (l : List ℕ) (at k : ℕ) (part xs : List ℕ) → part ≡ xs → k ≡ length xs → at + k ≤ length l → take at l ++ (part ++ drop k (drop at l)) ≡ sets l at xs
part_stored l at k part xs e n h =
    put_mid-paste at k l part xs (length xs) e (sym n) (omega arith)
    ∙ ap (λ (r : List ℕ). take at l ++ r ++ drop (at + length xs) l) (take_all (length xs) xs (omega arith))
    ∙ sym (sets-eq xs l at (omega arith))
