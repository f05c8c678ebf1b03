-- The idlers of specs/Idlers fall: the cases leave no other outcome. Assumes nothing.
use Rattle.std.specs.Prelude.{ℕ, ◌≡◌, refl, List, [], ◌∷◌}
use Rattle.std.proofs.Common.{arith, sym, ap, ◌∙◌}
use mathlib.Core.List.Memᴰ
use Rattle.sums.specs.Columns.{at}
use Rattle.intake.specs.Answer.{Answer, answer}
use Rattle.judge.proofs.Outcome.{one_outcome as one_judged}
use Rattle.finder.proofs.Outcome.{one_outcome as one_searched}
use Rattle.promises.specs.Cases.{lent, table_a}
use Rattle.promises.proofs.Cases.{as_written}
use Rattle.promises.specs.Idlers.{CallsEveryRowLate, FindsNoOrderEver, GivesFixedFigures, GivesLargeFigures, InventsTried, JudgedA, JudgedC, JudgedD, RefusesEverything, SearchedB, SettlesUntested, WritesNothing}

-- ---- the cases leave no other outcome

only_a : (after : List ℕ) (a : Answer) → JudgedA after a → (a ≡ answer 100 0 0) × (after ≡ 450 ∷ 325 ∷ 575 ∷ 200 ∷ [])
only_a after a j = one_judged _ _ _ after _ a _ j (as_written _ (Memᴰ.head refl))

only_b : (after : List ℕ) (a : Answer) → SearchedB after a → (a ≡ answer 102 5 0) × (after ≡ 3 ∷ 1 ∷ 2 ∷ 0 ∷ [])
only_b after a j = one_searched _ _ after _ a _ j (as_written _ (Memᴰ.tail (Memᴰ.head refl)))

only_c : (after : List ℕ) (a : Answer) → JudgedC after a → (a ≡ answer 100 0 0) × (after ≡ 340 ∷ 340 ∷ 180 ∷ [])
only_c after a j = one_judged _ _ _ after _ a _ j (as_written _ (Memᴰ.tail (Memᴰ.tail (Memᴰ.tail (Memᴰ.head refl)))))

only_d : (after : List ℕ) (a : Answer) → JudgedD after a → (a ≡ answer 100 0 0) × (after ≡ 260 ∷ 260 ∷ 320 ∷ [])
only_d after a j = one_judged _ _ _ after _ a _ j (as_written _ (Memᴰ.tail (Memᴰ.tail (Memᴰ.tail (Memᴰ.tail (Memᴰ.head refl))))))

-- ---- so they fall

number : {a b : Answer} → a ≡ b → a.number ≡ b.number
number e = ap (λ (x : Answer). x.number) e

pub refuses_everything : RefusesEverything
refuses_everything after a l = ((λ j. omega (arith, number (only_a after a j).0)), (λ j. omega (arith, number (only_b after a j).0)))

pub calls_every_row_late : CallsEveryRowLate
calls_every_row_late after a is_101 j = omega (arith, number (only_a after a j).0)

pub finds_no_order_ever : FindsNoOrderEver
finds_no_order_ever after a is_8 j = omega (arith, number (only_b after a j).0)

pub gives_large_figures : GivesLargeFigures
gives_large_figures after a i l j = omega (arith, ap (λ (x : List ℕ). at x i) (only_c after a j).1)

pub writes_nothing : WritesNothing
writes_nothing a = ((λ j. omega (arith, ap (λ (x : List ℕ). at x 0) (only_a (lent table_a) a j).1)), (λ j. omega (arith, ap (λ (x : List ℕ). at x 0) (only_b (lent table_a) a j).1)))

pub gives_fixed_figures : GivesFixedFigures
gives_fixed_figures fixed a a' c d = omega (arith, ap (λ (x : List ℕ). at x 0) (sym (only_c fixed a c).1 ∙ (only_d fixed a' d).1))

pub settles_untested : SettlesUntested
settles_untested after a n j = n (only_b after a j).1

pub invents_tried : InventsTried
invents_tried after tried n j = n (ap (λ (x : Answer). x.first) (only_b after (answer 102 tried 0) j).0)
