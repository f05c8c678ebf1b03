-- The reply table of finding, whole: what is refused, and else how the placing rule ends and every word of the lent list. Definitions only.
-- Assumes nothing.
use Rattle.std.specs.Prelude.{ℕ, ◌≡◌, List, [], ◌++◌, length, drop, Result, Ok}
use Rattle.order.specs.Table.{Table}
use Rattle.intake.specs.Words.{table_of}
use Rattle.intake.specs.Answer.{Answer, refusal_answer, told_as, Replied}
use Rattle.intake.specs.Refusals.{table_refusal}
use Rattle.finder.specs.Placing.{Ending, found, none, free, Finds}
use Rattle.intake.specs.declared.Refusal.{Refusal}
use Rattle.intake.specs.declared.Refusal.TheVariants.{NoOrder}

-- the number and the carried values of each case: found 102 with the number of bands tried, a refusal as its own
abbrev pub finding_answer : Result ℕ Refusal → Answer
finding_answer r = told_as 102 r

-- an order found stands in the first places of the lent list, and what stood behind them stays; with none the list is untouched
abbrev pub Told : Ending → (before after : List ℕ) (a : Answer) → Type 0
Told (found order tried) before after a = (a ≡ finding_answer (Ok tried)) × (after ≡ order ++ drop (length order) before)
Told (none unplaced tried) before after a = (a ≡ refusal_answer (NoOrder unplaced tried)) × (after ≡ before)

-- a table that no check refuses: from no row placed and none tried, the rule ends so, and that is told
pub record Answered (τ : Table) (before after : List ℕ) (a : Answer) : Type 0 where
  pub ending : Ending
  pub follows : Finds τ free [] 0 ending
  pub told : Told ending before after a

-- the reply to a table, and the lent list before and after
abbrev pub Searched : (words before after : List ℕ) (a : Answer) → Type 0
Searched words before after a = Replied (table_refusal words (length before)) before after a (Answered (table_of words) before after a)
