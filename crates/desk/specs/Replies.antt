-- The reply table of the desk, whole: what is refused, and else how a claim or a withdrawal is answered, with every word of the ledger.
-- Definitions only.
-- Assumes nothing.
use Rattle.std.specs.Prelude.{ℕ, ◌+◌, ◌-◌, ◌≡◌, ◌⊎◌, List, [], Result, Ok, Err}
use Rattle.intake.specs.Words.{table_of}
use Rattle.intake.specs.Answer.{Answer, refusal_answer, told_as, Check, refused, fine, Replied}
use Rattle.intake.specs.declared.Refusal.{Refusal}
use Rattle.intake.specs.declared.Refusal.TheVariants.{NoOrder}
use Rattle.finder.specs.Placing.{Ending, found, none, free, Finds}
use Rattle.desk.specs.Ledger.{claim_refusal, withdrawal_refusal, changed, with_row, without_row}
use Rattle.desk.specs.declared.Ledger.{Ledger}

-- a claim that is granted is 105, a row withdrawn 106, either with the new edition, and a refusal its own number
abbrev pub decision_answer : (number : ℕ) → Result ℕ Refusal → Answer
decision_answer number r = told_as number r

-- a check as code tells it
abbrev pub CheckIs : Check → Result (Unit {0}) Refusal → Type 0
CheckIs check (Ok u) = check ≡ fine
CheckIs check (Err r) = check ≡ refused (refusal_answer r)

-- a change by value: the ledger afterwards, which is as it was where the change is refused, and the new edition
abbrev pub ledger_after : Ledger → Result Ledger Refusal → Ledger
ledger_after l (Ok changed) = changed
ledger_after l (Err r) = l

abbrev pub edition_after : Result Ledger Refusal → Result ℕ Refusal
edition_after (Ok changed) = Ok changed.edition
edition_after (Err r) = Err r

-- where the placing rule finds an order for the held rows plus this one, the row is added and the reply carries the new edition; where there is
-- none, that is the reply, and the ledger is untouched
abbrev pub Told : Ledger → (row : List ℕ) → Ending → (after : Ledger) (a : Answer) → Type 0
Told l row (found order tried) after a = (a ≡ decision_answer 105 (Ok (l.edition + 1))) × (after ≡ changed l (with_row l row) (l.held + 1))
Told l row (none unplaced tried) after a = (a ≡ refusal_answer (NoOrder unplaced tried)) × (after ≡ l)

-- a claim that no check refuses: from no row placed and none tried, the rule ends so, and that is told
pub record Answered (l : Ledger) (row : List ℕ) (after : Ledger) (a : Answer) : Type 0 where
  pub ending : Ending
  pub follows : Finds (table_of (with_row l row)) free [] 0 ending
  pub told : Told l row ending after a

-- the reply to a claim of this row by one who saw this edition, and the ledger before and after
abbrev pub Claimed : (before : Ledger) (row : List ℕ) (seen : ℕ) (after : Ledger) (a : Answer) → Type 0
Claimed before row seen after a = Replied (claim_refusal before row seen) before after a (Answered before row after a)

-- the reply to a withdrawal of row k by one who saw this edition, and the ledger before and after
abbrev pub Withdrawn : (before : Ledger) (k seen : ℕ) (after : Ledger) (a : Answer) → Type 0
Withdrawn before k seen after a =
    Replied (withdrawal_refusal before k seen) before after a
    ((a ≡ decision_answer 106 (Ok (before.edition + 1))) × (after ≡ changed before (without_row before k) (before.held - 1)))

-- the refusals of a claim but for 8, which is told by the rule, and of a withdrawal
abbrev pub ClaimNumber : ℕ → Type 0
ClaimNumber n = (n ≡ 23) ⊎ ((n ≡ 1) ⊎ ((n ≡ 3) ⊎ ((n ≡ 9) ⊎ ((n ≡ 10) ⊎ (n ≡ 2)))))

abbrev pub WithdrawalNumber : ℕ → Type 0
WithdrawalNumber n = (n ≡ 23) ⊎ ((n ≡ 9) ⊎ ((n ≡ 10) ⊎ (n ≡ 11)))
