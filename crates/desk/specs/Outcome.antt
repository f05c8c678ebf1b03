-- What follows from the statements of claiming and withdrawing: each leaves room for a single outcome, a refusal alters nothing, and a claim that no
-- check refuses is granted exactly where an order passes. The promises are here, their proofs in proofs/Outcome.
-- Assumes nothing.
use Rattle.std.specs.Prelude.{ℕ, ◌≤◌, ◌≡◌, ◌⊎◌, ◌↔◌, List, Result, IsOk}
use Rattle.order.specs.Orders.{HasOrder}
use Rattle.intake.specs.Words.{table_of}
use Rattle.intake.specs.Answer.{Answer, fine}
use Rattle.intake.specs.declared.Refusal.{Refusal}
use Rattle.desk.specs.Ledger.{Whole, held_words, claim_refusal, with_row}
use Rattle.desk.specs.Replies.{decision_answer, Claimed, Withdrawn, ClaimNumber, WithdrawalNumber}
use Rattle.desk.specs.declared.Ledger.{Ledger}

-- For any ledger, row and edition, the statement of claiming allows no two answers and no two ledgers afterwards.
abbrev pub OneClaim : Type 0
OneClaim = (before : Ledger) (row : List ℕ) (seen : ℕ) (after after' : Ledger) (a a' : Answer)
    → Claimed before row seen after a → Claimed before row seen after' a' → (a ≡ a') × (after ≡ after')

-- The same of withdrawing.
abbrev pub OneWithdrawal : Type 0
OneWithdrawal = (before : Ledger) (k seen : ℕ) (after after' : Ledger) (a a' : Answer)
    → Withdrawn before k seen after a → Withdrawn before k seen after' a' → (a ≡ a') × (after ≡ after')

-- And an answer is of one case of the Result that `claim` and `withdraw` give, and where that is Ok, of one of the two.
abbrev pub OneDecision : Type 0
OneDecision = (number number' : ℕ) → 100 ≤ number → 100 ≤ number' → (r r' : Result ℕ Refusal) → decision_answer number r ≡ decision_answer number' r'
    → (r ≡ r') × (IsOk r → number ≡ number')

-- A claim that is not granted, whatever the reply, alters no word of the ledger; the same of a withdrawal.
abbrev pub ClaimAltersNothing : Type 0
ClaimAltersNothing = (before : Ledger) (row : List ℕ) (seen : ℕ) (after : Ledger) (a : Answer) → Claimed before row seen after a → (a.number ≡ 105 → ⊥) → after ≡ before

abbrev pub WithdrawalAltersNothing : Type 0
WithdrawalAltersNothing = (before : Ledger) (k seen : ℕ) (after : Ledger) (a : Answer) → Withdrawn before k seen after a → (a.number ≡ 106 → ⊥) → after ≡ before

-- Of a claim that no check refuses, 'granted' is replied exactly where some order of the held rows plus this one passes.
abbrev pub GrantedExactly : Type 0
GrantedExactly = (before : Ledger) (row : List ℕ) (seen : ℕ) (after : Ledger) (a : Answer) → Claimed before row seen after a → Whole before → claim_refusal before row seen ≡ fine
    → (a.number ≡ 105) ↔ HasOrder (table_of (with_row before row))

-- Of a claim that no check refuses, 'no order' is replied exactly where none passes.
abbrev pub NoOrderExactly : Type 0
NoOrderExactly = (before : Ledger) (row : List ℕ) (seen : ℕ) (after : Ledger) (a : Answer) → Claimed before row seen after a → Whole before → claim_refusal before row seen ≡ fine
    → (a.number ≡ 8) ↔ (HasOrder (table_of (with_row before row)) → ⊥)

-- Where the held rows have no order already, every claim that no check refuses is answered 8.
abbrev pub NoOrderStays : Type 0
NoOrderStays = (before : Ledger) (row : List ℕ) (seen : ℕ) (after : Ledger) (a : Answer) → Claimed before row seen after a → Whole before → claim_refusal before row seen ≡ fine
    → (HasOrder (table_of (held_words before)) → ⊥) → a.number ≡ 8

-- Nothing is replied to a claim but granted, 'no order' and the refusals 23, 1, 3, 9, 10 and 2; and to a withdrawal but withdrawn, 23, 9, 10 and 11.
abbrev pub NoOtherClaimReply : Type 0
NoOtherClaimReply = (before : Ledger) (row : List ℕ) (seen : ℕ) (after : Ledger) (a : Answer) → Claimed before row seen after a
    → (a.number ≡ 105) ⊎ ((a.number ≡ 8) ⊎ ClaimNumber a.number)

abbrev pub NoOtherWithdrawalReply : Type 0
NoOtherWithdrawalReply = (before : Ledger) (k seen : ℕ) (after : Ledger) (a : Answer) → Withdrawn before k seen after a → (a.number ≡ 106) ⊎ WithdrawalNumber a.number
