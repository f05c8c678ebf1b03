-- The promises of specs/Outcome are kept. Assumes nothing.
use Rattle.std.specs.Prelude.{ℕ, ◌+◌, ◌*◌, ◌≤◌, ◌≡◌, ◌⊎◌, ◌↔◌, List, [], ◌++◌, length}
use Rattle.std.proofs.Common.{arith, ap, ap₂, subst, ◌∙◌, inl, inr, append-nil, drop_of_length-le, take_at}
use Rattle.licence.specs.Laws.{row_allowed}
use Rattle.order.specs.Orders.{HasOrder}
use Rattle.intake.specs.Words.{table_of}
use Rattle.intake.specs.Answer.{Answer, fine}
use Rattle.intake.specs.Laws.{meet, replied_one}
use Rattle.intake.specs.Told.{told_as_one}
use Rattle.finder.specs.Placing.{Ending, found, none, free, Finds}
use Rattle.finder.proofs.Right.{Right, finds_one, finds_right}
use Rattle.desk.specs.Ledger.{Whole, held_words, row_out, claim_refusal, with_row}
use Rattle.desk.specs.Replies.{Told, Claimed, ClaimNumber, WithdrawalNumber}
use Rattle.desk.proofs.Laws.{Claimable, claimable}
use Rattle.desk.proofs.HeldRows.{held_length, with_length, with_good, with_count}
use Rattle.desk.proofs.Leaving.{still_ordered}
use Rattle.desk.proofs.Turns.{ClaimTurn, refused_claim, granted_claim, claim_turn, WithdrawalTurn, refused_withdrawal, done_withdrawal, withdrawal_turn}
use Rattle.desk.specs.declared.Ledger.{Ledger}
use Rattle.desk.specs.Outcome.{ClaimAltersNothing, GrantedExactly, NoOrderExactly, NoOrderStays, NoOtherClaimReply, NoOtherWithdrawalReply, OneClaim, OneDecision, OneWithdrawal, WithdrawalAltersNothing}

-- ---- the proofs

pub one_claim : OneClaim
one_claim before row seen after after' a a' s s' =
    replied_one s s' (λ e x y. one_told x.ending x.told (subst (λ (r : Ending). Told before row r after' a') (finds_one (table_of (with_row before row)) free y.follows x.follows) y.told))
  where
    one_told : (r : Ending) → Told before row r after a → Told before row r after' a' → (a ≡ a') × (after ≡ after')
    one_told (found o t) x y = meet x y
    one_told (none u t) x y = meet x y

pub one_withdrawal : OneWithdrawal
one_withdrawal before k seen after after' a a' s s' = replied_one s s' (λ e x y. meet x y)

pub one_decision : OneDecision
one_decision = told_as_one

pub claim_alters_nothing : ClaimAltersNothing
claim_alters_nothing before row seen after a x other = go (claim_turn before row seen after a x)
  where
    go : ClaimTurn before row seen after a → after ≡ before
    go (refused_claim same n) = same
    go (granted_claim e is c f) = absurd (other (ap (λ (y : Answer). y.number) e))

pub withdrawal_alters_nothing : WithdrawalAltersNothing
withdrawal_alters_nothing before k seen after a x other = go (withdrawal_turn before k seen after a x)
  where
    go : WithdrawalTurn before k seen after a → after ≡ before
    go (refused_withdrawal same n) = same
    go (done_withdrawal e is w) = absurd (other (ap (λ (y : Answer). y.number) e))

pub no_other_claim_reply : NoOtherClaimReply
no_other_claim_reply before row seen after a x = go (claim_turn before row seen after a x)
  where
    go : ClaimTurn before row seen after a → (a.number ≡ 105) ⊎ ((a.number ≡ 8) ⊎ ClaimNumber a.number)
    go (refused_claim same n) = inr n
    go (granted_claim e is c f) = inl (ap (λ (y : Answer). y.number) e)

pub no_other_withdrawal_reply : NoOtherWithdrawalReply
no_other_withdrawal_reply before k seen after a x = go (withdrawal_turn before k seen after a x)
  where
    go : WithdrawalTurn before k seen after a → (a.number ≡ 106) ⊎ WithdrawalNumber a.number
    go (refused_withdrawal same n) = inr n
    go (done_withdrawal e is w) = inl (ap (λ (y : Answer). y.number) e)

-- the table of a claim has periods, so the ending is right
pub claim_right : (l : Ledger) (row : List ℕ) (seen : ℕ) → Whole l → Claimable l row seen → {r : Ending} → Finds (table_of (with_row l row)) free [] 0 r → Right (table_of (with_row l row)) free r
claim_right l row seen long c = finds_right (table_of (with_row l row)) free (λ i b. (row_allowed (with_row l row) i (with_good l row words c.six c.held_fit c.good i (omega (arith, with_count l row words c.six)))).period_pos) (λ a a' b more t. t)
  where
    words : l.held * 6 ≤ length l.words
    words = omega (arith, c.room)

module _ (before : Ledger) (row : List ℕ) (seen : ℕ) (after : Ledger) (a : Answer) (x : Claimed before row seen after a) (long : Whole before)
    (e : claim_refusal before row seen ≡ fine) where
  -- an order, or that there is none, with the number that is replied
  told_order : ((a.number ≡ 105) × HasOrder (table_of (with_row before row))) ⊎ ((a.number ≡ 8) × (HasOrder (table_of (with_row before row)) → ⊥))
  told_order = let y = x.answering e in go y.ending y.told (claim_right before row seen long (claimable before row seen e) y.follows)
    where
      go : (r : Ending) → Told before row r after a → Right (table_of (with_row before row)) free r → ((a.number ≡ 105) × HasOrder (table_of (with_row before row))) ⊎ ((a.number ≡ 8) × (HasOrder (table_of (with_row before row)) → ⊥))
      go (found o t) says right = inl (ap (λ (z : Answer). z.number) says.0, (o, right.order, right.together, right.passing))
      go (none u t) says right = inr (ap (λ (z : Answer). z.number) says.0, λ (o, order, together, passing). right o order passing (λ p l. tt))

pub granted_exactly : GrantedExactly
granted_exactly before row seen after a x long e = go (told_order before row seen after a x long e)
  where
    go : ((a.number ≡ 105) × HasOrder (table_of (with_row before row))) ⊎ ((a.number ≡ 8) × (HasOrder (table_of (with_row before row)) → ⊥)) → (a.number ≡ 105) ↔ HasOrder (table_of (with_row before row))
    go (inl (n, some)) = ((λ q. some), (λ q. n))
    go (inr (n, no_order)) = ((λ q. absurd (omega arith)), (λ q. absurd (no_order q)))

pub no_order_exactly : NoOrderExactly
no_order_exactly before row seen after a x long e = go (told_order before row seen after a x long e)
  where
    go : ((a.number ≡ 105) × HasOrder (table_of (with_row before row))) ⊎ ((a.number ≡ 8) × (HasOrder (table_of (with_row before row)) → ⊥)) → (a.number ≡ 8) ↔ (HasOrder (table_of (with_row before row)) → ⊥)
    go (inl (n, some)) = ((λ q. absurd (omega arith)), (λ q. absurd (q some)))
    go (inr (n, no_order)) = ((λ q. no_order), (λ q. n))

-- with the new row taken out again, the rows are those held
taken_back : (l : Ledger) (row : List ℕ) → l.held * 6 ≤ length l.words → length row ≡ 6 → row_out l.held (with_row l row) ≡ held_words l
taken_back l row long six =
    ap₂ ◌++◌ (take_at (held_words l) row (l.held * 6) (held_length l long)) (drop_of_length-le (with_row l row) {i = l.held * 6 + 6} (omega (arith, with_length l row long six)))
    ∙ append-nil (held_words l)

pub no_order_stays : NoOrderStays
no_order_stays before row seen after a x whole e lacking =
    let c = claimable before row seen e in
    let long : before.held * 6 ≤ length before.words = omega (arith, c.room) in
    (no_order_exactly before row seen after a x whole e).1
    (λ h. lacking (subst (λ (w : List ℕ). HasOrder (table_of w)) (taken_back before row long c.six)
    (still_ordered (with_row before row) (before.held + 1) before.held (omega arith) (with_length before row long c.six) (with_good before row long c.six c.held_fit c.good) h)))
