-- The idlers of specs/DeskIdlers fall: the story of the last room leaves no other reply. Assumes nothing.
use Rattle.std.specs.Prelude.{◌≡◌, T as Is}
use Rattle.std.proofs.Math.Decide.{ℕ_discrete, dec_le}
use Rattle.std.proofs.Common.{arith, ap}
use Rattle.sums.specs.Masks.{any_below, or_else, lowest}
use Rattle.sums.specs.Sums.{over, ceil, load, demand}
use Rattle.licence.specs.Limit.{limit}
use Rattle.licence.specs.Row.{size_allowed, first_bad, bad_field, bit_times, band_key}
use Rattle.order.specs.Table.{base}
use Rattle.order.specs.Orders.{mem}
use Rattle.intake.specs.Answer.{Answer, answer}
use Rattle.finder.specs.Placing.{rising, leads}
use Rattle.desk.specs.declared.Ledger.{Ledger}
use Rattle.desk.specs.Ledger.{fresh, unfit, edition_refusal, claim_refusal, withdrawal_refusal}
use Rattle.desk.specs.Replies.{Claimed, Withdrawn}
use Rattle.desk.specs.History.{claiming, withdrawing}
use Rattle.desk.proofs.Turns.{ClaimTurn, refused_claim, granted_claim, claim_turn, claim_small, WithdrawalTurn, refused_withdrawal, done_withdrawal, withdrawal_turn, withdrawal_small}
use Rattle.desk.proofs.Outcome.{one_claim, one_withdrawal}
use Rattle.promises.specs.Reckon.{climb, reckon}
use Rattle.promises.specs.Worked.{follow}
use Rattle.promises.specs.LastRoom.{sonar}
use Rattle.promises.proofs.LastRoom.{test, right}
use Rattle.promises.specs.DeskIdlers.{GrantsEveryClaim, RefusesEveryClaim, RefusesEveryWithdrawal, WritesNoClaim, WritesNoWithdrawal, full}

-- ---- the cases leave no other reply

computed : Is (test (claiming sonar 0) fresh (answer 105 1 0)) × Is (test (claiming sonar 2) full (answer 8 3 3)) × Is (test (withdrawing 1 2) full (answer 106 3 0))
unfolding claim_refusal withdrawal_refusal edition_refusal unfit limit bad_field first_bad size_allowed lowest or_else any_below band_key bit_times mem base demand over load ceil reckon climb dec_le ℕ_discrete follow leads rising
computed = (tt, tt, tt)

number : {a b : Answer} → a ≡ b → a.number ≡ b.number
number e = ap (λ (x : Answer). x.number) e

is_granted : (after : Ledger) (a : Answer) → Claimed fresh sonar 0 after a → a.number ≡ 105
is_granted after a x = number (one_claim fresh sonar 0 after _ a _ x (right (claiming sonar 0) fresh (answer 105 1 0) computed.0)).0

no_order : (after : Ledger) (a : Answer) → Claimed full sonar 2 after a → a.number ≡ 8
no_order after a x = number (one_claim full sonar 2 after _ a _ x (right (claiming sonar 2) full (answer 8 3 3) computed.1)).0

is_withdrawn : (after : Ledger) (a : Answer) → Withdrawn full 1 2 after a → a.number ≡ 106
is_withdrawn after a x = number (one_withdrawal full 1 2 after _ a _ x (right (withdrawing 1 2) full (answer 106 3 0) computed.2)).0

-- ---- so they fall

pub refuses_every_claim : RefusesEveryClaim
refuses_every_claim after a l x = omega (arith, is_granted after a x)

pub refuses_every_withdrawal : RefusesEveryWithdrawal
refuses_every_withdrawal after a l x = omega (arith, is_withdrawn after a x)

pub grants_every_claim : GrantsEveryClaim
grants_every_claim after a is_105 x = omega (arith, no_order after a x)

-- what is done raises the edition
pub writes_no_claim : WritesNoClaim
writes_no_claim a x = go (claim_turn fresh sonar 0 fresh a x)
  where
    go : ClaimTurn fresh sonar 0 fresh a → ⊥
    go (refused_claim same n) = refuses_every_claim fresh a (claim_small n) x
    go (granted_claim e is c f) = omega (arith, ap (λ (l : Ledger). l.edition) is)

pub writes_no_withdrawal : WritesNoWithdrawal
writes_no_withdrawal a x = go (withdrawal_turn full 1 2 full a x)
  where
    go : WithdrawalTurn full 1 2 full a → ⊥
    go (refused_withdrawal same n) = refuses_every_withdrawal full a (withdrawal_small n) x
    go (done_withdrawal e is w) = omega (arith, ap (λ (l : Ledger). l.edition) is)
