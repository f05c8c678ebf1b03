-- How a call at the desk turns out: the refusals that there are, and else what was done.
-- Assumes nothing.
use Rattle.std.specs.Prelude.{ℕ, ◌+◌, ◌-◌, ◌<◌, ◌≡◌, refl, ◌⊎◌, not, List, [], length, eqb, leb, Ok}
use Rattle.std.proofs.Common.{arith, sym, ap, subst, inl, inr}
use Rattle.licence.specs.Limit.{limit}
use Rattle.licence.specs.Row.{bad_field}
use Rattle.intake.specs.Words.{bad_row, table_of}
use Rattle.intake.specs.Answer.{Answer, answer, Check, refused, fine}
use Rattle.intake.specs.Told.{Numbers, number_has, then_numbers, if_numbers}
use Rattle.finder.specs.Placing.{Ending, found, none, free, Finds}
use Rattle.desk.specs.Ledger.{last_edition, unfit, edition_refusal, claim_refusal, withdrawal_refusal, changed, with_row, without_row}
use Rattle.desk.specs.Replies.{decision_answer, Told, Claimed, Withdrawn, ClaimNumber, WithdrawalNumber}
use Rattle.desk.proofs.Laws.{Claimable, claimable, Withdrawable, withdrawable}
use Rattle.desk.specs.declared.Ledger.{Ledger}

-- ---- the numbers of the checks

edition_numbers : {P : ℕ → Type 0} → P 9 → P 10 → (edition seen : ℕ) → Numbers P (edition_refusal edition seen)
unfolding edition_refusal
edition_numbers p q edition seen = then_numbers (if_numbers (eqb edition last_edition) (answer 9 0 0) p) (if_numbers (not (eqb seen edition)) (answer 10 0 0) q)

claim_numbers : (l : Ledger) (row : List ℕ) (seen : ℕ) → Numbers ClaimNumber (claim_refusal l row seen)
unfolding claim_refusal
claim_numbers l row seen =
    then_numbers (if_numbers (unfit l.words l.held) (answer 23 0 0) (inl refl)) (then_numbers (if_numbers (not (eqb (length row) 6)) (answer 1 0 0) (inr (inl refl)))
    (then_numbers (if_numbers (bad_row row 0) (answer 3 0 (bad_field row 0)) (inr (inr (inl refl))))
    (then_numbers (edition_numbers (inr (inr (inr (inl refl)))) (inr (inr (inr (inr (inl refl))))) l.edition seen)
    (if_numbers (eqb l.held limit) (answer 2 0 0) (inr (inr (inr (inr (inr refl)))))))))

withdrawal_numbers : (l : Ledger) (k seen : ℕ) → Numbers WithdrawalNumber (withdrawal_refusal l k seen)
unfolding withdrawal_refusal
withdrawal_numbers l k seen =
    then_numbers (if_numbers (unfit l.words l.held) (answer 23 0 0) (inl refl)) (then_numbers (edition_numbers (inr (inl refl)) (inr (inr (inl refl))) l.edition seen)
    (if_numbers (leb l.held k) (answer 11 0 0) (inr (inr (inr refl)))))

-- ---- how a call turns out

-- a claim is refused, and nothing altered; or the row is added, and an order was found
pub data ClaimTurn (l : Ledger) (row : List ℕ) (seen : ℕ) (after : Ledger) (a : Answer) : Type 0 where
  refused_claim : after ≡ l → (a.number ≡ 8) ⊎ ClaimNumber a.number → ClaimTurn l row seen after a
  granted_claim : {o : List ℕ} {t : ℕ} → a ≡ decision_answer 105 (Ok (l.edition + 1)) → after ≡ changed l (with_row l row) (l.held + 1) → Claimable l row seen
      → Finds (table_of (with_row l row)) free [] 0 (found o t) → ClaimTurn l row seen after a

pub claim_turn : (l : Ledger) (row : List ℕ) (seen : ℕ) (after : Ledger) (a : Answer) → Claimed l row seen after a → ClaimTurn l row seen after a
claim_turn l row seen after a x = go (claim_refusal l row seen) refl
  where
    ended : (r : Ending) → claim_refusal l row seen ≡ fine → Finds (table_of (with_row l row)) free [] 0 r → Told l row r after a → ClaimTurn l row seen after a
    ended (found o t) e f told = granted_claim {o = o} {t = t} told.0 told.1 (claimable l row seen e) f
    ended (none u t) e f told = refused_claim told.1 (inl (ap (λ (y : Answer). y.number) told.0))

    go : (c : Check) → claim_refusal l row seen ≡ c → ClaimTurn l row seen after a
    go (refused r) e =
        let y = x.refusing r e in
        refused_claim y.1 (inr (subst (λ (z : Answer). ClaimNumber z.number) (sym y.0) (number_has (claim_numbers l row seen) e)))
    go fine e = let y = x.answering e in ended y.ending e y.follows y.told

-- a withdrawal is refused, and nothing altered; or the row is taken out
pub data WithdrawalTurn (l : Ledger) (k seen : ℕ) (after : Ledger) (a : Answer) : Type 0 where
  refused_withdrawal : after ≡ l → WithdrawalNumber a.number → WithdrawalTurn l k seen after a
  done_withdrawal : a ≡ decision_answer 106 (Ok (l.edition + 1)) → after ≡ changed l (without_row l k) (l.held - 1) → Withdrawable l k seen → WithdrawalTurn l k seen after a

pub withdrawal_turn : (l : Ledger) (k seen : ℕ) (after : Ledger) (a : Answer) → Withdrawn l k seen after a → WithdrawalTurn l k seen after a
withdrawal_turn l k seen after a x = go (withdrawal_refusal l k seen) refl
  where
    go : (c : Check) → withdrawal_refusal l k seen ≡ c → WithdrawalTurn l k seen after a
    go (refused r) e =
        let y = x.refusing r e in
        refused_withdrawal y.1 (subst (λ (z : Answer). WithdrawalNumber z.number) (sym y.0) (number_has (withdrawal_numbers l k seen) e))
    go fine e = let y = x.answering e in done_withdrawal y.0 y.1 (withdrawable l k seen e)

-- no refusal has a number of three digits: those are for answers
pub claim_small : {n : ℕ} → (n ≡ 8) ⊎ ClaimNumber n → n < 100
claim_small (inl e) = omega arith
claim_small (inr (inl e)) = omega arith
claim_small (inr (inr (inl e))) = omega arith
claim_small (inr (inr (inr (inl e)))) = omega arith
claim_small (inr (inr (inr (inr (inl e))))) = omega arith
claim_small (inr (inr (inr (inr (inr (inl e)))))) = omega arith
claim_small (inr (inr (inr (inr (inr (inr e)))))) = omega arith

pub withdrawal_small : {n : ℕ} → WithdrawalNumber n → n < 100
withdrawal_small (inl e) = omega arith
withdrawal_small (inr (inl e)) = omega arith
withdrawal_small (inr (inr (inl e))) = omega arith
withdrawal_small (inr (inr (inr e))) = omega arith
