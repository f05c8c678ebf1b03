-- `desk::Ledger::check_withdrawal` meets its contract: the checks run in the order of `withdrawal_refusal`. Assumes nothing.
use Rattle.std.proofs.Common.{rules}
use mathlib.Core.Path.{◌≡◌, sym, ◌∙◌}
use mathlib.Core.Bool.{false}
use Rattle.intake.specs.Answer.{fine}
use Rattle.desk.specs.Ledger.{unfit, edition_refusal}
use Rattle.desk.proofs.Laws.{check_passed, withdraw_23, withdraw_edition, withdraw_11, withdraw_none}
use Rattle.desk.proofs.Ledger.check_withdrawal.Goals as goal
use Rattle.desk.proofs.Ledger.check_withdrawal.Goals.{In_ok-check_edition}

-- what is known of a withdrawal for the ledger's edition
known : (c : In_ok-check_edition) → let l = c.args.self.now in (unfit l.words l.held ≡ false) × (edition_refusal l.edition c.args.seen ≡ fine)
known c = (sym c.unfit.ensures ∙ c.if-unfit.false, check_passed c.check_edition.ensures c.in_ok-check_edition.was)

pub returns-then-unfit : goal.returns-then-unfit
returns-then-unfit c = withdraw_23 _ _ _ (sym c.unfit.ensures ∙ c.if-unfit.true)

-- the edition's check is not fine, and neither is the withdrawal's
pub returns-in_err-check_edition : goal.returns-in_err-check_edition
returns-in_err-check_edition c =
    let h = withdraw_edition c.args.self.now c.args.row c.args.seen (sym c.unfit.ensures ∙ c.if-unfit.false) (c.in_err-check_edition.ensures {u = tt}) in
    search (rules, h)

pub returns-then-self-row : goal.returns-then-self-row
returns-then-self-row c = let (a, current) = known (goal.at.returns-then-self-row c).In_ok-check_edition in withdraw_11 _ _ _ a current c.if-self-row.true

pub returns : goal.returns
returns c = let (a, current) = known (goal.at.returns c).In_ok-check_edition in withdraw_none _ _ _ a current c.if-self-row.false
