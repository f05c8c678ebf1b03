-- `desk::withdraw_on` meets its contract: the rows behind the one withdrawn are laid over it. Assumes nothing.
use borrow.Author.Rules.{rules}
use native.Mathlib.Omega.{arith}
use Prim.Native.Nat.{◌≤◌}
use Rattle.licence.specs.Limit.{limit}
use Rattle.desk.specs.Ledger.{Whole}
use Rattle.desk.proofs.Laws.{check_passed, Withdrawable, withdrawable}
use Rattle.desk.proofs.withdraw_on.Goals as goal
use Rattle.desk.proofs.withdraw_on.Goals.{In_ok-check_withdrawal, Start}

-- the ledger's words are as many as its type says
all_words : (c : Start) → Whole c.args.l
unfolding limit
all_words c = search rules

-- a withdrawal that goes on is one that no check refuses
known : (c : In_ok-check_withdrawal) → let a = c.args in Withdrawable a.l a.row a.seen
known c = withdrawable _ _ _ (check_passed c.check_withdrawal.ensures c.in_ok-check_withdrawal.was)

-- the rows held have their words
held_few : (c : In_ok-check_withdrawal) → c.args.l.held ≤ limit
held_few c = omega (arith, (known c).held_fit.few)

pub close_gap-requires : goal.close_gap-requires
close_gap-requires c =
    let view = goal.at.close_gap-requires c in
    let k = view.In_ok-check_withdrawal in
    (omega (arith, (known k).there), omega (arith, held_few k, all_words view.Start))

pub overflow_add-result : goal.overflow_add-result
unfolding limit
overflow_add-result c = omega (arith, (known (goal.at.overflow_add-result c).In_ok-check_withdrawal).edition_open.not_last)

pub overflow_sub-result : goal.overflow_sub-result
unfolding limit
overflow_sub-result c = omega (arith, (known (goal.at.overflow_sub-result c).In_ok-check_withdrawal).there)
