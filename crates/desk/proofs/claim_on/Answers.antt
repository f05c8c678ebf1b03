-- `desk::claim_on` meets its contract: the row is laid behind those held, and an order sought for them all. Assumes nothing.
use borrow.Author.Rules.{rules}
use native.Mathlib.Omega.{arith}
use Prim.Native.Nat.{ℕ, ◌*◌, ◌+◌, ◌≤◌, ◌<◌}
use mathlib.Core.Path.{◌≡◌, sym, subst}
use mathlib.Core.List.{List}
use lib.Dec.{lit≤}
use lib.ListN.{length, take}
use lib.Seq.{length-take-le}
use Rattle.licence.specs.Limit.{limit}
use Rattle.intake.specs.Answer.{refusal_answer}
use Rattle.intake.specs.Laws.{replied_answered}
use Rattle.desk.proofs.Laws.{check_passed, Claimable, claimable}
use Rattle.desk.specs.Ledger.{ledger, Whole, changed, with_row}
use Rattle.desk.specs.Replies.{decision_answer, Claimed}
use Rattle.desk.specs.declared.Ledger.{Ledger}
use Rattle.std.specs.Prelude.{Ok}
use Rattle.desk.proofs.Granting.{granted, not_granted, row_added, table_searched}
use Rattle.desk.proofs.claim_on.Goals as goal
use Rattle.desk.proofs.claim_on.Goals.{After-add_row, In_ok-check_claim, Start}

-- the ledger's words are as many as its type says
all_words : (c : Start) → Whole c.args.l
unfolding limit
all_words c = search rules

-- a claim that goes on is one that no check refuses
known : (c : In_ok-check_claim) → let a = c.args in Claimable a.l a.row.now a.seen
known c = claimable _ _ _ (check_passed c.check_claim.ensures c.in_ok-check_claim.was)

-- the rows held have their words
held_words : (l : Ledger) → Whole l → l.held < limit → l.held * 6 ≤ length l.words
unfolding limit
held_words l whole room = omega (arith, whole)

-- the row laid behind those held: the words are those of the changed ledger, and the rows held, that one included, are its first
module _ (c : After-add_row) (whole : Whole c.args.l) (k : Claimable c.args.l c.args.row.now c.args.seen) where
  row_there : c.add_row.new.words ≡ (changed c.args.l (with_row c.args.l c.args.row.now) (c.args.l.held + 1)).words
  row_there = row_added c.args.l c.args.row.now c.add_row.new.words (held_words c.args.l whole k.room) k.six c.add_row.ensures

  searched : take (c.args.l.held * 6 + 6) c.add_row.new.words ≡ with_row c.args.l c.args.row.now
  searched = table_searched c.args.l c.args.row.now c.add_row.new.words (held_words c.args.l whole k.room) k.six c.add_row.ensures

  long_enough : c.args.l.held * 6 + 6 ≤ length c.add_row.new.words
  unfolding limit
  long_enough = omega (arith, k.room, c.add_row.auto.words, whole)

pub add_row-requires : goal.add_row-requires
unfolding limit
add_row-requires c =
    let view = goal.at.add_row-requires c in
    let k = known view.In_ok-check_claim in
    (k.six, omega (arith, k.room, all_words view.Start))

pub slice_bounds-words-end : goal.slice_bounds-words-end
slice_bounds-words-end c = let view = goal.at.slice_bounds-words-end c in long_enough view.After-add_row (all_words view.Start) (known view.In_ok-check_claim)

pub slice_bounds-find-end : goal.slice_bounds-find-end
slice_bounds-find-end c =
    let view = goal.at.slice_bounds-find-end c in
    sym (length-take-le _ c.add_row.new.words (long_enough view.After-add_row (all_words view.Start) (known view.In_ok-check_claim)))

pub returns-in_err-find : goal.returns-in_err-find
unfolding limit
returns-in_err-find c =
    let a = c.args in
    let view = goal.at.returns-in_err-find c in
    let whole = all_words view.Start in
    let k = known view.In_ok-check_claim in
    let told : Claimed a.l a.row.now a.seen a.l (refusal_answer c.in_err-find.field-0.0) = replied_answered (check_passed c.check_claim.ensures c.in_ok-check_claim.was)
    (not_granted a.l a.row.now a.seen k whole _ _ _ (lit≤ tt) (searched view.After-add_row whole k) (c.in_err-find.was {u = tt}) c.find.ensures) in
    search (rules, told)

pub overflow_add-edition : goal.overflow_add-edition
unfolding limit
overflow_add-edition c = omega (arith, (known (goal.at.overflow_add-edition c).In_ok-check_claim).edition_open.not_last)

pub overflow_add-result : goal.overflow_add-result
unfolding limit
overflow_add-result c = omega (arith, (known (goal.at.overflow_add-result c).In_ok-check_claim).room)

pub returns : goal.returns
unfolding limit
returns c =
    let a = c.args in
    let view = goal.at.returns c in
    let whole = all_words view.Start in
    let k = known view.In_ok-check_claim in
    subst (λ (w : List ℕ). Claimed a.l a.row.now a.seen (ledger w (a.l.held + 1) (a.l.edition + 1)) (decision_answer 105 (Ok (a.l.edition + 1)))) (sym (row_there view.After-add_row whole k))
    (replied_answered (check_passed c.check_claim.ensures c.in_ok-check_claim.was)
    (granted a.l a.row.now a.seen k whole _ _ _ (lit≤ tt) (searched view.After-add_row whole k) c.in_ok-find.was c.find.ensures))
