-- `judge::Entries::read` meets its contract: no entry before p is bad, and their rows are flagged. Assumes nothing.
use Rattle.std.proofs.Common.{arith, refl, ◌≡◌, length}
use Rattle.std.specs.Prelude.{true, T as Is}
use Rattle.sums.specs.MaskLaws.{lowest_at}
use Rattle.licence.specs.Limit.{limit}
use Rattle.order.specs.Orders.{bad_entry}
use Rattle.order.specs.Split.{none_next, entry_range}
use Rattle.order.specs.Marks.{marked_none, marked_next}
use Rattle.judge.proofs.Tests.{entry_high, entry_again, entry_fine}
use Rattle.judge.proofs.Entries.read.Goals as goal
use Rattle.judge.proofs.Entries.read.Goals.{then-order-row-via-then-order-row, then-order-row-via-else-order-row+then-used-row}

pub loop-p-init : goal.loop-p-init
unfolding limit
loop-p-init c = record { marks = marked_none refl limit _ c.requires; fine = λ k l. absurd (omega arith) }

pub returns-then-order-row : goal.returns-then-order-row
returns-then-order-row c =
    let i = c.loop-p.invariant in
    let o = c.args.order.now in
    let bad : Is (bad_entry (length o) o c.loop-p.p) =
    elim c.then-order-row.branch [
      | then-order-row-via-then-order-row w ↦ entry_high _ _ _ w.if-order-row.true
      | then-order-row-via-else-order-row+then-used-row w ↦ entry_again _ _ _ _ w.if-order-row.false i.marks w.if-used-row.true
    ] in
    record { same = tt; first = (c.loop-p.p, refl, lowest_at _ _ c.loop-p.p c.loop-p-test.true bad i.fine) }

pub loop-p-preserved : goal.loop-p-preserved
loop-p-preserved c =
    let i = c.loop-p.invariant in
    let o = c.args.order.now in
    record {
      marks = marked_next true refl _ _ _ _ c.if-order-row.false refl i.marks;
      fine = none_next (bad_entry (length o) o) i.fine (entry_fine _ _ _ _ c.if-order-row.false i.marks c.if-used-row.false);
    }

pub invariant_of-result : goal.invariant_of-result
invariant_of-result c =
    let o = c.args.order.now in
    let e : c.loop-p.p ≡ length o = omega arith in
    let distinct = rw e at c.loop-p.invariant.fine in
    record { in_range = record { few = c.requires; count = refl; range = λ p l. entry_range (length o) o p (distinct p l) }; distinct = distinct }
