-- `judge::judge_order` meets its contract: the checks run in the order of `order_refusal`, and the first 0 is the first late place.
-- Assumes nothing.
use Rattle.std.specs.Prelude.{ℕ, ◌≡◌, List, length}
use Rattle.std.proofs.Common.{sym, ap, ◌∙◌}
use Rattle.std.proofs.lemmas.Result.{err_from_is_err_and}
use Rattle.sums.specs.Masks.{nowhere, lowest, None}
use Rattle.sums.specs.MaskLaws.{none_lowest}
use Rattle.sums.specs.Columns.{at}
use Rattle.sums.specs.Terms.{keys}
use Rattle.order.specs.Orders.{bad_entry, resumes}
use Rattle.order.specs.Split.{together_of}
use Rattle.order.specs.Sheet.{sheet_of}
use Rattle.intake.specs.Answer.{Answer}
use Rattle.intake.specs.Laws.{replied_refused, replied_answered}
use Rattle.judge.specs.Walk.{place_of, OrderJudged}
use Rattle.judge.proofs.Checks.{refuse_5, refuse_6, refuse_7, refuse_none, answered}
use Rattle.judge.proofs.judge_order.Goals as goal
use Rattle.judge.proofs.judge_order.Goals.{In_ok-entries, In_default}

-- there is an entry for each row
count : (c : In_ok-entries) → length c.in_ok-entries.entries.order.now ≡ length c.args.rows.now
count c = ap length c.in_ok-entries.ensures.same ∙ c.if-order-rows.false

-- no entry is out of range or a repeat
distinct : (c : In_ok-entries) → let n = length c.args.rows.now in None n (bad_entry n c.in_ok-entries.entries.order.now)
distinct c = rw (count c) at c.in_ok-entries.entries.distinct

-- and no queue is resumed
queues : (c : In_default) → let rows = c.args.rows.now in lowest (length rows) (resumes (at (keys rows)) c.in_ok-entries.entries.order.now) ≡ nowhere
queues c = rw (ap length c.in_ok-entries.ensures.same ∙ c.if-order-rows.false) at (sym c.first_split.ensures ∙ ap place_of c.in_default.is)

-- the entries are those of the order
given : (c : In_ok-entries) {after : List ℕ} {a : Answer} → OrderJudged (sheet_of c.args.rows.now) c.in_ok-entries.entries.order.now c.args.figures.now after a → OrderJudged (sheet_of c.args.rows.now) c.args.order.now c.args.figures.now after a
given c j = rw c.in_ok-entries.ensures.same at j

pub returns-then-order-rows : goal.returns-then-order-rows
returns-then-order-rows c = replied_refused (refuse_5 _ _ c.if-order-rows.true)

pub returns-in_err-entries : goal.returns-in_err-entries
returns-in_err-entries c =
    let (p, is, found) = c.in_err-entries.ensures.first in
    let passed = err_from_is_err_and c.from_residual.result c.from_residual.ensures.1 in
    rw (passed.1, passed.2, is) (replied_refused (refuse_6 _ _ c.if-order-rows.false (rw c.if-order-rows.false at found)))

pub returns-in-Some : goal.returns-in-Some
returns-in-Some c =
    let ok = (goal.at.returns-in-Some c).In_ok-entries in
    given ok (replied_refused (refuse_7 _ _ (count ok) (distinct ok) (rw (count ok) at (sym c.in-Some.ensures))))

pub fill-requires : goal.fill-requires
fill-requires c =
    let view = goal.at.fill-requires c in
    let whole = count view.In_ok-entries in
    (c.requires.0, whole, together_of (sheet_of c.args.rows.now) _ whole (none_lowest _ _ (queues view.In_default)), c.requires.1)

pub returns : goal.returns
returns c =
    let view = goal.at.returns c in
    let ok = view.In_ok-entries in
    let entries = rw (count ok) at c.in_ok-entries.entries.in_range in
    let found = rw (count ok) at c.first_zero.ensures in
    given ok (replied_answered (refuse_none _ _ (count ok) (distinct ok) (queues view.In_default))
    (answered _ _ _ _ c.requires.0.some_bits entries.range c.fill.ensures _ found))
