-- `intake::take_in` meets its contract: the checks run in the order of `table_refusal`. Assumes nothing.
use Rattle.std.specs.Prelude.{ℕ, ◌≡◌, ◌≤◌, List, length, take, drop}
use Rattle.std.proofs.Common.{arith, sym, ap, subst, ◌∙◌, length-take, length-append, take_at}
use Rattle.std.proofs.lemmas.Result.{err_from_is_err_and}
use Rattle.sums.specs.declared.Terms.{Terms}
use Rattle.licence.specs.Limit.{limit}
use Rattle.intake.specs.Answer.{refused, fine}
use Rattle.intake.specs.Refusals.{shape_refusal}
use Rattle.intake.specs.Words.{rows}
use Rattle.intake.specs.Holds.{Taken}
use Rattle.intake.specs.Laws.{shaped, refuse_shape, refuse_3, refuse_4, refuse_none}
use Rattle.intake.proofs.take_in.Goals as goal
use Rattle.intake.proofs.take_in.Goals.{After-read_rows}

-- there are places for the rows
cut : (words : List ℕ) (places : List Terms) {n : ℕ} → shape_refusal words ≡ fine → n ≡ rows words → limit ≤ length places → length (take n places) ≡ n
cut words places {n} shape count room = let few = (shaped words shape).few in omega (arith, length-take n places)

-- as many rows are read as the table has
count : (c : After-read_rows) → length c.read_rows.new.rows ≡ rows c.args.table.now
count c = let k = c.in_ok-n.ensures in c.read_rows.auto.rows ∙ (cut c.args.table.now c.args.places.now k.0 k.1 c.requires ∙ k.1)

pub returns-in_err-n : goal.returns-in_err-n
returns-in_err-n c =
    let p = err_from_is_err_and c.from_residual.result c.from_residual.ensures.1 in
    rw (p.1, p.2) (refuse_shape _ _ c.in_err-n.ensures)

pub slice_bounds-rows-end : goal.slice_bounds-rows-end
slice_bounds-rows-end c = let k = c.in_ok-n.ensures in let few = (shaped _ k.0).few in omega (arith, few, k.1, c.requires)

pub slice_bounds-rows-end-2 : goal.slice_bounds-rows-end-2
slice_bounds-rows-end-2 c = let k = c.in_ok-n.ensures in sym (cut c.args.table.now c.args.places.now k.0 k.1 c.requires)

pub read_rows-requires : goal.read_rows-requires
read_rows-requires c =
    let k = c.in_ok-n.ensures in
    let e = cut c.args.table.now c.args.places.now k.0 k.1 c.requires in
    (omega (arith, e, (shaped _ k.0).few, k.1), omega (arith, e, k.1))

pub returns-in_err-read_rows : goal.returns-in_err-read_rows
returns-in_err-read_rows c =
    let k = c.in_ok-n.ensures in
    let r = c.in_err-read_rows.ensures in
    let p = err_from_is_err_and c.from_residual-in_err-read_rows.result c.from_residual-in_err-read_rows.ensures.1 in
    rw (p.1, p.2) (refuse_3 _ _ k.0 (count (goal.at.returns-in_err-read_rows c).After-read_rows) r.1 ∙ ap refused (sym r.2))

pub returns-then-room-n : goal.returns-then-room-n
returns-then-room-n c =
    let k = c.in_ok-n.ensures in
    let r = c.in_ok-read_rows.ensures in
    let e = count (goal.at.returns-then-room-n c).After-read_rows in
    refuse_4 _ _ k.0 e r.0 (omega (arith, e, k.1, c.if-room-n.true))

pub returns : goal.returns
returns c =
    let k = c.in_ok-n.ensures in
    let r = c.in_ok-read_rows.ensures in
    let e = count (goal.at.returns c).After-read_rows in
    let first = take_at c.read_rows.new.rows (drop c.in_ok-n.n c.args.places.now) c.in_ok-n.n (omega (arith, e, k.1)) in
    let taken : Taken c.args.table.now c.args.room c.read_rows.new.rows = record { unrefused = refuse_none _ _ k.0 e r.0 (omega (arith, e, k.1, c.if-room-n.false)); count = e; holds = r.1 } in
    (omega (arith, e, k.1, length-append c.read_rows.new.rows (drop c.in_ok-n.n c.args.places.now)), subst (Taken c.args.table.now c.args.room) (sym first) taken)
