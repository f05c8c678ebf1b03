-- `listing::put_line` meets its contract: row, space, figure and the line's end are stored one after the other. Assumes nothing.
use native.Mathlib.Omega.{arith}
use Prim.Native.Nat.{ℕ, ◌+◌, ◌≤◌}
use mathlib.Core.Path.{ap, ◌∙◌}
use mathlib.Core.List.{List}
use lib.ListN.{length, set, length-set}
use lib.Seq.{sets}
use Rattle.listing.specs.Text.{decimal}
use Rattle.listing.specs.TextLaws.{word_length, line_length, line_stored}
use Rattle.listing.proofs.put_line.Goals as goal
use Rattle.listing.proofs.put_line.Goals.{Start}

-- there is room for both numbers; the text keeps its length with the space
row_room : (c : Start) → length (decimal c.args.row) ≤ 10
row_room c = word_length c.args.row (omega (arith, c.ranges.row))

figure_room : (c : Start) → length (decimal c.args.figure) ≤ 10
figure_room c = word_length c.args.figure (omega (arith, c.ranges.figure))

pub put_decimal-space-requires : goal.put_decimal-space-requires
put_decimal-space-requires c = omega (arith, c.requires, row_room (goal.at.put_decimal-space-requires c).Start)

pub bounds-text-space : goal.bounds-text-space
bounds-text-space c = omega (arith, c.put_decimal-space.auto.text, c.put_decimal-space.ensures.0, c.requires, row_room (goal.at.bounds-text-space c).Start)

pub overflow_add-space : goal.overflow_add-space
overflow_add-space c = omega (arith, c.put_decimal-space.ensures.0, c.requires, row_room (goal.at.overflow_add-space c).Start)

pub put_decimal-stop-requires : goal.put_decimal-stop-requires
put_decimal-stop-requires c =
    let view = goal.at.put_decimal-stop-requires c in
    simp length-set (omega (arith, c.put_decimal-space.auto.text, c.put_decimal-space.ensures.0, c.requires, row_room view.Start, figure_room view.Start))

pub bounds-text-stop : goal.bounds-text-stop
bounds-text-stop c =
    let view = goal.at.bounds-text-stop c in
    let kept = simp length-set at c.put_decimal-stop.auto.text in
    omega (arith, kept, c.put_decimal-space.auto.text, c.put_decimal-stop.ensures.0, c.put_decimal-space.ensures.0, c.requires, row_room view.Start, figure_room view.Start)

pub overflow_add-result : goal.overflow_add-result
overflow_add-result c =
    let view = goal.at.overflow_add-result c in
    omega (arith, c.put_decimal-stop.ensures.0, c.put_decimal-space.ensures.0, c.requires, row_room view.Start, figure_room view.Start)

pub returns : goal.returns
returns c =
    let a = c.args in
    let row = c.put_decimal-space.ensures in
    let figure = c.put_decimal-stop.ensures in
    (omega (arith, row.0, figure.0, line_length a.row a.figure), ap (λ (l : List ℕ). set l c.put_decimal-stop.result 10) (figure.1 ∙ ap (λ (l : List ℕ). sets (set l c.put_decimal-space.result 32) (c.put_decimal-space.result + 1) (decimal a.figure)) row.1) ∙ line_stored a.text.now a.row a.figure a.at row.0 figure.0)
