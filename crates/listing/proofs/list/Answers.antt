-- `listing::list` meets its contract: the lines for the book, or the line of its refusal. Assumes nothing.
use native.Mathlib.Omega.{arith}
use Prim.Native.Nat.{ℕ}
use mathlib.Core.List.{List}
use mathlib.Core.Path.{subst}
use Rattle.licence.specs.Limit.{limit}
use Rattle.intake.specs.Answer.{refusal_answer}
use Rattle.listing.specs.Text.{refused_line}
use Rattle.listing.specs.Listed.{Listed, Stands}
use Rattle.listing.specs.Laws.{text_stands, refused_most, counts}
use Rattle.listing.proofs.list.Goals as goal

pub put_order-requires : goal.put_order-requires
unfolding limit
put_order-requires c = omega arith

pub returns-in-Err : goal.returns-in-Err
unfolding limit
returns-in-Err c =
    let r = c.in-Err.refusal in
    let told = c.in-Err.ensures {u = tt} in
    let e = c.put_refusal.ensures in
    let t = text_stands (Listed c.args.book.now) c.put_order.new.text (refused_line (refusal_answer r).number) e.0 e.1 (omega (arith, refused_most r)) told.1 in
    record { counts = counts _ t.inside; stands = subst (λ (l : List ℕ). Stands (Listed c.args.book.now) l c.put_refusal.new.text c.put_refusal.result) told.0 t }
