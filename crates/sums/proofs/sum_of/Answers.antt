-- `sums::sum_of` meets its contract: it adds up what the rows add, place by place. Assumes nothing.
use Rattle.std.specs.Prelude.{◌≡◌, ◌+◌}
use Rattle.std.proofs.Common.{arith, sym, subst, refl, ap₂, ◌∙◌}
use Rattle.sums.specs.Terms.{Bounded, column}
use Rattle.sums.specs.TermLaws.{bounded, cut_within, cut_row, cut_at}
use Rattle.sums.specs.Columns.{at}
use Rattle.sums.proofs.Adding.{none_added, next_added, next_past}
use Rattle.sums.proofs.sum_of.Given.{Over}
use Rattle.sums.proofs.sum_of.Goals as goal
use Rattle.sums.proofs.sum_of.Goals.{After-of}

-- the sum with the row at the next place
with_row : (g : Over) → (c : After-of g) → let a = c.args in let l = c.loop-row in
    c.from.result + c.of.result ≡ l.sum + at (column (g.A.Adds.adds a.adds.now) a.rows.now) (a.part.s + l.row-index)
with_row g c =
    let a = c.args in
    let i = c.loop-row.row-index in
    let one : c.of.result ≡ at (column (g.A.Adds.adds a.adds.now) a.rows.now) (a.part.s + i) = c.of.ensures.0 ∙ cut_at a.rows.now a.part.s a.part.e i c.loop-row-test.true (g.A.Adds.adds a.adds.now) in
    ap₂ ◌+◌ c.from.ensures one

pub loop-row-init : goal.loop-row-init
loop-row-init g c = none_added (omega arith) (omega arith) refl (omega arith)

pub of-requires : goal.of-requires
of-requires g c =
    let a = c.args in
    let i = c.loop-row.row-index in
    let test = c.loop-row-test.true in
    subst Bounded (sym (cut_row a.rows.now a.part.s a.part.e i test _)) (bounded a.rows.now (a.part.s + i) _ c.requires.0 (cut_within a.rows.now a.part.s a.part.e i test))

pub returns-then-from-next : goal.returns-then-from-next
returns-then-from-next g c = next_past c.loop-row.invariant (omega arith) (with_row g (goal.at.returns-then-from-next g c).After-of) (omega arith)

pub loop-row-preserved : goal.loop-row-preserved
loop-row-preserved g c = next_added c.loop-row.invariant (omega arith) (with_row g (goal.at.loop-row-preserved g c).After-of) (omega arith) (omega arith)
