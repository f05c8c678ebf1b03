-- `judge::Entries::fill` meets its contract: the rows stand along the order, and what is shown for a run stands for its rows. Assumes nothing.
use Rattle.std.specs.Prelude.{◌≡◌, length}
use Rattle.std.proofs.Common.{arith, ◌∙◌, length-take}
use Rattle.std.proofs.lemmas.List.{length-replicate}
use Rattle.sums.specs.declared.Terms.{Terms}
use Rattle.licence.specs.Limit.{limit}
use Rattle.judge.proofs.Filling.{laid, written}
use Rattle.judge.proofs.Entries.fill.Goals as goal
use Rattle.judge.proofs.Entries.fill.Goals.{After-align}

-- there is a place for each row
count : (c : After-align) → length c.align.new.along ≡ length c.args.rows.now
unfolding limit
count c = let p = c.requires in c.align.auto.along ∙ omega (arith, length-take {A = Terms}, length-replicate {A = Terms}, p.0.lengths.few, p.1)

pub fill_runs-requires : goal.fill_runs-requires
fill_runs-requires c =
    let p = c.requires in
    let e = count (goal.at.fill_runs-requires c).After-align in
    (laid _ p.0 c.args.self.now.in_range c.args.self.now.distinct p.1 p.2 _ e c.align.ensures, omega (arith, e, p.1), omega (arith, e, p.3))

pub returns : goal.returns
returns c = let p = c.requires in written _ p.0 c.args.self.now.in_range c.args.self.now.distinct p.1 p.2 _ (count (goal.at.returns c).After-align) c.align.ensures c.fill_runs.ensures
