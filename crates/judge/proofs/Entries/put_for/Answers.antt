-- `judge::Entries::put_for` meets its contract: what stands for the row of the next place is written too. Assumes nothing.
use Rattle.std.specs.Prelude.{◌+◌, ◌-◌, ◌≡◌, take, drop, get_or}
use Rattle.std.proofs.Common.{arith, ◌∙◌}
use Rattle.std.proofs.lemmas.List.{get_or-take, get_or-drop, length-take}
use Rattle.std.proofs.lemmas.Grind.{common_steps}
use Rattle.sums.specs.Columns.{at}
use Rattle.judge.proofs.Entries.put_for.Goals as goal

pub loop-row-preserved : goal.loop-row-preserved
loop-row-preserved c =
    let o = c.args.self.now.order.now in
    let s = c.args.band.s in
    let m = c.args.band.e - s in
    let i = c.loop-row.row-index in
    let h = c.loop-row.invariant in
    let here : get_or (take m (drop s o)) i 0 ≡ at o (s + i) = get_or-take m (drop s o) i 0 (omega (arith, c.loop-row-test.true, length-take m (drop s o))) ∙ get_or-drop s o i 0 in
    record {
      same_length = grind (arith, common_steps);
      put = λ p a b. grind (arith, common_steps, here, h.put p a, c.args.self.now.in_range.range (s + i));
      kept = λ j q. grind (arith, common_steps, here, q (s + i));
    }
