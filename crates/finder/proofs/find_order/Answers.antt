-- `finder::find_order` meets its contract: before each place the rows that stand follow the placing rule, and at a place no band tried so
-- far passes. Assumes nothing.
use Rattle.std.specs.Prelude.{ℕ, ◌≡◌, ◌+◌, ◌≤◌, ◌<◌, true, false, Option, Some, None, is_some, List, ◌++◌, length, drop}
use Rattle.std.proofs.Common.{arith, rules, refl, sym, ap, ◌∙◌, true≢false}
use Rattle.std.proofs.Math.Seq.{slice}
use Rattle.licence.specs.Limit.{limit}
use Rattle.sums.specs.Columns.{at}
use Rattle.sums.specs.Terms.{lengths, periods, jitters, allowed, keys}
use Rattle.order.specs.Columns.{room_of}
use Rattle.order.specs.Parts.{verdict_part, run_part}
use Rattle.finder.specs.Placing.{found, none}
use Rattle.finder.proofs.Lining.{lined_range}
use Rattle.finder.proofs.Waiting.{tried_none, few_bands}
use Rattle.finder.proofs.Search.{stuck_here, done_here}
use Rattle.finder.proofs.Turns.{known_first, run_in, stretch, tried_next, known_next, laid_order}
use Rattle.finder.proofs.Turning.{turned_whole}
use Rattle.finder.proofs.Columns.{Both, ends_part, six_turned, cut, in_range, aligned_made}
use Rattle.finder.proofs.find_order.Goals as goal
use Rattle.finder.proofs.find_order.Goals.{After-line_up}

-- a verdict that is some is a figure, and one that is not says late
passes : (v : Option ℕ) → is_some v ≡ true → (R : ℕ) × (v ≡ Some R)
passes (Some R) e = (R, refl)
passes None e = absurd (true≢false (sym e))

late : (v : Option ℕ) → is_some v ≡ false → v ≡ None
late (Some R) e = absurd (true≢false e)
late None e = refl

-- the rows lined up are rows, and there is room for all
long : (c : After-line_up) → length c.args.rows.now ≤ length c.line_up.new.made
unfolding limit
long c = omega (arith, c.requires.0.lengths.few, c.line_up.auto.made)

ranged : (c : After-line_up) → (p : ℕ) → p < length c.args.rows.now → at c.line_up.new.made p < length c.args.rows.now
ranged c = lined_range (length c.args.rows.now) (keys c.args.rows.now) c.line_up.new.made (long c) c.line_up.ensures

pub line_up-requires : goal.line_up-requires
unfolding limit
line_up-requires c = let few = c.requires.0.lengths.few in (few, c.requires.0.keys, few)

pub slice_bounds-made-end : goal.slice_bounds-made-end
slice_bounds-made-end c = long (goal.at.slice_bounds-made-end c).After-line_up

pub slice_bounds-align-end : goal.slice_bounds-align-end
slice_bounds-align-end c = sym (cut c.args.rows.now c.line_up.new.made (long (goal.at.slice_bounds-align-end c).After-line_up))

pub align-requires : goal.align-requires
unfolding limit
align-requires c =
    let view = (goal.at.align-requires c).After-line_up in
    let l = long view in
    (in_range c.args.rows.now c.line_up.new.made l (ranged view), omega (arith, cut c.args.rows.now c.line_up.new.made l, c.requires.0.lengths.few))

pub places-init : goal.places-init
unfolding limit
places-init c =
    let rows = c.args.rows.now in
    let view = (goal.at.places-init c).After-line_up in
    let l = long view in
    let both : Both c.line_up.new.made c.align.new.along = record { is_made = search rules; is_along = search rules } in
    let along = aligned_made rows c.line_up.new.made l c.align.new.along (omega (arith, both.is_along, c.requires.0.lengths.few)) (ranged view) c.align.ensures in
    (both, known_first (length rows) (lengths rows) (periods rows) (jitters rows) (allowed rows) (keys rows) _ _ _ _ _ _ l c.line_up.ensures along)

pub loop-s-init : goal.loop-s-init
loop-s-init c = let i = c.places.invariant in (omega arith, refl, tried_none _ _, i.0, i.1)

pub overflow_add-bands : goal.overflow_add-bands
unfolding limit
overflow_add-bands c = let i = c.loop-s.invariant in omega (arith, few_bands _ _ i.2, c.requires.0.lengths.few)

pub judge_run-requires : goal.judge_run-requires
unfolding limit
judge_run-requires c =
    let rows = c.args.rows.now in
    let held = c.requires.0 in
    let i = c.loop-s.invariant in
    let inside : c.loop-s.top ≤ length c.loop-s.along = omega (arith, i.3.is_along, i.4.fits, held.lengths.few) in
    let r = ends_part c.loop-s.along inside c.run_end.ensures in
    run_part c.loop-s.along c.loop-s.top inside
    (run_in (length rows) (lengths rows) (periods rows) (jitters rows) (allowed rows) (keys rows) held i.4 (room_of c.loop-s.along (omega (arith, i.3.is_along, held.lengths.few))) r.after r.within)

pub overflow_add-tried : goal.overflow_add-tried
unfolding limit
overflow_add-tried c = let i = c.loop-s.invariant in omega (arith, few_bands _ _ i.2, i.4.state.few_tried, c.requires.0.lengths.few)

pub longest_of-below-requires : goal.longest_of-below-requires
unfolding limit
longest_of-below-requires c =
    let rows = c.args.rows.now in
    let held = c.requires.0 in
    let i = c.loop-s.invariant in
    let r = ends_part c.loop-s.along (omega (arith, i.3.is_along, i.4.fits, held.lengths.few)) c.run_end.ensures in
    stretch (length rows) (lengths rows) (periods rows) (jitters rows) (allowed rows) (keys rows) held i.4 (room_of c.loop-s.along (omega (arith, i.3.is_along, held.lengths.few))) r.after r.within

pub places-preserved : goal.places-preserved
unfolding limit
places-preserved c =
    let rows = c.args.rows.now in
    let l = c.loop-s in
    let held = c.requires.0 in
    let i = l.invariant in
    let inside : l.top ≤ length l.along = omega (arith, i.3.is_along, i.4.fits, held.lengths.few) in
    let r = ends_part l.along inside c.run_end.ensures in
    let passed = passes c.judge_run.result (sym c.is_some-passes.ensures ∙ c.if-passes.true) in
    let se : l.s ≤ c.run_end.result = omega (arith, r.after) in
    let made = turned_whole l.s c.run_end.result l.top l.made c.turn.new.list se r.within (omega (arith, i.3.is_made, i.4.fits, held.lengths.few)) c.turn.ensures in
    let along = turned_whole l.s c.run_end.result l.top l.along c.turn-then-passes.new.list se r.within inside c.turn-then-passes.ensures in (
      record { is_made = made.long ∙ i.3.is_made; is_along = along.long ∙ i.3.is_along },
      known_next (length rows) (lengths rows) (periods rows) (jitters rows) (allowed rows) (keys rows) held i.4 (omega arith) i.2 r (verdict_part l.along l.top inside l.s c.run_end.result l.below c.judge_run.result c.judge_run.ensures)
          passed.1 c.longest_of-below.ensures (six_turned se r.within inside along made) (omega arith) (omega arith),
    )

pub loop-s-preserved : goal.loop-s-preserved
unfolding limit
loop-s-preserved c =
    let rows = c.args.rows.now in
    let l = c.loop-s in
    let held = c.requires.0 in
    let i = l.invariant in
    let inside : l.top ≤ length l.along = omega (arith, i.3.is_along, i.4.fits, held.lengths.few) in
    let r = ends_part l.along inside c.run_end.ensures in (
      r.within,
      i.1,
      tried_next (length rows) (lengths rows) (periods rows) (jitters rows) (allowed rows) (keys rows) held i.4 (omega arith) i.2 r (verdict_part l.along l.top inside l.s c.run_end.result l.below c.judge_run.result c.judge_run.ensures) (omega arith)
          (late c.judge_run.result (sym c.is_some-passes.ensures ∙ c.if-passes.false)),
      i.3,
      i.4,
    )

pub overflow_add-result : goal.overflow_add-result
unfolding limit
overflow_add-result c = let i = c.loop-s.invariant in omega (arith, few_bands _ _ i.2, i.4.state.few_tried, c.requires.0.lengths.few)

pub returns-in-places : goal.returns-in-places
returns-in-places c =
    let l = c.loop-s in
    record { ending = none l.bands (l.tried + l.bands); follows = stuck_here _ _ _ _ _ _ l.invariant.4.state (omega (arith, l.invariant.1)) (omega arith) l.invariant.2; told = (refl, refl) }

pub returns : goal.returns
returns c =
    let rows = c.args.rows.now in
    let n = length rows in
    let p = c.places in
    let z : p.top ≡ 0 = omega arith in
    record {
      ending = found (slice p.top n p.made) p.tried;
      follows = done_here _ _ _ _ _ _ p.invariant.1.state z;
      told = (refl, ap (λ (x : List ℕ). x ++ drop n c.args.order.now) c.copy_from_slice.ensures.after ∙ laid_order n (lengths rows) (periods rows) (jitters rows) (allowed rows) (keys rows) p.made p.top z p.invariant.1.long _);
    }
