-- `intake::read_rows` meets its contract: after i rows, all of them can be read and are held. Assumes nothing.
use Rattle.std.specs.Prelude.{◌≡◌, ◌≤◌, length, get_or}
use Rattle.std.proofs.Common.{arith, rules, sym, ap, subst, ◌∙◌, length-set}
use Rattle.sums.specs.Terms.{nothing}
use Rattle.sums.specs.MaskLaws.{lowest_at, lowest_none}
use Rattle.licence.specs.Limit.{limit}
use Rattle.licence.specs.Row.{row_at, bad_field, bit_times, band_key, field_of}
use Rattle.licence.specs.Laws.{Allowed, row_allowed, read_good, read_bad}
use Rattle.licence.specs.declared.Row.{Row}
use Rattle.intake.specs.Words.{bad_row}
use Rattle.intake.specs.Answer.{answer}
use Rattle.intake.specs.Laws.{bad_row_lem, good_row}
use Rattle.intake.proofs.Progress.{progress_next}
use Rattle.intake.proofs.read_rows.Goals as goal
use Rattle.intake.proofs.read_rows.Goals.{In-Ok}

-- a row that can be read is the table's row i, with numbers as document 01 allows them
row_is : (c : In-Ok) → let words = c.args.table.now in let i = c.loop-i.i in
    (bad_field words i ≡ 0) × (c.in-Ok.row ≡ row_at words i)
row_is c = read_good _ _ (sym c.read_row-reading.ensures ∙ c.in-Ok.is)

allowed : (c : In-Ok) → Allowed c.args.table.now c.loop-i.i
allowed c = row_allowed _ _ (row_is c).0

pub overflow_cast-result : goal.overflow_cast-result
unfolding limit
overflow_cast-result c = let few = c.requires.0 in search rules

-- the first row that can't be read
pub returns-in_default : goal.returns-in_default
returns-in_default c =
    let words = c.args.table.now in
    let i = c.loop-i.i in
    let p = c.loop-i.invariant.1 in
    let r = read_bad words i (sym c.read_row-reading.ensures ∙ c.in_default.is) in
    let long = length-set c.loop-i.rows i (get_or c.loop-i.rows i nothing) in
    (i, lowest_at _ (bad_row words) i (omega (arith, long, c.loop-i.auto.rows)) (bad_row_lem words i r.0) (λ k l. good_row words k (p.good k l)), ap (answer 3 i) (c.field_of.ensures ∙ (ap field_of c.in_default.is ∙ r.1)))

pub bit_times-requires : goal.bit_times-requires
bit_times-requires c = subst (λ (r : Row). bit_times r.length ≤ 4096) (sym (row_is (goal.at.bit_times-requires c).In-Ok).1) (allowed (goal.at.bit_times-requires c).In-Ok).length_le

pub overflow_sub-place : goal.overflow_sub-place
overflow_sub-place c =
    let is = (row_is (goal.at.overflow_sub-place c).In-Ok).1 in
    omega (arith, ap (λ (r : Row). r.jitter) is, ap (λ (r : Row). r.deadline) is, (allowed (goal.at.overflow_sub-place c).In-Ok).jitter_le)

pub overflow_cast-i : goal.overflow_cast-i
unfolding limit
overflow_cast-i c = let few = c.requires.0 in search rules

pub band_key-requires : goal.band_key-requires
unfolding limit
band_key-requires c = let few = c.requires.0 in omega arith

pub loop-i-preserved : goal.loop-i-preserved
loop-i-preserved c =
    let l = c.loop-i in
    let r = row_is (goal.at.loop-i-preserved c).In-Ok in (
      length-set l.rows l.i _ ∙ l.invariant.0,
      progress_next _ l.i l.rows _ (omega (arith, l.invariant.0)) r.0 (c.bit_times.ensures ∙ ap (λ (x : Row). bit_times x.length) r.1) (ap (λ (x : Row). x.period) r.1) (ap (λ (x : Row). x.jitter) r.1)
          (omega (arith, ap (λ (x : Row). x.deadline) r.1, ap (λ (x : Row). x.jitter) r.1)) (c.band_key.ensures ∙ ap (λ (x : Row). band_key x.queue l.i) r.1) l.invariant.1,
    )

pub returns : goal.returns
returns c =
    let n = length c.loop-i.rows in
    let e : c.loop-i.i ≡ n = omega (arith, c.loop-i.invariant.0) in
    let p = rw e at c.loop-i.invariant.1 in
    (lowest_none n (bad_row _) (λ k l. good_row _ k (p.good k l)), p.holds)
