-- `judge::Entries::first_split` meets its contract: no place before p resumes a band, their keys are flagged, and `last` is the key of the last of
-- them. Assumes nothing.
use Rattle.std.proofs.Common.{arith, sym, ap, refl, ◌∙◌, ℕ, ◌≡◌, ◌<◌, ◌+◌, List, length, get_or}
use Rattle.std.specs.Prelude.{true, T as Is}
use Rattle.sums.specs.MaskLaws.{lowest_at, lowest_none}
use Rattle.sums.specs.Columns.{at}
use Rattle.sums.specs.Terms.{keys, nothing}
use Rattle.sums.specs.TermLaws.{at_column, length_column}
use Rattle.sums.specs.declared.Terms.{Terms}
use Rattle.licence.specs.Limit.{limit}
use Rattle.order.specs.Orders.{resumes}
use Rattle.order.specs.Split.{none_next}
use Rattle.order.specs.Marks.{marked_none, marked_next}
use Rattle.intake.specs.Held.{Keyed}
use Rattle.judge.specs.Walk.{InRange}
use Rattle.judge.proofs.Tests.{left_behind, resumes_new, resumes_same}
use Rattle.judge.proofs.Entries.first_split.Goals as goal
use Rattle.judge.proofs.Entries.first_split.Goals.{else-used-k-via-then-used-k+else-k-last, else-used-k-via-else-used-k}

-- the key at a place is within the flags
key_at : {n : ℕ} {key order : List ℕ} → InRange n order → Keyed n key → (p : ℕ) → p < n → at key (at order p) < 65 + n
key_at {order = order} r k p l = omega (arith, r.range p l, k.key_most (at order p) (r.range p l))

-- and it is the key of the row there
key_is : {n : ℕ} (rows : List Terms) {order : List ℕ} → InRange n order → Keyed n (keys rows) → (p : ℕ) → p < n → (get_or rows (at order p) nothing).key ≡ at (keys rows) (at order p)
key_is rows {order = order} r k p l =
    sym (at_column (λ row. row.key) rows (at order p) nothing (omega (arith, r.range p l, k.long_key, length_column (λ row. row.key) rows)))

-- so the flags have a place for it
key_fits : {n : ℕ} (rows : List Terms) {order : List ℕ} → InRange n order → Keyed n (keys rows) → (p : ℕ) → p < n → (get_or rows (at order p) nothing).key < 129
unfolding limit
key_fits rows r k p l = omega (arith, key_is rows r k p l, key_at r k p l, r.few)

pub loop-p-init : goal.loop-p-init
unfolding limit
loop-p-init c = record { marks = marked_none refl (65 + limit) _ (omega (arith, c.args.self.now.in_range.few)); last = λ l. absurd (omega arith); fine = λ k l. absurd (omega arith) }

pub bounds-used-k : goal.bounds-used-k
bounds-used-k c = key_fits _ c.args.self.now.in_range c.requires c.loop-p.p c.loop-p-test.true

pub bounds-used-k-in-loop-p : goal.bounds-used-k-in-loop-p
bounds-used-k-in-loop-p c = key_fits _ c.args.self.now.in_range c.requires c.loop-p.p c.loop-p-test.true

pub returns-then-k-last : goal.returns-then-k-last
returns-then-k-last c =
    let i = c.loop-p.invariant in
    let k = key_at c.args.self.now.in_range c.requires c.loop-p.p c.loop-p-test.true in
    let is = key_is _ c.args.self.now.in_range c.requires c.loop-p.p c.loop-p-test.true in
    sym (lowest_at _ _ c.loop-p.p c.loop-p-test.true (left_behind _ _ _ _ _ _ k i.marks i.last (rw is at c.if-used-k.true) (rw is at c.if-k-last.true)) i.fine)

pub loop-p-preserved : goal.loop-p-preserved
loop-p-preserved c =
    let a = c.args in
    let i = c.loop-p.invariant in
    let k = key_at c.args.self.now.in_range c.requires c.loop-p.p c.loop-p-test.true in
    let is = key_is _ c.args.self.now.in_range c.requires c.loop-p.p c.loop-p-test.true in
    let fine : Is (resumes (at (keys a.rows.now)) a.self.now.order.now c.loop-p.p) → ⊥ =
    elim c.else-used-k.branch [
      | else-used-k-via-then-used-k+else-k-last w ↦ resumes_same _ _ _ _ _ _ k i.marks i.last (rw is at w.if-k-last.false)
      | else-used-k-via-else-used-k w ↦ resumes_new _ _ _ _ _ _ k i.marks i.last (rw is at w.if-used-k.false)
    ] in
    record {
      marks = marked_next true refl _ _ _ _ (omega (arith, is, k)) is i.marks;
      last = λ l. is ∙ ap (λ (q : ℕ). at (keys a.rows.now) (at a.self.now.order.now q)) (omega arith);
      fine = none_next (resumes (at (keys a.rows.now)) a.self.now.order.now) i.fine fine;
    }

pub returns : goal.returns
returns c =
    let e : c.loop-p.p ≡ length c.args.self.now.order.now = omega arith in
    sym (lowest_none _ _ (rw e at c.loop-p.invariant.fine))
