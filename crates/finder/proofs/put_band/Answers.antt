-- `finder::put_band` meets its contract: the rows of the band below i stand behind the first places. Assumes nothing.
use native.Mathlib.Omega.{arith}
use Prim.Native.Nat.{ℕ, ◌+◌, ◌<◌}
use mathlib.Core.Path.{◌≡◌, sym, subst₂, ◌∙◌}
use mathlib.Core.List.{List}
use lib.ListN.{length, get_or, set}
use lib.Dec.{eqb→eq}
use borrow.Author.Tests.{eq-eqb, ne_eqb}
use Rattle.sums.specs.Columns.{at}
use Rattle.sums.specs.Terms.{keys, nothing}
use Rattle.sums.specs.TermLaws.{at_key}
use Rattle.sums.specs.declared.Terms.{Terms}
use Rattle.licence.specs.Limit.{limit}
use Rattle.finder.specs.Steps.{own_of}
use Rattle.finder.proofs.Lining.{Behind, behind_none, behind_here, behind_else}
use Rattle.finder.proofs.put_band.Goals as goal
use Rattle.finder.proofs.put_band.Goals.{In-loop-i, then-rows-i, else-rows-i}

-- what a turn over row i knows
abbrev Stands : (c : In-loop-i) (made : List ℕ) (next i : ℕ) → Type 0
Stands c = let a = c.args in Behind a.made.now a.end (own_of (keys a.rows.now) (at (keys a.rows.now) a.k))

-- row i is of the band: there is a place for it
here : (c : In-loop-i) → let key = keys c.args.rows.now in let l = c.loop-i in
    at key l.i ≡ at key c.args.k → (l.next < (length c.args.rows.now)) × Stands c (set l.made l.next l.i) (l.next + 1) (l.i + 1)
here c e =
    behind_here c.args.made.now c.args.end _ (length c.args.rows.now) c.requires.room c.requires.long_made (omega arith) (eq-eqb _ _ e) c.loop-i.invariant

-- two rows of one key are of one band
one_key : (rows : List Terms) (i k : ℕ) → (get_or rows i nothing).key ≡ (get_or rows k nothing).key → at (keys rows) i ≡ at (keys rows) k
one_key rows i k e = at_key rows i ∙ (e ∙ sym (at_key rows k))

other_key : (rows : List Terms) (i k : ℕ) → ((get_or rows i nothing).key ≡ (get_or rows k nothing).key → ⊥) → at (keys rows) i ≡ at (keys rows) k → ⊥
other_key rows i k ne e = ne (sym (at_key rows i) ∙ (e ∙ at_key rows k))

pub loop-i-init : goal.loop-i-init
unfolding limit
loop-i-init c = behind_none _ _ _ c.args.k (λ i l h. c.requires.first i l (eqb→eq _ _ h))

pub overflow_cast-made : goal.overflow_cast-made
unfolding limit
overflow_cast-made c = omega (arith, c.requires.few)

pub bounds-made-next : goal.bounds-made-next
unfolding limit
bounds-made-next c = omega (arith, (here (goal.at.bounds-made-next c).In-loop-i (one_key c.args.rows.now c.loop-i.i c.args.k c.if-rows-i.true)).0, c.loop-i.invariant.long, c.requires.long_made)

pub loop-i-preserved : goal.loop-i-preserved
loop-i-preserved c =
    let l = c.loop-i in
    let turn = (goal.at.loop-i-preserved c).In-loop-i in
    elim c.if-rows-i.branch [
      | then-rows-i w ↦ subst₂ (λ (x : List ℕ) (y : ℕ). Stands turn x y (l.i + 1)) (sym w.made-is) (sym w.next-is) (here turn (one_key c.args.rows.now l.i c.args.k w.if-rows-i.true)).1
      | else-rows-i w ↦ subst₂ (λ (x : List ℕ) (y : ℕ). Stands turn x y (l.i + 1)) (sym w.made-is) (sym w.next-is) (behind_else _ _ _ (ne_eqb _ _ (other_key c.args.rows.now l.i c.args.k w.if-rows-i.false)) l.invariant)
    ]
