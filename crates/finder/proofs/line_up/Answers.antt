-- `finder::line_up` meets its contract: the bands of the first rows below k stand. Assumes nothing.
use native.Mathlib.Omega.{arith}
use Prim.Native.Nat.{ℕ, ◌+◌, ◌<◌}
use mathlib.Core.Path.{◌≡◌, refl, sym, ap, subst₂, ◌∙◌}
use mathlib.Core.Bool.{true, false, not}
use mathlib.Core.List.{List, []}
use lib.ListN.{length, get_or}
use lib.Dec.{T as Is}
use Rattle.sums.specs.Columns.{at}
use Rattle.sums.specs.Terms.{keys, nothing}
use Rattle.sums.specs.TermLaws.{at_key}
use Rattle.licence.specs.Limit.{limit}
use Rattle.order.specs.Sheet.{sheet}
use Rattle.order.specs.Marks.{marked_none, marked_next, marked_still}
use Rattle.finder.specs.Placing.{leads}
use Rattle.finder.proofs.Lining.{leads_flag, before_first, Lined, lined_none, lined_room, lined_next, lined_skip, lined_all}
use Rattle.finder.proofs.line_up.Goals as goal
use Rattle.finder.proofs.line_up.Goals.{In-loop-k, then-not-used-band, else-not-used-band}

-- the key of row k, as code has it
abbrev key_of : (c : In-loop-k) → ℕ
key_of c = (get_or c.args.rows.now c.loop-k.k nothing).key

-- it has a flag
flag : (c : In-loop-k) → at (keys c.args.rows.now) c.loop-k.k < 65 + length c.args.rows.now
flag c = omega (arith, c.requires.1.key_most c.loop-k.k (omega arith))

flag_of : (c : In-loop-k) → key_of c < 65 + length c.args.rows.now
flag_of c = omega (arith, flag c, at_key c.args.rows.now c.loop-k.k)

-- a row leads its band where the flag is not up
leads_here : (c : In-loop-k) → leads (sheet (length c.args.rows.now) [] [] [] [] (keys c.args.rows.now)) c.loop-k.k ≡ not (get_or c.loop-k.used (key_of c) false)
leads_here c =
    let l = c.loop-k in
    let rows = c.args.rows.now in
    leads_flag (length rows) (keys rows) l.used (65 + length rows) l.k l.invariant.0 (flag c) ∙ ap (λ (x : ℕ). not (get_or l.used x false)) (at_key rows l.k)

first : (c : In-loop-k) → get_or c.loop-k.used (key_of c) false ≡ false → Is (leads (sheet (length c.args.rows.now) [] [] [] [] (keys c.args.rows.now)) c.loop-k.k)
first c fresh = rw (leads_here c, fresh) tt

pub loop-k-init : goal.loop-k-init
unfolding limit
loop-k-init c = let few = c.requires.0 in (marked_none refl 129 _ (omega arith), lined_none _ _ _)

pub bounds-used-band : goal.bounds-used-band
unfolding limit
bounds-used-band c = omega (arith, c.requires.0, flag_of (goal.at.bounds-used-band c).In-loop-k)

pub bounds-used-band-then-not-used-band : goal.bounds-used-band-then-not-used-band
unfolding limit
bounds-used-band-then-not-used-band c = omega (arith, c.requires.0, flag_of (goal.at.bounds-used-band-then-not-used-band c).In-loop-k)

pub put_band-end-requires : goal.put_band-end-requires
put_band-end-requires c =
    let p = c.requires in
    let l = c.loop-k in
    let lead = first (goal.at.put_band-end-requires c).In-loop-k c.if-not-used-band.true in
    record {
      few = p.0;
      long_key = p.1.long_key;
      inside = omega arith;
      first = before_first (length c.args.rows.now) (keys c.args.rows.now) l.k lead;
      room = lined_room (length c.args.rows.now) (keys c.args.rows.now) l.k (omega arith) lead l.invariant.1;
      long_made = omega (arith, p.2, l.auto.made);
    }

pub loop-k-preserved : goal.loop-k-preserved
loop-k-preserved c =
    let a = c.args in
    let l = c.loop-k in
    let here = (goal.at.loop-k-preserved c).In-loop-k in
    elim c.if-not-used-band.branch [
      | then-not-used-band w ↦ (
        rw w.used-is (marked_next true refl _ _ _ _ (flag_of here) (sym (at_key a.rows.now l.k)) l.invariant.0),
        subst₂ (λ (x : List ℕ) (y : ℕ). Lined (length a.rows.now) (keys a.rows.now) x y (l.k + 1)) (sym w.made-is) (sym w.end-is)
            (lined_next (length a.rows.now) (keys a.rows.now) l.k (omega arith) (first here w.if-not-used-band.true) l.invariant.1 (omega (arith, w.put_band-end.ensures.1, c.requires.2, w.put_band-end.auto.made, l.auto.made)) w.put_band-end.ensures.0),
      )
      | else-not-used-band w ↦ (
        rw w.used-is (marked_still _ _ _ _ w.if-not-used-band.false (sym (at_key a.rows.now l.k)) l.invariant.0),
        subst₂ (λ (x : List ℕ) (y : ℕ). Lined (length a.rows.now) (keys a.rows.now) x y (l.k + 1)) (sym w.made-is) (sym w.end-is)
            (lined_skip (length a.rows.now) (keys a.rows.now) l.k (omega arith) (leads_here here ∙ ap not w.if-not-used-band.false) l.invariant.1),
      )
    ]

pub returns : goal.returns
unfolding limit
returns c = let e : c.loop-k.k ≡ (length c.args.rows.now) = omega arith in lined_all _ _ (rw e at c.loop-k.invariant.1)
