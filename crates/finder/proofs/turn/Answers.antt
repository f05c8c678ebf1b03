-- `finder::turn` meets its contract: those behind the run and then the run are laid over where they stood. Assumes nothing.
use native.Mathlib.Omega.{arith}
use Prim.Native.Nat.{◌-◌}
use mathlib.Core.Path.{ap, ap₂, subst, sym, ◌∙◌}
use mathlib.Core.List.{◌++◌}
use lib.ListN.{length, take, drop, length-append}
use lib.Seq.{take_at}
use Rattle.std.specs.Prelude.{List}
use Rattle.std.proofs.lemmas.Slice.{take-put_mid}
use Rattle.finder.specs.Steps.{Turned}
use Rattle.finder.proofs.Turning.{turned_last, closer_long, run_long, laid_behind}
use Rattle.finder.proofs.turn.Goals as goal

pub returns-then-closer-eq0 : goal.returns-then-closer-eq0
returns-then-closer-eq0 g c = let a = c.args in turned_last a.band.s a.band.e (length a.list.now) a.list.now a.band.forward (omega (arith, c.requires.0))

pub returns : goal.returns
returns g c =
    let a = c.args in
    let n = length a.list.now in
    let s = a.band.s in
    let e = a.band.e in
    let closer = c.copy_from_slice.new.self in
    let run = c.copy_from_slice-2.new.self in
    let rest = drop (n - e) a.spare.now in
    let closer_is = ap length c.copy_from_slice.ensures.after ∙ closer_long s e n a.list.now a.band.forward c.requires.0 (omega arith) in
    let run_is = ap length c.copy_from_slice-2.ensures.after ∙ run_long s e n a.list.now a.band.forward c.requires.0 (omega arith) in
    let both = c.copy_from_slice-3.ensures.after
    ∙ take-put_mid (n - e) (n - s - (n - e)) (closer ++ rest) run (n - s) (omega (arith, a.band.forward, c.requires.0, run_is)) (omega (arith, length-append closer rest, closer_is))
    ∙ ap₂ ◌++◌ (take_at closer rest (n - e) closer_is ∙ c.copy_from_slice.ensures.after) c.copy_from_slice-2.ensures.after in
    subst (λ (x : List g.row.T.Denot). Turned s e n a.list.now (take s a.list.now ++ (x ++ drop (n - s) (drop s a.list.now)))) (sym both) (laid_behind s e n a.list.now a.band.forward c.requires.0 (omega arith))
