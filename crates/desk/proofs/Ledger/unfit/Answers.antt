-- `desk::Ledger::unfit` meets its contract: the rows before i can be read. Assumes nothing.
use native.Mathlib.Omega.{arith}
use Prim.Native.Nat.{ℕ}
use borrow.Author.Count.{below_more}
use mathlib.Core.List.{List}
use mathlib.Core.Path.{◌≡◌, sym, ◌∙◌}
use Rattle.std.specs.Prelude.{Result, Ok, Err, false, is_err, IsErr}
use Rattle.licence.specs.Limit.{limit}
use Rattle.licence.specs.Row.{bad_field, read_at}
use Rattle.licence.specs.Laws.{read_good, read_bad}
use Rattle.licence.specs.declared.Field.{Field}
use Rattle.licence.specs.declared.Row.{Row}
use Rattle.desk.proofs.Laws.{unfit_many, unfit_bad, fit}
use Rattle.desk.proofs.Ledger.unfit.Goals as goal

-- a row has a bad field exactly where it can't be read
refused : (words : List ℕ) (i : ℕ) (r : Result Row Field) → r ≡ read_at words i → IsErr r → bad_field words i ≡ 0 → ⊥
refused words i (Ok row) e t = absurd cc
refused words i (Err f) e t = (read_bad words i (sym e)).0

allowed : (words : List ℕ) (i : ℕ) (r : Result Row Field) → r ≡ read_at words i → is_err r ≡ false → bad_field words i ≡ 0
allowed words i (Ok row) e t = (read_good words i (sym e)).0
allowed words i (Err f) e t = cc

pub returns-then-n-gt-LIMIT : goal.returns-then-n-gt-LIMIT
unfolding limit
returns-then-n-gt-LIMIT c = sym (unfit_many _ _ c.if-n-gt-LIMIT.true)

pub returns-then-is_err : goal.returns-then-is_err
returns-then-is_err c =
    let i = c.loop-i.i in
    sym (unfit_bad _ _ i (omega arith) (refused _ i _ c.read_row.ensures (sym c.is_err.ensures.value ∙ c.if-is_err.true)))

pub loop-i-preserved : goal.loop-i-preserved
loop-i-preserved c =
    let l = c.loop-i in
    below_more _ l.i l.invariant (allowed _ l.i _ c.read_row.ensures (sym c.is_err.ensures.value ∙ c.if-is_err.false))

pub returns : goal.returns
unfolding limit
returns c = sym (fit _ _ c.if-n-gt-LIMIT.false (λ k l. c.loop-i.invariant k (omega arith)))
