-- `listing::put_refusal` meets its contract: the word is copied, and behind it stand the number and the line's end. Assumes nothing.
use native.Mathlib.Omega.{arith}
use Prim.Native.Nat.{ℕ, ◌+◌, ◌≤◌}
use mathlib.Core.Path.{◌≡◌, refl, ap, ap₂, ◌∙◌}
use mathlib.Core.List.{List}
use lib.ListN.{length, set}
use lib.Seq.{sets}
use Rattle.intake.specs.Answer.{Answer, refusal_answer}
use Rattle.intake.specs.Told.{refusal_small}
use Rattle.listing.specs.Text.{decimal, refused_word}
use Rattle.listing.specs.TextLaws.{decimal_length, refused_length, refused_stored}
use Rattle.listing.proofs.Stores.{part_stored}
use Rattle.listing.proofs.put_refusal.Goals as goal
use Rattle.listing.proofs.put_refusal.Goals.{After-from}

-- the number is that of the refusal, and has two digits at most
number : (c : After-from) → c.from.result.number ≡ (refusal_answer c.args.r).number
number c = ap (λ (a : Answer). a.number) c.from.ensures

digits : (c : After-from) → length (decimal c.from.result.number) ≤ 2
digits c = decimal_length 1 c.from.result.number (omega (arith, number c, refusal_small c.args.r))

pub put_decimal-stop-requires : goal.put_decimal-stop-requires
put_decimal-stop-requires c = omega (arith, digits (goal.at.put_decimal-stop-requires c).After-from)

pub bounds-text-stop : goal.bounds-text-stop
bounds-text-stop c = omega (arith, digits (goal.at.bounds-text-stop c).After-from)

pub overflow_add-result : goal.overflow_add-result
overflow_add-result c = omega (arith, digits (goal.at.overflow_add-result c).After-from)

pub returns : goal.returns
returns c =
    let text = c.args.text.now in
    let same = number (goal.at.returns c).After-from in
    let e = c.put_decimal-stop.ensures in
    let stop : c.put_decimal-stop.result ≡ 8 + length (decimal (refusal_answer c.args.r).number) = e.0 ∙ ap (λ (n : ℕ). 8 + length (decimal n)) same in
    let word = part_stored text 0 8 c.copy_from_slice.new.self refused_word c.copy_from_slice.ensures.after refl (omega arith) in (
      omega (arith, stop, refused_length (refusal_answer c.args.r).number),
      ap (λ (l : List ℕ). set l c.put_decimal-stop.result 10) (e.1 ∙ ap₂ (λ (l : List ℕ) (n : ℕ). sets l 8 (decimal n)) word same) ∙ refused_stored text (refusal_answer c.args.r).number stop,
    )
