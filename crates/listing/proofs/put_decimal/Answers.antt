-- `listing::put_decimal` meets its contract: the digits that are printed are copied to their place. Assumes nothing.
use native.Mathlib.Omega.{arith}
use Prim.Native.Nat.{◌+◌}
use mathlib.Core.Path.{◌≡◌, ap, ◌∙◌}
use lib.ListN.{length}
use Rattle.listing.specs.Text.{decimal}
use Rattle.listing.specs.TextLaws.{printed}
use Rattle.listing.proofs.Stores.{part_stored}
use Rattle.listing.proofs.put_decimal.Goals as goal
use Rattle.listing.proofs.put_decimal.Goals.{After-as_bytes-digits}

digits : (c : After-as_bytes-digits) → c.as_bytes-digits.result.now ≡ decimal c.args.n
digits c = c.as_bytes-digits.ensures.value ∙ c.format.ensures.text ∙ printed c.args.n (omega (arith, c.ranges.n))

pub slice_bounds-copy_from_slice-end : goal.slice_bounds-copy_from_slice-end
slice_bounds-copy_from_slice-end c = omega (arith, c.requires, ap length (digits (goal.at.slice_bounds-copy_from_slice-end c).After-as_bytes-digits))

pub returns : goal.returns
returns c =
    let a = c.args in
    let e = digits (goal.at.returns c).After-as_bytes-digits in
    let long = ap length e in
    (ap (λ r. a.at + length r) e, part_stored a.text.now a.at _ c.copy_from_slice.new.self (decimal a.n) (c.copy_from_slice.ensures.after ∙ e) (omega arith) (omega arith))
