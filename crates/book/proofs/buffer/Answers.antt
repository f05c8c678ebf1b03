-- `book::buffer` meets its contract: the constant is the size of the longest book. Assumes nothing.
use mathlib.Core.Path.{refl}
use Rattle.licence.specs.Limit.{limit}
use Rattle.book.proofs.buffer.Goals as goal

pub returns : goal.returns
unfolding limit
returns c = refl
