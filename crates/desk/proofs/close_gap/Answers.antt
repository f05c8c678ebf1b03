-- `desk::close_gap` meets its contract: the words behind the row, up to the end, are laid over what is lent from the row on. Assumes nothing.
use mathlib.Core.Path.{◌∙◌}
use Rattle.desk.proofs.Rows.{gap_closed}
use Rattle.desk.proofs.close_gap.Goals as goal

pub returns : goal.returns
returns c = let a = c.args in c.copy_within.ensures.after ∙ gap_closed a.words.now a.gap a.end c.requires.0 c.requires.1
