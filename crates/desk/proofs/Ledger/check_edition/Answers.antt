-- `desk::Ledger::check_edition` meets its contract. Assumes nothing.
use Rattle.desk.proofs.Laws.{edition_9, edition_10, edition_none}
use Rattle.desk.proofs.Ledger.check_edition.Goals as goal

pub returns-then-self : goal.returns-then-self
returns-then-self c = edition_9 _ _ c.if-self.true

pub returns-then-seen-self : goal.returns-then-seen-self
returns-then-seen-self c = edition_10 _ _ c.if-self.false c.if-seen-self.true

pub returns : goal.returns
returns c = edition_none _ _ c.if-self.false c.if-seen-self.false
