-- Idlers at the claim desk, as document 01 asks them to be tried: each falls to the statements of claiming and of withdrawing, on a ledger of the story of
-- the last room. The promises are here, their proofs in proofs/DeskIdlers.
-- Assumes nothing.
use Rattle.std.specs.Prelude.{◌<◌, ◌≡◌, ◌++◌}
use Rattle.intake.specs.Answer.{Answer}
use Rattle.desk.specs.declared.Ledger.{Ledger}
use Rattle.desk.specs.Ledger.{fresh, changed}
use Rattle.desk.specs.Replies.{Claimed, Withdrawn}
use Rattle.promises.specs.LastRoom.{sonar}

-- the ledger on which the last room is taken
abbrev pub full : Ledger
full = changed (changed fresh sonar 1) (sonar ++ sonar) 2

-- One that refuses everything.
abbrev pub RefusesEveryClaim : Type 0
RefusesEveryClaim = (after : Ledger) (a : Answer) → a.number < 100 → Claimed fresh sonar 0 after a → ⊥

abbrev pub RefusesEveryWithdrawal : Type 0
RefusesEveryWithdrawal = (after : Ledger) (a : Answer) → a.number < 100 → Withdrawn full 1 2 after a → ⊥

-- One that grants everything, each claim right taken alone.
abbrev pub GrantsEveryClaim : Type 0
GrantsEveryClaim = (after : Ledger) (a : Answer) → a.number ≡ 105 → Claimed full sonar 2 after a → ⊥

-- One that writes nothing, whatever it replies.
abbrev pub WritesNoClaim : Type 0
WritesNoClaim = (a : Answer) → Claimed fresh sonar 0 fresh a → ⊥

abbrev pub WritesNoWithdrawal : Type 0
WritesNoWithdrawal = (a : Answer) → Withdrawn full 1 2 full a → ⊥
