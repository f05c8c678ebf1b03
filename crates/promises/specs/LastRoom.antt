-- The customer's story at the claim desk, worked out: 'Twice the last room was granted, each sum right taken alone.' One message is held, and the bus has
-- room for one like it. Two captains see the same edition. The first is granted the room; the second is told that the ledger has another edition, and
-- asking again that there is no order; once the first has withdrawn, the second is granted it. The promise is here, its proof in proofs/LastRoom.
-- Assumes nothing.
use Rattle.std.specs.Prelude.{ℕ, List, [], ◌∷◌}
use Rattle.intake.specs.Answer.{Answer, answer}
use Rattle.desk.specs.declared.Ledger.{Ledger}
use Rattle.desk.specs.Ledger.{fresh}
use Rattle.desk.specs.History.{Call, claiming, withdrawing, Entry, Calls}

-- a message of 100 bit times in priority, every 1,000 bit times, to be sent within 350
abbrev pub sonar : List ℕ
sonar = 0 ∷ 0 ∷ 100 ∷ 1000 ∷ 350 ∷ 0 ∷ []

abbrev says : Call → Answer → Entry
says c a = record { call = c; reply = a }

-- the calls and their replies, the latest first
abbrev pub last_room : List Entry
last_room =
    says (claiming sonar 3) (answer 105 4 0)
    ∷ says (withdrawing 1 2) (answer 106 3 0)
    ∷ says (claiming sonar 2) (answer 8 3 3)
    ∷ says (claiming sonar 1) (answer 10 0 0)
    ∷ says (claiming sonar 1) (answer 105 2 0)
    ∷ says (claiming sonar 0) (answer 105 1 0)
    ∷ []

-- That is what a fresh desk replies; and by `one_claim` and `one_withdrawal` nothing else.
abbrev pub LastRoom : Type 0
LastRoom = (l : Ledger) × Calls fresh last_room l
