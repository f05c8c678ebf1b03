-- A run to be worked out by hand: a frame that blocks, a FIFO, and a higher row that comes in between. Definitions only.
-- Assumes nothing.
use Rattle.std.specs.Prelude.{ℕ, List, [], ◌∷◌}
use Rattle.sums.specs.Columns.{at}
use Rattle.order.specs.Table.{Table}
use Rattle.bus.specs.Model.{Frame, Run, Sent}

-- row 0, a priority row with a jitter; rows 1 and 2, a FIFO; row 3, a priority row
abbrev pub table : Table
table = record {
  n = 4;
  C = at (2 ∷ 3 ∷ 4 ∷ 5 ∷ []);
  T = at (13 ∷ 100 ∷ 100 ∷ 100 ∷ []);
  J = at (4 ∷ 0 ∷ 0 ∷ 0 ∷ []);
  E = at (9 ∷ 100 ∷ 100 ∷ 100 ∷ []);
  key = at (65 ∷ 1 ∷ 1 ∷ 68 ∷ []);
}

abbrev pub order : List ℕ
order = 0 ∷ 1 ∷ 2 ∷ 3 ∷ []

-- Two frames of row 0, only ten bit times apart: the first waits four, so that its event lies before time 0, and the second one. A frame of each of
-- the others, that of row 1 a bit shorter than it might be.
abbrev pub first : Frame
first = record { row = 0; queued = 1; wait = 4; len = 2 }

abbrev pub second : Frame
second = record { row = 0; queued = 11; wait = 1; len = 2 }

abbrev pub short : Frame
short = record { row = 1; queued = 2; wait = 0; len = 2 }

abbrev pub older : Frame
older = record { row = 2; queued = 1; wait = 0; len = 4 }

abbrev pub blocker : Frame
blocker = record { row = 3; queued = 0; wait = 0; len = 5 }

-- 21 bit times
abbrev pub run : Run
run =
    (blocker ∷ [])
    ∷ (older ∷ first ∷ [])
    ∷ (short ∷ [])
    ∷ [] ∷ [] ∷ [] ∷ [] ∷ [] ∷ [] ∷ [] ∷ []
    ∷ (second ∷ [])
    ∷ [] ∷ [] ∷ [] ∷ [] ∷ [] ∷ [] ∷ [] ∷ [] ∷ [] ∷ []

-- it was wholly sent at e
abbrev pub sent : Frame → (e : ℕ) → Sent
sent f e = record { frame = f; at = e }
