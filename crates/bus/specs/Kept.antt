-- Demand 3 on numbers: a band that passes keeps its figure in every legal run, whatever the verdicts on the other bands are. The promises; their proofs
-- are `kept` and `kept_early` in proofs/Kept.antt.
-- Assumes nothing.
use Rattle.std.specs.Prelude.{ℕ, suc, ◌+◌, ◌≤◌, ◌<◌, List, length, T as Is}
use Rattle.order.specs.Table.{Table}
use Rattle.order.specs.Orders.{Order, Together, own, FigureAt}
use Rattle.bus.specs.Model.{Frame, Run, ◌∈◌, during, SentAt, SentBy, Legal, Sane}

-- Let a frame of the band at place p be queued at q, and R be the figure of that band. If the run lasts until the figure is up, the frame is
-- wholly sent no later.
abbrev pub Kept : Type 0
Kept = (τ : Table) → Sane τ → (o : List ℕ) → Order τ o → Together τ o → (run : Run) → Legal τ run
    → (p R : ℕ) → p < length o → FigureAt τ o p R
    → (q : ℕ) (f : Frame) → f ∈ during run q → Is (own τ o p f.row) → q + R ≤ length run → SentBy τ o run f (q + R)

-- The stronger form: it is wholly sent at least one bit time before its figure is up, in a run that lasts until then.
abbrev pub KeptEarly : Type 0
KeptEarly = (τ : Table) → Sane τ → (o : List ℕ) → Order τ o → Together τ o → (run : Run) → Legal τ run
    → (p R : ℕ) → p < length o → FigureAt τ o p R
    → (q : ℕ) (f : Frame) → f ∈ during run q → Is (own τ o p f.row) → q + R ≤ suc (length run) → (e : ℕ) × (suc e ≤ q + R) × SentAt τ o run f e
