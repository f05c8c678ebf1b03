-- The bus of demand 3, one bit time after another, and the runs in which everybody keeps to the licence. The words in quotes are those of
-- document 01, 'The bus in demand 3'. Definitions only.
-- Assumes nothing.
use Rattle.std.specs.Prelude.{ℕ, zero, suc, ◌+◌, ◌-◌, ◌≤◌, ◌<◌, ◌≡◌, ◌⊎◌, length, get_or}
use Rattle.std.proofs.Math.Decide.{ℕ_discrete, dec_lt}
use mathlib.Core.List.{List, [], ◌∷◌, ◌++◌, Memᴰ}
use Rattle.order.specs.Table.{Table}

-- a stands in the list
infix 40 ◌∈◌
abbrev pub ◌∈◌ : {A : Type 0} → A → List A → Type 0
a ∈ l = Memᴰ a l

-- the one where it is so, the other where it is not; and the opposite of a decision
abbrev pub if : {P : Type 0} {A : Type 0} → Dec P → A → A → A
if (yes p) a b = a
if (no p) a b = b

abbrev pub not? : {P : Type 0} → Dec P → Dec (P → ⊥)
not? (yes p) = no (λ n. n p)
not? (no n) = yes n

-- ---- frames, runs and the state of the bus

-- one instance of a message: its row, the bit time in which it is queued, how long after its event that is, and 'its own length'
pub record Frame : Type 0 where
  pub row : ℕ
  pub queued : ℕ
  pub wait : ℕ
  pub len : ℕ

-- the frames of a list that a test says yes to
unfoldable pub keep : {P : Frame → Type 0} → ((f : Frame) → Dec (P f)) → List Frame → List Frame
keep p [] = []
keep p (f ∷ l) = if (p f) (f ∷ keep p l) (keep p l)

-- a run: for each of its bit times the frames queued in it, 'those of one bit time in any order'
abbrev pub Run : Type 0
Run = List (List Frame)

-- the frames queued in bit time t, and those of the whole run
abbrev pub during : Run → ℕ → List Frame
during run t = get_or run t []

unfoldable pub frames : Run → List Frame
frames [] = []
frames (fs ∷ run) = fs ++ frames run

-- the bus is free, or a frame holds it, with so many bits to come after the one that passes now
pub data Bus : Type 0 where
  free : Bus
  sending : Frame → ℕ → Bus

-- a frame, and the time at which it was wholly sent
pub record Sent : Type 0 where
  pub frame : Frame
  pub at : ℕ

-- what waits in the queues, the oldest first; the bus; and what has been wholly sent, the last first
pub record State : Type 0 where
  pub waiting : List Frame
  pub bus : Bus
  pub log : List Sent

-- 'All queues are empty and the bus free at time 0'
abbrev pub start : State
start = record { waiting = []; bus = free; log = [] }

-- the place of row k in an order, 'a list of row numbers, highest priority first'
unfoldable pub place : List ℕ → ℕ → ℕ
place [] k = 0
place (x ∷ o) k = if (ℕ_discrete k x) 0 (suc (place o k))

-- ---- one bit time

-- frames are queued, each behind what waits: 'oldest first'
unfoldable pub join : List Frame → State → State
join fs s = record { waiting = s.waiting ++ fs; bus = s.bus; log = s.log }

-- bit time t passes. 'Sent means that length is over': with its last bit a frame is wholly sent, at time t + 1. Until then it holds the bus,
-- 'with no interruption'
unfoldable pub pass_on : ℕ → Bus → State → State
pass_on t free s = s
pass_on t (sending f zero) s = record { waiting = s.waiting; bus = free; log = record { frame = f; at = suc t } ∷ s.log }
pass_on t (sending f (suc l)) s = record { waiting = s.waiting; bus = sending f l; log = s.log }

unfoldable pub pass : ℕ → State → State
pass t s = pass_on t s.bus s

-- 'the one highest in the order', of f and the frames of l
unfoldable pub highest : (o : List ℕ) → Frame → List Frame → Frame
highest o f [] = f
highest o f (g ∷ l) = highest o (if (dec_lt (place o g.row) (place o f.row)) g f) l

module _ (τ : Table) where
  -- the queue of a frame: 'each priority row has a queue of its own', 'a FIFO holds the instances of its rows'. So a queue is a band
  abbrev pub queue : Frame → ℕ
  queue f = τ.key f.row

  -- g is of another queue than f
  abbrev pub other : (f g : Frame) → Dec (queue g ≡ queue f → ⊥)
  other f g = not? (ℕ_discrete (queue g) (queue f))

  -- 'the heads of all queues': of each queue the frame that waits first, which is the 'oldest'
  unfoldable pub heads : List Frame → List Frame
  heads [] = []
  heads (f ∷ l) = f ∷ keep (other f) (heads l)

  -- what waits when the head of queue b has left
  unfoldable pub behead : ℕ → List Frame → List Frame
  behead b [] = []
  behead b (f ∷ l) = if (ℕ_discrete (queue f) b) l (f ∷ behead b l)

  -- g leaves its queue and 'holds the bus for its own length'
  unfoldable pub begin : Frame → State → State
  begin g s = record { waiting = behead (queue g) s.waiting; bus = sending g (g.len - 1); log = s.log }

module _ (τ : Table) (o : List ℕ) where
  -- the heads compete, if there are any
  unfoldable pub compete_of : List Frame → State → State
  compete_of [] s = s
  compete_of (h ∷ hs) s = begin τ (highest o h hs) s

  -- 'At every bit time when the bus is free, the heads of all queues compete'
  unfoldable pub compete_on : Bus → State → State
  compete_on free s = compete_of (heads τ s.waiting) s
  compete_on (sending f l) s = s

  unfoldable pub compete : State → State
  compete s = compete_on s.bus s

  -- bit time t: frames are queued, the heads compete, 'those queued in that bit time included', and one bit passes
  unfoldable pub step : ℕ → List Frame → State → State
  step t fs s = pass t (compete (join fs s))

  -- the state of a run at time t, when t bit times have passed, one after the other from time 0
  unfoldable pub state : Run → ℕ → State
  state run zero = start
  state run (suc t) = step t (during run t) (state run t)

  -- f has been wholly sent by the end of the run, at time e
  abbrev pub SentAt : Run → Frame → ℕ → Type 0
  SentAt run f e = record { frame = f; at = e } ∈ (state run (length run)).log

  -- and no later than at time t
  abbrev pub SentBy : Run → Frame → ℕ → Type 0
  SentBy run f t = (e : ℕ) × (e ≤ t) × SentAt run f e

-- ---- what is licensed

module _ (τ : Table) where
  -- the event of y lies a period of x's row after that of x, or later. An event lies its frame's wait before the queuing, 'and may lie before
  -- time 0': so no wait is taken away, each is added on the other side
  abbrev pub After : Frame → Frame → Type 0
  After x y = x.queued + τ.T x.row + y.wait ≤ y.queued + x.wait

  abbrev pub Apart : Frame → Frame → Type 0
  Apart x y = After x y ⊎ After y x

  -- 'Events of a row are at least T apart; each event queues one instance'
  abbrev pub Spaced : List Frame → Type 0
  Spaced [] = Unit {0}
  Spaced (x ∷ l) = ((y : Frame) → y ∈ l → x.row ≡ y.row → Apart x y) × Spaced l

  -- a frame queued in bit time t: of a row of the table, queued '0 to J after' its event, its length '1 to C'
  pub record Licensed (t : ℕ) (f : Frame) : Type 0 where
    pub queued_at : f.queued ≡ t
    pub row_is : f.row < τ.n
    pub wait_most : f.wait ≤ τ.J f.row
    pub len_least : 1 ≤ f.len
    pub len_most : f.len ≤ τ.C f.row

  -- a run in which everybody keeps to the licence
  pub record Legal (run : Run) : Type 0 where
    pub licensed : (t : ℕ) (f : Frame) → f ∈ during run t → Licensed t f
    pub spaced : Spaced (frames run)

  -- what document 01 allows of a table's numbers, as far as the bus needs it: a period and a length are at least 1, and a deadline, which is E + J, is
  -- '1 to T'
  pub record Sane : Type 0 where
    pub period : (k : ℕ) → k < τ.n → 1 ≤ τ.T k
    pub some_bits : (k : ℕ) → k < τ.n → 1 ≤ τ.C k
    pub within : (k : ℕ) → k < τ.n → τ.E k + τ.J k ≤ τ.T k
