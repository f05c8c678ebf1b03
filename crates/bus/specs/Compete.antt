-- Who wins the bus: one view of the competition with a case for each thing that can happen, so that nobody unfolds it again. Definitions only;
-- that the competition is so is `turn` in proofs/Compete.antt.
-- Assumes nothing.
use Rattle.std.specs.Prelude.{ℕ, ◌-◌, ◌≤◌, ◌≡◌}
use mathlib.Core.List.{List, [], ◌∷◌}
use Rattle.order.specs.Table.{Table}
use Rattle.bus.specs.Model.{Frame, State, free, sending, ◌∈◌, place, queue, heads}

-- ---- the head of a queue

module _ (τ : Table) where
  -- g is the first of its queue in a list, and the other list is what it leaves
  pub data Takes (g : Frame) : List Frame → List Frame → Type 0 where
    here : {x : Frame} {w : List Frame} → g ≡ x → Takes g (x ∷ w) w
    there : {x : Frame} {w w' : List Frame} → (queue τ x ≡ queue τ g → ⊥) → Takes g w w' → Takes g (x ∷ w) (x ∷ w')

module _ (o : List ℕ) where
  abbrev pub place_of : Frame → ℕ
  place_of f = place o f.row

-- nothing begins: the bus is held, or nothing waits
pub data Rests (s : State) : Type 0 where
  busy : (f : Frame) (l : ℕ) → s.bus ≡ sending f l → Rests s
  idle : s.bus ≡ free → s.waiting ≡ [] → Rests s

module _ (τ : Table) (o : List ℕ) where
  -- every queue in which a frame waits has a head, and g stands no lower than it
  pub record Led (g x : Frame) (w : List Frame) : Type 0 where
    pub head : Frame
    pub leads : head ∈ heads τ w
    pub waits : head ∈ w
    pub same : queue τ head ≡ queue τ x
    pub lower : place_of o g ≤ place_of o head

  abbrev pub Wins : Frame → List Frame → Type 0
  Wins g w = (x : Frame) → x ∈ w → Led g x w

  -- ---- what the competition does: nothing, or the winner begins
  pub data Turn (s c : State) : Type 0 where
    rests : Rests s → c ≡ s → Turn s c
    begins : (g : Frame) → s.bus ≡ free → Takes τ g s.waiting c.waiting → Wins g s.waiting → c.bus ≡ sending g (g.len - 1) → c.log ≡ s.log → Turn s c
