-- Who wins the bus: one view of the competition with a case for each thing that can happen, so that nobody unfolds it again.
-- Assumes nothing.
use Rattle.std.specs.Prelude.{ℕ, ◌+◌, ◌≤◌, ◌<◌, ◌≡◌, ◌⊎◌}
use Rattle.std.proofs.Math.Decide.{ℕ_discrete, dec_lt}
use Rattle.std.proofs.Common.{arith, ◌∙◌, inl, inr}
use Rattle.std.proofs.Math.Path.{refl, sym, ap}
use mathlib.Core.List.Memᴰ
use mathlib.Core.List.{List, [], ◌∷◌}
use Rattle.order.specs.Table.{Table}
use Rattle.bus.specs.Model.{Frame, State, Bus, free, sending, ◌∈◌, if, queue, other, heads, behead, highest, begin, compete_of, compete_on, compete}
use Rattle.bus.specs.Frames.{total}
use Rattle.bus.specs.Compete.{Takes, here, there, place_of, busy, idle, Turn, rests, begins}
use Rattle.bus.proofs.Frames.{kept, keeps}

-- ---- the head of a queue

module _ (τ : Table) where
  pub takes_in : (g : Frame) {w w' : List Frame} → Takes τ g w w' → g ∈ w
  takes_in g (here e) = Memᴰ.head e
  takes_in g (there ne t) = Memᴰ.tail (takes_in g t)

  -- what is left was there, and what was there is left, but for g
  pub takes_from : (g x : Frame) {w w' : List Frame} → Takes τ g w w' → x ∈ w' → x ∈ w
  takes_from g x (here e) m = Memᴰ.tail m
  takes_from g x (there ne t) (Memᴰ.head e) = Memᴰ.head e
  takes_from g x (there ne t) (Memᴰ.tail m) = Memᴰ.tail (takes_from g x t m)

  pub takes_else : (g x : Frame) {w w' : List Frame} → Takes τ g w w' → x ∈ w → (g ≡ x) ⊎ (x ∈ w')
  takes_else g x (here e) (Memᴰ.head k) = inl (e ∙ sym k)
  takes_else g x (here e) (Memᴰ.tail m) = inr m
  takes_else g x (there ne t) (Memᴰ.head k) = inr (Memᴰ.head k)
  takes_else g x (there ne t) (Memᴰ.tail m) = elim (takes_else g x t m) [ inl e ↦ inl e | inr k ↦ inr (Memᴰ.tail k) ]

  pub takes_total : (h : Frame → ℕ) (g : Frame) {w w' : List Frame} → Takes τ g w w' → total h w ≡ h g + total h w'
  takes_total h g (here e) = omega (arith, ap h e)
  takes_total h g (there ne k) = omega (arith, takes_total h g k)

  head_takes : (g : Frame) (w : List Frame) → g ∈ heads τ w → Takes τ g w (behead τ (queue τ g) w)
  unfolding heads behead
  head_takes g [] m = elim m [ ]
  head_takes g (f ∷ w) (Memᴰ.head p) = go (ℕ_discrete (queue τ f) (queue τ g))
    where
      go : (d : Dec (queue τ f ≡ queue τ g)) → Takes τ g (f ∷ w) (if d w (f ∷ behead τ (queue τ g) w))
      go (yes e) = here p
      go (no e) = absurd (e (ap (queue τ) (sym p)))
  head_takes g (f ∷ w) (Memᴰ.tail m) =
      let k = kept (other τ f) g (heads τ w) m in
      go (ℕ_discrete (queue τ f) (queue τ g)) k.1 (head_takes g w k.0)
    where
      go : (d : Dec (queue τ f ≡ queue τ g)) → (queue τ g ≡ queue τ f → ⊥) → Takes τ g w (behead τ (queue τ g) w) → Takes τ g (f ∷ w) (if d w (f ∷ behead τ (queue τ g) w))
      go (yes e) ne t = absurd (ne (sym e))
      go (no e) ne t = there e t

  -- the queue of a frame that waits has a head
  abbrev HasHead : Frame → List Frame → Type 0
  HasHead x w = (h : Frame) × (h ∈ heads τ w) × (h ∈ w) × (queue τ h ≡ queue τ x)

  has_head : (x : Frame) (w : List Frame) → x ∈ w → HasHead x w
  unfolding heads
  has_head x [] m = elim m [ ]
  has_head x (f ∷ w) (Memᴰ.head p) = (f, Memᴰ.head refl, Memᴰ.head refl, ap (queue τ) (sym p))
  has_head x (f ∷ w) (Memᴰ.tail m) = go (has_head x w m) (ℕ_discrete (queue τ x) (queue τ f))
    where
      go : HasHead x w → Dec (queue τ x ≡ queue τ f) → HasHead x (f ∷ w)
      go h (yes e) = (f, Memᴰ.head refl, Memᴰ.head refl, sym e)
      go h (no e) = (h.0, Memᴰ.tail (keeps (other τ f) h.0 (heads τ w) h.1 (λ q. e (sym h.3 ∙ q))), Memᴰ.tail h.2, h.3)

-- ---- the highest of the heads

module _ (o : List ℕ) where
  highest_in : (f : Frame) (l : List Frame) → highest o f l ∈ (f ∷ l)
  unfolding highest
  highest_in f [] = Memᴰ.head refl
  highest_in f (g ∷ l) = go (dec_lt (place_of o g) (place_of o f)) (λ (h : Frame). highest_in h l)
    where
      go : (d : Dec (place_of o g < place_of o f)) → ((h : Frame) → highest o h l ∈ (h ∷ l)) → highest o (if d g f) l ∈ (f ∷ g ∷ l)
      go (yes e) ih = Memᴰ.tail (ih g)
      go (no e) ih = elim (ih f) [ Memᴰ.head p ↦ Memᴰ.head p | Memᴰ.tail m ↦ Memᴰ.tail (Memᴰ.tail m) ]

  highest_first : (f : Frame) (l : List Frame) (h : Frame) → h ∈ (f ∷ l) → place_of o (highest o f l) ≤ place_of o h
  unfolding highest
  highest_first f [] h (Memᴰ.head p) = omega (arith, ap (place_of o) p)
  highest_first f [] h (Memᴰ.tail m) = elim m [ ]
  highest_first f (g ∷ l) h m = go (dec_lt (place_of o g) (place_of o f)) (λ (x y : Frame). highest_first x l y) m
    where
      go : (d : Dec (place_of o g < place_of o f)) → ((x y : Frame) → y ∈ (x ∷ l) → place_of o (highest o x l) ≤ place_of o y) → h ∈ (f ∷ g ∷ l) → place_of o (highest o (if d g f) l) ≤ place_of o h
      go (yes e) ih (Memᴰ.head p) = omega (arith, ap (place_of o) p, ih g g (Memᴰ.head refl))
      go (yes e) ih (Memᴰ.tail m) = ih g h m
      go (no e) ih (Memᴰ.head p) = ih f h (Memᴰ.head p)
      go (no e) ih (Memᴰ.tail (Memᴰ.head p)) = omega (arith, ap (place_of o) p, ih f f (Memᴰ.head refl))
      go (no e) ih (Memᴰ.tail (Memᴰ.tail m)) = ih f h (Memᴰ.tail m)

module _ (τ : Table) (o : List ℕ) where
  pub turn : (s : State) → Turn τ o s (compete τ o s)
  unfolding compete compete_on compete_of heads begin
  turn s = go s.bus refl
    where
      no_heads : (w : List Frame) → heads τ w ≡ [] → w ≡ []
      no_heads [] e = refl
      no_heads (f ∷ w) e = cc

      among : (hs : List Frame) → heads τ s.waiting ≡ hs → s.bus ≡ free → Turn τ o s (compete_of τ o hs s)
      among [] e b = rests (idle b (no_heads s.waiting e)) refl
      among (h ∷ hs) e b =
          begins (highest o h hs) b (head_takes τ _ s.waiting (rw e (highest_in o h hs)))
          (λ x m. let y = has_head τ x s.waiting m in
          record { head = y.0; leads = y.1; waits = y.2; same = y.3; lower = highest_first o h hs y.0 (rw e at y.1) })
          refl refl

      go : (b : Bus) → s.bus ≡ b → Turn τ o s (compete_on τ o b s)
      go free e = among (heads τ s.waiting) refl e
      go (sending f l) e = rests (busy f l e) refl
