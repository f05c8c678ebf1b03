-- All bands that are watched together: what waits at one bit time begins in time, by induction on that bit time. For each band Waiting has it where frames
-- above come to compete promptly; and they do, if what waited before began in time. This is the core for orders that keep queues together and
-- for interleaved ones alike: they differ in which frames are taken to compete, and in how late a frame may come to it.
-- Assumes nothing.
use Rattle.std.specs.Prelude.{ℕ, zero, suc, ◌+◌, ◌-◌, ◌≤◌, ◌<◌, ◌≡◌, List, length, T as Is}
use Rattle.std.proofs.Common.{arith, sym, ap, ◌∙◌, subst, inl, inr}
use mathlib.Core.List.Memᴰ
use Rattle.order.specs.Table.{Table, MIN}
use Rattle.order.specs.Orders.{Order, own}
use Rattle.bus.specs.Model.{Frame, Run, State, sending, ◌∈◌, during, SentAt, Legal, Sane}
use Rattle.bus.specs.Compete.{Turn, rests, begins}
use Rattle.bus.specs.Trace.{joined, settled}
use Rattle.bus.specs.Competing.{Competes, Prompt}
use Rattle.bus.specs.Enough.{Enough, Clear}
use Rattle.bus.specs.Serve.{Soon}
use Rattle.bus.proofs.Compete.{turn, takes_else}
use Rattle.bus.proofs.Trace.{joins, next_waiting, still, log_later, will_be_sent}
use Rattle.bus.proofs.Competing.{rival_waits, fresh_rival, fresh_new}
use Rattle.bus.proofs.Waiting.{in_time}

module _ (τ : Table) (sane : Sane τ) (o : List ℕ) (ord : Order τ o) (run : Run) (legal : Legal τ run) (comp : List Frame → List Frame) (K : Competes τ comp)
    (f : ℕ → ℕ) (Watched : ℕ → Type 0) (w : ℕ → ℕ) (enough : (p : ℕ) → Watched p → Enough τ o f p (w p)) (clear : (p : ℕ) → Watched p → Clear τ o comp p)
    (held : (t : ℕ) → Soon τ o run Watched w t → (x : Frame) → x ∈ (joined τ o run t).waiting → (x ∈ comp (joined τ o run t).waiting → ⊥) → t < x.queued + f x.row) where
  -- a frame comes to compete where it is queued, or where it was held back
  prompt : (e : ℕ) → ((t : ℕ) → suc t < e → Soon τ o run Watched w t) → Prompt τ o run comp f e
  prompt e so zero h x m = omega arith
  prompt e so (suc t) h x m =
      elim (Memᴰ.append_cases (settled τ o run t).waiting (rw (next_waiting τ o run t) at (rival_waits τ sane o run legal comp K (suc t) x (fresh_rival τ sane o run legal comp K (suc t) x m)))) [
        | inl i ↦ held t (so t h) x (still τ o run t x i) (fresh_new τ sane o run legal comp K t x m)
        | inr i ↦ omega (arith, (legal.licensed (suc t) x i).queued_at)
      ]

  soon : (fuel t : ℕ) → t < fuel → Soon τ o run Watched w t
  soon zero t h x m p j i = absurd (omega arith)
  soon (suc fuel) t h x m p j i =
      in_time τ sane o ord run legal comp K f p (w p) (enough p j) (clear p j) t (prompt (suc t) (λ u k. soon fuel u (omega arith))) x m i

  -- a frame that waits begins before its time is up
  abbrev Begins : Frame → ℕ → Type 0
  Begins x e = (u : ℕ) × (u + τ.C x.row < e) × ((settled τ o run u).bus ≡ sending x (x.len - 1))

  begin : (fuel t p : ℕ) → Watched p → (x : Frame) → Is (own τ o p x.row) → x.queued + w p + MIN τ (own τ o p) ≤ t + fuel → x ∈ (joined τ o run t).waiting
      → Begins x (x.queued + w p + MIN τ (own τ o p))
  begin zero t p j x i h m = absurd (omega (arith, soon (suc t) t (omega arith) x m p j i))
  begin (suc fuel) t p j x i h m = go (turn τ o (joined τ o run t)) (λ k. begin fuel (suc t) p j x i (omega arith) (rw (next_waiting τ o run t) (Memᴰ.append_left (during run (suc t)) k)))
    where
      go : Turn τ o (joined τ o run t) (settled τ o run t) → (x ∈ (settled τ o run t).waiting → Begins x (x.queued + w p + MIN τ (own τ o p))) → Begins x (x.queued + w p + MIN τ (own τ o p))
      go (rests _ e) ih = ih (subst (λ (s : State). x ∈ s.waiting) (sym e) m)
      go (begins g b k v c s) ih = elim (takes_else τ g x k m) [
        | inl e ↦ (t, soon (suc t) t (omega arith) x m p j i, c ∙ ap (λ (y : Frame). sending y (y.len - 1)) e)
        | inr n ↦ ih n
      ]

  -- and is wholly sent before it
  pub served : (p : ℕ) → Watched p → (q : ℕ) (x : Frame) → x ∈ during run q → Is (own τ o p x.row) → q + w p + MIN τ (own τ o p) ≤ suc (length run)
      → (e : ℕ) × (e < q + w p + MIN τ (own τ o p)) × SentAt τ o run x e
  served p j q x m i h =
      let z = legal.licensed q x m in
      let (u, l, b) = begin (w p + MIN τ (own τ o p)) q p j x i (omega (arith, z.queued_at)) (joins τ o run q x m) in (
        u + x.len,
        omega (arith, z.len_most, z.queued_at),
        log_later τ o run (length run - (u + x.len)) (u + x.len) (length run) _ (omega (arith, z.len_most, z.queued_at))
            (will_be_sent τ o run (x.len - 1) u (u + x.len) x (omega (arith, z.len_least)) b),
      )
