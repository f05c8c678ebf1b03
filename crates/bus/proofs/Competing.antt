-- What competes goes on competing until it begins, so that the frames which come to compete in a stretch of time are each counted once.
-- Assumes nothing.
use Prim.Native.Nat.{ℕ, zero, suc, ◌+◌, ◌-◌, ◌≤◌, ◌<◌}
use Rattle.std.proofs.Common.{arith, sym, subst, inl, inr}
use Rattle.std.specs.Prelude.{◌≡◌, List, ◌∷◌}
use mathlib.Core.List.Memᴰ
use Rattle.order.specs.Table.{Table}
use Rattle.bus.specs.Model.{Frame, Run, State, ◌∈◌, not?, during, Apart, Spaced, Legal, Sane}
use Rattle.bus.specs.Frames.{total, in?, Once}
use Rattle.bus.specs.Compete.{Takes, Turn, rests, begins}
use Rattle.bus.specs.Trace.{joined, settled, window}
use Rattle.bus.specs.Competing.{Competes, rivals, fresh, remaining}
use Rattle.bus.proofs.Frames.{kept, total_parts, total_part}
use Rattle.bus.proofs.Spacing.{spaced_keep, spaced_append, spaced_once, one_or_apart}
use Rattle.bus.proofs.Compete.{turn}
use Rattle.bus.proofs.Trace.{next_waiting, in_window, into_window, from, lawful, spaced_start, spaced_waiting, begun, never_again}

module _ (τ : Table) (sane : Sane τ) (o : List ℕ) (run : Run) (legal : Legal τ run) (comp : List Frame → List Frame) (K : Competes τ comp) where
  abbrev all : ℕ → List Frame
  all = rivals τ o run comp

  abbrev new : ℕ → List Frame
  new = fresh τ o run comp

  abbrev staying : ℕ → List Frame
  staying = remaining τ o run comp

  pub rival_waits : (t : ℕ) (x : Frame) → x ∈ all t → x ∈ (joined τ o run t).waiting
  rival_waits t x m = K.part (joined τ o run t).waiting x m

  pub fresh_rival : (t : ℕ) (x : Frame) → x ∈ new t → x ∈ all t
  unfolding fresh
  fresh_rival zero x m = m
  fresh_rival (suc t) x m = (kept (λ y. not? (in? y (all t))) x (all (suc t)) m).0

  -- it did not compete before
  pub fresh_new : (t : ℕ) (x : Frame) → x ∈ new (suc t) → x ∈ all t → ⊥
  unfolding fresh
  fresh_new t x m = (kept (λ y. not? (in? y (all t))) x (all (suc t)) m).1

  -- ---- what competes goes on competing as long as it waits

  stays_on : (k t u v : ℕ) (x : Frame) → t + k ≡ u → u ≤ v → x ∈ (joined τ o run v).waiting → x ∈ all t → x ∈ all u
  stays_on zero t u v x e h n m = subst (λ (j : ℕ). x ∈ all j) (omega arith) m
  stays_on (suc k) t u v x e h n m =
      stays_on k (suc t) u v x (omega arith) h n (rw (next_waiting τ o run t) (K.behind (settled τ o run t).waiting (during run (suc t)) x (go (turn τ o (joined τ o run t)))))
    where
      go : Turn τ o (joined τ o run t) (settled τ o run t) → x ∈ comp (settled τ o run t).waiting
      go (rests _ j) = subst (λ (s : State). x ∈ comp s.waiting) (sym j) m
      go (begins g b j w c s) = elim (K.stays g x (joined τ o run t).waiting (settled τ o run t).waiting j m) [
        | inl i ↦ absurd (never_again τ o run legal sane.period t v x (subst (λ (y : Frame). Takes τ y (joined τ o run t).waiting (settled τ o run t).waiting) i j) (omega arith) n)
        | inr i ↦ i
      ]

  -- ---- so those that come to compete keep their distance

  fresh_apart : (t u : ℕ) (x y : Frame) → t < u → x ∈ new t → y ∈ new u → x.row ≡ y.row → Apart τ x y
  fresh_apart t zero x y h m n e = absurd (omega arith)
  fresh_apart t (suc u) x y h m n e =
      elim (one_or_apart τ (window (during run) 0 (suc (suc u))) x y (spaced_start τ o run legal (suc (suc u))) (queued t x (fresh_rival t x m) (omega arith)) (queued (suc u) y (fresh_rival (suc u) y n) (omega arith)) e) [
        | inl i ↦ absurd (fresh_new u y n (stays_on (u - t) t u (suc u) y (omega arith) (omega arith) (rival_waits (suc u) y (fresh_rival (suc u) y n)) (rw i at (fresh_rival t x m))))
        | inr a ↦ a
      ]
    where
      queued : (v : ℕ) (z : Frame) → z ∈ all v → v ≤ suc u → z ∈ window (during run) 0 (suc (suc u))
      queued v z k i = let w = from τ o run legal v z (rival_waits v z k) in into_window (during run) (suc (suc u)) 0 w.0 z (omega arith) (omega (arith, w.1)) w.2

  rivals_spaced : (t : ℕ) → Spaced τ (all t)
  rivals_spaced t = K.spaced (joined τ o run t).waiting (spaced_waiting τ o run legal t)

  fresh_once : (t : ℕ) → Spaced τ (new t)
  unfolding fresh
  fresh_once zero = rivals_spaced 0
  fresh_once (suc t) = spaced_keep τ (λ y. not? (in? y (all t))) (all (suc t)) (rivals_spaced (suc t))

  pub fresh_spaced : (d s : ℕ) → Spaced τ (window new s d)
  unfolding window
  fresh_spaced zero s = tt
  fresh_spaced (suc d) s = spaced_append τ (new s) (window new (suc s) d) (fresh_once s) (fresh_spaced d (suc s))
      (λ x y m n. let w = in_window new d (suc s) y n in fresh_apart s w.0 x y w.1 m w.3)

  -- ---- and what still competes is no more than what did, less what has begun

  remains : (t : ℕ) (x : Frame) → x ∈ staying t → (x ∈ all (suc t)) × (x ∈ all t)
  unfolding remaining
  remains t x m = kept (λ y. in? y (all t)) x (all (suc t)) m

  remaining_once : (t : ℕ) → Once (staying t)
  unfolding remaining
  remaining_once t = spaced_once τ (staying t) (λ x m. sane.period x.row (lawful τ o run legal (suc t) x (rival_waits (suc t) x (remains t x m).0)).row_is)
      (spaced_keep τ (λ y. in? y (all t)) (all (suc t)) (rivals_spaced (suc t)))

  pub remaining_le : (h : Frame → ℕ) (t : ℕ) → total h (staying t) ≤ total h (all t)
  remaining_le h t = total_part h (staying t) (all t) (remaining_once t) (λ x m. (remains t x m).1)

  pub remaining_less : (h : Frame → ℕ) (t : ℕ) (g : Frame) → Takes τ g (joined τ o run t).waiting (settled τ o run t).waiting → h g + total h (staying t) ≤ total h (all t)
  remaining_less h t g k = total_part h (g ∷ staying t) (all t) ((λ m. begun τ o run legal sane.period t g k (rival_waits (suc t) g (remains t g m).0)), remaining_once t) sub
    where
      sub : (x : Frame) → x ∈ (g ∷ staying t) → x ∈ all t
      sub x (Memᴰ.head e) = rw e (K.winner g (joined τ o run t).waiting (settled τ o run t).waiting k)
      sub x (Memᴰ.tail m) = (remains t x m).1

  pub rivals_next : (h : Frame → ℕ) (t : ℕ) → total h (all (suc t)) ≡ total h (staying t) + total h (new (suc t))
  unfolding remaining fresh
  rivals_next h t = total_parts (λ y. in? y (all t)) h (all (suc t))
