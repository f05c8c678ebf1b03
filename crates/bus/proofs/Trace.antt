-- What holds of every run: where the frames that wait come from, that they keep their distance, that what has left a queue does not come
-- back, and that what has begun is sent.
-- Assumes nothing.
use Prim.Native.Nat.{ℕ, zero, suc, ◌+◌, ◌-◌, ◌≤◌, ◌<◌}
use Rattle.std.proofs.Math.Decide.{ℕ_discrete}
use native.Mathlib.Omega.{arith}
use Rattle.std.specs.Prelude.{◌≡◌, ◌⊎◌}
use Rattle.std.proofs.Math.Path.{refl, ap, subst}
use Rattle.std.proofs.Common.{sym, ◌∙◌, inl, inr}
use mathlib.Core.List.Memᴰ
use mathlib.Core.List.{List, [], ◌∷◌, ◌++◌, append_assoc}
use Rattle.order.specs.Table.{Table}
use Rattle.bus.specs.Model.{Frame, Run, State, Bus, Sent, free, sending, ◌∈◌, during, frames, queue, pass_on, pass, join, step, state, Apart, Spaced, Licensed, Legal}
use Rattle.bus.specs.Frames.{total}
use Rattle.bus.specs.Compete.{Takes, here, there, Turn, rests, begins}
use Rattle.bus.specs.Trace.{left, joined, settled, window}
use Rattle.bus.proofs.Frames.{total_append}
use Rattle.bus.proofs.Spacing.{spaced_left, spaced_right, not_apart}
use Rattle.bus.proofs.Compete.{turn, takes_from, takes_in}

-- ---- one bit passes

pass_waiting : (t : ℕ) (b : Bus) (s : State) → (pass_on t b s).waiting ≡ s.waiting
unfolding pass_on
pass_waiting t free s = refl
pass_waiting t (sending f zero) s = refl
pass_waiting t (sending f (suc l)) s = refl

pass_left : (t : ℕ) (b : Bus) (s : State) → s.bus ≡ b → left (pass_on t b s).bus ≡ left b - 1
unfolding pass_on
pass_left t free s e = ap left e
pass_left t (sending f zero) s e = refl
pass_left t (sending f (suc l)) s e = omega arith

pass_log : (t : ℕ) (b : Bus) (s : State) (x : Sent) → x ∈ s.log → x ∈ (pass_on t b s).log
unfolding pass_on
pass_log t free s x m = m
pass_log t (sending f zero) s x m = Memᴰ.tail m
pass_log t (sending f (suc l)) s x m = m

pass_last : (t : ℕ) (b : Bus) (s : State) (f : Frame) → b ≡ sending f 0 → record { frame = f; at = suc t } ∈ (pass_on t b s).log
unfolding pass_on
pass_last t b s f e = rw e (Memᴰ.head refl)

pass_bus : (t : ℕ) (b : Bus) (s : State) (f : Frame) (l : ℕ) → b ≡ sending f (suc l) → (pass_on t b s).bus ≡ sending f l
unfolding pass_on
pass_bus t b s f l e = rw e

-- ---- one frame is taken

module _ (τ : Table) where
  -- what is left is as spaced as it was
  spaced_takes : (g : Frame) (z : List Frame) {w w' : List Frame} → Takes τ g w w' → Spaced τ (w ++ z) → Spaced τ (w' ++ z)
  spaced_takes g z (here e) sp = sp.1
  spaced_takes g z (there {w = w} {w' = w'} ne t) sp = (λ y m. sp.0 y (lift y (Memᴰ.append_cases w' m)), spaced_takes g z t sp.1)
    where
      lift : (y : Frame) → (y ∈ w') ⊎ (y ∈ z) → y ∈ (w ++ z)
      lift y (inl m) = Memᴰ.append_left z (takes_from τ g y t m)
      lift y (inr m) = Memᴰ.append_right w m

  -- and has it no more
  taken_out : (g : Frame) → 1 ≤ τ.T g.row → {w w' : List Frame} → Takes τ g w w' → Spaced τ w → g ∈ w' → ⊥
  taken_out g t (here e) sp m = not_apart τ g t (subst (λ (y : Frame). Apart τ y g) (sym e) (sp.0 g m (ap (λ (f : Frame). f.row) (sym e))))
  taken_out g t (there ne k) sp (Memᴰ.head e) = ne (ap (queue τ) (sym e))
  taken_out g t (there ne k) sp (Memᴰ.tail m) = taken_out g t k sp.1 m

-- ---- one bit time after another

module _ (τ : Table) (o : List ℕ) (run : Run) where
  pub next_waiting : (t : ℕ) → (joined τ o run (suc t)).waiting ≡ (settled τ o run t).waiting ++ during run (suc t)
  unfolding state step join pass
  next_waiting t = ap (λ (l : List Frame). l ++ during run (suc t)) (pass_waiting t (settled τ o run t).bus (settled τ o run t))

  pub next_left : (t : ℕ) → left (joined τ o run (suc t)).bus ≡ left (settled τ o run t).bus - 1
  unfolding state step join pass
  next_left t = pass_left t (settled τ o run t).bus (settled τ o run t) refl

  pub joins : (t : ℕ) (x : Frame) → x ∈ during run t → x ∈ (joined τ o run t).waiting
  unfolding join
  joins t x m = Memᴰ.append_right (state τ o run t).waiting m

  -- what waits after the competition waited before it
  pub still : (t : ℕ) (x : Frame) → x ∈ (settled τ o run t).waiting → x ∈ (joined τ o run t).waiting
  still t x m = go (turn τ o (joined τ o run t))
    where
      go : Turn τ o (joined τ o run t) (settled τ o run t) → x ∈ (joined τ o run t).waiting
      go (rests _ e) = subst (λ (s : State). x ∈ s.waiting) e m
      go (begins g b k v c s) = takes_from τ g x k m

  -- ---- the log only grows
  log_next : (t : ℕ) (x : Sent) → x ∈ (state τ o run t).log → x ∈ (state τ o run (suc t)).log
  unfolding state step join pass
  log_next t x m = pass_log t (settled τ o run t).bus (settled τ o run t) x (go (turn τ o (joined τ o run t)))
    where
      go : Turn τ o (joined τ o run t) (settled τ o run t) → x ∈ (settled τ o run t).log
      go (rests _ e) = subst (λ (s : State). x ∈ s.log) (sym e) m
      go (begins g b k v c s) = subst (λ (l : List Sent). x ∈ l) (sym s) m

  pub log_later : (k t u : ℕ) (x : Sent) → t + k ≡ u → x ∈ (state τ o run t).log → x ∈ (state τ o run u).log
  log_later zero t u x e m = subst (λ (j : ℕ). x ∈ (state τ o run j).log) (omega arith) m
  log_later (suc k) t u x e m = log_later k (suc t) u x (omega arith) (log_next t x m)

  -- ---- what holds the bus is sent
  last_bit : (t : ℕ) (f : Frame) → (settled τ o run t).bus ≡ sending f 0 → record { frame = f; at = suc t } ∈ (state τ o run (suc t)).log
  unfolding state step join pass
  last_bit t f b = pass_last t (settled τ o run t).bus (settled τ o run t) f b

  held : (t l : ℕ) (f : Frame) → (settled τ o run t).bus ≡ sending f (suc l) → (joined τ o run (suc t)).bus ≡ sending f l
  unfolding state step join pass
  held t l f b = pass_bus t (settled τ o run t).bus (settled τ o run t) f l b

  no_interruption : (t l : ℕ) (f : Frame) → (joined τ o run t).bus ≡ sending f l → (settled τ o run t).bus ≡ sending f l
  no_interruption t l f b = go (turn τ o (joined τ o run t))
    where
      go : Turn τ o (joined τ o run t) (settled τ o run t) → (settled τ o run t).bus ≡ sending f l
      go (rests _ e) = ap (λ (s : State). s.bus) e ∙ b
      go (begins g q _ _ _ _) = absurd (let z : ◌≡◌ {A = ℕ} 0 (suc l) = ap left (sym q ∙ b) in omega arith)

  pub will_be_sent : (l t u : ℕ) (f : Frame) → t + suc l ≡ u → (settled τ o run t).bus ≡ sending f l → record { frame = f; at = u } ∈ (state τ o run u).log
  will_be_sent zero t u f e b = subst (λ (j : ℕ). record { frame = f; at = j } ∈ (state τ o run j).log) (omega arith) (last_bit t f b)
  will_be_sent (suc l) t u f e b = will_be_sent l (suc t) u f (omega arith) (no_interruption (suc t) l f (held t l f b))

-- ---- what comes in a stretch of time

module _ (by : ℕ → List Frame) where
  pub in_window : (d s : ℕ) (x : Frame) → x ∈ window by s d → (u : ℕ) × (s ≤ u) × (u < s + d) × (x ∈ by u)
  unfolding window
  in_window zero s x m = elim m [ ]
  in_window (suc d) s x m = go (Memᴰ.append_cases (by s) m) (λ k. in_window d (suc s) x k)
    where
      go : (x ∈ by s) ⊎ (x ∈ window by (suc s) d) → (x ∈ window by (suc s) d → (u : ℕ) × (suc s ≤ u) × (u < suc s + d) × (x ∈ by u))
          → (u : ℕ) × (s ≤ u) × (u < s + suc d) × (x ∈ by u)
      go (inl k) ih = (s, omega arith, omega arith, k)
      go (inr k) ih = let y = ih k in (y.0, omega (arith, y.1), omega (arith, y.2), y.3)

  pub into_window : (d s u : ℕ) (x : Frame) → s ≤ u → u < s + d → x ∈ by u → x ∈ window by s d
  unfolding window
  into_window zero s u x a b m = absurd (omega arith)
  into_window (suc d) s u x a b m = go (ℕ_discrete u s) (λ k. into_window d (suc s) u x k (omega arith) m)
    where
      go : Dec (u ≡ s) → (suc s ≤ u → x ∈ window by (suc s) d) → x ∈ (by s ++ window by (suc s) d)
      go (yes e) ih = Memᴰ.append_left (window by (suc s) d) (subst (λ (j : ℕ). x ∈ by j) e m)
      go (no e) ih = Memᴰ.append_right (by s) (ih (omega arith))

  -- one bit time more
  pub window_more : (h : Frame → ℕ) (d s u : ℕ) → s + d ≡ u → total h (window by s (suc d)) ≡ total h (window by s d) + total h (by u)
  unfolding window
  window_more h zero s u e =
      let q : total h (by s) ≡ total h (by u) = ap (λ (j : ℕ). total h (by j)) (omega arith) in
      omega (arith, total_append h (by s) [])
  window_more h (suc d) s u e =
      omega (arith, window_more h d (suc s) u (omega arith), total_append h (by s) (by (suc s) ++ window by (suc (suc s)) d), total_append h (by s) (window by (suc s) d))

-- a window from the start is where the run's frames begin
begins_with : (run : Run) (by : ℕ → List Frame) (d s : ℕ) → ((i : ℕ) → by (s + i) ≡ during run i) → (z : List Frame) × (frames run ≡ window by s d ++ z)
unfolding frames window
begins_with run by zero s is = (frames run, refl)
begins_with [] by (suc d) s is =
    let (z, e) = begins_with [] by d (suc s) (λ i. ap by (omega arith) ∙ is (suc i)) in
    let q : by s ≡ [] = ap by (omega arith) ∙ is 0 in
    (z, rw q e)
begins_with (fs ∷ run) by (suc d) s is =
    let (z, e) = begins_with run by d (suc s) (λ i. ap by (omega arith) ∙ is (suc i)) in
    let q : by s ≡ fs = ap by (omega arith) ∙ is 0 in
    (z, rw (q, append_assoc, e))

-- ---- legal runs

module _ (τ : Table) (o : List ℕ) (run : Run) (legal : Legal τ run) where
  -- a frame that waits was queued
  pub from : (t : ℕ) (x : Frame) → x ∈ (joined τ o run t).waiting → (u : ℕ) × (u ≤ t) × (x ∈ during run u)
  unfolding state join
  from zero x m = (0, omega arith, m)
  from (suc t) x m = go (Memᴰ.append_cases (settled τ o run t).waiting (rw (next_waiting τ o run t) at m)) (λ k. from t x k)
    where
      go : (x ∈ (settled τ o run t).waiting) ⊎ (x ∈ during run (suc t)) → (x ∈ (joined τ o run t).waiting → (u : ℕ) × (u ≤ t) × (x ∈ during run u)) → (u : ℕ) × (u ≤ suc t) × (x ∈ during run u)
      go (inl k) ih = let y = ih (still τ o run t x k) in (y.0, omega (arith, y.1), y.2)
      go (inr k) ih = (suc t, omega arith, k)

  pub queued_by : (t : ℕ) (x : Frame) → x ∈ (joined τ o run t).waiting → x.queued ≤ t
  queued_by t x m = let y = from t x m in omega (arith, y.1, (legal.licensed y.0 x y.2).queued_at)

  pub lawful : (t : ℕ) (x : Frame) → x ∈ (joined τ o run t).waiting → Licensed τ x.queued x
  lawful t x m = let y = from t x m in let z = legal.licensed y.0 x y.2 in subst (λ (j : ℕ). Licensed τ j x) (sym z.queued_at) z

  pub spaced_start : (d : ℕ) → Spaced τ (window (during run) 0 d)
  spaced_start d =
      let x = begins_with run (during run) d 0 (λ i. ap (during run) (omega arith)) in
      spaced_left τ (window (during run) 0 d) x.0 (subst (Spaced τ) x.1 legal.spaced)

  pub spaced_window : (s d : ℕ) → Spaced τ (window (during run) s d)
  unfolding window
  spaced_window zero d = spaced_start d
  spaced_window (suc s) d = spaced_right τ (during run s) (window (during run) (suc s) d) (spaced_window s (suc d))

  -- what waits, and what comes after
  spaced_from : (t d : ℕ) → Spaced τ ((joined τ o run t).waiting ++ window (during run) (suc t) d)
  unfolding state join window
  spaced_from zero d = spaced_start (suc d)
  spaced_from (suc t) d = rw (next_waiting τ o run t, append_assoc) (go (turn τ o (joined τ o run t)) (spaced_from t (suc d)))
    where
      go : Turn τ o (joined τ o run t) (settled τ o run t) → Spaced τ ((joined τ o run t).waiting ++ (during run (suc t) ++ window (during run) (suc (suc t)) d))
          → Spaced τ ((settled τ o run t).waiting ++ (during run (suc t) ++ window (during run) (suc (suc t)) d))
      go (rests _ e) sp = subst (λ (s : State). Spaced τ (s.waiting ++ (during run (suc t) ++ window (during run) (suc (suc t)) d))) (sym e) sp
      go (begins g b k v c s) sp = spaced_takes τ g _ k sp

  pub spaced_waiting : (t : ℕ) → Spaced τ (joined τ o run t).waiting
  spaced_waiting t = spaced_left τ (joined τ o run t).waiting (window (during run) (suc t) 0) (spaced_from t 0)

  -- ---- what has begun waits no more
  module _ (period : (k : ℕ) → k < τ.n → 1 ≤ τ.T k) where
    pub begun : (u : ℕ) (f : Frame) → Takes τ f (joined τ o run u).waiting (settled τ o run u).waiting → f ∈ (joined τ o run (suc u)).waiting → ⊥
    begun u f k i = elim (Memᴰ.append_cases (settled τ o run u).waiting (rw (next_waiting τ o run u) at i)) [
      | inl j ↦ taken_out τ f (period f.row (lawful u f (takes_in τ f k)).row_is) k (spaced_waiting u) j
      | inr j ↦ omega (arith, (legal.licensed (suc u) f j).queued_at, queued_by u f (takes_in τ f k))
    ]

    -- once gone it does not come back
    gone : (k t u : ℕ) (f : Frame) → t + k ≡ u → f.queued ≤ t → (f ∈ (joined τ o run t).waiting → ⊥) → f ∈ (joined τ o run u).waiting → ⊥
    gone zero t u f e q n m = n (subst (λ (j : ℕ). f ∈ (joined τ o run j).waiting) (omega arith) m)
    gone (suc k) t u f e q n m = gone k (suc t) u f (omega arith) (omega arith) next m
      where
        next : f ∈ (joined τ o run (suc t)).waiting → ⊥
        next m = elim (Memᴰ.append_cases (settled τ o run t).waiting (rw (next_waiting τ o run t) at m)) [
          | inl i ↦ n (still τ o run t f i)
          | inr i ↦ omega (arith, (legal.licensed (suc t) f i).queued_at)
        ]

    pub never_again : (u t : ℕ) (f : Frame) → Takes τ f (joined τ o run u).waiting (settled τ o run u).waiting → u < t → f ∈ (joined τ o run t).waiting → ⊥
    never_again u t f k h = gone (t - suc u) (suc u) t f (omega arith) (omega (arith, queued_by u f (takes_in τ f k))) (begun u f k)
