-- The whole run of one key that a place is of, in an order that keeps queues together: its places are those of the band, the places before it
-- those above and the places behind it those below. So what is shown for a run stands for its rows. Assumes nothing.
use Rattle.std.specs.Prelude.{Option, Some, None}
use Prim.Native.Nat.{ℕ, suc, ◌-◌, ◌≤◌, ◌<◌}
use native.Mathlib.Decide.{dec_lt}
use native.Mathlib.Nat.{eq-or-lt_of_le}
use native.Mathlib.Omega.{arith}
use mathlib.Core.Path.{◌≡◌, refl, sym, ap, subst, ◌∙◌}
use mathlib.Core.Logic.{◌⊎◌, inl, inr}
use mathlib.Core.Bool.{not, ◌&&◌}
use mathlib.Core.List.{List}
use lib.ListN.{length, take, drop, length-take}
use lib.Seq.{get_or-take}
use lib.Dec.{T as Is, eqb→eq, T_not, not_T}
use Rattle.sums.specs.Masks.{run}
use Rattle.sums.specs.MaskLaws.{same_test, and_left, and_right, and_intro}
use Rattle.sums.specs.Sums.{max_over}
use Rattle.sums.specs.Runs.{run_here, run_from}
use Rattle.sums.specs.Columns.{at}
use Rattle.sums.specs.Least.{Fits}
use Rattle.order.specs.Table.{Table, B, FigureIs}
use Rattle.order.specs.Orders.{mem, Order, key_at, own, above, below}
use Rattle.order.specs.Lists.{mem_at, one_place}
use Rattle.order.specs.Places.{take_at, at_take, drop_at, at_drop, take_mem, no_repeat_take}
use Rattle.order.specs.Split.{order_of}
use Rattle.order.specs.Bands.{band_intro}
use Rattle.order.specs.Sheet.{VerdictIs, RunVerdict}
use Rattle.order.specs.Arranged.{own_max, run_verdict}
use Rattle.judge.specs.Judged.{ShownAt}
use Rattle.judge.specs.Walk.{Sound, shown_as, ShownRun}

-- the figure, or 0 for a late band
shows : (F : ℕ → ℕ) (m e : ℕ) (v : Option ℕ) → VerdictIs F m e v → FigureIs F m e (shown_as v) ⊎ ((Fits F m e → ⊥) × (shown_as v ≡ 0))
shows F m e (Some R) h = inl h
shows F m e None h = inr (h, refl)

-- the columns stand along the order, and R for place p
module _ (τ : Table) (o : List ℕ) (sound : Sound τ.n τ o) {c t j a keys : List ℕ} (is_C : (q : ℕ) → q < τ.n → at c q ≡ τ.C (at o q)) (is_T : (q : ℕ) → q < τ.n → at t q ≡ τ.T (at o q))
    (is_J : (q : ℕ) → q < τ.n → at j q ≡ τ.J (at o q)) (is_E : (q : ℕ) → q < τ.n → at a q ≡ τ.E (at o q)) (is_key : (q : ℕ) → q < τ.n → at keys q ≡ key_at τ o q)
    {p R : ℕ} (x : ShownRun τ.n c t j a keys p R) where
  abbrev s : ℕ
  s = x.s

  abbrev e : ℕ
  e = x.e

  ord : Order τ o
  ord = order_of τ o sound.count sound.entries

  -- the key of the run
  run_key : (q : ℕ) → s ≤ q → q < e → key_at τ o q ≡ at keys s
  run_key q l h = sym (is_key q (omega arith)) ∙ x.starts.one q l h

  one_key : (q : ℕ) → s ≤ q → q < e → key_at τ o q ≡ key_at τ o p
  one_key q l h = run_key q l h ∙ sym (run_key p x.from x.to)

  -- a place with the key of place p is of the run
  in_run : (q : ℕ) → q < τ.n → key_at τ o q ≡ key_at τ o p → (s ≤ q) × (q < e)
  in_run q l k = go (dec_lt q s) (dec_lt q e)
    where
      before : q < s → key_at τ o (s - 1) ≡ key_at τ o p
      before h = split (dec_lt q (s - 1))
        where
          split : Dec (q < s - 1) → key_at τ o (s - 1) ≡ key_at τ o p
          split (yes b) = sound.together q (s - 1) p b (omega arith) (omega (arith, sound.count)) k ∙ k
          split (no b) = ap (key_at τ o) (omega arith) ∙ k

      behind : e ≤ q → key_at τ o e ≡ key_at τ o p
      behind h = split (eq-or-lt_of_le h)
        where
          split : (e ≡ q) ⊎ (e < q) → key_at τ o e ≡ key_at τ o p
          split (inl b) = ap (key_at τ o) b ∙ k
          split (inr b) = sound.together p e q x.to b (omega (arith, sound.count)) (sym k)

      go : Dec (q < s) → Dec (q < e) → (s ≤ q) × (q < e)
      go (yes a) d = absurd (x.starts.first (omega arith) (is_key (s - 1) (omega arith) ∙ (before a ∙ run_key p x.from x.to)))
      go (no a) (yes b) = (omega arith, b)
      go (no a) (no b) = absurd (x.last (omega arith) (is_key e (omega arith) ∙ (behind (omega arith) ∙ run_key p x.from x.to)))

  own_here : (q : ℕ) → s ≤ q → q < e → Is (own τ o p (at o q))
  own_here q l h = band_intro τ (key_at τ o p) (at o q) (one_key q l h)

  own_run : (q : ℕ) → q < τ.n → Is (own τ o p (at o q)) → (s ≤ q) × (q < e)
  own_run q l h = in_run q l (eqb→eq (key_at τ o q) (key_at τ o p) h)

  -- the rows of the run and of the places before it
  abbrev front : List ℕ
  front = take e o

  front_length : length front ≡ e
  front_length = omega (arith, length-take e o, sound.count, x.inside)

  front_at : (q : ℕ) → q < e → at front q ≡ at o q
  front_at q l = get_or-take e o q 0 l

  front_here : (q : ℕ) → q < e → Is (mem front (at o q))
  front_here q l = at_take o e q l (omega (arith, sound.count, x.inside))

  -- the run's places are the band's
  run_own : (q : ℕ) → q < length front → run s e q ≡ own τ o p (at front q)
  run_own q b =
      let l : q < e = omega (arith, front_length) in
      rw (front_at q l) (same_test (run s e q) (own τ o p (at o q)) (λ h. own_here q (run_from s e q h) l) (λ h. run_here s e q (own_run q (omega (arith, x.inside)) h).0 l))

  own_front : (k : ℕ) → k < τ.n → Is (own τ o p k) → Is (mem front k)
  own_front k l h = go (mem_at o k (ord.every k l))
    where
      go : (q : ℕ) × (q < length o) × (at o q ≡ k) → Is (mem front k)
      go (q, b, is) = subst (λ (y : ℕ). Is (mem front y)) is (front_here q (own_run q (omega (arith, sound.count)) (subst (λ (y : ℕ). Is (own τ o p y)) (sym is) h)).1)

  -- those before it are above
  above_front : (k : ℕ) → k < τ.n → above τ o p k ≡ (mem front k && not (own τ o p k))
  above_front k l = same_test _ _ down up
    where
      down : Is (above τ o p k) → Is (mem front k && not (own τ o p k))
      down h = go (take_at o p k (and_left (mem (take p o) k) (not (own τ o p k)) h))
        where
          go : (q : ℕ) × (q < p) × (q < length o) × (at o q ≡ k) → Is (mem front k && not (own τ o p k))
          go (q, b, _, is) = and_intro (mem front k) (not (own τ o p k)) (subst (λ (y : ℕ). Is (mem front y)) is (front_here q (omega (arith, x.to)))) (and_right (mem (take p o) k) (not (own τ o p k)) h)

      up : Is (mem front k && not (own τ o p k)) → Is (above τ o p k)
      up h = go (take_at o e k (and_left (mem front k) (not (own τ o p k)) h))
        where
          other : Is (not (own τ o p k))
          other = and_right (mem front k) (not (own τ o p k)) h

          go : (q : ℕ) × (q < e) × (q < length o) × (at o q ≡ k) → Is (above τ o p k)
          go (q, b, i, is) = place (dec_lt q s)
            where
              place : Dec (q < s) → Is (above τ o p k)
              place (yes d) = and_intro (mem (take p o) k) (not (own τ o p k)) (subst (λ (y : ℕ). Is (mem (take p o) y)) is (at_take o p q (omega (arith, x.from)) i)) other
              place (no d) = absurd (T_not (own τ o p k) other (subst (λ (y : ℕ). Is (own τ o p y)) is (own_here q (omega arith) b)))

  -- and those behind it below
  run_below : (q : ℕ) → q < length o → run e τ.n q ≡ below τ o p (at o q)
  run_below q i = same_test _ _ down up
    where
      l : q < τ.n
      l = omega (arith, sound.count)

      down : Is (run e τ.n q) → Is (below τ o p (at o q))
      down h =
          let b = run_from e τ.n q h in
          and_intro (mem (drop (suc p) o) (at o q)) (not (own τ o p (at o q))) (at_drop o p q (omega (arith, x.to)) i)
          (not_T (own τ o p (at o q)) (λ t. let r = own_run q l t in absurd (omega (arith, r.1))))

      up : Is (below τ o p (at o q)) → Is (run e τ.n q)
      up h = go (drop_at o p (at o q) (and_left (mem (drop (suc p) o) (at o q)) (not (own τ o p (at o q))) h)) (dec_lt q e)
        where
          go : (r : ℕ) × (p < r) × (r < length o) × (at o r ≡ at o q) → Dec (q < e) → Is (run e τ.n q)
          go (r, b, w, is) (yes d) =
              let z = one_place o r q ord.once w i is in
              absurd (T_not (own τ o p (at o q)) (and_right (mem (drop (suc p) o) (at o q)) (not (own τ o p (at o q))) h) (own_here q (omega (arith, x.from)) d))
          go r (no d) = run_here e τ.n q (omega arith) l

  longest : max_over τ.n (run e τ.n) (at c) ≡ B τ (below τ o p)
  longest =
      ap (λ (y : ℕ). max_over y (run e τ.n) (at c)) (sym sound.count)
      ∙ own_max τ o ord.once ord.range (below τ o p) e τ.n run_below (λ k l h. ord.every k l) c τ.C (λ q l. is_C q (omega (arith, sound.count)))

  -- a column along the front
  along_front : (f : ℕ → ℕ) (column : List ℕ) → ((q : ℕ) → q < τ.n → at column q ≡ f (at o q)) → (q : ℕ) → q < length front → at column q ≡ f (at front q)
  along_front f column h q b = let l : q < e = omega (arith, front_length) in h q (omega (arith, x.inside)) ∙ ap f (sym (front_at q l))

  pub shown_there : ShownAt τ o p R
  shown_there =
      subst (ShownAt τ o p) (sym x.is)
      (shows _ _ _ x.verdict
      (run_verdict τ front (no_repeat_take o e ord.once) (λ k h. ord.range k (take_mem o e k h)) (own τ o p) s e run_own own_front c t j a
      (along_front τ.C c is_C) (along_front τ.T t is_T) (along_front τ.J j is_J) (along_front τ.E a is_E)
      (above τ o p) (below τ o p) _ above_front longest x.verdict
      (subst (λ (y : ℕ). RunVerdict y c t j a s e (max_over τ.n (run e τ.n) (at c)) x.verdict) (sym front_length) x.judged)))
