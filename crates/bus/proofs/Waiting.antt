-- The bits ahead of a band: those left on the bus, those of the frames above that compete, and the longest lengths of the band's own frames
-- that wait. As long as the bus has been busy for the band's sake fewer are ahead than the equation allows for. This is for one band; what
-- may delay a frame above on its way to competing (f) is taken as known here, and comes from all bands together in Serve.
-- Assumes nothing.
use Prim.Native.Nat.{ℕ, zero, suc, ◌+◌, ◌-◌, ◌≤◌, ◌<◌}
use Rattle.std.proofs.Math.Decide.{ℕ_discrete, dec_le}
use native.Mathlib.Omega.{arith}
use Rattle.std.specs.Prelude.{◌≡◌, refl, ◌⊎◌, not, T as Is}
use Rattle.std.proofs.Math.Path.{ap}
use Rattle.std.proofs.Common.{◌∙◌, subst, inl, inr, T_not}
use mathlib.Core.List.Memᴰ
use mathlib.Core.List.{List, [], ◌∷◌}
use Rattle.sums.specs.MaskLaws.{which}
use Rattle.order.specs.Table.{Table, MIN}
use Rattle.order.specs.Orders.{Order, own}
use Rattle.bus.specs.Model.{Frame, Run, State, ◌∈◌, during, state, join, Licensed, Legal, Sane}
use Rattle.bus.specs.Frames.{total}
use Rattle.bus.specs.Compete.{Takes, busy, idle, Turn, rests, begins, Wins}
use Rattle.bus.specs.Trace.{left, joined, settled, window}
use Rattle.bus.specs.Competing.{Competes, rivals, fresh, remaining, Prompt}
use Rattle.bus.specs.Enough.{longest, Enough, Clear, Side, bits, most}
use Rattle.bus.specs.Coming.{coming, own_coming}
use Rattle.bus.proofs.Frames.{total_append, total_zero, total_in}
use Rattle.bus.proofs.Compete.{turn, takes_in, takes_total}
use Rattle.bus.proofs.Trace.{next_waiting, next_left, still, lawful, window_more}
use Rattle.bus.proofs.Competing.{rival_waits, remaining_le, remaining_less, rivals_next}
use Rattle.bus.proofs.Enough.{side, long_below, short_own, longest_most, bits_above, no_bits, most_own, no_most}
use Rattle.bus.proofs.Coming.{coming_most, own_coming_most}

module _ (τ : Table) (sane : Sane τ) (o : List ℕ) (ord : Order τ o) (run : Run) (legal : Legal τ run) (comp : List Frame → List Frame) (K : Competes τ comp)
    (f : ℕ → ℕ) (p w : ℕ) (enough : Enough τ o f p w) (clear : Clear τ o comp p) where
  abbrev M : ℕ
  M = longest τ o p

  abbrev mine : Frame → ℕ
  mine = most τ o p

  abbrev higher : Frame → ℕ
  higher = bits τ o p

  abbrev vying : ℕ → List Frame
  vying = rivals τ o run comp

  abbrev new : ℕ → List Frame
  new = fresh τ o run comp

  abbrev staying : ℕ → List Frame
  staying = remaining τ o run comp

  abbrev come : (s d : ℕ) → ℕ
  come = coming τ o run comp p

  abbrev own_come : (s d : ℕ) → ℕ
  own_come = own_coming τ o run p

  M_most : (1 ≤ M) × (MIN τ (own τ o p) ≤ M)
  M_most = longest_most τ o p sane ord enough.inside

  -- ---- the bits ahead, when the frames of bit time t have joined and after the competition

  ahead : ℕ → ℕ
  ahead t = left (joined τ o run t).bus + total higher (vying t) + total mine (joined τ o run t).waiting

  left_ahead : ℕ → ℕ
  left_ahead t = left (settled τ o run t).bus + total higher (staying t) + total mine (settled τ o run t).waiting

  ahead_next : (t : ℕ) → ahead (suc t) ≡ (left (settled τ o run t).bus - 1) + total higher (staying t) + total mine (settled τ o run t).waiting + total higher (new (suc t)) + total mine (during run (suc t))
  unfolding ahead
  ahead_next t = omega (
    arith,
    next_left τ o run t,
    rivals_next τ sane o run legal comp K higher t,
    ap (total mine) (next_waiting τ o run t),
    total_append mine (settled τ o run t).waiting (during run (suc t)),
  )

  -- either nothing of the band waits and few bits are ahead, or a bit passes and no more are ahead than were
  Turned : ℕ → Type 0
  Turned t = ((left (settled τ o run t).bus - 1 + total higher (staying t) < M) × (total mine (settled τ o run t).waiting ≡ 0)) ⊎ ((1 ≤ left (settled τ o run t).bus) × (left_ahead t ≤ ahead t))

  turned : (t : ℕ) → Turned t
  unfolding Turned left_ahead ahead
  turned t = go (turn τ o (joined τ o run t))
    where
      rows : (x : Frame) → x ∈ (joined τ o run t).waiting → x.row < τ.n
      rows x m = (lawful τ o run legal t x m).row_is

      fewer : (h : Frame → ℕ) → total h (staying t) ≤ total h (vying t)
      fewer h = remaining_le τ sane o run legal comp K h t

      begin : (g : Frame) → Takes τ g (joined τ o run t).waiting (settled τ o run t).waiting → Wins τ o g (joined τ o run t).waiting
          → left (settled τ o run t).bus ≡ g.len → Licensed τ g.queued g → Side τ o p g.row → Turned t
      begin g k win c z (inl h) =
          let a = most_own τ o p g h in
          inr (omega (arith, z.len_least), omega (arith, z.len_most, fewer higher, takes_total τ mine g k))
      begin g k win c z (inr (inl h)) =
          let a : higher g ≡ g.len = bits_above τ o p g h in
          inr (omega (arith, z.len_least), omega (arith, remaining_less τ sane o run legal comp K higher t g k, takes_total τ mine g k))
      begin g k win c z (inr (inr h)) =
          let cl = clear g (joined τ o run t).waiting win rows z.row_is h in
          let a : total higher (vying t) ≡ 0 = total_zero higher (vying t) (λ x m. no_bits τ o p x ((cl x (rival_waits τ sane o run legal comp K t x m)).1 m)) in
          let b : total mine (joined τ o run t).waiting ≡ 0 = total_zero mine (joined τ o run t).waiting (λ x m. no_most τ o p x (cl x m).0) in
          let l = long_below τ o p g.row z.row_is h in
          inl (omega (arith, z.len_least, z.len_most, fewer higher), omega (arith, takes_total τ mine g k))

      go : Turn τ o (joined τ o run t) (settled τ o run t) → Turned t
      go (rests (busy g l b) e) = inr (omega (arith, ap (λ (z : State). left z.bus) e, ap left b), omega (arith, ap (λ (z : State). left z.bus + total mine z.waiting) e, fewer higher))
      go (rests (idle b n) e) =
          let a : total higher (vying t) ≡ 0 = total_zero higher (vying t) (λ x m. absurd (elim (subst (λ (z : List Frame). x ∈ z) n (rival_waits τ sane o run legal comp K t x m)) [ ])) in
          let q : total mine (settled τ o run t).waiting ≡ 0 = ap (λ (z : State). total mine z.waiting) e ∙ ap (total mine) n in
          inl (omega (arith, ap (λ (z : State). left z.bus) e, ap left b, fewer higher, M_most), q)
      go (begins g b k win c s) = let z = lawful τ o run legal t g (takes_in τ g k) in begin g k win (omega (arith, ap left c, z.len_least)) z (side τ o ord p g.row z.row_is)

  -- ---- the band's turn has been coming since time s, for less than w: the bus has been busy since, all that waits of the band was queued since,
  -- and what is ahead is less than what there was and what has come

  record Coming (t : ℕ) : Type 0 where
    s : ℕ
    d : ℕ
    now : s + d ≡ t
    short : d < w
    since : (x : Frame) → x ∈ (joined τ o run t).waiting → Is (own τ o p x.row) → s ≤ x.queued
    fewer : ahead t + d < M + come s (suc d) + own_come s (suc d)

  -- so the equation has room for it
  few : (t : ℕ) → Prompt τ o run comp f (suc t) → (l : Coming t) → ahead t + l.d < w + MIN τ (own τ o p)
  few t prompt l =
      let a = own_coming_most τ sane o run legal p w enough.within l.s (suc l.d) l.short in
      let b = coming_most τ sane o run legal p w comp K f l.s (suc l.d) l.short (λ u h. prompt u (omega (arith, l.now))) in
      omega (arith, l.fewer, enough.room)

  w_pos : 0 < w
  w_pos = omega (arith, enough.room, M_most)

  -- of the band nothing waits, or at least its shortest length
  none_mine : (l : List Frame) → total mine l ≡ 0 → ((x : Frame) → x ∈ l → x.row < τ.n) → (x : Frame) → x ∈ l → Is (own τ o p x.row) → ⊥
  none_mine l z rows x m h = omega (arith, total_in mine x l m, most_own τ o p x h, sane.some_bits x.row (rows x m))

  some_mine : (l : List Frame) → ((x : Frame) → x ∈ l → x.row < τ.n) → 1 ≤ total mine l → MIN τ (own τ o p) ≤ total mine l
  some_mine [] rows h = absurd (omega arith)
  some_mine (x ∷ l) rows h = go (which (own τ o p x.row)) (some_mine l (λ y m. rows y (Memᴰ.tail m)))
    where
      go : Is (own τ o p x.row) ⊎ Is (not (own τ o p x.row)) → (1 ≤ total mine l → MIN τ (own τ o p) ≤ total mine l) → MIN τ (own τ o p) ≤ mine x + total mine l
      go (inl q) ih = omega (arith, short_own τ o p x.row (rows x (Memᴰ.head refl)) q, most_own τ o p x q)
      go (inr q) ih = let z = no_most τ o p x (T_not (own τ o p x.row) q) in omega (arith, ih (omega arith))

  coming_next : (t : ℕ) → Prompt τ o run comp f (suc t) → Coming t → Coming (suc t)
  unfolding left_ahead Turned coming own_coming
  coming_next t prompt l = go (turned t)
    where
      rows : (x : Frame) → x ∈ (settled τ o run t).waiting → x.row < τ.n
      rows x m = (lawful τ o run legal t x (still τ o run t x m)).row_is

      afresh : left (settled τ o run t).bus - 1 + total higher (staying t) < M → total mine (settled τ o run t).waiting ≡ 0 → Coming (suc t)
      afresh a z =
          record {
            s = suc t;
            d = 0;
            now = omega arith;
            short = w_pos;
            since = λ x m h. elim (Memᴰ.append_cases (settled τ o run t).waiting (rw (next_waiting τ o run t) at m)) [
              | inl i ↦ absurd (none_mine (settled τ o run t).waiting z rows x i h)
              | inr i ↦ omega (arith, (legal.licensed (suc t) x i).queued_at)
            ];
            fewer = omega (arith, ahead_next t, window_more new higher 0 (suc t) (suc t) (omega arith), window_more (during run) mine 0 (suc t) (suc t) (omega arith));
          }

      on : 1 ≤ left (settled τ o run t).bus → left_ahead t ≤ ahead t → MIN τ (own τ o p) < left_ahead t → Coming (suc t)
      on h le big =
          let e : l.s + suc l.d ≡ suc t = omega (arith, l.now) in
          record {
            s = l.s;
            d = suc l.d;
            now = e;
            short = omega (arith, few t prompt l);
            since = λ x m q. elim (Memᴰ.append_cases (settled τ o run t).waiting (rw (next_waiting τ o run t) at m)) [
              | inl i ↦ l.since x (still τ o run t x i) q
              | inr i ↦ omega (arith, (legal.licensed (suc t) x i).queued_at)
            ];
            fewer = omega (arith, ahead_next t, l.fewer, window_more new higher (suc l.d) l.s (suc t) e, window_more (during run) mine (suc l.d) l.s (suc t) e);
          }

      go : Turned t → Coming (suc t)
      go (inl (a, z)) = afresh a z
      go (inr (h, le)) = elim (ℕ_discrete (total mine (settled τ o run t).waiting) 0) [
        | yes z ↦ elim (dec_le (left_ahead t) M) [
          | yes a ↦ afresh (omega arith) z
          | no a ↦ on h le (omega (arith, M_most))
        ]
        | no n ↦ on h le (omega (arith, some_mine (settled τ o run t).waiting rows (omega arith)))
      ]

  coming_always : (t : ℕ) → Prompt τ o run comp f t → Coming t
  unfolding ahead coming own_coming fresh state join window
  coming_always zero prompt = record {
    s = 0;
    d = 0;
    now = omega arith;
    short = w_pos;
    since = λ x m h. omega arith;
    fewer = omega (arith, total_append higher (comp (during run 0)) [], total_append mine (during run 0) [], M_most);
  }
  coming_always (suc t) prompt = coming_next t prompt (coming_always t (λ u h. prompt u (omega arith)))

  -- what waits of the band begins in time
  pub in_time : (t : ℕ) → Prompt τ o run comp f (suc t) → (x : Frame) → x ∈ (joined τ o run t).waiting → Is (own τ o p x.row) → t + τ.C x.row < x.queued + w + MIN τ (own τ o p)
  unfolding ahead
  in_time t prompt x m h =
      let l = coming_always t (λ u i. prompt u (omega arith)) in
      omega (arith, few t prompt l, l.since x m h, l.now, total_in mine x (joined τ o run t).waiting m, most_own τ o p x h)
