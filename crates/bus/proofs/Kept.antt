-- Demand 3 on numbers: a band that passes keeps its figure in every legal run, whatever the verdicts on the other bands are. The promises are in
-- specs/Kept.antt.
-- Assumes nothing.
use Rattle.std.specs.Prelude.{ℕ, suc, ◌+◌, ◌≤◌, ◌<◌, ◌≡◌, refl, ◌⊎◌, not, List, [], ◌∷◌, length, take, drop, T as Is}
use Rattle.std.proofs.Common.{le_of_eq, arith, sym, ap, ◌∙◌, subst, inl, inr, eqb→eq}
use Rattle.std.proofs.Math.Decide.{ℕ_discrete}
use mathlib.Core.List.Memᴰ
use Rattle.sums.specs.MaskLaws.{and_left, and_right}
use Rattle.sums.specs.Columns.{at}
use Rattle.sums.specs.Sums.{demand}
use Rattle.sums.specs.Laws.{demand_same}
use Rattle.order.specs.Table.{Table, MIN, base}
use Rattle.order.specs.Orders.{mem, Order, Together, key_at, own, above, below, FigureAt}
use Rattle.order.specs.Lists.{mem_cases, mem_nil, mem_get_or, one_place}
use Rattle.order.specs.Places.{take_at, drop_at}
use Rattle.order.specs.Bands.{not_band}
use Rattle.bus.specs.Model.{Frame, Run, ◌∈◌, if, during, place, SentAt, Legal, Sane}
use Rattle.bus.specs.Compete.{Led}
use Rattle.bus.specs.Competing.{Competes}
use Rattle.bus.specs.Enough.{longest, Enough, Clear}
use Rattle.bus.specs.Kept.{Kept, KeptEarly}
use Rattle.bus.proofs.Compete.{takes_in, takes_else}
use Rattle.bus.proofs.Serve.{served}

-- ---- where the order keeps queues together, all that waits may be taken to compete

all_compete : (τ : Table) → Competes τ (λ w. w)
all_compete τ = record {
  part = λ w x m. m;
  spaced = λ w sp. sp;
  winner = λ g w w' t. takes_in τ g t;
  stays = λ g x w w' t m. takes_else τ g x t m;
  behind = λ w z x m. Memᴰ.append_left z m;
}

-- a row stands at its place
placed : (o : List ℕ) (k : ℕ) → Is (mem o k) → (place o k < length o) × (at o (place o k) ≡ k)
unfolding place
placed [] k h = absurd (mem_nil k h)
placed (x ∷ o) k h = go (ℕ_discrete k x) (mem_cases x o k h) (placed o k)
  where
    go : (d : Dec (k ≡ x)) → (k ≡ x) ⊎ Is (mem o k) → (Is (mem o k) → (place o k < length o) × (at o (place o k) ≡ k))
        → (if d 0 (suc (place o k)) < suc (length o)) × (at (x ∷ o) (if d 0 (suc (place o k))) ≡ k)
    go (yes e) m ih = (omega arith, sym e)
    go (no n) (inl e) ih = absurd (n e)
    go (no n) (inr m) ih = let y = ih m in (omega (arith, y.0), y.1)

module _ (τ : Table) (o : List ℕ) (ord : Order τ o) (tog : Together τ o) where
  stands : (k : ℕ) → k < τ.n → (place o k < length o) × (at o (place o k) ≡ k)
  stands k l = placed o k (ord.every k l)

  place_at : (j k : ℕ) → j < length o → at o j ≡ k → place o k ≡ j
  place_at j k l e = let y = placed o k (subst (λ (x : ℕ). Is (mem o x)) e (mem_get_or o j l)) in one_place o (place o k) j ord.once y.0 l (y.1 ∙ sym e)

  module _ (p : ℕ) where
    above_place : (k : ℕ) → Is (above τ o p k) → place o k < p
    above_place k h = let (j, b, l, e) = take_at o p k (and_left (mem (take p o) k) (not (own τ o p k)) h) in omega (arith, place_at j k l e)

    below_place : (k : ℕ) → Is (below τ o p k) → p < place o k
    below_place k h = let (j, b, l, e) = drop_at o p k (and_left (mem (drop (suc p) o) k) (not (own τ o p k)) h) in omega (arith, place_at j k l e)

    -- a frame below the band wins only where the heads of all queues stand below the place p, and then no band with a row there or above it waits
    all_clear : Clear τ o (λ w. w) p
    all_clear g w win rows gn b x m = (mine, λ _. up)
      where
        led : Led τ o g x w
        led = win x m

        h : ℕ
        h = led.head.row

        at_h : (place o h < length o) × (at o (place o h) ≡ h)
        at_h = stands h (rows led.head led.waits)

        past : p < place o g.row
        past = below_place g.row b

        g_key : key_at τ o (place o g.row) ≡ key_at τ o p → ⊥
        g_key e = not_band τ (key_at τ o p) g.row (and_right (mem (drop (suc p) o) g.row) (not (own τ o p g.row)) b) (ap τ.key (sym (stands g.row gn).1) ∙ e)

        h_key : key_at τ o (place o h) ≡ τ.key x.row
        h_key = ap τ.key at_h.1 ∙ led.same

        mine : Is (own τ o p x.row) → ⊥
        mine i =
            let e : key_at τ o p ≡ key_at τ o (place o h) = sym (eqb→eq (τ.key x.row) (key_at τ o p) i) ∙ sym h_key in
            elim (ℕ_discrete (place o g.row) (place o h)) [
              | yes q ↦ g_key (ap (key_at τ o) q ∙ sym e)
              | no q ↦ g_key (tog p (place o g.row) (place o h) past (omega (arith, led.lower)) at_h.0 e)
            ]

        up : Is (above τ o p x.row) → ⊥
        up i =
            let y = stands x.row (rows x m) in
            let e : key_at τ o (place o x.row) ≡ key_at τ o (place o h) = ap τ.key y.1 ∙ sym h_key in
            not_band τ (key_at τ o p) x.row (and_right (mem (take p o) x.row) (not (own τ o p x.row)) i)
            (ap τ.key (sym y.1) ∙ sym (tog (place o x.row) p (place o h) (above_place x.row i) (omega (arith, past, led.lower)) at_h.0 e))

    served_alone : (run : Run) → Legal τ run → Sane τ → (w : ℕ) → Enough τ o (λ k. 0) p w → (q : ℕ) (f : Frame) → f ∈ during run q → Is (own τ o p f.row) → q + w + MIN τ (own τ o p) ≤ suc (length run)
        → (e : ℕ) × (e < q + w + MIN τ (own τ o p)) × SentAt τ o run f e
    served_alone run legal sane w enough q f m h l =
        served τ sane o ord run legal (λ v. v) (all_compete τ) (λ k. 0) (λ i. i ≡ p) (λ i. w) (λ i e. rw e enough) (λ i e. rw e all_clear) (λ t so x i n. absurd (n i)) p refl q f m h l

-- the least solution is enough
enough_of : (τ : Table) (o : List ℕ) (p : ℕ) → p < length o → {R : ℕ} (r : FigureAt τ o p R) → Enough τ o (λ k. 0) p r.w
unfolding longest base demand
enough_of τ o p inside r =
    let no_delay = demand_same τ.n τ.C τ.T (λ k. τ.J k + 0) τ.C τ.T τ.J (base τ (own τ o p) (below τ o p)) (base τ (own τ o p) (below τ o p)) (above τ o p) (above τ o p)
    refl (λ k l. refl) (λ k l. (refl, refl, omega arith)) r.w
    in record { inside = inside; room = le_of_eq (no_delay ∙ r.least.solves); within = omega (arith, r.is, r.within) }

pub kept_early : KeptEarly
kept_early τ sane o ord tog run legal p R inside r q f m h l =
    let (e, b, s) = served_alone τ o ord tog p run legal sane r.w (enough_of τ o p inside r) q f m h (omega (arith, r.is)) in
    (e, omega (arith, r.is), s)

pub kept : Kept
kept τ sane o ord tog run legal p R inside r q f m h l =
    let (e, b, s) = kept_early τ sane o ord tog run legal p R inside r q f m h (omega arith) in
    (e, omega arith, s)
