-- The rows that stand already: one band more keeps them so, and where no band is unplaced they are an order.
-- Assumes nothing.
use Rattle.std.specs.Prelude.{ℕ, ◌-◌, ◌≤◌, ◌<◌, ◌≡◌, ◌⊎◌, not, List, [], ◌++◌, length, T as Is}
use Rattle.std.proofs.Math.Decide.{dec_lt}
use Rattle.std.proofs.Common.{arith, sym, ap, ◌∙◌, inl, inr, length-append, T_not}
use Rattle.sums.specs.Masks.{Mask, None}
use Rattle.sums.specs.Columns.{at}
use Rattle.sums.specs.MaskLaws.{which}
use Rattle.order.specs.Table.{Table, band}
use Rattle.order.specs.Orders.{mem, Order, key_at, Together}
use Rattle.order.specs.Lists.{mem_nil, mem_get_or}
use Rattle.finder.specs.Placing.{rising, unplaced, placing}
use Rattle.finder.specs.Rising.{mem_left, mem_right, mem_append, at_left, at_right, pairs_append, no_repeat_append, rising_rises, rising_once}
use Rattle.finder.specs.Leading.{leader, band_rows_elim, band_rows_intro, unplaced_intro, unplaced_out}
use Rattle.finder.specs.Standing.{Standing}

-- rows of the band x, put before rows of others
together_append : (τ : Table) (s t : List ℕ) (x : ℕ) → ((k : ℕ) → Is (mem s k) → τ.key k ≡ x) → ((k : ℕ) → Is (mem t k) → τ.key k ≡ x → ⊥)
    → Together τ t → Together τ (s ++ t)
together_append τ s t x same other tog a b c ab bc hc e = go (dec_lt a (length s)) (dec_lt c (length s))
  where
    front : (j : ℕ) → j < length s → key_at τ (s ++ t) j ≡ x
    front j h = ap τ.key (at_left s t j h) ∙ same (at s j) (mem_get_or s j h)

    back : (j : ℕ) → length s ≤ j → key_at τ (s ++ t) j ≡ key_at τ t (j - length s)
    back j h = ap τ.key (at_right s t j h)

    far : length s ≤ c → c - length s < length t
    far h = omega (arith, length-append s t)

    go : Dec (a < length s) → Dec (c < length s) → key_at τ (s ++ t) b ≡ key_at τ (s ++ t) a
    go w (yes l) = front b (omega arith) ∙ sym (front a (omega arith))
    go (yes l) (no m) = absurd (other (at t (c - length s)) (mem_get_or t (c - length s) (far (omega arith))) (sym (back c (omega arith)) ∙ (sym e ∙ front a l)))
    go (no l) (no m) =
        back b (omega arith)
        ∙ (tog (a - length s) (b - length s) (c - length s) (omega arith) (omega arith) (far (omega arith)) (sym (back a (omega arith)) ∙ (e ∙ back c (omega arith)))
        ∙ sym (back a (omega arith)))

module _ (τ : Table) where
  pub standing_none : Standing τ []
  standing_none =
      record { range = λ k h. absurd (mem_nil k h); whole = λ j k h. absurd (mem_nil j h); once = tt; together = λ a b c l m h. absurd (omega arith); ranked = λ a b l h. absurd (omega arith) }

  pub standing_next : (placed : List ℕ) (k : ℕ) → Standing τ placed → k < τ.n → Is (unplaced τ placed k) → Standing τ (placing τ placed k)
  standing_next placed k s l h =
      record {
        range = λ j m. range j (mem_append new placed j m);
        whole = λ i j m b e. whole i j b e (mem_append new placed i m);
        once = no_repeat_append new placed (rising_once τ.n own) s.once (λ j m p. other j p (same j m));
        together = together_append τ new placed (τ.key k) same other s.together;
        ranked =
            pairs_append (λ (i j : ℕ). τ.key i ≡ τ.key j → i < j) new placed (λ a b i j _. rising_rises τ.n own a b i j) s.ranked
            (λ i j m p e. absurd (other j p (sym e ∙ same i m)));
      }
    where
      own : Mask
      own = band τ (τ.key k)

      new : List ℕ
      new = rising τ.n own

      same : (j : ℕ) → Is (mem new j) → τ.key j ≡ τ.key k
      same j m = (band_rows_elim τ k j m).1

      -- the band is unplaced, so none of its rows stands
      other : (j : ℕ) → Is (mem placed j) → τ.key j ≡ τ.key k → ⊥
      other j m e = unplaced_out τ placed k h (s.whole j k m l (sym e))

      range : (j : ℕ) → Is (mem new j) ⊎ Is (mem placed j) → j < τ.n
      range j (inl m) = (band_rows_elim τ k j m).0
      range j (inr m) = s.range j m

      whole : (i j : ℕ) → j < τ.n → τ.key j ≡ τ.key i → Is (mem new i) ⊎ Is (mem placed i) → Is (mem (new ++ placed) j)
      whole i j b e (inl m) = mem_left new placed j (band_rows_intro τ k j b (e ∙ same i m))
      whole i j b e (inr m) = mem_right new placed j (s.whole i j m b e)

  -- a row that does not stand has an unplaced band
  pub unplaced_of : (placed : List ℕ) → Standing τ placed → (i : ℕ) → i < τ.n → (Is (mem placed i) → ⊥) → (u : ℕ) × (u < τ.n) × Is (unplaced τ placed u) × (τ.key u ≡ τ.key i)
  unplaced_of placed s i l out =
      let (u, b, first, e) = leader τ i l in
      (u, b, unplaced_intro τ placed u first (λ m. out (s.whole u i m l (sym e))), e)

  -- where no band is unplaced, every row stands
  pub all_placed : (placed : List ℕ) → Standing τ placed → None τ.n (unplaced τ placed) → Order τ placed
  all_placed placed s h = record { range = s.range; every = λ k l. go k l (which (mem placed k)); once = s.once }
    where
      go : (k : ℕ) → k < τ.n → Is (mem placed k) ⊎ Is (not (mem placed k)) → Is (mem placed k)
      go k l (inl m) = m
      go k l (inr m) = let (u, b, free, _) = unplaced_of placed s k l (T_not (mem placed k) m) in absurd (h u b free)
