-- Rows that stand band by band: which they are, that none stands twice, and that the bands of all first rows have every row. Assumes nothing.
use Prim.Native.Nat.{ℕ, ◌<◌}
use mathlib.Core.Path.{◌≡◌, refl, sym, ap, ◌∙◌}
use mathlib.Core.Logic.{◌⊎◌, inl, inr}
use mathlib.Core.List.{List, [], ◌∷◌, ◌++◌, append_assoc}
use lib.Dec.{T as Is}
use Rattle.order.specs.Table.{Table, band}
use Rattle.order.specs.Orders.{mem, NoRepeat, Order}
use Rattle.order.specs.Lists.{mem_nil, mem_here, mem_there, mem_cases}
use Rattle.finder.specs.Placing.{rising, leads}
use Rattle.finder.specs.Rising.{mem_left, mem_right, mem_append, no_repeat_append, rising_elim, rising_intro, rising_once}
use Rattle.finder.specs.Leading.{leader, one_leader, band_rows_elim, band_rows_intro}
use Rattle.finder.specs.Steps.{by_band}

module _ (τ : Table) where
  -- the rows of the bands of l
  abbrev pub bands_of : List ℕ → List ℕ
  bands_of l = by_band τ.n τ.key l

  pub bands_next : (k : ℕ) (l : List ℕ) → bands_of (k ∷ l) ≡ rising τ.n (band τ (τ.key k)) ++ bands_of l
  unfolding by_band
  bands_next k l = refl

  pub bands_none : bands_of [] ≡ []
  unfolding by_band
  bands_none = refl

  pub bands_append : (l l' : List ℕ) → bands_of (l ++ l') ≡ bands_of l ++ bands_of l'
  unfolding by_band
  bands_append [] l' = refl
  bands_append (k ∷ l) l' = ap (λ (x : List ℕ). rising τ.n (band τ (τ.key k)) ++ x) (bands_append l l') ∙ sym (append_assoc (rising τ.n (band τ (τ.key k))) (bands_of l) (bands_of l'))

  pub bands_elim : (l : List ℕ) (i : ℕ) → Is (mem (bands_of l) i) → (k : ℕ) × Is (mem l k) × (i < τ.n) × (τ.key i ≡ τ.key k)
  unfolding by_band
  bands_elim [] i h = absurd (mem_nil i h)
  bands_elim (k ∷ l) i h = go (mem_append (rising τ.n (band τ (τ.key k))) (bands_of l) i h) (bands_elim l i)
    where
      go : Is (mem (rising τ.n (band τ (τ.key k))) i) ⊎ Is (mem (bands_of l) i) → (Is (mem (bands_of l) i) → (x : ℕ) × Is (mem l x) × (i < τ.n) × (τ.key i ≡ τ.key x))
          → (x : ℕ) × Is (mem (k ∷ l) x) × (i < τ.n) × (τ.key i ≡ τ.key x)
      go (inl m) ih = let (b, e) = band_rows_elim τ k i m in (k, mem_here k l, b, e)
      go (inr m) ih = let (x, i', b, e) = ih m in (x, mem_there k l x i', b, e)

  pub bands_intro : (l : List ℕ) (k i : ℕ) → Is (mem l k) → i < τ.n → τ.key i ≡ τ.key k → Is (mem (bands_of l) i)
  unfolding by_band
  bands_intro [] k i h b e = absurd (mem_nil k h)
  bands_intro (x ∷ l) k i h b e = go (mem_cases x l k h) (bands_intro l k i)
    where
      go : (k ≡ x) ⊎ Is (mem l k) → (Is (mem l k) → i < τ.n → τ.key i ≡ τ.key k → Is (mem (bands_of l) i)) → Is (mem (rising τ.n (band τ (τ.key x)) ++ bands_of l) i)
      go (inl q) ih = mem_left (rising τ.n (band τ (τ.key x))) (bands_of l) i (band_rows_intro τ x i b (e ∙ ap τ.key q))
      go (inr m) ih = mem_right (rising τ.n (band τ (τ.key x))) (bands_of l) i (ih m b e)

  -- all of them lead their bands
  abbrev pub Lead : List ℕ → Type 0
  Lead l = (k : ℕ) → Is (mem l k) → Is (leads τ k)

  -- a row that leads has a band of its own
  pub band_apart : (k : ℕ) (l : List ℕ) → Is (leads τ k) → Lead l → (Is (mem l k) → ⊥) → (i : ℕ) → τ.key i ≡ τ.key k → Is (mem (bands_of l) i) → ⊥
  band_apart k l h lead out i e m =
      let (x, there, _, q) = bands_elim l i m in
      out (rw (one_leader τ k x h (lead x there) (sym e ∙ q)) there)

  pub bands_once : (l : List ℕ) → Lead l → NoRepeat l → NoRepeat (bands_of l)
  unfolding by_band
  bands_once [] lead once = tt
  bands_once (k ∷ l) lead once =
      no_repeat_append (rising τ.n (band τ (τ.key k))) (bands_of l) (rising_once τ.n (band τ (τ.key k))) (bands_once l (λ x m. lead x (mem_there k l x m)) once.1)
      (λ i m b. band_apart k l (lead k (mem_here k l)) (λ x m. lead x (mem_there k l x m)) once.0 i (band_rows_elim τ k i m).1 b)

  -- with every first row: every row, once
  pub bands_all : Order τ (bands_of (rising τ.n (leads τ)))
  bands_all =
      record {
        range = λ i m. (bands_elim (rising τ.n (leads τ)) i m).2;
        every = λ i l. let (u, b, first, e) = leader τ i l in bands_intro (rising τ.n (leads τ)) u i (rising_intro τ.n (leads τ) u b first) l (sym e);
        once = bands_once (rising τ.n (leads τ)) (λ k m. (rising_elim τ.n (leads τ) k m).1) (rising_once τ.n (leads τ));
      }
