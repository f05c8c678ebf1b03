-- The placing rule has one ending, and it is right: what it finds is an order that passes, and where it finds none, there is none. It holds of
-- any test that allows a band above more rows wherever it allows it above fewer.
-- Assumes nothing.
use Rattle.std.specs.Prelude.{ℕ, zero, suc, ◌+◌, ◌≤◌, ◌<◌, ◌≡◌, refl, ◌⊎◌, not, List, [], ◌∷◌, ◌++◌, length, take, drop, T as Is}
use Rattle.std.proofs.Common.{le_of_suc-le-suc, arith, sym, ap, subst, inl, inr, T_not}
use Rattle.std.proofs.Math.Dec.{not_T}
use Rattle.sums.specs.MaskLaws.{which, and_right, and_intro}
use Rattle.sums.specs.Sums.{count}
use Rattle.sums.specs.Columns.{at}
use Rattle.sums.specs.Move.{Moved}
use Rattle.order.specs.Table.{Table, band}
use Rattle.order.specs.Orders.{mem, Order, key_at, Together, Ranked, own, AllPass}
use Rattle.order.specs.Lists.{mem_here, mem_there, mem_get_or}
use Rattle.order.specs.Places.{mem_cut, no_repeat_cut, from_last}
use Rattle.order.specs.Bands.{not_band}
use Rattle.order.specs.Moving.{passes_moved}
use Rattle.finder.specs.Placing.{Ending, found, none, rising, unplaced, placing, PassesOver, Test, candidate, Stands, Finds, done, place, stuck}
use Rattle.finder.specs.Rising.{mem_right, mem_append}
use Rattle.finder.specs.Leading.{band_rows_elim, unplaced_out, candidate_unplaced}
use Rattle.finder.specs.Standing.{Standing}
use Rattle.finder.proofs.Standing.{standing_none, standing_next, unplaced_of, all_placed}

-- what may stand above some rows may stand above more
abbrev pub Monotone : Test → Type 0
Monotone may = (a a' : List ℕ) (b : ℕ) → ((k : ℕ) → Is (mem a k) → Is (mem a' k)) → Is (may a b) → Is (may a' b)

-- each band of an order may stand above the rows behind it
abbrev pub Keeps : Test → Table → List ℕ → Type 0
Keeps may τ o = (p : ℕ) → p < length o → Is (may (drop (suc p) o) (key_at τ o p))

-- ---- one ending

module _ (τ : Table) (may : Test) where
  -- two rows that are each the first to stand are one
  one_choice : (placed : List ℕ) (j k : ℕ) → Stands τ may placed j → ((i : ℕ) → i < j → Stands τ may placed i → ⊥)
      → Stands τ may placed k → ((i : ℕ) → i < k → Stands τ may placed i → ⊥) → j ≡ k
  one_choice placed j k hj nj hk nk =
      let p : k < j → ⊥ = λ l. nj k l hk in
      let q : j < k → ⊥ = λ l. nk j l hj in
      omega arith

  -- two endings from one start are one
  pub finds_one : {placed : List ℕ} {t : ℕ} {r r' : Ending} → Finds τ may placed t r → Finds τ may placed t r' → r ≡ r'
  finds_one (done h) (done h') = refl
  finds_one {placed} (done h) (place k l s first f) = absurd (h k l (candidate_unplaced τ placed k may s.0))
  finds_one (done h) (stuck u l m stop) = absurd (h u l m)
  finds_one {placed} (place k l s first f) (done h) = absurd (h k l (candidate_unplaced τ placed k may s.0))
  finds_one {placed} {t} (place k l s first f) (place {r = r'} k' l' s' first' f') =
      finds_one f (subst (λ (x : ℕ). Finds τ may (placing τ placed x) (t + suc (count x (candidate τ may placed))) r') (one_choice placed k' k s' first' s first) f')
  finds_one (place k l s first f) (stuck u _ _ stop) = absurd (stop k l s)
  finds_one (stuck u l m stop) (done h) = absurd (h u l m)
  finds_one (stuck u _ _ stop) (place k l s first f) = absurd (stop k l s)
  finds_one (stuck u l m stop) (stuck u' l' m' stop') = refl

-- ---- a right ending

module _ (τ : Table) (may : Test) where
  -- an order that passes and keeps what must be kept
  pub record Answers (o : List ℕ) : Type 0 where
    pub order : Order τ o
    pub together : Together τ o
    pub ranked : Ranked τ o
    pub passing : AllPass τ o
    pub keeping : Keeps may τ o

  -- what is found is such an order; where none is, no order passes and keeps, together or not
  abbrev pub Right : Ending → Type 0
  Right (found o t) = Answers o
  Right (none u t) = (o : List ℕ) → Order τ o → AllPass τ o → Keeps may τ o → ⊥

module _ (τ : Table) (may : Test) (periods : (k : ℕ) → k < τ.n → 1 ≤ τ.T k) (more : Monotone may) where
  -- the band with key b may stand above the rows placed, and passes there
  abbrev Sits : (placed : List ℕ) (b : ℕ) → Type 0
  Sits placed b = Is (may placed b) × PassesOver τ placed b

  -- and each band of a list above the rows behind it
  abbrev AllSit : List ℕ → Type 0
  AllSit o = (p : ℕ) → p < length o → Sits (drop (suc p) o) (key_at τ o p)

  -- rows of the band itself, placed before it, change nothing: they are neither above it nor below
  sits_above : (new placed : List ℕ) (b : ℕ) → ((k : ℕ) → Is (mem new k) → τ.key k ≡ b) → Sits placed b → Sits (new ++ placed) b
  sits_above new placed b same s = (
    more placed (new ++ placed) b (mem_right new placed) s.0,
    passes_moved τ periods (band τ b) (λ k. not (mem (new ++ placed) k)) (mem (new ++ placed)) (λ k. not (mem placed k)) (mem placed) moved s.1,
  )
    where
      moved : (k : ℕ) → k < τ.n → Is (not (band τ b k)) → Moved (not (mem (new ++ placed) k)) (mem (new ++ placed) k) (not (mem placed k)) (mem placed k)
      moved k l other = record { up = λ t. not_T (mem placed k) (λ i. T_not (mem (new ++ placed) k) t (mem_right new placed k i)); down = λ t. go (mem_append new placed k t) }
        where
          go : Is (mem new k) ⊎ Is (mem placed k) → Is (mem placed k) ⊎ (Is (not (mem placed k)) × Is (not (not (mem (new ++ placed) k))))
          go (inl i) = absurd (not_band τ b k other (same k i))
          go (inr i) = inl i

  -- a band that sits is placed, row by row
  all_sit : (new placed : List ℕ) (b : ℕ) → ((k : ℕ) → Is (mem new k) → τ.key k ≡ b) → Sits placed b → AllSit placed → AllSit (new ++ placed)
  all_sit [] placed b same s h p l = h p l
  all_sit (x ∷ new) placed b same s h zero l = subst (Sits (new ++ placed)) (sym (same x (mem_here x new))) (sits_above new placed b (λ k i. same k (mem_there x new k i)) s)
  all_sit (x ∷ new) placed b same s h (suc p) l = all_sit new placed b (λ k i. same k (mem_there x new k i)) s h p (le_of_suc-le-suc l)

  -- in an order each band that sits passes: what stands before it does not stand behind it
  passes_at : (o : List ℕ) → Order τ o → AllSit o → AllPass τ o
  passes_at o ord h p l =
      passes_moved τ periods (own τ o p) (mem (take p o)) (mem (drop (suc p) o)) (λ k. not (mem (drop (suc p) o) k)) (mem (drop (suc p) o))
      (λ k b other. record { up = λ t. not_T (mem (drop (suc p) o) k) (no_repeat_cut o p k ord.once t); down = inl }) (h p l).1

  -- no band can be placed: then each row of an order that passes stands already, from the last on. Were one not to, its band would pass at
  -- this place too, with no more rows above it than in the order
  none_left : (placed : List ℕ) → Standing τ placed → ((k : ℕ) → k < τ.n → Stands τ may placed k → ⊥) → (o : List ℕ) → Order τ o → AllPass τ o → Keeps may τ o
      → (k : ℕ) → Is (mem o k) → Is (mem placed k)
  none_left placed s stop o ord all keep = from_last (mem placed) o (λ p l rest. go p l rest (which (mem placed (at o p))))
    where
      go : (p : ℕ) → p < length o → ((k : ℕ) → Is (mem (drop (suc p) o) k) → Is (mem placed k)) → Is (mem placed (at o p)) ⊎ Is (not (mem placed (at o p))) → Is (mem placed (at o p))
      go p l rest (inl i) = i
      go p l rest (inr out) =
          let (u, b, free, e) = unplaced_of τ placed s (at o p) (ord.range (at o p) (mem_get_or o p l)) (T_not (mem placed (at o p)) out) in
          let sits : Sits placed (τ.key u) = subst (Sits placed) (sym e) (more (drop (suc p) o) placed (key_at τ o p) rest (keep p l), passes) in
          absurd (stop u b (and_intro (unplaced τ placed u) (may placed (τ.key u)) free sits.0, sits.1))
        where
          moved : (k : ℕ) → Is (not (own τ o p k)) → Is (mem (take p o) k) ⊎ ((k ≡ at o p) ⊎ Is (mem (drop (suc p) o) k))
              → Moved (not (mem placed k)) (mem placed k) (mem (take p o) k) (mem (drop (suc p) o) k)
          moved k other (inl i) = record { up = λ _. i; down = λ t. inr (i, not_T (not (mem placed k)) (λ q. T_not (mem placed k) q t)) }
          moved k other (inr (inl q)) = absurd (not_band τ (key_at τ o p) k other (ap τ.key q))
          moved k other (inr (inr i)) = record { up = λ t. absurd (T_not (mem placed k) t (rest k i)); down = λ _. inl i }

          passes : PassesOver τ placed (key_at τ o p)
          passes =
              passes_moved τ periods (own τ o p) (λ k. not (mem placed k)) (mem placed) (mem (take p o)) (mem (drop (suc p) o))
              (λ k b other. moved k other (mem_cut o p k (ord.every k b))) (all p l)

  -- from any rows that stand so and sit
  right_from : {placed : List ℕ} {t : ℕ} {r : Ending} → Standing τ placed → AllSit placed → Finds τ may placed t r → Right τ may r
  right_from {placed} s h (done all) =
      let o = all_placed τ placed s all in
      record { order = o; together = s.together; ranked = s.ranked; passing = passes_at placed o h; keeping = λ p l. (h p l).0 }
  right_from {placed} s h (place k l (c, passes) first f) =
      right_from (standing_next τ placed k s l (candidate_unplaced τ placed k may c))
      (all_sit (rising τ.n (band τ (τ.key k))) placed (τ.key k) (λ j i. (band_rows_elim τ k j i).1) (and_right (unplaced τ placed k) (may placed (τ.key k)) c, passes) h) f
  right_from {placed} s h (stuck u l free stop) = λ o ord all keep.
      unplaced_out τ placed u free (none_left placed s stop o ord all keep u (ord.every u l))

  pub finds_right : {r : Ending} → Finds τ may [] 0 r → Right τ may r
  finds_right f = right_from (standing_none τ) (λ p l. absurd (omega arith)) f
