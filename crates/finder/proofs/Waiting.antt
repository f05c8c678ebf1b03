-- The bands not placed, tried one after the other: which comes next, where its rows stand, and what is left once it is placed. Assumes nothing.
use Prim.Native.Nat.{ℕ, ◌+◌, ◌≤◌, ◌<◌}
use native.Mathlib.Decide.{ℕ_discrete}
use native.Mathlib.Omega.{arith}
use mathlib.Core.Path.{◌≡◌, refl, sym, ap, ap₂, subst, ◌∙◌}
use mathlib.Core.Logic.{◌⊎◌, inl, inr}
use mathlib.Core.Bool.{true}
use mathlib.Core.List.{List, [], ◌∷◌, ◌++◌, append-nil}
use lib.ListN.{length, length-append}
use lib.Seq.{append_snoc}
use lib.Dec.{T as Is}
use Rattle.sums.specs.Masks.{Mask}
use Rattle.sums.specs.MaskLaws.{and_intro}
use Rattle.sums.specs.Sums.{count}
use Rattle.order.specs.Table.{Table, band}
use Rattle.order.specs.Orders.{mem}
use Rattle.order.specs.Counting.{count_le}
use Rattle.order.specs.Lists.{mem_nil, mem_here, mem_cases, mem_there, mem_at}
use Rattle.finder.specs.Placing.{rising, unplaced, placing, PassesOver, free, candidate, Stands}
use Rattle.finder.specs.Rising.{mem_left, mem_right, mem_append, Pairs, pairs_append, rising_elim, rising_intro, rising_rises}
use Rattle.finder.specs.Leading.{unplaced_leads, candidate_unplaced, placed_now, others_unplaced}
use Rattle.finder.proofs.Sorted.{rising_length, pairs_parts, pairs_first, pairs_rest, Part, one_rising}
use Rattle.finder.proofs.ByBand.{bands_of, bands_next, bands_none, bands_append, bands_intro, band_apart, Lead}

module _ (τ : Table) where
  -- the first rows of the bands not placed
  abbrev pub waiting : (placed : List ℕ) → List ℕ
  waiting placed = rising τ.n (unplaced τ placed)

  pub waiting_elim : (placed : List ℕ) (k : ℕ) → Is (mem (waiting placed) k) → (k < τ.n) × Is (unplaced τ placed k)
  waiting_elim placed k h = rising_elim τ.n (unplaced τ placed) k h

  pub waiting_lead : (placed : List ℕ) → Lead τ (waiting placed)
  waiting_lead placed k h = unplaced_leads τ placed k (waiting_elim placed k h).1

  module _ (placed : List ℕ) where
    -- so many bands were tried, whose rows stand before place s, and none passed
    pub record Tried (s bands : ℕ) : Type 0 where
      pub before : List ℕ
      pub rest : List ℕ
      pub split : waiting placed ≡ before ++ rest
      pub reached : s ≡ length (bands_of τ before)
      pub counted : bands ≡ length before
      pub none_passed : (k : ℕ) → Is (mem before k) → PassesOver τ placed (τ.key k) → ⊥

    pub tried_none : Tried 0 0
    tried_none = record { before = []; rest = waiting placed; split = refl; reached = ap length (sym (bands_none τ)); counted = refl; none_passed = λ k h. absurd (mem_nil k h) }

    -- no more than there are rows
    pub few_bands : {s bands : ℕ} → Tried s bands → bands ≤ τ.n
    few_bands t = omega (arith, t.counted, ap length t.split, length-append t.before t.rest, rising_length τ.n (unplaced τ placed), count_le τ.n (unplaced τ placed))

    -- the band of a row comes next
    pub record Next (s bands : ℕ) : Type 0 where
      pub tried : Tried s bands
      pub row : ℕ
      pub rest : List ℕ
      pub next : tried.rest ≡ row ∷ rest

    pub next_of : {s bands : ℕ} → s < length (bands_of τ (waiting placed)) → Tried s bands → Next s bands
    next_of {s} {bands} l t = go t.rest refl
      where
        go : (r : List ℕ) → t.rest ≡ r → Next s bands
        go [] e = absurd (omega (arith, t.reached, ap (λ (x : List ℕ). length (bands_of τ x)) (t.split ∙ (ap (λ (x : List ℕ). t.before ++ x) e ∙ append-nil t.before))))
        go (k ∷ r) e = record { tried = t; row = k; rest = r; next = e }

    module _ {s bands : ℕ} (x : Next s bands) where
      abbrev own : Mask
      own = band τ (τ.key x.row)

      split : waiting placed ≡ x.tried.before ++ (x.row ∷ x.rest)
      split = x.tried.split ∙ ap (λ (y : List ℕ). x.tried.before ++ y) x.next

      abbrev pub rows : List ℕ
      rows = rising τ.n own

      -- the rows not placed: those tried, the band's, and the rest
      pub front_is : bands_of τ (waiting placed) ≡ bands_of τ x.tried.before ++ (rows ++ bands_of τ x.rest)
      front_is = ap (bands_of τ) (split) ∙ (bands_append τ x.tried.before (x.row ∷ x.rest) ∙ ap (λ (y : List ℕ). bands_of τ x.tried.before ++ y) (bands_next τ x.row x.rest))

      rises : Pairs ◌<◌ (x.tried.before ++ (x.row ∷ x.rest))
      rises = subst (Pairs ◌<◌) (split) (rising_rises τ.n (unplaced τ placed))

      pub sooner : (k : ℕ) → Is (mem x.tried.before k) → k < x.row
      sooner k h = (pairs_parts ◌<◌ x.tried.before (x.row ∷ x.rest) rises).2 k x.row h (mem_here x.row x.rest)

      pub later : (k : ℕ) → Is (mem x.rest k) → x.row < k
      later k h = pairs_first x.row x.rest (pairs_parts ◌<◌ x.tried.before (x.row ∷ x.rest) rises).1 k h

      waits : (k : ℕ) → Is (mem x.tried.before k) ⊎ Is (mem (x.row ∷ x.rest) k) → Is (mem (waiting placed) k)
      waits k (inl h) = rw (split) (mem_left x.tried.before (x.row ∷ x.rest) k h)
      waits k (inr h) = rw (split) (mem_right x.tried.before (x.row ∷ x.rest) k h)

      pub row_waits : (x.row < τ.n) × Is (unplaced τ placed x.row)
      row_waits = waiting_elim placed x.row (waits x.row (inr (mem_here x.row x.rest)))

      -- a row of another band stands among those tried, or among the rest
      pub not_before : (i : ℕ) → Is (mem (bands_of τ x.tried.before) i) → τ.key i ≡ τ.key x.row → ⊥
      not_before i h e = band_apart τ x.row x.tried.before (unplaced_leads τ placed x.row row_waits.1) (λ k m. waiting_lead placed k (waits k (inl m))) (λ m. omega (arith, sooner x.row m)) i e h

      pub not_rest : (i : ℕ) → Is (mem (bands_of τ x.rest) i) → τ.key i ≡ τ.key x.row → ⊥
      not_rest i h e =
          band_apart τ x.row x.rest (unplaced_leads τ placed x.row row_waits.1) (λ k m. waiting_lead placed k (waits k (inr (mem_there x.row x.rest k m)))) (λ m. omega (arith, later x.row m)) i e h

      -- once the band is placed, the others wait
      pub still_waiting : waiting (placing τ placed x.row) ≡ x.tried.before ++ x.rest
      still_waiting = one_rising _ _ (rising_rises τ.n _) others_rise into out
        where
          parts : Pairs ◌<◌ x.tried.before × Pairs ◌<◌ (x.row ∷ x.rest) × ((j k : ℕ) → Is (mem x.tried.before j) → Is (mem (x.row ∷ x.rest) k) → j < k)
          parts = pairs_parts ◌<◌ x.tried.before (x.row ∷ x.rest) rises

          others_rise : Pairs ◌<◌ (x.tried.before ++ x.rest)
          others_rise = pairs_append ◌<◌ x.tried.before x.rest parts.0 (pairs_rest x.row x.rest parts.1) (λ j k m i. omega (arith, sooner j m, later k i))

          others : (k : ℕ) → (k ≡ x.row → ⊥) → unplaced τ placed k ≡ unplaced τ (placing τ placed x.row) k
          others k d = others_unplaced τ placed x.row row_waits.1 k d

          into : Part (waiting (placing τ placed x.row)) (x.tried.before ++ x.rest)
          into k h = go (ℕ_discrete k x.row)
            where
              u : (k < τ.n) × Is (unplaced τ (placing τ placed x.row) k)
              u = waiting_elim (placing τ placed x.row) k h

              there : (k ≡ x.row → ⊥) → Is (mem x.tried.before k) ⊎ Is (mem (x.row ∷ x.rest) k) → Is (mem (x.tried.before ++ x.rest) k)
              there d (inl m) = mem_left x.tried.before x.rest k m
              there d (inr m) = mem_right x.tried.before x.rest k (or_else (mem_cases x.row x.rest k m))
                where
                  or_else : (k ≡ x.row) ⊎ Is (mem x.rest k) → Is (mem x.rest k)
                  or_else (inl e) = absurd (d e)
                  or_else (inr i) = i

              go : Dec (k ≡ x.row) → Is (mem (x.tried.before ++ x.rest) k)
              go (yes e) = absurd (rw (placed_now τ placed x.row row_waits.0) at (subst (λ (y : ℕ). Is (unplaced τ (placing τ placed x.row) y)) e u.1))
              go (no d) = there d (mem_append x.tried.before (x.row ∷ x.rest) k (rw (← split) (rising_intro τ.n (unplaced τ placed) k u.0 (rw (others k d) u.1))))

          out : Part (x.tried.before ++ x.rest) (waiting (placing τ placed x.row))
          out k h = go (mem_append x.tried.before x.rest k h)
            where
              keep : (k ≡ x.row → ⊥) → Is (mem (waiting placed) k) → Is (mem (waiting (placing τ placed x.row)) k)
              keep d m = let (l, u) = waiting_elim placed k m in rising_intro τ.n _ k l (rw (← others k d) u)

              go : Is (mem x.tried.before k) ⊎ Is (mem x.rest k) → Is (mem (waiting (placing τ placed x.row)) k)
              go (inl m) = keep (λ e. omega (arith, sooner k m)) (waits k (inl m))
              go (inr m) = keep (λ e. omega (arith, later k m)) (waits k (inr (mem_there x.row x.rest k m)))

      -- the bands to try before it were tried
      came : (i : ℕ) → i < x.row → Is (candidate τ free placed i) → Is (mem x.tried.before i)
      came i l h =
          go (mem_append x.tried.before (x.row ∷ x.rest) i (rw (← split) (rising_intro τ.n (unplaced τ placed) i (omega (arith, row_waits.0)) (candidate_unplaced τ placed i free h))))
        where
          go : Is (mem x.tried.before i) ⊎ Is (mem (x.row ∷ x.rest) i) → Is (mem x.tried.before i)
          go (inl m) = m
          go (inr m) = absurd (not_there (mem_cases x.row x.rest i m))
            where
              not_there : (i ≡ x.row) ⊎ Is (mem x.rest i) → ⊥
              not_there (inl e) = omega arith
              not_there (inr r) = omega (arith, later i r)

      pub to_try : (i : ℕ) → Is (mem (waiting placed) i) → Is (candidate τ free placed i)
      to_try i h = and_intro (unplaced τ placed i) true (waiting_elim placed i h).1 tt

      pub none_sooner : (i : ℕ) → i < x.row → Stands τ free placed i → ⊥
      none_sooner i l h = x.tried.none_passed i (came i l h.0) h.1

      pub counted_before : bands ≡ count x.row (candidate τ free placed)
      counted_before =
          x.tried.counted
          ∙ (ap length (one_rising x.tried.before (rising x.row (candidate τ free placed)) (pairs_parts ◌<◌ x.tried.before (x.row ∷ x.rest) rises).0 (rising_rises x.row (candidate τ free placed))
          (λ i m. rising_intro x.row (candidate τ free placed) i (sooner i m) (to_try i (waits i (inl m))))
          (λ i m. let (l, h) = rising_elim x.row (candidate τ free placed) i m in came i l h))
          ∙ rising_length x.row (candidate τ free placed))

      -- it did not pass: it is one more tried
      pub tried_late : (e : ℕ) → e ≡ s + length rows → (PassesOver τ placed (τ.key x.row) → ⊥) → Tried e (bands + 1)
      tried_late e q late =
          record {
            before = x.tried.before ++ (x.row ∷ []);
            rest = x.rest;
            split = split ∙ sym (append_snoc x.tried.before x.row x.rest);
            reached = q ∙ (ap₂ ◌+◌ x.tried.reached (ap length (sym (bands_next τ x.row [] ∙ (ap (λ (y : List ℕ). rows ++ y) (bands_none τ) ∙ append-nil rows))))
                ∙ (sym (length-append (bands_of τ x.tried.before) (bands_of τ (x.row ∷ []))) ∙ ap length (sym (bands_append τ x.tried.before (x.row ∷ [])))));
            counted = omega (arith, x.tried.counted, length-append x.tried.before (x.row ∷ []));
            none_passed = λ k m. go k (mem_append x.tried.before (x.row ∷ []) k m);
          }
        where
          go : (k : ℕ) → Is (mem x.tried.before k) ⊎ Is (mem (x.row ∷ []) k) → PassesOver τ placed (τ.key k) → ⊥
          go k (inl m) = x.tried.none_passed k m
          go k (inr m) = one (mem_cases x.row [] k m)
            where
              one : (k ≡ x.row) ⊎ Is (mem [] k) → PassesOver τ placed (τ.key k) → ⊥
              one (inl z) = rw z late
              one (inr z) = absurd (mem_nil k z)

    -- with no row behind place s every band was tried
    pub all_tried : {s bands : ℕ} → length (bands_of τ (waiting placed)) ≤ s → (t : Tried s bands) → waiting placed ≡ t.before
    all_tried {s} h t = go t.rest t.split
      where
        go : (r : List ℕ) → waiting placed ≡ t.before ++ r → waiting placed ≡ t.before
        go [] e = e ∙ append-nil t.before
        go (k ∷ r) e =
            let (l, _) = waiting_elim placed k (rw e (mem_right t.before (k ∷ r) k (mem_here k r))) in
            let (p, inside, _) = mem_at (bands_of τ (k ∷ r)) k (bands_intro τ (k ∷ r) k k (mem_here k r) l refl) in
            absurd (omega (arith, t.reached, ap (λ (y : List ℕ). length (bands_of τ y)) e, ap length (bands_append τ t.before (k ∷ r)), length-append (bands_of τ t.before) (bands_of τ (k ∷ r))))
