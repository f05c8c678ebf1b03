-- The search place by place: what is known before each place, that the verdict on the run of the band that comes next is the verdict that
-- the placing rule asks for, and that each turn follows the rule. Assumes nothing.
use Rattle.std.specs.Prelude.{Option}
use Prim.Native.Nat.{ℕ, ◌+◌, ◌-◌, ◌*◌, ◌≤◌, ◌<◌, max}
use native.Mathlib.Decide.{dec_lt}
use native.Mathlib.Omega.{arith}
use mathlib.Core.Path.{◌≡◌, refl, sym, ap, ap₂, subst, subst₂, ◌∙◌}
use mathlib.Core.Bool.{Bool, not, ◌&&◌, ◌||◌, and-true}
use mathlib.Core.List.{List, [], ◌++◌}
use lib.ListN.{length, length-append}
use lib.Dec.{T as Is, eqb→eq, T_not, not_T}
use borrow.Author.Tests.{lt-ltb, le-ltb, le-leb, lt-leb, eq-eqb, ne_eqb}
use Rattle.sums.specs.Masks.{Mask, except, run}
use Rattle.sums.specs.MaskLaws.{same_test, and_left, and_intro}
use Rattle.sums.specs.Columns.{at}
use Rattle.sums.specs.Sums.{count, max_over}
use Rattle.sums.specs.Laws.{over_same, over_empty}
use Rattle.sums.specs.Runs.{run_beyond, max_join}
use Rattle.licence.specs.Limit.{limit}
use Rattle.order.specs.Table.{Table, band, MIN, least_e, F}
use Rattle.order.specs.Orders.{mem, NoRepeat}
use Rattle.order.specs.Counting.{count_le}
use Rattle.order.specs.Lists.{mem_nil, mem_get_or, mem_at}
use Rattle.order.specs.Sheet.{sheet, RunVerdict, LongestIs, VerdictIs}
use Rattle.order.specs.Arranged.{run_verdict, own_max}
use Rattle.finder.specs.Placing.{Ending, found, none, rising, leads, unplaced, placing, PassesOver, free, candidate, Finds, done, place, stuck}
use Rattle.finder.specs.Rising.{mem_both, at_left, at_right, rising_elim, rising_intro, rising_once, rising_same}
use Rattle.finder.specs.Leading.{unplaced_out, candidate_unplaced, band_rows_elim, band_rows_intro}
use Rattle.finder.specs.Standing.{Standing}
use Rattle.finder.proofs.Standing.{standing_none, standing_next, unplaced_of}
use Rattle.finder.specs.Steps.{by_band, first_rows, RunEnds}
use Rattle.finder.proofs.Sorted.{rising_length}
use Rattle.finder.proofs.ByBand.{bands_of, bands_append, bands_elim, bands_intro, bands_once}
use Rattle.finder.proofs.Waiting.{waiting, waiting_elim, waiting_lead, Tried, Next, rows, front_is, row_waits, not_before, not_rest, still_waiting, to_try, none_sooner, counted_before, all_tried}

-- a mask has, below n, the rows that its rising list has
rising_rows : (n : ℕ) (m : Mask) (k : ℕ) → k < n → mem (rising n m) k ≡ m k
rising_rows n m k l = same_test _ _ (λ h. (rising_elim n m k h).1) (rising_intro n m k l)

module _ (n : ℕ) (c t j e key : List ℕ) where
  abbrev τ : Table
  τ = sheet n c t j e key

  -- before a place: the rows not placed stand in front, band by band, and the rule leads from nothing to here
  pub record Before (front placed : List ℕ) (top tried below : ℕ) : Type 0 where
    pub tops : length front ≡ top
    pub fits : length placed + top ≡ n
    pub standing : Standing τ placed
    pub lined : front ≡ bands_of τ (waiting τ placed)
    pub longest : below ≡ max_over n (mem placed) (at c)
    pub few_tried : tried + limit * top ≤ limit * n
    pub leads_here : (r : Ending) → Finds τ free placed tried r → Finds τ free [] 0 r

  -- with no row placed
  pub before_first : (front : List ℕ) → length front ≡ n → front ≡ by_band n (at key) (first_rows n (at key)) → Before front [] n 0 0
  unfolding leads mem
  before_first front tops e =
      record {
        tops = tops;
        fits = omega arith;
        standing = standing_none τ;
        lined = e ∙ ap (bands_of τ) (rising_same n _ _ (λ k l. sym (and-true (leads τ k))));
        longest = sym (over_empty max 0 refl (mem []) (at c) n (λ k l. mem_nil k));
        few_tried = omega arith;
        leads_here = λ r f. f;
      }

  module _ {front placed : List ℕ} {top tried below : ℕ} (b : Before front placed top tried below) where
    -- the rows in front are those not placed, each once
    front_once : NoRepeat front
    front_once = rw b.lined (bands_once τ (waiting τ placed) (waiting_lead τ placed) (rising_once n (unplaced τ placed)))

    pub front_range : (k : ℕ) → Is (mem front k) → k < n
    front_range k h = (bands_elim τ (waiting τ placed) k (rw (← b.lined) h)).2

    front_rows : (k : ℕ) → k < n → mem front k ≡ not (mem placed k)
    front_rows k l = same_test _ _ (λ h. not_T (mem placed k) (out h)) (λ h. into (T_not (mem placed k) h))
      where
        out : Is (mem front k) → Is (mem placed k) → ⊥
        out h m =
            let (u, w, _, q) = bands_elim τ (waiting τ placed) k (rw (← b.lined) h) in
            let (i, free_band) = waiting_elim τ placed u w in
            unplaced_out τ placed u free_band (b.standing.whole k u m i (sym q))

        into : (Is (mem placed k) → ⊥) → Is (mem front k)
        into h = let (u, i, free_band, q) = unplaced_of τ placed b.standing k l h in rw b.lined (bands_intro τ (waiting τ placed) u k (rising_intro n (unplaced τ placed) u i free_band) l (sym q))

    -- the band that comes next, and its run
    module _ {s bands : ℕ} (x : Next τ placed s bands) where
      abbrev own : Mask
      own = band τ (at key x.row)

      pub parts : front ≡ bands_of τ x.tried.before ++ (rows τ placed x ++ bands_of τ x.rest)
      parts = b.lined ∙ front_is τ placed x

      pub lengths : top ≡ s + (length (rows τ placed x) + length (bands_of τ x.rest))
      lengths =
          omega (arith, b.tops, ap length parts, x.tried.reached, length-append (bands_of τ x.tried.before) (rows τ placed x ++ bands_of τ x.rest), length-append (rows τ placed x) (bands_of τ x.rest))

      pub some_rows : 1 ≤ length (rows τ placed x)
      some_rows = let (p, inside, _) = mem_at (rows τ placed x) x.row (band_rows_intro τ x.row x.row (row_waits τ placed x).0 refl) in omega arith

      -- which rows stand where
      tried_there : (p : ℕ) → p < s → at key (at front p) ≡ at key x.row → ⊥
      tried_there p l h =
          not_before τ placed x (at front p)
          (subst (λ (y : ℕ). Is (mem (bands_of τ x.tried.before) y)) (sym (ap (λ (y : List ℕ). at y p) parts ∙ at_left (bands_of τ x.tried.before) _ p (omega (arith, x.tried.reached)))) (mem_get_or (bands_of τ x.tried.before) p (omega (arith, x.tried.reached)))) h

      behind : (p : ℕ) → s ≤ p → at front p ≡ at (rows τ placed x ++ bands_of τ x.rest) (p - s)
      behind p h = ap (λ (y : List ℕ). at y p) parts ∙ (at_right (bands_of τ x.tried.before) _ p (omega (arith, x.tried.reached)) ∙ ap (at (rows τ placed x ++ bands_of τ x.rest)) (omega (arith, x.tried.reached)))

      own_there : (p : ℕ) → s ≤ p → p < s + length (rows τ placed x) → at key (at front p) ≡ at key x.row
      own_there p h l =
          (band_rows_elim τ x.row (at front p)
          (subst (λ (y : ℕ). Is (mem (rows τ placed x) y)) (sym (behind p h ∙ at_left (rows τ placed x) (bands_of τ x.rest) (p - s) (omega arith))) (mem_get_or (rows τ placed x) (p - s) (omega arith)))).1

      rest_there : (p : ℕ) → s + length (rows τ placed x) ≤ p → p < top → at key (at front p) ≡ at key x.row → ⊥
      rest_there p h l =
          not_rest τ placed x (at front p)
          (subst (λ (y : ℕ). Is (mem (bands_of τ x.rest) y)) (sym (behind p (omega arith) ∙ at_right (rows τ placed x) (bands_of τ x.rest) (p - s) (omega arith)))
          (mem_get_or (bands_of τ x.rest) (p - s - length (rows τ placed x)) (omega (arith, lengths))))

      -- the run of its key is the run of its rows
      pub run_is : (ak : List ℕ) → ((p : ℕ) → p < top → at ak p ≡ at key (at front p)) → {e : ℕ} → RunEnds ak s top e → e ≡ s + length (rows τ placed x)
      run_is ak h {e} r = go (dec_lt e (s + length (rows τ placed x))) (dec_lt (s + length (rows τ placed x)) e)
        where
          first : at ak s ≡ at key x.row
          first = h s (omega (arith, r.after, r.within)) ∙ own_there s (omega arith) (omega (arith, some_rows))

          go : Dec (e < s + length (rows τ placed x)) → Dec (s + length (rows τ placed x) < e) → e ≡ s + length (rows τ placed x)
          go (yes l) w = let below : e < top = omega (arith, lengths) in absurd (r.other below (h e below ∙ (own_there e (omega (arith, r.after)) l ∙ sym first)))
          go (no l) (yes m) =
              let p : ℕ = s + length (rows τ placed x) in
              let below : p < top = omega (arith, r.within) in
              absurd (rest_there p (omega arith) below (sym (h p below) ∙ (r.one p (omega arith) m ∙ first)))
          go (no l) (no m) = omega arith

      places : (e : ℕ) → e ≡ s + length (rows τ placed x) → (p : ℕ) → p < length front → run s e p ≡ own (at front p)
      places e q p l = go (dec_lt p s) (dec_lt p e)
        where
          go : Dec (p < s) → Dec (p < e) → run s e p ≡ own (at front p)
          go (yes i) w = rw (lt-leb s p i, ne_eqb _ _ (tried_there p i))
          go (no i) (yes k) = rw (le-leb s p (omega arith), lt-ltb p e k, eq-eqb _ _ (own_there p (omega arith) (omega arith)))
          go (no i) (no k) = rw (le-leb s p (omega arith), le-ltb p e (omega arith), ne_eqb _ _ (rest_there p (omega arith) (omega (arith, b.tops))))

      whole : (k : ℕ) → k < n → Is (own k) → Is (mem front k)
      whole k l o = let (i, u) = row_waits τ placed x in rw b.lined (bands_intro τ (waiting τ placed) x.row k (rising_intro n (unplaced τ placed) x.row i u) l (eqb→eq (at key k) (at key x.row) o))

      not_own : (k : ℕ) → k < n → Is (mem placed k) → Is (own k) → ⊥
      not_own k l m o = T_not (mem placed k) (rw (front_rows k l) at (whole k l o)) m

      -- the columns stand along the rows
      module _ (ac at' aj ae : List ℕ) (hc : (p : ℕ) → p < top → at ac p ≡ at c (at front p)) (ht : (p : ℕ) → p < top → at at' p ≡ at t (at front p))
          (hj : (p : ℕ) → p < top → at aj p ≡ at j (at front p)) (he : (p : ℕ) → p < top → at ae p ≡ at e (at front p)) (end : ℕ) (q : end ≡ s + length (rows τ placed x)) where
        module _ (v : Option ℕ) (h : RunVerdict top ac at' aj ae s end below v) where
          -- the verdict on the run is the one that the rule asks for
          pub verdict_is : VerdictIs (F τ own (except (λ k. not (mem placed k)) own) (except (mem placed) own)) (MIN τ own) (least_e τ own) v
          verdict_is =
              run_verdict τ front front_once front_range own s end (places end q) whole
              ac at' aj ae (λ p l. hc p (omega (arith, b.tops))) (λ p l. ht p (omega (arith, b.tops))) (λ p l. hj p (omega (arith, b.tops))) (λ p l. he p (omega (arith, b.tops)))
              (except (λ k. not (mem placed k)) own) (except (mem placed) own) below
              (λ k l. ap (λ (y : Bool). y && not (own k)) (sym (front_rows k l)))
              (b.longest ∙ over_same max 0 n (mem placed) (except (mem placed) own) (at c) (at c) (λ k l. same_test _ _ (λ m. and_intro (mem placed k) (not (own k)) m (not_T (own k) (not_own k l m))) (and_left (mem placed k) (not (own k)))) (λ k l. refl))
              v (subst (λ (y : ℕ). RunVerdict y ac at' aj ae s end below v) (sym b.tops) h)

        -- and the longest C below, with that of the run, is that of the rows then placed
        pub longest_now : {r : ℕ} → LongestIs ac s end below r → r ≡ max_over n (mem (placing τ placed x.row)) (at c)
        longest_now h = h.is ∙ (ap₂ max b.longest run_longest ∙ (sym (max_join n own (mem placed) (at c)) ∙ over_same max 0 n _ _ (at c) (at c) (λ k l. sym (rows_now k l)) (λ k l. refl)))
          where
            run_longest : max_over end (run s end) (at ac) ≡ max_over n own (at c)
            run_longest =
                sym (run_beyond max 0 refl s end (at ac) (λ u v w. omega arith) (length front) (omega (arith, lengths, b.tops)))
                ∙ own_max τ front front_once front_range own s end (places end q) whole ac (at c) (λ p l. hc p (omega (arith, b.tops)))

            rows_now : (k : ℕ) → k < n → mem (placing τ placed x.row) k ≡ (own k || mem placed k)
            rows_now k l = mem_both (rising n own) placed k ∙ ap (λ (y : Bool). y || mem placed k) (rising_rows n own k l)

      -- it passes: it is placed, and the rest waits
      pub before_next : (top' below' : ℕ) → n ≤ limit → top' ≡ top - length (rows τ placed x) → below' ≡ max_over n (mem (placing τ placed x.row)) (at c) → PassesOver τ placed (at key x.row)
          → Before (bands_of τ x.tried.before ++ bands_of τ x.rest) (placing τ placed x.row) top' (tried + (bands + 1)) below'
      unfolding limit
      before_next top' below' few q longest passes =
          let (l, free_band) = row_waits τ placed x in
          record {
            tops = omega (arith, length-append (bands_of τ x.tried.before) (bands_of τ x.rest), x.tried.reached, lengths);
            fits = omega (arith, length-append (rows τ placed x) placed, b.fits, lengths);
            standing = standing_next τ placed x.row b.standing l free_band;
            lined = sym (bands_append τ x.tried.before x.rest) ∙ ap (bands_of τ) (sym (still_waiting τ placed x));
            longest = longest;
            few_tried = omega (arith, b.few_tried, some_rows, lengths, few_bands);
            leads_here =
                λ r f. b.leads_here r (place x.row l (to_try τ placed x x.row (rising_intro n (unplaced τ placed) x.row l free_band), passes) (λ i l. none_sooner τ placed x i (omega arith))
                (subst (λ (y : ℕ). Finds τ free (placing τ placed x.row) y r) (omega (arith, counted_before τ placed x)) f));
          }
        where
          few_bands : bands ≤ x.row
          few_bands = omega (arith, counted_before τ placed x, count_le x.row (candidate τ free placed))

    -- every band was tried, and none passed
    pub stuck_here : {s bands : ℕ} → 0 < top → top ≤ s → Tried τ placed s bands → Finds τ free [] 0 (none bands (tried + bands))
    stuck_here {s} {bands} some h t =
        let (u, l, free_band) = some_band in
        b.leads_here _ (subst₂ (λ (y z : ℕ). Finds τ free placed tried (none y (tried + z))) bands_are candidates_are (stuck u l free_band (λ k i s. t.none_passed k (rw (← every) (rising_intro n (unplaced τ placed) k i (candidate_unplaced τ placed k free s.0))) s.1)))
      where
        every : waiting τ placed ≡ t.before
        every = all_tried τ placed (omega (arith, b.tops, ap length b.lined)) t

        bands_are : count n (unplaced τ placed) ≡ bands
        bands_are = sym (rising_length n (unplaced τ placed)) ∙ (ap length every ∙ sym t.counted)

        candidates_are : count n (candidate τ free placed) ≡ bands
        candidates_are = over_same ◌+◌ 0 n _ _ (λ k. 1) (λ k. 1) (λ k l. and-true (unplaced τ placed k)) (λ k l. refl) ∙ bands_are

        some_band : (u : ℕ) × (u < n) × Is (unplaced τ placed u)
        some_band =
            let (u, w, _, _) = bands_elim τ (waiting τ placed) (at front 0) (rw (← b.lined) (mem_get_or front 0 (omega (arith, b.tops)))) in
            let (l, free_band) = waiting_elim τ placed u w in
            (u, l, free_band)

    -- every row stands
    pub done_here : top ≡ 0 → Finds τ free [] 0 (found placed tried)
    done_here z = b.leads_here _ (done (λ k l u. empty (at_nowhere k (rw (front_rows k l) (not_T (mem placed k) (unplaced_out τ placed k u))))))
      where
        at_nowhere : (k : ℕ) → Is (mem front k) → 0 < length front
        at_nowhere k m = let (p, inside, _) = mem_at front k m in omega arith

        empty : 0 < length front → ⊥
        empty h = omega (arith, b.tops)
