-- A run that goes behind the places up to top: what stands where afterwards. Assumes nothing.
use Prim.Native.Nat.{ℕ, ◌+◌, ◌-◌, ◌≤◌, ◌<◌}
use native.Mathlib.Decide.{dec_lt}
use native.Mathlib.Omega.{arith}
use mathlib.Core.Path.{◌≡◌, refl, sym, ap, ◌∙◌}
use mathlib.Core.List.{List, ◌++◌}
use lib.ListN.{length, get_or, take, drop, length-append, length-drop, get_or-append}
use lib.Seq.{slice, length-slice, length-take-le, get_or-take, get_or-drop, get_or-append-add, ext_get_or}
use Rattle.std.specs.List.{RotatedLeft}
use Rattle.std.proofs.lemmas.List.{get_or-append_right}
use borrow.Author.Tests.{lt-ltb, le-ltb}
use Rattle.sums.specs.Columns.{at}
use Rattle.finder.specs.Rising.{at_left, at_right}
use Rattle.finder.specs.Steps.{turned, Turned}

module _ (s e top p : ℕ) where
  -- before the run nothing moves
  pub turned_before : p < s → turned s e top p ≡ p
  unfolding turned
  turned_before h = rw (lt-ltb p s h)

  -- those behind it close up
  pub turned_closer : s ≤ p → p + (e - s) < top → turned s e top p ≡ p + (e - s)
  unfolding turned
  turned_closer h k = rw (le-ltb p s h, lt-ltb (p + (e - s)) top k)

  -- the run comes behind them
  pub turned_run : s ≤ p → top ≤ p + (e - s) → p < top → turned s e top p ≡ s + (p + (e - s) - top)
  unfolding turned
  turned_run h k l = rw (le-ltb p s h, le-ltb (p + (e - s)) top k, lt-ltb p top l)

  -- and from top on nothing moves
  pub turned_after : s ≤ top → top ≤ p → turned s e top p ≡ p
  unfolding turned
  turned_after h k = rw (le-ltb p s (omega arith), le-ltb (p + (e - s)) top (omega arith), le-ltb p top k)

  pub turned_within : s ≤ e → e ≤ top → p < top → turned s e top p < top
  turned_within h k l = go (dec_lt p s) (dec_lt (p + (e - s)) top)
    where
      go : Dec (p < s) → Dec (p + (e - s) < top) → turned s e top p < top
      go (yes a) w = rw (turned_before a) l
      go (no a) (yes b) = rw (turned_closer (omega arith) b) b
      go (no a) (no b) = rw (turned_run (omega arith) (omega arith) l) (omega arith)

-- a run that is last already stays where it is
pub turned_last : {A : Type 0} (s e top : ℕ) (list : List A) → s ≤ e → e ≡ top → Turned s e top list list
turned_last s e top list se last = record { long = refl; moved = λ p d. ap (λ (x : ℕ). get_or list x d) (sym (stays p (dec_lt p s) (dec_lt p top))) }
  where
    stays : (p : ℕ) → Dec (p < s) → Dec (p < top) → turned s e top p ≡ p
    stays p (yes a) _ = turned_before s e top p a
    stays p (no a) (yes b) = turned_run s e top p (omega arith) (omega arith) b ∙ omega arith
    stays p (no a) (no b) = turned_after s e top p (omega arith) (omega arith)

-- the places s to top - 1: where they are rotated, the run comes last
module _ {A : Type 0} (s e top : ℕ) (list : List A) (se : s ≤ e) (et : e ≤ top) (long : top ≤ length list) where
  abbrev places : List A
  places = take (top - s) (drop s list)

  abbrev behind : List A
  behind = drop (top - s) (drop s list)

  before_long : length (take s list) ≡ s
  before_long = length-take-le s list (omega arith)

  places_long : length places ≡ top - s
  places_long = length-take-le (top - s) (drop s list) (omega (arith, length-drop s list))

  stood : (q : ℕ) (d : A) → q < top - s → get_or places q d ≡ get_or list (s + q) d
  stood q d l = get_or-take (top - s) (drop s list) q d l ∙ get_or-drop s list q d

  pub rotated : (part : List A) → length part ≡ length places → RotatedLeft places part (length places) (e - s) → Turned s e top list (take s list ++ (part ++ behind))
  rotated part same r =
      record {
        long = omega (arith, length-append (take s list) (part ++ behind), length-append part behind, length-drop (top - s) (drop s list), length-drop s list, before_long, places_long);
        moved = λ p d. go p d (dec_lt p s) (dec_lt (p + (e - s)) top) (dec_lt p top);
      }
    where
      -- what stands behind the places before s, and in the part
      later : (p : ℕ) (d : A) → s ≤ p → get_or (take s list ++ (part ++ behind)) p d ≡ get_or (part ++ behind) (p - s) d
      later p d h = ap (λ (x : ℕ). get_or (take s list ++ (part ++ behind)) x d) (omega (arith, before_long)) ∙ get_or-append-add (take s list) (part ++ behind) (p - s) d

      within : (p : ℕ) (d : A) → s ≤ p → p < top → get_or (take s list ++ (part ++ behind)) p d ≡ get_or part (p - s) d
      within p d h l = later p d h ∙ get_or-append part behind d (p - s) (omega (arith, same, places_long))

      go : (p : ℕ) (d : A) → Dec (p < s) → Dec (p + (e - s) < top) → Dec (p < top) → get_or (take s list ++ (part ++ behind)) p d ≡ get_or list (turned s e top p) d
      go p d (yes a) _ _ = rw (turned_before s e top p a) (get_or-append (take s list) (part ++ behind) d p (omega (arith, before_long)) ∙ get_or-take s list p d a)
      go p d (no a) (yes b) _ =
          rw (turned_closer s e top p (omega arith) b)
          (within p d (omega arith) (omega arith) ∙ (r.0 (p - s) d (omega (arith, places_long)) ∙ (stood (p - s + (e - s)) d (omega arith) ∙ ap (λ (x : ℕ). get_or list x d) (omega arith))))
      go p d (no a) (no b) (yes c) =
          rw (turned_run s e top p (omega arith) (omega arith) c)
          (within p d (omega arith) c ∙ (r.1 (p - s) d (omega (arith, places_long)) (omega (arith, places_long)) ∙ (stood _ d (omega (arith, places_long)) ∙ ap (λ (x : ℕ). get_or list x d) (omega (arith, places_long)))))
      go p d (no a) (no b) (no c) =
          rw (turned_after s e top p (omega arith) (omega arith))
          (later p d (omega arith) ∙ (ap (λ (x : ℕ). get_or (part ++ behind) x d) (omega (arith, same, places_long)) ∙ (get_or-append-add part behind (p - top) d
          ∙ (get_or-drop (top - s) (drop s list) (p - top) d ∙ (get_or-drop s list (top - s + (p - top)) d ∙ ap (λ (x : ℕ). get_or list x d) (omega arith))))))

  -- those behind the run, and the run
  abbrev closer : List A
  closer = take (top - e) (drop e list)

  abbrev run : List A
  run = take (e - s) (drop s list)

  pub closer_long : length closer ≡ top - e
  closer_long = length-take-le (top - e) (drop e list) (omega (arith, length-drop e list))

  pub run_long : length run ≡ e - s
  run_long = length-take-le (e - s) (drop s list) (omega (arith, length-drop s list))

  -- laid one behind the other, they are the places rotated
  pub laid_behind : Turned s e top list (take s list ++ ((closer ++ run) ++ behind))
  laid_behind =
      rotated (closer ++ run) (omega (arith, length-append closer run, closer_long, run_long, places_long)) (
        λ k d l. get_or-append closer run d k (omega (arith, closer_long, places_long))
            ∙ (get_or-take (top - e) (drop e list) k d (omega (arith, places_long)) ∙ (get_or-drop e list k d ∙ (ap (λ (x : ℕ). get_or list x d) (omega arith) ∙ sym (stood (k + (e - s)) d (omega (arith, places_long)))))),
        λ k d h l. get_or-append_right closer run (top - e) k d closer_long (omega (arith, places_long))
            ∙ (get_or-take (e - s) (drop s list) (k - (top - e)) d (omega (arith, places_long)) ∙ (get_or-drop s list (k - (top - e)) d
            ∙ (ap (λ (x : ℕ). get_or list x d) (omega (arith, places_long)) ∙ sym (stood _ d (omega (arith, places_long)))))),
      )

-- the places up to top turned by themselves: the whole list is then turned up to there
module _ {A : Type 0} (s e top : ℕ) (list part : List A) (se : s ≤ e) (et : e ≤ top) (long : top ≤ length list) where
  abbrev first : List A
  first = take top list

  first_long : length first ≡ top
  first_long = length-take-le top list long

  pub turned_whole : Turned s e (length first) first part → Turned s e top list (part ++ drop top list)
  turned_whole t =
      record {
        long = omega (arith, length-append part (drop top list), t.long, first_long, length-drop top list);
        moved = λ p d. go p d (dec_lt p top);
      }
    where
      go : (p : ℕ) (d : A) → Dec (p < top) → get_or (part ++ drop top list) p d ≡ get_or list (turned s e top p) d
      go p d (yes a) =
          get_or-append part (drop top list) d p (omega (arith, t.long, first_long))
          ∙ (t.moved p d ∙ (ap (λ (x : ℕ). get_or first (turned s e x p) d) first_long ∙ get_or-take top list (turned s e top p) d (turned_within s e top p se et a)))
      go p d (no a) =
          rw (turned_after s e top p (omega arith) (omega arith))
          (ap (λ (x : ℕ). get_or (part ++ drop top list) x d) (omega (arith, t.long, first_long)) ∙ (get_or-append-add part (drop top list) (p - top) d
          ∙ (get_or-drop top list (p - top) d ∙ ap (λ (x : ℕ). get_or list x d) (omega arith))))

-- a list that is turned: before its new top those before the run and those behind it, and from there on the run and what stood from top on
module _ {s e top : ℕ} {list list' : List ℕ} (t : Turned s e top list list') (se : s ≤ e) (et : e ≤ top) where
  pub front_now : top ≤ length list → take (top - (e - s)) list' ≡ take s list ++ slice e top list
  front_now long =
      ext_get_or 0 (take (top - (e - s)) list') (take s list ++ slice e top list)
      (length-take-le (top - (e - s)) list' (omega (arith, t.long)) ∙ omega (arith, length-append (take s list) (slice e top list), length-take-le s list (omega arith), length-slice e top list long))
      (λ p l. let h : p < top - (e - s) = omega (arith, length-take-le (top - (e - s)) list' (omega (arith, t.long))) in
      get_or-take (top - (e - s)) list' p 0 h ∙ (t.moved p 0 ∙ go p h (dec_lt p s)))
    where
      go : (p : ℕ) → p < top - (e - s) → Dec (p < s) → at list (turned s e top p) ≡ at (take s list ++ slice e top list) p
      go p h (yes a) = ap (at list) (turned_before s e top p a) ∙ (sym (get_or-take s list p 0 a) ∙ sym (at_left (take s list) (slice e top list) p (omega (arith, length-take-le s list (omega arith)))))
      go p h (no a) =
          let q : e + (p - s) ≡ p + (e - s) = omega arith in
          ap (at list) (turned_closer s e top p (omega arith) (omega arith))
          ∙ sym (at_right (take s list) (slice e top list) p (omega (arith, length-take-le s list (omega arith)))
          ∙ (ap (at (slice e top list)) (omega (arith, length-take-le s list (omega arith)))
          ∙ (get_or-drop e (take top list) (p - s) 0 ∙ (get_or-take top list (e + (p - s)) 0 (omega arith) ∙ ap (at list) q))))

  pub back_now : (n : ℕ) → top ≤ n → n ≤ length list → slice (top - (e - s)) n list' ≡ slice s e list ++ slice top n list
  back_now n tn long =
      ext_get_or 0 (slice (top - (e - s)) n list') (slice s e list ++ slice top n list)
      (length-slice (top - (e - s)) n list' (omega (arith, t.long)) ∙ omega (arith, length-append (slice s e list) (slice top n list), length-slice s e list (omega arith), length-slice top n list long))
      (λ p l. let h : p < n - (top - (e - s)) = omega (arith, length-slice (top - (e - s)) n list' (omega (arith, t.long))) in
      get_or-drop (top - (e - s)) (take n list') p 0 ∙ (get_or-take n list' (top - (e - s) + p) 0 (omega arith) ∙ (t.moved (top - (e - s) + p) 0 ∙ go p h (dec_lt p (e - s)))))
    where
      go : (p : ℕ) → p < n - (top - (e - s)) → Dec (p < e - s) → at list (turned s e top (top - (e - s) + p)) ≡ at (slice s e list ++ slice top n list) p
      go p h (yes a) =
          let q : s + (top - (e - s) + p + (e - s) - top) ≡ s + p = omega arith in
          ap (at list) (turned_run s e top (top - (e - s) + p) (omega arith) (omega arith) (omega arith) ∙ q)
          ∙ sym (at_left (slice s e list) (slice top n list) p (omega (arith, length-slice s e list (omega arith))) ∙ (get_or-drop s (take e list) p 0 ∙ get_or-take e list (s + p) 0 (omega arith)))
      go p h (no a) =
          let q : top + (p - (e - s)) ≡ top - (e - s) + p = omega arith in
          ap (at list) (turned_after s e top (top - (e - s) + p) (omega arith) (omega arith))
          ∙ sym (at_right (slice s e list) (slice top n list) p (omega (arith, length-slice s e list (omega arith)))
          ∙ (ap (at (slice top n list)) (omega (arith, length-slice s e list (omega arith)))
          ∙ (get_or-drop top (take n list) (p - (e - s)) 0 ∙ (get_or-take n list (top + (p - (e - s))) 0 (omega arith) ∙ ap (at list) q))))
