-- The rows are written band by band: one row more of a band, and one band more. Assumes nothing.
use Prim.Native.Nat.{ℕ, ◌+◌, ◌≤◌, ◌<◌}
use native.Mathlib.Numerals.{add-one}
use native.Mathlib.Omega.{arith}
use mathlib.Core.Path.{◌≡◌, refl, sym, ap, ap₂, subst, ◌∙◌}
use mathlib.Core.Logic.{◌⊎◌, inl, inr}
use mathlib.Core.Bool.{Bool, true, false, not}
use mathlib.Core.List.{List, [], ◌∷◌, ◌++◌, append_assoc, append-nil}
use lib.ListN.{length, get_or, set, length-set, take, length-append}
use lib.Seq.{take-suc-set, length-take-le, get_or-take}
use lib.Dec.{T as Is, T_not}
use Rattle.sums.specs.Masks.{Mask, any_below}
use Rattle.sums.specs.MaskLaws.{is_true, any_intro}
use Rattle.sums.specs.Columns.{at}
use Rattle.order.specs.Table.{Table, band}
use Rattle.order.specs.Orders.{mem, NoRepeat}
use Rattle.order.specs.Lists.{mem_get_or}
use Rattle.order.specs.Counting.{count_le, count_list, order_length}
use Rattle.order.specs.Bands.{band_intro}
use Rattle.order.specs.Sheet.{sheet}
use Rattle.order.specs.Marks.{Flags}
use Rattle.finder.specs.Placing.{rising, leads}
use Rattle.finder.specs.Rising.{mem_append, no_repeat_append, rising_elim, rising_once}
use Rattle.finder.specs.Leading.{band_rows_elim}
use Rattle.finder.specs.Steps.{by_band, first_rows}
use Rattle.finder.specs.Tried.{count_before}
use Rattle.finder.proofs.Sorted.{rising_none, rising_here, rising_else, rising_length}
use Rattle.finder.proofs.ByBand.{bands_of, bands_next, bands_none, bands_append, bands_elim, bands_once, bands_all, band_apart}

-- the rows of m below i stand behind the first places
pub record Behind (made : List ℕ) (end : ℕ) (m : Mask) (made' : List ℕ) (next i : ℕ) : Type 0 where
  pub long : length made' ≡ length made
  pub stands : take next made' ≡ take end made ++ rising i m
  pub many : next ≡ end + length (rising i m)

module _ (made : List ℕ) (end : ℕ) (m : Mask) where
  pub behind_none : (i : ℕ) → ((k : ℕ) → k < i → Is (m k) → ⊥) → Behind made end m made end i
  behind_none i h =
      let empty = rising_none i m h in
      record { long = refl; stands = rw empty (sym (append-nil (take end made))); many = rw empty (omega arith) }

  pub behind_here : (n : ℕ) {made' : List ℕ} {next i : ℕ} → end + length (rising n m) ≤ n → n ≤ length made → i < n → m i ≡ true → Behind made end m made' next i
      → (next < n) × Behind made end m (set made' next i) (next + 1) (i + 1)
  behind_here n {made'} {next} {i} room whole l t h = (
    fits,
    record {
      long = length-set made' next i ∙ h.long;
      stands = ap (λ (x : ℕ). take x (set made' next i)) (add-one next) ∙ (take-suc-set made' next i (omega (arith, fits, h.long)) ∙ (ap (λ (x : List ℕ). x ++ (i ∷ [])) h.stands ∙ (append_assoc (take end made) (rising i m) (i ∷ []) ∙ ap (λ (x : List ℕ). take end made ++ x) (sym (rising_here i m t)))));
      many = omega (arith, h.many, ap length (rising_here i m t), length-append (rising i m) (i ∷ []));
    },
  )
    where
      fits : next < n
      fits = omega (arith, h.many, rising_length n m, rising_length i m, count_before n i m m (λ k x. x) l (rw t tt))

  pub behind_else : {made' : List ℕ} {next i : ℕ} → m i ≡ false → Behind made end m made' next i → Behind made end m made' next (i + 1)
  behind_else {made'} {next} {i} f h =
      record { long = h.long; stands = h.stands ∙ ap (λ (x : List ℕ). take end made ++ x) (sym (rising_else i m f)); many = h.many ∙ ap (λ (x : List ℕ). end + length x) (sym (rising_else i m f)) }

module _ (n : ℕ) (key : List ℕ) where
  -- a table of keys alone
  abbrev τ : Table
  τ = sheet n [] [] [] [] key

  firsts_are : (k : ℕ) → first_rows k (at key) ≡ rising k (leads τ)
  unfolding leads
  firsts_are k = refl

  leading : (k i : ℕ) → Is (mem (first_rows k (at key)) i) → (i < k) × Is (leads τ i)
  leading k i h = rising_elim k (leads τ) i (rw (← firsts_are k) h)

  -- a row is the first of its band where the flag of its key is not up yet
  pub leads_flag : (used : List Bool) (most k : ℕ) → Flags (at key) used most k → at key k < most → leads τ k ≡ not (get_or used (at key k) false)
  unfolding leads
  leads_flag used most k h l = ap not (sym (h.up (at key k) l))

  -- no row before it is of its band
  pub before_first : (k : ℕ) → Is (leads τ k) → (i : ℕ) → i < k → at key i ≡ at key k → ⊥
  unfolding leads
  before_first k h i l e = T_not (any_below k (band τ (at key k))) h (any_intro k (band τ (at key k)) i l (band_intro τ (at key k) i e))

  -- the bands of the first rows below k stand
  pub record Lined (made : List ℕ) (end k : ℕ) : Type 0 where
    pub stands : take end made ≡ by_band n (at key) (first_rows k (at key))
    pub many : end ≡ length (by_band n (at key) (first_rows k (at key)))

  pub lined_none : (made : List ℕ) → Lined made 0 0
  unfolding rising
  lined_none made = record { stands = sym (bands_none τ); many = ap length (sym (bands_none τ)) }

  module _ (k : ℕ) (l : k < n) where
    abbrev own : Mask
    own = band τ (at key k)

    module _ (first : Is (leads τ k)) where
      -- with its band no row stands twice, so there is room
      pub lined_room : {made : List ℕ} {end : ℕ} → Lined made end k → end + length (rising n own) ≤ n
      lined_room {made} {end} h =
          omega (arith, h.many, length-append bands (rising n own), count_list n (bands ++ rising n own) once range, count_le n (mem (bands ++ rising n own)))
        where
          bands : List ℕ
          bands = by_band n (at key) (first_rows k (at key))

          lead : (i : ℕ) → Is (mem (first_rows k (at key)) i) → Is (leads τ i)
          lead i m = (leading k i m).1

          once : NoRepeat (bands ++ rising n own)
          once =
              no_repeat_append bands (rising n own) (bands_once τ (first_rows k (at key)) lead (rising_once k _)) (rising_once n own)
              (λ i m o. band_apart τ k (first_rows k (at key)) first lead (λ q. omega (arith, (leading k k q).0)) i (band_rows_elim τ k i o).1 m)

          range : (i : ℕ) → Is (mem (bands ++ rising n own) i) → i < n
          range i m = go (mem_append bands (rising n own) i m)
            where
              go : Is (mem bands i) ⊎ Is (mem (rising n own) i) → i < n
              go (inl q) = (bands_elim τ (first_rows k (at key)) i q).2
              go (inr q) = (rising_elim n own i q).0

      pub lined_next : {made made' : List ℕ} {end next : ℕ} → Lined made end k → next ≤ length made' → take next made' ≡ take end made ++ rising n own → Lined made' next (k + 1)
      lined_next {made} {made'} {end} {next} h room e = record { stands = all; many = sym (length-take-le next made' room) ∙ ap length all }
        where
          one : first_rows (k + 1) (at key) ≡ first_rows k (at key) ++ (k ∷ [])
          one = firsts_are (k + 1) ∙ (rising_here k (leads τ) (is_true (leads τ k) first) ∙ ap (λ (x : List ℕ). x ++ (k ∷ [])) (sym (firsts_are k)))

          all : take next made' ≡ by_band n (at key) (first_rows (k + 1) (at key))
          all =
              e ∙ (ap₂ ◌++◌ h.stands (sym (append-nil (rising n own)) ∙ (ap (λ (x : List ℕ). rising n own ++ x) (sym (bands_none τ)) ∙ sym (bands_next τ k [])))
              ∙ (sym (bands_append τ (first_rows k (at key)) (k ∷ [])) ∙ ap (bands_of τ) (sym one)))

    pub lined_skip : {made : List ℕ} {end : ℕ} → leads τ k ≡ false → Lined made end k → Lined made end (k + 1)
    lined_skip f h =
        let same : first_rows k (at key) ≡ first_rows (k + 1) (at key) = firsts_are k ∙ (sym (rising_else k (leads τ) f) ∙ sym (firsts_are (k + 1))) in
        record { stands = h.stands ∙ ap (bands_of τ) same; many = h.many ∙ ap (λ (x : List ℕ). length (bands_of τ x)) same }

  -- all rows stand
  pub lined_all : {made : List ℕ} {end : ℕ} → Lined made end n → take n made ≡ by_band n (at key) (first_rows n (at key))
  lined_all {made} h =
      let all = order_length τ _ (bands_all τ) in
      ap (λ (x : ℕ). take x made) (sym (h.many ∙ (ap (λ (x : List ℕ). length (bands_of τ x)) (firsts_are n) ∙ all))) ∙ h.stands

  -- and each place has a row
  pub lined_range : (made : List ℕ) → n ≤ length made → take n made ≡ by_band n (at key) (first_rows n (at key)) → (p : ℕ) → p < n → at made p < n
  lined_range made long e p l =
      (bands_elim τ (first_rows n (at key)) (at made p)
      (subst (λ (x : List ℕ). Is (mem x (at made p))) e (subst (λ (y : ℕ). Is (mem (take n made) y)) (get_or-take n made p 0 l) (mem_get_or (take n made) p (omega (arith, length-take-le n made long)))))).2
