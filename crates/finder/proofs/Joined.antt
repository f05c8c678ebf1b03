-- What is found over columns is found over the words that they were read from. Assumes nothing.
use Prim.Native.Nat.{ℕ, suc, ◌+◌, ◌≤◌, ◌<◌}
use native.Mathlib.Nat.{le_refl}
use native.Mathlib.Omega.{arith}
use mathlib.Core.Path.{◌≡◌, refl, sym, ap, ap₂, subst, subst₂}
use mathlib.Core.Bool.{Bool, not, ◌&&◌}
use mathlib.Core.List.{List, [], ◌++◌}
use lib.ListN.{length}
use lib.Dec.{eqb}
use Rattle.sums.specs.Masks.{except}
use Rattle.sums.specs.MaskLaws.{any_same}
use Rattle.sums.specs.Sums.{count}
use Rattle.sums.specs.Least.{Fits}
use Rattle.sums.specs.Laws.{over_same}
use Rattle.sums.specs.Columns.{at as entry}
use Rattle.order.specs.Table.{Table, band}
use Rattle.order.specs.Orders.{mem}
use Rattle.order.specs.Sheet.{sheet}
use Rattle.order.specs.Same.{SameRows, same, same_back}
use Rattle.intake.specs.Words.{rows, table_of}
use Rattle.intake.specs.Answer.{Answer}
use Rattle.intake.specs.Laws.{replied_answered}
use Rattle.intake.specs.Holds.{Holds, TakenIn}
use Rattle.finder.specs.Placing.{Ending, none, leads, unplaced, placing, free, candidate, Stands, Finds, done, place, stuck}
use Rattle.finder.specs.Rising.{rising_same}
use Rattle.finder.specs.Searched.{Answered, Searched}

module _ (τ : Table) (c t j e key : List ℕ) (h : Holds τ τ.n c t j e key) where
  abbrev σ : Table
  σ = sheet τ.n c t j e key

  band_same : (k : ℕ) → k < τ.n → SameRows τ.n (band σ (entry key k)) (band τ (τ.key k))
  band_same k l i b = ap₂ eqb (h.is_key i b) (h.is_key k l)

  leads_same : SameRows τ.n (leads σ) (leads τ)
  unfolding leads
  leads_same k l = ap not (any_same k _ _ (λ i b. band_same k l i (omega arith)))

  unplaced_same : (placed : List ℕ) → SameRows τ.n (unplaced σ placed) (unplaced τ placed)
  unplaced_same placed k l = ap (λ (x : Bool). x && not (mem placed k)) (leads_same k l)

  candidate_same : (placed : List ℕ) → SameRows τ.n (candidate σ free placed) (candidate τ free placed)
  candidate_same placed k l = ap (λ (x : Bool). x && free placed (τ.key k)) (unplaced_same placed k l)

  count_same : (placed : List ℕ) (k : ℕ) → k ≤ τ.n → count k (candidate σ free placed) ≡ count k (candidate τ free placed)
  count_same placed k l = over_same ◌+◌ 0 k _ _ (λ i. 1) (λ i. 1) (λ i b. candidate_same placed i (omega arith)) (λ i b. refl)

  placing_same : (placed : List ℕ) (k : ℕ) → k < τ.n → placing σ placed k ≡ placing τ placed k
  placing_same placed k l = ap (λ (x : List ℕ). x ++ placed) (rising_same τ.n _ _ (band_same k l))

  -- the verdict at a place is one, and so who stands there
  module _ (placed : List ℕ) (k : ℕ) (l : k < τ.n) where
    above_same : SameRows τ.n (except (λ i. not (mem placed i)) (band σ (entry key k))) (except (λ i. not (mem placed i)) (band τ (τ.key k)))
    above_same i b = ap (λ (x : Bool). not (mem placed i) && not x) (band_same k l i b)

    below_same : SameRows τ.n (except (mem placed) (band σ (entry key k))) (except (mem placed) (band τ (τ.key k)))
    below_same i b = ap (λ (x : Bool). mem placed i && not x) (band_same k l i b)

    stands_same : Stands σ free placed k → Stands τ free placed k
    stands_same s = (
      rw (← candidate_same placed k l) s.0,
      same τ.n (entry c) τ.C (entry t) τ.T (entry j) τ.J (entry e) τ.E (entry key) τ.key h.is_C h.is_T h.is_J h.is_E _ _ _ _ _ _ (band_same k l) above_same below_same Fits s.1,
    )

    stands_back : Stands τ free placed k → Stands σ free placed k
    stands_back s = (
      rw (candidate_same placed k l) s.0,
      same_back τ.n (entry c) τ.C (entry t) τ.T (entry j) τ.J (entry e) τ.E (entry key) τ.key h.is_C h.is_T h.is_J h.is_E _ _ _ _ _ _ (band_same k l) above_same below_same Fits s.1,
    )

  finds_same : {placed : List ℕ} {x : ℕ} {r : Ending} → Finds σ free placed x r → Finds τ free placed x r
  finds_same {placed} (done no_one) = done (λ k l u. no_one k l (rw (unplaced_same placed k l) u))
  finds_same {placed} {x} {r} (place k l s first f) =
      place k l (stands_same placed k l s) (λ i b z. first i b (stands_back placed i (omega arith) z))
      (subst₂ (λ (p : List ℕ) (y : ℕ). Finds τ free p (x + suc y) r) (placing_same placed k l) (count_same placed k (omega arith)) (finds_same f))
  finds_same {placed} {x} (stuck u l unplaced_band no_one) =
      subst₂ (λ (y z : ℕ). Finds τ free placed x (none y (x + z)))
      (sym (over_same ◌+◌ 0 τ.n _ _ (λ i. 1) (λ i. 1) (unplaced_same placed) (λ i b. refl))) (sym (count_same placed τ.n (le_refl τ.n)))
      (stuck u l (rw (← unplaced_same placed u l) unplaced_band) (λ k b z. no_one k b (stands_back placed k b z)))

-- what is found over the columns of a table that was taken in is found over its words
pub joined : (words before after : List ℕ) (a : Answer) {n : ℕ} {c t j e key : List ℕ} → TakenIn words (length before) n c t j e key → Answered (sheet n c t j e key) before after a → Searched words before after a
joined words before after a {n} {c} {t} {j} {e} {key} x h =
    let same_count : sheet n c t j e key ≡ sheet (rows words) c t j e key = ap (λ (m : ℕ). sheet m c t j e key) x.count in
    let holds : Holds (table_of words) (rows words) c t j e key = subst (λ (m : ℕ). Holds (table_of words) m c t j e key) x.count x.holds in
    replied_answered x.unrefused
    (record { ending = h.ending; follows = finds_same (table_of words) c t j e key holds (subst (λ (τ : Table). Finds τ free [] 0 h.ending) same_count h.follows); told = h.told })
