-- The placing rule of document 01's 'Finding an order', as a relation over a test of who may stand at a place. A band is tried and counted
-- at its first row. Definitions only.
-- Assumes nothing.
use Rattle.std.specs.Prelude.{ℕ, zero, suc, ◌+◌, ◌<◌, Bool, true, not, cond, ◌&&◌, List, [], ◌∷◌, ◌++◌, T as Is}
use Rattle.sums.specs.Masks.{Mask, except, any_below, None}
use Rattle.sums.specs.Sums.{count}
use Rattle.order.specs.Table.{Table, band, Passes}
use Rattle.order.specs.Orders.{mem}

-- how finding ends: with the order, highest priority first, and how many bands were tried; or with how many are unplaced, and how many were
-- tried
pub data Ending : Type 0 where
  found : (order : List ℕ) (tried : ℕ) → Ending
  none : (unplaced tried : ℕ) → Ending

-- the numbers below n that pass a test, rising
unfoldable pub rising : ℕ → Mask → List ℕ
rising zero m = []
rising (suc n) m = rising n m ++ cond (m n) (n ∷ []) []

module _ (τ : Table) where
  -- row k is the first of its band
  unfoldable pub leads : Mask
  leads k = not (any_below k (band τ (τ.key k)))

  -- the unplaced bands, each at its first row
  abbrev pub unplaced : (placed : List ℕ) → Mask
  unplaced placed = except leads (mem placed)

  -- the rows of the band of row k, rising, and then those placed already
  abbrev pub placing : (placed : List ℕ) (k : ℕ) → List ℕ
  placing placed k = rising τ.n (band τ (τ.key k)) ++ placed

  -- the band with key b passes at the place above the rows placed: the other unplaced rows are above it, and those placed below
  abbrev pub PassesOver : (placed : List ℕ) (b : ℕ) → Type 0
  PassesOver placed b = Passes τ (band τ b) (except (λ k. not (mem placed k)) (band τ b)) (except (mem placed) (band τ b))

-- who may stand at a place: the band with key b, above the rows placed
abbrev pub Test : Type 0
Test = (placed : List ℕ) (b : ℕ) → Bool

-- any band may stand anywhere
abbrev pub free : Test
free placed b = true

module _ (τ : Table) (may : Test) where
  -- the bands to try at the next place
  abbrev pub candidate : (placed : List ℕ) → Mask
  candidate placed k = unplaced τ placed k && may placed (τ.key k)

  -- the band of row k is one to try, and passes
  abbrev pub Stands : (placed : List ℕ) (k : ℕ) → Type 0
  Stands placed k = Is (candidate placed k) × PassesOver τ placed (τ.key k)

  -- from the rows placed so far, highest first, and the number of bands tried so far, to the end
  pub data Finds : (placed : List ℕ) (tried : ℕ) → Ending → Type 0 where
    -- no band is unplaced
    done : {placed : List ℕ} {t : ℕ} → None τ.n (unplaced τ placed) → Finds placed t (found placed t)
    -- the band of row k is the first that passes: it is placed, and one more is tried than there are to try before it
    place : {placed : List ℕ} {t : ℕ} {r : Ending} (k : ℕ) → k < τ.n → Stands placed k → ((i : ℕ) → i < k → Stands placed i → ⊥)
        → Finds (placing τ placed k) (t + suc (count k (candidate placed))) r → Finds placed t r
    -- a band is unplaced, and none of those to try passes: all of them are tried
    stuck : {placed : List ℕ} {t : ℕ} (u : ℕ) → u < τ.n → Is (unplaced τ placed u) → ((k : ℕ) → k < τ.n → Stands placed k → ⊥)
        → Finds placed t (none (count τ.n (unplaced τ placed)) (t + count τ.n (candidate placed)))
