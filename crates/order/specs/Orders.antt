-- Orders of rows, highest priority first: what stands above a place and below it, when queues are kept together, and what it is for an
-- order to pass. Definitions only.
-- Assumes nothing.
use Rattle.std.specs.Prelude.{ℕ, suc, ◌-◌, ◌<◌, ◌≡◌, false, not, ◌&&◌, ◌||◌, List, [], ◌∷◌, length, take, drop, T as Is, eqb, leb}
use Rattle.sums.specs.Masks.{Mask, except, any_below}
use Rattle.sums.specs.Columns.{at}
use Rattle.order.specs.Table.{Table, band, Passes, Figure}

-- the rows of a list, as a mask
unfoldable pub mem : List ℕ → Mask
mem [] k = false
mem (x ∷ l) k = eqb k x || mem l k

-- no number stands twice
abbrev pub NoRepeat : List ℕ → Type 0
NoRepeat [] = Unit {0}
NoRepeat (x ∷ l) = (Is (mem l x) → ⊥) × NoRepeat l

-- the entry at place p is out of range, or a repeat of an earlier one
unfoldable pub bad_entry : (n : ℕ) → List ℕ → Mask
bad_entry n o p = leb n (at o p) || any_below p (λ i. eqb (at o i) (at o p))

-- place p resumes a band already left: the band stands at an earlier place, and another one just before p. (A priority row is a band of its
-- own, so only a FIFO is ever resumed.)
unfoldable pub resumes : (key : ℕ → ℕ) → List ℕ → Mask
resumes key o p = any_below p (λ i. eqb (key (at o i)) (key (at o p))) && not (eqb (key (at o (p - 1))) (key (at o p)))

module _ (τ : Table) where
  -- an order: each row number once
  pub record Order (o : List ℕ) : Type 0 where
    pub range : (k : ℕ) → Is (mem o k) → k < τ.n
    pub every : (k : ℕ) → k < τ.n → Is (mem o k)
    pub once : NoRepeat o

  -- the key of the band at place p
  abbrev pub key_at : List ℕ → ℕ → ℕ
  key_at o p = τ.key (at o p)

  -- queues are kept together: what stands between two rows of a band is of that band
  abbrev pub Together : List ℕ → Type 0
  Together o = (a b c : ℕ) → a < b → b < c → c < length o → key_at o a ≡ key_at o c → key_at o b ≡ key_at o a

  -- rows of one band stand in rising row number
  abbrev pub Ranked : List ℕ → Type 0
  Ranked o = (a b : ℕ) → a < b → b < length o → key_at o a ≡ key_at o b → at o a < at o b

  -- the rows of the band at place p; those above it, and those below it
  abbrev pub own : List ℕ → ℕ → Mask
  own o p = band τ (key_at o p)

  abbrev pub above : List ℕ → ℕ → Mask
  above o p = except (mem (take p o)) (own o p)

  abbrev pub below : List ℕ → ℕ → Mask
  below o p = except (mem (drop (suc p) o)) (own o p)

  -- the band at place p passes
  abbrev pub PassesAt : List ℕ → ℕ → Type 0
  PassesAt o p = Passes τ (own o p) (above o p) (below o p)

  -- R is its figure
  abbrev pub FigureAt : List ℕ → ℕ → ℕ → Type 0
  FigureAt o p R = Figure τ (own o p) (above o p) (below o p) R

  -- every band passes
  abbrev pub AllPass : List ℕ → Type 0
  AllPass o = (p : ℕ) → p < length o → PassesAt o p

  -- some order that keeps queues together passes
  abbrev pub HasOrder : Type 0
  HasOrder = (o : List ℕ) × Order o × Together o × AllPass o
