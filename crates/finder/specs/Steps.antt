-- What the functions of this crate answer. The rows' places in the table stand in one list, `made`: before place `top` those not placed, band by
-- band, and from there on those placed. The rows stand along it. Definitions only.
-- Assumes nothing.
use Rattle.std.specs.Prelude.{ℕ, ◌+◌, ◌-◌, ◌≤◌, ◌<◌, ◌≡◌, not, cond, List, [], ◌∷◌, ◌++◌, length, get_or, eqb, ltb}
use Rattle.sums.specs.Masks.{Mask}
use Rattle.sums.specs.Columns.{at}
use Rattle.licence.specs.Limit.{limit}
use Rattle.order.specs.Marks.{shown_before}
use Rattle.finder.specs.Placing.{rising}

-- the rows of the band with key b
abbrev pub own_of : (key : List ℕ) (b : ℕ) → Mask
own_of key b k = eqb (at key k) b

-- row k is the first of its band, and there is room for the rows of the band from place `end` on
pub record Puts (n : ℕ) (key : List ℕ) (k : ℕ) (made : List ℕ) (end : ℕ) : Type 0 where
  pub few : n ≤ limit
  pub long_key : n ≤ length key
  pub inside : k < n
  pub first : (i : ℕ) → i < k → at key i ≡ at key k → ⊥
  pub room : end + length (rising n (own_of key (at key k))) ≤ n
  pub long_made : n ≤ length made

-- the rows of the bands of some rows, band by band, each band's rising
unfoldable pub by_band : (n : ℕ) (key : ℕ → ℕ) → List ℕ → List ℕ
by_band n key [] = []
by_band n key (k ∷ l) = rising n (λ i. eqb (key i) (key k)) ++ by_band n key l

-- the first row of each band
abbrev pub first_rows : (n : ℕ) (key : ℕ → ℕ) → List ℕ
first_rows n key = rising n (λ k. not (shown_before key k (key k)))

-- e is where the run of one key from place s on ends
pub record RunEnds (key : List ℕ) (s top e : ℕ) : Type 0 where
  pub after : s < e
  pub within : e ≤ top
  pub one : (p : ℕ) → s ≤ p → p < e → at key p ≡ at key s
  pub other : e < top → at key e ≡ at key s → ⊥

-- the places s to e - 1 go behind those up to top, which close up: where what then stands at place p stood before
unfoldable pub turned : (s e top p : ℕ) → ℕ
turned s e top p = cond (ltb p s) p (cond (ltb (p + (e - s)) top) (p + (e - s)) (cond (ltb p top) (s + (p + (e - s) - top)) p))

pub record Turned {A : Type 0} (s e top : ℕ) (list list' : List A) : Type 0 where
  pub long : length list' ≡ length list
  pub moved : (p : ℕ) (d : A) → get_or list' p d ≡ get_or list (turned s e top p) d

-- the run goes behind in all six
pub record SixTurned (s e top : ℕ) (made c t j a key made' c' t' j' a' key' : List ℕ) : Type 0 where
  pub turned_made : Turned s e top made made'
  pub turned_c : Turned s e top c c'
  pub turned_t : Turned s e top t t'
  pub turned_j : Turned s e top j j'
  pub turned_a : Turned s e top a a'
  pub turned_key : Turned s e top key key'
