-- A table as code holds it, by its columns, and what the functions over it answer. For a verdict the rows stand along an order, and a band's
-- rows in a run of places. Definitions only.
-- Assumes nothing.
use Rattle.std.specs.Prelude.{ℕ, ◌+◌, ◌-◌, ◌≤◌, ◌<◌, max, ◌≡◌, List, length, get_or, Option, Some, None}
use Rattle.sums.specs.Masks.{Mask, run, outside}
use Rattle.sums.specs.Sums.{sum_over, max_over, min_from, min_over, demand}
use Rattle.sums.specs.Least.{Fits}
use Rattle.sums.specs.Columns.{Columns, at}
use Rattle.sums.specs.Terms.{lengths, periods, jitters, allowed, keys}
use Rattle.sums.specs.declared.Terms.{Terms}
use Rattle.licence.specs.Limit.{limit}
use Rattle.order.specs.Table.{Table, FigureIs}
use Rattle.order.specs.declared.Numbers.{Numbers}

-- the table of n rows that the columns hold
abbrev pub sheet : (n : ℕ) (c t j e key : List ℕ) → Table
sheet n c t j e key = record { n = n; C = at c; T = at t; J = at j; E = at e; key = at key }

-- the table of these rows
abbrev pub sheet_of : List Terms → Table
sheet_of rows = sheet (length rows) (lengths rows) (periods rows) (jitters rows) (allowed rows) (keys rows)

-- the columns of C and E, with numbers as document 01 allows them and few enough rows that no sum of lengths wraps
pub record Lengths (n : ℕ) (c e : List ℕ) : Type 0 where
  pub few : n ≤ limit
  pub long_c : n ≤ length c
  pub long_e : n ≤ length e
  pub c_most : (k : ℕ) → k < n → at c k ≤ 4096
  pub e_most : (k : ℕ) → k < n → at e k ≤ 1000000

-- five columns with room for n rows
pub record Room (n : ℕ) (c t j e key : List ℕ) : Type 0 where
  pub long_c : n ≤ length c
  pub long_t : n ≤ length t
  pub long_j : n ≤ length j
  pub long_e : n ≤ length e
  pub long_key : n ≤ length key

-- ---- columns along an order

-- a column along an order of n rows
abbrev pub Along : (n : ℕ) (column order along : List ℕ) → Type 0
Along n column order along = (p : ℕ) → p < n → at along p ≡ at column (at order p)

-- five columns along an order of n rows
pub record Aligned (n : ℕ) (c t j e key order c' t' j' e' key' : List ℕ) : Type 0 where
  pub along_c : Along n c order c'
  pub along_t : Along n t order t'
  pub along_j : Along n j order j'
  pub along_e : Along n e order e'
  pub along_key : Along n key order key'

-- an order of these rows
abbrev pub EntriesIn : (rows : List Terms) (order : List ℕ) → Type 0
EntriesIn rows order = (p : ℕ) → p < length order → at order p < length rows

-- the rows along the order
abbrev pub Placed : (rows : List Terms) (order : List ℕ) (along : List Terms) → Type 0
Placed rows order along = (p : ℕ) (d : Terms) → p < length order → get_or along p d ≡ get_or rows (at order p) d

-- ---- a band at the places s .. e - 1

-- more than any number of a row: the greatest 32-bit word
abbrev pub top : ℕ
top = 4294967295

-- MAX, SUM, MIN and the least time allowed of the places of m below k; a least number starts at the top
pub record NumbersAre (k : ℕ) (C A : ℕ → ℕ) (m : Mask) (x : Numbers) : Type 0 where
  pub longest : x.longest ≡ max_over k m C
  pub sum : x.sum ≡ sum_over k m C
  pub shortest : x.shortest ≡ min_from top k m C
  pub tightest : x.tightest ≡ min_from top k m A

-- a run with a row, in columns of n places, and the longest C below it
pub record RunIn (n : ℕ) (c t j a : List ℕ) (s e below : ℕ) : Type 0 where
  pub rates : Columns n c t j
  pub lengths : Lengths n c a
  pub some : s < e
  pub inside : e ≤ n
  pub short : below ≤ 4096

-- the verdict on a band with right side F, shortest length m and least time allowed e: its figure, or none where it is late
abbrev pub VerdictIs : (F : ℕ → ℕ) (m e : ℕ) → Option ℕ → Type 0
VerdictIs F m e (Some R) = FigureIs F m e R
VerdictIs F m e None = Fits F m e → ⊥

-- the verdict on the run: the rows of the other places below n are above it
abbrev pub RunVerdict : (n : ℕ) (c t j a : List ℕ) (s e below : ℕ) → Option ℕ → Type 0
RunVerdict n c t j a s e below v =
    VerdictIs
    (demand n (at c) (at t) (at j) (max below (max_over n (run s e) (at c)) + (sum_over n (run s e) (at c) - min_over n (run s e) (at c))) (outside s e))
    (min_over n (run s e) (at c))
    (min_over n (run s e) (at a))
    v

-- the same of rows
abbrev pub RunOf : (rows : List Terms) (s e below : ℕ) → Type 0
RunOf rows = RunIn (length rows) (lengths rows) (periods rows) (jitters rows) (allowed rows)

abbrev pub VerdictOf : (rows : List Terms) (s e below : ℕ) → Option ℕ → Type 0
VerdictOf rows = RunVerdict (length rows) (lengths rows) (periods rows) (jitters rows) (allowed rows)

-- places of a column of C, and the longest C below them
pub record Stretch (c : List ℕ) (s e below : ℕ) : Type 0 where
  pub forward : s ≤ e
  pub long : e ≤ length c
  pub most : (p : ℕ) → s ≤ p → p < e → at c p ≤ 4096
  pub short : below ≤ 4096

-- the longest C below and at the places s .. e - 1
pub record LongestIs (c : List ℕ) (s e below r : ℕ) : Type 0 where
  pub is : r ≡ max below (max_over e (run s e) (at c))
  pub short : r ≤ 4096
