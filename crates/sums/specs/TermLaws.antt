-- The columns of rows, place by place: a number of the row at a place is the number at that place of its column.
-- Assumes nothing.
use Rattle.std.specs.Prelude.{ℕ, ◌+◌, ◌-◌, ◌<◌, ◌≡◌, List, length, get_or, take, drop}
use Rattle.std.proofs.Common.{arith, sym, ap, ◌∙◌}
use Rattle.std.proofs.Math.ListN.{get_or-map as get_or-map'}
use Rattle.std.proofs.lemmas.List.{get_or-map, get_or-take, get_or-drop, length-take, length-drop, length-map, take-map}
use Rattle.sums.specs.Columns.{at}
use Rattle.sums.specs.Terms.{column, keys, nothing, Bounded, Rates}
use Rattle.sums.specs.declared.Terms.{Terms}

pub at_column : (f : Terms → ℕ) (rows : List Terms) (k : ℕ) (d : Terms) → k < length rows → at (column f rows) k ≡ f (get_or rows k d)
at_column f rows k d l = get_or-map f rows k d 0 l

-- the same of a key, at any place
pub at_key : (rows : List Terms) (k : ℕ) → at (keys rows) k ≡ (get_or rows k nothing).key
at_key rows k = get_or-map' (λ row. row.key) rows k nothing

pub bounded : (rows : List Terms) (k : ℕ) (d : Terms) → Rates rows → k < length rows → Bounded (get_or rows k d)
bounded rows k d h l =
    record {
      c_most = omega (arith, at_column (λ row. row.length) rows k d l, h.c_most k l);
      t_least = omega (arith, at_column (λ row. row.period) rows k d l, h.t_least k l);
      t_most = omega (arith, at_column (λ row. row.period) rows k d l, h.t_most k l);
      j_most = omega (arith, at_column (λ row. row.jitter) rows k d l, h.j_most k l);
    }

-- a run of places, cut out: the row at place i of it stands at place from + i of all
module _ (rows : List Terms) (from to i : ℕ) (l : i < length (take (to - from) (drop from rows))) where
  pub cut_inside : from + i < to
  cut_inside = omega (arith, length-take (to - from) (drop from rows), length-drop from rows)

  pub cut_within : from + i < length rows
  cut_within = omega (arith, length-take (to - from) (drop from rows), length-drop from rows)

  pub cut_row : (d : Terms) → get_or (take (to - from) (drop from rows)) i d ≡ get_or rows (from + i) d
  cut_row d = get_or-take (to - from) (drop from rows) i d (omega (arith, length-take (to - from) (drop from rows))) ∙ get_or-drop from rows i d

  -- its numbers are those of its columns there
  pub cut_at : (f : Terms → ℕ) → f (get_or (take (to - from) (drop from rows)) i nothing) ≡ at (column f rows) (from + i)
  cut_at f = ap f (cut_row nothing) ∙ sym (at_column f rows (from + i) nothing cut_within)

-- the first places of rows
pub at_part : (f : Terms → ℕ) (rows : List Terms) (n k : ℕ) → k < n → at (column f (take n rows)) k ≡ at (column f rows) k
at_part f rows n k l = ap (λ (c : List ℕ). at c k) (sym (take-map f n rows)) ∙ get_or-take n (column f rows) k 0 l

pub length_column : (f : Terms → ℕ) (rows : List Terms) → length (column f rows) ≡ length rows
length_column f rows = length-map rows f
