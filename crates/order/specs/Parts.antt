-- The first places of rows: what a run there asks for, and the verdict on it, are those of the columns of all the rows, cut at that place.
-- Assumes nothing.
use Rattle.std.specs.Prelude.{ℕ, ◌+◌, ◌≤◌, ◌<◌, max, min, ◌≡◌, Option, List, length, take}
use Rattle.std.proofs.Common.{arith, refl, ap, ap₂, ◌∙◌, length-take}
use Rattle.std.proofs.Math.Path.{subst₃, fun_ext}
use Rattle.sums.specs.Masks.{Mask, run, outside}
use Rattle.sums.specs.Sums.{over, sum_over, max_over, min_from, min_over, load, demand}
use Rattle.sums.specs.Laws.{over_same, load_same}
use Rattle.sums.specs.Columns.{at}
use Rattle.sums.specs.Terms.{column, lengths, periods, jitters, allowed}
use Rattle.sums.specs.TermLaws.{at_part, length_column}
use Rattle.sums.specs.declared.Terms.{Terms}
use Rattle.order.specs.Sheet.{RunIn, RunOf, RunVerdict, VerdictIs, VerdictOf}

module _ (rows : List Terms) (n : ℕ) (l : n ≤ length rows) where
  pub count_part : length (take n rows) ≡ n
  count_part = omega (arith, length-take n rows)

  long : (f : Terms → ℕ) → length (column f (take n rows)) ≡ n
  long f = length_column f (take n rows) ∙ count_part

  -- what is put together over the first places
  over_part : (op : ℕ → ℕ → ℕ) (z : ℕ) (m : Mask) (f : Terms → ℕ) → over op z (length (take n rows)) m (at (column f (take n rows))) ≡ over op z n m (at (column f rows))
  over_part op z m f =
      ap (λ (k : ℕ). over op z k m (at (column f (take n rows)))) count_part
      ∙ over_same op z n m m _ _ (λ k b. refl) (λ k b. at_part f rows n k b)

  least_part : (m : Mask) (f : Terms → ℕ) → min_over (length (take n rows)) m (at (column f (take n rows))) ≡ min_over n m (at (column f rows))
  least_part m f = ap (λ (d : ℕ). min_from d (length (take n rows)) m (at (column f (take n rows)))) (over_part max 0 m f) ∙ over_part min (max_over n m (at (column f rows))) m f

  loads_part : (m : Mask) (w : ℕ) → sum_over (length (take n rows)) m (load (at (lengths (take n rows))) (at (periods (take n rows))) (at (jitters (take n rows))) w)
      ≡ sum_over n m (load (at (lengths rows)) (at (periods rows)) (at (jitters rows)) w)
  loads_part m w =
      ap (λ (k : ℕ). sum_over k m (load (at (lengths (take n rows))) (at (periods (take n rows))) (at (jitters (take n rows))) w)) count_part
      ∙ over_same ◌+◌ 0 n m m _ _ (λ k b. refl) (λ k b. load_same _ _ _ _ _ _ w k k (at_part (λ x. x.length) rows n k b) (at_part (λ x. x.period) rows n k b) (at_part (λ x. x.jitter) rows n k b))

  pub verdict_part : (s e below : ℕ) (v : Option ℕ) → VerdictOf (take n rows) s e below v → RunVerdict n (lengths rows) (periods rows) (jitters rows) (allowed rows) s e below v
  unfolding demand
  verdict_part s e below v h =
      let c = λ (x : Terms). x.length in
      subst₃ (λ (f : ℕ → ℕ) (m x : ℕ). VerdictIs f m x v)
      (fun_ext (λ w. ap₂ ◌+◌ (cc (over_part max 0 (run s e) c, over_part ◌+◌ 0 (run s e) c, least_part (run s e) c)) (loads_part (outside s e) w)))
      (least_part (run s e) c) (least_part (run s e) (λ x. x.allowed)) h

  pub run_part : {s e below : ℕ} → RunIn n (lengths rows) (periods rows) (jitters rows) (allowed rows) s e below → RunOf (take n rows) s e below
  run_part h =
      record {
        rates =
            record {
              long_c = omega (arith, long (λ x. x.length), count_part);
              long_t = omega (arith, long (λ x. x.period), count_part);
              long_j = omega (arith, long (λ x. x.jitter), count_part);
              c_most = λ k b. omega (arith, at_part (λ x. x.length) rows n k (inside k b), h.rates.c_most k (inside k b));
              t_least = λ k b. omega (arith, at_part (λ x. x.period) rows n k (inside k b), h.rates.t_least k (inside k b));
              t_most = λ k b. omega (arith, at_part (λ x. x.period) rows n k (inside k b), h.rates.t_most k (inside k b));
              j_most = λ k b. omega (arith, at_part (λ x. x.jitter) rows n k (inside k b), h.rates.j_most k (inside k b));
            };
        lengths =
            record {
              few = omega (arith, h.lengths.few, count_part);
              long_c = omega (arith, long (λ x. x.length), count_part);
              long_e = omega (arith, long (λ x. x.allowed), count_part);
              c_most = λ k b. omega (arith, at_part (λ x. x.length) rows n k (inside k b), h.lengths.c_most k (inside k b));
              e_most = λ k b. omega (arith, at_part (λ x. x.allowed) rows n k (inside k b), h.lengths.e_most k (inside k b));
            };
        some = h.some;
        inside = omega (arith, h.inside, count_part);
        short = h.short;
      }
    where
      inside : (k : ℕ) → k < length (take n rows) → k < n
      inside k b = omega (arith, count_part)
