-- When each of the refusals 5 to 7 is given, and the answer where none is. Assumes nothing.
use Rattle.std.specs.Prelude.{ℕ, ◌≤◌, ◌<◌, Option, Some, None as nothing, Ok}
use mathlib.Core.Path.{◌≡◌, refl, sym, subst}
use mathlib.Core.Logic.{inl, inr}
use mathlib.Core.List.{List}
use lib.ListN.{length}
use lib.Dec.{T as Is, eqb, eqb→eq, eqb_refl}
use borrow.Author.Tests.{eq-eqb, ne_eqb}
use native.Mathlib.Omega.{arith}
use Rattle.sums.specs.Masks.{at, nowhere, lowest, None}
use Rattle.sums.specs.MaskLaws.{Lowest, is_at, lowest_is, lowest_none, none_lowest}
use Rattle.sums.specs.Columns.{at as entry}
use Rattle.order.specs.Table.{Table}
use Rattle.order.specs.Orders.{bad_entry, resumes, PassesAt, own, above, below}
use Rattle.order.specs.Figures.{figure_passes}
use Rattle.intake.specs.Answer.{answer, refused, fine}
use Rattle.judge.specs.Judged.{judgement_answer, order_refusal, LateAt, ShownAt, Written, Answered}
use Rattle.judge.proofs.Outcome.{zero_late}
use Rattle.judge.specs.Walk.{place_of, zero_at}

module _ (τ : Table) (o : List ℕ) where
  pub refuse_5 : (length o ≡ τ.n → ⊥) → order_refusal τ o ≡ refused (answer 5 0 0)
  unfolding order_refusal
  refuse_5 h = rw (ne_eqb (length o) τ.n h)

  module _ (count : length o ≡ τ.n) where
    pub refuse_6 : {p : ℕ} → lowest τ.n (bad_entry τ.n o) ≡ at p → order_refusal τ o ≡ refused (answer 6 p 0)
    unfolding order_refusal
    refuse_6 l = rw (eq-eqb (length o) τ.n count, l)

    pub refuse_7 : {p : ℕ} → None τ.n (bad_entry τ.n o) → lowest τ.n (resumes τ.key o) ≡ at p → order_refusal τ o ≡ refused (answer 7 p 0)
    unfolding order_refusal
    refuse_7 d m = rw (eq-eqb (length o) τ.n count, lowest_none τ.n (bad_entry τ.n o) d, m)

    pub refuse_none : None τ.n (bad_entry τ.n o) → lowest τ.n (resumes τ.key o) ≡ nowhere → order_refusal τ o ≡ fine
    unfolding order_refusal
    refuse_none d m = rw (eq-eqb (length o) τ.n count, lowest_none τ.n (bad_entry τ.n o) d, m)

-- the first 0 in the lent list is the first late place
module _ (τ : Table) (o before after : List ℕ) (some : (k : ℕ) → k < τ.n → 1 ≤ τ.C k) (range : (p : ℕ) → p < τ.n → entry o p < τ.n) (w : Written τ o before after) where
  late_there : (p : ℕ) → p < τ.n → Is (zero_at after o p) → LateAt τ o p
  unfolding zero_at
  late_there p l z = (zero_late τ o some p (range p l) (w.figures p l)).0 (eqb→eq (entry after (entry o p)) 0 z)

  passes_there : (p : ℕ) → p < τ.n → (Is (zero_at after o p) → ⊥) → PassesAt τ o p
  unfolding zero_at
  passes_there p l z = go (w.figures p l)
    where
      go : ShownAt τ o p (entry after (entry o p)) → PassesAt τ o p
      go (inl f) = figure_passes τ (own τ o p) (above τ o p) (below τ o p) f
      go (inr y) = absurd (z (subst (λ (x : ℕ). Is (eqb x 0)) (sym y.1) (eqb_refl 0)))

  -- so the answer is what the search for the first 0 found
  pub answered : (r : Option ℕ) → place_of r ≡ lowest τ.n (zero_at after o) → Answered τ o before after (judgement_answer (Ok r))
  answered (Some p) e = go (subst (Lowest τ.n (zero_at after o)) (sym e) (lowest_is τ.n (zero_at after o)))
    where
      go : Lowest τ.n (zero_at after o) (at p) → Answered τ o before after (answer 101 p 0)
      go (is_at l z none) =
          record { verdict = inr (record { place = p; says = refl; inside = l; late = late_there p l z; earlier = λ q b. passes_there q (omega arith) (none q b) }); written = w }
  answered nothing e = record { verdict = inl (record { says = refl; passing = λ p l. passes_there p l (none_lowest τ.n (zero_at after o) (sym e) p l) }); written = w }
