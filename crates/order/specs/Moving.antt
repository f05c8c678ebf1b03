-- A row that goes from above a band to below it, or away, never makes the band late.
-- Assumes nothing.
use Rattle.std.specs.Prelude.{ℕ, ◌≤◌, ◌<◌, ◌⊎◌, Bool, not, ◌&&◌, T as Is}
use Rattle.std.proofs.Common.{le_refl, arith, inl, inr, T_not}
use Rattle.std.proofs.Math.Dec.{not_T}
use Rattle.sums.specs.Masks.{Mask, except}
use Rattle.sums.specs.MaskLaws.{and_left, and_right, and_intro}
use Rattle.sums.specs.Sums.{demand}
use Rattle.sums.specs.Laws.{demand_grows}
use Rattle.sums.specs.Move.{Moved}
use Rattle.sums.proofs.Moving.{move_loads}
use Rattle.sums.specs.Climb.{fits_mono}
use Rattle.order.specs.Table.{Table, MAX, MIN, least_e, base, F, Passes}

-- the band's own rows are left out above and below, so only the others need have moved so
moved_others : (a' b' a b own : Bool) → (Is (not own) → Moved a' b' a b) → Moved (a' && not own) (b' && not own) (a && not own) (b && not own)
moved_others a' b' a b own h =
    record {
      up = λ t. let q = and_right a' (not own) t in and_intro a (not own) ((h q).up (and_left a' (not own) t)) q;
      down = λ t. let q = and_right b' (not own) t in go q ((h q).down (and_left b' (not own) t));
    }
  where
    go : Is (not own) → Is b ⊎ (Is a × Is (not a')) → Is (b && not own) ⊎ (Is (a && not own) × Is (not (a' && not own)))
    go q (inl m) = inl (and_intro b (not own) m q)
    go q (inr m) = inr (and_intro a (not own) m.0 q, not_T (a' && not own) (λ t. T_not a' m.1 (and_left a' (not own) t)))

pub passes_moved : (τ : Table) → ((k : ℕ) → k < τ.n → 1 ≤ τ.T k) → (own a' b' a b : Mask) → ((k : ℕ) → k < τ.n → Is (not (own k)) → Moved (a' k) (b' k) (a k) (b k))
    → Passes τ own (except a own) (except b own) → Passes τ own (except a' own) (except b' own)
unfolding base demand
passes_moved τ periods own a' b' a b h p =
    (fits_mono (F τ own (except a own) (except b own)) (F τ own (except a' own) (except b' own)) (MIN τ own) (MIN τ own) (least_e τ own) (least_e τ own)
    (demand_grows τ.n τ.C τ.T τ.J (base τ own (except b' own)) (except a' own)) less (le_refl _) (le_refl _) p).0
  where
    less : (w : ℕ) → F τ own (except a' own) (except b' own) w ≤ F τ own (except a own) (except b own) w
    less w =
        omega (
          arith,
          move_loads τ.n (MAX τ own) τ.C τ.T τ.J (except a' own) (except b' own) (except a own) (except b own) w periods
              (λ k l. moved_others (a' k) (b' k) (a k) (b k) (own k) (h k l)),
        )
