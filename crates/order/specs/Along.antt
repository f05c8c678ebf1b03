-- Rows that stand one behind the other in a list: what is put together over its places is put together over its rows, so that columns
-- arranged along an order have the sums of the table. Said once for sum, greatest and least.
-- Assumes nothing.
use Prim.Native.Nat.{ℕ, zero, suc, ◌+◌, ◌≤◌, ◌<◌}
use Rattle.std.proofs.Common.{le_refl, add-one, arith, ◌∙◌, eqb→eq}
use Rattle.std.proofs.Math.Decide.{ℕ_discrete}
use Rattle.std.specs.Prelude.{◌≡◌, refl, Bool, true, false, cond, ◌&&◌, List, length, T as Is, eqb}
use Rattle.std.proofs.Math.Path.{sym, ap}
use Rattle.std.proofs.Math.Bool.{and-true, and-false}
use Rattle.std.proofs.Math.Seq.{take-length}
use Rattle.sums.specs.Masks.{Mask}
use Rattle.sums.specs.MaskLaws.{is_false, and_left, any_elim}
use Rattle.sums.specs.Sums.{over}
use Rattle.sums.specs.Laws.{over_same, over_empty, over_idle, over_insert}
use Rattle.sums.specs.Columns.{at}
use Rattle.order.specs.Orders.{mem, NoRepeat}
use Rattle.order.specs.Lists.{mem_get_or, one_place}
use Rattle.order.specs.Marks.{shown_before, none_shown, shown_here, shown_else, marked_rows}

module _ (op : ℕ → ℕ → ℕ) (z : ℕ) (zz : op z z ≡ z) (swap : (a b c : ℕ) → op (op a b) c ≡ op (op a c) b)
    (n : ℕ) (l : List ℕ) (once : NoRepeat l) (range : (k : ℕ) → Is (mem l k) → k < n) (m : Mask) (f : ℕ → ℕ) where
  -- the rows of the first p places
  abbrev rows : ℕ → Mask
  rows p k = shown_before (at l) p k && m k

  -- the row at place p stands at no place before it
  new : (p : ℕ) → p < length l → Is (shown_before (at l) p (at l p)) → ⊥
  new p b h =
      let r = any_elim p (λ i. eqb (at l i) (at l p)) h in
      omega (arith, r.1, one_place l r.0 p once (omega (arith, r.1)) b (eqb→eq (at l r.0) (at l p) r.2))

  one_more : (p : ℕ) → p < length l → over op z n (rows (p + 1)) f ≡ op (over op z n (rows p) f) (cond (m (at l p)) (f (at l p)) z)
  one_more p b = go (m (at l p)) refl
    where
      go : (t : Bool) → m (at l p) ≡ t → over op z n (rows (p + 1)) f ≡ op (over op z n (rows p) f) (cond t (f (at l p)) z)
      go true q =
          over_insert op z zz swap n (rows p) (rows (p + 1)) f (at l p) (range (at l p) (mem_get_or l p b))
          (rw q (and-true (shown_before (at l) p (at l p)) ∙ is_false (shown_before (at l) p (at l p)) (new p b)))
          (rw q (and-true (shown_before (at l) (p + 1) (at l p)) ∙ shown_here (at l) p (at l p) refl))
          (λ k i d. ap (λ (t : Bool). t && m k) (shown_else (at l) p k (λ e. d (sym e))))
      go false q = over_same op z n (rows (p + 1)) (rows p) f f (λ k i. same k (ℕ_discrete k (at l p))) (λ k i. refl) ∙ sym (over_idle op z zz swap n (rows p) f)
        where
          same : (k : ℕ) → Dec (k ≡ at l p) → rows (p + 1) k ≡ rows p k
          same k (yes e) = let q' : m k ≡ false = ap m e ∙ q in rw q' (and-false (shown_before (at l) (p + 1) k) ∙ sym (and-false (shown_before (at l) p k)))
          same k (no e) = ap (λ (t : Bool). t && m k) (shown_else (at l) p k (λ d. e (sym d)))

  part : (p : ℕ) → p ≤ length l → over op z p (λ i. m (at l i)) (λ i. f (at l i)) ≡ over op z n (rows p) f
  unfolding over
  part zero b = sym (over_empty op z zz (rows 0) f n (λ k i h. none_shown (at l) k (and_left (shown_before (at l) 0 k) (m k) h)))
  part (suc p) b =
      ap (λ (x : ℕ). op x (cond (m (at l p)) (f (at l p)) z)) (part p (omega arith))
      ∙ (sym (one_more p b) ∙ ap (λ (i : ℕ). over op z n (rows i) f) (add-one p))

  pub along : over op z (length l) (λ p. m (at l p)) (λ p. f (at l p)) ≡ over op z n (λ k. mem l k && m k) f
  along =
      part (length l) (le_refl (length l))
      ∙ over_same op z n (rows (length l)) (λ k. mem l k && m k) f f
      (λ k i. ap (λ (t : Bool). t && m k) (marked_rows l (length l) k (le_refl (length l)) ∙ ap (λ (x : List ℕ). mem x k) (take-length l)))
      (λ k i. refl)
