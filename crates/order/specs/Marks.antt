-- Flags as a walk leaves them: up at each number that some earlier place has shown.
-- Assumes nothing.
use Rattle.std.specs.Prelude.{ℕ, ◌+◌, ◌≤◌, ◌<◌, ◌≡◌, Bool, true, false, ◌||◌, List, length, get_or, set, take, replicate, T as Is}
use Rattle.std.proofs.Math.Decide.{ℕ_discrete}
use Rattle.std.proofs.Math.Numerals.{add-one}
use Rattle.std.proofs.Common.{arith, sym, ◌∙◌, length-set, get_or-set_same, get_or-set_other, eqb→eq, eq-eqb, ne_eqb}
use Rattle.std.proofs.Math.Path.{ap, subst}
use Rattle.std.proofs.Math.Bool.{or-false, or-true}
use Rattle.std.proofs.lemmas.List.{length-replicate, get_or-replicate}
use Rattle.std.proofs.Math.Dec.{eqb, eqb_refl}
use Rattle.sums.specs.Masks.{Mask, any_below}
use Rattle.sums.specs.MaskLaws.{same_test, any_intro, any_elim}
use Rattle.sums.specs.Columns.{at, flagged}
use Rattle.order.specs.Orders.{mem}
use Rattle.order.specs.Places.{take_at, at_take}

-- of the places before p, one shows x
abbrev pub shown_before : (show : ℕ → ℕ) (p : ℕ) → Mask
shown_before show p x = any_below p (λ i. eqb (show i) x)

module _ (show : ℕ → ℕ) where
  pub none_shown : (x : ℕ) → Is (shown_before show 0 x) → ⊥
  unfolding any_below
  none_shown x h = h

  pub shown_next : (p x : ℕ) → shown_before show (p + 1) x ≡ (shown_before show p x || eqb (show p) x)
  unfolding any_below
  shown_next p x = rw add-one

  pub shown_here : (p x : ℕ) → show p ≡ x → shown_before show (p + 1) x ≡ true
  shown_here p x e = shown_next p x ∙ (ap (λ (b : Bool). shown_before show p x || b) (eq-eqb (show p) x e) ∙ or-true (shown_before show p x))

  pub shown_else : (p x : ℕ) → (show p ≡ x → ⊥) → shown_before show (p + 1) x ≡ shown_before show p x
  shown_else p x e = shown_next p x ∙ (ap (λ (b : Bool). shown_before show p x || b) (ne_eqb (show p) x e) ∙ or-false (shown_before show p x))

-- flags of any type: `is_up` says when one is up, and `down` is one that is not
module _ {A : Type 0} (is_up : A → Bool) (down : A) (show : ℕ → ℕ) where
  -- the flags below `most` are up at what the places before p show
  pub record Marked (flags : List A) (most p : ℕ) : Type 0 where
    pub long : most ≤ length flags
    pub up : (x : ℕ) → x < most → is_up (get_or flags x down) ≡ shown_before show p x

module _ {A : Type 0} {is_up : A → Bool} {down : A} {show : ℕ → ℕ} where
  pub marked_none : is_up down ≡ false → (size most : ℕ) → most ≤ size → Marked is_up down show (replicate size down) most 0
  unfolding any_below
  marked_none d size most l =
      record { long = subst (λ (x : ℕ). most ≤ x) (sym (length-replicate size down)) l; up = λ x i. ap is_up (get_or-replicate size x down down (omega arith)) ∙ d }

  -- raised at what place p shows
  pub marked_next : (raised : A) → is_up raised ≡ true → (flags : List A) (most p m : ℕ) → m < most → m ≡ show p → Marked is_up down show flags most p
      → Marked is_up down show (set flags m raised) most (p + 1)
  marked_next raised u flags most p m l e h = record { long = subst (λ (x : ℕ). most ≤ x) (sym (length-set flags m raised)) h.long; up = λ x i. go x i (ℕ_discrete x m) }
    where
      go : (x : ℕ) → x < most → Dec (x ≡ m) → is_up (get_or (set flags m raised) x down) ≡ shown_before show (p + 1) x
      go x i (yes q) =
          ap is_up (ap (λ (y : ℕ). get_or (set flags m raised) y down) q ∙ get_or-set_same flags m raised down (omega (arith, h.long))) ∙ (u ∙ sym (shown_here show p x (sym (q ∙ e))))
      go x i (no q) = ap is_up (get_or-set_other flags m x raised down q) ∙ (h.up x i ∙ sym (shown_else show p x (λ d. q (sym (e ∙ d)))))

  -- up already: an earlier place shows it
  pub marked_still : (flags : List A) (most p m : ℕ) → is_up (get_or flags m down) ≡ true → m ≡ show p → Marked is_up down show flags most p
      → Marked is_up down show flags most (p + 1)
  marked_still flags most p m t e h = record { long = h.long; up = λ x i. go x i (ℕ_discrete x m) }
    where
      go : (x : ℕ) → x < most → Dec (x ≡ m) → is_up (get_or flags x down) ≡ shown_before show (p + 1) x
      go x i (yes q) = ap (λ (y : ℕ). is_up (get_or flags y down)) q ∙ (t ∙ sym (shown_here show p x (sym (q ∙ e))))
      go x i (no q) = h.up x i ∙ sym (shown_else show p x (λ d. q (sym (e ∙ d))))

-- truth values as flags
abbrev pub Flags : (show : ℕ → ℕ) (flags : List Bool) (most p : ℕ) → Type 0
Flags = Marked (λ (b : Bool). b) false

-- numbers as flags, those at 1 up: they are up at the rows `flagged`
pub marked_numbers : (show : ℕ → ℕ) (flags : List ℕ) (most p : ℕ) → Marked (λ (y : ℕ). eqb y 1) 0 show flags most p → (x : ℕ) → x < most → flagged flags x ≡ shown_before show p x
marked_numbers show flags most p h = h.up

-- rows: what the places before p of an order show are the rows that stand before p
pub marked_rows : (o : List ℕ) (p k : ℕ) → p ≤ length o → shown_before (at o) p k ≡ mem (take p o) k
marked_rows o p k l = same_test _ _ into out
  where
    into : Is (shown_before (at o) p k) → Is (mem (take p o) k)
    into h = let r = any_elim p (λ i. eqb (at o i) k) h in subst (λ (x : ℕ). Is (mem (take p o) x)) (eqb→eq (at o r.0) k r.2) (at_take o p r.0 r.1 (omega (arith, r.1)))

    out : Is (mem (take p o) k) → Is (shown_before (at o) p k)
    out h = let r = take_at o p k h in any_intro p (λ i. eqb (at o i) k) r.0 r.1 (subst (λ (x : ℕ). Is (eqb (at o r.0) x)) r.3 (eqb_refl (at o r.0)))
