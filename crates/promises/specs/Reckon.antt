-- The verdict on a band worked out as one does by hand, and tests of numbers, answers and lists: what is needed to test by computing a result that
-- was written down beforehand. What a test says yes to is so.
-- Assumes nothing.
use Rattle.std.specs.Prelude.{ℕ, zero, suc, ◌+◌, ◌≤◌, ◌<◌, ◌≡◌, refl, ◌⊎◌, Bool, true, false, not, ◌&&◌, List, [], ◌∷◌, T as Is, eqb}
use Rattle.std.proofs.Common.{zero-le, le_of_eq, arith, sym, ap, ◌∙◌, subst, inl, inr, T_not, eqb→eq}
use Rattle.std.proofs.Math.Decide.{ℕ_discrete, dec_le}
use Rattle.sums.specs.Masks.{Mask, any_below}
use Rattle.sums.specs.MaskLaws.{which, and_left, and_right, any_intro}
use Rattle.sums.specs.Laws.{demand_grows}
use Rattle.sums.specs.Least.{Fits, Grows}
use Rattle.sums.specs.Climb.{OnWay, from_below, arrived, one_step}
use Rattle.order.specs.Table.{Table, MIN, least_e, F, FigureIs}
use Rattle.order.specs.Figures.{figure_fits}
use Rattle.order.specs.Orders.{own, above, below}
use Rattle.intake.specs.Answer.{Answer, Check, refused, fine, Replied}
use Rattle.intake.specs.Laws.{replied_refused, replied_answered}

-- ---- a band: its figure, or that it is late

abbrev pub Reckoned : (F : ℕ → ℕ) (m e : ℕ) → Type 0
Reckoned F m e = ((R : ℕ) × FigureIs F m e R) ⊎ (Fits F m e → ⊥)

-- F is taken from w on until it stays, or is past what is allowed
unfoldable pub climb : (F : ℕ → ℕ) (m e : ℕ) → Grows F → (fuel w : ℕ) → e < w + fuel → OnWay F w → Reckoned F m e
climb F m e grows zero w h way = inr (λ x. let q = way.low x.w (le_of_eq x.solves) in omega (arith, x.within))
climb F m e grows (suc fuel) w h way = go (dec_le (w + m) e) (ℕ_discrete (F w) w) (λ n. climb F m e grows fuel (F w) (let r = way.rises in omega arith) (one_step F grows way))
  where
    go : Dec (w + m ≤ e) → Dec (F w ≡ w) → ((F w ≡ w → ⊥) → Reckoned F m e) → Reckoned F m e
    go (no n) d on = inr (λ x. let q = way.low x.w (le_of_eq x.solves) in omega (arith, x.within))
    go (yes l) (yes q) on = inl (w + m, record { w = w; least = arrived F way q; is = refl; within = l })
    go (yes l) (no n) on = on n

unfoldable pub reckon : (τ : Table) (own above below : Mask) → Reckoned (F τ own above below) (MIN τ own) (least_e τ own)
reckon τ own above below =
    climb (F τ own above below) (MIN τ own) (least_e τ own) (demand_grows _ _ _ _ _ _) (suc (least_e τ own)) 0 (omega arith) (from_below (F τ own above below) 0 (λ v. zero-le))

module _ {F : ℕ → ℕ} {m e : ℕ} where
  abbrev pub is_late : Reckoned F m e → Bool
  is_late (inl x) = false
  is_late (inr x) = true

  pub is_late_lem : (v : Reckoned F m e) → Is (is_late v) → Fits F m e → ⊥
  is_late_lem (inl x) h = absurd h
  is_late_lem (inr x) h = x

  pub fits_else : (v : Reckoned F m e) → (Is (is_late v) → ⊥) → Fits F m e
  fits_else (inl x) h = figure_fits F m e x.1
  fits_else (inr x) h = absurd (h tt)

  -- does x stand for the verdict: the figure, or 0?
  abbrev pub stands_for : Reckoned F m e → ℕ → Bool
  stands_for (inl x) y = eqb y x.0
  stands_for (inr x) y = eqb y 0

  pub stood_for : (v : Reckoned F m e) (y : ℕ) → Is (stands_for v y) → FigureIs F m e y ⊎ ((Fits F m e → ⊥) × (y ≡ 0))
  stood_for (inl x) y h = inl (subst (λ (z : ℕ). FigureIs F m e z) (sym (eqb→eq y x.0 h)) x.1)
  stood_for (inr x) y h = inr (x, eqb→eq y 0 h)

-- ---- tests that say yes

-- every number below n passes
abbrev pub every : ℕ → Mask → Bool
every n p = not (any_below n (λ k. not (p k)))

pub every_is : (n : ℕ) (p : Mask) → Is (every n p) → (k : ℕ) → k < n → Is (p k)
every_is n p h k l = go (which (p k))
  where
    go : Is (p k) ⊎ Is (not (p k)) → Is (p k)
    go (inl q) = q
    go (inr q) = absurd (T_not (any_below n (λ i. not (p i))) h (any_intro n (λ i. not (p i)) k l q))

abbrev pub same_answer : Answer → Answer → Bool
same_answer a b = eqb a.number b.number && (eqb a.first b.first && eqb a.second b.second)

pub same_answer_is : (a b : Answer) → Is (same_answer a b) → a ≡ b
same_answer_is a b h =
    let r = and_right (eqb a.number b.number) (eqb a.first b.first && eqb a.second b.second) h in
    let x = eqb→eq a.number b.number (and_left (eqb a.number b.number) (eqb a.first b.first && eqb a.second b.second) h) in
    let y = eqb→eq a.first b.first (and_left (eqb a.first b.first) (eqb a.second b.second) r) in
    let z = eqb→eq a.second b.second (and_right (eqb a.first b.first) (eqb a.second b.second) r) in
    λ i. record { number = x i; first = y i; second = z i }

unfoldable pub same_list : List ℕ → List ℕ → Bool
same_list [] [] = true
same_list [] (y ∷ m) = false
same_list (x ∷ l) [] = false
same_list (x ∷ l) (y ∷ m) = eqb x y && same_list l m

pub same_list_is : (l m : List ℕ) → Is (same_list l m) → l ≡ m
unfolding same_list
same_list_is [] [] h = refl
same_list_is [] (y ∷ m) h = absurd h
same_list_is (x ∷ l) [] h = absurd h
same_list_is (x ∷ l) (y ∷ m) h =
    let a = eqb→eq x y (and_left (eqb x y) (same_list l m) h) in
    let b = same_list_is l m (and_right (eqb x y) (same_list l m) h) in
    cc

-- ---- a reply: what a check refuses, and all else by another test

abbrev pub replies : (check : Check) (before after : List ℕ) (a : Answer) (answered : Bool) → Bool
replies (refused r) before after a answered = same_answer a r && same_list after before
replies fine before after a answered = answered

pub replied : (check : Check) (before after : List ℕ) (a : Answer) {Answered : Type 0} (answered : Bool) → (Is answered → Answered) → Is (replies check before after a answered) → Replied check before after a Answered
replied check before after a {Answered} answered right h = go check refl h
  where
    go : (c : Check) → check ≡ c → Is (replies c before after a answered) → Replied check before after a Answered
    go (refused r) e t =
        let x = same_answer_is a r (and_left (same_answer a r) (same_list after before) t) in
        let y = same_list_is after before (and_right (same_answer a r) (same_list after before) t) in
        subst (λ (l : List ℕ). Replied check before l a Answered) (sym y) (replied_refused (e ∙ ap refused (sym x)))
    go fine e t = replied_answered e (right t)
