-- What the checks of an order tell: with n entries and none bad it is an order, and where no place resumes a band, queues are kept
-- together.
-- Assumes nothing.
use Rattle.std.specs.Prelude.{ℕ, zero, suc, ◌+◌, ◌-◌, ◌<◌, ◌≡◌, List, not, length, T as Is, leb}
use Rattle.std.proofs.Math.Decide.{dec_lt, ℕ_discrete}
use Rattle.std.proofs.Common.{arith, below_more, sym, ◌∙◌, subst, le→leb, eqb→eq}
use Rattle.std.proofs.Math.Path.{ap}
use Rattle.std.proofs.Math.Dec.{eqb, eqb_refl, T_not, not_T}
use Rattle.sums.specs.Masks.{Mask, any_below, None}
use Rattle.sums.specs.MaskLaws.{or_left, or_right, and_intro, and_left, and_right, any_intro, any_elim}
use Rattle.sums.specs.Columns.{at}
use Rattle.order.specs.Table.{Table}
use Rattle.order.specs.Orders.{mem, bad_entry, Order, key_at, resumes, Together}
use Rattle.order.specs.Lists.{mem_at, no_repeat}
use Rattle.order.specs.Counting.{order_of_length}

eqb_of : {a b : ℕ} → a ≡ b → Is (eqb a b)
eqb_of {a} {b} e = subst (λ (x : ℕ). Is (eqb a x)) e (eqb_refl a)

pub none_next : {n : ℕ} (p : Mask) → None n p → (Is (p n) → ⊥) → None (n + 1) p
none_next {n} p h q = below_more (λ (k : ℕ). Is (p k) → ⊥) n h q

module _ (n : ℕ) (o : List ℕ) (p : ℕ) (fine : Is (bad_entry n o p) → ⊥) where
  pub entry_range : at o p < n
  unfolding bad_entry
  entry_range = go (dec_lt (at o p) n)
    where
      go : Dec (at o p < n) → at o p < n
      go (yes l) = l
      go (no l) = absurd (fine (or_left (leb n (at o p)) (any_below p (λ i. eqb (at o i) (at o p))) (le→leb n (at o p) (omega arith))))

  pub entry_new : (i : ℕ) → i < p → at o i ≡ at o p → ⊥
  unfolding bad_entry
  entry_new i l e = fine (or_right (leb n (at o p)) (any_below p (λ i. eqb (at o i) (at o p))) (any_intro p (λ i. eqb (at o i) (at o p)) i l (eqb_of e)))

module _ (τ : Table) (o : List ℕ) (len : length o ≡ τ.n) where
  pub order_of : None τ.n (bad_entry τ.n o) → Order τ o
  order_of fine = order_of_length τ o len in_range (no_repeat o (λ i j l h e. entry_new τ.n o j (fine j (omega arith)) i l e))
    where
      in_range : (k : ℕ) → Is (mem o k) → k < τ.n
      in_range k h = let r = mem_at o k h in subst (λ (x : ℕ). x < τ.n) r.2 (entry_range τ.n o r.0 (fine r.0 (omega (arith, r.1))))

  -- the band of a place stands at an earlier one: then it stands just before it
  pub together_of : None τ.n (resumes τ.key o) → Together τ o
  unfolding resumes
  together_of fine a b c ab bc hc e = back (c - b) b (omega arith) ab
    where
      step : (p : ℕ) → a < p → p < τ.n → key_at τ o p ≡ key_at τ o a → key_at τ o (p - 1) ≡ key_at τ o a
      step p l h q = go (ℕ_discrete (key_at τ o (p - 1)) (key_at τ o p))
        where
          go : Dec (key_at τ o (p - 1) ≡ key_at τ o p) → key_at τ o (p - 1) ≡ key_at τ o a
          go (yes d) = d ∙ q
          go (no d) = absurd (fine p h (and_intro (any_below p (λ i. eqb (key_at τ o i) (key_at τ o p))) (not (eqb (key_at τ o (p - 1)) (key_at τ o p)))
              (any_intro p (λ i. eqb (key_at τ o i) (key_at τ o p)) a l (eqb_of (sym q))) (not_T (eqb (key_at τ o (p - 1)) (key_at τ o p)) (λ t. d (eqb→eq (key_at τ o (p - 1)) (key_at τ o p) t)))))

      -- from c down to b, place by place
      back : (d p : ℕ) → p + d ≡ c → a < p → key_at τ o p ≡ key_at τ o a
      back zero p q l = ap (key_at τ o) (omega arith) ∙ sym e
      back (suc d) p q l = ap (key_at τ o) (omega arith) ∙ step (suc p) (omega arith) (omega arith) (back d (suc p) (omega arith) (omega arith))

  -- and kept together, no place resumes a band
  pub fine_of : Together τ o → None τ.n (resumes τ.key o)
  unfolding resumes
  fine_of tog p h t =
      let r = any_elim p (λ i. eqb (key_at τ o i) (key_at τ o p)) (and_left (any_below p (λ i. eqb (key_at τ o i) (key_at τ o p))) (not (eqb (key_at τ o (p - 1)) (key_at τ o p))) t) in
      T_not (eqb (key_at τ o (p - 1)) (key_at τ o p)) (and_right (any_below p (λ i. eqb (key_at τ o i) (key_at τ o p))) (not (eqb (key_at τ o (p - 1)) (key_at τ o p))) t)
      (eqb_of (go r.0 r.1 (eqb→eq (key_at τ o r.0) (key_at τ o p) r.2) (dec_lt r.0 (p - 1))))
    where
      go : (i : ℕ) → i < p → key_at τ o i ≡ key_at τ o p → Dec (i < p - 1) → key_at τ o (p - 1) ≡ key_at τ o p
      go i l e (yes q) = tog i (p - 1) p q (omega arith) (omega arith) e ∙ e
      go i l e (no q) = ap (key_at τ o) (omega arith) ∙ e
