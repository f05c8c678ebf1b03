-- The tests on the entries of an order, as a walk along it with flags decides them. Assumes nothing.
use Rattle.std.specs.Prelude.{ℕ, ◌-◌, ◌≤◌, ◌<◌, ◌≡◌, Bool, true, false, not, ◌&&◌, ◌||◌, List, get_or, T as Is, eqb, leb}
use Rattle.std.proofs.Common.{arith, sym, ap, refl, ◌∙◌, eq-eqb, ne_eqb}
use Rattle.std.proofs.Math.Decide.{dec_lt}
use Rattle.std.proofs.Math.Dec.{le→leb}
use borrow.Author.Tests.{lt-leb}
use Rattle.sums.specs.MaskLaws.{or_left, any_elim}
use Rattle.sums.specs.Columns.{at}
use Rattle.order.specs.Orders.{bad_entry, resumes}
use Rattle.order.specs.Marks.{Flags, shown_before}
use Rattle.judge.specs.Walk.{zero_at}

pub by_true : {b : Bool} → b ≡ true → Is b
by_true e = rw e tt

pub by_false : {b : Bool} → b ≡ false → Is b → ⊥
by_false e h = rw e at h

-- an entry is out of range, a repeat, or neither
pub entry_high : (n : ℕ) (o : List ℕ) (p : ℕ) → n ≤ at o p → Is (bad_entry n o p)
unfolding bad_entry
entry_high n o p h = or_left (leb n (at o p)) (shown_before (at o) p (at o p)) (le→leb n (at o p) h)

module _ (n : ℕ) (o : List ℕ) (flags : List Bool) (p : ℕ) (l : at o p < n) (marks : Flags (at o) flags n p) where
  test_bad : bad_entry n o p ≡ get_or flags (at o p) false
  unfolding bad_entry
  test_bad = ap (λ (b : Bool). b || shown_before (at o) p (at o p)) (lt-leb n (at o p) l) ∙ sym (marks.up (at o p) l)

  pub entry_again : get_or flags (at o p) false ≡ true → Is (bad_entry n o p)
  entry_again q = by_true (test_bad ∙ q)

  pub entry_fine : get_or flags (at o p) false ≡ false → Is (bad_entry n o p) → ⊥
  entry_fine q = by_false (test_bad ∙ q)

-- place p resumes a band: its key is flagged, and another, `last`, stands just before it
module _ (key : ℕ → ℕ) (o : List ℕ) (flags : List Bool) (most p last : ℕ) (l : key (at o p) < most) (marks : Flags (λ i. key (at o i)) flags most p) (before : 0 < p → last ≡ key (at o (p - 1))) where
  test_resumes : resumes key o p ≡ (get_or flags (key (at o p)) false && not (eqb (key (at o (p - 1))) (key (at o p))))
  unfolding resumes
  test_resumes = ap (λ (b : Bool). b && not (eqb (key (at o (p - 1))) (key (at o p)))) (sym (marks.up (key (at o p)) l))

  -- no flag is up before the first place
  not_first : get_or flags (key (at o p)) false ≡ true → 0 < p
  not_first q =
      let r = any_elim p (λ i. eqb (key (at o i)) (key (at o p))) (by_true (sym (marks.up (key (at o p)) l) ∙ q)) in
      omega (arith, r.1)

  pub left_behind : get_or flags (key (at o p)) false ≡ true → (key (at o p) ≡ last → ⊥) → Is (resumes key o p)
  left_behind q d =
      let other : key (at o (p - 1)) ≡ key (at o p) → ⊥ = λ e. d (sym e ∙ sym (before (not_first q))) in
      by_true (test_resumes ∙ rw (q, ne_eqb (key (at o (p - 1))) (key (at o p)) other))

  pub resumes_new : get_or flags (key (at o p)) false ≡ false → Is (resumes key o p) → ⊥
  resumes_new q = by_false (test_resumes ∙ rw q)

  pub resumes_same : key (at o p) ≡ last → Is (resumes key o p) → ⊥
  resumes_same e = by_false (test_resumes ∙ go (get_or flags (key (at o p)) false))
    where
      same : Dec (0 < p) → key (at o (p - 1)) ≡ key (at o p)
      same (yes d) = sym (before d) ∙ sym e
      same (no d) = ap (λ (i : ℕ). key (at o i)) (omega arith)

      go : (b : Bool) → (b && not (eqb (key (at o (p - 1))) (key (at o p)))) ≡ false
      go true = rw (eq-eqb (key (at o (p - 1))) (key (at o p)) (same (dec_lt 0 p)))
      go false = refl

-- the row at place p has the figure 0, or not
module _ (figures o : List ℕ) (p : ℕ) where
  pub zero_here : at figures (at o p) ≡ 0 → Is (zero_at figures o p)
  unfolding zero_at
  zero_here z = by_true (eq-eqb (at figures (at o p)) 0 z)

  pub zero_not : (at figures (at o p) ≡ 0 → ⊥) → Is (zero_at figures o p) → ⊥
  unfolding zero_at
  zero_not z = by_false (ne_eqb (at figures (at o p)) 0 z)
