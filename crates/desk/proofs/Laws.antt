-- When each refusal of the desk is given, and what a claim and a withdrawal that none refuses are known to be.
-- Assumes nothing.
use Rattle.std.specs.Prelude.{ℕ, ◌≤◌, ◌<◌, ◌≡◌, Bool, not, ◌||◌, List, length, eqb, leb, ltb, Result, Ok, Err}
use Rattle.std.proofs.Common.{arith, subst}
use Rattle.std.proofs.Math.Path.{refl}
use Rattle.std.proofs.Math.Bool.{true, false}
use Rattle.std.proofs.Math.Dec.{T as Is}
use borrow.Author.Tests.{lt-ltb, le-ltb, ltb-false, le-leb, lt-leb, leb-false, eq-eqb, ne_eqb, eqb-true, eqb-false}
use Rattle.sums.specs.Masks.{any_below}
use Rattle.sums.specs.MaskLaws.{is_true, is_false, any_intro, any_elim}
use Rattle.licence.specs.Limit.{limit}
use Rattle.licence.specs.Row.{bad_field}
use Rattle.intake.specs.Words.{bad_row}
use Rattle.intake.specs.Answer.{answer, refusal_answer, Answer, Check, refused, fine, refuse_if}
use Rattle.intake.specs.declared.Refusal.{Refusal}
use Rattle.intake.specs.Laws.{then_fine, if_fine, bad_row_lem, good_row, row_good}
use Rattle.desk.specs.Ledger.{last_edition, unfit, edition_refusal, claim_refusal, withdrawal_refusal}
use Rattle.desk.specs.Replies.{CheckIs}
use Rattle.desk.specs.declared.Ledger.{Ledger}

-- ---- a check as code tells it

pub check_stopped : {check : Check} {told : Result (Unit {0}) Refusal} {r : Refusal} → CheckIs check told → told ≡ Err r → check ≡ refused (refusal_answer r)
check_stopped {check} h e = subst (CheckIs check) e h

pub check_passed : {check : Check} {told : Result (Unit {0}) Refusal} → CheckIs check told → told ≡ Ok tt → check ≡ fine
check_passed {check} h e = subst (CheckIs check) e h

-- where it is false that two are not equal, they are
unless_other : (a b : ℕ) → not (eqb a b) ≡ false → a ≡ b
unless_other a b e = go (eqb a b) refl e
  where
    go : (t : Bool) → eqb a b ≡ t → not t ≡ false → a ≡ b
    go true q e = eqb-true a b q
    go false q e = absurd (let z : ◌≡◌ {A = ℕ} 0 1 = cc in omega arith)

-- ---- the rows held

module _ (words : List ℕ) (held : ℕ) where
  pub unfit_many : limit < held → unfit words held ≡ true
  unfolding unfit
  unfit_many h = rw (lt-ltb limit held h)

  pub unfit_bad : (i : ℕ) → i < held → (bad_field words i ≡ 0 → ⊥) → unfit words held ≡ true
  unfolding unfit
  unfit_bad i l h = go (ltb limit held) (is_true (any_below held (bad_row words)) (any_intro held (bad_row words) i l (bad_row_lem words i h)))
    where
      go : (t : Bool) → any_below held (bad_row words) ≡ true → (t || any_below held (bad_row words)) ≡ true
      go true e = refl
      go false e = e

  pub fit : held ≤ limit → ((i : ℕ) → i < held → bad_field words i ≡ 0) → unfit words held ≡ false
  unfolding unfit
  fit few good =
      rw (le-ltb limit held few)
      (is_false (any_below held (bad_row words)) (λ t. let (i, l, bad) = any_elim held (bad_row words) t in good_row words i (good i l) bad))

  -- a ledger that the desk takes
  pub record Fit : Type 0 where
    pub few : held ≤ limit
    pub good : (i : ℕ) → i < held → bad_field words i ≡ 0

  pub is_fit : unfit words held ≡ false → Fit
  unfolding unfit
  is_fit e = go (ltb limit held) refl e
    where
      none : any_below held (bad_row words) ≡ false → (i : ℕ) → i < held → bad_field words i ≡ 0
      none q i l = row_good words i (λ t. let x : Is (any_below held (bad_row words)) = any_intro held (bad_row words) i l t in rw q at x)

      go : (t : Bool) → ltb limit held ≡ t → (t || any_below held (bad_row words)) ≡ false → Fit
      go true q e = absurd (let z : ◌≡◌ {A = ℕ} 0 1 = cc in omega arith)
      go false q e = record { few = ltb-false limit held q; good = none e }

-- ---- the edition

module _ (edition seen : ℕ) where
  pub edition_9 : edition ≡ last_edition → edition_refusal edition seen ≡ refused (answer 9 0 0)
  unfolding edition_refusal
  edition_9 e = rw (eq-eqb edition last_edition e)

  pub edition_10 : (edition ≡ last_edition → ⊥) → (seen ≡ edition → ⊥) → edition_refusal edition seen ≡ refused (answer 10 0 0)
  unfolding edition_refusal
  edition_10 o e = rw (ne_eqb edition last_edition o, ne_eqb seen edition e)

  pub edition_none : (edition ≡ last_edition → ⊥) → seen ≡ edition → edition_refusal edition seen ≡ fine
  unfolding edition_refusal
  edition_none o e = rw (ne_eqb edition last_edition o, eq-eqb seen edition e)

  -- a ledger that is open, and of the edition seen
  pub record Open : Type 0 where
    pub not_last : edition ≡ last_edition → ⊥
    pub current : seen ≡ edition

  pub is_open : edition_refusal edition seen ≡ fine → Open
  unfolding edition_refusal
  is_open e =
      let a = then_fine (refuse_if (eqb edition last_edition) (answer 9 0 0)) _ e in
      record { not_last = eqb-false edition last_edition (if_fine (eqb edition last_edition) _ a.0); current = unless_other seen edition (if_fine (not (eqb seen edition)) _ a.1) }

-- ---- a claim

module _ (l : Ledger) (row : List ℕ) (seen : ℕ) where
  pub claim_23 : unfit l.words l.held ≡ true → claim_refusal l row seen ≡ refused (answer 23 0 0)
  unfolding claim_refusal
  claim_23 e = rw e

  module _ (held_fit : unfit l.words l.held ≡ false) where
    pub claim_1 : (length row ≡ 6 → ⊥) → claim_refusal l row seen ≡ refused (answer 1 0 0)
    unfolding claim_refusal
    claim_1 h = rw (held_fit, ne_eqb (length row) 6 h)

    module _ (six : length row ≡ 6) where
      pub claim_3 : (bad_field row 0 ≡ 0 → ⊥) → claim_refusal l row seen ≡ refused (answer 3 0 (bad_field row 0))
      unfolding claim_refusal
      claim_3 h = rw (held_fit, eq-eqb (length row) 6 six, ne_eqb (bad_field row 0) 0 h)

      module _ (good : bad_field row 0 ≡ 0) where
        pub claim_edition : {a : Answer} → edition_refusal l.edition seen ≡ refused a → claim_refusal l row seen ≡ refused a
        unfolding claim_refusal
        claim_edition e = rw (held_fit, eq-eqb (length row) 6 six, eq-eqb (bad_field row 0) 0 good, e)

        module _ (current : edition_refusal l.edition seen ≡ fine) where
          pub claim_2 : l.held ≡ limit → claim_refusal l row seen ≡ refused (answer 2 0 0)
          unfolding claim_refusal
          claim_2 e = rw (held_fit, eq-eqb (length row) 6 six, eq-eqb (bad_field row 0) 0 good, current, eq-eqb l.held limit e)

          pub claim_none : (l.held ≡ limit → ⊥) → claim_refusal l row seen ≡ fine
          unfolding claim_refusal
          claim_none e = rw (held_fit, eq-eqb (length row) 6 six, eq-eqb (bad_field row 0) 0 good, current, ne_eqb l.held limit e)

  -- a claim that no check refuses
  pub record Claimable : Type 0 where
    pub held_fit : Fit l.words l.held
    pub six : length row ≡ 6
    pub good : bad_field row 0 ≡ 0
    pub edition_open : Open l.edition seen
    pub room : l.held < limit

  pub claimable : claim_refusal l row seen ≡ fine → Claimable
  unfolding claim_refusal
  claimable e =
      let a = then_fine (refuse_if (unfit l.words l.held) (answer 23 0 0)) _ e in
      let b = then_fine (refuse_if (not (eqb (length row) 6)) (answer 1 0 0)) _ a.1 in
      let c = then_fine (refuse_if (bad_row row 0) (answer 3 0 (bad_field row 0))) _ b.1 in
      let d = then_fine (edition_refusal l.edition seen) _ c.1 in
      let f = is_fit l.words l.held (if_fine (unfit l.words l.held) _ a.0) in
      record {
        held_fit = f;
        six = unless_other (length row) 6 (if_fine (not (eqb (length row) 6)) _ b.0);
        good = unless_other (bad_field row 0) 0 (if_fine (bad_row row 0) _ c.0);
        edition_open = is_open l.edition seen d.0;
        room = let n = eqb-false l.held limit (if_fine (eqb l.held limit) _ d.1) in omega (arith, f.few);
      }

-- ---- a withdrawal

module _ (l : Ledger) (k seen : ℕ) where
  pub withdraw_23 : unfit l.words l.held ≡ true → withdrawal_refusal l k seen ≡ refused (answer 23 0 0)
  unfolding withdrawal_refusal
  withdraw_23 e = rw e

  module _ (held_fit : unfit l.words l.held ≡ false) where
    pub withdraw_edition : {a : Answer} → edition_refusal l.edition seen ≡ refused a → withdrawal_refusal l k seen ≡ refused a
    unfolding withdrawal_refusal
    withdraw_edition e = rw (held_fit, e)

    module _ (current : edition_refusal l.edition seen ≡ fine) where
      pub withdraw_11 : l.held ≤ k → withdrawal_refusal l k seen ≡ refused (answer 11 0 0)
      unfolding withdrawal_refusal
      withdraw_11 h = rw (held_fit, current, le-leb l.held k h)

      pub withdraw_none : k < l.held → withdrawal_refusal l k seen ≡ fine
      unfolding withdrawal_refusal
      withdraw_none h = rw (held_fit, current, lt-leb l.held k h)

  -- a withdrawal that no check refuses
  pub record Withdrawable : Type 0 where
    pub held_fit : Fit l.words l.held
    pub edition_open : Open l.edition seen
    pub there : k < l.held

  pub withdrawable : withdrawal_refusal l k seen ≡ fine → Withdrawable
  unfolding withdrawal_refusal
  withdrawable e =
      let a = then_fine (refuse_if (unfit l.words l.held) (answer 23 0 0)) _ e in
      let b = then_fine (edition_refusal l.edition seen) _ a.1 in
      record {
        held_fit = is_fit l.words l.held (if_fine (unfit l.words l.held) _ a.0);
        edition_open = is_open l.edition seen b.0;
        there = leb-false l.held k (if_fine (leb l.held k) _ b.1);
      }
