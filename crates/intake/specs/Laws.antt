-- When each of the refusals 1 to 4 is given, and what a table that none refuses is known to be.
-- Assumes nothing.
use Rattle.std.specs.Prelude.{ℕ, ◌*◌, ◌%◌, ◌≤◌, ◌<◌, Bool, ◌||◌, List, T as Is, ltb, take, Result, Ok, Err, ⊤}
use Rattle.std.proofs.Common.{arith, subst, ◌∙◌, eqb→eq, T_not}
use Rattle.std.proofs.Math.Path.{◌≡◌, refl, sym}
use Rattle.std.proofs.Math.Bool.{true, false, not}
use Rattle.std.proofs.Math.ListN.{length}
use Rattle.std.proofs.Math.Dec.{eqb, eqb_refl, not_T}
use borrow.Author.Tests.{lt-ltb, le-ltb, ltb-false, eq-eqb, ne_eqb, eqb-true}
use Rattle.sums.specs.Masks.{Place, at, nowhere, lowest}
use Rattle.sums.specs.MaskLaws.{none_lowest, lowest_none}
use Rattle.licence.specs.Limit.{limit}
use Rattle.licence.specs.Row.{bad_field}
use Rattle.intake.specs.Words.{ragged, rows, bad_row, table_of}
use Rattle.intake.specs.Answer.{answer, refusal_answer, Answer, Check, refused, fine, refuse_if, refuse_at, ◌then◌, Replied}
use Rattle.intake.specs.Refusals.{shape_refusal, table_refusal}
use Rattle.intake.specs.Holds.{Holds, RowsRead, Counted, Taken, IntakeIs}
use Rattle.intake.specs.declared.Refusal.{Refusal}
use Rattle.sums.specs.Terms.{lengths, periods, jitters, allowed, keys}
use Rattle.sums.specs.declared.Terms.{Terms}

-- checks that go on were each fine
pub then_fine : (a b : Check) → (a then b) ≡ fine → (a ≡ fine) × (b ≡ fine)
then_fine (refused x) b e = absurd (let z : ◌≡◌ {A = ℕ} 0 1 = cc in omega arith)
then_fine fine b e = (refl, e)

pub if_fine : (t : Bool) (a : Answer) → refuse_if t a ≡ fine → t ≡ false
if_fine true a e = absurd (let z : ◌≡◌ {A = ℕ} 0 1 = cc in omega arith)
if_fine false a e = refl

pub at_fine : (p : Place) (a : ℕ → Answer) → refuse_at p a ≡ fine → p ≡ nowhere
at_fine (at k) a e = absurd (let z : ◌≡◌ {A = ℕ} 0 1 = cc in omega arith)
at_fine nowhere a e = refl

-- a reply that a check refuses, and one that is answered
pub replied_refused : {Lent : Type 0} {check : Check} {lent : Lent} {a : Answer} {Answered : Type 0} → check ≡ refused a → Replied check lent lent a Answered
replied_refused e = record { refusing = λ r q. (cc, refl); answering = λ q. absurd (let z : ◌≡◌ {A = ℕ} 0 1 = cc in omega arith) }

pub replied_answered : {Lent : Type 0} {check : Check} {before after : Lent} {a : Answer} {Answered : Type 0} → check ≡ fine → Answered → Replied check before after a Answered
replied_answered e h = record { refusing = λ r q. absurd (let z : ◌≡◌ {A = ℕ} 0 1 = cc in omega arith); answering = λ q. h }

-- what agrees with one answer and with what was lent agrees
pub meet : {Lent : Type 0} {a a' r : Answer} {after after' lent : Lent} → (a ≡ r) × (after ≡ lent) → (a' ≡ r) × (after' ≡ lent) → (a ≡ a') × (after ≡ after')
meet x y = (x.0 ∙ sym y.0, x.1 ∙ sym y.1)

-- two replies: where they are answered, they are one if their answers are
pub replied_one : {Lent : Type 0} {check : Check} {before after after' : Lent} {a a' : Answer} {Answered Answered' : Type 0} → Replied check before after a Answered → Replied check before after' a' Answered'
    → (check ≡ fine → Answered → Answered' → (a ≡ a') × (after ≡ after')) → (a ≡ a') × (after ≡ after')
replied_one {check = check} {after = after} {after'} {a} {a'} x y one = go check refl
  where
    go : (c : Check) → check ≡ c → (a ≡ a') × (after ≡ after')
    go (refused r) e = meet (x.refusing r e) (y.refusing r e)
    go fine e = one e (x.answering e) (y.answering e)

-- a row is bad exactly where it has a bad field
module _ (words : List ℕ) (i : ℕ) where
  pub bad_row_lem : (bad_field words i ≡ 0 → ⊥) → Is (bad_row words i)
  bad_row_lem h = not_T (eqb (bad_field words i) 0) (λ t. h (eqb→eq (bad_field words i) 0 t))

  pub good_row : bad_field words i ≡ 0 → Is (bad_row words i) → ⊥
  good_row e t = T_not (eqb (bad_field words i) 0) t (subst (λ (x : ℕ). Is (eqb x 0)) (sym e) (eqb_refl 0))

  pub row_good : (Is (bad_row words i) → ⊥) → bad_field words i ≡ 0
  row_good h = go (eqb (bad_field words i) 0) refl
    where
      go : (b : Bool) → eqb (bad_field words i) 0 ≡ b → bad_field words i ≡ 0
      go true q = eqb-true (bad_field words i) 0 q
      go false q = absurd (h (rw q tt))

module _ (words : List ℕ) where
  pub no_words : length words ≡ 0 → ragged words ≡ true
  unfolding ragged
  no_words e = rw (eq-eqb (length words) 0 e)

  pub not_by_six : (length words ≡ 0 → ⊥) → (length words % 6 ≡ 0 → ⊥) → ragged words ≡ true
  unfolding ragged
  not_by_six z e = rw (ne_eqb (length words) 0 z, ne_eqb (length words % 6) 0 e)

  pub by_six : (length words ≡ 0 → ⊥) → length words % 6 ≡ 0 → ragged words ≡ false
  unfolding ragged
  by_six z e = rw (ne_eqb (length words) 0 z, eq-eqb (length words % 6) 0 e)

  pub whole_words : ragged words ≡ false → length words ≡ 6 * rows words
  unfolding ragged
  whole_words e = go (eqb (length words) 0) (eqb (length words % 6) 0) refl refl e
    where
      go : (a b : Bool) → eqb (length words) 0 ≡ a → eqb (length words % 6) 0 ≡ b → (a || not b) ≡ false → length words ≡ 6 * rows words
      go true b p q e = absurd (let z : ◌≡◌ {A = ℕ} 0 1 = cc in omega arith)
      go false true p q e = omega (arith, eqb-true (length words % 6) 0 q)
      go false false p q e = absurd (let z : ◌≡◌ {A = ℕ} 0 1 = cc in omega arith)

  pub some_words : ragged words ≡ false → length words ≡ 0 → ⊥
  some_words e z = absurd (let q : true ≡ false = sym (no_words z) ∙ e in let n : ◌≡◌ {A = ℕ} 0 1 = cc in omega arith)

  pub shape_1 : ragged words ≡ true → shape_refusal words ≡ refused (answer 1 0 0)
  unfolding shape_refusal
  shape_1 e = rw e

  pub shape_2 : ragged words ≡ false → limit < rows words → shape_refusal words ≡ refused (answer 2 0 0)
  unfolding shape_refusal
  shape_2 e h = rw (e, lt-ltb limit (rows words) h)

  pub shape_none : ragged words ≡ false → rows words ≤ limit → shape_refusal words ≡ fine
  unfolding shape_refusal
  shape_none e h = rw (e, le-ltb limit (rows words) h)

  -- words that have the shape of a table
  pub record Shaped : Type 0 where
    pub whole : ragged words ≡ false
    pub few : rows words ≤ limit

  pub shaped : shape_refusal words ≡ fine → Shaped
  unfolding shape_refusal
  shaped e =
      let a = then_fine (refuse_if (ragged words) (answer 1 0 0)) _ e in
      record { whole = if_fine (ragged words) _ a.0; few = ltb-false limit (rows words) (if_fine (ltb limit (rows words)) _ a.1) }

module _ (words : List ℕ) (room : ℕ) where
  pub refuse_shape : {a : Answer} → shape_refusal words ≡ refused a → table_refusal words room ≡ refused a
  unfolding table_refusal
  refuse_shape e = rw e

  module _ {n : ℕ} (shape : shape_refusal words ≡ fine) (count : n ≡ rows words) where
    pub refuse_3 : {i : ℕ} → lowest n (bad_row words) ≡ at i → table_refusal words room ≡ refused (answer 3 i (bad_field words i))
    unfolding table_refusal
    refuse_3 l = rw (shape, sym count, l)

    pub refuse_4 : lowest n (bad_row words) ≡ nowhere → room < n → table_refusal words room ≡ refused (answer 4 0 0)
    unfolding table_refusal
    refuse_4 l k = rw (shape, sym count, l, lt-ltb room n k)

    pub refuse_none : lowest n (bad_row words) ≡ nowhere → n ≤ room → table_refusal words room ≡ fine
    unfolding table_refusal
    refuse_none l k = rw (shape, sym count, l, le-ltb room n k)

  -- a table that no check refuses
  pub record Accepted : Type 0 where
    pub whole : ragged words ≡ false
    pub few : rows words ≤ limit
    pub good : (i : ℕ) → i < rows words → bad_field words i ≡ 0
    pub roomy : rows words ≤ room

  pub accepted : table_refusal words room ≡ fine → Accepted
  unfolding table_refusal
  accepted e =
      let a = then_fine (shape_refusal words) _ e in
      let b = then_fine (refuse_at (lowest (rows words) (bad_row words)) (λ i. answer 3 i (bad_field words i))) _ a.1 in
      let shape = shaped words a.0 in
      record {
        whole = shape.whole;
        few = shape.few;
        good = λ i l. row_good words i (none_lowest (rows words) (bad_row words) (at_fine _ _ b.0) i l);
        roomy = ltb-false room (rows words) (if_fine (ltb room (rows words)) _ b.1);
      }

  -- and the other way: words of n rows that can be read, with room
  pub acceptable : {n : ℕ} → length words ≡ n * 6 → 0 < n → n ≤ limit → n ≤ room → ((i : ℕ) → i < n → bad_field words i ≡ 0) → table_refusal words room ≡ fine
  acceptable {n} long some few roomy good =
      refuse_none (shape_none words (by_six words (omega arith) (omega arith)) (omega arith)) refl
      (lowest_none (rows words) (bad_row words) (λ i b. good_row words i (good i (omega arith)))) (omega arith)

-- ---- what code asks of an answer

pub rows_all : (words : List ℕ) (held : List Terms) {r : Result ⊤ Refusal} {done : ⊤} → RowsRead words held r → r ≡ Ok done
    → (lowest (length held) (bad_row words) ≡ nowhere) × Holds (table_of words) (length held) (lengths held) (periods held) (jitters held) (allowed held) (keys held)
rows_all words held h q = subst (RowsRead words held) q h

pub rows_refused : (words : List ℕ) (held : List Terms) {r : Result ⊤ Refusal} {x : Refusal} → RowsRead words held r → r ≡ Err x
    → (i : ℕ) × (lowest (length held) (bad_row words) ≡ at i) × (refusal_answer x ≡ answer 3 i (bad_field words i))
rows_refused words held h q = subst (RowsRead words held) q h

pub counted_rows : (words : List ℕ) {r : Result ℕ Refusal} {n : ℕ} → Counted words r → r ≡ Ok n → (shape_refusal words ≡ fine) × (n ≡ rows words)
counted_rows words h q = subst (Counted words) q h

pub counted_refused : (words : List ℕ) {r : Result ℕ Refusal} {x : Refusal} → Counted words r → r ≡ Err x → shape_refusal words ≡ refused (refusal_answer x)
counted_refused words h q = subst (Counted words) q h

-- words that are no table are none to take in either
pub counted_out : (words : List ℕ) (room : ℕ) (places : List Terms) {r : Result ℕ Refusal} {x : Refusal} → Counted words r → r ≡ Err x → IntakeIs words room places r
counted_out words room places h q = subst (IntakeIs words room places) (sym q) (refuse_shape words room (counted_refused words h q))

pub taken_in : (words : List ℕ) (room : ℕ) (places : List Terms) {r : Result ℕ Refusal} {n : ℕ} → IntakeIs words room places r → r ≡ Ok n → (n ≤ length places) × Taken words room (take n places)
taken_in words room places h q = subst (IntakeIs words room places) q h

pub taken_refused : (words : List ℕ) (room : ℕ) (places : List Terms) {r : Result ℕ Refusal} {x : Refusal} → IntakeIs words room places r → r ≡ Err x → table_refusal words room ≡ refused (refusal_answer x)
taken_refused words room places h q = subst (IntakeIs words room places) q h
