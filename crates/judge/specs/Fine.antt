-- What a table and an order are where none of the refusals 1 to 7 is given: exactly a table of allowed rows and an order that keeps queues
-- together.
-- Assumes nothing.
use Rattle.std.specs.Prelude.{ℕ, ◌≤◌, ◌<◌, ◌≡◌, ◌⊎◌, not, List, length, leb}
use Rattle.std.proofs.Common.{arith, inl, inr, eqb→eq}
use Rattle.std.proofs.Math.Path.{refl}
use Rattle.std.proofs.Math.Dec.{T as Is, eqb, leb→le}
use borrow.Author.Tests.{eq-eqb, eqb-true, not-false}
use Rattle.sums.specs.Masks.{any_below, lowest, None}
use Rattle.sums.specs.MaskLaws.{or_cases, any_elim, lowest_none, none_lowest}
use Rattle.sums.specs.Columns.{at}
use Rattle.licence.specs.Laws.{row_allowed}
use Rattle.order.specs.Orders.{bad_entry, resumes, Order, Together}
use Rattle.order.specs.Lists.{mem_get_or, mem_at, one_place}
use Rattle.order.specs.Split.{order_of, together_of, fine_of}
use Rattle.intake.specs.Words.{rows, bad_row, table_of}
use Rattle.intake.specs.Answer.{answer, fine, refuse_if, refuse_at}
use Rattle.intake.specs.Refusals.{table_refusal}
use Rattle.intake.specs.Laws.{then_fine, if_fine, at_fine, shape_none, refuse_none, Accepted, accepted}
use Rattle.judge.specs.Judged.{order_refusal, refusal}

-- the table is accepted, and the order has each of its rows once, with each FIFO kept together
pub record Fine (words o : List ℕ) (room : ℕ) : Type 0 where
  pub accepted : Accepted words room
  pub count : length o ≡ rows words
  pub order : Order (table_of words) o
  pub together : Together (table_of words) o

-- what no check refuses is fine
pub fine_order : (words o : List ℕ) (room : ℕ) → refusal words o room ≡ fine → Fine words o room
unfolding order_refusal
fine_order words o room e =
    let table = then_fine (table_refusal words room) _ e in
    let entries = then_fine (refuse_if (not (eqb (length o) (rows words))) (answer 5 0 0)) _ table.1 in
    let queues = then_fine (refuse_at (lowest (rows words) (bad_entry (rows words) o)) (λ p. answer 6 p 0)) _ entries.1 in
    let n_entries = eqb-true (length o) (rows words) (not-false _ (if_fine (not (eqb (length o) (rows words))) _ entries.0)) in
    record {
      accepted = accepted words room table.0;
      count = n_entries;
      order = order_of (table_of words) o n_entries (none_lowest _ _ (at_fine _ _ queues.0));
      together = together_of (table_of words) o n_entries (none_lowest _ _ (at_fine _ _ queues.1));
    }

module _ {words o : List ℕ} {room : ℕ} (known : Fine words o room) where
  -- every row has a bit
  pub some_bits : (k : ℕ) → k < rows words → 1 ≤ (table_of words).C k
  some_bits k l = (row_allowed words k (known.accepted.good k l)).length_pos

  -- every entry is a row
  pub entry_row : (p : ℕ) → p < rows words → at o p < rows words
  entry_row p l = known.order.range (at o p) (mem_get_or o p (omega arith))

  -- every row stands at a place
  pub place_of_lem : (k : ℕ) → k < rows words → (p : ℕ) × (p < rows words) × (at o p ≡ k)
  place_of_lem k l =
      let (p, inside, stands) = mem_at o k (known.order.every k l) in
      (p, omega arith, stands)

  -- no entry is out of range or a repeat
  no_bad_entry : None (rows words) (bad_entry (rows words) o)
  unfolding bad_entry
  no_bad_entry p l h = go (or_cases (leb (rows words) (at o p)) (any_below p (λ i. eqb (at o i) (at o p))) h)
    where
      go : Is (leb (rows words) (at o p)) ⊎ Is (any_below p (λ i. eqb (at o i) (at o p))) → ⊥
      go (inl t) = omega (arith, leb→le (rows words) (at o p) t, entry_row p l)
      go (inr t) =
          let (i, before, same) = any_elim p (λ i. eqb (at o i) (at o p)) t in
          omega (arith, one_place o i p known.order.once (omega arith) (omega arith) (eqb→eq (at o i) (at o p) same))

  -- what is fine no check refuses
  pub order_fine : refusal words o room ≡ fine
  unfolding order_refusal
  order_fine =
      rw (
        refuse_none words room (shape_none words known.accepted.whole known.accepted.few) refl (lowest_none (rows words) (bad_row words) (λ k l h. rw (known.accepted.good k l) at h)) known.accepted.roomy,
        eq-eqb (length o) (rows words) known.count,
        lowest_none (rows words) (bad_entry (rows words) o) no_bad_entry,
        lowest_none (rows words) (resumes (table_of words).key o) (fine_of (table_of words) o known.count known.together),
      )
