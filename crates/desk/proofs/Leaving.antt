-- With a row taken out of some rows that can be read, the others can be read as before; and if the rows have an order that passes, the others have one too.
-- Assumes nothing.
use Rattle.std.specs.Prelude.{ℕ, ◌-◌, ◌*◌, ◌<◌, ◌≡◌, ◌⊎◌, List, length}
use Rattle.std.proofs.Common.{arith, sym, ap, ◌∙◌, inl, inr, lit<}
use Rattle.licence.specs.Row.{word, bad_field, bit_times, allowed_time, band_key, queue_of, row_at}
use Rattle.licence.specs.Laws.{SameRow, same_row, same_field, row_allowed, key_fifo, same_key}
use Rattle.licence.specs.declared.Row.{Row}
use Rattle.order.specs.Without.{Without, raise, raise_apart, raise_inside, withdrawn_order}
use Rattle.order.specs.Orders.{HasOrder}
use Rattle.intake.specs.Words.{rows, table_of}
use Rattle.desk.specs.Ledger.{row_out}
use Rattle.desk.proofs.HeldRows.{out_count, out_row}

-- rows of one band are of one band as rows of other words too, where one row stays one row
bands_follow : (words others : List ℕ) (i j i' j' : ℕ) → SameRow words i others i' → SameRow words j others j' → bad_field words i ≡ 0 → bad_field words j ≡ 0 → (i ≡ j → i' ≡ j')
    → (table_of words).key i ≡ (table_of words).key j → (table_of others).key i' ≡ (table_of others).key j'
bands_follow words others i j i' j' si sj gi gj one e =
    go (same_key (word words i 0) (word words j 0) i j (row_allowed words i gi).queue_le (row_allowed words j gj).queue_le e)
  where
    fifo : (k k' : ℕ) → SameRow words k others k' → 0 < word words k 0 → (table_of others).key k' ≡ word words k 0
    fifo k k' s p = ap (λ (q : ℕ). band_key (queue_of q) k') (sym (s 0 (lit< tt))) ∙ key_fifo (word words k 0) k' p

    go : (i ≡ j) ⊎ ((word words i 0 ≡ word words j 0) × (0 < word words i 0)) → (table_of others).key i' ≡ (table_of others).key j'
    go (inl q) = ap (table_of others).key (one q)
    go (inr q) = fifo i i' si q.1 ∙ (q.0 ∙ sym (fifo j j' sj (omega (arith, q.0, q.1))))

module _ (words : List ℕ) (n k : ℕ) (there : k < n) (long : length words ≡ n * 6) (good : (i : ℕ) → i < n → bad_field words i ≡ 0) where
  module _ (i : ℕ) (b : i < rows (row_out k words)) where
    left : i < n - 1
    left = omega (arith, out_count words n k there long)

    row : SameRow (row_out k words) i words (raise k i)
    row = out_row words n k there long i left

    inside : raise k i < n
    inside = omega (arith, raise_inside k i (n - 1) left)

    good_after : bad_field (row_out k words) i ≡ 0
    good_after = same_field (row_out k words) i words (raise k i) row ∙ good (raise k i) inside

    -- a number that is read off the row
    same : (f : Row → ℕ) → f (row_at (row_out k words) i) ≡ f (row_at words (raise k i))
    same f = ap f (same_row (row_out k words) i words (raise k i) row)

  -- the others can still be read
  pub still_good : (i : ℕ) → i < n - 1 → bad_field (row_out k words) i ≡ 0
  still_good i b = good_after i (omega (arith, out_count words n k there long))

  out : Without k (table_of (row_out k words)) (table_of words)
  out =
      record {
        inside = omega arith;
        count = omega (arith, out_count words n k there long);
        same_C = λ i b. same i b (λ r. bit_times r.length);
        same_T = λ i b. same i b (λ r. r.period);
        same_J = λ i b. same i b (λ r. r.jitter);
        same_E = λ i b. same i b allowed_time;
        keep = λ i j b c. bands_follow (row_out k words) words i j (raise k i) (raise k j) (row i b) (row j c) (good_after i b) (good_after j c) (ap (raise k));
        reflect = λ i j b c.
            bands_follow words (row_out k words) (raise k i) (raise k j) i j (λ m h. sym (row i b m h)) (λ m h. sym (row j c m h)) (good (raise k i) (inside i b)) (good (raise k j) (inside j c))
            (raise_apart k i j);
      }

  pub still_ordered : HasOrder (table_of words) → HasOrder (table_of (row_out k words))
  still_ordered = withdrawn_order k (table_of (row_out k words)) (table_of words) out (λ i b. (row_allowed words i (good i (omega arith))).period_pos)
