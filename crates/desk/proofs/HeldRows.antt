-- The rows of a ledger's table after a change: with a row added, those held and then the new one; with one taken out, those held but for it.
-- Assumes nothing.
use Rattle.std.specs.Prelude.{ℕ, suc, ◌+◌, ◌-◌, ◌*◌, ◌≤◌, ◌<◌, ◌≡◌, ◌⊎◌, List, ◌++◌, length, get_or, take, drop}
use Rattle.std.proofs.Common.{eq-or-lt_of_le, le_of_suc-le-suc, arith, ap, ◌∙◌, inl, inr, length-append, length-drop, length-take-le, get_or-take, get_or-drop, get_or-append-add}
use Rattle.std.proofs.Math.ListN.{get_or-append}
use Rattle.licence.specs.Limit.{limit}
use Rattle.licence.specs.Row.{word, bad_field}
use Rattle.licence.specs.Laws.{SameRow, same_field}
use Rattle.order.specs.Without.{raise, raise_by}
use Rattle.intake.specs.Words.{rows}
use Rattle.intake.specs.Refusals.{table_refusal}
use Rattle.intake.specs.Answer.{fine}
use Rattle.intake.specs.Laws.{acceptable}
use Rattle.desk.specs.Ledger.{Whole, held_words, with_row, row_out}
use Rattle.desk.proofs.Laws.{Fit, Claimable}
use Rattle.desk.specs.declared.Ledger.{Ledger}

-- ---- the first words of a list, and then others

module _ (h : ℕ) (w s : List ℕ) (long : h * 6 ≤ length w) where
  front_row : (i : ℕ) → i < h → SameRow (take (h * 6) w ++ s) i w i
  front_row i l k m =
      get_or-append (take (h * 6) w) s 0 (i * 6 + k) (omega (arith, length-take-le (h * 6) w long)) ∙ get_or-take (h * 6) w (i * 6 + k) 0 (omega arith)

  -- row j of the others
  behind_row : (j : ℕ) → SameRow (take (h * 6) w ++ s) (h + j) s j
  behind_row j k m =
      let here : (h + j) * 6 + k ≡ length (take (h * 6) w) + (j * 6 + k) = omega (arith, length-take-le (h * 6) w long) in
      ap (λ (p : ℕ). get_or (take (h * 6) w ++ s) p 0) here ∙ get_or-append-add (take (h * 6) w) s (j * 6 + k) 0

-- ---- the rows held

module _ (l : Ledger) (long : l.held * 6 ≤ length l.words) where
  pub held_length : length (held_words l) ≡ l.held * 6
  held_length = length-take-le (l.held * 6) l.words long

  pub held_count : rows (held_words l) ≡ l.held
  held_count = omega (arith, held_length)

  pub held_row : (i : ℕ) → i < l.held → SameRow (held_words l) i l.words i
  held_row i b k m = get_or-take (l.held * 6) l.words (i * 6 + k) 0 (omega arith)

  pub held_good : Fit l.words l.held → (i : ℕ) → i < l.held → bad_field (held_words l) i ≡ 0
  held_good held_fit i b = same_field (held_words l) i l.words i (held_row i b) ∙ held_fit.good i b

-- ---- a row added

module _ (l : Ledger) (row : List ℕ) (long : l.held * 6 ≤ length l.words) (six : length row ≡ 6) where
  pub with_length : length (with_row l row) ≡ (l.held + 1) * 6
  with_length = omega (arith, length-append (held_words l) row, held_length l long)

  pub with_count : rows (with_row l row) ≡ l.held + 1
  with_count = omega (arith, with_length)

  pub with_good : Fit l.words l.held → bad_field row 0 ≡ 0 → (i : ℕ) → i < l.held + 1 → bad_field (with_row l row) i ≡ 0
  with_good held_fit good i h = go (eq-or-lt_of_le (le_of_suc-le-suc (omega arith)))
    where
      go : (i ≡ l.held) ⊎ (i < l.held) → bad_field (with_row l row) i ≡ 0
      go (inl e) =
          let here : i ≡ l.held + 0 = omega arith in
          ap (bad_field (with_row l row)) here ∙ same_field (with_row l row) (l.held + 0) row 0 (behind_row l.held l.words row long 0) ∙ good
      go (inr q) = same_field (with_row l row) i l.words i (front_row l.held l.words row long i q) ∙ held_fit.good i q

-- a claim that no check refuses is one for a table that no check of the finder refuses
pub claim_fine : (l : Ledger) (row : List ℕ) (seen room : ℕ) → Whole l → limit ≤ room → Claimable l row seen → table_refusal (with_row l row) room ≡ fine
claim_fine l row seen room whole roomy c =
    let words : l.held * 6 ≤ length l.words = omega (arith, c.room) in
    acceptable (with_row l row) room (with_length l row words c.six) (omega arith) (omega (arith, c.room)) (omega (arith, c.room)) (with_good l row words c.six c.held_fit c.good)

-- ---- a row taken out

module _ (words : List ℕ) (n k : ℕ) (there : k < n) (long : length words ≡ n * 6) where
  pub out_length : length (row_out k words) ≡ (n - 1) * 6
  out_length = omega (arith, length-append (take (k * 6) words) (drop (k * 6 + 6) words), length-take-le (k * 6) words (omega arith), length-drop (k * 6 + 6) words)

  pub out_count : rows (row_out k words) ≡ n - 1
  out_count = omega (arith, out_length)

  -- row j afterwards is the row that had the number raise k j
  pub out_row : (j : ℕ) → j < n - 1 → SameRow (row_out k words) j words (raise k j)
  out_row j b = raise_by k j (λ i. SameRow (row_out k words) j words i) before behind
    where
      before : j < k → SameRow (row_out k words) j words j
      before h = front_row k words (drop (k * 6 + 6) words) (omega arith) j h

      behind : k ≤ j → SameRow (row_out k words) j words (suc j)
      behind h m b =
          let place : j ≡ k + (j - k) = omega arith in
          let here : k * 6 + 6 + ((j - k) * 6 + m) ≡ suc j * 6 + m = omega arith in
          ap (λ (i : ℕ). word (row_out k words) i m) place
          ∙ behind_row k words (drop (k * 6 + 6) words) (omega arith) (j - k) m b
          ∙ get_or-drop (k * 6 + 6) words ((j - k) * 6 + m) 0
          ∙ ap (λ (p : ℕ). get_or words p 0) here
