-- The walk that writes what stands for each row: the rows along the order, one run more in the lent list, and the list when all are judged.
-- Assumes nothing.
use Rattle.std.specs.Prelude.{Option}
use Prim.Native.Nat.{ℕ, ◌-◌, ◌≤◌, ◌<◌}
use native.Mathlib.Nat.{le_refl}
use native.Mathlib.Decide.{dec_lt}
use native.Mathlib.Omega.{arith}
use mathlib.Core.Path.{◌≡◌, refl, sym, subst, ◌∙◌}
use mathlib.Core.List.{List}
use lib.ListN.{length, take}
use Rattle.sums.specs.Masks.{run, None}
use Rattle.sums.specs.Sums.{max_over}
use Rattle.sums.specs.Columns.{at}
use Rattle.sums.specs.ColumnLaws.{columns_part}
use Rattle.sums.specs.TermLaws.{at_part}
use Rattle.sums.specs.Terms.{nothing, lengths, periods, jitters, allowed, keys}
use Rattle.sums.specs.declared.Terms.{Terms}
use Rattle.order.specs.Orders.{bad_entry, Together}
use Rattle.order.specs.Parts.{count_part}
use Rattle.order.specs.Split.{entry_new}
use Rattle.order.specs.Sheet.{sheet_of, Aligned, Placed, RunIn, RunVerdict}
use Rattle.order.specs.Columns.{lengths_part, rates_along, lengths_along, room_of, aligned_rows}
use Rattle.intake.specs.Held.{HeldRows}
use Rattle.judge.specs.Judged.{Written}
use Rattle.judge.specs.Walk.{InRange, NoneBad, Sound, shown_as, RunStarts, PutFor, Laid, LaidRows, ShownRun, FilledFrom, FilledRows}
use Rattle.judge.proofs.Runs.{shown_there}

-- ---- the rows along the order

module _ (rows : List Terms) {order : List ℕ} (held : HeldRows rows) (range : InRange (length order) order) (distinct : NoneBad order) (whole : length order ≡ length rows) (together : Together (sheet_of rows) order) where
  row : (p : ℕ) → p < length rows → at order p < length rows
  row p l = omega (arith, whole, range.range p (omega (arith, whole)))

  sound : Sound (length rows) (sheet_of rows) order
  sound = record { count = whole; entries = rw whole at distinct; together = together }

  module _ (along : List Terms) (count : length along ≡ length rows) (placed : Placed rows order along) where
    aligned : Aligned (length rows) (lengths rows) (periods rows) (jitters rows) (allowed rows) (keys rows) order (lengths along) (periods along) (jitters along) (allowed along) (keys along)
    aligned = aligned_rows rows order along row (omega (arith, count)) (λ p l. placed p nothing (omega (arith, whole)))

    pub laid : LaidRows along
    laid =
        let room = room_of along (omega (arith, count)) in
        subst (λ (m : ℕ). Laid m (lengths along) (periods along) (jitters along) (allowed along) (keys along)) (sym count)
        (record {
          rates = rates_along aligned (le_refl (length rows)) row room held.rates;
          lengths = lengths_along aligned (le_refl (length rows)) row room held.lengths;
          long_key = room.long_key;
        })

    pub written : {before after : List ℕ} → FilledRows along order before after 0 → Written (sheet_of rows) order before after
    written {before} {after} filled =
        let f = subst (λ (m : ℕ). FilledFrom m (lengths along) (periods along) (jitters along) (allowed along) (keys along) order before after 0) count filled in
        record {
          same_length = f.same_length;
          beyond = λ i l. f.beyond i (omega arith);
          figures = λ p l. shown_there (sheet_of rows) order sound aligned.along_c aligned.along_t aligned.along_j aligned.along_e aligned.along_key (f.shown p (omega arith) l);
        }

-- ---- one run more

-- the last run of the first places starts where the run that ends there does
pub starts_part : (rows : List Terms) (n : ℕ) → n ≤ length rows → {s : ℕ} → RunStarts (keys (take n rows)) (length (take n rows)) s → RunStarts (keys rows) n s
starts_part rows n l {s} h =
    let count = count_part rows n l in
    let same = λ (k : ℕ) (b : k < n). at_part (λ row. row.key) rows n k b in
    let some : s < n = omega (arith, h.some, count) in
    record {
      some = some;
      one = λ p a b. sym (same p b) ∙ h.one p a (omega (arith, count)) ∙ same s some;
      first = λ a z. h.first a (same (s - 1) (omega arith) ∙ z ∙ sym (same s some));
    }

-- a run that ends at place e may be judged
pub run_there : {n : ℕ} {c t j a key : List ℕ} {s e below : ℕ} → Laid n c t j a key → s < e → e ≤ n → below ≤ 4096 → RunIn e c t j a s e below
run_there h some inside short =
    record { rates = columns_part inside h.rates; lengths = lengths_part inside h.lengths; some = some; inside = le_refl _; short = short }

module _ {n : ℕ} {c t j a key order before : List ℕ} where
  pub filled_none : FilledFrom n c t j a key order before before n
  filled_none = record { same_length = refl; beyond = λ i l. refl; shown = λ p l b. absurd (omega arith) }

  module _ {after after' : List ℕ} {s e : ℕ} (range : InRange n order) (distinct : None n (bad_entry n order)) (inside : e ≤ n) (f : FilledFrom n c t j a key order before after e) where
    pub filled_next : RunStarts key e s → (e < n → 0 < e → at key (e - 1) ≡ at key e → ⊥) → (v : Option ℕ) {b R : ℕ} → b ≡ max_over n (run e n) (at c) → RunVerdict e c t j a s e b v → R ≡ shown_as v
        → PutFor order s e R after after' → FilledFrom n c t j a key order before after' s
    filled_next starts last v {b} {R} longest judged is put =
        record {
          same_length = put.same_length ∙ f.same_length;
          beyond = λ i l. put.kept i (λ q h k z. omega (arith, range.range q (omega arith))) ∙ f.beyond i l;
          shown = λ p l h. go p l h (dec_lt p e);
        }
      where
        go : (p : ℕ) → s ≤ p → p < n → Dec (p < e) → ShownRun n c t j a key p (at after' (at order p))
        go p l h (yes d) =
            record {
              s = s;
              e = e;
              starts = starts;
              inside = inside;
              last = λ i z. last i (omega arith) (starts.one (e - 1) (omega (arith, starts.some)) (omega arith) ∙ sym z);
              from = l;
              to = d;
              verdict = v;
              judged = subst (λ (y : ℕ). RunVerdict e c t j a s e y v) longest judged;
              is = put.put p l d ∙ is;
            }
        go p l h (no d) =
            subst (ShownRun n c t j a key p) (sym (put.kept (at order p) (λ q i k z. entry_new n order p (distinct p h) q (omega arith) z))) (f.shown p (omega arith) h)
