-- What holds of columns holds of their first places, and of the columns along an order.
-- Assumes nothing.
use Rattle.std.specs.Prelude.{ℕ, ◌≤◌, ◌<◌, ◌≡◌, List, length, get_or}
use Rattle.std.proofs.Common.{arith, sym, ap, ◌∙◌}
use Rattle.sums.specs.Columns.{Columns, at}
use Rattle.sums.specs.Terms.{column, nothing, lengths, periods, jitters, allowed, keys}
use Rattle.sums.specs.TermLaws.{at_column, length_column}
use Rattle.sums.specs.declared.Terms.{Terms}
use Rattle.order.specs.Sheet.{Lengths, Room, Along, Aligned}

pub lengths_part : {n m : ℕ} {c a : List ℕ} → m ≤ n → Lengths n c a → Lengths m c a
lengths_part l h =
    record {
      few = omega (arith, h.few);
      long_c = omega (arith, h.long_c);
      long_e = omega (arith, h.long_e);
      c_most = λ k b. h.c_most k (omega arith);
      e_most = λ k b. h.e_most k (omega arith);
    }

-- the first m places of columns along an order
module _ {n m : ℕ} {c t j e key order c' t' j' e' key' : List ℕ} (along : Aligned n c t j e key order c' t' j' e' key') (l : m ≤ n) (range : (p : ℕ) → p < m → at order p < n)
    (room : Room n c' t' j' e' key') where
  pub rates_along : Columns n c t j → Columns m c' t' j'
  rates_along h =
      record {
        long_c = omega (arith, room.long_c);
        long_t = omega (arith, room.long_t);
        long_j = omega (arith, room.long_j);
        c_most = λ p b. omega (arith, along.along_c p (omega arith), h.c_most (at order p) (range p b));
        t_least = λ p b. omega (arith, along.along_t p (omega arith), h.t_least (at order p) (range p b));
        t_most = λ p b. omega (arith, along.along_t p (omega arith), h.t_most (at order p) (range p b));
        j_most = λ p b. omega (arith, along.along_j p (omega arith), h.j_most (at order p) (range p b));
      }

  pub lengths_along : Lengths n c e → Lengths m c' e'
  lengths_along h =
      record {
        few = omega (arith, h.few);
        long_c = omega (arith, room.long_c);
        long_e = omega (arith, room.long_e);
        c_most = λ p b. omega (arith, along.along_c p (omega arith), h.c_most (at order p) (range p b));
        e_most = λ p b. omega (arith, along.along_e p (omega arith), h.e_most (at order p) (range p b));
      }

-- ---- rows

-- the columns of rows have room for as many
pub room_of : {n : ℕ} (rows : List Terms) → n ≤ length rows → Room n (lengths rows) (periods rows) (jitters rows) (allowed rows) (keys rows)
room_of rows few =
    record {
      long_c = omega (arith, few, length_column (λ x. x.length) rows);
      long_t = omega (arith, few, length_column (λ x. x.period) rows);
      long_j = omega (arith, few, length_column (λ x. x.jitter) rows);
      long_e = omega (arith, few, length_column (λ x. x.allowed) rows);
      long_key = omega (arith, few, length_column (λ x. x.key) rows);
    }

-- the columns of rows that stand along the first n of an order stand along them
pub aligned_rows : {n : ℕ} (rows : List Terms) (order : List ℕ) (along : List Terms) → ((p : ℕ) → p < n → at order p < length rows) → n ≤ length along
    → ((p : ℕ) → p < n → get_or along p nothing ≡ get_or rows (at order p) nothing)
    → Aligned n (lengths rows) (periods rows) (jitters rows) (allowed rows) (keys rows) order (lengths along) (periods along) (jitters along) (allowed along) (keys along)
aligned_rows {n} rows order along range long h =
    record { along_c = stands (λ x. x.length); along_t = stands (λ x. x.period); along_j = stands (λ x. x.jitter); along_e = stands (λ x. x.allowed); along_key = stands (λ x. x.key) }
  where
    stands : (f : Terms → ℕ) → Along n (column f rows) order (column f along)
    stands f p l = at_column f along p nothing (omega arith) ∙ (ap f (h p l) ∙ sym (at_column f rows (at order p) nothing (range p l)))
