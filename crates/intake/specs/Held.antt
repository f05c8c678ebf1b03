-- A table in columns as the functions over it ask for it: numbers as document 01 allows them, and keys that stay within the flags. What was
-- taken in is so held.
-- Assumes nothing.
use Rattle.std.specs.Prelude.{ℕ, ◌+◌, ◌≤◌, ◌<◌, ◌≡◌, List, length}
use Rattle.std.proofs.Common.{arith}
use Rattle.sums.specs.Columns.{Columns, at}
use Rattle.sums.specs.Terms.{lengths, periods, jitters, allowed, keys}
use Rattle.sums.specs.declared.Terms.{Terms}
use Rattle.licence.specs.Limit.{limit}
use Rattle.licence.specs.Row.{bad_field}
use Rattle.licence.specs.Laws.{Allowed, row_allowed, key_bound}
use Rattle.order.specs.Sheet.{Lengths, Room}
use Rattle.order.specs.Columns.{room_of}
use Rattle.intake.specs.Holds.{TakenIn, Taken}
use Rattle.intake.specs.Laws.{Accepted, accepted}

-- a key for each row, none past that of a priority row in its place
pub record Keyed (n : ℕ) (key : List ℕ) : Type 0 where
  pub long_key : n ≤ length key
  pub key_most : (k : ℕ) → k < n → at key k ≤ 65 + k

-- a table in columns, with numbers as document 01 allows them
pub record Held (n : ℕ) (c t j e key : List ℕ) : Type 0 where
  pub rates : Columns n c t j
  pub lengths : Lengths n c e
  pub some_bits : (k : ℕ) → k < n → 1 ≤ at c k
  pub keys : Keyed n key

pub held_room : {n : ℕ} {c t j e key : List ℕ} → Held n c t j e key → Room n c t j e key
held_room h = record { long_c = h.rates.long_c; long_t = h.rates.long_t; long_j = h.rates.long_j; long_e = h.lengths.long_e; long_key = h.keys.long_key }

-- the same of rows
abbrev pub HeldRows : List Terms → Type 0
HeldRows rows = Held (length rows) (lengths rows) (periods rows) (jitters rows) (allowed rows) (keys rows)

-- the columns of a table that was taken in are held
pub held_in : (words : List ℕ) (room : ℕ) {n : ℕ} {c t j e key : List ℕ} → Room n c t j e key → TakenIn words room n c t j e key → Held n c t j e key
held_in words room {n} {c} {t} {j} {e} {key} long x =
    record {
      rates =
          record {
            long_c = long.long_c;
            long_t = long.long_t;
            long_j = long.long_j;
            c_most = λ k l. omega (arith, x.holds.is_C k l, (row k l).length_le);
            t_least = λ k l. omega (arith, x.holds.is_T k l, (row k l).period_pos);
            t_most = λ k l. omega (arith, x.holds.is_T k l, (row k l).period_le);
            j_most = λ k l. omega (arith, x.holds.is_J k l, row k l);
          };
      lengths =
          record {
            few = few;
            long_c = long.long_c;
            long_e = long.long_e;
            c_most = λ k l. omega (arith, x.holds.is_C k l, (row k l).length_le);
            e_most = λ k l. omega (arith, x.holds.is_E k l, row k l);
          };
      some_bits = λ k l. omega (arith, x.holds.is_C k l, (row k l).length_pos);
      keys = record { long_key = long.long_key; key_most = λ k l. omega (arith, x.holds.is_key k l, key_bound words k (good k l)) };
    }
  where
    ok : Accepted words room
    ok = accepted words room x.unrefused

    few : n ≤ limit
    few = omega (arith, x.count, ok.few)

    good : (k : ℕ) → k < n → bad_field words k ≡ 0
    good k l = ok.good k (omega (arith, x.count))

    row : (k : ℕ) → k < n → Allowed words k
    row k l = row_allowed words k (good k l)

pub held : (words : List ℕ) (room : ℕ) {n : ℕ} {c t j e key : List ℕ} → Room limit c t j e key → TakenIn words room n c t j e key → Held n c t j e key
held words room {n} long x =
    held_in words room (record { long_c = omega (arith, long.long_c, few); long_t = omega (arith, long.long_t, few); long_j = omega (arith, long.long_j, few); long_e = omega (arith, long.long_e, few); long_key = omega (arith, long.long_key, few) }) x
  where
    few : n ≤ limit
    few = omega (arith, x.count, (accepted words room x.unrefused).few)

-- and so are rows that were
pub held_rows : (words : List ℕ) (room : ℕ) (rows : List Terms) → Taken words room rows → HeldRows rows
held_rows words room rows = held_in words room (room_of rows (omega arith))
