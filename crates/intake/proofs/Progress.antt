-- What reading the rows one by one keeps. Assumes nothing.
use Rattle.std.specs.Prelude.{ℕ, ◌+◌, ◌<◌, ◌≡◌, List, length, set}
use Rattle.std.proofs.Common.{arith, sym, subst, below_more}
use Rattle.std.proofs.lemmas.List.{map-set}
use Rattle.sums.specs.Columns.{at}
use Rattle.sums.specs.ColumnLaws.{set_below}
use Rattle.sums.specs.Terms.{column, lengths, periods, jitters, allowed, keys}
use Rattle.sums.specs.TermLaws.{length_column}
use Rattle.sums.specs.declared.Terms.{Terms}
use Rattle.licence.specs.Row.{bad_field}
use Rattle.intake.specs.Words.{table_of}
use Rattle.intake.specs.Holds.{Holds}

-- the first i rows can be read, and are held
pub record Progress (words : List ℕ) (i : ℕ) (held : List Terms) : Type 0 where
  pub good : (k : ℕ) → k < i → bad_field words k ≡ 0
  pub holds : Holds (table_of words) i (lengths held) (periods held) (jitters held) (allowed held) (keys held)

-- a number of the rows, with one row more
one_more : (f : Terms → ℕ) (held : List Terms) (i : ℕ) (row : Terms) (is : ℕ → ℕ) → i < length held → ((k : ℕ) → k < i → at (column f held) k ≡ is k) → f row ≡ is i
    → (k : ℕ) → k < i + 1 → at (column f (set held i row)) k ≡ is k
one_more f held i row is l h e =
    subst (λ (c : List ℕ). (k : ℕ) → k < i + 1 → at c k ≡ is k) (sym (map-set f held i row))
    (set_below (λ (k x : ℕ). x ≡ is k) (column f held) i (f row) (omega (arith, length_column f held)) h e)

pub progress_next : (words : List ℕ) (i : ℕ) (held : List Terms) (row : Terms) → i < length held → bad_field words i ≡ 0
    → row.length ≡ (table_of words).C i → row.period ≡ (table_of words).T i → row.jitter ≡ (table_of words).J i → row.allowed ≡ (table_of words).E i → row.key ≡ (table_of words).key i
    → Progress words i held → Progress words (i + 1) (set held i row)
progress_next words i held row l g c t j e k h =
    record {
      good = below_more (λ (k : ℕ). bad_field words k ≡ 0) i h.good g;
      holds =
          record {
            is_C = one_more (λ x. x.length) held i row (table_of words).C l h.holds.is_C c;
            is_T = one_more (λ x. x.period) held i row (table_of words).T l h.holds.is_T t;
            is_J = one_more (λ x. x.jitter) held i row (table_of words).J l h.holds.is_J j;
            is_E = one_more (λ x. x.allowed) held i row (table_of words).E l h.holds.is_E e;
            is_key = one_more (λ x. x.key) held i row (table_of words).key l h.holds.is_key k;
          };
    }
