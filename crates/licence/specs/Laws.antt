-- What follows from the definitions of Row: the bounds of a row that can be read, what a reading tells, when two rows are one word for word, and
-- when they have one key.
-- Assumes nothing.
use Rattle.std.specs.Prelude.{ℕ, zero, suc, ◌+◌, ◌≤◌, ◌<◌, Bool, true, false, cond, not, ◌&&◌, List, ◌⊎◌, ◌≡◌, refl, leb, eqb, Ok, Err}
use Rattle.std.proofs.Common.{arith, inl, inr, ap, ◌∙◌, lit<, lit≤, leb-true, ne_eqb}
use Rattle.std.proofs.Math.Bool.{and-eq-true_iff}
use Rattle.std.proofs.Math.Dec.{eqb-suc-zero}
use Rattle.licence.specs.declared.Length.{Length}
use Rattle.licence.specs.declared.Length.TheVariants.{Bits, Std, Ext}
use Rattle.licence.specs.declared.Field.{Field}
use Rattle.licence.specs.declared.Row.{Row}
use Rattle.licence.specs.Row.{word, size_allowed, first_bad, bad_field, length_of, queue_of, row_at, number_of, field_at, reading_of, read_at, bit_times, band_key}

-- ---- a row with no bad field
pub record Allowed (words : List ℕ) (i : ℕ) : Type 0 where
  pub queue_le : word words i 0 ≤ 64
  pub length_pos : 1 ≤ bit_times (row_at words i).length
  pub length_le : bit_times (row_at words i).length ≤ 4096
  pub period_pos : 1 ≤ (row_at words i).period
  pub period_le : (row_at words i).period ≤ 1000000
  pub deadline_le : (row_at words i).deadline ≤ (row_at words i).period
  pub jitter_le : (row_at words i).jitter ≤ (row_at words i).deadline

-- where a chain of tests tells no field its first test held, and the rest tells none either
passed : (b : Bool) (k r : ℕ) → 0 < k → cond (not b) k r ≡ 0 → (b ≡ true) × (r ≡ 0)
passed true k r p e = (refl, e)
passed false k r p e = absurd (omega arith)

within : (lo x hi : ℕ) → (leb lo x && leb x hi) ≡ true → (lo ≤ x) × (x ≤ hi)
within lo x hi e = let h = (and-eq-true_iff (leb lo x) (leb x hi)).0 e in omega (arith, leb-true)

-- the bounds of C, in each form
abbrev Sized : Length → Type 0
Sized l = (1 ≤ bit_times l) × (bit_times l ≤ 4096)

sized : (f s : ℕ) → size_allowed f s ≡ true → Sized (length_of f s)
unfolding size_allowed bit_times
sized f s = go (eqb f 0) (eqb f 1)
  where
    go : (a b : Bool) → cond a (leb 1 s && leb s 4096) (leb s 8) ≡ true → Sized (cond a (Bits s) (cond b (Std s) (Ext s)))
    go true b h = within 1 s 4096 h
    go false true h = omega (arith, leb-true)
    go false false h = omega (arith, leb-true)

pub row_allowed : (words : List ℕ) (i : ℕ) → bad_field words i ≡ 0 → Allowed words i
unfolding bad_field first_bad
row_allowed words i e =
    let q = passed (leb (word words i 0) 64) 1 _ (lit< tt) e in
    let f = passed (leb (word words i 1) 2) 2 _ (lit< tt) q.1 in
    let s = passed (size_allowed (word words i 1) (word words i 2)) 3 _ (lit< tt) f.1 in
    let t = passed _ 4 _ (lit< tt) s.1 in
    let t_within = within 1 (word words i 3) 1000000 t.0 in
    let d = passed _ 5 _ (lit< tt) t.1 in
    let d_within = within 1 (word words i 4) (word words i 3) d.0 in
    let j = passed (leb (word words i 5) (word words i 4)) 6 _ (lit< tt) d.1 in
    omega (arith, leb-true, sized _ _ s.0)

-- ---- a field and its number
pub number_at : (b : ℕ) → 1 ≤ b → b ≤ 6 → number_of (field_at b) ≡ b
number_at zero h l = absurd (omega arith)
number_at (suc zero) h l = refl
number_at (suc (suc zero)) h l = refl
number_at (suc (suc (suc zero))) h l = refl
number_at (suc (suc (suc (suc zero)))) h l = refl
number_at (suc (suc (suc (suc (suc zero))))) h l = refl
number_at (suc (suc (suc (suc (suc (suc zero)))))) h l = refl
number_at (suc (suc (suc (suc (suc (suc (suc n))))))) h l = absurd (omega arith)

at_most : (b : Bool) (k r : ℕ) → k ≤ 6 → r ≤ 6 → cond (not b) k r ≤ 6
at_most true k r l m = m
at_most false k r l m = l

pub bad_most : (words : List ℕ) (i : ℕ) → bad_field words i ≤ 6
unfolding bad_field first_bad
bad_most words i = search (at_most, lit≤) depth 14

-- ---- a reading
good_told : (bad : ℕ) (row r : Row) → reading_of bad row ≡ Ok r → (bad ≡ 0) × (r ≡ row)
good_told zero row r e = (refl, cc)
good_told (suc b) row r e =
    let h = simp eqb-suc-zero at e in
    absurd (let z : ◌≡◌ {A = ℕ} 0 1 = cc in omega arith)

-- what is told where a field is bad: that field, which has this number if any has
bad_told : (bad : ℕ) (f : Field) (row : Row) → reading_of bad row ≡ Err f → (bad ≡ 0 → ⊥) × (f ≡ field_at bad) × (bad ≤ 6 → number_of f ≡ bad)
bad_told zero f row e = absurd (let z : ◌≡◌ {A = ℕ} 0 1 = cc in omega arith)
bad_told (suc b) f row e =
    let told : f ≡ field_at (suc b) = let h = simp eqb-suc-zero at e in cc in
    (omega arith, told, λ l. ap number_of told ∙ number_at (suc b) (omega arith) l)

-- a row that was read has no bad field, and is the row of the words
pub read_good : (words : List ℕ) (i : ℕ) {row : Row} → read_at words i ≡ Ok row → (bad_field words i ≡ 0) × (row ≡ row_at words i)
unfolding read_at
read_good words i e = good_told _ _ _ e

-- a row that was not read has a bad field, and that is the field told
pub read_bad : (words : List ℕ) (i : ℕ) {f : Field} → read_at words i ≡ Err f → (bad_field words i ≡ 0 → ⊥) × (number_of f ≡ bad_field words i)
unfolding read_at
read_bad words i e = let t = bad_told _ _ _ e in (t.0, t.2 (bad_most words i))

-- ---- one row in two places: row i of some words is row j of others, word for word
abbrev pub SameRow : (words : List ℕ) (i : ℕ) (others : List ℕ) (j : ℕ) → Type 0
SameRow words i others j = (k : ℕ) → k < 6 → word words i k ≡ word others j k

pub same_row : (words : List ℕ) (i : ℕ) (others : List ℕ) (j : ℕ) → SameRow words i others j → row_at words i ≡ row_at others j
same_row words i others j h = cc (h 0 (lit< tt), h 1 (lit< tt), h 2 (lit< tt), h 3 (lit< tt), h 4 (lit< tt), h 5 (lit< tt))

pub same_field : (words : List ℕ) (i : ℕ) (others : List ℕ) (j : ℕ) → SameRow words i others j → bad_field words i ≡ bad_field others j
unfolding bad_field
same_field words i others j h = cc (h 0 (lit< tt), h 1 (lit< tt), h 2 (lit< tt), h 3 (lit< tt), h 4 (lit< tt), h 5 (lit< tt))

-- ---- a key
pub key_priority : (i : ℕ) → band_key (queue_of 0) i ≡ 65 + i
unfolding band_key
key_priority i = refl

pub key_fifo : (q i : ℕ) → 0 < q → band_key (queue_of q) i ≡ q
unfolding band_key
key_fifo q i h = simp (ne_eqb q 0 (omega arith))

-- a key of either kind
data Key (q i : ℕ) : Type 0 where
  priority : q ≡ 0 → band_key (queue_of q) i ≡ 65 + i → Key q i
  fifo : 0 < q → band_key (queue_of q) i ≡ q → Key q i

key_of : (q i : ℕ) → Key q i
key_of zero i = priority refl (key_priority i)
key_of (suc n) i = fifo (omega arith) (key_fifo (suc n) i (omega arith))

-- a key as an index: those of rows 0 to i are at most 65 + i
pub key_bound : (words : List ℕ) (i : ℕ) → bad_field words i ≡ 0 → band_key (row_at words i).queue i ≤ 65 + i
key_bound words i e = go (row_allowed words i e) (key_of (word words i 0) i)
  where
    go : Allowed words i → Key (word words i 0) i → band_key (row_at words i).queue i ≤ 65 + i
    go a (priority z k) = omega arith
    go a (fifo p k) = omega arith

-- rows of one key are one row, or rows of one FIFO
pub same_key : (q q' i k : ℕ) → q ≤ 64 → q' ≤ 64 → band_key (queue_of q) i ≡ band_key (queue_of q') k → (i ≡ k) ⊎ ((q ≡ q') × (0 < q))
same_key q q' i k h h' e = go (key_of q i) (key_of q' k)
  where
    go : Key q i → Key q' k → (i ≡ k) ⊎ ((q ≡ q') × (0 < q))
    go (priority z a) (priority z' a') = inl (omega arith)
    go (priority z a) (fifo p' a') = absurd (omega arith)
    go (fifo p a) (priority z' a') = absurd (omega arith)
    go (fifo p a) (fifo p' a') = inr (omega arith)
