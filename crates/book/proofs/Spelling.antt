-- The library's bytes of a number, and its number of bytes, are those of specs/Bytes. Assumes nothing.
use Rattle.std.specs.Prelude.{ℕ, zero, suc, ◌+◌, ◌*◌, ◌-◌, ◌<◌, take, drop, slice_index_or, ◌/◌, ◌%◌, ◌≤◌, ◌≡◌, refl, List, [], ◌∷◌, length}
use Rattle.std.specs.Int.{w16, w32, to_be_bytes, to_le_bytes, from_be_bytes, from_le_bytes}
use Rattle.std.specs.Simd.{first_chunks}
use Rattle.std.proofs.Common.{le_of_suc-le-suc, drop-drop, length-drop, arith, ap, ap₂, ◌∙◌}
use Rattle.std.proofs.lemmas.List.{take_all}
use Rattle.sums.specs.Columns.{at}
use Rattle.book.specs.Bytes.{low, high, from_low, from_high, part}
use Rattle.book.specs.Book.{count}
use Rattle.book.specs.ListLaws.{part_length}

-- ---- to bytes

-- a byte of a word, by one division
third : (v : ℕ) → v / 65536 % 256 ≡ v / 256 / 256 % 256
third v = omega arith

fourth : (v : ℕ) → v / 16777216 % 256 ≡ v / 256 / 256 / 256 % 256
fourth v = omega arith

pub two_high : (v : ℕ) → to_be_bytes w16 v ≡ high 2 v
two_high v = refl

pub four_high : (v : ℕ) → to_be_bytes w32 v ≡ high 4 v
four_high v = ap₂ (λ (x y : ℕ). x ∷ y ∷ v / 256 % 256 ∷ v % 256 ∷ []) (fourth v) (third v)

pub four_low : (v : ℕ) → to_le_bytes w32 v ≡ low 4 v
four_low v = ap₂ (λ (x y : ℕ). v % 256 ∷ v / 256 % 256 ∷ x ∷ y ∷ []) (third v) (fourth v)

-- ---- from bytes

-- what holds of any four entries holds of a list of that length
of_four : (P : List ℕ → Type 0) → ((a b c d : ℕ) → P (a ∷ b ∷ c ∷ d ∷ [])) → (l : List ℕ) → length l ≡ 4 → P l
of_four P h [] e = absurd (omega arith)
of_four P h (a ∷ []) e = absurd (omega arith)
of_four P h (a ∷ b ∷ []) e = absurd (omega arith)
of_four P h (a ∷ b ∷ c ∷ []) e = absurd (omega arith)
of_four P h (a ∷ b ∷ c ∷ d ∷ []) e = h a b c d
of_four P h (a ∷ b ∷ c ∷ d ∷ x ∷ l) e = absurd (omega arith)

module _ (book : List ℕ) (p : ℕ) (there : p + 4 ≤ length book) where
  pub four_from_high : from_be_bytes w32 (part book p 4) ≡ from_high (part book p 4)
  four_from_high = of_four (λ l. from_be_bytes w32 l ≡ from_high l) (λ a b c d. omega arith) (part book p 4) (part_length book p 4 there)

  pub four_from_low : from_le_bytes w32 (part book p 4) ≡ from_low (part book p 4)
  four_from_low = of_four (λ l. from_le_bytes w32 l ≡ from_low l) (λ a b c d. omega arith) (part book p 4) (part_length book p 4 there)

pub two_counted : (book : List ℕ) → 2 ≤ length book → from_be_bytes w16 (at book 0 ∷ at book 1 ∷ []) ≡ count book
two_counted [] l = absurd (omega arith)
two_counted (a ∷ []) l = absurd (omega arith)
two_counted (a ∷ b ∷ book) l = omega arith

-- ---- the chunks of what is behind a place

chunk_at : (l : List ℕ) (k i : ℕ) → i < k → slice_index_or (first_chunks 4 k l) i [] ≡ take 4 (drop (4 * i) l)
chunk_at l zero i h = absurd (omega arith)
chunk_at l (suc k) zero h = refl
chunk_at l (suc k) (suc i) h =
    let next : 4 + 4 * i ≡ 4 * suc i = omega arith in
    chunk_at (drop 4 l) k i (le_of_suc-le-suc h) ∙ ap (take 4) (drop-drop (4 * i) 4 l) ∙ ap (λ (q : ℕ). take 4 (drop q l)) next

pub chunk_there : (book : List ℕ) (p k i : ℕ) → i < k → slice_index_or (first_chunks 4 k (take (length book - p) (drop p book))) i [] ≡ part book (p + 4 * i) 4
chunk_there book p k i h =
    let all = take_all (length book - p) (drop p book) (omega (arith, length-drop p book)) in
    ap (λ (l : List ℕ). slice_index_or (first_chunks 4 k l) i []) all ∙ chunk_at (drop p book) k i h ∙ ap (take 4) (drop-drop (4 * i) p book)
