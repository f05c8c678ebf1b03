-- The licence book on disk, after request L1: 'its table of contents first', 'then the bodies'. Definitions only.
-- Assumes nothing.
use Rattle.std.specs.Prelude.{ℕ, ◌+◌, ◌*◌, not, List, [], ◌∷◌, ◌++◌, length, eqb}
use Rattle.sums.specs.Masks.{Mask}
use Rattle.sums.specs.Columns.{at}
use Rattle.intake.specs.Words.{rows}
use Rattle.book.specs.Bytes.{low, high, from_low, from_high, part, each}

-- where the body of row i starts in a book of n rows: 'bodies follow the contents at once, in row order', '24 bytes a row'
abbrev pub offset : (n i : ℕ) → ℕ
offset n i = 2 + 4 * n + 24 * i

-- 'the file ends with the last'
abbrev pub size : ℕ → ℕ
size n = offset n n

-- ---- from words to bytes

-- 'each row's four-byte offset from the file's start', high byte first
abbrev pub offsets : ℕ → List ℕ
offsets n = each (λ i. high 4 (offset n i)) 0 n

-- 'the bodies, 24 bytes a row, the six words low byte first'
abbrev pub bodies : List ℕ → List ℕ
bodies words = each (λ m. low 4 (at words m)) 0 (length words)

-- 'the row count as two bytes', high byte first, the offsets, the bodies
abbrev pub book_of : List ℕ → List ℕ
book_of words = high 2 (rows words) ++ offsets (rows words) ++ bodies words

-- ---- from bytes to words

-- the words of a book of n rows: word m stands 4 m bytes into the bodies
abbrev pub word_at : List ℕ → (n m : ℕ) → ℕ
word_at book n m = from_low (part book (offset n 0 + 4 * m) 4)

abbrev pub words_in : List ℕ → ℕ → List ℕ
words_in book n = each (λ m. word_at book n m ∷ []) 0 (6 * n)

-- the row count
abbrev pub count : List ℕ → ℕ
count book = from_high (part book 0 2)

-- where the contents say that row i starts
abbrev pub offset_at : List ℕ → ℕ → ℕ
offset_at book i = from_high (part book (2 + 4 * i) 4)

-- and that it is not so
abbrev pub wrong_offset : List ℕ → Mask
wrong_offset book i = not (eqb (offset_at book i) (offset (count book) i))

-- the words of a book, of as many rows as it says
abbrev pub words_of : List ℕ → List ℕ
words_of book = words_in book (count book)
