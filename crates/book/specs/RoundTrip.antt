-- 'What it makes the reader gives back, and the other way round.' The promises are here, their proofs in
-- proofs/RoundTrip.
-- Assumes nothing.
use Rattle.std.specs.Prelude.{ℕ, ◌+◌, ◌*◌, ◌≤◌, ◌<◌, ◌≡◌, length, take}
use mathlib.Core.List.{List}
use Rattle.sums.specs.Columns.{at}
use Rattle.intake.specs.Words.{rows}
use Rattle.intake.specs.Answer.{Answer, answer, fine}
use Rattle.intake.specs.Refusals.{shape_refusal}
use Rattle.book.specs.Bytes.{low, part, laid_on, Below}
use Rattle.book.specs.Book.{book_of, offset_at}
use Rattle.book.specs.Replies.{book_refusal, BookRead, BookWritten}

-- What was written is read back word for word, into any list that has room.
abbrev pub ReadBack : Type 0
ReadBack = (words before after : List ℕ) (k : ℕ) → Below 4294967296 words → BookWritten words before after (answer 104 k 0)
    → (list list' : List ℕ) (a : Answer) → length words ≤ length list → BookRead (take k after) list list' a
    → (a ≡ answer 103 (rows words) 0) × (list' ≡ laid_on words list)

-- What was read is written again byte for byte, into any list that has room.
abbrev pub WrittenAgain : Type 0
WrittenAgain = (book before after : List ℕ) (n : ℕ) → Below 256 book → BookRead book before after (answer 103 n 0)
    → (list list' : List ℕ) (a : Answer) → length book ≤ length list → BookWritten (take (6 * n) after) list list' a
    → (a ≡ answer 104 (length book) 0) × (list' ≡ laid_on book list)

-- A book is just what is made of words that have the shape of a table; those that fit are found in it.
abbrev pub BooksExactly : Type 0
BooksExactly = ((words : List ℕ) → shape_refusal words ≡ fine → book_refusal (book_of words) ≡ fine)
    × ((book : List ℕ) → Below 256 book → book_refusal book ≡ fine → (words : List ℕ) × (shape_refusal words ≡ fine) × Below 4294967296 words × (book ≡ book_of words))

-- Where the contents say that a row starts, its six words stand.
abbrev pub RowsThere : Type 0
RowsThere = (words : List ℕ) → shape_refusal words ≡ fine → (i f : ℕ) → i < rows words → f < 6
    → part (book_of words) (offset_at (book_of words) i + 4 * f) 4 ≡ low 4 (at words (6 * i + f))
