-- The reply tables of reading and of writing a book, whole: what is refused, and else the answer and every place of the lent list. Definitions only.
-- Assumes nothing.
use Rattle.std.specs.Prelude.{ℕ, ◌*◌, ◌≡◌, not, ◌||◌, List, length, eqb, ltb, Result, Ok}
use Rattle.sums.specs.Masks.{lowest}
use Rattle.licence.specs.Limit.{limit}
use Rattle.intake.specs.Words.{rows}
use Rattle.intake.specs.Answer.{Answer, answer, told_as, Check, refuse_if, refuse_at, ◌then◌, Replied}
use Rattle.intake.specs.Refusals.{shape_refusal}
use Rattle.intake.specs.declared.Refusal.{Refusal}
use Rattle.book.specs.Bytes.{laid_on}
use Rattle.book.specs.Book.{size, book_of, count, wrong_offset, words_of}

-- a book read is 103 with its rows, a book written 104 with its bytes, a refusal its own number
abbrev pub reading_answer : Result ℕ Refusal → Answer
reading_answer r = told_as 103 r

abbrev pub writing_answer : Result ℕ Refusal → Answer
writing_answer r = told_as 104 r

-- these bytes are no book: '20 under two bytes or a count of 0; 2 a count over the row limit; 21 any other length; 22 a wrong offset, with the first
-- such row'
unfoldable pub book_refusal : List ℕ → Check
book_refusal book =
    refuse_if (ltb (length book) 2 || eqb (count book) 0) (answer 20 0 0)
    then refuse_if (ltb limit (count book)) (answer 2 0 0)
    then refuse_if (not (eqb (length book) (size (count book)))) (answer 21 0 0)
    then refuse_at (lowest (count book) (wrong_offset book)) (λ i. answer 22 i 0)

-- and then '4 no room'
unfoldable pub read_refusal : (book : List ℕ) (room : ℕ) → Check
read_refusal book room =
    book_refusal book
    then refuse_if (ltb room (6 * count book)) (answer 4 0 0)

-- 'The writer takes any words and refuses only by 1, 2 and 4'
unfoldable pub write_refusal : (words : List ℕ) (room : ℕ) → Check
write_refusal words room =
    shape_refusal words
    then refuse_if (ltb room (size (rows words))) (answer 4 0 0)

-- reading any bytes: the answer, and the lent words before and after
abbrev pub BookRead : (book before after : List ℕ) (a : Answer) → Type 0
BookRead book before after a =
    Replied (read_refusal book (length before)) before after a
    ((a ≡ reading_answer (Ok (count book))) × (after ≡ laid_on (words_of book) before))

-- writing any words: the answer, and the lent bytes before and after
abbrev pub BookWritten : (words before after : List ℕ) (a : Answer) → Type 0
BookWritten words before after a =
    Replied (write_refusal words (length before)) before after a
    ((a ≡ writing_answer (Ok (size (rows words)))) × (after ≡ laid_on (book_of words) before))
