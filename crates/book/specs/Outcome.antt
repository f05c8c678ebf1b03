-- Reading and writing a book have one outcome each, with few replies; and of a long input the first bytes decide. The promises come first, their
-- proofs below.
-- Assumes nothing.
use Rattle.std.specs.Prelude.{ℕ, ◌≤◌, ◌<◌, ◌≡◌, refl, List, [], ◌∷◌, length, take, T as Is, Result}
use Rattle.std.proofs.Math.Decide.{ℕ_discrete, dec_lt}
use Rattle.std.proofs.Common.{arith, sym, ap, ◌∙◌, take-take, length-take-le, lit≤}
use Rattle.licence.specs.Limit.{limit}
use Rattle.order.specs.Orders.{mem}
use Rattle.intake.specs.Refusals.{shape_refusal}
use Rattle.intake.specs.declared.Refusal.{Refusal}
use Rattle.intake.specs.Answer.{Answer, answer, refused}
use Rattle.intake.specs.Laws.{meet, replied_one}
use Rattle.intake.specs.Told.{told_as_one, Numbers, number_has, then_numbers, if_numbers, at_numbers}
use Rattle.book.specs.Bytes.{from_high}
use Rattle.book.specs.Book.{size, count}
use Rattle.book.specs.Replies.{reading_answer, writing_answer, book_refusal, read_refusal, write_refusal, BookRead, BookWritten}
use Rattle.book.specs.Laws.{book_empty, book_many, book_other}

-- For any bytes and lent words, no two answers, and no two lists of words afterwards.
abbrev pub OneReading : Type 0
OneReading = (book before after after' : List ℕ) (r r' : Result ℕ Refusal)
    → BookRead book before after (reading_answer r) → BookRead book before after' (reading_answer r') → (r ≡ r') × (after ≡ after')

-- For any words and lent bytes, no two answers, and no two lists of bytes afterwards.
abbrev pub OneWriting : Type 0
OneWriting = (words before after after' : List ℕ) (r r' : Result ℕ Refusal)
    → BookWritten words before after (writing_answer r) → BookWritten words before after' (writing_answer r') → (r ≡ r') × (after ≡ after')

-- one of these numbers
abbrev pub OneOf : List ℕ → ℕ → Type 0
OneOf numbers n = Is (mem numbers n)

-- Reading refuses by 20, 2, 21, 22 and 4, what is no book by the first four of them, and writing by 1, 2 and 4.
abbrev pub RefusedBy : Type 0
RefusedBy = ((book : List ℕ) (room : ℕ) (r : Answer) → read_refusal book room ≡ refused r → OneOf (20 ∷ 2 ∷ 21 ∷ 22 ∷ 4 ∷ []) r.number)
    × ((book : List ℕ) (r : Answer) → book_refusal book ≡ refused r → OneOf (20 ∷ 2 ∷ 21 ∷ 22 ∷ []) r.number)
    × ((words : List ℕ) (room : ℕ) (r : Answer) → write_refusal words room ≡ refused r → OneOf (1 ∷ 2 ∷ 4 ∷ []) r.number)

-- Of an input that is longer than any book, any first bytes that are decide: they are refused as the whole is.
abbrev pub FirstBytesDecide : Type 0
FirstBytesDecide = (input : List ℕ) (k : ℕ) → size limit < k → k ≤ length input
    → (r : Answer) × (book_refusal (take k input) ≡ refused r) × (book_refusal input ≡ refused r)

-- ---- the proofs

-- whatever the code answers, there is one answer and list
pub one_read : (book before after after' : List ℕ) (a a' : Answer) → BookRead book before after a → BookRead book before after' a' → (a ≡ a') × (after ≡ after')
one_read book before after after' a a' x y = replied_one x y (λ e p q. meet p q)

pub one_written : (words before after after' : List ℕ) (a a' : Answer) → BookWritten words before after a → BookWritten words before after' a' → (a ≡ a') × (after ≡ after')
one_written words before after after' a a' x y = replied_one x y (λ e p q. meet p q)

pub one_reading : OneReading
one_reading book before after after' r r' x y =
    let one = one_read book before after after' (reading_answer r) (reading_answer r') x y in
    ((told_as_one 103 103 (lit≤ tt) (lit≤ tt) r r' one.0).0, one.1)

pub one_writing : OneWriting
one_writing words before after after' r r' x y =
    let one = one_written words before after after' (writing_answer r) (writing_answer r') x y in
    ((told_as_one 104 104 (lit≤ tt) (lit≤ tt) r r' one.0).0, one.1)

-- the numbers of the checks
book_by : (book : List ℕ) → Numbers (OneOf (20 ∷ 2 ∷ 21 ∷ 22 ∷ [])) (book_refusal book)
unfolding book_refusal mem
book_by book = search (then_numbers, if_numbers, at_numbers) depth 10

pub read_by : (book : List ℕ) (room : ℕ) → Numbers (OneOf (20 ∷ 2 ∷ 21 ∷ 22 ∷ 4 ∷ [])) (read_refusal book room)
unfolding read_refusal book_refusal mem
read_by book room = search (then_numbers, if_numbers, at_numbers) depth 10

pub write_by : (words : List ℕ) (room : ℕ) → Numbers (OneOf (1 ∷ 2 ∷ 4 ∷ [])) (write_refusal words room)
unfolding write_refusal shape_refusal mem
write_by words room = search (then_numbers, if_numbers) depth 10

pub refused_by : RefusedBy
refused_by = ((λ book room r e. number_has (read_by book room) e), (λ book r e. number_has (book_by book) e), (λ words room r e. number_has (write_by words room) e))

-- what is longer than any book is refused by its count alone
too_long : (n : ℕ) → (r : Answer) × ((input : List ℕ) → count input ≡ n → size limit < length input → book_refusal input ≡ refused r)
too_long n = go (ℕ_discrete n 0) (dec_lt limit n)
  where
    go : Dec (n ≡ 0) → Dec (limit < n) → (r : Answer) × ((input : List ℕ) → count input ≡ n → size limit < length input → book_refusal input ≡ refused r)
    go (yes z) m = (answer 20 0 0, λ input e l. book_empty input (omega arith) (e ∙ z))
    go (no z) (yes m) = (answer 2 0 0, λ input e l. book_many input (omega arith) (λ q. z (sym e ∙ q)) (omega (arith, e)))
    go (no z) (no m) = (answer 21 0 0, λ input e l. book_other input (omega arith) (λ q. z (sym e ∙ q)) (omega (arith, e)) (λ w. omega (arith, e, w)))

pub first_bytes_decide : FirstBytesDecide
first_bytes_decide input k l h =
    let long = too_long (count input) in
    (long.0, long.1 (take k input) (ap from_high (take-take 2 k input (omega arith))) (omega (arith, length-take-le k input h)), long.1 input refl (omega arith))
