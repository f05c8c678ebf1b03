-- The promises of specs/RoundTrip are kept. Assumes nothing.
use Rattle.std.specs.Prelude.{ℕ, ◌+◌, ◌*◌, ◌^◌, ◌≤◌, ◌<◌, ◌≡◌, refl, length, take}
use Rattle.std.proofs.Common.{arith, sym, ap₂, subst, ◌∙◌, lit<}
use Rattle.std.proofs.Math.Path.{ap}
use mathlib.Core.List.{List, [], ◌∷◌, ◌++◌, append-nil}
use Rattle.std.proofs.Math.Seq.{drop-append-add, take-length}
use Rattle.sums.specs.Masks.{None}
use Rattle.sums.specs.MaskLaws.{lowest_none, none_lowest}
use Rattle.sums.specs.Columns.{at}
use Rattle.licence.specs.Limit.{limit}
use Rattle.order.specs.Orders.{mem}
use Rattle.intake.specs.Words.{rows}
use Rattle.intake.specs.Answer.{Answer, answer, fine}
use Rattle.intake.specs.Refusals.{shape_refusal}
use Rattle.intake.specs.Laws.{shaped, whole_words, some_words}
use Rattle.intake.specs.Told.{replied_fine}
use Rattle.book.specs.Bytes.{low, high, from_low, from_high, part, each, laid_on, Below}
use Rattle.book.specs.Book.{offset, size, offsets, bodies, book_of, word_at, words_in, words_of, count, offset_at, wrong_offset}
use Rattle.book.specs.Replies.{book_refusal, BookRead, BookWritten}
use Rattle.book.specs.ByteLaws.{from_low_lem, low_from, from_low_fits, from_high_lem, high_from}
use Rattle.book.specs.ListLaws.{take_laid, part_length, part_below, part_join, each_cong, each_part, each_parts, each_entries, each_at, each_below}
use Rattle.book.specs.Laws.{offsets_length, book_length, words_length, words_rows, words_shape, writable, write_none, IsBook, is_book, book_none, read_none, offset_right, offset_is}
use Rattle.book.specs.Outcome.{write_by}
use Rattle.book.specs.Read.{words_read}
use Rattle.book.specs.RoundTrip.{BooksExactly, ReadBack, RowsThere, WrittenAgain}

-- ---- a book of words, read

module _ (words : List ℕ) (shape : shape_refusal words ≡ fine) where
  book_count : count (book_of words) ≡ rows words
  unfolding limit
  book_count = from_high_lem 2 (rows words) (omega (arith, (shaped words shape).few))

  -- the offset of row i, and word m
  book_start : (i : ℕ) → i < rows words → offset_at (book_of words) i ≡ offset (rows words) i
  unfolding limit
  book_start i l =
      let n = rows words in
      ap (λ (r : List ℕ). from_high (take 4 r)) (drop-append-add (high 2 n) (offsets n ++ bodies words) (4 * i))
      ∙ ap from_high (each_part (λ k. high 4 (offset n k)) 4 (λ k. refl) 0 n i (bodies words) l ∙ ap (λ (k : ℕ). high 4 (offset n k)) (omega arith))
      ∙ from_high_lem 4 (offset n i) (omega (arith, (shaped words shape).few))

  book_word : (p m : ℕ) → p ≡ offset (rows words) 0 + 4 * m → m < length words → part (book_of words) p 4 ≡ low 4 (at words m)
  book_word p m e l =
      let n = rows words in
      let there : p ≡ length (high 2 n ++ offsets n) + 4 * m = omega (arith, e, offsets_length n) in
      ap (λ (q : ℕ). part (book_of words) q 4) there
      ∙ ap (take 4) (drop-append-add (high 2 n ++ offsets n) (bodies words) (4 * m))
      ∙ ap (λ (r : List ℕ). part r (4 * m) 4) (sym (append-nil (bodies words)))
      ∙ each_part (λ k. low 4 (at words k)) 4 (λ k. refl) 0 (length words) m [] l
      ∙ ap (λ (k : ℕ). low 4 (at words k)) (omega arith)

  book_right : None (count (book_of words)) (wrong_offset (book_of words))
  book_right i l = offset_right (book_of words) i (book_start i (omega (arith, book_count)) ∙ ap (λ (k : ℕ). offset k i) (sym book_count))

  book_fine : book_refusal (book_of words) ≡ fine
  book_fine =
      book_none (book_of words)
      (omega (arith, book_length words shape))
      (λ z. some_words words (shaped words shape).whole (omega (arith, whole_words words (shaped words shape).whole, book_count)))
      (omega (arith, book_count, (shaped words shape).few))
      (book_length words shape ∙ ap size (sym book_count))
      (lowest_none (count (book_of words)) (wrong_offset (book_of words)) book_right)

  module _ (fits : Below 4294967296 words) where
    book_words : words_of (book_of words) ≡ words
    book_words =
        let all : 6 * rows words ≡ length words = omega (arith, whole_words words (shaped words shape).whole) in
        ap (words_in (book_of words)) book_count
        ∙ ap (λ (k : ℕ). each (λ m. word_at (book_of words) (rows words) m ∷ []) 0 k) all
        ∙ each_cong (λ m. word_at (book_of words) (rows words) m ∷ []) (λ m. at words m ∷ []) 0 (length words) (λ m a b. ap (λ (x : ℕ). x ∷ []) (ap from_low (book_word _ m refl (omega arith)) ∙ from_low_lem 4 (at words m) (fits m)))
        ∙ each_entries words 0 (length words) (omega arith)

-- ---- the words of a book, written

module _ (book : List ℕ) (bytes : Below 256 book) (fine_book : book_refusal book ≡ fine) where
  known : IsBook book
  known = is_book book fine_book

  -- a part of the book is the bytes of the number that it stands for, in either order
  part_back : (there : ℕ → ℕ → List ℕ) (from : List ℕ → ℕ) → ((l : List ℕ) → Below 256 l → there (length l) (from l) ≡ l) → (p w : ℕ) → p + w ≤ length book → there w (from (part book p w)) ≡ part book p w
  part_back there from back p w l = ap (λ (k : ℕ). there k (from (part book p w))) (sym (part_length book p w l)) ∙ back (part book p w) (part_below 256 book p w (lit< tt) bytes)

  words_offsets : offsets (count book) ≡ part book 2 (4 * count book)
  words_offsets =
      let n = count book in
      each_cong (λ i. high 4 (offset n i)) (λ i. part book (2 + 4 * i) 4) 0 n (λ i a b. ap (high 4) (sym (offset_is book i (none_lowest n (wrong_offset book) known.right i (omega arith)))) ∙ part_back high from_high high_from (2 + 4 * i) 4 (omega (arith, known.whole)))
      ∙ each_parts book 2 4 0 n

  words_bodies : bodies (words_of book) ≡ part book (2 + 4 * count book) (4 * (6 * count book))
  words_bodies =
      let n = count book in
      let start : offset n 0 + 4 * 0 ≡ 2 + 4 * n = omega arith in
      ap (λ (k : ℕ). each (λ m. low 4 (at (words_of book) m)) 0 k) (words_length book n)
      ∙ each_cong (λ m. low 4 (at (words_of book) m)) (λ m. part book (offset n 0 + 4 * m) 4) 0 (6 * n) (λ m a b. ap (low 4) (each_at (word_at book n) 0 (6 * n) m (omega arith) ∙ ap (word_at book n) (omega arith)) ∙ part_back low from_low low_from (offset n 0 + 4 * m) 4 (omega (arith, known.whole)))
      ∙ each_parts book (offset n 0) 4 0 (6 * n)
      ∙ ap (λ (p : ℕ). part book p (4 * (6 * n))) start

  words_book : book_of (words_of book) ≡ book
  words_book =
      let n = count book in
      let behind : 2 + 4 * n ≡ 0 + (2 + 4 * n) = omega arith in
      let all : 2 + 4 * n + 4 * (6 * n) ≡ length book = omega (arith, known.whole) in
      ap (λ (k : ℕ). high 2 k ++ offsets k ++ bodies (words_of book)) (words_rows book)
      ∙ ap (λ (l : List ℕ). l ++ offsets n ++ bodies (words_of book)) (part_back high from_high high_from 0 2 (omega (arith, known.long)))
      ∙ ap₂ (λ (l m : List ℕ). part book 0 2 ++ l ++ m) words_offsets words_bodies
      ∙ ap (λ (l : List ℕ). l ++ part book (2 + 4 * n) (4 * (6 * n))) (part_join book 0 2 (4 * n))
      ∙ ap (λ (p : ℕ). part book 0 (2 + 4 * n) ++ part book p (4 * (6 * n))) behind
      ∙ part_join book 0 (2 + 4 * n) (4 * (6 * n))
      ∙ ap (λ (k : ℕ). take k book) all
      ∙ take-length book

  words_fit : Below 4294967296 (words_of book)
  words_fit =
      let n = count book in
      each_below (word_at book n) 0 (6 * n) 4294967296 (lit< tt)
      (λ m l.
      let word = part book (offset n 0 + 4 * m) 4 in
      let four = part_length book (offset n 0 + 4 * m) 4 (omega (arith, known.whole)) in
      subst (λ (w : ℕ). from_low word < 256 ^ w) four (from_low_fits word (part_below 256 book (offset n 0 + 4 * m) 4 (lit< tt) bytes)))

-- ---- the proofs

pub read_back : ReadBack
unfolding mem
read_back words before after k fits w list list' a roomy r =
    let written = replied_fine (write_by words (length before)) w (λ h. h) in
    let shape = (writable words (length before) written).0 in
    let made = w.answering written in
    let bytes : length (book_of words) ≡ k = book_length words shape ∙ sym (ap (λ (x : Answer). x.first) made.0) in
    let there : take k after ≡ book_of words = ap (take k) made.1 ∙ take_laid before (book_of words) bytes in
    let room : 6 * count (book_of words) ≤ length list = omega (arith, book_count words shape, whole_words words (shaped words shape).whole) in
    let told = (subst (λ (b : List ℕ). BookRead b list list' a) there r).answering (read_none (book_of words) (length list) (book_fine words shape) room) in
    (told.0 ∙ ap (λ (n : ℕ). answer 103 n 0) (book_count words shape), told.1 ∙ ap (λ (l : List ℕ). laid_on l list) (book_words words shape fits))

pub written_again : WrittenAgain
written_again book before after n bytes r list list' a roomy w =
    let x = words_read book before after n r in
    let known = is_book book x.unrefused in
    let rows_are = words_rows book in
    let room : size (count book) ≤ length list = omega (arith, known.whole) in
    let told = (subst (λ (l : List ℕ). BookWritten l list list' a) x.there w).answering (write_none (words_of book) (length list) (words_shape book x.unrefused) (sym rows_are) room) in
    (told.0 ∙ ap (λ (k : ℕ). answer 104 k 0) (ap size rows_are ∙ sym known.whole), told.1 ∙ ap (λ (l : List ℕ). laid_on l list) (words_book book bytes x.unrefused))

pub books_exactly : BooksExactly
books_exactly = ((λ words shape. book_fine words shape), (λ book bytes e. (words_of book, words_shape book e, words_fit book bytes e, sym (words_book book bytes e))))

pub rows_there : RowsThere
rows_there words shape i f l h =
    book_word words shape (offset_at (book_of words) i + 4 * f) (6 * i + f) (omega (arith, book_start words shape i l)) (omega (arith, whole_words words (shaped words shape).whole))
