-- What is known of a book that was read: it is one, and its words stand in the list.
-- Assumes nothing.
use Rattle.std.specs.Prelude.{ℕ, ◌*◌, ◌≤◌, ◌≡◌, List, length, take}
use Rattle.std.proofs.Common.{arith, ap, ◌∙◌}
use Rattle.licence.specs.Limit.{limit}
use Rattle.order.specs.Orders.{mem}
use Rattle.intake.specs.Words.{rows}
use Rattle.intake.specs.Answer.{Answer, answer, fine}
use Rattle.intake.specs.Told.{replied_fine}
use Rattle.book.specs.Book.{count, words_of}
use Rattle.book.specs.Replies.{book_refusal, BookRead}
use Rattle.book.specs.ListLaws.{take_laid}
use Rattle.book.specs.Laws.{words_length, is_book, readable}
use Rattle.book.specs.Outcome.{read_by}

pub record WordsRead (book : List ℕ) (room n : ℕ) (words : List ℕ) : Type 0 where
  pub unrefused : book_refusal book ≡ fine
  pub few : n ≤ limit
  pub roomy : 6 * n ≤ room
  pub there : take (6 * n) words ≡ words_of book
  pub rows_are : n ≡ rows (take (6 * n) words)

pub words_read : (book before after : List ℕ) (n : ℕ) → BookRead book before after (answer 103 n 0) → WordsRead book (length before) n after
unfolding mem
words_read book before after n r =
    let e = replied_fine (read_by book (length before)) r (λ h. h) in
    let known = readable book (length before) e in
    let made = r.answering e in
    let counted : n ≡ count book = ap (λ (x : Answer). x.first) made.0 in
    let all = words_length book (count book) in
    let there : take (6 * n) after ≡ words_of book = ap (take (6 * n)) made.1 ∙ take_laid before (words_of book) {n = 6 * n} (omega (arith, all, counted)) in
    record {
      unrefused = known.0;
      few = omega (arith, counted, (is_book book known.0).few);
      roomy = omega (arith, counted, known.1);
      there = there;
      rows_are = omega (arith, counted, ap length there ∙ all);
    }
