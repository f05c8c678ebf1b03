-- Which text is made for which bytes: the book is read, an order is found, that is judged, and its lines are shown; or the refusal. Definitions only.
-- Assumes nothing.
use Rattle.std.specs.Prelude.{ℕ, ◌≤◌, ◌≡◌, List, length, take, drop, replicate, Result, Ok, Err}
use Rattle.licence.specs.Limit.{limit}
use Rattle.intake.specs.Words.{rows}
use Rattle.intake.specs.Answer.{Answer, answer, refusal_answer, refused, fine}
use Rattle.intake.specs.declared.Refusal.{Refusal}
use Rattle.judge.specs.Judged.{Judged}
use Rattle.finder.specs.Searched.{Searched}
use Rattle.book.specs.Book.{words_of}
use Rattle.book.specs.Replies.{book_refusal}
use Rattle.listing.specs.Text.{lines, refused_line}

-- a list lent for an answer: room for a row each of the longest table
unfoldable pub blank : List ℕ
unfolding limit
blank = replicate limit 0

-- the text for the words of a book
pub data WordsListed (words text : List ℕ) : Type 0 where
  -- finding refuses: the table is bad, or no order passes
  refuses : (r : Refusal) (after : List ℕ) → Searched words blank after (refusal_answer r) → text ≡ refused_line (refusal_answer r).number → WordsListed words text
  -- an order is found and judged: the row at each place, with its figure
  shows : (order figures : List ℕ) (tried : ℕ) (verdict : Answer) → Searched words blank order (answer 102 tried 0) → Judged words (take (rows words) order) blank figures verdict
      → text ≡ lines (take (rows words) order) figures → WordsListed words text

-- the text for any bytes: what is no book is refused, and of a book the words are listed
pub record Listed (book text : List ℕ) : Type 0 where
  pub unread : (r : Answer) → book_refusal book ≡ refused r → text ≡ refused_line r.number
  pub listed : book_refusal book ≡ fine → WordsListed (words_of book) text

-- a text with this property stands in the first r places of a list, and what stood behind them stays
pub record Stands (Text : List ℕ → Type 0) (before after : List ℕ) (r : ℕ) : Type 0 where
  pub inside : r ≤ length after
  pub text : Text (take r after)
  pub behind : drop r after ≡ drop r before

-- r counts places at the start of a list; the second part follows from the first, and is there for callers
abbrev pub Counts : ℕ → List ℕ → Type 0
Counts r list = (r ≤ length list) × (r ≡ length (take r list))

-- the lines for a book stand in a list; or its text is the line of a refusal, and the list is as it was
abbrev pub PutOrder : (book before after : List ℕ) → Result ℕ Refusal → Type 0
PutOrder book before after (Ok end) = Stands (Listed book) before after end
PutOrder book before after (Err r) = (after ≡ before) × Listed book (refused_line (refusal_answer r).number)
