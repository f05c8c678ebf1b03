-- The text that `listing::list` makes for a book, and the program writes, is worth what demand 3 says: the order that it shows is passed, and on the bus its figures are
-- kept. For the book of table a, byte by byte, it is the four lines of the request, and for that of case i the line `refused 8`. The promises come first, their proofs below.
-- Assumes nothing.
use Rattle.std.specs.Prelude.{ℕ, ◌≡◌, refl, ◌⊎◌, List, [], ◌∷◌, length, take, drop}
use Rattle.std.proofs.Math.Decide.{ℕ_discrete, dec_le}
use Rattle.std.proofs.Common.{arith, subst, inl, inr}
use Rattle.sums.specs.Masks.{any_below, or_else, lowest}
use Rattle.sums.specs.Sums.{over, ceil, load, demand}
use Rattle.licence.specs.Limit.{limit}
use Rattle.licence.specs.Row.{size_allowed, first_bad, bad_field, bit_times, band_key}
use Rattle.order.specs.Table.{base}
use Rattle.order.specs.Orders.{mem, bad_entry, resumes}
use Rattle.intake.specs.Words.{ragged, rows}
use Rattle.intake.specs.Answer.{answer, refusal_answer, fine}
use Rattle.intake.specs.Refusals.{shape_refusal, table_refusal}
use Rattle.intake.specs.Laws.{accepted}
use Rattle.intake.specs.declared.Refusal.{Refusal}
use Rattle.intake.specs.declared.Refusal.TheVariants.{NoOrder}
use Rattle.judge.specs.Judged.{order_refusal, Judged}
use Rattle.finder.specs.Placing.{rising, leads}
use Rattle.finder.specs.Searched.{Searched}
use Rattle.finder.proofs.Outcome.{found_means}
use Rattle.book.specs.Book.{book_of, words_of}
use Rattle.book.specs.Replies.{book_refusal}
use Rattle.listing.specs.Text.{decimal, lines, refused_line}
use Rattle.listing.specs.Listed.{blank, WordsListed, refuses, shows, Listed}
use Rattle.promises.specs.Agreement.{found_is_passed}
use Rattle.promises.specs.Demand3.{KeepsFigures, passed_is_kept}
use Rattle.promises.specs.Reckon.{climb, reckon, same_list}
use Rattle.promises.specs.Worked.{judged, follow, searched}
use Rattle.promises.specs.Cases.{words_of as table_words, table_a, table_i}

-- a text that shows an order: it is the lines of an order and figures, the judge answers 'passed' with just these, and the bus keeps them
pub record ShowsKept (words text : List ℕ) : Type 0 where
  pub order : List ℕ
  pub figures : List ℕ
  pub shows : text ≡ lines order figures
  pub passed : Judged words order blank figures (answer 100 0 0)
  pub kept : KeepsFigures words order figures

-- the text says that finding refuses, and with which number
pub record SaysRefused (words text : List ℕ) : Type 0 where
  pub refusal : Refusal
  pub after : List ℕ
  pub refused : Searched words blank after (refusal_answer refusal)
  pub shows : text ≡ refused_line (refusal_answer refusal).number

-- For any book, the text says that finding refuses, or it shows an order that is passed and kept.
abbrev pub ListedIsKept : Type 0
ListedIsKept = (book text : List ℕ) → Listed book text → book_refusal book ≡ fine → ShowsKept (words_of book) text ⊎ SaysRefused (words_of book) text

-- The book of table a: its count, the four offsets 18, 42, 66 and 90, and the four rows.
abbrev pub book_a : List ℕ
book_a =
    (0 ∷ 4
    ∷ 0 ∷ 0 ∷ 0 ∷ 18 ∷ 0 ∷ 0 ∷ 0 ∷ 42 ∷ 0 ∷ 0 ∷ 0 ∷ 66 ∷ 0 ∷ 0 ∷ 0 ∷ 90
    ∷ 0 ∷ 0 ∷ 0 ∷ 0 ∷ 0 ∷ 0 ∷ 0 ∷ 0 ∷ 125 ∷ 0 ∷ 0 ∷ 0 ∷ 232 ∷ 3 ∷ 0 ∷ 0 ∷ 238 ∷ 2 ∷ 0 ∷ 0 ∷ 0 ∷ 0 ∷ 0 ∷ 0
    ∷ 0 ∷ 0 ∷ 0 ∷ 0 ∷ 0 ∷ 0 ∷ 0 ∷ 0 ∷ 125 ∷ 0 ∷ 0 ∷ 0 ∷ 232 ∷ 3 ∷ 0 ∷ 0 ∷ 94 ∷ 1 ∷ 0 ∷ 0 ∷ 0 ∷ 0 ∷ 0 ∷ 0
    ∷ 0 ∷ 0 ∷ 0 ∷ 0 ∷ 0 ∷ 0 ∷ 0 ∷ 0 ∷ 125 ∷ 0 ∷ 0 ∷ 0 ∷ 232 ∷ 3 ∷ 0 ∷ 0 ∷ 238 ∷ 2 ∷ 0 ∷ 0 ∷ 0 ∷ 0 ∷ 0 ∷ 0
    ∷ 0 ∷ 0 ∷ 0 ∷ 0 ∷ 0 ∷ 0 ∷ 0 ∷ 0 ∷ 75 ∷ 0 ∷ 0 ∷ 0 ∷ 232 ∷ 3 ∷ 0 ∷ 0 ∷ 232 ∷ 3 ∷ 0 ∷ 0 ∷ 0 ∷ 0 ∷ 0 ∷ 0
    ∷ [])

abbrev pub TableABook : Type 0
TableABook = book_of (table_words table_a) ≡ book_a

-- 'For table a of document 01 the whole output is the four lines 3 200, 1 325, 2 450, 0 575'
abbrev pub TableAListed : Type 0
TableAListed = Listed book_a
    (51 ∷ 32 ∷ 50 ∷ 48 ∷ 48 ∷ 10
    ∷ 49 ∷ 32 ∷ 51 ∷ 50 ∷ 53 ∷ 10
    ∷ 50 ∷ 32 ∷ 52 ∷ 53 ∷ 48 ∷ 10
    ∷ 48 ∷ 32 ∷ 53 ∷ 55 ∷ 53 ∷ 10
    ∷ [])

-- 'A refusal is one line, such as refused 8': for the table of case i it is this one
abbrev pub CaseIListed : Type 0
CaseIListed = Listed (book_of (table_words table_i)) (114 ∷ 101 ∷ 102 ∷ 117 ∷ 115 ∷ 101 ∷ 100 ∷ 32 ∷ 56 ∷ 10 ∷ [])

-- ---- the proofs

pub listed_is_kept : ListedIsKept
listed_is_kept book text x e = go (x.listed e)
  where
    go : WordsListed (words_of book) text → ShowsKept (words_of book) text ⊎ SaysRefused (words_of book) text
    go (refuses r after s q) = inr (record { refusal = r; after = after; refused = s; shows = q })
    go (shows order figures tried verdict s j q) =
        let room = (accepted (words_of book) (length blank) (found_means (words_of book) blank order (answer 102 tried 0) s refl).unrefused).roomy in
        let says = found_is_passed (words_of book) blank order blank figures (answer 102 tried 0) verdict s refl room j in
        let passed = subst (Judged (words_of book) (take (rows (words_of book)) order) blank figures) says j in
        inl (record {
          order = take (rows (words_of book)) order;
          figures = figures;
          shows = q;
          passed = passed;
          kept = passed_is_kept (words_of book) (take (rows (words_of book)) order) blank figures (answer 100 0 0) passed refl;
        })

-- the order that is found, in the list lent for it, and the figures
abbrev found_a : List ℕ
found_a = 3 ∷ 1 ∷ 2 ∷ 0 ∷ drop 4 blank

abbrev figures_a : List ℕ
figures_a = 575 ∷ 325 ∷ 450 ∷ 200 ∷ drop 4 blank

pub table_a_book : TableABook
table_a_book = refl

pub table_a_listed : TableAListed
unfolding book_refusal blank decimal table_refusal shape_refusal ragged limit bad_field first_bad size_allowed order_refusal bad_entry resumes lowest or_else any_below band_key bit_times mem base demand over load ceil reckon climb dec_le ℕ_discrete same_list follow leads rising
table_a_listed =
    record {
      unread = λ r e. absurd (let z : ◌≡◌ {A = ℕ} 0 1 = cc in omega arith);
      listed = λ e. shows found_a figures_a 5 (answer 100 0 0) (searched (table_words table_a) blank found_a (answer 102 5 0) tt) (judged (table_words table_a) (3 ∷ 1 ∷ 2 ∷ 0 ∷ []) blank figures_a (answer 100 0 0) tt) refl;
    }

pub case_i_listed : CaseIListed
unfolding book_refusal blank decimal table_refusal shape_refusal ragged limit bad_field first_bad size_allowed order_refusal bad_entry resumes lowest or_else any_below band_key bit_times mem base demand over load ceil reckon climb dec_le ℕ_discrete same_list follow leads rising
case_i_listed =
    record {
      unread = λ r e. absurd (let z : ◌≡◌ {A = ℕ} 0 1 = cc in omega arith);
      listed = λ e. refuses (NoOrder 2 2) blank (searched (table_words table_i) blank blank (answer 8 2 2) tt) refl;
    }
