-- `listing::put_order` meets its contract: a book is read, an order found for its words and judged, and its lines are stored; or a refusal is told.
-- Assumes nothing.
use borrow.Author.Rules.{rules}
use native.Mathlib.Nat.{le_refl}
use native.Mathlib.Omega.{arith}
use Prim.Native.Nat.{ℕ, ◌≤◌, ◌*◌}
use mathlib.Core.List.{List}
use mathlib.Core.Path.{◌≡◌, refl, sym, ap, subst, ◌∙◌}
use lib.ListN.{length, take, replicate}
use Rattle.licence.specs.Limit.{limit}
use Rattle.intake.specs.Words.{rows}
use Rattle.intake.specs.Answer.{Answer, answer, refusal_answer}
use Rattle.intake.specs.Told.{refusal_small}
use Rattle.finder.specs.Searched.{Searched, finding_answer}
use Rattle.judge.specs.Judged.{Judged, judgement_answer}
use Rattle.book.specs.Laws.{read_no_book, book_read}
use Rattle.book.specs.Read.{WordsRead, words_read}
use Rattle.book.specs.Replies.{BookRead, reading_answer}
use Rattle.listing.specs.Text.{lines, refused_line}
use Rattle.listing.specs.Listed.{blank, WordsListed, Listed, refuses, shows}
use Rattle.listing.specs.Laws.{RowNumbers, found_rows, text_stands, counts}
use Rattle.listing.proofs.put_order.Goals as goal
use Rattle.listing.proofs.put_order.Goals.{In_ok-n, In_ok-find}

-- a book that was read is one, and so its text is that of its words
listed_words : (book words text : List ℕ) (room n : ℕ) → WordsRead book room n words → WordsListed (take (6 * n) words) text → Listed book text
listed_words book words text room n x t =
    record {
      unread = λ r q. absurd (let y = sym x.unrefused ∙ q in let z : ◌≡◌ {A = ℕ} 0 1 = cc in omega arith);
      listed = λ q. subst (λ (w : List ℕ). WordsListed w text) x.there t;
    }

-- the words that were read
read : (c : In_ok-n) → WordsRead c.args.book.now (6 * limit) c.in_ok-n.field-0 c.read.new.words
unfolding limit
read c =
    let book = c.args.book.now in
    words_read book (replicate (6 * limit) 0) c.read.new.words _ (subst (BookRead book (replicate (6 * limit) 0) c.read.new.words) (ap reading_answer c.in_ok-n.was) c.read.ensures)

words_room : (c : In_ok-n) → 6 * c.in_ok-n.field-0 ≤ length c.read.new.words
unfolding limit
words_room c = omega (arith, (read c).roomy, c.read.auto.words)

-- what was found
searched : (c : In_ok-find) → Searched (take (6 * c.in_ok-n.field-0) c.read.new.words) blank c.find.new.order (answer 102 c.in_ok-find.field-0 0)
unfolding blank limit
searched c = subst (λ (a : Answer). Searched (take (6 * c.in_ok-n.field-0) c.read.new.words) blank c.find.new.order a) (ap finding_answer c.in_ok-find.was) c.find.ensures

-- the order has a place for each row
module _ (c : In_ok-find) (n : c.in_ok-n.field-0 ≡ rows (take (6 * c.in_ok-n.field-0) c.read.new.words)) where
  row_numbers : RowNumbers c.in_ok-n.field-0 (take c.in_ok-n.field-0 c.find.new.order)
  row_numbers = subst (λ (k : ℕ). RowNumbers k (take k c.find.new.order)) (sym n) (found_rows _ blank _ _ (searched c) refl)

  order_room : c.in_ok-n.field-0 ≤ length c.find.new.order
  unfolding limit
  order_room = omega (arith, row_numbers.few, c.find.auto.order)

pub slice_bounds-words-end : goal.slice_bounds-words-end
slice_bounds-words-end c = words_room (goal.at.slice_bounds-words-end c).In_ok-n

pub slice_bounds-words-end-2 : goal.slice_bounds-words-end-2
slice_bounds-words-end-2 c = (counts _ (words_room (goal.at.slice_bounds-words-end-2 c).In_ok-n)).1

pub slice_bounds-order-end : goal.slice_bounds-order-end
slice_bounds-order-end c = let view = goal.at.slice_bounds-order-end c in order_room view.In_ok-find (read view.In_ok-n).rows_are

pub slice_bounds-order-end-2 : goal.slice_bounds-order-end-2
slice_bounds-order-end-2 c = let view = goal.at.slice_bounds-order-end-2 c in (counts _ (order_room view.In_ok-find (read view.In_ok-n).rows_are)).1

pub put_lines-requires : goal.put_lines-requires
unfolding limit
put_lines-requires c =
    let view = goal.at.put_lines-requires c in
    let x = row_numbers view.In_ok-find (read view.In_ok-n).rows_are in
    ((λ p l. omega (arith, x.range p (omega (arith, x.long)), x.few, c.judge.auto.figures)), omega (arith, x.long, x.few, c.requires))

-- what is no book is refused
pub returns-in_err-n : goal.returns-in_err-n
unfolding limit
returns-in_err-n c =
    let book = c.args.book.now in
    let r = c.in_err-n.field-0.0 in
    let said = subst (BookRead book (replicate (6 * limit) 0) c.read.new.words) (ap reading_answer (c.in_err-n.was {u = tt})) c.read.ensures in
    let text : Listed book (refused_line (refusal_answer r).number) = record {
      unread = λ x q. ap (λ (a : Answer). refused_line a.number) (said.refusing x (read_no_book book (6 * limit) q)).0;
      listed = λ q. absurd (omega (arith, refusal_small r, ap (λ (a : Answer). a.number) (said.answering (book_read book (6 * limit) (le_refl (6 * limit)) q)).0));
    } in
    search (rules, text)

-- so is a book for which finding refuses
pub returns-in_err-find : goal.returns-in_err-find
unfolding blank limit
returns-in_err-find c =
    let r = c.in_err-find.field-0.0 in
    let words = take (6 * c.in_ok-n.field-0) c.read.new.words in
    let after = c.find.new.order in
    let refused = subst (Searched words blank after) (ap finding_answer (c.in_err-find.was {u = tt})) c.find.ensures in
    let text = listed_words c.args.book.now _ _ _ _ (read (goal.at.returns-in_err-find c).In_ok-n) (refuses r after refused refl) in
    search (rules, text)

pub returns : goal.returns
unfolding blank limit
returns c =
    let view = goal.at.returns c in
    let known = read view.In_ok-n in
    let x = row_numbers view.In_ok-find known.rows_are in
    let words = take (6 * c.in_ok-n.field-0) c.read.new.words in
    let order = c.find.new.order in
    let figures = c.judge.new.figures in
    let e = c.put_lines.ensures in
    let judged = subst (λ (k : ℕ). Judged words (take k order) blank figures (judgement_answer c.judge.result)) known.rows_are c.judge.ensures in
    let text = shows order figures _ _ (searched view.In_ok-find) judged (ap (λ (k : ℕ). lines (take k order) figures) known.rows_are) in
    text_stands (Listed c.args.book.now) c.args.text.now (lines (take c.in_ok-n.field-0 order) figures) e.1 e.2 (omega (arith, e.0, e.1, x.long, x.few, c.requires)) (listed_words _ _ _ _ _ known text)
