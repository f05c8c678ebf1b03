-- `book::read` meets its contract: the checks run in the order of `book_refusal` and `read_refusal`, and no offset before row i is wrong. Assumes nothing.
use native.Mathlib.Omega.{arith}
use Prim.Native.Nat.{ℕ, ◌+◌, ◌*◌, ◌≤◌}
use mathlib.Core.Path.{◌≡◌, sym, ap, ap₂, ◌∙◌}
use mathlib.Core.List.{List, []}
use Rattle.std.specs.Prelude.{slice_index_or}
use lib.ListN.{length}
use Rattle.std.specs.Int.{w32, from_be_bytes}
use Rattle.sums.specs.MaskLaws.{lowest_at, lowest_none}
use Rattle.licence.specs.Limit.{limit}
use Rattle.order.specs.Split.{none_next}
use Rattle.intake.specs.Answer.{answer, refused, fine}
use Rattle.intake.specs.Laws.{replied_refused, replied_answered}
use Rattle.book.specs.Book.{offset, size, count, offset_at, wrong_offset}
use Rattle.book.specs.Replies.{book_refusal}
use Rattle.book.specs.Laws.{words_stored, book_short, book_empty, book_many, book_other, book_offset, book_none, read_no_book, read_4, read_none, offset_wrong, offset_right}
use Rattle.book.proofs.Spelling.{two_counted, chunk_there, four_from_high}
use Rattle.book.proofs.read.Goals as goal
use Rattle.book.proofs.read.Goals.{After-from_be_bytes-n, After-loop-i, After-start_of-in-loop-i, Else-book-start_of, Else-from-gt-LIMIT}

-- ---- what is known after each check; n says that the count was read

counted : (c : After-from_be_bytes-n) → c.from_be_bytes-n.result ≡ count c.args.book.now
counted c = c.from_be_bytes-n.ensures ∙ two_counted c.args.book.now c.if-book-lt2.false

some : (c : Else-from-gt-LIMIT) → c.from_be_bytes-n.result ≡ count c.args.book.now → count c.args.book.now ≡ 0 → ⊥
some c n z = c.if-n-eq0.false (n ∙ z)

few : (c : Else-from-gt-LIMIT) → c.from_be_bytes-n.result ≡ count c.args.book.now → count c.args.book.now ≤ limit
unfolding limit
few c n = omega (arith, n, c.if-from-gt-LIMIT.false, c.from.ensures)

whole : (c : Else-book-start_of) → c.from_be_bytes-n.result ≡ count c.args.book.now → length c.args.book.now ≡ size (count c.args.book.now)
whole c n = c.if-book-start_of.false ∙ c.start_of.ensures ∙ ap size n

-- the offset that the contents give for row i, and where the row starts
said : (c : After-start_of-in-loop-i) → c.from_be_bytes.result ≡ offset_at c.args.book.now c.loop-i.i
said c =
    let book = c.args.book.now in
    let i = c.loop-i.i in
    let place = c.from-in-loop-i in
    let chunks = c.as_chunks.ensures in
    let whole = c.if-book-start_of.false in
    let there : 2 + 4 * i + 4 ≤ length book = omega (arith, whole, c.start_of.ensures, c.loop-i-test.true) in
    c.from_be_bytes.ensures
    ∙ ap (from_be_bytes w32) (ap₂ (λ (parts : List (List ℕ)) (j : ℕ). slice_index_or parts j []) chunks.front place.ensures ∙ chunk_there book 2 _ i (omega (arith, there)))
    ∙ four_from_high book (2 + 4 * i) there

due : (c : After-start_of-in-loop-i) → c.from_be_bytes-n.result ≡ count c.args.book.now → c.start_of-in-loop-i.result ≡ offset (count c.args.book.now) c.loop-i.i
due c n = c.start_of-in-loop-i.ensures ∙ ap (λ (k : ℕ). offset k c.loop-i.i) n

-- no offset is wrong, so these bytes are a book
right : (c : After-loop-i) → c.from_be_bytes-n.result ≡ count c.args.book.now → book_refusal c.args.book.now ≡ fine
unfolding limit
right c n = book_none _ c.if-book-lt2.false (λ z. c.if-n-eq0.false (n ∙ z)) (omega (arith, n, c.if-from-gt-LIMIT.false, c.from.ensures)) (c.if-book-start_of.false ∙ c.start_of.ensures ∙ ap size n) (lowest_none _ _ (λ k l. c.loop-i.invariant.1 k (omega (arith, n, c.loop-i-test.false))))

pub loop-i-preserved : goal.loop-i-preserved
loop-i-preserved c =
    let view = goal.at.loop-i-preserved c in
    let n = counted view.After-from_be_bytes-n in
    let l = c.loop-i in
    let there = view.After-start_of-in-loop-i in
    (omega (arith, c.loop-i-test.true), none_next (wrong_offset c.args.book.now) l.invariant.1 (offset_right c.args.book.now l.i (sym (said there) ∙ c.if-from_be_bytes-start_of.false ∙ due there n)))

-- ---- the replies

pub returns-then-book-lt2 : goal.returns-then-book-lt2
returns-then-book-lt2 c = replied_refused (read_no_book _ _ (book_short _ (omega (arith, c.if-book-lt2.true))))

pub returns-then-n-eq0 : goal.returns-then-n-eq0
returns-then-n-eq0 c =
    let n = counted (goal.at.returns-then-n-eq0 c).After-from_be_bytes-n in
    replied_refused (read_no_book _ _ (book_empty _ c.if-book-lt2.false (sym n ∙ c.if-n-eq0.true)))

pub returns-then-from-gt-LIMIT : goal.returns-then-from-gt-LIMIT
unfolding limit
returns-then-from-gt-LIMIT c =
    let n = counted (goal.at.returns-then-from-gt-LIMIT c).After-from_be_bytes-n in
    replied_refused (read_no_book _ _ (book_many _ c.if-book-lt2.false (λ z. c.if-n-eq0.false (n ∙ z)) (omega (arith, n, c.if-from-gt-LIMIT.true, c.from.ensures))))

pub returns-then-book-start_of : goal.returns-then-book-start_of
returns-then-book-start_of c =
    let view = goal.at.returns-then-book-start_of c in
    let n = counted view.After-from_be_bytes-n in
    replied_refused (read_no_book _ _ (book_other _ c.if-book-lt2.false (some view.Else-from-gt-LIMIT n) (few view.Else-from-gt-LIMIT n) (λ e. c.if-book-start_of.true (e ∙ sym (c.start_of.ensures ∙ ap size n)))))

pub returns-then-from_be_bytes-start_of : goal.returns-then-from_be_bytes-start_of
returns-then-from_be_bytes-start_of c =
    let view = goal.at.returns-then-from_be_bytes-start_of c in
    let n = counted view.After-from_be_bytes-n in
    let book = c.args.book.now in
    let l = c.loop-i in
    let there = view.After-start_of-in-loop-i in
    let wrong = offset_wrong book l.i (λ e. c.if-from_be_bytes-start_of.true (said there ∙ e ∙ sym (due there n))) in
    let row = c.from-then-from_be_bytes-start_of.ensures in
    replied_refused (read_no_book _ _ (book_offset _ c.if-book-lt2.false (some view.Else-from-gt-LIMIT n) (few view.Else-from-gt-LIMIT n) (whole view.Else-book-start_of n) (lowest_at (count book) (wrong_offset book) l.i (omega (arith, n, c.loop-i-test.true)) wrong l.invariant.1) ∙ ap (λ (i : ℕ). refused (answer 22 i 0)) (sym row)))

pub returns-then-words-from : goal.returns-then-words-from
returns-then-words-from c =
    let view = goal.at.returns-then-words-from c in
    let n = counted view.After-from_be_bytes-n in
    replied_refused (read_4 _ _ (right view.After-loop-i n) (omega (arith, n, c.if-words-from.true, c.from-2.ensures)))

pub returns : goal.returns
returns c =
    let view = goal.at.returns c in
    let n = counted view.After-from_be_bytes-n in
    let a = c.args in
    let roomy : 6 * count a.book.now ≤ length a.words.now = omega (arith, n, c.if-words-from.false, c.from-2.ensures) in
    replied_answered (read_none _ _ (right view.After-loop-i n) roomy) (ap (λ (k : ℕ). answer 103 k 0) (c.from-3.ensures ∙ n), c.get_bodies.ensures ∙ words_stored a.book.now a.words.now n roomy)
