-- `book::write` meets its contract: the checks run in the order of `write_refusal`, and the three parts are stored one after the other.
-- Assumes nothing.
use native.Mathlib.Omega.{arith}
use Prim.Native.Nat.{ℕ}
use mathlib.Core.Path.{ap, ◌∙◌}
use mathlib.Core.List.{List}
use lib.Seq.{sets}
use Rattle.std.proofs.lemmas.Result.{err_from_is_err_and}
use Rattle.licence.specs.Limit.{limit}
use Rattle.intake.specs.Answer.{answer}
use Rattle.intake.specs.Laws.{shaped, whole_words, replied_refused, replied_answered}
use Rattle.book.specs.Book.{size, offsets, bodies}
use Rattle.book.specs.Laws.{book_length, book_stored, write_shape, write_4, write_none}
use Rattle.book.proofs.Spelling.{two_high}
use Rattle.book.proofs.write.Goals as goal

pub returns-in_err-n : goal.returns-in_err-n
returns-in_err-n c =
    let p = err_from_is_err_and c.from_residual.result c.from_residual.ensures.1 in
    rw (p.1, p.2) (replied_refused (write_shape _ _ c.in_err-n.ensures))

pub overflow_cast-n : goal.overflow_cast-n
unfolding limit
overflow_cast-n c = let k = c.in_ok-n.ensures in omega (arith, k.1, (shaped _ k.0).few)

pub returns-then-book-size : goal.returns-then-book-size
returns-then-book-size c =
    let k = c.in_ok-n.ensures in
    replied_refused (write_4 _ _ k.0 k.1 (omega (arith, c.if-book-size.true, c.start_of-size.ensures)))

pub put_bodies-requires : goal.put_bodies-requires
put_bodies-requires c =
    let k = c.in_ok-n.ensures in
    omega (arith, c.start_of.ensures, c.put.auto.book, c.put_offsets.auto.book, c.if-book-size.false, c.start_of-size.ensures, k.1, whole_words _ (shaped _ k.0).whole)

pub returns : goal.returns
returns c =
    let k = c.in_ok-n.ensures in
    let a = c.args in
    let n = c.in_ok-n.field-0 in
    let start = c.start_of.result in
    let parts = ap (λ (b : List ℕ). sets b 2 (offsets n)) (c.put.ensures ∙ ap (sets a.book.now 0) (c.to_be_bytes.ensures ∙ two_high n)) in
    replied_answered (write_none _ _ k.0 k.1 (omega (arith, c.if-book-size.false, c.start_of-size.ensures)))
    (ap (λ (s : ℕ). answer 104 s 0) (c.start_of-size.ensures ∙ ap size k.1), c.put_bodies.ensures ∙ ap (λ (b : List ℕ). sets b start (bodies a.words.now)) (c.put_offsets.ensures ∙ parts) ∙ book_stored a.words.now a.book.now k.1 c.start_of.ensures (omega (arith, book_length _ k.0, k.1, c.if-book-size.false, c.start_of-size.ensures)))
