-- When each refusal of reading and of writing is given, how long a book is, and what is left after its three parts are stored.
-- Assumes nothing.
use Rattle.std.specs.Prelude.{ℕ, ◌+◌, ◌*◌, ◌≤◌, ◌<◌, ◌≡◌, refl, Bool, true, false, not, ◌||◌, List, [], ◌∷◌, ◌++◌, length, T as Is, ltb}
use Rattle.std.proofs.Math.Decide.{ℕ_discrete}
use Rattle.std.proofs.Common.{arith, ap, ◌∙◌, length-append}
use Rattle.std.proofs.Math.Path.{sym}
use Rattle.std.proofs.lemmas.List.Edits.{sets}
use Rattle.std.proofs.Math.Dec.{eqb}
use borrow.Author.Tests.{lt-ltb, le-ltb, ltb-false, eq-eqb, ne_eqb, eqb-true, eqb-false, not-false}
use Rattle.sums.specs.Masks.{at, nowhere, lowest}
use Rattle.sums.specs.Columns.{at as entry}
use Rattle.licence.specs.Limit.{limit}
use Rattle.intake.specs.Words.{rows}
use Rattle.intake.specs.Answer.{Answer, answer, refused, fine, refuse_if}
use Rattle.intake.specs.Refusals.{shape_refusal}
use Rattle.intake.specs.Laws.{then_fine, if_fine, at_fine, shaped, whole_words, by_six, shape_none}
use Rattle.book.specs.Bytes.{low, high, laid_on}
use Rattle.book.specs.Book.{offset, size, offsets, bodies, book_of, word_at, words_in, words_of, count, offset_at, wrong_offset}
use Rattle.book.specs.Replies.{book_refusal, read_refusal, write_refusal}
use Rattle.book.specs.ListLaws.{sets_append, sets_laid, each_length}

-- ---- lengths

pub offsets_length : (n : ℕ) → length (offsets n) ≡ 4 * n
offsets_length n = each_length (λ i. high 4 (offset n i)) 4 (λ i. refl) 0 n

pub bodies_length : (words : List ℕ) → length (bodies words) ≡ 4 * length words
bodies_length words = each_length (λ m. low 4 (entry words m)) 4 (λ m. refl) 0 (length words)

pub book_length : (words : List ℕ) → shape_refusal words ≡ fine → length (book_of words) ≡ size (rows words)
book_length words e =
    length-append (high 2 (rows words)) (offsets (rows words) ++ bodies words)
    ∙ omega (arith, length-append (offsets (rows words)) (bodies words), offsets_length (rows words), bodies_length words, whole_words words (shaped words e).whole)

pub words_length : (book : List ℕ) (n : ℕ) → length (words_in book n) ≡ 6 * n
words_length book n = each_length (λ m. word_at book n m ∷ []) 1 (λ m. refl) 0 (6 * n) ∙ omega arith

-- ---- the words, and the three parts, stored one after the other

pub words_stored : (book words : List ℕ) {n : ℕ} → n ≡ count book → 6 * count book ≤ length words → sets words 0 (words_in book n) ≡ laid_on (words_of book) words
words_stored book words {n} e l = ap (λ (k : ℕ). sets words 0 (words_in book k)) e ∙ sets_laid words (words_of book) (omega (arith, words_length book (count book)))

pub book_stored : (words book : List ℕ) {n start : ℕ} → n ≡ rows words → start ≡ offset n 0 → length (book_of words) ≤ length book
    → sets (sets (sets book 0 (high 2 n)) 2 (offsets n)) start (bodies words) ≡ laid_on (book_of words) book
book_stored words book {n} {start} e s l =
    let there : start ≡ 2 + length (offsets n) = omega (arith, s, offsets_length n) in
    ap (λ (p : ℕ). sets (sets (sets book 0 (high 2 n)) 2 (offsets n)) p (bodies words)) there
    ∙ sym (sets_append (sets book 0 (high 2 n)) 2 (offsets n) (bodies words))
    ∙ sym (sets_append book 0 (high 2 n) (offsets n ++ bodies words))
    ∙ ap (λ (k : ℕ). sets book 0 (high 2 k ++ offsets k ++ bodies words)) e
    ∙ sets_laid book (book_of words) l

-- ---- the checks of writing

module _ (words : List ℕ) (room : ℕ) where
  pub write_shape : {a : Answer} → shape_refusal words ≡ refused a → write_refusal words room ≡ refused a
  unfolding write_refusal
  write_shape e = rw e

  module _ {n : ℕ} (shape : shape_refusal words ≡ fine) (rows_are : n ≡ rows words) where
    pub write_4 : room < size n → write_refusal words room ≡ refused (answer 4 0 0)
    unfolding write_refusal
    write_4 l = rw (shape, sym rows_are, lt-ltb room (size n) l)

    pub write_none : size n ≤ room → write_refusal words room ≡ fine
    unfolding write_refusal
    write_none l = rw (shape, sym rows_are, le-ltb room (size n) l)

  -- words that are written
  pub writable : write_refusal words room ≡ fine → (shape_refusal words ≡ fine) × (size (rows words) ≤ room)
  unfolding write_refusal
  writable e = let a = then_fine (shape_refusal words) _ e in (a.0, ltb-false room (size (rows words)) (if_fine (ltb room (size (rows words))) _ a.1))

-- ---- the checks of reading

both_false : (a b : Bool) → (a || b) ≡ false → (a ≡ false) × (b ≡ false)
both_false false b e = (refl, e)
both_false true b e = absurd (let z : ◌≡◌ {A = ℕ} 0 1 = cc in omega arith)

module _ (book : List ℕ) where
  pub book_short : length book < 2 → book_refusal book ≡ refused (answer 20 0 0)
  unfolding book_refusal
  book_short l = rw (lt-ltb (length book) 2 l)

  -- each check that goes on, and the next
  module _ (long : 2 ≤ length book) where
    is_long : ltb (length book) 2 ≡ false
    is_long = le-ltb (length book) 2 long

    pub book_empty : count book ≡ 0 → book_refusal book ≡ refused (answer 20 0 0)
    unfolding book_refusal
    book_empty z = rw (is_long, eq-eqb (count book) 0 z)

    module _ (some : count book ≡ 0 → ⊥) where
      has_rows : eqb (count book) 0 ≡ false
      has_rows = ne_eqb (count book) 0 some

      pub book_many : limit < count book → book_refusal book ≡ refused (answer 2 0 0)
      unfolding book_refusal
      book_many l = rw (is_long, has_rows, lt-ltb limit (count book) l)

      module _ (few : count book ≤ limit) where
        is_few : ltb limit (count book) ≡ false
        is_few = le-ltb limit (count book) few

        pub book_other : (length book ≡ size (count book) → ⊥) → book_refusal book ≡ refused (answer 21 0 0)
        unfolding book_refusal
        book_other h = rw (is_long, has_rows, is_few, ne_eqb (length book) (size (count book)) h)

        module _ (whole : length book ≡ size (count book)) where
          is_whole : eqb (length book) (size (count book)) ≡ true
          is_whole = eq-eqb (length book) (size (count book)) whole

          pub book_offset : {i : ℕ} → lowest (count book) (wrong_offset book) ≡ at i → book_refusal book ≡ refused (answer 22 i 0)
          unfolding book_refusal
          book_offset h = rw (is_long, has_rows, is_few, is_whole, h)

          pub book_none : lowest (count book) (wrong_offset book) ≡ nowhere → book_refusal book ≡ fine
          unfolding book_refusal
          book_none h = rw (is_long, has_rows, is_few, is_whole, h)

  -- what is a book
  pub record IsBook : Type 0 where
    pub long : 2 ≤ length book
    pub some : count book ≡ 0 → ⊥
    pub few : count book ≤ limit
    pub whole : length book ≡ size (count book)
    pub right : lowest (count book) (wrong_offset book) ≡ nowhere

  pub is_book : book_refusal book ≡ fine → IsBook
  unfolding book_refusal
  is_book e =
      let a = then_fine (refuse_if (ltb (length book) 2 || eqb (count book) 0) (answer 20 0 0)) _ e in
      let b = then_fine (refuse_if (ltb limit (count book)) (answer 2 0 0)) _ a.1 in
      let c = then_fine (refuse_if (not (eqb (length book) (size (count book)))) (answer 21 0 0)) _ b.1 in
      let start = both_false (ltb (length book) 2) (eqb (count book) 0) (if_fine (ltb (length book) 2 || eqb (count book) 0) _ a.0) in
      record {
        long = ltb-false (length book) 2 start.0;
        some = eqb-false (count book) 0 start.1;
        few = ltb-false limit (count book) (if_fine (ltb limit (count book)) _ b.0);
        whole = eqb-true (length book) (size (count book)) (not-false (eqb (length book) (size (count book))) (if_fine (not (eqb (length book) (size (count book)))) _ c.0));
        right = at_fine (lowest (count book) (wrong_offset book)) _ c.1;
      }

-- its words have the shape of a table
pub words_rows : (book : List ℕ) → rows (words_of book) ≡ count book
words_rows book = omega (arith, words_length book (count book))

pub words_shape : (book : List ℕ) → book_refusal book ≡ fine → shape_refusal (words_of book) ≡ fine
words_shape book e =
    let l = words_length book (count book) in
    shape_none (words_of book) (by_six (words_of book) (λ z. (is_book book e).some (omega (arith, l))) (omega (arith, l))) (omega (arith, l, (is_book book e).few))

-- a book, and the room for its words
module _ (book : List ℕ) (room : ℕ) where
  pub read_no_book : {a : Answer} → book_refusal book ≡ refused a → read_refusal book room ≡ refused a
  unfolding read_refusal
  read_no_book e = rw e

  pub read_4 : book_refusal book ≡ fine → room < 6 * count book → read_refusal book room ≡ refused (answer 4 0 0)
  unfolding read_refusal
  read_4 e l = rw (e, lt-ltb room (6 * count book) l)

  pub read_none : book_refusal book ≡ fine → 6 * count book ≤ room → read_refusal book room ≡ fine
  unfolding read_refusal
  read_none e l = rw (e, le-ltb room (6 * count book) l)

  -- with room for the words of any book, every book is read
  pub book_read : 6 * limit ≤ room → book_refusal book ≡ fine → read_refusal book room ≡ fine
  book_read l e = read_none e (omega (arith, (is_book book e).few))

  pub readable : read_refusal book room ≡ fine → (book_refusal book ≡ fine) × (6 * count book ≤ room)
  unfolding read_refusal
  readable e = let a = then_fine (book_refusal book) _ e in (a.0, ltb-false room (6 * count book) (if_fine (ltb room (6 * count book)) _ a.1))

-- ---- one offset

pub offset_wrong : (book : List ℕ) (i : ℕ) → (offset_at book i ≡ offset (count book) i → ⊥) → Is (wrong_offset book i)
offset_wrong book i h = rw (ne_eqb (offset_at book i) (offset (count book) i) h) tt

pub offset_right : (book : List ℕ) (i : ℕ) → offset_at book i ≡ offset (count book) i → Is (wrong_offset book i) → ⊥
offset_right book i e = rw (eq-eqb (offset_at book i) (offset (count book) i) e) (λ x. x)

pub offset_is : (book : List ℕ) (i : ℕ) → (Is (wrong_offset book i) → ⊥) → offset_at book i ≡ offset (count book) i
offset_is book i h = go (ℕ_discrete (offset_at book i) (offset (count book) i))
  where
    go : Dec (offset_at book i ≡ offset (count book) i) → offset_at book i ≡ offset (count book) i
    go (yes e) = e
    go (no e) = absurd (h (offset_wrong book i e))
