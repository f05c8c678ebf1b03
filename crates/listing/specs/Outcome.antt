-- One text for each book, which shows lines or refuses by one of six numbers; and an input longer than any book is answered by its first bytes. The promises come first, their proofs below.
-- Assumes nothing.
use Rattle.std.specs.Prelude.{ℕ, ◌≤◌, ◌<◌, ◌≡◌, refl, ◌⊎◌, List, [], ◌∷◌, ◌++◌, length, take, drop}
use Rattle.std.proofs.Math.Decide.{dec_le}
use Rattle.std.proofs.Common.{arith, sym, ap, ap₂, subst, ◌∙◌, inl, inr, take-append-drop, take_all, length-take-le}
use Rattle.licence.specs.Limit.{limit}
use Rattle.order.specs.Orders.{mem}
use Rattle.order.specs.Lists.{mem_there}
use Rattle.intake.specs.Words.{rows}
use Rattle.intake.specs.Answer.{Answer, answer, refusal_answer, Check, refused, fine}
use Rattle.intake.specs.Refusals.{table_refusal}
use Rattle.intake.specs.Laws.{shaped}
use Rattle.intake.specs.Told.{refusal_small, number_has, only_3}
use Rattle.intake.specs.declared.Refusal.{Refusal}
use Rattle.judge.specs.Judged.{Judged}
use Rattle.judge.proofs.Outcome.{one_outcome as one_judged}
use Rattle.finder.specs.Placing.{Ending, found, none}
use Rattle.finder.specs.Searched.{Told, Searched}
use Rattle.finder.proofs.Outcome.{one_outcome as one_searched}
use Rattle.book.specs.Book.{size, words_of}
use Rattle.book.specs.Replies.{book_refusal}
use Rattle.book.specs.Laws.{words_shape}
use Rattle.book.specs.Outcome.{OneOf, refused_by, first_bytes_decide}
use Rattle.listing.specs.Text.{lines, refused_line}
use Rattle.listing.specs.Listed.{blank, WordsListed, refuses, shows, Listed, Stands}

-- No two texts are right for one book.
abbrev pub OneText : Type 0
OneText = (book text text' : List ℕ) → Listed book text → Listed book text' → text ≡ text'

-- So of `list`: no two numbers of bytes, and no two lists afterwards.
abbrev pub OneListing : Type 0
OneListing = (book before after after' : List ℕ) (r r' : ℕ) → Stands (Listed book) before after r → Stands (Listed book) before after' r' → (r ≡ r') × (after ≡ after')

-- The text for the first bytes of any input, more of them than any book has, is the text for the whole.
abbrev pub FirstBytesListed : Type 0
FirstBytesListed = (input text : List ℕ) (k : ℕ) → size limit < k → Listed (take k input) text → Listed input text

-- the numbers that a book can be refused with, by finding and by reading
abbrev pub refusals : List ℕ
refusals = 3 ∷ 8 ∷ 20 ∷ 2 ∷ 21 ∷ 22 ∷ []

-- A text shows lines, or it refuses by one of these.
abbrev pub Says : List ℕ → Type 0
Says text = ((order : List ℕ) × (figures : List ℕ) × (text ≡ lines order figures)) ⊎ ((k : ℕ) × OneOf refusals k × (text ≡ refused_line k))

abbrev pub SaysOnly : Type 0
SaysOnly = (book text : List ℕ) → Listed book text → Says text

-- ---- the proofs

one_words : (words text text' : List ℕ) → WordsListed words text → WordsListed words text' → text ≡ text'
one_words words text text' (refuses r after s e) (refuses r' after' s' e') =
    e ∙ ap (λ (a : Answer). refused_line a.number) (one_searched words blank after after' (refusal_answer r) (refusal_answer r') s s').0 ∙ sym e'
one_words words text text' (refuses r after s e) (shows order figures tried verdict s' j' e') =
    absurd (omega (arith, refusal_small r, ap (λ (a : Answer). a.number) (one_searched words blank after order (refusal_answer r) (answer 102 tried 0) s s').0))
one_words words text text' (shows order figures tried verdict s j e) (refuses r after s' e') =
    absurd (omega (arith, refusal_small r, ap (λ (a : Answer). a.number) (one_searched words blank order after (answer 102 tried 0) (refusal_answer r) s s').0))
one_words words text text' (shows order figures tried verdict s j e) (shows order' figures' tried' verdict' s' j' e') =
    let same = (one_searched words blank order order' (answer 102 tried 0) (answer 102 tried' 0) s s').1 in
    let judged = subst (λ (o : List ℕ). Judged words (take (rows words) o) blank figures' verdict') (sym same) j' in
    let shown = (one_judged words (take (rows words) order) blank figures figures' verdict verdict' j judged).1 in
    e ∙ ap₂ (λ (o f : List ℕ). lines (take (rows words) o) f) same shown ∙ sym e'

pub one_text : OneText
one_text book text text' x y = go (book_refusal book) refl
  where
    go : (c : Check) → book_refusal book ≡ c → text ≡ text'
    go (refused r) e = x.unread r e ∙ sym (y.unread r e)
    go fine e = one_words (words_of book) text text' (x.listed e) (y.listed e)

pub one_listing : OneListing
one_listing book before after after' r r' x y =
    let same = one_text book (take r after) (take r' after') x.text y.text in
    let long : r ≡ r' = sym (length-take-le r after x.inside) ∙ ap length same ∙ length-take-le r' after' y.inside in
    (long, sym (take-append-drop r after) ∙ ap₂ (λ (t b : List ℕ). t ++ b) same (x.behind ∙ ap (λ (k : ℕ). drop k before) long ∙ sym y.behind) ∙ take-append-drop r' after')

pub first_bytes_listed : FirstBytesListed
first_bytes_listed input text k l x = go (dec_le k (length input))
  where
    go : Dec (k ≤ length input) → Listed input text
    go (no h) = subst (λ (i : List ℕ). Listed i text) (take_all k input (omega arith)) x
    go (yes h) =
        let d = first_bytes_decide input k l h in
        record {
          unread = λ r e. x.unread r (d.1 ∙ sym d.2 ∙ e);
          listed = λ e. absurd (let y = sym d.2 ∙ e in let z : ◌≡◌ {A = ℕ} 0 1 = cc in omega arith);
        }

-- finding refuses the words of a book by 3 and 8 alone: they have the shape of a table, and there is room
words_by : (book after : List ℕ) (r : Refusal) → book_refusal book ≡ fine → Searched (words_of book) blank after (refusal_answer r) → OneOf refusals (refusal_answer r).number
unfolding mem blank limit
words_by book after r e s = go (table_refusal (words_of book) (length blank)) refl
  where
    ends : (x : Ending) → Told x blank after (refusal_answer r) → OneOf refusals (refusal_answer r).number
    ends (found o t) says = absurd (omega (arith, refusal_small r, ap (λ (a : Answer). a.number) says.0))
    ends (none u t) says = subst (λ (a : Answer). OneOf refusals a.number) (sym says.0) tt

    go : (c : Check) → table_refusal (words_of book) (length blank) ≡ c → OneOf refusals (refusal_answer r).number
    go (refused a) q =
        let shape = words_shape book e in
        let three = ap (λ (x : Answer). x.number) (s.refusing a q).0 ∙ number_has (only_3 (words_of book) (length blank) shape (omega (arith, (shaped (words_of book) shape).few))) q in
        subst (λ (n : ℕ). OneOf refusals n) (sym three) tt
    go fine q = let x = s.answering q in ends x.ending x.told

pub says_only : SaysOnly
says_only book text x = go (book_refusal book) refl
  where
    words : book_refusal book ≡ fine → WordsListed (words_of book) text → Says text
    words e (refuses r after s q) = inr ((refusal_answer r).number, words_by book after r e s, q)
    words e (shows order figures tried verdict s j q) = inl (take (rows (words_of book)) order, figures, q)

    go : (c : Check) → book_refusal book ≡ c → Says text
    go (refused r) e = inr (r.number, mem_there 3 _ r.number (mem_there 8 _ r.number (refused_by.1 book r e)), x.unread r e)
    go fine e = words e (x.listed e)
