-- What an order that was found is known to be, as the lines need it; and the text at the start of a list.
-- Assumes nothing.
use Rattle.std.specs.Prelude.{ℕ, ◌≤◌, ◌<◌, ◌≡◌, List, length, take, drop}
use Rattle.std.proofs.Common.{arith, sym, ap, subst, ◌∙◌, drop_at, length-take-le}
use Rattle.std.proofs.lemmas.List.Edits.{sets}
use Rattle.std.proofs.Math.Seq.{length-sets}
use Rattle.sums.specs.Columns.{at}
use Rattle.licence.specs.Limit.{limit}
use Rattle.order.specs.Lists.{mem_get_or}
use Rattle.intake.specs.Words.{rows}
use Rattle.intake.specs.Answer.{Answer, refusal_answer}
use Rattle.intake.specs.Laws.{accepted}
use Rattle.intake.specs.Told.{refusal_small}
use Rattle.intake.specs.declared.Refusal.{Refusal}
use Rattle.finder.specs.Searched.{Searched}
use Rattle.finder.proofs.Outcome.{found_means, found_there}
use Rattle.book.specs.ListLaws.{sets_laid, take_laid}
use Rattle.listing.specs.Text.{refused_line, line_most}
use Rattle.listing.specs.TextLaws.{decimal_length, refused_length}
use Rattle.listing.specs.Listed.{Stands, Counts}

-- as many entries as rows, each a row
pub record RowNumbers (n : ℕ) (order : List ℕ) : Type 0 where
  pub few : n ≤ limit
  pub long : length order ≡ n
  pub range : (p : ℕ) → p < n → at order p < n

pub found_rows : (words before after : List ℕ) (a : Answer) → Searched words before after a → a.number ≡ 102 → RowNumbers (rows words) (take (rows words) after)
found_rows words before after a s e =
    let x = found_means words before after a s e in
    subst (RowNumbers (rows words)) (sym (found_there x)) (record {
      few = (accepted words (length before) x.unrefused).few;
      long = x.long;
      range = λ p l. x.order.range (at x.found p) (mem_get_or x.found p (omega (arith, x.long)));
    })

-- what was stored from the start stands there
pub text_stands : (Text : List ℕ → Type 0) (list xs : List ℕ) {after : List ℕ} {r : ℕ} → r ≡ length xs → after ≡ sets list 0 xs → length xs ≤ length list → Text xs → Stands Text list after r
text_stands Text list xs {after} {r} e s l x =
    let laid = s ∙ sets_laid list xs l in
    record {
      inside = omega (arith, e, ap length s ∙ length-sets list 0 xs);
      text = subst Text (sym (ap (take r) laid ∙ take_laid list xs (sym e))) x;
      behind = ap (drop r) laid ∙ drop_at xs (drop (length xs) list) r (sym e) ∙ ap (λ (k : ℕ). drop k list) (sym e);
    }

pub refused_most : (r : Refusal) → length (refused_line (refusal_answer r).number) ≤ line_most
refused_most r = omega (arith, refused_length (refusal_answer r).number, decimal_length 1 (refusal_answer r).number (refusal_small r))

pub counts : (text : List ℕ) {n : ℕ} → n ≤ length text → Counts n text
counts text {n} l = (l, sym (length-take-le n text l))
