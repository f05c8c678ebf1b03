-- What the finder answers on the held rows plus the new one is what the desk answers on the claim. Assumes nothing.
use Prim.Native.Nat.{ℕ, ◌+◌, ◌*◌, ◌≤◌}
use native.Mathlib.Omega.{arith}
use mathlib.Core.Path.{◌≡◌, refl, sym, ap, subst, ◌∙◌}
use mathlib.Core.List.{List, ◌++◌}
use lib.ListN.{length, take, drop}
use lib.Seq.{take_at}
use Rattle.licence.specs.Limit.{limit}
use Rattle.intake.specs.Words.{table_of}
use Rattle.intake.specs.Answer.{Answer, refusal_answer}
use Rattle.intake.specs.Told.{refusal_small}
use Rattle.intake.specs.declared.Refusal.{Refusal}
use Rattle.finder.specs.Placing.{Ending, found, none}
use Rattle.finder.specs.Searched.{finding_answer, Searched, Told as FinderTold, Answered as FinderAnswered}
use Rattle.desk.specs.Ledger.{Whole, changed, with_row}
use Rattle.desk.proofs.Laws.{Claimable}
use Rattle.desk.proofs.HeldRows.{with_length, claim_fine}
use Rattle.desk.specs.Replies.{decision_answer, Told, Answered}
use Rattle.desk.specs.declared.Ledger.{Ledger}
use Rattle.std.specs.Prelude.{Result, Ok, Err}

module _ (l : Ledger) (row : List ℕ) (seen : ℕ) (known : Claimable l row seen) (whole : Whole l) (table before after : List ℕ) (roomy : limit ≤ length before)
    (is : table ≡ with_row l row) where
  -- the finder refuses no such table, and answers
  answered : {a : Answer} → Searched table before after a → FinderAnswered (table_of (with_row l row)) before after a
  answered {a} s = (subst (λ (t : List ℕ). Searched t before after a) is s).answering (claim_fine l row seen (length before) whole roomy known)

  -- where an order is found, the claim is granted
  pub granted : {f : Result ℕ Refusal} {tried : ℕ} → f ≡ Ok tried → Searched table before after (finding_answer f)
      → Answered l row (changed l (with_row l row) (l.held + 1)) (decision_answer 105 (Ok (l.edition + 1)))
  granted {f} {tried} e s = let x = answered s in record { ending = x.ending; follows = x.follows; told = go x.ending x.told }
    where
      go : (r : Ending) → FinderTold r before after (finding_answer f) → Told l row r (changed l (with_row l row) (l.held + 1)) (decision_answer 105 (Ok (l.edition + 1)))
      go (found o t) says = (refl, refl)
      go (none u t) says = let z = ap finding_answer e in absurd (omega (arith, ap (λ (a : Answer). a.number) (sym z ∙ says.0)))

  -- where none is, that is said
  pub not_granted : {f : Result ℕ Refusal} {r : Refusal} → f ≡ Err r → Searched table before after (finding_answer f) → Answered l row l (refusal_answer r)
  not_granted {f} {r} e s = let x = answered s in record { ending = x.ending; follows = x.follows; told = go x.ending x.told }
    where
      go : (n : Ending) → FinderTold n before after (finding_answer f) → Told l row n l (refusal_answer r)
      go (found o t) says = let z = ap finding_answer e in absurd (omega (arith, ap (λ (a : Answer). a.number) (sym z ∙ says.0), refusal_small r))
      go (none u t) says = (sym (ap finding_answer e) ∙ says.0, refl)

-- a row laid behind those held: the ledger's words after the change, and the table that is searched
module _ (l : Ledger) (row w : List ℕ) (long : l.held * 6 ≤ length l.words) (six : length row ≡ 6)
    (added : w ≡ take (l.held * 6) l.words ++ row ++ drop (l.held * 6 + 6) l.words) where
  pub row_added : w ≡ (changed l (with_row l row) (l.held + 1)).words
  row_added =
      let end : l.held * 6 + 6 ≡ length (with_row l row) = omega (arith, with_length l row long six) in
      added ∙ ap (λ (e : ℕ). with_row l row ++ drop e l.words) end

  pub table_searched : take (l.held * 6 + 6) w ≡ with_row l row
  table_searched =
      let end : length (with_row l row) ≡ l.held * 6 + 6 = omega (arith, with_length l row long six) in
      ap (take (l.held * 6 + 6)) row_added ∙ take_at (with_row l row) (drop (length (with_row l row)) l.words) (l.held * 6 + 6) end
