-- The finder and the judge agree. The promises come first, their proofs below.
-- Assumes nothing.
use Rattle.std.specs.Prelude.{ℕ, ◌≤◌, ◌≡◌, List, length, take}
use Rattle.std.proofs.Common.{sym, subst}
use Rattle.order.specs.Orders.{AllPass}
use Rattle.intake.specs.Words.{rows, table_of}
use Rattle.intake.specs.Answer.{Answer, answer}
use Rattle.intake.specs.Laws.{accepted}
use Rattle.judge.specs.Judged.{Judged}
use Rattle.judge.specs.Fine.{Fine, order_fine}
use Rattle.judge.proofs.Outcome.{passed_means, passing_answered}
use Rattle.finder.specs.Searched.{Searched}
use Rattle.finder.proofs.Outcome.{found_means, found_there, no_order_at_all}

-- An order that was found, judged with any list lent for the figures that has room for them, is answered 'passed'.
abbrev pub FoundIsPassed : Type 0
FoundIsPassed = (words before after figures figures' : List ℕ) (a judged : Answer) → Searched words before after a → a.number ≡ 102
    → rows words ≤ length figures → Judged words (take (rows words) after) figures figures' judged → judged ≡ answer 100 0 0

-- Where the finder says 'no order', the judge passes none, whatever list is lent.
abbrev pub NoneIsPassed : Type 0
NoneIsPassed = (words before after order figures figures' : List ℕ) (a judged : Answer) → Searched words before after a → a.number ≡ 8
    → Judged words order figures figures' judged → judged.number ≡ 100 → ⊥

-- the first n places of the lent list are an order that no check of the judge refuses, whatever list is lent that has room, and every band passes
pub record FoundFine (words order : List ℕ) : Type 0 where
  pub known : (room : ℕ) → rows words ≤ room → Fine words order room
  pub passing : AllPass (table_of words) order

pub found_fine : (words before after : List ℕ) (a : Answer) → Searched words before after a → a.number ≡ 102 → FoundFine words (take (rows words) after)
found_fine words before after a s is_102 =
    let x = found_means words before after a s is_102 in
    let ok = accepted words (length before) x.unrefused in
    subst (FoundFine words) (sym (found_there x)) (record {
      known = λ room l. record { accepted = record { whole = ok.whole; few = ok.few; good = ok.good; roomy = l }; count = x.long; order = x.order; together = x.together };
      passing = x.passing;
    })

pub found_is_passed : FoundIsPassed
found_is_passed words before after figures figures' a judged s is_102 room j =
    let x = found_fine words before after a s is_102 in
    passing_answered words (take (rows words) after) figures figures' judged j (order_fine (x.known (length figures) room)) x.passing

pub none_is_passed : NoneIsPassed
none_is_passed words before after order figures figures' a judged s is_8 j is_100 =
    let p = passed_means words order figures figures' judged j is_100 in
    no_order_at_all words before after a s is_8 order p.known.order p.passing
