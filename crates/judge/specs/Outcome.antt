-- What follows from the statement of judging: it leaves room for a single outcome, 0 stands for late rows and for no others, and 'passed'
-- is answered exactly where every band passes. The promises are here, their proofs in proofs/Outcome.
-- Assumes nothing.
use Rattle.std.specs.Prelude.{ℕ, ◌≤◌, ◌<◌, ◌≡◌, ◌↔◌, Option, Result, List, length}
use Rattle.sums.specs.Columns.{at}
use Rattle.order.specs.Orders.{FigureAt, AllPass}
use Rattle.intake.specs.Words.{rows, table_of}
use Rattle.intake.specs.Answer.{Answer, answer, refused, fine}
use Rattle.judge.specs.Judged.{judgement_answer, refusal, LateAt, Written, Judged}
use Rattle.intake.specs.declared.Refusal.{Refusal}
use Rattle.judge.specs.Fine.{Fine}

-- For any table, order and lent list, the statement of judging allows no two answers and no two lists afterwards.
abbrev pub OneOutcome : Type 0
OneOutcome = (words order before after after' : List ℕ) (a a' : Answer)
    → Judged words order before after a → Judged words order before after' a' → (a ≡ a') × (after ≡ after')

-- The same of what `judge` answers.
abbrev pub OneJudgement : Type 0
OneJudgement = (words order before after after' : List ℕ) (r r' : Result (Option ℕ) Refusal)
    → Judged words order before after (judgement_answer r) → Judged words order before after' (judgement_answer r') → (r ≡ r') × (after ≡ after')

-- Where nothing is refused, the row at a place has the word 0 exactly if its band is late.
abbrev pub ZeroExactlyLate : Type 0
ZeroExactlyLate = (words order before after : List ℕ) (a : Answer) → Judged words order before after a
    → refusal words order (length before) ≡ fine → (p : ℕ) → p < rows words → (at after (at order p) ≡ 0) ↔ LateAt (table_of words) order p

-- A refusal bears a number from 1 to 7.
abbrev pub RefusedSmall : Type 0
RefusedSmall = (words order : List ℕ) (room : ℕ) (r : Answer) → refusal words order room ≡ refused r → (1 ≤ r.number) × (r.number ≤ 7)

-- nothing is refused, every band passes, and the list has the figure of each row
pub record Passing (words order before after : List ℕ) : Type 0 where
  pub unrefused : refusal words order (length before) ≡ fine
  pub known : Fine words order (length before)
  pub passing : AllPass (table_of words) order
  pub written : Written (table_of words) order before after
  pub figures : (p : ℕ) → p < rows words → FigureAt (table_of words) order p (at after (at order p))

-- The answer 'passed' means that nothing is refused, every band passes, and the list has the figures.
abbrev pub PassedMeans : Type 0
PassedMeans = (words order before after : List ℕ) (a : Answer) → Judged words order before after a
    → a.number ≡ 100 → Passing words order before after

-- Where nothing is refused and every band passes, the answer is 'passed'.
abbrev pub PassingAnswered : Type 0
PassingAnswered = (words order before after : List ℕ) (a : Answer) → Judged words order before after a
    → refusal words order (length before) ≡ fine → AllPass (table_of words) order → a ≡ answer 100 0 0
