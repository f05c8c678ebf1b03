-- What follows from the statement of finding: it leaves room for a single outcome, what is found is an order that passes, 'no order' is said
-- exactly where there is none, and at most how many bands are tried. The promises are here, their proofs in proofs/Outcome.
-- Assumes nothing.
use Rattle.std.specs.Prelude.{ℕ, suc, ◌*◌, ◌≤◌, ◌≡◌, ◌⊎◌, ◌↔◌, List, ◌++◌, length, drop, Result}
use Rattle.sums.specs.Sums.{count}
use Rattle.order.specs.Table.{Table}
use Rattle.order.specs.Orders.{Order, Together, AllPass, HasOrder, Ranked}
use Rattle.intake.specs.Words.{rows, table_of}
use Rattle.intake.specs.Answer.{Answer, fine}
use Rattle.intake.specs.Refusals.{table_refusal}
use Rattle.intake.specs.declared.Refusal.{Refusal}
use Rattle.finder.specs.Placing.{leads}
use Rattle.finder.specs.Searched.{finding_answer, Searched}

-- For any table and lent list, the statement of finding allows no two answers and no two lists afterwards.
abbrev pub OneOutcome : Type 0
OneOutcome = (words before after after' : List ℕ) (a a' : Answer)
    → Searched words before after a → Searched words before after' a' → (a ≡ a') × (after ≡ after')

-- The same of what `find` answers.
abbrev pub OneFinding : Type 0
OneFinding = (words before after after' : List ℕ) (r r' : Result ℕ Refusal)
    → Searched words before after (finding_answer r) → Searched words before after' (finding_answer r') → (r ≡ r') × (after ≡ after')

-- the lent list has an order in its first n places, and behind them what it had: each row stands once, queues are kept together with their
-- rows rising, and every band passes
pub record FoundOrder (words before after : List ℕ) : Type 0 where
  pub unrefused : table_refusal words (length before) ≡ fine
  pub found : List ℕ
  pub long : length found ≡ rows words
  pub laid : after ≡ found ++ drop (rows words) before
  pub order : Order (table_of words) found
  pub together : Together (table_of words) found
  pub ranked : Ranked (table_of words) found
  pub passing : AllPass (table_of words) found

-- The answer 'found' means that the lent list has such an order.
abbrev pub FoundMeans : Type 0
FoundMeans = (words before after : List ℕ) (a : Answer) → Searched words before after a
    → a.number ≡ 102 → FoundOrder words before after

-- Of a table that no check refuses, 'found' is said exactly where an order that keeps queues together passes.
abbrev pub FoundExactly : Type 0
FoundExactly = (words before after : List ℕ) (a : Answer) → Searched words before after a → table_refusal words (length before) ≡ fine
    → (a.number ≡ 102) ↔ HasOrder (table_of words)

-- Of a table that no check refuses, 'no order' is said exactly where no order that keeps queues together passes.
abbrev pub NoOrderExactly : Type 0
NoOrderExactly = (words before after : List ℕ) (a : Answer) → Searched words before after a → table_refusal words (length before) ≡ fine
    → (a.number ≡ 8) ↔ ((o : List ℕ) → Order (table_of words) o → Together (table_of words) o → AllPass (table_of words) o → ⊥)

-- And then no order passes at all, whether it keeps queues together or not. (Where a queue is split, it is taken whole at each of its places,
-- with the same sums.)
abbrev pub NoOrderAtAll : Type 0
NoOrderAtAll = (words before after : List ℕ) (a : Answer) → Searched words before after a
    → a.number ≡ 8 → (o : List ℕ) → Order (table_of words) o → AllPass (table_of words) o → ⊥

-- Nothing is replied but found, 'no order', and the refusals 1 to 4.
abbrev pub NoOtherReply : Type 0
NoOtherReply = (words before after : List ℕ) (a : Answer) → Searched words before after a
    → (a.number ≡ 102) ⊎ ((a.number ≡ 8) ⊎ ((1 ≤ a.number) × (a.number ≤ 4)))

-- the number of bands
abbrev pub bands : Table → ℕ
bands τ = count τ.n (leads τ)

-- With b bands at most b(b + 1) / 2 are tried, whether an order is found or not, and no more than b are unplaced, and not none.
pub record FewTried (τ : Table) (a : Answer) : Type 0 where
  pub finding : a.number ≡ 102 → 2 * a.first ≤ bands τ * suc (bands τ)
  pub stopping : a.number ≡ 8 → 2 * a.second ≤ bands τ * suc (bands τ)
  pub unplaced : a.number ≡ 8 → (1 ≤ a.first) × (a.first ≤ bands τ)

abbrev pub TriedAtMost : Type 0
TriedAtMost = (words before after : List ℕ) (a : Answer) → Searched words before after a → FewTried (table_of words) a
