-- The idlers of document 01: programs that satisfy one demand by doing nothing for another. Each falls to the statements of judging and of
-- finding, on a named case. The promises are here, their proofs in proofs/Idlers.
-- Assumes nothing.
use Rattle.std.specs.Prelude.{ℕ, ◌≤◌, ◌<◌, ◌≡◌, List, [], ◌∷◌}
use Rattle.sums.specs.Columns.{at}
use Rattle.intake.specs.Answer.{Answer, answer}
use Rattle.judge.specs.Judged.{Judged}
use Rattle.finder.specs.Searched.{Searched}
use Rattle.promises.specs.Cases.{words_of, lent, table_a, table_c}

-- judging a, c and d of document 01, and finding b
abbrev pub JudgedA : (after : List ℕ) → Answer → Type 0
JudgedA = Judged (words_of table_a) (3 ∷ 1 ∷ 0 ∷ 2 ∷ []) (lent table_a)

abbrev pub JudgedC : (after : List ℕ) → Answer → Type 0
JudgedC = Judged (words_of table_c) (2 ∷ 0 ∷ 1 ∷ []) (lent table_c)

abbrev pub JudgedD : (after : List ℕ) → Answer → Type 0
JudgedD = Judged (words_of table_c) (0 ∷ 1 ∷ 2 ∷ []) (lent table_c)

abbrev pub SearchedB : (after : List ℕ) → Answer → Type 0
SearchedB = Searched (words_of table_a) (lent table_a)

-- One that refuses everything: a refusal has a number from 1 to 8.
abbrev pub RefusesEverything : Type 0
RefusesEverything = (after : List ℕ) (a : Answer) → a.number ≤ 8 → (JudgedA after a → ⊥) × (SearchedB after a → ⊥)

-- One that calls every row late.
abbrev pub CallsEveryRowLate : Type 0
CallsEveryRowLate = (after : List ℕ) (a : Answer) → a.number ≡ 101 → JudgedA after a → ⊥

-- One that finds no order ever.
abbrev pub FindsNoOrderEver : Type 0
FindsNoOrderEver = (after : List ℕ) (a : Answer) → a.number ≡ 8 → SearchedB after a → ⊥

-- One that gives large figures always: in c, one that is more than the least, for whichever row.
abbrev pub GivesLargeFigures : Type 0
GivesLargeFigures = (after : List ℕ) (a : Answer) (i : ℕ) → at (340 ∷ 340 ∷ 180 ∷ []) i < at after i → JudgedC after a → ⊥

-- One that writes nothing.
abbrev pub WritesNothing : Type 0
WritesNothing = (a : Answer) → (JudgedA (lent table_a) a → ⊥) × (SearchedB (lent table_a) a → ⊥)

-- One that gives fixed figures, whatever they are: c and d are the same table in two orders.
abbrev pub GivesFixedFigures : Type 0
GivesFixedFigures = (fixed : List ℕ) (a a' : Answer) → JudgedC fixed a → JudgedD fixed a' → ⊥

-- One that settles the whole order at the first place, untested: whatever it settles on but the rule's own. For example 1 2 3 0, with row 0 at the lowest
-- place, where it passes, and the others above it as they stand: an order that passes, and not the one that the rule gives.
abbrev pub SettlesUntested : Type 0
SettlesUntested = (after : List ℕ) (a : Answer) → (after ≡ 3 ∷ 1 ∷ 2 ∷ 0 ∷ [] → ⊥) → SearchedB after a → ⊥

-- One that invents the number tried, whichever it is but the right one.
abbrev pub InventsTried : Type 0
InventsTried = (after : List ℕ) (tried : ℕ) → (tried ≡ 5 → ⊥) → SearchedB after (answer 102 tried 0) → ⊥
