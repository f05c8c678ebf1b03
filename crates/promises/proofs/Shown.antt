-- Demand 3 is said of something: case c of document 01 is answered 'passed', a legal run of it queues a frame of every row at once, and in that run each of
-- these frames is wholly sent within the figure of its row.
-- Assumes nothing.
use Rattle.std.specs.Prelude.{ℕ, zero, suc, ◌+◌, ◌≤◌, ◌<◌, refl, List, [], ◌∷◌, length}
use Rattle.std.proofs.Common.{arith, lit≤}
use mathlib.Core.List.Memᴰ
use Rattle.sums.specs.Columns.{at}
use Rattle.order.specs.Table.{Table}
use Rattle.bus.specs.Model.{Run, SentBy, Legal}
use Rattle.bus.specs.Witness.{full, burst}
use Rattle.bus.proofs.Witness.{full_in, burst_legal}
use Rattle.intake.specs.Words.{table_of}
use Rattle.intake.specs.Answer.{answer}
use Rattle.judge.specs.Judged.{Judged}
use Rattle.judge.proofs.Outcome.{passed_means}
use Rattle.promises.specs.Cases.{words_of, lent, table_c}
use Rattle.promises.proofs.Cases.{as_written}
use Rattle.promises.specs.Demand3.{accepted_sane, passed_is_kept}

abbrev words : List ℕ
words = words_of table_c

abbrev τ : Table
τ = table_of words

abbrev order : List ℕ
order = 2 ∷ 0 ∷ 1 ∷ []

abbrev figures : List ℕ
figures = 340 ∷ 340 ∷ 180 ∷ []

pub passed : Judged words order (lent table_c) figures (answer 100 0 0)
passed = as_written _ (Memᴰ.tail (Memᴰ.tail (Memᴰ.tail (Memᴰ.head refl))))

-- 341 bit times
abbrev run : Run
run = burst τ 340

pub legal : Legal τ run
legal = burst_legal τ (accepted_sane (passed_means words order (lent table_c) figures (answer 100 0 0) passed refl).known) 340

-- the run lasts until every figure is up
enough : (k : ℕ) → k < 3 → 0 + at figures k ≤ length run
enough zero l = lit≤ tt
enough (suc zero) l = lit≤ tt
enough (suc (suc zero)) l = lit≤ tt
enough (suc (suc (suc k))) l = absurd (omega arith)

pub sent : (k : ℕ) → k < 3 → SentBy τ order run (full τ k) (0 + at figures k)
sent k l = passed_is_kept words order (lent table_c) figures (answer 100 0 0) passed refl run legal 0 (full τ k) (full_in τ 3 k l) (enough k l)
