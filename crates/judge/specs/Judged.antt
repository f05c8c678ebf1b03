-- The reply table of judging, whole: what is refused, and else the verdict and every word of the lent list. Definitions only.
-- Assumes nothing.
use Rattle.std.specs.Prelude.{ℕ, ◌≤◌, ◌<◌, ◌≡◌, ◌⊎◌, not, Option, Some, None, Result, Ok, Err, List, length, eqb}
use Rattle.sums.specs.Masks.{lowest}
use Rattle.sums.specs.Columns.{at}
use Rattle.order.specs.Table.{Table}
use Rattle.order.specs.Orders.{bad_entry, resumes, PassesAt, FigureAt}
use Rattle.intake.specs.Words.{table_of}
use Rattle.intake.specs.Answer.{Answer, answer, refusal_answer, Check, refuse_if, refuse_at, ◌then◌, Replied}
use Rattle.intake.specs.Refusals.{table_refusal}
use Rattle.intake.specs.declared.Refusal.{Refusal}

-- the number and the carried values of each case: passed 100, late 101 with the first late position, a refusal as its own
abbrev pub judgement_answer : Result (Option ℕ) Refusal → Answer
judgement_answer (Ok None) = answer 100 0 0
judgement_answer (Ok (Some place)) = answer 101 place 0
judgement_answer (Err r) = refusal_answer r

-- the checks of an order: 5 not n entries; 6 the first that is out of range or a repeat; 7 the first that resumes a FIFO already left
unfoldable pub order_refusal : Table → (order : List ℕ) → Check
order_refusal τ order =
    refuse_if (not (eqb (length order) τ.n)) (answer 5 0 0)
    then refuse_at (lowest τ.n (bad_entry τ.n order)) (λ p. answer 6 p 0)
    then refuse_at (lowest τ.n (resumes τ.key order)) (λ p. answer 7 p 0)

-- refusals 1 to 7, in order
abbrev pub refusal : (words order : List ℕ) (room : ℕ) → Check
refusal words order room = table_refusal words room then order_refusal (table_of words) order

module _ (τ : Table) (order : List ℕ) where
  -- the band at place p is late: no w satisfies its equation in time
  abbrev pub LateAt : ℕ → Type 0
  LateAt p = PassesAt τ order p → ⊥

  -- what stands for the row at place p: its figure, or 0 if it is late
  abbrev pub ShownAt : (p R : ℕ) → Type 0
  ShownAt p R = FigureAt τ order p R ⊎ (LateAt p × (R ≡ 0))

  -- the lent list afterwards: the figure of row i at place i, and places from n on as they were
  pub record Written (before after : List ℕ) : Type 0 where
    pub same_length : length after ≡ length before
    pub beyond : (i : ℕ) → τ.n ≤ i → at after i ≡ at before i
    pub figures : (p : ℕ) → p < τ.n → ShownAt p (at after (at order p))

  -- passed: every band passes
  pub record AllPassed (a : Answer) : Type 0 where
    pub says : a ≡ answer 100 0 0
    pub passing : (p : ℕ) → p < τ.n → PassesAt τ order p

  -- late: the first late position
  pub record SomeLate (a : Answer) : Type 0 where
    pub place : ℕ
    pub says : a ≡ answer 101 place 0
    pub inside : place < τ.n
    pub late : LateAt place
    pub earlier : (p : ℕ) → p < place → PassesAt τ order p

  -- the answer to an order that no check refuses
  pub record Answered (before after : List ℕ) (a : Answer) : Type 0 where
    pub verdict : AllPassed a ⊎ SomeLate a
    pub written : Written before after

-- judging any words, order and lent list: the answer with what it carries, and the lent list before and after
abbrev pub Judged : (words order before after : List ℕ) (a : Answer) → Type 0
Judged words order before after a = Replied (refusal words order (length before)) before after a (Answered (table_of words) order before after a)
