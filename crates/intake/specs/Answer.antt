-- What the desk replies, as document 01 and the requests after it number it, and checks that run one after the other. Definitions only.
-- Assumes nothing.
use Rattle.std.specs.Prelude.{ℕ, ◌≡◌, Bool, true, false, Result, Ok, Err}
use Rattle.sums.specs.Masks.{Place, at, nowhere}
use Rattle.intake.specs.declared.Refusal.{Refusal}
use Rattle.intake.specs.declared.Refusal.TheVariants.{Ragged, TooMany, BadRow, NoRoom, OrderLength, OrderEntry, SplitQueue, NoOrder, Closed, OtherEdition, NoSuchRow, EmptyBook, BookLength, BookOffset, BadLedger}
use Rattle.intake.specs.declared.Reply.{Reply}

-- a reply's number and the numbers that it carries, in order, 0 where there are fewer
pub record Answer : Type 0 where
  pub number : ℕ
  pub first : ℕ
  pub second : ℕ

abbrev pub answer : ℕ → ℕ → ℕ → Answer
answer n a b = record { number = n; first = a; second = b }

-- a reply as code has it
abbrev pub said : Reply → Answer
said r = answer r.number r.first r.second

-- a refusal's number and what it carries
abbrev pub refusal_answer : Refusal → Answer
refusal_answer Ragged = answer 1 0 0
refusal_answer TooMany = answer 2 0 0
refusal_answer (BadRow row field) = answer 3 row field
refusal_answer NoRoom = answer 4 0 0
refusal_answer OrderLength = answer 5 0 0
refusal_answer (OrderEntry place) = answer 6 place 0
refusal_answer (SplitQueue place) = answer 7 place 0
refusal_answer (NoOrder unplaced tried) = answer 8 unplaced tried
refusal_answer Closed = answer 9 0 0
refusal_answer OtherEdition = answer 10 0 0
refusal_answer NoSuchRow = answer 11 0 0
refusal_answer EmptyBook = answer 20 0 0
refusal_answer BookLength = answer 21 0 0
refusal_answer (BookOffset row) = answer 22 row 0
refusal_answer BadLedger = answer 23 0 0

-- what a call answers: its own number with what it tells, or a refusal's
abbrev pub told_as : (number : ℕ) → Result ℕ Refusal → Answer
told_as number (Ok told) = answer number told 0
told_as number (Err r) = refusal_answer r

-- a check refuses, or goes on
pub data Check : Type 0 where
  refused : Answer → Check
  fine : Check

-- one check, and if it goes on the next
infixr 20 ◌then◌
abbrev pub ◌then◌ : Check → Check → Check
refused a then next = refused a
fine then next = next

-- refuses where the test holds
abbrev pub refuse_if : Bool → Answer → Check
refuse_if true a = refused a
refuse_if false a = fine

-- refuses at the first offending place, if there is one
abbrev pub refuse_at : Place → (ℕ → Answer) → Check
refuse_at (at p) a = refused (a p)
refuse_at nowhere a = fine

-- the reply to a request with these checks, and what was lent to it, a list or a ledger, before and after: what a check refuses is refused, and
-- nothing lent altered; all else is answered
pub record Replied {Lent : Type 0} (check : Check) (before after : Lent) (a : Answer) (Answered : Type 0) : Type 0 where
  pub refusing : (r : Answer) → check ≡ refused r → (a ≡ r) × (after ≡ before)
  pub answering : check ≡ fine → Answered
