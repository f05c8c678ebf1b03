-- What reading a table gives: columns that hold its numbers. Definitions only.
-- Assumes nothing.
use Rattle.std.specs.Prelude.{ℕ, ◌≤◌, ◌<◌, ◌≡◌, List, length, take, Result, Ok, Err, ⊤}
use Rattle.sums.specs.Masks.{lowest, at, nowhere}
use Rattle.sums.specs.Columns.{at as entry}
use Rattle.sums.specs.Terms.{lengths, periods, jitters, allowed, keys}
use Rattle.sums.specs.declared.Terms.{Terms}
use Rattle.licence.specs.Row.{bad_field}
use Rattle.order.specs.Table.{Table}
use Rattle.intake.specs.Words.{rows, bad_row, table_of}
use Rattle.intake.specs.Answer.{answer, refusal_answer, refused, fine}
use Rattle.intake.specs.Refusals.{shape_refusal, table_refusal}
use Rattle.intake.specs.declared.Refusal.{Refusal}

-- the first k places of the columns hold the numbers of the table's first k rows
pub record Holds (τ : Table) (k : ℕ) (c t j e key : List ℕ) : Type 0 where
  pub is_C : (i : ℕ) → i < k → entry c i ≡ τ.C i
  pub is_T : (i : ℕ) → i < k → entry t i ≡ τ.T i
  pub is_J : (i : ℕ) → i < k → entry j i ≡ τ.J i
  pub is_E : (i : ℕ) → i < k → entry e i ≡ τ.E i
  pub is_key : (i : ℕ) → i < k → entry key i ≡ τ.key i

-- reading rows: every row is good and the columns hold them, or the first that is not is refused
abbrev pub RowsRead : (words : List ℕ) (held : List Terms) → Result ⊤ Refusal → Type 0
RowsRead words held (Ok done) =
    (lowest (length held) (bad_row words) ≡ nowhere) × Holds (table_of words) (length held) (lengths held) (periods held) (jitters held) (allowed held) (keys held)
RowsRead words held (Err r) = (i : ℕ) × (lowest (length held) (bad_row words) ≡ at i) × (refusal_answer r ≡ answer 3 i (bad_field words i))

-- counting rows: their number, or why the words are no table
abbrev pub Counted : (words : List ℕ) → Result ℕ Refusal → Type 0
Counted words (Ok n) = (shape_refusal words ≡ fine) × (n ≡ rows words)
Counted words (Err r) = shape_refusal words ≡ refused (refusal_answer r)

-- a table that is taken in: no check refuses, and the columns hold its numbers
pub record TakenIn (words : List ℕ) (room n : ℕ) (c t j e key : List ℕ) : Type 0 where
  pub unrefused : table_refusal words room ≡ fine
  pub count : n ≡ rows words
  pub holds : Holds (table_of words) n c t j e key

-- the same of rows
abbrev pub Taken : (words : List ℕ) (room : ℕ) (held : List Terms) → Type 0
Taken words room held = TakenIn words room (length held) (lengths held) (periods held) (jitters held) (allowed held) (keys held)

-- taking in a table: the number of its rows, which the first places hold, or why it is refused
abbrev pub IntakeIs : (words : List ℕ) (room : ℕ) (places : List Terms) → Result ℕ Refusal → Type 0
IntakeIs words room places (Ok n) = (n ≤ length places) × Taken words room (take n places)
IntakeIs words room places (Err r) = table_refusal words room ≡ refused (refusal_answer r)
