-- What the functions of this crate answer about an order and a table held in columns. Definitions only.
-- Assumes nothing.
use Rattle.std.specs.Option.{unwrap_or}
use Rattle.std.specs.Prelude.{ℕ, ◌-◌, ◌≤◌, ◌<◌, ◌≡◌, Option, Some, None as nothing, List, length, eqb}
use Rattle.sums.specs.Masks.{Mask, run, Place, at, nowhere, lowest, None}
use Rattle.sums.specs.Sums.{max_over}
use Rattle.sums.specs.Columns.{Columns, at as entry}
use Rattle.sums.specs.Terms.{lengths, periods, jitters, allowed, keys}
use Rattle.sums.specs.declared.Terms.{Terms}
use Rattle.licence.specs.Limit.{limit}
use Rattle.order.specs.Table.{Table}
use Rattle.order.specs.Orders.{bad_entry, Together}
use Rattle.order.specs.Sheet.{Lengths, RunVerdict}
use Rattle.intake.specs.Answer.{Answer, Replied}
use Rattle.intake.specs.declared.Refusal.{Refusal}
use Rattle.intake.specs.declared.Refusal.TheVariants.{OrderEntry}
use Rattle.judge.specs.Judged.{order_refusal, Answered}

-- the place that a search found
abbrev pub place_of : Option ℕ → Place
place_of (Some p) = at p
place_of nothing = nowhere

-- an order of n entries, each a row
pub record InRange (n : ℕ) (order : List ℕ) : Type 0 where
  pub few : n ≤ limit
  pub count : length order ≡ n
  pub range : (p : ℕ) → p < n → entry order p < n

-- no entry is out of range or a repeat
abbrev pub NoneBad : List ℕ → Type 0
NoneBad order = None (length order) (bad_entry (length order) order)

-- the refusal 6 of the first entry that is out of range or a repeat
abbrev pub FirstBad : (order : List ℕ) → Refusal → Type 0
FirstBad order refused = (p : ℕ) × (refused ≡ OrderEntry p) × (lowest (length order) (bad_entry (length order) order) ≡ at p)

-- what stands for a row: its band's figure, or 0
abbrev pub shown_as : Option ℕ → ℕ
shown_as v = unwrap_or v 0

-- the row at place p has the figure 0
unfoldable pub zero_at : (figures order : List ℕ) → Mask
zero_at figures order p = eqb (entry figures (entry order p)) 0

-- an order that no check refuses
pub record Sound (n : ℕ) (τ : Table) (order : List ℕ) : Type 0 where
  pub count : length order ≡ n
  pub entries : None n (bad_entry n order)
  pub together : Together τ order

-- the run of one key that ends before place e starts at s
pub record RunStarts (key : List ℕ) (e s : ℕ) : Type 0 where
  pub some : s < e
  pub one : (p : ℕ) → s ≤ p → p < e → entry key p ≡ entry key s
  pub first : 0 < s → entry key (s - 1) ≡ entry key s → ⊥

-- R is written for the rows of the places s .. e - 1, and nothing else is
pub record PutFor (order : List ℕ) (s e R : ℕ) (before after : List ℕ) : Type 0 where
  pub same_length : length after ≡ length before
  pub put : (p : ℕ) → s ≤ p → p < e → entry after (entry order p) ≡ R
  pub kept : (i : ℕ) → ((p : ℕ) → s ≤ p → p < e → entry order p ≡ i → ⊥) → entry after i ≡ entry before i

-- columns of n rows, as runs of them are judged
pub record Laid (n : ℕ) (c t j a key : List ℕ) : Type 0 where
  pub rates : Columns n c t j
  pub lengths : Lengths n c a
  pub long_key : n ≤ length key

-- the same of rows
abbrev pub LaidRows : (along : List Terms) → Type 0
LaidRows along = Laid (length along) (lengths along) (periods along) (jitters along) (allowed along) (keys along)

-- R stands for place p: the place is of the whole run s .. e - 1 of one key, and R shows the verdict on that run, with the places before it
-- above and those behind it below
pub record ShownRun (n : ℕ) (c t j a key : List ℕ) (p R : ℕ) : Type 0 where
  pub s : ℕ
  pub e : ℕ
  pub starts : RunStarts key e s
  pub inside : e ≤ n
  pub last : e < n → entry key e ≡ entry key s → ⊥
  pub from : s ≤ p
  pub to : p < e
  pub verdict : Option ℕ
  pub judged : RunVerdict e c t j a s e (max_over n (run e n) (entry c)) verdict
  pub is : R ≡ shown_as verdict

-- the lent list once the runs from place e on are judged: places from n on are as they were
pub record FilledFrom (n : ℕ) (c t j a key order before after : List ℕ) (e : ℕ) : Type 0 where
  pub same_length : length after ≡ length before
  pub beyond : (i : ℕ) → n ≤ i → entry after i ≡ entry before i
  pub shown : (p : ℕ) → e ≤ p → p < n → ShownRun n c t j a key p (entry after (entry order p))

-- the same of rows
abbrev pub FilledRows : (along : List Terms) (order before after : List ℕ) (e : ℕ) → Type 0
FilledRows along = FilledFrom (length along) (lengths along) (periods along) (jitters along) (allowed along) (keys along)

-- judging an order over a table in columns: what the checks of the order refuse, and else the answer
abbrev pub OrderJudged : (τ : Table) (order before after : List ℕ) (a : Answer) → Type 0
OrderJudged τ order before after a = Replied (order_refusal τ order) before after a (Answered τ order before after a)
