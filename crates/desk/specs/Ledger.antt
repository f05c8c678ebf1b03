-- The ledger of granted rows, the checks of a claim and of a withdrawal in the order of request L4, and the ledger after a change.
-- Definitions only: what follows from them is in proofs/Laws.
-- Assumes nothing.
use Rattle.std.specs.Prelude.{ℕ, ◌+◌, ◌*◌, ◌≡◌, Bool, not, ◌||◌, List, ◌++◌, length, take, drop, replicate, eqb, leb, ltb}
use Rattle.sums.specs.Masks.{any_below}
use Rattle.licence.specs.Limit.{limit}
use Rattle.licence.specs.Row.{bad_field}
use Rattle.intake.specs.Words.{bad_row}
use Rattle.intake.specs.Answer.{answer, Check, refuse_if, ◌then◌}
use Rattle.desk.specs.declared.Ledger.{Ledger}

abbrev pub ledger : (words : List ℕ) (held edition : ℕ) → Ledger
ledger words held edition = record { words = words; held = held; edition = edition }

-- every ledger that can be lent has the words of as many rows as it may hold: so says its type
abbrev pub Whole : Ledger → Type 0
Whole l = length l.words ≡ limit * 6

-- 'with an edition number from 0': a ledger that holds nothing yet
abbrev pub fresh : Ledger
fresh = ledger (replicate (limit * 6) 0) 0 0

-- the words of the rows held, six to a row
abbrev pub held_words : Ledger → List ℕ
held_words l = take (l.held * 6) l.words

-- 'over the row limit or holding a bad row'
unfoldable pub unfit : (words : List ℕ) (held : ℕ) → Bool
unfit words held = ltb limit held || any_below held (bad_row words)

-- 'closed because the edition is 4,294,967,295'
abbrev pub last_edition : ℕ
last_edition = 4294967295

-- 9 'ledger closed'; 10 'other edition'
unfoldable pub edition_refusal : (edition seen : ℕ) → Check
edition_refusal edition seen =
    refuse_if (eqb edition last_edition) (answer 9 0 0)
    then refuse_if (not (eqb seen edition)) (answer 10 0 0)

-- 23 a lent ledger that is unfit; 1, which the request does not name, where the list lent for the row has not six words, for then it has not the six
-- fields; 3 'bad row (3, row 0)', with its lowest bad field; 9 and 10; 2 '64 rows held'
unfoldable pub claim_refusal : Ledger → (row : List ℕ) (seen : ℕ) → Check
claim_refusal l row seen =
    refuse_if (unfit l.words l.held) (answer 23 0 0)
    then refuse_if (not (eqb (length row) 6)) (answer 1 0 0)
    then refuse_if (bad_row row 0) (answer 3 0 (bad_field row 0))
    then edition_refusal l.edition seen
    then refuse_if (eqb l.held limit) (answer 2 0 0)

-- 23; 9 and 10; 11 'no such row'
unfoldable pub withdrawal_refusal : Ledger → (k seen : ℕ) → Check
withdrawal_refusal l k seen =
    refuse_if (unfit l.words l.held) (answer 23 0 0)
    then edition_refusal l.edition seen
    then refuse_if (leb l.held k) (answer 11 0 0)

-- the ledger after a change to these rows: they stand from the first word on, what stood behind that stays, and 'the edition grows by one'
abbrev pub changed : Ledger → (rows : List ℕ) (held : ℕ) → Ledger
changed l rows held = ledger (rows ++ drop (length rows) l.words) held (l.edition + 1)

-- 'the row is added at the end'
abbrev pub with_row : Ledger → (row : List ℕ) → List ℕ
with_row l row = held_words l ++ row

-- the words of some rows without those of row k
abbrev pub row_out : (k : ℕ) → List ℕ → List ℕ
row_out k words = take (k * 6) words ++ drop (k * 6 + 6) words

-- 'takes the row out, closes the gap'
abbrev pub without_row : Ledger → (k : ℕ) → List ℕ
without_row l k = row_out k (held_words l)
