-- Calls at a desk one after the other, and what their replies say that the ledger holds. Definitions only.
-- Assumes nothing.
use Rattle.std.specs.Prelude.{ℕ, suc, ◌+◌, ◌≡◌, Bool, cond, List, [], ◌∷◌, ◌++◌, length, take, drop, eqb}
use Rattle.intake.specs.Answer.{Answer}
use Rattle.desk.specs.Replies.{Claimed, Withdrawn}
use Rattle.desk.specs.declared.Ledger.{Ledger}

-- what is asked: a claim of a row or a withdrawal of row k, by one who saw an edition
pub data Call : Type 0 where
  claiming : (row : List ℕ) (seen : ℕ) → Call
  withdrawing : (k seen : ℕ) → Call

-- the desk serves a call: its reply, and the ledger before and after
abbrev pub Serves : Call → (before after : Ledger) (a : Answer) → Type 0
Serves (claiming row seen) before after a = Claimed before row seen after a
Serves (withdrawing k seen) before after a = Withdrawn before k seen after a

-- a call and its reply
pub record Entry : Type 0 where
  pub call : Call
  pub reply : Answer

-- any calls on a ledger, the latest first, and the ledger after them
pub data Calls (start : Ledger) : List Entry → Ledger → Type 0 where
  no_call : {l : Ledger} → l ≡ start → Calls start [] l
  next_call : {past : List Entry} {before after : Ledger} (x : Entry) → Calls start past before → Serves x.call before after x.reply → Calls start (x ∷ past) after

-- the rows without row k
abbrev pub without : {A : Type 0} → ℕ → List A → List A
without k rows = take k rows ++ drop (suc k) rows

-- a reply that tells of a change: granted or withdrawn
abbrev pub changes : Call → Answer → Bool
changes (claiming row seen) a = eqb a.number 105
changes (withdrawing k seen) a = eqb a.number 106

-- the rows after a change: a row granted comes last, and a row withdrawn goes out
abbrev pub changed_by : Call → List (List ℕ) → List (List ℕ)
changed_by (claiming row seen) rows = rows ++ (row ∷ [])
changed_by (withdrawing k seen) rows = without k rows

-- 'the granted rows less the withdrawn, in order', by the calls and their replies alone
unfoldable pub standing : List Entry → List (List ℕ)
standing [] = []
standing (x ∷ past) = cond (changes x.call x.reply) (changed_by x.call (standing past)) (standing past)

-- how many changes there were
unfoldable pub change_count : List Entry → ℕ
change_count [] = 0
change_count (x ∷ past) = change_count past + cond (changes x.call x.reply) 1 0

-- the words of some rows, one behind the other
unfoldable pub flat : List (List ℕ) → List ℕ
flat [] = []
flat (row ∷ rows) = row ++ flat rows

-- each row has six words, so that those of row i can be told
abbrev pub Sixes : List (List ℕ) → Type 0
Sixes [] = Unit {0}
Sixes (row ∷ rows) = (length row ≡ 6) × Sixes rows
