-- Demand 3 at the claim desk, which 'speaks of one ledger between two changes, with queues empty at the start': whatever calls led to the ledger, for its
-- rows an order is found, the judge passes it, and on the bus every frame is sent within its figure and meets its deadline. The promises come first,
-- their proofs below.
-- Assumes nothing.
use Rattle.std.specs.Prelude.{ℕ, ◌*◌, ◌≤◌, ◌<◌, ◌≡◌, List, length, take}
use Rattle.std.proofs.Common.{arith, subst}
use Rattle.intake.specs.Words.{rows}
use Rattle.intake.specs.Answer.{Answer, answer}
use Rattle.intake.specs.Laws.{acceptable}
use Rattle.judge.specs.Judged.{Judged}
use Rattle.finder.specs.Searched.{Searched}
use Rattle.finder.proofs.Outcome.{found_exactly}
use Rattle.desk.specs.declared.Ledger.{Ledger}
use Rattle.desk.specs.Ledger.{fresh, held_words}
use Rattle.desk.proofs.Laws.{Fit, is_fit}
use Rattle.desk.proofs.HeldRows.{held_length, held_count, held_good}
use Rattle.desk.specs.History.{Entry, Calls}
use Rattle.desk.specs.Kept.{Kept}
use Rattle.desk.proofs.Kept.{after_any_calls}
use Rattle.promises.specs.Agreement.{found_is_passed}
use Rattle.promises.specs.Demand3.{KeepsFigures, MeetsDeadlines, found_is_kept, found_meets_deadlines}

-- An order for the rows held is found, in any list lent for it that has room.
abbrev pub LedgerHasOrder : Type 0
LedgerHasOrder = (past : List Entry) (l : Ledger) → Calls fresh past l → 0 < l.held
    → (before after : List ℕ) (a : Answer) → l.held ≤ length before → Searched (held_words l) before after a → a.number ≡ 102

-- With that order they are judged 'passed', and on the bus every frame is wholly sent no later than its figure after it was queued. (Any other order that
-- the judge passes keeps its figures too: `PassedIsKept` of Demand3.)
abbrev pub LedgerIsKept : Type 0
LedgerIsKept = (past : List Entry) (l : Ledger) → Calls fresh past l → 0 < l.held
    → (before after : List ℕ) (a : Answer) → l.held ≤ length before → Searched (held_words l) before after a
    → (figures figures' : List ℕ) (judged : Answer) → l.held ≤ length figures → Judged (held_words l) (take l.held after) figures figures' judged
    → (judged ≡ answer 100 0 0) × KeepsFigures (held_words l) (take l.held after) figures'

-- With that order, every frame is sent no later than its deadline after its event.
abbrev pub LedgerMeetsDeadlines : Type 0
LedgerMeetsDeadlines = (past : List Entry) (l : Ledger) → Calls fresh past l → 0 < l.held
    → (before after : List ℕ) (a : Answer) → l.held ≤ length before → Searched (held_words l) before after a → MeetsDeadlines (held_words l) (take l.held after)

module _ (past : List Entry) (l : Ledger) (calls : Calls fresh past l) where
  kept : Kept past l
  kept = after_any_calls past l calls

  held_fit : Fit l.words l.held
  held_fit = is_fit l.words l.held kept.held_fit

  words : l.held * 6 ≤ length l.words
  words = omega (arith, kept.whole, held_fit.few)

  count : rows (held_words l) ≡ l.held
  count = held_count l words

pub ledger_has_order : LedgerHasOrder
ledger_has_order past l calls some before after a roomy s =
    (found_exactly (held_words l) before after a s
    (acceptable (held_words l) (length before) (held_length l (words past l calls)) some (held_fit past l calls).few roomy (held_good l (words past l calls) (held_fit past l calls)))).1 ((kept past l calls).ordered some)

pub ledger_is_kept : LedgerIsKept
ledger_is_kept past l calls some before after a roomy s figures figures' judged room =
    subst (λ (n : ℕ). Judged (held_words l) (take n after) figures figures' judged → (judged ≡ answer 100 0 0) × KeepsFigures (held_words l) (take n after) figures') (count past l calls)
    (λ j. (
      found_is_passed (held_words l) before after figures figures' a judged s found (omega (arith, count past l calls)) j,
      found_is_kept (held_words l) before after a s found figures figures' judged (omega (arith, count past l calls)) j,
    ))
  where
    found : a.number ≡ 102
    found = ledger_has_order past l calls some before after a roomy s

pub ledger_meets_deadlines : LedgerMeetsDeadlines
ledger_meets_deadlines past l calls some before after a roomy s =
    subst (λ (n : ℕ). MeetsDeadlines (held_words l) (take n after)) (count past l calls) (found_meets_deadlines (held_words l) before after a s (ledger_has_order past l calls some before after a roomy s))
