-- The story of specs/LastRoom is what a fresh desk replies, by one computed test. Assumes nothing.
use Rattle.std.specs.Prelude.{ℕ, suc, ◌+◌, ◌-◌, ◌≡◌, refl, Bool, true, false, ◌&&◌, List, [], ◌∷◌, T as Is}
use Rattle.std.proofs.Common.{sym, ap, ◌∙◌}
use Rattle.std.proofs.Math.Decide.{ℕ_discrete, dec_le}
use Rattle.sums.specs.Masks.{any_below, or_else, lowest}
use Rattle.sums.specs.Sums.{over, ceil, load, demand}
use Rattle.sums.specs.MaskLaws.{and_left, and_right}
use Rattle.licence.specs.Limit.{limit}
use Rattle.licence.specs.Row.{size_allowed, first_bad, bad_field, bit_times, band_key}
use Rattle.order.specs.Table.{base}
use Rattle.order.specs.Orders.{mem}
use Rattle.intake.specs.Words.{rows, table_of}
use Rattle.intake.specs.Answer.{Answer, answer, Check, refused, fine}
use Rattle.intake.specs.Laws.{replied_refused, replied_answered}
use Rattle.finder.specs.Placing.{Ending, found, none, rising, leads, free, Finds}
use Rattle.desk.specs.declared.Ledger.{Ledger}
use Rattle.desk.specs.Ledger.{fresh, unfit, edition_refusal, claim_refusal, withdrawal_refusal, changed, with_row, without_row}
use Rattle.desk.specs.Replies.{Told}
use Rattle.desk.specs.History.{Call, claiming, withdrawing, Serves, Entry, Calls, no_call, next_call}
use Rattle.promises.specs.Reckon.{climb, reckon, same_answer, same_answer_is}
use Rattle.promises.specs.Worked.{Ended, ended, goes_on, follow}
use Rattle.promises.specs.LastRoom.{LastRoom, last_room}

-- ---- one computed test, and the lemma that what passes it is a history

-- what is replied where no check refuses
abbrev settled : Ledger → Ending → Answer
settled l (found o t) = answer 105 (l.edition + 1) 0
settled l (none u t) = answer 8 u t

-- the reply to a claim and the ledger after it
abbrev claims : (l : Ledger) (row : List ℕ) → Check → (x : Ended (table_of (with_row l row)) [] 0) → Answer → Bool
claims l row (refused r) x a = same_answer a r
claims l row fine (ended r f) a = same_answer a (settled l r)
claims l row fine goes_on a = false

abbrev claimed : (l : Ledger) (row : List ℕ) → Check → (x : Ended (table_of (with_row l row)) [] 0) → Ledger
claimed l row (refused r) x = l
claimed l row fine (ended (found o t) f) = changed l (with_row l row) (l.held + 1)
claimed l row fine (ended (none u t) f) = l
claimed l row fine goes_on = l

abbrev withdraws : Ledger → Check → Answer → Bool
withdraws l (refused r) a = same_answer a r
withdraws l fine a = same_answer a (answer 106 (l.edition + 1) 0)

abbrev withdrawn : (l : Ledger) (k : ℕ) → Check → Ledger
withdrawn l k (refused r) = l
withdrawn l k fine = changed l (without_row l k) (l.held - 1)

abbrev tried : (l : Ledger) (row : List ℕ) → Ended (table_of (with_row l row)) [] 0
tried l row = follow (table_of (with_row l row)) (suc (rows (with_row l row))) [] 0

abbrev pub test : Call → Ledger → Answer → Bool
test (claiming row seen) l a = claims l row (claim_refusal l row seen) (tried l row) a
test (withdrawing k seen) l a = withdraws l (withdrawal_refusal l k seen) a

abbrev turns : Call → Ledger → Ledger
turns (claiming row seen) l = claimed l row (claim_refusal l row seen) (tried l row)
turns (withdrawing k seen) l = withdrawn l k (withdrawal_refusal l k seen)

pub right : (c : Call) (l : Ledger) (a : Answer) → Is (test c l a) → Serves c l (turns c l) a
right (claiming row seen) l a h = go (claim_refusal l row seen) refl (tried l row) h
  where
    told : (r : Ending) → a ≡ settled l r → (f : Finds (table_of (with_row l row)) free [] 0 r) → Told l row r (claimed l row fine (ended r f)) a
    told (found o t) e f = (e, refl)
    told (none u t) e f = (e, refl)

    go : (c : Check) → claim_refusal l row seen ≡ c → (x : Ended (table_of (with_row l row)) [] 0) → Is (claims l row c x a) → Serves (claiming row seen) l (claimed l row c x) a
    go (refused r) e x t = replied_refused (e ∙ ap refused (sym (same_answer_is a r t)))
    go fine e (ended r f) t = replied_answered e (record { ending = r; follows = f; told = told r (same_answer_is a (settled l r) t) f })
    go fine e goes_on t = absurd t
right (withdrawing k seen) l a h = go (withdrawal_refusal l k seen) refl h
  where
    go : (c : Check) → withdrawal_refusal l k seen ≡ c → Is (withdraws l c a) → Serves (withdrawing k seen) l (withdrawn l k c) a
    go (refused r) e t = replied_refused (e ∙ ap refused (sym (same_answer_is a r t)))
    go fine e t = replied_answered e (same_answer_is a (answer 106 (l.edition + 1) 0) t, refl)

abbrev ledger_after : List Entry → Ledger
ledger_after [] = fresh
ledger_after (x ∷ past) = turns x.call (ledger_after past)

abbrev test_all : List Entry → Bool
test_all [] = true
test_all (x ∷ past) = test x.call (ledger_after past) x.reply && test_all past

history : (past : List Entry) → Is (test_all past) → Calls fresh past (ledger_after past)
history [] h = no_call refl
history (x ∷ past) h =
    next_call {before = ledger_after past} x (history past (and_right (test x.call (ledger_after past) x.reply) (test_all past) h))
    (right x.call (ledger_after past) x.reply (and_left (test x.call (ledger_after past) x.reply) (test_all past) h))

pub last_room_lem : LastRoom
unfolding claim_refusal withdrawal_refusal edition_refusal unfit limit bad_field first_bad size_allowed lowest or_else any_below band_key bit_times mem base demand over load ceil reckon climb dec_le ℕ_discrete follow leads rising
last_room_lem = (ledger_after last_room, history last_room tt)
