-- What C calls has one outcome too: a reply is no more than its three numbers. The promises come first, their proofs below.
-- Assumes nothing.
use Rattle.std.specs.Prelude.{ℕ, ◌≡◌, List}
use Rattle.std.proofs.Common.{ap}
use Rattle.intake.specs.Answer.{Answer, said}
use Rattle.intake.specs.declared.Reply.{Reply}
use Rattle.book.specs.Replies.{BookRead, BookWritten}
use Rattle.book.specs.Outcome.{one_read, one_written}
use Rattle.judge.specs.Judged.{Judged}
use Rattle.judge.proofs.Outcome.{one_outcome as one_judged}
use Rattle.finder.specs.Searched.{Searched}
use Rattle.finder.proofs.Outcome.{one_outcome as one_searched}
use Rattle.desk.specs.declared.Ledger.{Ledger}
use Rattle.desk.specs.Replies.{Claimed, Withdrawn}
use Rattle.desk.proofs.Outcome.{one_claim, one_withdrawal}

-- `telhavina_judge`: for any table, order and lent list, no two replies and no two lists afterwards
abbrev pub OneJudgeReply : Type 0
OneJudgeReply = (words order before after after' : List ℕ) (r r' : Reply)
    → Judged words order before after (said r) → Judged words order before after' (said r') → (r ≡ r') × (after ≡ after')

-- `telhavina_find`: the same
abbrev pub OneFindReply : Type 0
OneFindReply = (words before after after' : List ℕ) (r r' : Reply)
    → Searched words before after (said r) → Searched words before after' (said r') → (r ≡ r') × (after ≡ after')

-- `telhavina_book_read` and `telhavina_book_write`: the same
abbrev pub OneBookReadReply : Type 0
OneBookReadReply = (book before after after' : List ℕ) (r r' : Reply)
    → BookRead book before after (said r) → BookRead book before after' (said r') → (r ≡ r') × (after ≡ after')

abbrev pub OneBookWriteReply : Type 0
OneBookWriteReply = (words before after after' : List ℕ) (r r' : Reply)
    → BookWritten words before after (said r) → BookWritten words before after' (said r') → (r ≡ r') × (after ≡ after')

-- `telhavina_claim` and `telhavina_withdraw`: for any ledger, no two replies and no two ledgers afterwards
abbrev pub OneClaimReply : Type 0
OneClaimReply = (before : Ledger) (row : List ℕ) (seen : ℕ) (after after' : Ledger) (r r' : Reply)
    → Claimed before row seen after (said r) → Claimed before row seen after' (said r') → (r ≡ r') × (after ≡ after')

abbrev pub OneWithdrawReply : Type 0
OneWithdrawReply = (before : Ledger) (k seen : ℕ) (after after' : Ledger) (r r' : Reply)
    → Withdrawn before k seen after (said r) → Withdrawn before k seen after' (said r') → (r ≡ r') × (after ≡ after')

same_reply : (r r' : Reply) → said r ≡ said r' → r ≡ r'
same_reply r r' e = λ i. record { number = ap (λ (a : Answer). a.number) e i; first = ap (λ (a : Answer). a.first) e i; second = ap (λ (a : Answer). a.second) e i }

pub one_judge_reply : OneJudgeReply
one_judge_reply words order before after after' r r' j j' = let x = one_judged words order before after after' (said r) (said r') j j' in (same_reply r r' x.0, x.1)

pub one_find_reply : OneFindReply
one_find_reply words before after after' r r' j j' = let x = one_searched words before after after' (said r) (said r') j j' in (same_reply r r' x.0, x.1)

pub one_book_read_reply : OneBookReadReply
one_book_read_reply book before after after' r r' j j' = let x = one_read book before after after' (said r) (said r') j j' in (same_reply r r' x.0, x.1)

pub one_book_write_reply : OneBookWriteReply
one_book_write_reply words before after after' r r' j j' = let x = one_written words before after after' (said r) (said r') j j' in (same_reply r r' x.0, x.1)

pub one_claim_reply : OneClaimReply
one_claim_reply before row seen after after' r r' j j' = let x = one_claim before row seen after after' (said r) (said r') j j' in (same_reply r r' x.0, x.1)

pub one_withdraw_reply : OneWithdrawReply
one_withdraw_reply before k seen after after' r r' j j' = let x = one_withdrawal before k seen after after' (said r) (said r') j j' in (same_reply r r' x.0, x.1)
