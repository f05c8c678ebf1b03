-- What holds after any calls, granted, refused and withdrawn in any mix: the ledger of a desk that was fresh holds the granted rows less the withdrawn,
-- in order, its edition is the number of changes, and an order for it exists; and of two claims for one edition at most one is granted. The promises
-- are here, their proofs in proofs/Kept.
-- Assumes nothing.
use Rattle.std.specs.Prelude.{ℕ, ◌<◌, ◌≡◌, false}
use mathlib.Core.List.{List}
use Rattle.std.proofs.Math.ListN.{length}
use Rattle.order.specs.Orders.{HasOrder}
use Rattle.intake.specs.Words.{table_of}
use Rattle.intake.specs.Answer.{Answer}
use Rattle.desk.specs.Ledger.{Whole, fresh, held_words, unfit}
use Rattle.desk.specs.Replies.{Claimed}
use Rattle.desk.specs.History.{Entry, Calls, standing, change_count, flat, Sixes}
use Rattle.desk.specs.declared.Ledger.{Ledger}

-- what is known of a ledger after these calls
pub record Kept (past : List Entry) (l : Ledger) : Type 0 where
  -- 'the ledger holds the granted rows less the withdrawn, in order'
  pub in_order : held_words l ≡ flat (standing past)
  pub sixes : Sixes (standing past)
  pub count : l.held ≡ length (standing past)
  -- the edition is the number of changes
  pub edition : l.edition ≡ change_count past
  -- 'and an order for it exists, if it holds any row'
  pub ordered : 0 < l.held → HasOrder (table_of (held_words l))
  -- 23 is never replied on it
  pub held_fit : unfit l.words l.held ≡ false
  pub whole : Whole l

-- After any calls on a fresh ledger.
abbrev pub AfterAnyCalls : Type 0
AfterAnyCalls = (past : List Entry) (l : Ledger) → Calls fresh past l → Kept past l

-- On any ledger, of two claims for one edition at most one is granted, whatever calls stand between them.
abbrev pub OneGrant : Type 0
OneGrant = (row row' : List ℕ) (seen : ℕ) (first second third fourth : Ledger) (a a' : Answer) (between : List Entry)
    → Claimed first row seen second a → Calls second between third → Claimed third row' seen fourth a' → a.number ≡ 105 → a'.number ≡ 105 → ⊥
