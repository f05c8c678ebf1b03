-- `desk::Ledger::check_claim` meets its contract: the checks run in the order of `claim_refusal`. Assumes nothing.
use Rattle.std.proofs.Common.{rules}
use Prim.Native.Nat.{ℕ}
use mathlib.Core.Path.{◌≡◌, sym, ap, ◌∙◌}
use mathlib.Core.Bool.{false}
use lib.ListN.{length}
use Rattle.licence.specs.Limit.{limit}
use Rattle.licence.specs.Row.{bad_field}
use Rattle.licence.specs.Laws.{read_good, read_bad}
use Rattle.intake.specs.Answer.{answer, refused, fine}
use Rattle.desk.specs.Ledger.{unfit, edition_refusal}
use Rattle.desk.proofs.Laws.{check_passed, claim_23, claim_1, claim_3, claim_edition, claim_2, claim_none}
use Rattle.desk.proofs.Ledger.check_claim.Goals as goal
use Rattle.desk.proofs.Ledger.check_claim.Goals.{In_ok-check_edition}

-- what is known of a claim of the ledger's edition
known : (c : In_ok-check_edition) → let l = c.args.self.now in (unfit l.words l.held ≡ false) × (length c.args.row.now ≡ 6) × (bad_field c.args.row.now 0 ≡ 0) × (edition_refusal l.edition c.args.seen ≡ fine)
known c = (
  sym c.unfit.ensures ∙ c.if-unfit.false,
  c.if-row-ne6.false,
  (read_good _ 0 (sym c.read_row.ensures ∙ c.in_default.is)).0,
  check_passed c.check_edition.ensures c.in_ok-check_edition.was,
)

pub returns-then-unfit : goal.returns-then-unfit
returns-then-unfit c = claim_23 _ _ _ (sym c.unfit.ensures ∙ c.if-unfit.true)

pub returns-then-row-ne6 : goal.returns-then-row-ne6
returns-then-row-ne6 c = claim_1 _ _ _ (sym c.unfit.ensures ∙ c.if-unfit.false) c.if-row-ne6.true

pub returns-in-Err : goal.returns-in-Err
returns-in-Err c =
    let bad = read_bad c.args.row.now 0 (sym c.read_row.ensures ∙ c.in-Err.is) in
    claim_3 _ _ _ (sym c.unfit.ensures ∙ c.if-unfit.false) c.if-row-ne6.false bad.0 ∙ ap (λ (f : ℕ). refused (answer 3 0 f)) (sym (c.from.ensures ∙ bad.1))

-- the edition's check is not fine, and neither is the claim's
pub returns-in_err-check_edition : goal.returns-in_err-check_edition
returns-in_err-check_edition c =
    let good = (read_good _ 0 (sym c.read_row.ensures ∙ c.in_default.is)).0 in
    let h = claim_edition c.args.self.now c.args.row.now c.args.seen (sym c.unfit.ensures ∙ c.if-unfit.false) c.if-row-ne6.false good (c.in_err-check_edition.ensures {u = tt}) in
    search (rules, h)

pub returns-then-self-eq-LIMIT : goal.returns-then-self-eq-LIMIT
unfolding limit
returns-then-self-eq-LIMIT c = let (a, six, good, current) = known (goal.at.returns-then-self-eq-LIMIT c).In_ok-check_edition in claim_2 _ _ _ a six good current c.if-self-eq-LIMIT.true

pub returns : goal.returns
unfolding limit
returns c = let (a, six, good, current) = known (goal.at.returns c).In_ok-check_edition in claim_none _ _ _ a six good current c.if-self-eq-LIMIT.false
