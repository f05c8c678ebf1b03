-- The promises of specs/Kept are kept: what a ledger keeps, it keeps through any call, and so through any calls.
-- Assumes nothing.
use Rattle.std.specs.Prelude.{ℕ, ◌+◌, ◌-◌, ◌*◌, ◌≤◌, ◌<◌, ◌≡◌, refl, true, false, take, drop, replicate}
use Rattle.std.proofs.Common.{arith, ap, ◌∙◌, length-append, length-drop, take_at, eq-eqb, ne_eqb}
use Rattle.std.proofs.Math.Path.{sym, subst}
use mathlib.Core.List.{List, [], ◌∷◌, ◌++◌}
use Rattle.std.proofs.Math.ListN.{length}
use Rattle.std.proofs.lemmas.List.{length-replicate}
use Rattle.licence.specs.Limit.{limit}
use Rattle.licence.specs.Row.{bad_field}
use Rattle.licence.specs.Laws.{same_field}
use Rattle.order.specs.Orders.{HasOrder}
use Rattle.intake.specs.Words.{table_of}
use Rattle.intake.specs.Answer.{Answer}
use Rattle.desk.specs.Ledger.{fresh, held_words, changed, with_row, without_row}
use Rattle.desk.proofs.Laws.{fit}
use Rattle.desk.proofs.HeldRows.{held_length, held_row, held_good, with_length, with_good, out_length}
use Rattle.desk.proofs.Turns.{ClaimTurn, refused_claim, granted_claim, claim_turn, claim_small, WithdrawalTurn, refused_withdrawal, done_withdrawal, withdrawal_turn, withdrawal_small}
use Rattle.desk.proofs.Outcome.{claim_right}
use Rattle.desk.proofs.Leaving.{still_good, still_ordered}
use Rattle.desk.specs.History.{Call, claiming, withdrawing, Serves, Entry, Calls, no_call, next_call, changes, changed_by, standing, change_count, flat, Sixes}
use Rattle.desk.specs.Flat.{sixes_append, sixes_without, flat_last, flat_without, length_without}
use Rattle.desk.specs.declared.Ledger.{Ledger}
use Rattle.desk.specs.Kept.{AfterAnyCalls, Kept, OneGrant}

-- ---- one call more

kept_fresh : Kept [] fresh
unfolding standing change_count flat
kept_fresh = record { whole = length-replicate (limit * 6) 0; sixes = tt; in_order = refl; count = refl; edition = refl; held_fit = fit (replicate (limit * 6) 0) 0 (omega arith) (λ i b. absurd (omega arith)); ordered = λ h. absurd (omega arith) }

-- a change keeps the number of words, and holds what it was made with
module _ (l : Ledger) (words : List ℕ) (n : ℕ) (long : length words ≡ n * 6) (fits : length words ≤ length l.words) where
  changed_length : length (changed l words n).words ≡ length l.words
  changed_length = omega (arith, length-append words (drop (length words) l.words), length-drop (length words) l.words)

  changed_holds : held_words (changed l words n) ≡ words
  changed_holds = take_at words (drop (length words) l.words) (n * 6) long

module _ (past : List Entry) (l : Ledger) (s : Kept past l) where
  -- a reply that tells of no change, and the ledger as it was
  not_changed : (x : Entry) {after : Ledger} → after ≡ l → changes x.call x.reply ≡ false → Kept (x ∷ past) after
  unfolding standing change_count
  not_changed x same e =
      rw (same)
      (record {
        in_order = rw e s.in_order;
        sixes = rw e s.sixes;
        count = rw e s.count;
        edition = rw e (omega (arith, s.edition));
        ordered = s.ordered;
        held_fit = s.held_fit;
        whole = s.whole;
      })

  -- a reply that tells of a change, and the ledger changed to the words of the rows that then stand
  made : (x : Entry) {after : Ledger} → changes x.call x.reply ≡ true → (words : List ℕ) (n : ℕ) → after ≡ changed l words n → length words ≡ n * 6 → n ≤ limit
      → words ≡ flat (changed_by x.call (standing past)) → Sixes (changed_by x.call (standing past)) → n ≡ length (changed_by x.call (standing past))
      → ((i : ℕ) → i < n → bad_field words i ≡ 0) → (0 < n → HasOrder (table_of words)) → Kept (x ∷ past) after
  unfolding standing change_count
  made x e words n is long few in_order sixes count good ordered =
      let fits : length words ≤ length l.words = omega (arith, s.whole) in
      let holds = changed_holds l words n long fits in
      rw (is)
      (record {
        in_order = rw e (holds ∙ in_order);
        sixes = rw e sixes;
        count = rw e count;
        edition = rw e (ap (λ (n : ℕ). n + 1) s.edition);
        ordered = λ h. subst (λ (w : List ℕ). HasOrder (table_of w)) (sym holds) (ordered h);
        held_fit = fit (changed l words n).words n few (λ i b. sym (same_field (held_words (changed l words n)) i (changed l words n).words i (held_row (changed l words n) (omega (arith, changed_length l words n long fits)) i b)) ∙ (ap (λ (w : List ℕ). bad_field w i) holds ∙ good i b));
        whole = changed_length l words n long fits ∙ s.whole;
      })

  kept_claim : (row : List ℕ) (seen : ℕ) (a : Answer) {after : Ledger} → ClaimTurn l row seen after a → Kept (record { call = claiming row seen; reply = a } ∷ past) after
  kept_claim row seen a (refused_claim same n) = not_changed _ same (ne_eqb a.number 105 (λ e. omega (arith, claim_small n)))
  kept_claim row seen a (granted_claim {o} {t} e is c f) =
      let words : l.held * 6 ≤ length l.words = omega (arith, s.whole, c.room) in
      let right = claim_right l row seen s.whole c f in
      made _ (eq-eqb a.number 105 (ap (λ (y : Answer). y.number) e)) (with_row l row) (l.held + 1) is (with_length l row words c.six) (omega (arith, c.room))
      (ap (λ (r : List ℕ). r ++ row) s.in_order ∙ sym (flat_last (standing past) row)) (sixes_append (standing past) (row ∷ []) s.sixes (c.six, tt))
      (omega (arith, s.count, length-append (standing past) (row ∷ []))) (with_good l row words c.six c.held_fit c.good) (λ h. (o, right.order, right.together, right.passing))

  kept_withdrawal : (k seen : ℕ) (a : Answer) {after : Ledger} → WithdrawalTurn l k seen after a → Kept (record { call = withdrawing k seen; reply = a } ∷ past) after
  kept_withdrawal k seen a (refused_withdrawal same n) = not_changed _ same (ne_eqb a.number 106 (λ e. omega (arith, withdrawal_small n)))
  kept_withdrawal k seen a (done_withdrawal e is w) =
      let words : l.held * 6 ≤ length l.words = omega (arith, s.whole, w.held_fit.few) in
      made _ (eq-eqb a.number 106 (ap (λ (y : Answer). y.number) e)) (without_row l k) (l.held - 1) is (out_length (held_words l) l.held k w.there (held_length l words)) (omega (arith, w.held_fit.few))
      (ap (λ (r : List ℕ). take (k * 6) r ++ drop (k * 6 + 6) r) s.in_order ∙ flat_without k (standing past) s.sixes) (sixes_without k (standing past) s.sixes)
      (omega (arith, s.count, length_without k (standing past) s.sixes (omega (arith, s.count, w.there)))) (still_good (held_words l) l.held k w.there (held_length l words) (held_good l words w.held_fit))
      (λ h. still_ordered (held_words l) l.held k w.there (held_length l words) (held_good l words w.held_fit) (s.ordered (omega (arith, w.there))))

pub after_any_calls : AfterAnyCalls
after_any_calls past l (no_call e) = rw e kept_fresh
after_any_calls past l (next_call {past = earlier} {before = before} x rest served) = go x.call x.reply served (after_any_calls earlier before rest)
  where
    go : (c : Call) (a : Answer) → Serves c before l a → Kept earlier before → Kept (record { call = c; reply = a } ∷ earlier) l
    go (claiming row seen) a h s = kept_claim earlier before s row seen a (claim_turn before row seen l a h)
    go (withdrawing k seen) a h s = kept_withdrawal earlier before s k seen a (withdrawal_turn before k seen l a h)

-- ---- editions

-- an edition never falls
claim_edition : {l : Ledger} {row : List ℕ} {seen : ℕ} {after : Ledger} {a : Answer} → ClaimTurn l row seen after a → l.edition ≤ after.edition
claim_edition (refused_claim same n) = omega (arith, ap (λ (x : Ledger). x.edition) same)
claim_edition (granted_claim e is c f) = omega (arith, ap (λ (x : Ledger). x.edition) is)

withdrawal_edition : {l : Ledger} {k seen : ℕ} {after : Ledger} {a : Answer} → WithdrawalTurn l k seen after a → l.edition ≤ after.edition
withdrawal_edition (refused_withdrawal same n) = omega (arith, ap (λ (x : Ledger). x.edition) same)
withdrawal_edition (done_withdrawal e is w) = omega (arith, ap (λ (x : Ledger). x.edition) is)

edition_grows : {start : Ledger} {past : List Entry} {l : Ledger} → Calls start past l → start.edition ≤ l.edition
edition_grows (no_call e) = omega (arith, ap (λ (x : Ledger). x.edition) e)
edition_grows {start} (next_call {past} {before} {after} x rest served) = go x.call x.reply served (edition_grows rest)
  where
    go : (c : Call) (a : Answer) → Serves c before after a → start.edition ≤ before.edition → start.edition ≤ after.edition
    go (claiming row seen) a h b = omega (arith, claim_edition (claim_turn before row seen after a h))
    go (withdrawing k seen) a h b = omega (arith, withdrawal_edition (withdrawal_turn before k seen after a h))

-- a claim that is granted is for the ledger's edition, which it raises
granted_edition : {l : Ledger} {row : List ℕ} {seen : ℕ} {after : Ledger} {a : Answer} → a.number ≡ 105 → ClaimTurn l row seen after a → (seen ≡ l.edition) × (after.edition ≡ seen + 1)
granted_edition n (refused_claim same z) = absurd (omega (arith, claim_small z))
granted_edition n (granted_claim e is c f) = (c.edition_open.current, omega (arith, ap (λ (x : Ledger). x.edition) is, c.edition_open.current))

pub one_grant : OneGrant
one_grant row row' seen first second third fourth a a' between x calls y n n' =
    omega (arith, (granted_edition n (claim_turn first row seen second a x)).1, edition_grows calls, (granted_edition n' (claim_turn third row' seen fourth a' y)).0)
