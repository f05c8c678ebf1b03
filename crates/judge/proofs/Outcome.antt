-- The promises of specs/Outcome are kept.
-- Assumes nothing.
use Rattle.std.specs.Prelude.{ℕ, ◌≤◌, ◌<◌, ◌≡◌, refl, ◌⊎◌, ◌↔◌, cond, Option, Some, None, Result, Ok, Err, List, length, eqb}
use Rattle.std.proofs.Math.Decide.{dec_lt}
use Rattle.std.proofs.Common.{arith, sym, ap, ◌∙◌, subst, inl, inr, ext_get_or, lit≤}
use Rattle.std.proofs.Math.Dec.{eqb_refl}
use Rattle.sums.specs.Columns.{at}
use Rattle.order.specs.Table.{Table}
use Rattle.order.specs.Orders.{key_at, own, above, below, PassesAt, FigureAt}
use Rattle.order.specs.Figures.{figure_one, figure_passes, figure_pos}
use Rattle.intake.specs.Words.{table_of}
use Rattle.intake.specs.Answer.{Answer, answer}
use Rattle.judge.specs.Judged.{judgement_answer, order_refusal, refusal, LateAt, ShownAt, Written, AllPassed, SomeLate}
use Rattle.intake.specs.Laws.{replied_one}
use Rattle.intake.specs.Told.{told_refusal, told_refusal_lem, not_refusal, Small, then_numbers, if_numbers, at_numbers, wider_small, number_has, told_one, replied_fine, table_small}
use Rattle.intake.specs.declared.Refusal.{Refusal}
use Rattle.judge.specs.Fine.{fine_order, some_bits, entry_row, place_of_lem}
use Rattle.judge.specs.Outcome.{OneJudgement, OneOutcome, PassedMeans, PassingAnswered, RefusedSmall, ZeroExactlyLate}

-- ---- an order that is answered

module _ (τ : Table) (order : List ℕ) where
  abbrev Verdict : Answer → Type 0
  Verdict a = AllPassed τ order a ⊎ SomeLate τ order a

  -- of two first late places neither is sooner
  not_sooner : {a a' : Answer} (x : SomeLate τ order a) (y : SomeLate τ order a') → x.place < y.place → ⊥
  not_sooner x y l = x.late (y.earlier x.place l)

  one_verdict : {a a' : Answer} → Verdict a → Verdict a' → a ≡ a'
  one_verdict (inl x) (inl y) = cc
  one_verdict (inl x) (inr y) = absurd (y.late (x.passing y.place y.inside))
  one_verdict (inr x) (inl y) = absurd (x.late (y.passing x.place x.inside))
  one_verdict (inr x) (inr y) = let e : x.place ≡ y.place = omega (arith, not_sooner x y, not_sooner y x) in cc

  only_passed : {a : Answer} → a.number ≡ 100 → Verdict a → AllPassed τ order a
  only_passed e (inl x) = x
  only_passed e (inr y) = absurd (omega (arith, ap (λ (r : Answer). r.number) y.says))

  says_passed : {a : Answer} → ((p : ℕ) → p < τ.n → PassesAt τ order p) → Verdict a → a ≡ answer 100 0 0
  says_passed h (inl x) = x.says
  says_passed h (inr y) = absurd (y.late (h y.place y.inside))

  pub not_late : (p : ℕ) {R : ℕ} → FigureAt τ order p R → LateAt τ order p → ⊥
  not_late p f late = late (figure_passes τ (own τ order p) (above τ order p) (below τ order p) f)

  one_shown : (p : ℕ) {R R' : ℕ} → ShownAt τ order p R → ShownAt τ order p R' → R ≡ R'
  one_shown p (inl f) (inl g) = figure_one _ _ _ f g
  one_shown p (inl f) (inr y) = absurd (not_late p f y.0)
  one_shown p (inr x) (inl g) = absurd (not_late p g x.0)
  one_shown p (inr x) (inr y) = x.1 ∙ sym y.1

  -- the band at a place has the row at that place, so its figure is at least 1
  not_zero : ((k : ℕ) → k < τ.n → 1 ≤ τ.C k) → (p : ℕ) → at order p < τ.n → {R : ℕ} → FigureAt τ order p R → 1 ≤ R
  not_zero some p l f = figure_pos τ (own τ order p) (above τ order p) (below τ order p) some (at order p) l (eqb_refl (key_at τ order p)) f

  pub zero_late : ((k : ℕ) → k < τ.n → 1 ≤ τ.C k) → (p : ℕ) → at order p < τ.n → {R : ℕ} → ShownAt τ order p R → (R ≡ 0) ↔ LateAt τ order p
  zero_late some p l (inl f) = ((λ z. absurd (omega (arith, not_zero some p l f))), (λ late. absurd (not_late p f late)))
  zero_late some p l (inr x) = ((λ _. x.0), (λ _. x.1))

  shown_figure : (p : ℕ) {R : ℕ} → PassesAt τ order p → ShownAt τ order p R → FigureAt τ order p R
  shown_figure p h (inl f) = f
  shown_figure p h (inr x) = absurd (x.0 h)

  -- every row stands at a place, so the words below n are settled too
  one_list : {before after after' : List ℕ} → ((k : ℕ) → k < τ.n → (p : ℕ) × (p < τ.n) × (at order p ≡ k))
      → Written τ order before after → Written τ order before after' → after ≡ after'
  one_list {before} {after} {after'} place w w' =
      ext_get_or 0 after after' (w.same_length ∙ sym w'.same_length) (λ i _. go i (dec_lt i τ.n))
    where
      go : (i : ℕ) → Dec (i < τ.n) → at after i ≡ at after' i
      go i (yes l) =
          let (p, inside, stands) = place i l in
          subst (λ (k : ℕ). at after k ≡ at after' k) stands (one_shown p (w.figures p inside) (w'.figures p inside))
      go i (no l) = w.beyond i (omega arith) ∙ sym (w'.beyond i (omega arith))

pub one_outcome : OneOutcome
one_outcome words order before after after' a a' j j' =
    replied_one j j' (λ e x y. (one_verdict (table_of words) order x.verdict y.verdict, one_list (table_of words) order (place_of_lem (fine_order words order (length before) e)) x.written y.written))

-- each case of the reply has an answer of its own
told : Answer → Result (Option ℕ) Refusal
told a = cond (eqb a.number 100) (Ok None) (cond (eqb a.number 101) (Ok (Some a.first)) (Err (told_refusal a)))

told_answer : (r : Result (Option ℕ) Refusal) → told (judgement_answer r) ≡ r
unfolding told
told_answer (Ok None) = refl
told_answer (Ok (Some p)) = refl
told_answer (Err r) = rw (not_refusal r 100 (lit≤ tt), not_refusal r 101 (lit≤ tt), told_refusal_lem r)

pub one_judgement : OneJudgement
one_judgement words order before after after' r r' j j' =
    let x = one_outcome words order before after after' (judgement_answer r) (judgement_answer r') j j' in
    (told_one judgement_answer told told_answer x.0, x.1)

pub zero_exactly_late : ZeroExactlyLate
zero_exactly_late words order before after a j e p l =
    let known = fine_order words order (length before) e in
    zero_late (table_of words) order (some_bits known) p (entry_row known p l) ((j.answering e).written.figures p l)

pub passing_answered : PassingAnswered
passing_answered words order before after a j e h =
    let known = fine_order words order (length before) e in
    says_passed (table_of words) order (λ p l. h p (omega arith)) (j.answering e).verdict

-- the checks of the table have numbers up to 4, and those of the order 5 to 7
seven : (words order : List ℕ) (room : ℕ) → Small 7 (refusal words order room)
unfolding order_refusal
seven words order room = then_numbers (wider_small (lit≤ tt) (table_small words room)) (search (then_numbers, if_numbers, at_numbers, lit≤) depth 8)

pub refused_small : RefusedSmall
refused_small words order room r e = number_has (seven words order room) e

pub passed_means : PassedMeans
passed_means words order before after a j is_100 =
    let e = replied_fine (seven words order (length before)) j (λ h. omega (arith, h.1, is_100)) in
    let known = fine_order words order (length before) e in
    let x = j.answering e in
    let all = only_passed (table_of words) order is_100 x.verdict in
    record {
      unrefused = e;
      known = known;
      passing = λ p l. all.passing p (omega arith);
      written = x.written;
      figures = λ p l. shown_figure (table_of words) order p (all.passing p l) (x.written.figures p l);
    }
