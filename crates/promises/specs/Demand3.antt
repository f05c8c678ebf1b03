-- Demand 3, as the customer puts it: on a bus with an accepted table and order, every frame is wholly sent no later than its figure after it was
-- queued, whatever the others do within their licences. And so it meets its deadline. The promises come first, their proofs below.
-- Assumes nothing.
use Rattle.std.specs.Prelude.{ℕ, ◌+◌, ◌≤◌, ◌<◌, ◌≡◌, List, length, take, T as Is}
use Rattle.std.proofs.Common.{le_refl, arith, ap, sym, subst}
use Rattle.sums.specs.Columns.{at}
use Rattle.sums.specs.Sums.{max_over}
use Rattle.sums.specs.Laws.{min_le}
use Rattle.licence.specs.Row.{row_at}
use Rattle.licence.specs.Laws.{row_allowed}
use Rattle.order.specs.Orders.{own, above, below, FigureAt, AllPass}
use Rattle.order.specs.Figures.{passes_figure}
use Rattle.order.specs.Bands.{band_intro}
use Rattle.bus.specs.Model.{Frame, Run, ◌∈◌, during, SentAt, SentBy, Legal, Sane}
use Rattle.bus.proofs.Kept.{kept}
use Rattle.intake.specs.Words.{rows, table_of}
use Rattle.intake.specs.Answer.{Answer}
use Rattle.judge.specs.Judged.{Judged}
use Rattle.judge.specs.Fine.{Fine, place_of_lem}
use Rattle.judge.proofs.Outcome.{passed_means}
use Rattle.finder.specs.Searched.{Searched}
use Rattle.promises.specs.Agreement.{found_fine, found_is_passed}

-- On the bus with this table and order: in every legal run, each frame queued at q is wholly sent no later than q and the figure of its row, if the
-- run lasts that long.
abbrev pub KeepsFigures : (words order figures : List ℕ) → Type 0
KeepsFigures words order figures = (run : Run) → Legal (table_of words) run → (q : ℕ) (f : Frame) → f ∈ during run q
    → q + at figures f.row ≤ length run → SentBy (table_of words) order run f (q + at figures f.row)

-- What the judge answers 'passed' keeps the figures that stand in the lent list afterwards.
abbrev pub PassedIsKept : Type 0
PassedIsKept = (words order before after : List ℕ) (a : Answer) → Judged words order before after a → a.number ≡ 100 → KeepsFigures words order after

-- An order that was found keeps its figures: those that the judge gives for it, in any list lent for them that has room.
abbrev pub FoundIsKept : Type 0
FoundIsKept = (words before after : List ℕ) (a : Answer) → Searched words before after a → a.number ≡ 102
    → (figures figures' : List ℕ) (judged : Answer) → rows words ≤ length figures → Judged words (take (rows words) after) figures figures' judged
    → KeepsFigures words (take (rows words) after) figures'

-- Each frame is wholly sent, at a time e, no later than its deadline after its event (which lies its wait before q), if the run lasts until the time
-- allowed after queuing is over.
abbrev pub MeetsDeadlines : (words order : List ℕ) → Type 0
MeetsDeadlines words order = (run : Run) → Legal (table_of words) run → (q : ℕ) (f : Frame) → f ∈ during run q
    → q + (table_of words).E f.row ≤ length run → (e : ℕ) × (e + f.wait ≤ q + (row_at words f.row).deadline) × SentAt (table_of words) order run f e

abbrev pub PassedMeetsDeadlines : Type 0
PassedMeetsDeadlines = (words order before after : List ℕ) (a : Answer) → Judged words order before after a → a.number ≡ 100 → MeetsDeadlines words order

abbrev pub FoundMeetsDeadlines : Type 0
FoundMeetsDeadlines = (words before after : List ℕ) (a : Answer) → Searched words before after a → a.number ≡ 102 → MeetsDeadlines words (take (rows words) after)

module _ {words order : List ℕ} {room : ℕ} (known : Fine words order room) where
  -- the numbers of an accepted table are as the bus needs them
  pub accepted_sane : Sane (table_of words)
  accepted_sane = record {
    period = λ k l. (row_allowed words k (known.accepted.good k l)).period_pos;
    some_bits = λ k l. (row_allowed words k (known.accepted.good k l)).length_pos;
    within = λ k l. let r = row_allowed words k (known.accepted.good k l) in omega (arith, r.deadline_le, r.jitter_le);
  }

  -- the row at a place is of the band there
  own_row : (p k : ℕ) → at order p ≡ k → Is (own (table_of words) order p k)
  own_row p k stands = band_intro (table_of words) ((table_of words).key (at order p)) k (ap (table_of words).key (sym stands))

  -- a row's figure is kept
  row_kept : (run : Run) → Legal (table_of words) run → (p R : ℕ) → p < rows words → FigureAt (table_of words) order p R
      → (q : ℕ) (f : Frame) → f ∈ during run q → at order p ≡ f.row → q + R ≤ length run → SentBy (table_of words) order run f (q + R)
  row_kept run legal p R inside figure q f m stands long =
      kept (table_of words) accepted_sane order known.order known.together run legal p R (omega (arith, known.count)) figure q f m
      (own_row p f.row stands) long

  passing_meets : AllPass (table_of words) order → MeetsDeadlines words order
  passing_meets passing run legal q f m long =
      let ok = legal.licensed q f m in
      let (p, inside, stands) = place_of_lem known f.row ok.row_is in
      let (R, figure) = passes_figure (table_of words) (own (table_of words) order p) (above (table_of words) order p) (below (table_of words) order p) (passing p (omega (arith, known.count))) in
      let allowed = min_le (max_over (rows words) (own (table_of words) order p) (table_of words).E) (own (table_of words) order p) (table_of words).E (rows words) f.row ok.row_is (own_row p f.row stands) in
      let (e, soon, there) = row_kept run legal p R inside figure q f m stands (omega (arith, figure.within)) in
      let r = row_allowed words f.row (known.accepted.good f.row ok.row_is) in
      (e, omega (arith, soon, figure.within, ok.wait_most, r.jitter_le), there)

pub passed_is_kept : PassedIsKept
passed_is_kept words order before after a j is_100 run legal q f m long =
    let x = passed_means words order before after a j is_100 in
    let (p, inside, stands) = place_of_lem x.known f.row (legal.licensed q f m).row_is in
    row_kept x.known run legal p (at after f.row) inside (subst (λ (k : ℕ). FigureAt (table_of words) order p (at after k)) stands (x.figures p inside)) q f m stands long

pub found_is_kept : FoundIsKept
found_is_kept words before after a s is_102 figures figures' judged room j =
    passed_is_kept words (take (rows words) after) figures figures' judged j (ap (λ (x : Answer). x.number) (found_is_passed words before after figures figures' a judged s is_102 room j))

pub passed_meets_deadlines : PassedMeetsDeadlines
passed_meets_deadlines words order before after a j is_100 = let x = passed_means words order before after a j is_100 in passing_meets x.known x.passing

pub found_meets_deadlines : FoundMeetsDeadlines
found_meets_deadlines words before after a s is_102 = let x = found_fine words before after a s is_102 in passing_meets (x.known (rows words) (le_refl (rows words))) x.passing
