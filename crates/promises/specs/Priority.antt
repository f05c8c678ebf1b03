-- The bands of an accepted table are those of document 01, and the figure of a priority row is by the text's own formula. The promises come first, their
-- proofs below.
-- Assumes nothing.
use Rattle.std.specs.Prelude.{ℕ, ◌+◌, ◌*◌, ◌≤◌, ◌<◌, max, ◌≡◌, ◌⊎◌, ◌↔◌, List, T as Is}
use Rattle.std.proofs.Common.{arith, sym, ap, ◌∙◌, inl, inr, eqb→eq}
use Rattle.std.proofs.Math.Dec.{eqb_refl}
use Rattle.sums.specs.Columns.{at}
use Rattle.sums.specs.Sums.{sum_over, ceil}
use Rattle.licence.specs.Row.{word}
use Rattle.licence.specs.Laws.{row_allowed, key_fifo, same_key}
use Rattle.order.specs.Table.{B, F}
use Rattle.order.specs.Orders.{own, above, below, key_at, FigureAt}
use Rattle.order.specs.Figures.{priority_F, priority_R}
use Rattle.intake.specs.Words.{rows, table_of}
use Rattle.intake.specs.Laws.{Accepted}
use Rattle.judge.specs.Fine.{Fine, entry_row}

-- Two rows of an accepted table are of one band exactly if they are one row, or stand in one FIFO: their queue word is the same, and not 0.
abbrev pub BandsAre : Type 0
BandsAre = (words : List ℕ) (room : ℕ) → Accepted words room → (i k : ℕ) → i < rows words → k < rows words
    → ((table_of words).key i ≡ (table_of words).key k) ↔ ((i ≡ k) ⊎ ((word words i 0 ≡ word words k 0) × (0 < word words i 0)))

-- the formula for a priority row m with these rows above and below: max(B, C of m) + the sum, over rows k above, of C of k times the rounded-up
-- quotient (w + J of k + 1) / T of k
abbrev pub priority_f : (words order : List ℕ) (p w : ℕ) → ℕ
priority_f words order p w =
    max (B (table_of words) (below (table_of words) order p)) ((table_of words).C (at order p))
    + sum_over (rows words) (above (table_of words) order p) (λ k. (table_of words).C k * ceil (w + (table_of words).J k + 1) ((table_of words).T k))

-- The figure of a priority row m is R = w + C of m for the least w with F(w) = w, and no more than E of m.
abbrev pub PriorityFigure : Type 0
PriorityFigure = (words order : List ℕ) (room : ℕ) → Fine words order room → (p : ℕ) → p < rows words → word words (at order p) 0 ≡ 0
    → (R : ℕ) → FigureAt (table_of words) order p R
    → (w : ℕ) × (priority_f words order p w ≡ w) × ((v : ℕ) → priority_f words order p v ≡ v → w ≤ v)
    × (R ≡ w + (table_of words).C (at order p)) × (R ≤ (table_of words).E (at order p))

pub bands_are : BandsAre
bands_are words room ok i k il kl = (
  (λ e. same_key (word words i 0) (word words k 0) i k (row_allowed words i (ok.good i il)).queue_le (row_allowed words k (ok.good k kl)).queue_le e),
  back,
)
  where
    back : (i ≡ k) ⊎ ((word words i 0 ≡ word words k 0) × (0 < word words i 0)) → (table_of words).key i ≡ (table_of words).key k
    back (inl e) = ap (table_of words).key e
    back (inr (e, l)) = key_fifo (word words i 0) i l ∙ (e ∙ sym (key_fifo (word words k 0) k (omega arith)))

pub priority_figure : PriorityFigure
priority_figure words order room known p inside is_0 R figure =
    let (w, least, is, within) = priority_R (table_of words) (own (table_of words) order p) m row mine alone (above (table_of words) order p) (below (table_of words) order p) R figure in
    (w, sym (formula w) ∙ least.solves, (λ v e. least.least v (formula v ∙ e)), is, within)
  where
    m : ℕ
    m = at order p

    row : m < rows words
    row = entry_row known p inside

    mine : Is (own (table_of words) order p m)
    mine = eqb_refl (key_at (table_of words) order p)

    alone : (k : ℕ) → k < rows words → Is (own (table_of words) order p k) → k ≡ m
    alone k l h = elim ((bands_are words room known.accepted k m l row).0 (eqb→eq ((table_of words).key k) ((table_of words).key m) h)) [
      | inl e ↦ e
      | inr (e, pos) ↦ absurd (omega arith)
    ]

    formula : (w : ℕ) → F (table_of words) (own (table_of words) order p) (above (table_of words) order p) (below (table_of words) order p) w ≡ priority_f words order p w
    formula = priority_F (table_of words) (own (table_of words) order p) m row mine alone (above (table_of words) order p) (below (table_of words) order p)
