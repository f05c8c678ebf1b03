-- What is judged over columns holds of the words that they were read from. Assumes nothing.
use Prim.Native.Nat.{ℕ, suc, ◌-◌, ◌<◌}
use native.Mathlib.Omega.{arith}
use mathlib.Core.Path.{◌≡◌, refl, sym, ap, ap₂, subst, ◌∙◌}
use mathlib.Core.Logic.{◌⊎◌, inl, inr}
use mathlib.Core.Bool.{Bool, not, ◌&&◌}
use mathlib.Core.List.{List}
use lib.ListN.{length, take, drop}
use lib.Dec.{eqb}
use Rattle.sums.specs.Masks.{Place, at, nowhere, lowest}
use Rattle.sums.specs.MaskLaws.{any_same, lowest_same, none_lowest}
use Rattle.sums.specs.Columns.{at as entry}
use Rattle.sums.specs.Least.{Fits}
use Rattle.order.specs.Table.{Table, MIN, least_e, F, FigureIs}
use Rattle.order.specs.Orders.{bad_entry, resumes, own, above, below, mem}
use Rattle.order.specs.Sheet.{sheet}
use Rattle.order.specs.Same.{same}
use Rattle.order.specs.Split.{entry_range}
use Rattle.intake.specs.Words.{rows, table_of}
use Rattle.intake.specs.Answer.{Answer, answer, Check, fine, refuse_if, refuse_at, ◌then◌, Replied}
use Rattle.intake.specs.Laws.{then_fine, at_fine}
use Rattle.intake.specs.Holds.{Holds, TakenIn}
use Rattle.judge.specs.Judged.{order_refusal, Written, AllPassed, SomeLate, Answered, Judged}
use Rattle.judge.specs.Walk.{OrderJudged}

-- an order that no check refuses has no bad entry
fine_entries : (τ : Table) (o : List ℕ) → order_refusal τ o ≡ fine → lowest τ.n (bad_entry τ.n o) ≡ nowhere
unfolding order_refusal
fine_entries τ o q =
    let a = then_fine (refuse_if (not (eqb (length o) τ.n)) (answer 5 0 0)) _ q in
    at_fine _ _ (then_fine (refuse_at (lowest τ.n (bad_entry τ.n o)) (λ p. answer 6 p 0)) _ a.1).0

module _ (τ : Table) (c t j e key : List ℕ) (h : Holds τ τ.n c t j e key) (o : List ℕ) where
  abbrev σ : Table
  σ = sheet τ.n c t j e key

  module _ (range : (p : ℕ) → p < τ.n → entry o p < τ.n) where
    key_same : (p : ℕ) → p < τ.n → entry key (entry o p) ≡ τ.key (entry o p)
    key_same p l = h.is_key (entry o p) (range p l)

    resumes_same : (p : ℕ) → p < τ.n → resumes (entry key) o p ≡ resumes τ.key o p
    unfolding resumes
    resumes_same p l =
        ap₂ (λ (a b : Bool). a && not b)
        (any_same p _ _ (λ i b. ap₂ eqb (key_same i (omega arith)) (key_same p l)))
        (ap₂ eqb (key_same (p - 1) (omega arith)) (key_same p l))

    own_same : (p : ℕ) → p < τ.n → (k : ℕ) → k < τ.n → own σ o p k ≡ own τ o p k
    own_same p l k b = ap₂ eqb (h.is_key k b) (key_same p l)

    -- whatever holds of a band's F, MIN and least E over the columns holds over the table
    over_table : (p : ℕ) → p < τ.n → (P : (ℕ → ℕ) → ℕ → ℕ → Type 0) → P (F σ (own σ o p) (above σ o p) (below σ o p)) (MIN σ (own σ o p)) (least_e σ (own σ o p))
        → P (F τ (own τ o p) (above τ o p) (below τ o p)) (MIN τ (own τ o p)) (least_e τ (own τ o p))
    over_table p l P x =
        same τ.n (entry c) τ.C (entry t) τ.T (entry j) τ.J (entry e) τ.E (entry key) τ.key h.is_C h.is_T h.is_J h.is_E
        (own σ o p) (own τ o p) (above σ o p) (above τ o p) (below σ o p) (below τ o p)
        (own_same p l)
        (λ k b. ap (λ (x : Bool). mem (take p o) k && not x) (own_same p l k b))
        (λ k b. ap (λ (x : Bool). mem (drop (suc p) o) k && not x) (own_same p l k b))
        P x

    verdict_same : {a : Answer} → AllPassed σ o a ⊎ SomeLate σ o a → AllPassed τ o a ⊎ SomeLate τ o a
    verdict_same (inl y) = inl (record { says = y.says; passing = λ p l. over_table p l Fits (y.passing p l) })
    verdict_same (inr y) =
        inr (record {
          place = y.place;
          says = y.says;
          inside = y.inside;
          late = over_table y.place y.inside (λ F m e. Fits F m e → ⊥) y.late;
          earlier = λ p l. over_table p (omega (arith, y.inside)) Fits (y.earlier p l);
        })

    written_same : {before after : List ℕ} → Written σ o before after → Written τ o before after
    written_same {before} {after} w =
        record {
          same_length = w.same_length;
          beyond = w.beyond;
          figures = λ p l. over_table p l (λ F m e. FigureIs F m e (entry after (entry o p)) ⊎ ((Fits F m e → ⊥) × (entry after (entry o p) ≡ 0))) (w.figures p l);
        }

  in_range : lowest τ.n (bad_entry τ.n o) ≡ nowhere → (p : ℕ) → p < τ.n → entry o p < τ.n
  in_range e p l = entry_range τ.n o p (none_lowest τ.n (bad_entry τ.n o) e p l)

  refusal_same : order_refusal σ o ≡ order_refusal τ o
  unfolding order_refusal
  refusal_same = go (lowest τ.n (bad_entry τ.n o)) refl
    where
      go : (r : Place) → lowest τ.n (bad_entry τ.n o) ≡ r → order_refusal σ o ≡ order_refusal τ o
      go (at p) q = rw q
      go nowhere q = rw (q, lowest_same τ.n (resumes (entry key) o) (resumes τ.key o) (resumes_same (in_range q)))

  pub judged_same : {before after : List ℕ} {a : Answer} → OrderJudged σ o before after a → OrderJudged τ o before after a
  judged_same x =
      record {
        refusing = λ r q. x.refusing r (refusal_same ∙ q);
        answering = λ q. let y = x.answering (refusal_same ∙ q) in let l = in_range (fine_entries τ o q) in record { verdict = verdict_same l y.verdict; written = written_same l y.written };
      }

-- what is judged over the columns of a table that was taken in is judged over its words
pub joined : (words order before after : List ℕ) (a : Answer) {n : ℕ} {c t j e key : List ℕ} → TakenIn words (length before) n c t j e key → OrderJudged (sheet n c t j e key) order before after a → Judged words order before after a
joined words order before after a {n} {c} {t} {j} {e} {key} x h =
    let same_count : sheet n c t j e key ≡ sheet (rows words) c t j e key = ap (λ (m : ℕ). sheet m c t j e key) x.count in
    let holds : Holds (table_of words) (rows words) c t j e key = subst (λ (m : ℕ). Holds (table_of words) m c t j e key) x.count x.holds in
    let y = judged_same (table_of words) c t j e key holds order (subst (λ (τ : Table). OrderJudged τ order before after a) same_count h) in
    subst (λ (k : Check). Replied (k then order_refusal (table_of words) order) before after a (Answered (table_of words) order before after a)) (sym x.unrefused) y
