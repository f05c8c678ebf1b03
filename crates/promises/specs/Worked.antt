-- Tests, by computing, of what the statements of judging and of finding say of a result that was written down beforehand: an answer, and the lent
-- list afterwards. What they say yes to is so.
-- Assumes nothing.
use Rattle.std.specs.Prelude.{ℕ, zero, suc, ◌+◌, ◌≤◌, ◌<◌, ◌≡◌, ◌⊎◌, Bool, false, not, ◌&&◌, ◌||◌, List, [], ◌++◌, length, drop, T as Is, eqb, ltb}
use Rattle.std.proofs.Math.Decide.{dec_lt}
use Rattle.std.proofs.Common.{arith, sym, ◌∙◌, inl, inr, T_not, eqb→eq, le-ltb}
use Rattle.std.proofs.Math.ListN.{get_or-eq_default}
use Rattle.std.proofs.Math.Dec.{not_T}
use Rattle.sums.specs.Masks.{Mask, None, Place, at, nowhere, lowest, except}
use Rattle.sums.specs.MaskLaws.{or_cases, and_left, and_right, and_intro, Lowest, is_at, is_none, lowest_is}
use Rattle.sums.specs.Columns.{at as entry}
use Rattle.sums.specs.Sums.{count}
use Rattle.order.specs.Table.{Table, band, MIN, least_e, F}
use Rattle.order.specs.Orders.{mem, own, above, below}
use Rattle.intake.specs.Words.{table_of}
use Rattle.intake.specs.Answer.{Answer, answer}
use Rattle.intake.specs.Refusals.{table_refusal}
use Rattle.judge.specs.Judged.{refusal, AllPassed, SomeLate, Answered, Judged}
use Rattle.finder.specs.Placing.{Ending, found, none, unplaced, placing, free, candidate, Stands, Finds, done, place, stuck}
use Rattle.finder.specs.Searched.{Told, Searched}
use Rattle.finder.specs.Searched.{Answered as Sought}
use Rattle.promises.specs.Reckon.{Reckoned, reckon, is_late, is_late_lem, fits_else, stands_for, stood_for, every, every_is, same_answer, same_answer_is, same_list, same_list_is, replies, replied}

and_both : (a b : Bool) → Is (a && b) → Is a × Is b
and_both a b h = (and_left a b h, and_right a b h)

-- what the lowest place is known to be
module _ {n k : ℕ} {p : Mask} where
  pub is_below : Lowest n p (at k) → k < n
  is_below (is_at l h f) = l

  pub is_so : Lowest n p (at k) → Is (p k)
  is_so (is_at l h f) = h

  pub is_first : Lowest n p (at k) → (j : ℕ) → j < k → Is (p j) → ⊥
  is_first (is_at l h f) = f

pub is_no : {n : ℕ} {p : Mask} → Lowest n p nowhere → None n p
is_no (is_none h) = h

-- ---- judging

module _ (τ : Table) (order : List ℕ) where
  abbrev pub verdict_at : (p : ℕ) → Reckoned (F τ (own τ order p) (above τ order p) (below τ order p)) (MIN τ (own τ order p)) (least_e τ (own τ order p))
  verdict_at p = reckon τ (own τ order p) (above τ order p) (below τ order p)

  -- the answer to an order with the first late place there
  abbrev pub saying : Place → Answer
  saying (at p) = answer 101 p 0
  saying nowhere = answer 100 0 0

  abbrev pub late : Mask
  late p = is_late (verdict_at p)

  -- the four things that are asked of an answer: the list keeps its length, and its places from n on; each place stands for its verdict; and the
  -- answer tells the first late one
  module _ (before after : List ℕ) (a : Answer) where
    abbrev pub lasts : Bool
    lasts = eqb (length after) (length before)

    abbrev pub stays : Bool
    stays = every (length before) (λ i. ltb i τ.n || eqb (entry after i) (entry before i))

    abbrev pub shows : Bool
    shows = every τ.n (λ p. stands_for (verdict_at p) (entry after (entry order p)))

    abbrev pub tells : Bool
    tells = same_answer a (saying (lowest τ.n late))

    abbrev pub answers : Bool
    answers = (lasts && stays) && (shows && tells)

  pub answered : (before after : List ℕ) (a : Answer) → Is (answers before after a) → Answered τ order before after a
  answered before after a h = record {
    verdict = first (lowest τ.n late) (lowest_is τ.n late) (same_answer_is a (saying (lowest τ.n late)) right.1);
    written = record { same_length = long; beyond = beyond; figures = λ p l. stood_for (verdict_at p) (entry after (entry order p)) (every_is τ.n (λ i. stands_for (verdict_at i) (entry after (entry order i))) right.0 p l) };
  }
    where
      halves : Is (lasts before after a && stays before after a) × Is (shows before after a && tells before after a)
      halves = and_both (lasts before after a && stays before after a) (shows before after a && tells before after a) h

      left : Is (lasts before after a) × Is (stays before after a)
      left = and_both (lasts before after a) (stays before after a) halves.0

      right : Is (shows before after a) × Is (tells before after a)
      right = and_both (shows before after a) (tells before after a) halves.1

      long : length after ≡ length before
      long = eqb→eq (length after) (length before) left.0

      beyond : (i : ℕ) → τ.n ≤ i → entry after i ≡ entry before i
      beyond i l = go (dec_lt i (length before))
        where
          go : Dec (i < length before) → entry after i ≡ entry before i
          go (yes k) = elim (or_cases (ltb i τ.n) (eqb (entry after i) (entry before i)) (every_is (length before) (λ j. ltb j τ.n || eqb (entry after j) (entry before j)) left.1 i k)) [
            | inl b ↦ absurd (rw (le-ltb i τ.n l) at b)
            | inr b ↦ eqb→eq (entry after i) (entry before i) b
          ]
          go (no k) = get_or-eq_default after 0 (omega (arith, long)) ∙ sym (get_or-eq_default before 0 (omega arith))

      first : (r : Place) → Lowest τ.n late r → a ≡ saying r → AllPassed τ order a ⊎ SomeLate τ order a
      first nowhere w e = inl (record { says = e; passing = λ p l. fits_else (verdict_at p) (is_no w p l) })
      first (at k) w e = inr (record { place = k; says = e; inside = is_below w; late = is_late_lem (verdict_at k) (is_so w); earlier = λ p i. fits_else (verdict_at p) (is_first w p i) })

-- the words, the order, the list before and after, and the answer are as the statement says
abbrev pub judges : (words order before after : List ℕ) (a : Answer) → Bool
judges words order before after a = replies (refusal words order (length before)) before after a (answers (table_of words) order before after a)

pub judged : (words order before after : List ℕ) (a : Answer) → Is (judges words order before after a) → Judged words order before after a
judged words order before after a h = replied _ before after a (answers (table_of words) order before after a) (answered (table_of words) order before after a) h

-- ---- finding

module _ (τ : Table) where
  -- the verdict on the band of row k above the rows placed, and the bands to try that pass there
  abbrev pub verdict_over : (placed : List ℕ) (k : ℕ) → Reckoned (F τ (band τ (τ.key k)) (except (λ i. not (mem placed i)) (band τ (τ.key k))) (except (mem placed) (band τ (τ.key k)))) (MIN τ (band τ (τ.key k))) (least_e τ (band τ (τ.key k)))
  verdict_over placed k = reckon τ (band τ (τ.key k)) (except (λ i. not (mem placed i)) (band τ (τ.key k))) (except (mem placed) (band τ (τ.key k)))

  abbrev pub passing : (placed : List ℕ) → Mask
  passing placed k = candidate τ free placed k && not (is_late (verdict_over placed k))

  pub stands : (placed : List ℕ) (k : ℕ) → Is (passing placed k) → Stands τ free placed k
  stands placed k h =
      let y = and_both (candidate τ free placed k) (not (is_late (verdict_over placed k))) h in
      (y.0, fits_else (verdict_over placed k) (T_not (is_late (verdict_over placed k)) y.1))

  pub passes : (placed : List ℕ) (k : ℕ) → Stands τ free placed k → Is (passing placed k)
  passes placed k s = and_intro (candidate τ free placed k) (not (is_late (verdict_over placed k))) s.0 (not_T (is_late (verdict_over placed k)) (λ t. is_late_lem (verdict_over placed k) t s.1))

  -- how the rule ends, if it does within so many places
  pub data Ended (placed : List ℕ) (t : ℕ) : Type 0 where
    ended : (r : Ending) → Finds τ free placed t r → Ended placed t
    goes_on : Ended placed t

  unfoldable pub follow : (places : ℕ) (placed : List ℕ) (t : ℕ) → Ended placed t
  follow zero placed t = goes_on
  follow (suc places) placed t =
      go (lowest τ.n (passing placed)) (lowest_is τ.n (passing placed)) (lowest τ.n (unplaced τ placed)) (lowest_is τ.n (unplaced τ placed))
      (λ k. follow places (placing τ placed k) (t + suc (count k (candidate τ free placed))))
    where
      -- the facts are taken out of `Lowest` in proofs alone, so that the rule computes without them
      go : (first : Place) → Lowest τ.n (passing placed) first → (left : Place) → Lowest τ.n (unplaced τ placed) left
          → ((k : ℕ) → Ended (placing τ placed k) (t + suc (count k (candidate τ free placed)))) → Ended placed t
      go (at k) w left v rest = elim (rest k) [
        | ended r x ↦ ended r (place k (is_below w) (stands placed k (is_so w)) (λ i b s. is_first w i b (passes placed i s)) x)
        | goes_on ↦ goes_on
      ]
      go nowhere w (at u) v rest = ended _ (stuck u (is_below v) (is_so v) (λ k b s. is_no w k b (passes placed k s)))
      go nowhere w nowhere v rest = ended _ (done (is_no v))

  -- what is said of an ending, and what it leaves of the lent list
  abbrev says : Ending → Answer
  says (found order tried) = answer 102 tried 0
  says (none left tried) = answer 8 left tried

  abbrev leaves : Ending → List ℕ → List ℕ
  leaves (found order tried) before = order ++ drop (length order) before
  leaves (none left tried) before = before

  told : (r : Ending) (before after : List ℕ) (a : Answer) → a ≡ says r → after ≡ leaves r before → Told r before after a
  told (found order tried) before after a e l = (e, l)
  told (none left tried) before after a e l = (e, l)

  abbrev pub tells_of : {placed : List ℕ} {t : ℕ} → Ended placed t → (before after : List ℕ) (a : Answer) → Bool
  tells_of (ended r x) before after a = same_answer a (says r) && same_list after (leaves r before)
  tells_of goes_on before after a = false

  told_of : (x : Ended [] 0) (before after : List ℕ) (a : Answer) → Is (tells_of x before after a) → Sought τ before after a
  told_of (ended r x) before after a h =
      let y = and_both (same_answer a (says r)) (same_list after (leaves r before)) h in
      record { ending = r; follows = x; told = told r before after a (same_answer_is a (says r) y.0) (same_list_is after (leaves r before) y.1) }
  told_of goes_on before after a h = absurd h

  -- the rule ends within n places, and one more to see that none is left
  abbrev pub seeks : (before after : List ℕ) (a : Answer) → Bool
  seeks before after a = tells_of (follow (suc τ.n) [] 0) before after a

  pub sought : (before after : List ℕ) (a : Answer) → Is (seeks before after a) → Sought τ before after a
  sought before after a h = told_of (follow (suc τ.n) [] 0) before after a h

-- the words, the list before and after, and the answer are as the statement says
abbrev pub searches : (words before after : List ℕ) (a : Answer) → Bool
searches words before after a = replies (table_refusal words (length before)) before after a (seeks (table_of words) before after a)

pub searched : (words before after : List ℕ) (a : Answer) → Is (searches words before after a) → Searched words before after a
searched words before after a h = replied _ before after a (seeks (table_of words) before after a) (sought (table_of words) before after a) h
