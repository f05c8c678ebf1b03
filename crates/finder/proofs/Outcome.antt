-- The promises of specs/Outcome are kept.
-- Assumes nothing.
use Rattle.std.specs.Prelude.{ℕ, suc, ◌*◌, ◌≤◌, ◌<◌, ◌≡◌, refl, ◌⊎◌, List, [], ◌++◌, length, take, drop}
use Rattle.std.proofs.Common.{arith, sym, ap, ◌∙◌, subst, inl, inr, take_at, lit≤}
use Rattle.licence.specs.Laws.{row_allowed}
use Rattle.order.specs.Orders.{Order, Together, AllPass}
use Rattle.order.specs.Counting.{order_length}
use Rattle.intake.specs.Words.{rows, table_of}
use Rattle.intake.specs.Answer.{Answer, Check, refused, fine}
use Rattle.intake.specs.Refusals.{table_refusal}
use Rattle.intake.specs.Laws.{meet, replied_one, accepted}
use Rattle.intake.specs.Told.{told_as_one, number_has, replied_fine, table_small}
use Rattle.finder.specs.Placing.{Ending, found, none, free, Finds}
use Rattle.finder.proofs.Right.{Right, finds_one, finds_right}
use Rattle.finder.specs.Tried.{TriedWithin, tried_bound}
use Rattle.finder.specs.Searched.{finding_answer, Told, Searched}
use Rattle.finder.specs.Outcome.{FewTried, FoundExactly, FoundMeans, FoundOrder, NoOrderAtAll, NoOrderExactly, NoOtherReply, OneFinding, OneOutcome, TriedAtMost, bands}

-- the order itself is the first n places
pub found_there : {words before after : List ℕ} (x : FoundOrder words before after) → take (rows words) after ≡ x.found
found_there {words} {before} x = ap (take (rows words)) x.laid ∙ take_at x.found (drop (rows words) before) (rows words) x.long

-- ---- a table that no check refuses

-- it has periods, so the ending is right
ends_right : (words : List ℕ) (room : ℕ) → table_refusal words room ≡ fine → {r : Ending} → Finds (table_of words) free [] 0 r → Right (table_of words) free r
ends_right words room e = finds_right (table_of words) free (λ k l. (row_allowed words k ((accepted words room e).good k l)).period_pos) (λ a a' b more t. t)

-- only such a table is answered with a number past 4
unrefused : (words before after : List ℕ) (a : Answer) → Searched words before after a → 4 < a.number → table_refusal words (length before) ≡ fine
unrefused words before after a s l = replied_fine (table_small words (length before)) s (λ h. omega (arith, h.1))

-- ---- the proofs

pub one_outcome : OneOutcome
one_outcome words before after after' a a' s s' =
    replied_one s s' (λ e x y. one_told x.ending x.told (subst (λ (r : Ending). Told r before after' a') (finds_one (table_of words) free y.follows x.follows) y.told))
  where
    one_told : (r : Ending) → Told r before after a → Told r before after' a' → (a ≡ a') × (after ≡ after')
    one_told (found o t) x y = meet x y
    one_told (none u t) x y = meet x y

pub one_finding : OneFinding
one_finding words before after after' r r' s s' =
    let x = one_outcome words before after after' (finding_answer r) (finding_answer r') s s' in
    ((told_as_one 102 102 (lit≤ tt) (lit≤ tt) r r' x.0).0, x.1)

pub found_means : FoundMeans
found_means words before after a s is_102 =
    let e = unrefused words before after a s (omega arith) in
    let x = s.answering e in
    go e x.ending x.told (ends_right words (length before) e x.follows)
  where
    go : table_refusal words (length before) ≡ fine → (r : Ending) → Told r before after a → Right (table_of words) free r → FoundOrder words before after
    go e (found o t) says right =
        let long = order_length (table_of words) o right.order in
        record {
          unrefused = e;
          found = o;
          long = long;
          laid = subst (λ (n : ℕ). after ≡ o ++ drop n before) long says.1;
          order = right.order;
          together = right.together;
          ranked = right.ranked;
          passing = right.passing;
        }
    go e (none u t) says right = absurd (omega (arith, ap (λ (x : Answer). x.number) says.0))

pub no_order_at_all : NoOrderAtAll
no_order_at_all words before after a s is_8 =
    let e = unrefused words before after a s (omega arith) in
    let x = s.answering e in
    go x.ending x.told (ends_right words (length before) e x.follows)
  where
    go : (r : Ending) → Told r before after a → Right (table_of words) free r → (o : List ℕ) → Order (table_of words) o → AllPass (table_of words) o → ⊥
    go (found o t) says right = absurd (omega (arith, ap (λ (x : Answer). x.number) says.0))
    go (none u t) says right = λ o order passing. right o order passing (λ p l. tt)

pub no_order_exactly : NoOrderExactly
no_order_exactly words before after a s e =
    let x = s.answering e in
    ((λ is_8 o order _ passing. no_order_at_all words before after a s is_8 o order passing), go x.ending x.told (ends_right words (length before) e x.follows))
  where
    go : (r : Ending) → Told r before after a → Right (table_of words) free r
        → ((o : List ℕ) → Order (table_of words) o → Together (table_of words) o → AllPass (table_of words) o → ⊥) → a.number ≡ 8
    go (found o t) says right no_order = absurd (no_order o right.order right.together right.passing)
    go (none u t) says right no_order = ap (λ (x : Answer). x.number) says.0

pub found_exactly : FoundExactly
found_exactly words before after a s e =
    let x = s.answering e in (
      (λ is_102. let f = found_means words before after a s is_102 in (f.found, f.order, f.together, f.passing)),
      (λ (o, order, together, passing). go x.ending x.told (ends_right words (length before) e x.follows) o order passing),
    )
  where
    go : (r : Ending) → Told r before after a → Right (table_of words) free r → (o : List ℕ) → Order (table_of words) o → AllPass (table_of words) o → a.number ≡ 102
    go (found _ t) says right o order passing = ap (λ (x : Answer). x.number) says.0
    go (none u t) says right o order passing = absurd (right o order passing (λ p l. tt))

pub no_other_reply : NoOtherReply
no_other_reply words before after a s = go (table_refusal words (length before)) refl
  where
    ends : (r : Ending) → Told r before after a → (a.number ≡ 102) ⊎ ((a.number ≡ 8) ⊎ ((1 ≤ a.number) × (a.number ≤ 4)))
    ends (found o t) says = inl (ap (λ (x : Answer). x.number) says.0)
    ends (none u t) says = inr (inl (ap (λ (x : Answer). x.number) says.0))

    go : (c : Check) → table_refusal words (length before) ≡ c → (a.number ≡ 102) ⊎ ((a.number ≡ 8) ⊎ ((1 ≤ a.number) × (a.number ≤ 4)))
    go (refused r) e = inr (inr (subst (λ (n : Answer). (1 ≤ n.number) × (n.number ≤ 4)) (sym (s.refusing r e).0) (number_has (table_small words (length before)) e)))
    go fine e = let x = s.answering e in ends x.ending x.told

pub tried_at_most : TriedAtMost
tried_at_most words before after a s =
    record {
      finding = λ q. (all (unrefused words before after a s (omega arith))).finding q;
      stopping = λ q. (all (unrefused words before after a s (omega arith))).stopping q;
      unplaced = λ q. (all (unrefused words before after a s (omega arith))).unplaced q;
    }
  where
    go : (r : Ending) → Told r before after a → TriedWithin (table_of words) (bands (table_of words) * suc (bands (table_of words))) r → FewTried (table_of words) a
    go (found o t) says h = rw says.0 (record { finding = λ _. h; stopping = λ q. absurd (omega arith); unplaced = λ q. absurd (omega arith) })
    go (none u t) says h = rw says.0 (record { finding = λ q. absurd (omega arith); stopping = λ _. h.0; unplaced = λ _. (h.1, h.2) })

    all : table_refusal words (length before) ≡ fine → FewTried (table_of words) a
    all e = let x = s.answering e in go x.ending x.told (tried_bound (table_of words) free x.follows)
