-- `finder::run_end` meets its contract: the first place with another key ends the run. Assumes nothing.
use native.Mathlib.Decide.{dec_lt}
use native.Mathlib.Omega.{arith}
use Prim.Native.Nat.{ℕ, ◌+◌, ◌-◌, ◌≤◌, ◌<◌}
use mathlib.Core.Path.{◌≡◌, sym, ap, ◌∙◌}
use mathlib.Core.List.{List}
use lib.ListN.{length, get_or, take, drop, length-drop}
use lib.Seq.{length-take-le}
use Rattle.std.specs.Prelude.{◌≢◌, MatchOption}
use Rattle.std.specs.List.{AllWithin, HoldsAt}
use Rattle.std.proofs.Common.{rules, tests}
use Rattle.std.proofs.lemmas.Iterator.{IsFirst-from_position, YieldsList-from_slice}
use Rattle.sums.specs.Columns.{at}
use Rattle.sums.specs.Terms.{keys, nothing}
use Rattle.sums.specs.TermLaws.{at_key, cut_at}
use Rattle.sums.specs.declared.Terms.{Terms}
use Rattle.finder.specs.Steps.{RunEnds}
use Rattle.finder.proofs.run_end.Goals as goal
use Rattle.finder.proofs.run_end.Goals.{After-position}

module _ (along : List Terms) (s : ℕ) where
  abbrev top : ℕ
  top = length along

  -- the rows from place s on
  abbrev rows : List Terms
  rows = take (top - s) (drop s along)

  -- of the run's key
  abbrev Own : Terms → Type 0
  Own row = row.key ≡ (get_or along s nothing).key

  -- the one at place i is the first of another
  abbrev First : ℕ → Type 0
  First i = (i < length rows) × HoldsAt (λ (row : Terms). row.key ≢ (get_or along s nothing).key) rows i × AllWithin Own rows 0 i

  module _ (some : s < top) where
    many : length rows ≡ top - s
    many = length-take-le (top - s) (drop s along) (omega (arith, length-drop s along))

    there : (p : ℕ) → s ≤ p → p < top → (get_or rows (p - s) nothing).key ≡ at (keys along) p
    there p l h = cut_at along s top (p - s) (omega (arith, many)) (λ row. row.key) ∙ ap (at (keys along)) (omega arith)

    own_is : (get_or along s nothing).key ≡ at (keys along) s
    own_is = sym (at_key along s)

    ends_at : (i : ℕ) → First i → RunEnds (keys along) s top (s + i)
    ends_at i (l, other, own) =
        record {
          after = positive (dec_lt 0 i);
          within = omega (arith, many);
          one = λ p a b. sym (there p a (omega (arith, many))) ∙ (own (p - s) nothing (omega arith) (omega arith) ∙ own_is);
          other = λ h e. other nothing (ap (λ (x : ℕ). (get_or rows x nothing).key) (omega arith) ∙ (there (s + i) (omega arith) h ∙ (e ∙ sym own_is)));
        }
      where
        -- the key at place s is its own
        positive : Dec (0 < i) → s < s + i
        positive (yes h) = omega arith
        positive (no h) = absurd (other nothing (ap (λ (x : ℕ). (get_or rows x nothing).key) (omega arith) ∙ (there s (omega arith) some ∙ sym own_is)))

    ends_last : AllWithin Own rows 0 (length rows) → RunEnds (keys along) s top top
    ends_last own =
        record { after = some; within = omega arith; one = λ p a b. sym (there p a b) ∙ (own (p - s) nothing (omega arith) (omega (arith, many)) ∙ own_is); other = λ h _. omega arith }

-- the first of another key among the rows from place s on, or none
first : (c : After-position) → let a = c.args in
    MatchOption c.position.result (AllWithin (Own a.along.now a.s) (rows a.along.now a.s) 0 (length (rows a.along.now a.s))) (First a.along.now a.s)
first c =
    let a = c.args in
    let own = (get_or a.along.now a.s nothing).key in
    IsFirst-from_position _ _ _ (λ (row : Terms). row.key ≢ own) (λ (row : Terms). row.key ≡ own) c.position.ensures.ran (YieldsList-from_slice _ c.iter.ensures.rest) (λ x q k. search (rules, tests)) (λ x q k. search (rules, tests))

pub returns-in-Some : goal.returns-in-Some
returns-in-Some c = let a = c.args in ends_at a.along.now a.s c.requires c.in-Some.run' (rw c.in-Some.is at (first (goal.at.returns-in-Some c).After-position))

pub returns-in-None : goal.returns-in-None
returns-in-None c = let a = c.args in ends_last a.along.now a.s c.requires (rw c.in-None.is at (first (goal.at.returns-in-None c).After-position))
