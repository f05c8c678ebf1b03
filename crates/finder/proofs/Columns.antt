-- The two lists of the search, the rows' places in the table and the rows along them, each of the size of the limit, and what is known of them by their
-- columns. Assumes nothing.
use Rattle.std.specs.Prelude.{ℕ, ◌≤◌, ◌<◌, ◌≡◌, List, length, get_or, take}
use Rattle.std.proofs.Common.{arith, sym, ap, ◌∙◌}
use Rattle.std.proofs.Math.Decide.{dec_lt}
use Rattle.std.proofs.Math.Seq.{length-take-le}
use Rattle.std.proofs.lemmas.List.{get_or-map, get_or_past, get_or-take}
use Rattle.sums.specs.Columns.{at}
use Rattle.sums.specs.Terms.{column, nothing, lengths, periods, jitters, allowed, keys}
use Rattle.sums.specs.TermLaws.{at_part, length_column}
use Rattle.sums.specs.declared.Terms.{Terms}
use Rattle.licence.specs.Limit.{limit}
use Rattle.order.specs.Sheet.{Aligned, EntriesIn, Placed}
use Rattle.order.specs.Columns.{aligned_rows}
use Rattle.finder.specs.Steps.{RunEnds, turned, Turned, SixTurned}
use Rattle.finder.proofs.Turning.{turned_within, turned_after}
use Rattle.finder.proofs.Turns.{Known}

-- two lists of the size of the limit
pub record Both (made : List ℕ) (along : List Terms) : Type 0 where
  pub is_made : length made ≡ limit
  pub is_along : length along ≡ limit

-- a run among the first places is a run of them all, up to there
pub ends_part : (along : List Terms) {s top e : ℕ} → top ≤ length along → RunEnds (keys (take top along)) s (length (take top along)) e → RunEnds (keys along) s top e
ends_part along {s} {top} {e} long r =
    record {
      after = r.after;
      within = within;
      one = λ p a b. sym (key_there p (omega (arith, within))) ∙ (r.one p a b ∙ key_there s (omega (arith, r.after, within)));
      other = λ h q. r.other (omega (arith, cut_long)) (key_there e h ∙ (q ∙ sym (key_there s (omega (arith, r.after)))));
    }
  where
    cut_long : length (take top along) ≡ top
    cut_long = length-take-le top along long

    within : e ≤ top
    within = omega (arith, r.within, cut_long)

    key_there : (p : ℕ) → p < top → at (keys (take top along)) p ≡ at (keys along) p
    key_there p l = at_part (λ row. row.key) along top p l

-- what is known before a place, of rows
abbrev pub KnownRows : (rows : List Terms) (made : List ℕ) (along : List Terms) (top tried below : ℕ) → Type 0
KnownRows rows made along =
    Known (length rows) (lengths rows) (periods rows) (jitters rows) (allowed rows) (keys rows) made (lengths along) (periods along) (jitters along) (allowed along) (keys along)

-- rows that turn have their columns turned
module _ {s e top : ℕ} {along along' : List Terms} (se : s ≤ e) (et : e ≤ top) (long : top ≤ length along) (h : Turned s e top along along') where
  turned_column : (f : Terms → ℕ) → Turned s e top (column f along) (column f along')
  turned_column f = record { long = length_column f along' ∙ (h.long ∙ sym (length_column f along)); moved = λ p d. go p d (dec_lt p top) (dec_lt p (length along)) }
    where
      inside : (p : ℕ) (d : ℕ) → p < length along → turned s e top p < length along → get_or (column f along') p d ≡ get_or (column f along) (turned s e top p) d
      inside p d l t = get_or-map f along' p nothing d (omega (arith, h.long)) ∙ (ap f (h.moved p nothing) ∙ sym (get_or-map f along (turned s e top p) nothing d t))

      go : (p d : ℕ) → Dec (p < top) → Dec (p < length along) → get_or (column f along') p d ≡ get_or (column f along) (turned s e top p) d
      go p d (yes a) w = inside p d (omega arith) (omega (arith, turned_within s e top p se et a))
      go p d (no a) (yes b) = inside p d b (omega (arith, turned_after s e top p (omega arith) (omega arith)))
      go p d (no a) (no b) =
          get_or_past (column f along') p d (omega (arith, h.long, length_column f along'))
          ∙ sym (get_or_past (column f along) (turned s e top p) d (omega (arith, length_column f along, turned_after s e top p (omega arith) (omega arith))))

  pub six_turned : {made made' : List ℕ} → Turned s e top made made' → SixTurned s e top made (lengths along) (periods along) (jitters along) (allowed along) (keys along) made' (lengths along') (periods along') (jitters along') (allowed along') (keys along')
  six_turned m =
      record {
        turned_made = m;
        turned_c = turned_column (λ x. x.length);
        turned_t = turned_column (λ x. x.period);
        turned_j = turned_column (λ x. x.jitter);
        turned_a = turned_column (λ x. x.allowed);
        turned_key = turned_column (λ x. x.key);
      }

-- rows that stand along the first places have their columns along them
module _ (rows : List Terms) (made : List ℕ) (long : length rows ≤ length made) where
  pub cut : length (take (length rows) made) ≡ length rows
  cut = length-take-le (length rows) made long

  pub in_range : ((p : ℕ) → p < length rows → at made p < length rows) → EntriesIn rows (take (length rows) made)
  in_range range p l = omega (arith, range p (omega (arith, cut)), get_or-take (length rows) made p 0 (omega (arith, cut)))

  pub aligned_made : (along : List Terms) → length rows ≤ length along → ((p : ℕ) → p < length rows → at made p < length rows) → Placed rows (take (length rows) made) along
      → Aligned (length rows) (lengths rows) (periods rows) (jitters rows) (allowed rows) (keys rows) made (lengths along) (periods along) (jitters along) (allowed along) (keys along)
  aligned_made along room range h =
      aligned_rows rows made along range room (λ p l. h p nothing (omega (arith, cut)) ∙ ap (λ (k : ℕ). get_or rows k nothing) (get_or-take (length rows) made p 0 l))
