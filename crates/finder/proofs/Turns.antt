-- The search as code holds it: the rows in one list, the columns along it, and what a turn over one band asks and gives. Assumes nothing.
use Rattle.std.specs.Prelude.{Option, Some, None}
use Prim.Native.Nat.{ℕ, ◌+◌, ◌-◌, ◌≤◌, ◌<◌}
use native.Mathlib.Decide.{dec_lt}
use native.Mathlib.Omega.{arith}
use mathlib.Core.Path.{◌≡◌, sym, ap, ap₂, subst, subst₂, ◌∙◌}
use mathlib.Core.Bool.{not}
use mathlib.Core.List.{List, ◌++◌, append_assoc}
use lib.ListN.{length, take, drop, length-append}
use lib.Seq.{slice, slice_empty, length-slice, length-take-le, get_or-take, take-take, take_at, drop_at}
use lib.Dec.{T as Is}
use Rattle.sums.specs.Masks.{Mask, except}
use Rattle.sums.specs.Columns.{at}
use Rattle.sums.specs.Laws.{max_bound}
use Rattle.order.specs.Table.{Table, band, MIN, least_e, F}
use Rattle.order.specs.Orders.{mem}
use Rattle.order.specs.Lists.{mem_get_or}
use Rattle.order.specs.Figures.{figure_fits}
use Rattle.order.specs.Sheet.{sheet, Room, Along, Aligned, RunIn, RunVerdict, Stretch, LongestIs, VerdictIs}
use Rattle.order.specs.Columns.{rates_along, lengths_along}
use Rattle.intake.specs.Held.{Held}
use Rattle.finder.specs.Steps.{by_band, first_rows, RunEnds, turned, Turned, SixTurned}
use Rattle.finder.proofs.Turning.{turned_within, turned_after, front_now, back_now}
use Rattle.finder.proofs.ByBand.{bands_of}
use Rattle.finder.proofs.Waiting.{Tried, Next, next_of, rows, tried_late}
use Rattle.finder.proofs.Search.{Before, before_first, front_range, parts, run_is, verdict_is, longest_now, before_next}

-- a column stays along the rows when both are turned
along_turned : (n s e top : ℕ) (column made made' along along' : List ℕ) → s ≤ e → e ≤ top → top ≤ n → Turned s e top made made' → Turned s e top along along' → Along n column made along → Along n column made' along'
along_turned n s e top column made made' along along' se et tn a b h p l = b.moved p 0 ∙ (h (turned s e top p) within ∙ ap (at column) (sym (a.moved p 0)))
  where
    within : turned s e top p < n
    within = go (dec_lt p top)
      where
        go : Dec (p < top) → turned s e top p < n
        go (yes i) = omega (arith, turned_within s e top p se et i)
        go (no i) = omega (arith, turned_after s e top p (omega arith) (omega arith))

module _ (n : ℕ) (c t j e key : List ℕ) where
  abbrev τ : Table
  τ = sheet n c t j e key

  -- the rows not placed stand before place top, those placed from there on, and the columns along them
  pub record Known (made ca ta ja ea ka : List ℕ) (top tried below : ℕ) : Type 0 where
    pub long : n ≤ length made
    pub fits : top ≤ n
    pub aligned : Aligned n c t j e key made ca ta ja ea ka
    pub state : Before n c t j e key (take top made) (slice top n made) top tried below

  pub known_first : (made ca ta ja ea ka : List ℕ) → n ≤ length made → take n made ≡ by_band n (at key) (first_rows n (at key)) → Aligned n c t j e key made ca ta ja ea ka → Known made ca ta ja ea ka n 0 0
  known_first made ca ta ja ea ka long rows_lined along =
      record {
        long = long;
        fits = omega arith;
        aligned = along;
        state = subst (λ (x : List ℕ). Before n c t j e key (take n made) x n 0 0) (sym (slice_empty n made)) (before_first n c t j e key (take n made) (length-take-le n made long) rows_lined);
      }

  -- with no place left, the order found is the first n places
  pub laid_order : (made : List ℕ) (top : ℕ) → top ≡ 0 → n ≤ length made → (d : List ℕ) → take n made ++ drop n d ≡ slice top n made ++ drop (length (slice top n made)) d
  laid_order made top z long d =
      let all : n ≡ length (slice top n made) = omega (arith, length-slice top n made long) in
      ap₂ (λ (x : List ℕ) (y : ℕ). x ++ drop y d) (ap (λ (x : ℕ). drop x (take n made)) (sym z)) all

  module _ (held : Held n c t j e key) {made ca ta ja ea ka : List ℕ} {top tried below : ℕ} (k : Known made ca ta ja ea ka top tried below) where
    front_at : (p : ℕ) → p < top → at (take top made) p ≡ at made p
    front_at p l = get_or-take top made p 0 l

    row : (p : ℕ) → p < top → at made p < n
    row p l = front_range n c t j e key k.state (at made p) (subst (λ (y : ℕ). Is (mem (take top made) y)) (front_at p l) (mem_get_or (take top made) p (omega (arith, length-take-le top made (omega (arith, k.long, k.fits))))))

    -- a column along the rows in front
    in_front : (column along : List ℕ) → Along n column made along → (p : ℕ) → p < top → at along p ≡ at column (at (take top made) p)
    in_front column along h p l = h p (omega (arith, k.fits)) ∙ ap (at column) (sym (front_at p l))

    short : below ≤ 4096
    short = omega (arith, k.state.longest, max_bound n (mem (slice top n made)) (at c) 4096 held.lengths.c_most)

    module _ (room : Room n ca ta ja ea ka) {s end : ℕ} (some : s < end) (inside : end ≤ top) where
      pub run_in : RunIn top ca ta ja ea s end below
      run_in = record { rates = rates_along k.aligned k.fits row room held.rates; lengths = lengths_along k.aligned k.fits row room held.lengths; some = some; inside = inside; short = short }

      pub stretch : Stretch ca s end below
      stretch = record { forward = omega arith; long = omega (arith, k.fits, room.long_c); most = λ p h l. run_in.lengths.c_most p (omega arith); short = short }

    module _ {s bands end : ℕ} (l : s < top) (tr : Tried τ (slice top n made) s bands) (r : RunEnds ka s top end) where
      -- the band that comes next
      next : Next τ (slice top n made) s bands
      next = next_of τ (slice top n made) (omega (arith, ap length k.state.lined, k.state.tops)) tr

      ends : end ≡ s + length (rows τ (slice top n made) next)
      ends = run_is n c t j e key k.state next ka (in_front key ka k.aligned.along_key) r

      abbrev own : Mask
      own = band τ (at key next.row)

      abbrev tried_rows : List ℕ
      tried_rows = bands_of τ next.tried.before

      abbrev own_rows : List ℕ
      own_rows = rows τ (slice top n made) next

      abbrev rest_rows : List ℕ
      rest_rows = bands_of τ next.rest

      module _ {v : Option ℕ} (h : RunVerdict top ca ta ja ea s end below v) where
        verdict : (v' : Option ℕ) → v ≡ v' → VerdictIs (F τ own (except (λ i. not (mem (slice top n made) i)) own) (except (mem (slice top n made)) own)) (MIN τ own) (least_e τ own) v'
        verdict v' q =
            subst (VerdictIs _ _ _) q
            (verdict_is n c t j e key k.state next ca ta ja ea (in_front c ca k.aligned.along_c) (in_front t ta k.aligned.along_t) (in_front j ja k.aligned.along_j) (in_front e ea k.aligned.along_e) end ends v h)

        -- it is late: it is one more tried
        pub tried_next : {bands' : ℕ} → bands' ≡ bands + 1 → v ≡ None → Tried τ (slice top n made) end bands'
        tried_next counted q = rw counted (tried_late τ (slice top n made) next end ends (verdict None q))

        -- it passes: it is placed
        module _ {R below' : ℕ} {made' ca' ta' ja' ea' ka' : List ℕ} (q : v ≡ Some R) (longest : LongestIs ca s end below below')
            (six : SixTurned s end top made ca ta ja ea ka made' ca' ta' ja' ea' ka') where
          se : s ≤ end
          se = omega arith

          room : top ≤ length made
          room = omega (arith, k.long, k.fits)

          split : take top made ≡ (tried_rows ++ own_rows) ++ rest_rows
          split = parts n c t j e key k.state next ∙ sym (append_assoc tried_rows own_rows rest_rows)

          at_s : length tried_rows ≡ s
          at_s = sym next.tried.reached

          at_end : length (tried_rows ++ own_rows) ≡ end
          at_end = length-append tried_rows own_rows ∙ omega (arith, at_s, ends)

          front : take (top - (end - s)) made' ≡ tried_rows ++ rest_rows
          front =
              front_now six.turned_made se r.within room
              ∙ ap₂ ◌++◌
              (sym (take-take s top made (omega (arith, r.within))) ∙ (ap (take s) (parts n c t j e key k.state next) ∙ take_at tried_rows (own_rows ++ rest_rows) s at_s))
              (ap (drop end) split ∙ drop_at (tried_rows ++ own_rows) rest_rows end at_end)

          back : slice (top - (end - s)) n made' ≡ own_rows ++ slice top n made
          back =
              back_now six.turned_made se r.within n k.fits k.long
              ∙ ap (λ (x : List ℕ). x ++ slice top n made)
              (ap (drop s) (sym (take-take end top made r.within) ∙ (ap (take end) split ∙ take_at (tried_rows ++ own_rows) rest_rows end at_end)) ∙ drop_at tried_rows own_rows s at_s)

          along : (column : List ℕ) {ax ax' : List ℕ} → Turned s end top ax ax' → Along n column made ax → Along n column made' ax'
          along column {ax} {ax'} = along_turned n s end top column made made' ax ax' se r.within k.fits six.turned_made

          pub known_next : {top' tried' : ℕ} → top' ≡ top - (end - s) → tried' ≡ tried + (bands + 1) → Known made' ca' ta' ja' ea' ka' top' tried' below'
          known_next left counted =
              rw (left, counted) (record {
                long = omega (arith, k.long, six.turned_made.long);
                fits = omega (arith, k.fits);
                aligned =
                    record {
                      along_c = along c six.turned_c k.aligned.along_c;
                      along_t = along t six.turned_t k.aligned.along_t;
                      along_j = along j six.turned_j k.aligned.along_j;
                      along_e = along e six.turned_a k.aligned.along_e;
                      along_key = along key six.turned_key k.aligned.along_key;
                    };
                state =
                    subst₂ (λ (x y : List ℕ). Before n c t j e key x y (top - (end - s)) (tried + (bands + 1)) below') (sym front) (sym back)
                    (before_next n c t j e key k.state next (top - (end - s)) below' held.lengths.few (omega (arith, ends))
                    (longest_now n c t j e key k.state next ca ta ja ea (in_front c ca k.aligned.along_c) (in_front t ta k.aligned.along_t) (in_front j ja k.aligned.along_j) (in_front e ea k.aligned.along_e) end ends longest)
                    (figure_fits _ _ _ (verdict (Some R) q)));
              })
