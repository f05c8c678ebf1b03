-- The model is no empty shell: every sane table has legal runs, as long as one likes, in which every row is queued at once; and the table, the
-- order and the run of ByHand meet all that the theorem asks. There the stronger form is met exactly: no bit time could be taken off it.
-- Assumes nothing.
use Prim.Native.Nat.{ℕ, zero, suc, ◌+◌, ◌≤◌, ◌<◌}
use Rattle.std.proofs.Math.Nat.{le_refl}
use Rattle.std.proofs.Math.Decide.{ℕ_discrete}
use Rattle.std.proofs.Common.{arith, sym, ap, inl, lit<, lit≤}
use Rattle.std.specs.Prelude.{◌≡◌, length, get_or, replicate, T as Is, ltb, leb}
use Rattle.std.proofs.Math.Path.{refl, subst}
use mathlib.Core.List.Memᴰ
use mathlib.Core.List.{List, [], ◌∷◌}
use Rattle.std.proofs.lemmas.List.{length-replicate}
use Rattle.sums.specs.Masks.{any_below, lowest, or_else}
use Rattle.sums.specs.MaskLaws.{none_lowest}
use Rattle.sums.specs.Sums.{over, ceil, load, demand}
use Rattle.order.specs.Table.{Table, base}
use Rattle.order.specs.Figures.{figure_climbed}
use Rattle.order.specs.Orders.{mem, bad_entry, resumes, Order, Together, own, above, below, FigureAt}
use Rattle.order.specs.Split.{order_of, together_of}
use Rattle.sums.specs.Columns.{at}
use Rattle.bus.specs.Model.{Frame, Run, Sent, ◌∈◌, during, frames, SentBy, SentAt, Apart, Spaced, Licensed, Legal, Sane}
use Rattle.bus.specs.ByHand.{table, order, first, second, short, older, blocker, run, sent}
use Rattle.bus.specs.Witness.{full, fulls, burst, figures}
use Rattle.bus.proofs.Spacing.{spaced_append}
use Rattle.bus.proofs.ByHand.{log_by_hand}
use Rattle.bus.proofs.Kept.{kept}

-- ---- every sane table has a legal run

module _ (τ : Table) where
  pub full_in : (n k : ℕ) → k < n → full τ k ∈ fulls τ n
  full_in zero k l = absurd (omega arith)
  full_in (suc n) k l = elim (ℕ_discrete k n) [
    | yes e ↦ Memᴰ.head (ap (full τ) e)
    | no e ↦ Memᴰ.tail (full_in n k (omega arith))
  ]

  a_full : (n : ℕ) (f : Frame) → f ∈ fulls τ n → (k : ℕ) × (k < n) × (f ≡ full τ k)
  a_full zero f m = elim m [ ]
  a_full (suc n) f (Memᴰ.head e) = (n, le_refl (suc n), e)
  a_full (suc n) f (Memᴰ.tail m) = let y = a_full n f m in (y.0, omega (arith, y.1), y.2)

  fulls_spaced : (n : ℕ) → Spaced τ (fulls τ n)
  fulls_spaced zero = tt
  fulls_spaced (suc n) = (λ y m e. let z = a_full n y m in absurd (omega (arith, z.1, e, ap (λ (f : Frame). f.row) z.2)), fulls_spaced n)

  quiet : (d t : ℕ) → get_or {A = List Frame} (replicate d []) t [] ≡ []
  quiet zero t = refl
  quiet (suc d) zero = refl
  quiet (suc d) (suc t) = quiet d t

  no_frames : (d : ℕ) → frames (replicate d []) ≡ []
  unfolding frames
  no_frames zero = refl
  no_frames (suc d) = no_frames d

  pub burst_legal : Sane τ → (d : ℕ) → Legal τ (burst τ d)
  unfolding frames
  burst_legal sane d = record {
    licensed = fine;
    spaced = spaced_append τ (fulls τ τ.n) (frames (replicate d [])) (fulls_spaced τ.n) (rw (no_frames d) tt) (λ x y m n. absurd (elim (subst (λ (l : List Frame). y ∈ l) (no_frames d) n) [ ]));
  }
    where
      fine : (t : ℕ) (f : Frame) → f ∈ during (burst τ d) t → Licensed τ t f
      fine zero f m = let (k, l, e) = a_full τ.n f m in subst (λ (x : Frame). Licensed τ 0 x) (sym e) (record {
        queued_at = refl;
        row_is = l;
        wait_most = le_refl (τ.J k);
        len_least = sane.some_bits k l;
        len_most = le_refl (τ.C k);
      })
      fine (suc t) f m = absurd (elim (subst (λ (l : List Frame). f ∈ l) (quiet d t) m) [ ])

  pub burst_long : (d : ℕ) → length (burst τ d) ≡ suc d
  burst_long d = ap suc (length-replicate d [])

-- ---- ByHand meets all that is asked

-- each of a list
abbrev Each : {A : Type 0} → (A → Type 0) → List A → Type 0
Each P [] = Unit {0}
Each P (x ∷ l) = P x × Each P l

each : {A : Type 0} (P : A → Type 0) (l : List A) → Each P l → (x : A) → x ∈ l → P x
each P [] h x m = elim m [ ]
each P (y ∷ l) h x (Memᴰ.head e) = subst P (sym e) h.0
each P (y ∷ l) h x (Memᴰ.tail m) = each P l h.1 x m

-- each of four rows
four : (P : ℕ → Type 0) → P 0 → P 1 → P 2 → P 3 → (k : ℕ) → k < 4 → P k
four P a b c d zero l = a
four P a b c d (suc zero) l = b
four P a b c d (suc (suc zero)) l = c
four P a b c d (suc (suc (suc zero))) l = d
four P a b c d (suc (suc (suc (suc k)))) l = absurd (omega arith)

pub sane : Sane table
sane = record {
  period = four (λ k. 1 ≤ table.T k) (lit≤ tt) (lit≤ tt) (lit≤ tt) (lit≤ tt);
  some_bits = four (λ k. 1 ≤ table.C k) (lit≤ tt) (lit≤ tt) (lit≤ tt) (lit≤ tt);
  within = four (λ k. table.E k + table.J k ≤ table.T k) (lit≤ tt) (lit≤ tt) (lit≤ tt) (lit≤ tt);
}

pub ordered : Order table order
unfolding bad_entry lowest or_else any_below
ordered = order_of table order refl (none_lowest 4 (bad_entry 4 order) refl)

pub together : Together table order
unfolding resumes lowest or_else any_below
together = together_of table order refl (none_lowest 4 (resumes table.key order) refl)

-- bit time by bit time
abbrev AllLicensed : ℕ → Run → Type 0
AllLicensed t [] = Unit {0}
AllLicensed t (fs ∷ r) = Each (Licensed table t) fs × AllLicensed (suc t) r

all_licensed : (r : Run) (t i u : ℕ) → t + i ≡ u → AllLicensed t r → (f : Frame) → f ∈ during r i → Licensed table u f
all_licensed [] t i u e h f m = elim m [ ]
all_licensed (fs ∷ r) t zero u e h f m = let q : t ≡ u = omega arith in subst (λ (j : ℕ). Licensed table j f) q (each (Licensed table t) fs h.0 f m)
all_licensed (fs ∷ r) t (suc i) u e h f m = all_licensed r (suc t) i u (omega arith) h.1 f m

-- a frame whose numbers the licence allows, by computing
ok : (f : Frame) → Is (ltb f.row 4) → Is (leb f.wait (table.J f.row)) → Is (leb 1 f.len) → Is (leb f.len (table.C f.row)) → Licensed table f.queued f
ok f a b c d = record { queued_at = refl; row_is = lit< a; wait_most = lit≤ b; len_least = lit≤ c; len_most = lit≤ d }

pub legal : Legal table run
unfolding frames
legal = record {
  licensed = λ t. all_licensed run 0 t t (omega arith) (
    (ok blocker tt tt tt tt, tt),
    ((ok older tt tt tt tt, (ok first tt tt tt tt, tt)), ((ok short tt tt tt tt, tt), (tt, (tt, (tt, (tt, (tt, (tt, (tt, (tt, ((ok second tt tt tt tt, tt), (tt, (tt, (tt, (tt, (tt, (tt, (tt, (tt, (tt, tt)))))))))))))))))))),
  );
  spaced =
      spaced_by blocker (older ∷ first ∷ short ∷ second ∷ []) (λ e. absurd (omega arith), (λ e. absurd (omega arith), (λ e. absurd (omega arith), (λ e. absurd (omega arith), tt))))
      (spaced_by older (first ∷ short ∷ second ∷ []) (λ e. absurd (omega arith), (λ e. absurd (omega arith), (λ e. absurd (omega arith), tt)))
      (spaced_by first (short ∷ second ∷ []) (λ e. absurd (omega arith), (λ e. inl (lit≤ tt), tt))
      (spaced_by short (second ∷ []) (λ e. absurd (omega arith), tt)
      (spaced_by second [] tt tt))));
}
  where
    spaced_by : (x : Frame) (l : List Frame) → Each (λ y. x.row ≡ y.row → Apart table x y) l → Spaced table l → Spaced table (x ∷ l)
    spaced_by x l h s = (each (λ y. x.row ≡ y.row → Apart table x y) l h, s)

-- the figures, by hand: of row 0, w = 5; of the FIFO, 9 + 2 = 11, 9 + 4 = 13; of row 3, 5 + 9 = 14, 5 + 11 = 16
pub figure_0 : FigureAt table order 0 7
unfolding base demand over load ceil mem
figure_0 = figure_climbed table (own table order 0) (above table order 0) (below table order 0) 1 refl (lit≤ tt)

pub figure_1 : FigureAt table order 1 16
unfolding base demand over load ceil mem
figure_1 = figure_climbed table (own table order 1) (above table order 1) (below table order 1) 2 refl (lit≤ tt)

pub figure_3 : FigureAt table order 3 21
unfolding base demand over load ceil mem
figure_3 = figure_climbed table (own table order 3) (above table order 3) (below table order 3) 2 refl (lit≤ tt)

-- what the theorem says of each frame of the run: it is sent within the figure of its row
pub promised : (f : Frame) → f ∈ frames run → SentBy table order run f (f.queued + at figures f.row)
unfolding frames
promised f m = each (λ x. SentBy table order run x (x.queued + at figures x.row)) (blocker ∷ older ∷ first ∷ short ∷ second ∷ []) (by 3 21 figure_3 0 blocker (Memᴰ.head refl) (lit< tt) tt (lit≤ tt), (by 1 16 figure_1 1 older (Memᴰ.head refl) (lit< tt) tt (lit≤ tt), (by 0 7 figure_0 1 first (Memᴰ.tail (Memᴰ.head refl)) (lit< tt) tt (lit≤ tt), (by 1 16 figure_1 2 short (Memᴰ.head refl) (lit< tt) tt (lit≤ tt), (by 0 7 figure_0 11 second (Memᴰ.head refl) (lit< tt) tt (lit≤ tt), tt))))) f m
  where
    by : (p R : ℕ) → FigureAt table order p R → (q : ℕ) (x : Frame) → x ∈ during run q → p < 4 → Is (own table order p x.row) → q + R ≤ 21 → SentBy table order run x (q + R)
    by p R figure q x i inside mine long = kept table sane order ordered together run legal p R inside figure q x i mine long

-- row 0, queued at 1, has the figure 7, which is up at 8. It was sent one bit time before that, and at no other time
pub just : (e : ℕ) → SentAt table order run first e → e ≡ 7
just e m = go (subst (λ (l : List Sent). sent first e ∈ l) log_by_hand m)
  where
    go : sent first e ∈ (sent short 15 ∷ sent second 13 ∷ sent older 11 ∷ sent first 7 ∷ sent blocker 5 ∷ []) → e ≡ 7
    go (Memᴰ.head q) = absurd (omega (arith, ap (λ (x : Sent). x.frame.row) q))
    go (Memᴰ.tail (Memᴰ.head q)) = absurd (omega (arith, ap (λ (x : Sent). x.frame.queued) q))
    go (Memᴰ.tail (Memᴰ.tail (Memᴰ.head q))) = absurd (omega (arith, ap (λ (x : Sent). x.frame.row) q))
    go (Memᴰ.tail (Memᴰ.tail (Memᴰ.tail (Memᴰ.head q)))) = ap (λ (x : Sent). x.at) q
    go (Memᴰ.tail (Memᴰ.tail (Memᴰ.tail (Memᴰ.tail (Memᴰ.head q))))) = absurd (omega (arith, ap (λ (x : Sent). x.frame.row) q))
    go (Memᴰ.tail (Memᴰ.tail (Memᴰ.tail (Memᴰ.tail (Memᴰ.tail q))))) = elim q [ ]
