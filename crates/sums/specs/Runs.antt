-- Runs of places: which places are of a run, what is put together over them place by place, and two runs together: the greatest of
-- a run and of the one behind it, and a sum over the rows around a run, those before it and those behind it.
-- Assumes nothing.
use Rattle.std.specs.Prelude.{ℕ, zero, suc, ◌+◌, ◌≤◌, ◌<◌, max, ◌≡◌, refl, Bool, true, false, cond, ◌||◌, T as Is, leb, ltb}
use Rattle.std.proofs.Common.{zero-le, le_refl, arith, ap, ap₂, ◌∙◌, leb→le, le→leb, ltb→lt, lt→ltb, le-leb, le-ltb}
use Rattle.std.proofs.Math.Decide.{dec_lt}
use Rattle.std.proofs.Math.Bool.{or-true}
use Rattle.std.proofs.lemmas.Bool.{lt-leb}
use Rattle.sums.specs.Masks.{Mask, run, outside}
use Rattle.sums.specs.MaskLaws.{is_true, and_left, and_right, and_intro}
use Rattle.sums.specs.Sums.{over, sum_over, max_over}
use Rattle.sums.specs.Laws.{over_same, over_empty, over_next, over_beyond}

module _ (s e p : ℕ) where
  pub run_here : s ≤ p → p < e → Is (run s e p)
  run_here l h = and_intro (leb s p) (ltb p e) (le→leb s p l) (lt→ltb p e h)

  pub run_from : Is (run s e p) → s ≤ p
  run_from h = leb→le s p (and_left (leb s p) (ltb p e) h)

  pub run_to : Is (run s e p) → p < e
  run_to h = ltb→lt p e (and_right (leb s p) (ltb p e) h)

  pub run_true : s ≤ p → p < e → run s e p ≡ true
  run_true l h = is_true (run s e p) (run_here l h)

-- what is put together over a run: nothing before it, place by place in it, and no more behind it
module _ (op : ℕ → ℕ → ℕ) (z : ℕ) (zz : op z z ≡ z) (s e : ℕ) (f : ℕ → ℕ) where
  pub run_none : over op z s (run s e) f ≡ z
  run_none = over_empty op z zz (run s e) f s (λ k l h. omega (arith, run_from s e k h))

  pub run_next : (p : ℕ) → s ≤ p → p < e → over op z (p + 1) (run s e) f ≡ op (over op z p (run s e) f) (f p)
  run_next p l h = over_next op z p (run s e) f ∙ ap (λ (b : Bool). op (over op z p (run s e) f) (cond b (f p) z)) (run_true s e p l h)

  pub run_beyond : ((a b c : ℕ) → op (op a b) c ≡ op (op a c) b) → (n : ℕ) → e ≤ n → over op z n (run s e) f ≡ over op z e (run s e) f
  run_beyond swap n l = over_beyond op z zz swap e n (run s e) f l (λ k b i h. omega (arith, run_to s e k h))

-- over a mask that is two others together
over_parts : (op : ℕ → ℕ → ℕ) (z : ℕ) → z ≡ op z z → ((a b c d : ℕ) → op (op a b) (op c d) ≡ op (op a c) (op b d)) → (n : ℕ) (m x y : Mask) (f : ℕ → ℕ)
    → ((k : ℕ) → k < n → cond (m k) (f k) z ≡ op (cond (x k) (f k) z) (cond (y k) (f k) z)) → over op z n m f ≡ op (over op z n x f) (over op z n y f)
unfolding over
over_parts op z zz mix zero m x y f h = zz
over_parts op z zz mix (suc n) m x y f h = ap₂ op (over_parts op z zz mix n m x y f (λ k l. h k (omega arith))) (h n (le_refl (suc n))) ∙ mix _ _ _ _

-- the greatest over two masks together
max_one : (a b : Bool) (x : ℕ) → cond (a || b) x 0 ≡ max (cond b x 0) (cond a x 0)
max_one true true x = omega arith
max_one true false x = omega arith
max_one false true x = omega arith
max_one false false x = omega arith

pub max_join : (n : ℕ) (p q : Mask) (f : ℕ → ℕ) → max_over n (λ k. p k || q k) f ≡ max (max_over n q f) (max_over n p f)
max_join n p q f = over_parts max 0 refl (λ a b c d. omega arith) n (λ k. p k || q k) q p f (λ k l. max_one (p k) (q k) (f k))

-- of a run and of the one behind it
pub max_runs : (s e n : ℕ) (f : ℕ → ℕ) → s ≤ e → e ≤ n → max_over n (run s n) f ≡ max (max_over n (run e n) f) (max_over e (run s e) f)
max_runs s e n f se en =
    over_same max 0 n (run s n) (λ k. run s e k || run e n k) f f (λ k l. go k l (dec_lt k s) (dec_lt k e)) (λ k l. refl)
    ∙ (max_join n (run s e) (run e n) f ∙ ap (max (max_over n (run e n) f)) (run_beyond max 0 refl s e f (λ a b c. omega arith) n en))
  where
    go : (k : ℕ) → k < n → Dec (k < s) → Dec (k < e) → run s n k ≡ (run s e k || run e n k)
    go k l (yes a) d = rw (lt-leb s k a, lt-leb e k (omega arith))
    go k l (no a) (yes b) = rw (run_true s n k (omega arith) l, run_true s e k (omega arith) b)
    go k l (no a) (no b) = rw (run_true s n k (omega arith) l, run_true e n k (omega arith) l, or-true (run s e k))

-- a sum over the rows around a run: those before it, and those behind it
module _ (f : ℕ → ℕ) (n s e : ℕ) (se : s ≤ e) (en : e ≤ n) where
  apart : (k : ℕ) → k < n → cond (outside s e k) (f k) 0 ≡ cond (run 0 s k) (f k) 0 + cond (run e n k) (f k) 0
  apart k l = go (dec_lt k s) (dec_lt k e)
    where
      go : Dec (k < s) → Dec (k < e) → cond (outside s e k) (f k) 0 ≡ cond (run 0 s k) (f k) 0 + cond (run e n k) (f k) 0
      go (yes a) d = rw (lt-leb s k a, run_true 0 s k zero-le a, lt-leb e k (omega arith)) (omega arith)
      go (no a) (yes b) = rw (run_true s e k (omega arith) b, le-leb 0 k zero-le, le-ltb k s (omega arith), lt-leb e k b) (omega arith)
      go (no a) (no b) = rw (le-ltb k e (omega arith), le-leb s k (omega arith), le-leb 0 k zero-le, le-ltb k s (omega arith), run_true e n k (omega arith) l) (omega arith)

  pub sum_around : sum_over n (outside s e) f ≡ sum_over s (run 0 s) f + sum_over n (run e n) f
  sum_around =
      over_parts ◌+◌ 0 refl (λ a b c d. omega arith) n (outside s e) (run 0 s) (run e n) f apart
      ∙ ap (λ (x : ℕ). x + sum_over n (run e n) f) (run_beyond ◌+◌ 0 refl 0 s f (λ a b c. omega arith) n (omega arith))
