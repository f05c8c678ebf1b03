-- A table that has an order that passes still has one with a row taken out: the same order without that row.
-- Assumes nothing.
use Rattle.std.specs.Prelude.{ℕ, suc, ◌-◌, ◌≤◌, ◌<◌, ◌≡◌, refl, ◌⊎◌, not, cond, List, length, take, drop, T as Is, ltb}
use Rattle.std.proofs.Common.{le_of_eq, arith, sym, ap, ◌∙◌, subst, inl, inr, eqb→eq, lt-ltb, le-ltb}
use Rattle.std.proofs.Math.Decide.{dec_lt, ℕ_discrete}
use Rattle.std.proofs.Math.Dec.{not_T}
use Rattle.sums.specs.Masks.{Mask, except}
use Rattle.sums.specs.MaskLaws.{and_left, and_right, and_intro}
use Rattle.sums.specs.Columns.{at}
use Rattle.order.specs.Table.{Table}
use Rattle.order.specs.Orders.{mem, Order, key_at, Together, own, above, below, AllPass, HasOrder}
use Rattle.order.specs.Lists.{mem_get_or, mem_at, one_place, no_repeat}
use Rattle.order.specs.Places.{take_at, at_take, drop_at, at_drop}
use Rattle.order.specs.Bands.{band_intro, not_band}
use Rattle.order.specs.Lighter.{Lighter, Into, lighter_passes}
use Rattle.order.specs.Renumbered.{Renumbered, renumbered}

-- the number that row k had before row r was taken out
unfoldable pub raise : ℕ → ℕ → ℕ
raise r k = cond (ltb k r) k (suc k)

-- τ' is τ without row r. Keys may be other numbers, as long as the same rows are one band
pub record Without (r : ℕ) (τ' τ : Table) : Type 0 where
  pub inside : r < τ.n
  pub count : suc τ'.n ≡ τ.n
  pub same_C : (k : ℕ) → k < τ'.n → τ'.C k ≡ τ.C (raise r k)
  pub same_T : (k : ℕ) → k < τ'.n → τ'.T k ≡ τ.T (raise r k)
  pub same_J : (k : ℕ) → k < τ'.n → τ'.J k ≡ τ.J (raise r k)
  pub same_E : (k : ℕ) → k < τ'.n → τ'.E k ≡ τ.E (raise r k)
  pub keep : (j k : ℕ) → j < τ'.n → k < τ'.n → τ'.key j ≡ τ'.key k → τ.key (raise r j) ≡ τ.key (raise r k)
  pub reflect : (j k : ℕ) → j < τ'.n → k < τ'.n → τ.key (raise r j) ≡ τ.key (raise r k) → τ'.key j ≡ τ'.key k

-- ---- the numbers before

module _ (r : ℕ) where
  -- what holds of k if k is before r, and of suc k if not, holds of the number before
  pub raise_by : (k : ℕ) (P : ℕ → Type 0) → (k < r → P k) → (r ≤ k → P (suc k)) → P (raise r k)
  unfolding raise
  raise_by k P f g = go (dec_lt k r)
    where
      go : Dec (k < r) → P (cond (ltb k r) k (suc k))
      go (yes h) = rw (lt-ltb k r h) (f h)
      go (no h) = rw (le-ltb k r (omega arith)) (g (omega arith))

  pub raise_inside : (k n : ℕ) → k < n → raise r k < suc n
  raise_inside k n l = raise_by k (λ x. x < suc n) (λ h. omega arith) (λ h. omega arith)

  inside_raise : (k n : ℕ) → r < suc n → raise r k < suc n → k < n
  inside_raise k n l = raise_by k (λ x. x < suc n → k < n) (λ h q. omega arith) (λ h q. omega arith)

  pub raise_apart : (j k : ℕ) → raise r j ≡ raise r k → j ≡ k
  raise_apart j k =
      raise_by j (λ x. x ≡ raise r k → j ≡ k) (λ h. raise_by k (λ y. j ≡ y → j ≡ k) (λ i q. q) (λ i q. omega arith))
      (λ h. raise_by k (λ y. suc j ≡ y → j ≡ k) (λ i q. omega arith) (λ i q. omega arith))

  -- every row but r has a new number
  raise_reach : (x : ℕ) → ((k : ℕ) × (raise r k ≡ x)) ⊎ ((k : ℕ) → raise r k ≡ x → ⊥)
  raise_reach x = go (dec_lt x r) (ℕ_discrete x r)
    where
      go : Dec (x < r) → Dec (x ≡ r) → ((k : ℕ) × (raise r k ≡ x)) ⊎ ((k : ℕ) → raise r k ≡ x → ⊥)
      go (yes h) d = inl (x, raise_by x (λ y. y ≡ x) (λ i. refl) (λ i. omega arith))
      go (no h) (yes e) = inr (λ k. raise_by k (λ y. y ≡ x → ⊥) (λ i q. omega arith) (λ i q. omega arith))
      go (no h) (no d) = inl (x - 1, raise_by (x - 1) (λ y. y ≡ x) (λ i. omega arith) (λ i. omega arith))

-- ---- the order without row r

module _ (r : ℕ) (τ' τ : Table) (out : Without r τ' τ) where
  raised : (k : ℕ) → k < τ'.n → raise r k < τ.n
  raised k l = omega (arith, raise_inside r k τ'.n l, out.count)

  lighter : ((k : ℕ) → k < τ.n → 0 < τ.T k) → Lighter (raise r) τ' τ
  lighter periods =
      record {
        inside = raised;
        apart = λ j k _ _. raise_apart r j k;
        period = λ k l. periods (raise r k) (raised k l);
        C_le = λ k l. le_of_eq (out.same_C k l);
        T_ge = λ k l. le_of_eq (sym (out.same_T k l));
        J_le = λ k l. le_of_eq (out.same_J k l);
        E_ge = λ k l. le_of_eq (sym (out.same_E k l));
      }

  module _ (o o' : List ℕ) (new : Renumbered (raise r) o o') (ord : Order τ o) where
    -- the row at place p of o' is, by its number before, the row at the spot of p in o
    stood : (m : Mask) (p k : ℕ) → p < length o' → at o' p ≡ k → Is (m (at o (new.spot p))) → Is (m (raise r k))
    stood m p k l e t = subst (λ (y : ℕ). Is (m y)) (new.same p l ∙ ap (raise r) e) t

    order : Order τ' o'
    order = record { range = range; every = λ k l. new.every k (ord.every (raise r k) (raised k l)); once = no_repeat o' once }
      where
        range : (k : ℕ) → Is (mem o' k) → k < τ'.n
        range k h =
            let s = mem_at o' k h in
            let b = ord.range (raise r k) (stood (mem o) s.0 k s.1 s.2 (mem_get_or o (new.spot s.0) (new.inside s.0 s.1))) in
            inside_raise r k τ'.n (omega (arith, out.inside, out.count)) (omega (arith, out.count))

        once : (i j : ℕ) → i < j → j < length o' → at o' i ≡ at o' j → ⊥
        once i j l b e =
            let one = new.same i (omega arith) ∙ (ap (raise r) e ∙ sym (new.same j b)) in
            omega (arith, new.rises i j l b, one_place o (new.spot i) (new.spot j) ord.once (new.inside i (omega arith)) (new.inside j b) one)

    module _ (p : ℕ) (b : p < length o') where
      row : at o' p < τ'.n
      row = order.range (at o' p) (mem_get_or o' p b)

      -- a row is of the band at place p exactly if it was of the band there before
      was_of_band : (k : ℕ) → k < τ'.n → τ'.key k ≡ key_at τ' o' p → τ.key (raise r k) ≡ key_at τ o (new.spot p)
      was_of_band k l e = out.keep k (at o' p) l row e ∙ ap τ.key (sym (new.same p b))

      still_of_band : (k : ℕ) → k < τ'.n → τ.key (raise r k) ≡ key_at τ o (new.spot p) → τ'.key k ≡ key_at τ' o' p
      still_of_band k l e = out.reflect k (at o' p) l row (e ∙ ap τ.key (new.same p b))

      into_own : Into (raise r) τ'.n (own τ' o' p) (own τ o (new.spot p))
      into_own k l t = band_intro τ (key_at τ o (new.spot p)) (raise r k) (was_of_band k l (eqb→eq (τ'.key k) (key_at τ' o' p) t))

      into_others : (m' m : Mask) → ((k : ℕ) → Is (m' k) → Is (m (raise r k))) → Into (raise r) τ'.n (except m' (own τ' o' p)) (except m (own τ o (new.spot p)))
      into_others m' m s k l t =
          and_intro (m (raise r k)) (not (own τ o (new.spot p) (raise r k))) (s k (and_left (m' k) (not (own τ' o' p k)) t))
          (not_T (own τ o (new.spot p) (raise r k)) (λ u. not_band τ' (key_at τ' o' p) k (and_right (m' k) (not (own τ' o' p k)) t) (still_of_band k l (eqb→eq (τ.key (raise r k)) (key_at τ o (new.spot p)) u))))

      before : (k : ℕ) → Is (mem (take p o') k) → Is (mem (take (new.spot p) o) (raise r k))
      before k h =
          let s = take_at o' p k h in
          stood (mem (take (new.spot p) o)) s.0 k s.2 s.3 (at_take o (new.spot p) (new.spot s.0) (new.rises s.0 p s.1 b) (new.inside s.0 s.2))

      behind : (k : ℕ) → Is (mem (drop (suc p) o') k) → Is (mem (drop (suc (new.spot p)) o) (raise r k))
      behind k h =
          let s = drop_at o' p k h in
          stood (mem (drop (suc (new.spot p)) o)) s.0 k s.2 s.3 (at_drop o (new.spot p) (new.spot s.0) (new.rises p s.0 s.1 s.2) (new.inside s.0 s.2))

    together : Together τ o → Together τ' o'
    together tog a b c ab bc hc e =
        still_of_band a (omega arith) (at o' b) (row b (omega arith))
        (ap τ.key (sym (new.same b (omega arith))) ∙ tog (new.spot a) (new.spot b) (new.spot c) (new.rises a b ab (omega arith)) (new.rises b c bc hc) (new.inside c hc)
        (ap τ.key (new.same a (omega arith)) ∙ was_of_band c hc (at o' a) (row a (omega arith)) e))

    passing : ((k : ℕ) → k < τ.n → 0 < τ.T k) → AllPass τ o → AllPass τ' o'
    passing periods all p b =
        lighter_passes (raise r) τ' τ (lighter periods) (own τ' o' p) (above τ' o' p) (below τ' o' p) (own τ o (new.spot p)) (above τ o (new.spot p)) (below τ o (new.spot p))
        (at o' p) (row p b) (band_intro τ' (key_at τ' o' p) (at o' p) refl) (into_own p b)
        (into_others p b (mem (take p o')) (mem (take (new.spot p) o)) (before p b)) (into_others p b (mem (drop (suc p) o')) (mem (drop (suc (new.spot p)) o)) (behind p b))
        (all (new.spot p) (new.inside p b))

-- with row r taken out, some order still passes
pub withdrawn_order : (r : ℕ) (τ' τ : Table) → Without r τ' τ → ((k : ℕ) → k < τ.n → 0 < τ.T k) → HasOrder τ → HasOrder τ'
withdrawn_order r τ' τ out periods (o, ord, tog, all) =
    let s = renumbered (raise r) (raise_apart r) (raise_reach r) o in
    (s.0, order r τ' τ out o s.0 s.1 ord, together r τ' τ out o s.0 s.1 ord tog, passing r τ' τ out o s.0 s.1 ord periods all)
