-- A list of rows under new numbers: those that φ takes a new number to stand one behind the other as before, and the others are left out.
-- Assumes nothing.
use Rattle.std.specs.Prelude.{ℕ, zero, suc, ◌<◌, ◌≡◌, ◌⊎◌, List, [], ◌∷◌, length, T as Is}
use Rattle.std.proofs.Common.{zero-le, suc-le-suc, le_of_suc-le-suc, arith, sym, ◌∙◌, inl, inr}
use Rattle.sums.specs.Columns.{at}
use Rattle.order.specs.Orders.{mem}
use Rattle.order.specs.Lists.{mem_nil, mem_here, mem_there, mem_cases}

-- o' has the rows of o that are φ of a number, as these numbers; spot is the place in o of what stands at a place of o'
pub record Renumbered (φ : ℕ → ℕ) (o o' : List ℕ) : Type 0 where
  pub spot : ℕ → ℕ
  pub inside : (p : ℕ) → p < length o' → spot p < length o
  pub same : (p : ℕ) → p < length o' → at o (spot p) ≡ φ (at o' p)
  pub rises : (a b : ℕ) → a < b → b < length o' → spot a < spot b
  pub every : (k : ℕ) → Is (mem o (φ k)) → Is (mem o' k)

module _ (φ : ℕ → ℕ) {x : ℕ} {o o' : List ℕ} (h : Renumbered φ o o') where
  left_out : ((k : ℕ) → φ k ≡ x → ⊥) → Renumbered φ (x ∷ o) o'
  left_out d =
      record {
        spot = λ p. suc (h.spot p);
        inside = λ p l. suc-le-suc (h.inside p l);
        same = h.same;
        rises = λ a b l m. suc-le-suc (h.rises a b l m);
        every = λ k m. go k (mem_cases x o (φ k) m);
      }
    where
      go : (k : ℕ) → (φ k ≡ x) ⊎ Is (mem o (φ k)) → Is (mem o' k)
      go k (inl e) = absurd (d k e)
      go k (inr m) = h.every k m

  put_first : ((j k : ℕ) → φ j ≡ φ k → j ≡ k) → (y : ℕ) → φ y ≡ x → Renumbered φ (x ∷ o) (y ∷ o')
  put_first apart y e = record { spot = spot; inside = inside; same = same; rises = rises; every = λ k m. go k (mem_cases x o (φ k) m) }
    where
      spot : ℕ → ℕ
      spot zero = 0
      spot (suc p) = suc (h.spot p)

      inside : (p : ℕ) → p < suc (length o') → spot p < suc (length o)
      inside zero l = suc-le-suc zero-le
      inside (suc p) l = suc-le-suc (h.inside p (le_of_suc-le-suc l))

      same : (p : ℕ) → p < suc (length o') → at (x ∷ o) (spot p) ≡ φ (at (y ∷ o') p)
      same zero l = sym e
      same (suc p) l = h.same p (le_of_suc-le-suc l)

      rises : (a b : ℕ) → a < b → b < suc (length o') → spot a < spot b
      rises a zero l m = absurd (omega arith)
      rises zero (suc b) l m = suc-le-suc zero-le
      rises (suc a) (suc b) l m = suc-le-suc (h.rises a b (le_of_suc-le-suc l) (le_of_suc-le-suc m))

      go : (k : ℕ) → (φ k ≡ x) ⊎ Is (mem o (φ k)) → Is (mem (y ∷ o') k)
      go k (inl q) = rw (apart k y (q ∙ sym e)) (mem_here y o')
      go k (inr m) = mem_there y o' k (h.every k m)

-- any list can be renumbered so, where φ takes no two numbers to one and each x is φ of a number or known to be of none
pub renumbered : (φ : ℕ → ℕ) → ((j k : ℕ) → φ j ≡ φ k → j ≡ k) → ((x : ℕ) → ((k : ℕ) × (φ k ≡ x)) ⊎ ((k : ℕ) → φ k ≡ x → ⊥)) → (o : List ℕ) → (o' : List ℕ) × Renumbered φ o o'
renumbered φ apart reach [] =
    ([], record { spot = λ p. p; inside = λ p l. l; same = λ p l. absurd (omega arith); rises = λ a b l m. l; every = λ k m. absurd (mem_nil (φ k) m) })
renumbered φ apart reach (x ∷ o) = go (reach x) (renumbered φ apart reach o)
  where
    go : ((k : ℕ) × (φ k ≡ x)) ⊎ ((k : ℕ) → φ k ≡ x → ⊥) → (o' : List ℕ) × Renumbered φ o o' → (o' : List ℕ) × Renumbered φ (x ∷ o) o'
    go (inl y) l = (y.0 ∷ l.0, put_first φ l.1 apart y.0 y.1)
    go (inr d) l = (l.0, left_out φ l.1 d)
