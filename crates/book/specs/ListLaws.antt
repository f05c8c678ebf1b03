-- Lists put together and cut up: laws of `sets`, `part`, `each` and `laid_on`.
-- Assumes nothing.
use Rattle.std.specs.Prelude.{ℕ, zero, suc, ◌+◌, ◌*◌, ◌-◌, ◌≤◌, ◌<◌, ◌≡◌, refl, List, [], ◌∷◌, ◌++◌, length, take, drop, set}
use Rattle.std.proofs.Common.{le_of_suc-le-suc, arith, sym, ap, ap₂, subst, ◌∙◌, append_assoc, length-append, length-drop, drop_of_length-le, take-suc, drop-cons, get_or-drop, drop-drop, take-add, take_at, length-take-le}
use Rattle.std.proofs.lemmas.List.Edits.{sets, sets-eq}
use Rattle.std.proofs.Math.Seq.{length-sets, drop-append-add}
use Rattle.std.proofs.lemmas.List.{set_comm}
use Rattle.sums.specs.Columns.{at}
use Rattle.book.specs.Bytes.{part, each, laid_on, Below}

-- ---- stores

pub sets_append : (l : List ℕ) (i : ℕ) (xs ys : List ℕ) → sets l i (xs ++ ys) ≡ sets (sets l i xs) (i + length xs) ys
sets_append l i [] ys = ap (λ (k : ℕ). sets l k ys) (omega arith)
sets_append l i (x ∷ xs) ys = sets_append (set l i x) (suc i) xs ys ∙ ap (λ (k : ℕ). sets (sets (set l i x) (suc i) xs) k ys) (omega arith)

-- the last one may be stored first
pub sets_last : (l : List ℕ) (i : ℕ) (xs : List ℕ) (a : ℕ) → sets l i (xs ++ (a ∷ [])) ≡ sets (set l (i + length xs) a) i xs
sets_last l i [] a = ap (λ (k : ℕ). set l k a) (omega arith)
sets_last l i (x ∷ xs) a =
    let there : suc i + length xs ≡ i + suc (length xs) = omega arith in
    sets_last (set l i x) (suc i) xs a
    ∙ ap (λ (m : List ℕ). sets m (suc i) xs) (set_comm l i (suc i + length xs) x a (λ e. omega arith) ∙ ap (λ (k : ℕ). set (set l k a) i x) there)

-- so a list that becomes another's equal by stores has its length
pub sets_length : (l l' : List ℕ) (i i' : ℕ) (xs xs' : List ℕ) → sets l i xs ≡ sets l' i' xs' → length l ≡ length l'
sets_length l l' i i' xs xs' e = sym (length-sets l i xs) ∙ ap length e ∙ length-sets l' i' xs'

-- stored from the start, they are laid on the list
pub sets_laid : (l xs : List ℕ) → length xs ≤ length l → sets l 0 xs ≡ laid_on xs l
sets_laid l xs h = let z : 0 + length xs ≡ length xs = omega arith in sets-eq xs l 0 (omega arith) ∙ ap (λ (k : ℕ). xs ++ drop k l) z

pub take_laid : (l xs : List ℕ) {n : ℕ} → length xs ≡ n → take n (laid_on xs l) ≡ xs
take_laid l xs {n} e = take_at xs (drop (length xs) l) n e

-- ---- parts

pub part_length : (l : List ℕ) (p w : ℕ) → p + w ≤ length l → length (part l p w) ≡ w
part_length l p w h = length-take-le w (drop p l) (omega (arith, length-drop p l))

-- one entry more, at either end
pub part_next : (l : List ℕ) (p w : ℕ) → p + w < length l → part l p (w + 1) ≡ part l p w ++ (at l (p + w) ∷ [])
part_next l p w h =
    let more : w + 1 ≡ suc w = omega arith in
    ap (λ (k : ℕ). take k (drop p l)) more
    ∙ take-suc (drop p l) w 0 (omega (arith, length-drop p l))
    ∙ ap (λ (b : ℕ). part l p w ++ (b ∷ [])) (get_or-drop p l w 0)

pub part_first : (l : List ℕ) (p w : ℕ) → p < length l → part l p (suc w) ≡ at l p ∷ part l (p + 1) w
part_first l p w h = let more : suc p ≡ p + 1 = omega arith in ap (take (suc w)) (drop-cons l p 0 h) ∙ ap (λ (k : ℕ). at l p ∷ part l k w) more

pub part_below : (bound : ℕ) (l : List ℕ) (p w : ℕ) → 0 < bound → Below bound l → Below bound (part l p w)
part_below bound l p w z h = taken w (drop p l) (dropped p l h)
  where
    dropped : (p : ℕ) (l : List ℕ) → Below bound l → Below bound (drop p l)
    dropped p l h i = subst (λ (x : ℕ). x < bound) (sym (get_or-drop p l i 0)) (h (p + i))

    taken : (w : ℕ) (l : List ℕ) → Below bound l → Below bound (take w l)
    taken zero l h i = z
    taken (suc w) [] h i = z
    taken (suc w) (x ∷ l) h zero = h 0
    taken (suc w) (x ∷ l) h (suc i) = taken w l (λ j. h (suc j)) i

-- parts that follow one another are one
pub part_join : (l : List ℕ) (p v w : ℕ) → part l p v ++ part l (p + v) w ≡ part l p (v + w)
part_join l p v w = ap (λ (r : List ℕ). part l p v ++ take w r) (sym (drop-drop v p l)) ∙ sym (take-add v w (drop p l))

-- ---- one after the other

pub each_cong : (f g : ℕ → List ℕ) (i k : ℕ) → ((j : ℕ) → i ≤ j → j < i + k → f j ≡ g j) → each f i k ≡ each g i k
each_cong f g i zero h = refl
each_cong f g i (suc k) h = ap₂ (λ (x y : List ℕ). x ++ y) (h i (omega arith) (omega arith)) (each_cong f g (i + 1) k (λ j a b. h j (omega arith) (omega arith)))

-- one of those from i to n - 1, and the others
pub each_step : (f : ℕ → List ℕ) (i n : ℕ) → i < n → each f i (n - i) ≡ f i ++ each f (i + 1) (n - (i + 1))
each_step f i n h = let left : n - i ≡ suc (n - (i + 1)) = omega arith in ap (each f i) left

-- what is left to store, before and after one of them is
pub each_stored : (l : List ℕ) (f : ℕ → List ℕ) (p q i n : ℕ) → q ≡ p + length (f i) → i < n → sets (sets l p (f i)) q (each f (i + 1) (n - (i + 1))) ≡ sets l p (each f i (n - i))
each_stored l f p q i n there h =
    ap (λ (e : ℕ). sets (sets l p (f i)) e (each f (i + 1) (n - (i + 1)))) there ∙ sym (sets_append l p (f i) (each f (i + 1) (n - (i + 1)))) ∙ ap (sets l p) (sym (each_step f i n h))

module _ (f : ℕ → List ℕ) (w : ℕ) (long : (j : ℕ) → length (f j) ≡ w) where
  pub each_length : (i k : ℕ) → length (each f i k) ≡ w * k
  each_length i zero = omega arith
  each_length i (suc k) = length-append (f i) (each f (i + 1) k) ∙ omega (arith, long i, each_length (i + 1) k)

  -- what stands at j
  pub each_part : (i k j : ℕ) (rest : List ℕ) → j < k → part (each f i k ++ rest) (w * j) w ≡ f (i + j)
  each_part i zero j rest h = absurd (omega arith)
  each_part i (suc k) zero rest h =
      let start : w * 0 ≡ 0 = omega arith in
      let first : i ≡ i + 0 = omega arith in
      ap₂ (λ (l : List ℕ) (p : ℕ). part l p w) (append_assoc (f i) (each f (i + 1) k) rest) start ∙ take_at (f i) (each f (i + 1) k ++ rest) w (long i) ∙ ap f first
  each_part i (suc k) (suc j) rest h =
      let behind : w * suc j ≡ length (f i) + w * j = omega (arith, long i) in
      let next : i + 1 + j ≡ i + suc j = omega arith in
      ap₂ (λ (l : List ℕ) (p : ℕ). part l p w) (append_assoc (f i) (each f (i + 1) k) rest) behind
      ∙ ap (take w) (drop-append-add (f i) (each f (i + 1) k ++ rest) (w * j))
      ∙ each_part (i + 1) k j rest (le_of_suc-le-suc h)
      ∙ ap f next

-- equal parts, one after the other, are the whole
pub each_parts : (l : List ℕ) (p w i k : ℕ) → each (λ j. part l (p + w * j) w) i k ≡ part l (p + w * i) (w * k)
each_parts l p w i zero = let z : w * 0 ≡ 0 = omega arith in ap (λ (n : ℕ). part l (p + w * i) n) (sym z)
each_parts l p w i (suc k) =
    let next : p + w * (i + 1) ≡ p + w * i + w = omega arith in
    let more : w + w * k ≡ w * suc k = omega arith in
    ap (λ (r : List ℕ). part l (p + w * i) w ++ r) (each_parts l p w (i + 1) k ∙ ap (λ (q : ℕ). part l q (w * k)) next)
    ∙ part_join l (p + w * i) w (w * k)
    ∙ ap (λ (n : ℕ). part l (p + w * i) n) more

-- a list entry by entry
pub each_entries : (l : List ℕ) (i k : ℕ) → i + k ≡ length l → each (λ j. at l j ∷ []) i k ≡ drop i l
each_entries l i zero h = sym (drop_of_length-le l {i = i} (omega arith))
each_entries l i (suc k) h =
    let next : i + 1 ≡ suc i = omega arith in
    ap (λ (r : List ℕ). at l i ∷ r) (each_entries l (i + 1) k (omega arith) ∙ ap (λ (q : ℕ). drop q l) next) ∙ sym (drop-cons l i 0 (omega arith))

-- and back: the entry at j
pub each_at : (v : ℕ → ℕ) (i k j : ℕ) → j < k → at (each (λ m. v m ∷ []) i k) j ≡ v (i + j)
each_at v i zero j h = absurd (omega arith)
each_at v i (suc k) zero h = ap v (omega arith)
each_at v i (suc k) (suc j) h = each_at v (i + 1) k j (le_of_suc-le-suc h) ∙ ap v (omega arith)

pub each_below : (v : ℕ → ℕ) (i k bound : ℕ) → 0 < bound → ((m : ℕ) → m < i + k → v m < bound) → Below bound (each (λ m. v m ∷ []) i k)
each_below v i zero bound z h j = z
each_below v i (suc k) bound z h zero = h i (omega arith)
each_below v i (suc k) bound z h (suc j) = each_below v (i + 1) k bound z (λ m l. h m (omega arith)) j
