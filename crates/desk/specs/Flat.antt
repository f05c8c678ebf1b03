-- Rows of six words laid one behind the other: the words of the first k rows, and of the rows from k on.
-- Assumes nothing.
use Rattle.std.specs.Prelude.{ℕ, zero, suc, ◌+◌, ◌-◌, ◌*◌, ◌<◌, ◌≡◌, refl, List, [], ◌∷◌, ◌++◌, length, take, drop}
use Rattle.std.proofs.Common.{arith, sym, ap, ap₂, ◌∙◌, append_assoc, append-nil, length-append, length-drop, length-take-le}
use Rattle.std.proofs.Math.Seq.{take-nil, drop-nil, take-append-add, drop-append-add}
use Rattle.desk.specs.History.{without, flat, Sixes}

pub sixes_append : (xs ys : List (List ℕ)) → Sixes xs → Sixes ys → Sixes (xs ++ ys)
sixes_append [] ys h k = k
sixes_append (x ∷ xs) ys h k = (h.0, sixes_append xs ys h.1 k)

sixes_take : (k : ℕ) (rows : List (List ℕ)) → Sixes rows → Sixes (take k rows)
sixes_take zero rows h = tt
sixes_take (suc k) [] h = tt
sixes_take (suc k) (row ∷ rows) h = (h.0, sixes_take k rows h.1)

sixes_drop : (k : ℕ) (rows : List (List ℕ)) → Sixes rows → Sixes (drop k rows)
sixes_drop zero rows h = h
sixes_drop (suc k) [] h = tt
sixes_drop (suc k) (row ∷ rows) h = sixes_drop k rows h.1

flat_append : (xs ys : List (List ℕ)) → flat (xs ++ ys) ≡ flat xs ++ flat ys
unfolding flat
flat_append [] ys = refl
flat_append (x ∷ xs) ys = ap (λ (r : List ℕ). x ++ r) (flat_append xs ys) ∙ sym (append_assoc x (flat xs) (flat ys))

pub flat_last : (rows : List (List ℕ)) (row : List ℕ) → flat (rows ++ (row ∷ [])) ≡ flat rows ++ row
unfolding flat
flat_last rows row = flat_append rows (row ∷ []) ∙ ap (λ (r : List ℕ). flat rows ++ r) (append-nil row)

flat_take : (k : ℕ) (rows : List (List ℕ)) → Sixes rows → take (k * 6) (flat rows) ≡ flat (take k rows)
unfolding flat
flat_take zero rows h = refl
flat_take (suc k) [] h = take-nil (suc k * 6)
flat_take (suc k) (row ∷ rows) h =
    let n : suc k * 6 ≡ length row + k * 6 = omega (arith, h.0) in
    ap (λ (m : ℕ). take m (row ++ flat rows)) n ∙ take-append-add row (flat rows) (k * 6) ∙ ap (λ (r : List ℕ). row ++ r) (flat_take k rows h.1)

flat_drop : (k : ℕ) (rows : List (List ℕ)) → Sixes rows → drop (k * 6) (flat rows) ≡ flat (drop k rows)
unfolding flat
flat_drop zero rows h = refl
flat_drop (suc k) [] h = drop-nil (suc k * 6)
flat_drop (suc k) (row ∷ rows) h =
    let n : suc k * 6 ≡ length row + k * 6 = omega (arith, h.0) in
    ap (λ (m : ℕ). drop m (row ++ flat rows)) n ∙ drop-append-add row (flat rows) (k * 6) ∙ flat_drop k rows h.1

module _ (k : ℕ) (rows : List (List ℕ)) (h : Sixes rows) where
  pub sixes_without : Sixes (without k rows)
  sixes_without = sixes_append (take k rows) (drop (suc k) rows) (sixes_take k rows h) (sixes_drop (suc k) rows h)

  pub flat_without : take (k * 6) (flat rows) ++ drop (k * 6 + 6) (flat rows) ≡ flat (without k rows)
  flat_without =
      let n : k * 6 + 6 ≡ suc k * 6 = omega arith in
      ap₂ ◌++◌ (flat_take k rows h) (ap (λ (m : ℕ). drop m (flat rows)) n ∙ flat_drop (suc k) rows h) ∙ sym (flat_append (take k rows) (drop (suc k) rows))

  pub length_without : k < length rows → length (without k rows) ≡ length rows - 1
  length_without b = omega (arith, length-append (take k rows) (drop (suc k) rows), length-take-le k rows (omega arith), length-drop (suc k) rows)
