-- Numbers as bytes: there and back, over any width, once for low byte first and from that for high byte first.
-- Assumes nothing.
use Rattle.std.specs.Prelude.{ℕ, zero, suc, ◌+◌, ◌*◌, ◌/◌, ◌%◌, ◌^◌, ◌<◌, ◌≡◌, refl, length}
use Rattle.std.proofs.Common.{pow-suc, div-lt_iff_lt-mul, arith, sym, ap, ap₂, ◌∙◌, lit<}
use mathlib.Core.List.{List, [], ◌∷◌, ◌++◌, reverse, reverse_aux, reverse-cons, reverse-append, reverse-reverse}
use Rattle.std.proofs.lemmas.List.{length-reverse}
use Rattle.book.specs.Bytes.{low, high, from_low, from_high, Below}

pub low_length : (w v : ℕ) → length (low w v) ≡ w
low_length zero v = refl
low_length (suc w) v = ap suc (low_length w (v / 256))

pub high_length : (w v : ℕ) → length (high w v) ≡ w
high_length w v = length-reverse (low w v) ∙ low_length w v

-- ---- the law of low byte first: a number that fits comes back, and so do bytes

pub from_low_lem : (w v : ℕ) → v < 256 ^ w → from_low (low w v) ≡ v
from_low_lem zero v l = let z : 256 ^ 0 ≡ 1 = refl in omega arith
from_low_lem (suc w) v l = let ih = from_low_lem w (v / 256) ((div-lt_iff_lt-mul (lit< tt)).1 (rw (pow-suc 256 w) at l)) in omega arith

pub low_from : (bytes : List ℕ) → Below 256 bytes → low (length bytes) (from_low bytes) ≡ bytes
low_from [] h = refl
low_from (b ∷ bytes) h =
    let rest : (b + 256 * from_low bytes) / 256 ≡ from_low bytes = omega (arith, h 0) in
    let byte : (b + 256 * from_low bytes) % 256 ≡ b = omega (arith, h 0) in
    ap₂ (λ (x : ℕ) (l : List ℕ). x ∷ l) byte (ap (low (length bytes)) rest ∙ low_from bytes (λ i. h (suc i)))

-- what bytes stand for fits
pub from_low_fits : (bytes : List ℕ) → Below 256 bytes → from_low bytes < 256 ^ length bytes
from_low_fits [] h = lit< tt
from_low_fits (b ∷ bytes) h = omega (arith, h 0, from_low_fits bytes (λ i. h (suc i)), pow-suc 256 (length bytes))

-- ---- the law of high byte first: the same from the other end

module _ (bound : ℕ) where
  below_cons : (b : ℕ) (l : List ℕ) → b < bound → Below bound l → Below bound (b ∷ l)
  below_cons b l h g zero = h
  below_cons b l h g (suc i) = g i

  below_turned : (l r : List ℕ) → Below bound l → Below bound r → Below bound (reverse_aux l r)
  below_turned [] r h g = g
  below_turned (b ∷ l) r h g = below_turned l (b ∷ r) (λ i. h (suc i)) (below_cons b r (h 0) g)

  below_reverse : (l : List ℕ) → 0 < bound → Below bound l → Below bound (reverse l)
  below_reverse l p h = below_turned l [] h (λ i. p)

pub from_high_lem : (w v : ℕ) → v < 256 ^ w → from_high (high w v) ≡ v
from_high_lem w v l = ap from_low (reverse-reverse (low w v)) ∙ from_low_lem w v l

pub high_from : (bytes : List ℕ) → Below 256 bytes → high (length bytes) (from_high bytes) ≡ bytes
high_from bytes h =
    ap (λ (w : ℕ). high w (from_high bytes)) (sym (length-reverse bytes)) ∙ ap reverse (low_from (reverse bytes) (below_reverse 256 bytes (lit< tt) h)) ∙ reverse-reverse bytes

-- ---- one byte more, at the low end

pub high_next : (w v : ℕ) → high (suc w) v ≡ high w (v / 256) ++ (v % 256 ∷ [])
high_next w v = reverse-cons (v % 256) (low w (v / 256))

pub from_high_next : (bytes : List ℕ) (b : ℕ) → from_high (bytes ++ (b ∷ [])) ≡ from_high bytes * 256 + b
from_high_next bytes b = ap from_low (reverse-append bytes (b ∷ [])) ∙ omega arith
