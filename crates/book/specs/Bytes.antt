-- Numbers as bytes in either order, and lists that are put together and cut up. Definitions only.
-- Assumes nothing.
use Rattle.std.specs.Prelude.{ℕ, zero, suc, ◌+◌, ◌*◌, ◌/◌, ◌%◌, ◌<◌, List, [], ◌∷◌, ◌++◌, reverse, length, take, drop}
use Rattle.sums.specs.Columns.{at}

-- the w bytes of v, low byte first
abbrev pub low : (w v : ℕ) → List ℕ
low zero v = []
low (suc w) v = v % 256 ∷ low w (v / 256)

-- high byte first: the same from the other end
abbrev pub high : (w v : ℕ) → List ℕ
high w v = reverse (low w v)

-- the number that bytes stand for, low byte first
abbrev pub from_low : List ℕ → ℕ
from_low [] = 0
from_low (b ∷ bytes) = b + 256 * from_low bytes

-- high byte first
abbrev pub from_high : List ℕ → ℕ
from_high bytes = from_low (reverse bytes)

-- w entries from place p on
abbrev pub part : List ℕ → (p w : ℕ) → List ℕ
part l p w = take w (drop p l)

-- f i, f (i + 1) and so on, k of them, one after the other
abbrev pub each : (ℕ → List ℕ) → (i k : ℕ) → List ℕ
each f i zero = []
each f i (suc k) = f i ++ each f (i + 1) k

-- entries laid on the first places of a list: what stands behind them stays
abbrev pub laid_on : List ℕ → List ℕ → List ℕ
laid_on xs list = xs ++ drop (length xs) list

-- every entry is below a bound: 256 for bytes, 4,294,967,296 for words
abbrev pub Below : (bound : ℕ) → List ℕ → Type 0
Below bound l = (i : ℕ) → at l i < bound
