-- Why C has so many stuff bits: CAN's rule, bit by bit, and the promise that the C of forms 1 and 2 is the most bit times that it makes of their
-- bits. It is kept in proofs/Stuffing. Definitions only.
-- Assumes nothing.
use Rattle.std.specs.Prelude.{ℕ, suc, ◌+◌, ◌*◌, ◌≤◌, Bool, true, false, cond, not, List, [], ◌∷◌, ◌≡◌, eqb, length}
use Rattle.licence.specs.declared.Length.TheVariants.{Std, Ext}
use Rattle.licence.specs.Row.{bit_times}

-- ---- CAN's rule (ISO 11898-1): after five equal bits on the wire, also where they are the last, one of the other value is put in, and that
-- one 'itself counts toward the next run of equal bits'

-- the length of the run of equal bits that bit x ends, sent after a run of k bits of value b
abbrev pub run : (b : Bool) (k : ℕ) (x : Bool) → ℕ
run true k x = cond x (suc k) 1
run false k x = cond x 1 (suc k)

-- what goes on the wire for the bits, sent after a run of k bits of value b
unfoldable pub wire : (b : Bool) (k : ℕ) → List Bool → List Bool
wire b k [] = []
wire b k (x ∷ bits) = x ∷ cond (eqb (run b k x) 5) (not x ∷ wire (not x) 1 bits) (wire x (run b k x) bits)

-- the bit times of a frame: its bits up to the end of the check sum are stuffed, starting with no run; the 13 after them, up to the next frame,
-- never are
abbrev pub sent_in : List Bool → ℕ
sent_in bits = length (wire false 0 bits) + 13

-- no n bits take longer than C, and some n bits take just that long (whether or not a frame can have them)
pub record Longest (n C : ℕ) : Type 0 where
  pub no_more : (bits : List Bool) → length bits ≡ n → sent_in bits ≤ C
  pub reached : (bits : List Bool) × (length bits ≡ n) × (sent_in bits ≡ C)

-- C of a frame with s bytes is the longest, in either format.
abbrev pub FramesLongest : Type 0
FramesLongest = (s : ℕ) → Longest (34 + 8 * s) (bit_times (Std s)) × Longest (54 + 8 * s) (bit_times (Ext s))

-- And it is as the header tells it: ten bit times for each byte.
abbrev pub FramesInTens : Type 0
FramesInTens = (s : ℕ) → (bit_times (Std s) ≡ 55 + 10 * s) × (bit_times (Ext s) ≡ 80 + 10 * s)
