-- One row of the licence table, after document 01: which words are allowed, the record that a row is read into, its length C,
-- its time allowed E and its band's key. Definitions only: what follows from them is in Laws and Stuffing.
-- Assumes nothing.
use Rattle.std.specs.Prelude.{ℕ, ◌+◌, ◌-◌, ◌*◌, ◌/◌, Bool, cond, not, ◌&&◌, List, leb, eqb, get_or, Result, Ok, Err}
use Rattle.licence.specs.declared.Length.{Length}
use Rattle.licence.specs.declared.Length.TheVariants.{Bits, Std, Ext}
use Rattle.licence.specs.declared.Queue.{Queue}
use Rattle.licence.specs.declared.Queue.TheVariants.{Priority, Fifo}
use Rattle.licence.specs.declared.Field.{Field}
use Rattle.licence.specs.declared.Field.TheVariants.{Queue as QueueField, Form, Size, Period, Deadline, Jitter}
use Rattle.licence.specs.declared.Row.{Row}

-- 'six to a row, rows numbered from 0': word k of row i, k from 0 too
abbrev pub word : List ℕ → ℕ → ℕ → ℕ
word words i k = get_or words (i * 6 + k) 0

-- field 3, the size: 'form 0: 1 to 4,096; forms 1, 2: 0 to 8'
unfoldable pub size_allowed : (f s : ℕ) → Bool
size_allowed f s = cond (eqb f 0) (leb 1 s && leb s 4096) (leb s 8)

-- the column 'allowed', a line a field: the first field whose word is not allowed, or 0
unfoldable pub first_bad : (q f s t d j : ℕ) → ℕ
first_bad q f s t d j =
    cond (not (leb q 64)) 1
    (cond (not (leb f 2)) 2
    (cond (not (size_allowed f s)) 3
    (cond (not (leb 1 t && leb t 1000000)) 4
    (cond (not (leb 1 d && leb d t)) 5
    (cond (not (leb j d)) 6 0)))))

-- refusal 3's 'lowest field' of row i, or 0
unfoldable pub bad_field : List ℕ → ℕ → ℕ
bad_field words i =
    first_bad (word words i 0) (word words i 1) (word words i 2) (word words i 3) (word words i 4) (word words i 5)

-- a length 'in bit times or by frame format and byte count', its kind kept with its number
abbrev pub length_of : (f s : ℕ) → Length
length_of f s = cond (eqb f 0) (Bits s) (cond (eqb f 1) (Std s) (Ext s))

-- a queue: '0 = priority; 1 to 64 = FIFO of that number'
abbrev pub queue_of : ℕ → Queue
queue_of q = cond (eqb q 0) Priority (Fifo q)

-- the record that six words are 'read once into'
abbrev pub row_of : (q f s t d j : ℕ) → Row
row_of q f s t d j = record { queue = queue_of q; length = length_of f s; period = t; deadline = d; jitter = j }

-- row i of the words
abbrev pub row_at : List ℕ → ℕ → Row
row_at words i =
    row_of (word words i 0) (word words i 1) (word words i 2) (word words i 3) (word words i 4) (word words i 5)

-- a field's number in a refusal, 1 to 6
abbrev pub number_of : Field → ℕ
number_of QueueField = 1
number_of Form = 2
number_of Size = 3
number_of Period = 4
number_of Deadline = 5
number_of Jitter = 6

-- and the field of each number
abbrev pub field_at : ℕ → Field
field_at b = cond (eqb b 1) QueueField (cond (eqb b 2) Form (cond (eqb b 3) Size (cond (eqb b 4) Period (cond (eqb b 5) Deadline Jitter))))

-- the row where no field is bad, else the field
abbrev pub reading_of : ℕ → Row → Result Row Field
reading_of bad row = cond (eqb bad 0) (Ok row) (Err (field_at bad))

-- what reading row i of the words gives
unfoldable pub read_at : List ℕ → ℕ → Result Row Field
read_at words i = reading_of (bad_field words i) (row_at words i)

-- the number of the field that a reading tells, or 0
abbrev pub field_of : Result Row Field → ℕ
field_of (Ok row) = 0
field_of (Err f) = number_of f

-- a frame with s bytes: 'C = g + 8s + 13 + (g + 8s - 1) / 4, rounded down' (request L2)
abbrev pub frame : (g s : ℕ) → ℕ
frame g s = g + 8 * s + 13 + (g + 8 * s - 1) / 4

-- C: 'form 0: C is the size. Forms 1 (11-bit identifier, g = 34) and 2 (29-bit, g = 54)'
unfoldable pub bit_times : Length → ℕ
bit_times (Bits s) = s
bit_times (Std s) = frame 34 s
bit_times (Ext s) = frame 54 s

-- 'E = D - J is the time allowed after queuing'
abbrev pub allowed_time : Row → ℕ
allowed_time row = row.deadline - row.jitter

-- 'A band is one priority row, or all rows of one FIFO number': the key of the band of row i, by its queue. A FIFO's key is its
-- number, and past all FIFO numbers each priority row has a key of its own
unfoldable pub band_key : Queue → ℕ → ℕ
band_key Priority i = 65 + i
band_key (Fifo n) i = n
