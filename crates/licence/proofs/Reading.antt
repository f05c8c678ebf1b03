-- How reading a row from its part of the table meets `read_at`. Assumes nothing.
use Rattle.std.specs.Prelude.{ℕ, ◌+◌, ◌*◌, ◌<◌, ◌≡◌, List, Ok, Err, get_or, slice_range}
use Rattle.std.proofs.Common.{arith, sym, ap, ◌∙◌, lit<}
use Rattle.std.proofs.lemmas.List.{get_or-take, get_or-drop}
use Rattle.licence.specs.declared.Field.{Field}
use Rattle.licence.specs.declared.Field.TheVariants.{Queue, Form, Size, Period, Deadline, Jitter}
use Rattle.licence.specs.declared.Row.{Row}
use Rattle.licence.specs.Row.{word, first_bad, bad_field, row_of, row_at, number_of, reading_of, read_at}

-- word k of the part that holds row i
abbrev pub part : (words : List ℕ) (i k : ℕ) → ℕ
part words i k = get_or (slice_range words (i * 6) (i * 6 + 6)) k 0

part_word : (words : List ℕ) (i k : ℕ) → k < 6 → part words i k ≡ word words i k
part_word words i k l = get_or-take _ _ k 0 (omega arith) ∙ get_or-drop (i * 6) words k 0

-- a row whose lowest bad field is f is read as that field
field_read : (f : Field) (row : Row) {bad : ℕ} → number_of f ≡ bad → Err f ≡ reading_of bad row
field_read Queue row e = cc e
field_read Form row e = cc e
field_read Size row e = cc e
field_read Period row e = cc e
field_read Deadline row e = cc e
field_read Jitter row e = cc e

module _ (words : List ℕ) (i : ℕ) where
  abbrev w : ℕ → ℕ
  w = part words i

  field_same : first_bad (w 0) (w 1) (w 2) (w 3) (w 4) (w 5) ≡ bad_field words i
  unfolding bad_field
  field_same = let is = part_word words i in cc (is 0 (lit< tt), is 1 (lit< tt), is 2 (lit< tt), is 3 (lit< tt), is 4 (lit< tt), is 5 (lit< tt))

  row_same : row_of (w 0) (w 1) (w 2) (w 3) (w 4) (w 5) ≡ row_at words i
  row_same = let is = part_word words i in cc (is 0 (lit< tt), is 1 (lit< tt), is 2 (lit< tt), is 3 (lit< tt), is 4 (lit< tt), is 5 (lit< tt))

  pub bad_read : (f : Field) → number_of f ≡ first_bad (w 0) (w 1) (w 2) (w 3) (w 4) (w 5) → Err f ≡ read_at words i
  unfolding read_at
  bad_read f e = field_read f _ (e ∙ field_same)

  pub good_read : 0 ≡ first_bad (w 0) (w 1) (w 2) (w 3) (w 4) (w 5) → Ok (row_of (w 0) (w 1) (w 2) (w 3) (w 4) (w 5)) ≡ read_at words i
  unfolding read_at
  good_read e = rw (sym (e ∙ field_same)) (ap Ok row_same)
