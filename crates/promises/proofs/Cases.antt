-- Every case of specs/Cases is as the written rules have it, by one computed test. Assumes nothing.
use Rattle.std.specs.Prelude.{Bool, true, ◌&&◌, T as Is, eqb}
use Rattle.std.proofs.Math.Decide.{ℕ_discrete, dec_le}
use Rattle.std.proofs.Common.{sym, subst, eqb→eq}
use mathlib.Core.List.{List, [], ◌∷◌, Memᴰ}
use Rattle.sums.specs.MaskLaws.{and_left, and_right}
use Rattle.sums.specs.Masks.{any_below, or_else, lowest}
use Rattle.sums.specs.Sums.{over, ceil, load, demand}
use Rattle.licence.specs.Limit.{limit}
use Rattle.licence.specs.Row.{size_allowed, first_bad, bad_field, length_of, bit_times, band_key}
use Rattle.order.specs.Table.{base}
use Rattle.order.specs.Orders.{mem, bad_entry, resumes}
use Rattle.intake.specs.Words.{ragged}
use Rattle.intake.specs.Refusals.{shape_refusal, table_refusal}
use Rattle.judge.specs.Judged.{order_refusal}
use Rattle.finder.specs.Placing.{rising, leads}
use Rattle.promises.specs.Reckon.{climb, reckon, same_list}
use Rattle.promises.specs.Worked.{judges, judged, follow, searches, searched}
use Rattle.promises.specs.Cases.{judging, finding, length_is, AsWritten, Case, Right, cases, lent, words_of}

-- ---- one computed test, and the lemma that what passes it is right

abbrev test : Case → Bool
test (judging table order reply after) = judges (words_of table) order (lent table) after reply
test (finding table reply after) = searches (words_of table) (lent table) after reply
test (length_is form bytes C) = eqb (bit_times (length_of form bytes)) C

right : (c : Case) → Is (test c) → Right c
right (judging table order reply after) h = judged (words_of table) order (lent table) after reply h
right (finding table reply after) h = searched (words_of table) (lent table) after reply h
right (length_is form bytes C) h = eqb→eq (bit_times (length_of form bytes)) C h

abbrev test_all : List Case → Bool
test_all [] = true
test_all (c ∷ l) = test c && test_all l

all_right : (l : List Case) → Is (test_all l) → (c : Case) → Memᴰ c l → Right c
all_right [] h c m = elim m [ ]
all_right (d ∷ l) h c (Memᴰ.head e) = subst Right (sym e) (right d (and_left (test d) (test_all l) h))
all_right (d ∷ l) h c (Memᴰ.tail m) = all_right l (and_right (test d) (test_all l) h) c m

pub as_written : AsWritten
unfolding table_refusal shape_refusal ragged limit bad_field first_bad size_allowed order_refusal bad_entry resumes lowest or_else any_below band_key bit_times mem base demand over load ceil reckon climb dec_le ℕ_discrete same_list follow leads rising
as_written = all_right cases tt
