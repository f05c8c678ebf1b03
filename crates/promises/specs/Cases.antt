-- The sums done by hand in document 01, cases a to k, k with the numbers of request L2, as one list, and the claim that the written rules give
-- these results: for each case the statement that the contract of judging or finding cites, and for k the length C. Definitions
-- only: the proof is in proofs/Cases.
-- Assumes nothing.
use Rattle.std.specs.Prelude.{ℕ, ◌≡◌, length, replicate}
use mathlib.Core.List.{List, [], ◌∷◌, Memᴰ}
use Rattle.licence.specs.Row.{length_of, bit_times}
use Rattle.intake.specs.Answer.{Answer, answer}
use Rattle.judge.specs.Judged.{Judged}
use Rattle.finder.specs.Searched.{Searched}

-- a row as the text writes it, form 0
pub record Line : Type 0 where
  pub queue : ℕ
  pub C : ℕ
  pub T : ℕ
  pub D : ℕ
  pub J : ℕ

-- its six words
abbrev pub words_of : List Line → List ℕ
words_of [] = []
words_of (r ∷ rest) = r.queue ∷ 0 ∷ r.C ∷ r.T ∷ r.D ∷ r.J ∷ words_of rest

-- judging a table and an order: the reply, and the lent list afterwards. Finding: the reply, and the lent list. A length by form and bytes: C
pub data Case : Type 0 where
  judging : (table : List Line) (order : List ℕ) (reply : Answer) (after : List ℕ) → Case
  finding : (table : List Line) (reply : Answer) (after : List ℕ) → Case
  length_is : (form bytes C : ℕ) → Case

-- what is lent for the answer: a place for each row, with a number that no answer here has
abbrev pub lent : List Line → List ℕ
lent table = replicate (length table) 9999

-- the written rules give this result
abbrev pub Right : Case → Type 0
Right (judging table order reply after) = Judged (words_of table) order (lent table) after reply
Right (finding table reply after) = Searched (words_of table) (lent table) after reply
Right (length_is form bytes C) = bit_times (length_of form bytes) ≡ C

abbrev row : (queue C T D J : ℕ) → Line
row q c t d j = record { queue = q; C = c; T = t; D = d; J = j }

abbrev pub table_a : List Line
table_a = row 0 125 1000 750 0 ∷ row 0 125 1000 350 0 ∷ row 0 125 1000 750 0 ∷ row 0 75 1000 1000 0 ∷ []

abbrev pub table_c : List Line
table_c = row 1 100 1000 1000 0 ∷ row 1 60 1000 600 0 ∷ row 0 80 500 500 0 ∷ []

abbrev pub table_i : List Line
table_i = row 0 10 19 19 0 ∷ row 0 10 19 19 0 ∷ []

abbrev passed : Answer
passed = answer 100 0 0

abbrev late : ℕ → Answer
late p = answer 101 p 0

abbrev pub cases : List Case
cases =
    -- a
    judging table_a (3 ∷ 1 ∷ 0 ∷ 2 ∷ []) passed (450 ∷ 325 ∷ 575 ∷ 200 ∷ [])
    -- b, found and judged
    ∷ finding table_a (answer 102 5 0) (3 ∷ 1 ∷ 2 ∷ 0 ∷ [])
    ∷ judging table_a (3 ∷ 1 ∷ 2 ∷ 0 ∷ []) passed (575 ∷ 325 ∷ 450 ∷ 200 ∷ [])
    -- c, d and e, on one table
    ∷ judging table_c (2 ∷ 0 ∷ 1 ∷ []) passed (340 ∷ 340 ∷ 180 ∷ [])
    ∷ judging table_c (0 ∷ 1 ∷ 2 ∷ []) passed (260 ∷ 260 ∷ 320 ∷ [])
    ∷ judging table_c (0 ∷ 2 ∷ 1 ∷ []) (answer 7 2 0) (lent table_c)
    -- f and g
    ∷ judging (row 0 10 30 30 0 ∷ row 0 20 100 100 0 ∷ []) (0 ∷ 1 ∷ []) passed (30 ∷ 60 ∷ [])
    ∷ judging (row 0 10 30 29 0 ∷ row 0 20 100 100 0 ∷ []) (0 ∷ 1 ∷ []) (late 0) (0 ∷ 60 ∷ [])
    -- h
    ∷ judging (row 0 55 110 110 0 ∷ []) (0 ∷ []) passed (110 ∷ [])
    ∷ judging (row 0 55 110 109 0 ∷ []) (0 ∷ []) (late 0) (0 ∷ [])
    -- i
    ∷ finding table_i (answer 8 2 2) (9999 ∷ 9999 ∷ [])
    -- j
    ∷ judging (row 0 10 100 50 50 ∷ []) (0 ∷ []) (late 0) (0 ∷ [])
    -- k, by request L2
    ∷ length_is 1 0 55
    ∷ length_is 2 0 80
    ∷ length_is 1 8 135
    ∷ length_is 2 8 160
    ∷ []

-- Every case, a to k, is as the written rules have it.
abbrev pub AsWritten : Type 0
AsWritten = (c : Case) → Memᴰ c cases → Right c
