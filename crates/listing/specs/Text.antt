-- The text for a book, byte by byte: numbers in decimal, a line a row, the line of a refusal. Definitions only.
-- Assumes nothing.
use Rattle.std.specs.Prelude.{ℕ, zero, suc, ◌+◌, ◌/◌, ◌%◌, cond, List, [], ◌∷◌, ◌++◌, length, ltb}
use Rattle.sums.specs.Columns.{at}
use Rattle.book.specs.Bytes.{each}

-- a number in decimal: the digits of what is left without the last one, and the last; 48 is the byte of '0'. `more` only counts down: any number
-- from n on will do
abbrev pub spelled : (more n : ℕ) → List ℕ
spelled zero n = (48 + n % 10) ∷ []
spelled (suc more) n = cond (ltb n 10) [] (spelled more (n / 10)) ++ ((48 + n % 10) ∷ [])

unfoldable pub decimal : ℕ → List ℕ
decimal n = spelled n n

-- 'row, space, figure', and the line's end
abbrev pub line : (row figure : ℕ) → List ℕ
line row figure = decimal row ++ (32 ∷ []) ++ decimal figure ++ (10 ∷ [])

-- 'a line a row, highest first'
abbrev pub lines : (order figures : List ℕ) → List ℕ
lines order figures = each (λ p. line (at order p) (at figures (at order p))) 0 (length order)

-- the bytes of 'refused '
abbrev pub refused_word : List ℕ
refused_word = 114 ∷ 101 ∷ 102 ∷ 117 ∷ 115 ∷ 101 ∷ 100 ∷ 32 ∷ []

-- 'A refusal is one line, such as refused 8': the word, the number, and the line's end
abbrev pub refused_line : ℕ → List ℕ
refused_line number = refused_word ++ decimal number ++ (10 ∷ [])

-- no line is longer: two numbers of at most ten digits, a space and its end
abbrev pub line_most : ℕ
line_most = 22
