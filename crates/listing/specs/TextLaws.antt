-- A number in decimal, one digit after the other, and how long it is; a line, and the line of a refusal, as they are stored.
-- Assumes nothing.
use Rattle.std.specs.Prelude.{ℕ, zero, suc, ◌+◌, ◌/◌, ◌%◌, ◌^◌, ◌≤◌, ◌<◌, ◌≡◌, refl, Bool, cond, List, [], ◌∷◌, ◌++◌, length, set, ltb}
use Rattle.std.proofs.Common.{pow-suc, div-lt_iff_lt-mul, arith, sym, ap, ap₂, ◌∙◌, length-append, lit<, lt-ltb, le-ltb}
use Rattle.std.proofs.Math.Decide.{dec_lt}
use Rattle.std.proofs.lemmas.List.Edits.{sets}
use Rattle.std.specs.Fmt.{decimal as std_decimal}
use Rattle.std.proofs.lemmas.Fmt.{decimal_by_steps}
use Rattle.book.specs.ListLaws.{sets_append}
use Rattle.listing.specs.Text.{spelled, decimal, line, refused_word, refused_line, line_most}

-- any number from n on will do for counting down
spelled_same : (a b n : ℕ) → n ≤ a → n ≤ b → spelled a n ≡ spelled b n
spelled_same zero zero n h g = refl
spelled_same zero (suc b) n h g = rw (lt-ltb n 10 (omega arith)) refl
spelled_same (suc a) zero n h g = rw (lt-ltb n 10 (omega arith)) refl
spelled_same (suc a) (suc b) n h g = ap (λ (r : List ℕ). cond (ltb n 10) [] r ++ ((48 + n % 10) ∷ [])) (spelled_same a b (n / 10) (omega arith) (omega arith))

-- a number of one digit, and of more
pub decimal_short : (n : ℕ) → n < 10 → decimal n ≡ (48 + n) ∷ []
unfolding decimal
decimal_short n l =
    let last : n % 10 ≡ n = omega arith in
    spelled_same n (suc n) n (omega arith) (omega arith) ∙ ap (λ (b : Bool). cond b [] (spelled n (n / 10)) ++ ((48 + n % 10) ∷ [])) (lt-ltb n 10 l) ∙ ap (λ (d : ℕ). (48 + d) ∷ []) last

pub decimal_long : (n : ℕ) → 10 ≤ n → decimal n ≡ decimal (n / 10) ++ ((48 + n % 10) ∷ [])
unfolding decimal
decimal_long n l =
    spelled_same n (suc n) n (omega arith) (omega arith)
    ∙ ap (λ (b : Bool). cond b [] (spelled n (n / 10)) ++ ((48 + n % 10) ∷ [])) (le-ltb n 10 l)
    ∙ ap (λ (r : List ℕ). r ++ ((48 + n % 10) ∷ [])) (spelled_same n (n / 10) (n / 10) (omega arith) (omega arith))

-- so it has one digit more than its tenth
pub long_length : (n : ℕ) → 10 ≤ n → length (decimal n) ≡ length (decimal (n / 10)) + 1
long_length n l = ap length (decimal_long n l) ∙ length-append (decimal (n / 10)) ((48 + n % 10) ∷ [])

pub decimal_length : (k n : ℕ) → n < 10 ^ suc k → length (decimal n) ≤ suc k
decimal_length zero n l = omega (arith, ap length (decimal_short n (omega arith)))
decimal_length (suc k) n l = go (dec_lt n 10) (decimal_length k (n / 10) ((div-lt_iff_lt-mul (lit< tt)).1 (rw (pow-suc 10 (suc k)) at l)))
  where
    go : Dec (n < 10) → length (decimal (n / 10)) ≤ suc k → length (decimal n) ≤ suc (suc k)
    go (yes s) ih = omega (arith, ap length (decimal_short n s))
    go (no s) ih = omega (arith, long_length n (omega arith))

-- a word has at most ten digits
pub word_length : (n : ℕ) → n < 4294967296 → length (decimal n) ≤ 10
word_length n l = decimal_length 9 n (omega arith)

-- what std prints for a word is that word in decimal
pub printed : (n : ℕ) → n < 2 ^ 64 → std_decimal n ≡ decimal n
printed = decimal_by_steps (λ m ds. ds ≡ decimal m) (λ m l. sym (decimal_short m l)) (λ m ds l e. ap (λ (r : List ℕ). r ++ ((48 + m % 10) ∷ [])) e ∙ sym (decimal_long m l))

-- ---- lines

pub line_length : (row figure : ℕ) → length (line row figure) ≡ length (decimal row) + 1 + length (decimal figure) + 1
line_length row figure =
    length-append (decimal row ++ (32 ∷ []) ++ decimal figure) (10 ∷ [])
    ∙ omega (arith, length-append (decimal row ++ (32 ∷ [])) (decimal figure), length-append (decimal row) (32 ∷ []))

pub line_most_lem : (row figure : ℕ) → row < 4294967296 → figure < 4294967296 → length (line row figure) ≤ line_most
line_most_lem row figure l h = omega (arith, line_length row figure, word_length row l, word_length figure h)

pub line_stored : (text : List ℕ) (row figure end : ℕ) {space stop : ℕ} → space ≡ end + length (decimal row) → stop ≡ space + 1 + length (decimal figure)
    → set (sets (set (sets text end (decimal row)) space 32) (space + 1) (decimal figure)) stop 10 ≡ sets text end (line row figure)
line_stored text row figure end {space} {stop} s e =
    let a = decimal row in
    let b = decimal figure in
    let first = length-append a (32 ∷ []) in
    let second = length-append (a ++ (32 ∷ [])) b in
    let middle : space + 1 ≡ end + length (a ++ (32 ∷ [])) = omega (arith, s, first) in
    let last : stop ≡ end + length (a ++ (32 ∷ []) ++ b) = omega (arith, s, e, first, second) in
    ap₂ (λ (p q : ℕ). set (sets (set (sets text end a) p 32) (space + 1) b) q 10) s last
    ∙ ap (λ (l : List ℕ). set (sets l (space + 1) b) (end + length (a ++ (32 ∷ []) ++ b)) 10) (sym (sets_append text end a (32 ∷ [])))
    ∙ ap (λ (p : ℕ). set (sets (sets text end (a ++ (32 ∷ []))) p b) (end + length (a ++ (32 ∷ []) ++ b)) 10) middle
    ∙ ap (λ (l : List ℕ). set l (end + length (a ++ (32 ∷ []) ++ b)) 10) (sym (sets_append text end (a ++ (32 ∷ [])) b))
    ∙ sym (sets_append text end (a ++ (32 ∷ []) ++ b) (10 ∷ []))

-- ---- a refusal

pub refused_length : (number : ℕ) → length (refused_line number) ≡ 8 + length (decimal number) + 1
refused_length number = length-append (refused_word ++ decimal number) (10 ∷ []) ∙ omega (arith, length-append refused_word (decimal number))

pub refused_stored : (text : List ℕ) (number : ℕ) {stop : ℕ} → stop ≡ 8 + length (decimal number) → set (sets (sets text 0 refused_word) 8 (decimal number)) stop 10 ≡ sets text 0 (refused_line number)
refused_stored text number {stop} e =
    let last : stop ≡ 0 + length (refused_word ++ decimal number) = omega (arith, e, length-append refused_word (decimal number)) in
    ap (λ (p : ℕ). set (sets (sets text 0 refused_word) 8 (decimal number)) p 10) last
    ∙ ap (λ (l : List ℕ). set l (0 + length (refused_word ++ decimal number)) 10) (sym (sets_append text 0 refused_word (decimal number)))
    ∙ sym (sets_append text 0 (refused_word ++ decimal number) (10 ∷ []))
