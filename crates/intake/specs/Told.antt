-- Each refusal has an answer of its own: the refusal can be told from it. And no check refuses with a number past its own.
-- Assumes nothing.
use Rattle.std.specs.Prelude.{ℕ, ◌≤◌, ◌<◌, ◌≡◌, refl, Bool, true, false, cond, List, eqb, Result, Ok, Err, IsOk}
use Rattle.std.proofs.Common.{le_trans, arith, sym, ap, subst, ◌∙◌, lit≤, lit<, eq-eqb, ne_eqb, le-ltb}
use Rattle.sums.specs.Masks.{Place, at, nowhere, lowest}
use Rattle.licence.specs.Row.{bad_field}
use Rattle.intake.specs.Words.{rows, bad_row}
use Rattle.intake.specs.Answer.{Answer, answer, refusal_answer, told_as, Check, refused, fine, refuse_if, refuse_at, ◌then◌, Replied}
use Rattle.intake.specs.Refusals.{shape_refusal, table_refusal}
use Rattle.intake.specs.declared.Refusal.{Refusal}
use Rattle.intake.specs.declared.Refusal.TheVariants.{Ragged, TooMany, BadRow, NoRoom, OrderLength, OrderEntry, SplitQueue, NoOrder, Closed, OtherEdition, NoSuchRow, EmptyBook, BookLength, BookOffset, BadLedger}

unfoldable pub told_refusal : Answer → Refusal
told_refusal a =
    cond (eqb a.number 1) Ragged
    (cond (eqb a.number 2) TooMany
    (cond (eqb a.number 3) (BadRow a.first a.second)
    (cond (eqb a.number 4) NoRoom
    (cond (eqb a.number 5) OrderLength
    (cond (eqb a.number 6) (OrderEntry a.first)
    (cond (eqb a.number 7) (SplitQueue a.first)
    (cond (eqb a.number 8) (NoOrder a.first a.second)
    (cond (eqb a.number 9) Closed
    (cond (eqb a.number 10) OtherEdition
    (cond (eqb a.number 11) NoSuchRow
    (cond (eqb a.number 20) EmptyBook
    (cond (eqb a.number 21) BookLength
    (cond (eqb a.number 22) (BookOffset a.first) BadLedger)))))))))))))

pub told_refusal_lem : (r : Refusal) → told_refusal (refusal_answer r) ≡ r
unfolding told_refusal
told_refusal_lem Ragged = refl
told_refusal_lem TooMany = refl
told_refusal_lem (BadRow i f) = refl
told_refusal_lem NoRoom = refl
told_refusal_lem OrderLength = refl
told_refusal_lem (OrderEntry p) = refl
told_refusal_lem (SplitQueue p) = refl
told_refusal_lem (NoOrder u t) = refl
told_refusal_lem Closed = refl
told_refusal_lem OtherEdition = refl
told_refusal_lem NoSuchRow = refl
told_refusal_lem EmptyBook = refl
told_refusal_lem BookLength = refl
told_refusal_lem (BookOffset i) = refl
told_refusal_lem BadLedger = refl

-- so cases that can be told from their answers are one where these are
pub told_one : {R : Type 0} (answers : R → Answer) (told : Answer → R) → ((r : R) → told (answers r) ≡ r) → {r r' : R} → answers r ≡ answers r' → r ≡ r'
told_one answers told back {r} {r'} e = sym (back r) ∙ ap told e ∙ back r'

-- no refusal has a number of three digits: those are for answers
pub refusal_small : (r : Refusal) → (refusal_answer r).number < 100
refusal_small Ragged = lit< tt
refusal_small TooMany = lit< tt
refusal_small (BadRow i f) = lit< tt
refusal_small NoRoom = lit< tt
refusal_small OrderLength = lit< tt
refusal_small (OrderEntry p) = lit< tt
refusal_small (SplitQueue p) = lit< tt
refusal_small (NoOrder u t) = lit< tt
refusal_small Closed = lit< tt
refusal_small OtherEdition = lit< tt
refusal_small NoSuchRow = lit< tt
refusal_small EmptyBook = lit< tt
refusal_small BookLength = lit< tt
refusal_small (BookOffset i) = lit< tt
refusal_small BadLedger = lit< tt

pub not_refusal : (r : Refusal) (n : ℕ) → 100 ≤ n → eqb (refusal_answer r).number n ≡ false
not_refusal r n l = ne_eqb (refusal_answer r).number n (λ e. omega (arith, refusal_small r))

-- the result that an answer tells, for a call whose own number this is: where the call answers so, it is its result
unfoldable pub told_result : (number : ℕ) → Answer → Result ℕ Refusal
told_result number a = cond (eqb a.number number) (Ok a.first) (Err (told_refusal a))

pub told_result_lem : (number : ℕ) → 100 ≤ number → (r : Result ℕ Refusal) → told_result number (told_as number r) ≡ r
unfolding told_result
told_result_lem number l (Ok x) = rw (eq-eqb number number refl)
told_result_lem number l (Err r) = rw (not_refusal r number l, told_refusal_lem r)

-- what a call answers is of one result, and where that is Ok, of one number
pub told_as_one : (number number' : ℕ) → 100 ≤ number → 100 ≤ number' → (r r' : Result ℕ Refusal) → told_as number r ≡ told_as number' r' → (r ≡ r') × (IsOk r → number ≡ number')
told_as_one number number' l l' (Ok x) (Ok x') same = (let e = ap (λ (a : Answer). a.first) same in cc, λ h. ap (λ (a : Answer). a.number) same)
told_as_one number number' l l' (Ok x) (Err r) same = absurd (omega (arith, refusal_small r, ap (λ (a : Answer). a.number) same))
told_as_one number number' l l' (Err r) (Ok x) same = absurd (omega (arith, refusal_small r, ap (λ (a : Answer). a.number) same))
told_as_one number number' l l' (Err r) (Err r') same = (let e = told_one refusal_answer told_refusal told_refusal_lem same in cc, λ h. cc)

-- ---- the numbers of the checks

-- a check that refuses does so with a number that has this property
pub data Numbers (P : ℕ → Type 0) : Check → Type 0 where
  number : {r : Answer} → P r.number → Numbers P (refused r)
  none : Numbers P fine

-- so has the number that it refuses with
pub number_has : {P : ℕ → Type 0} {c : Check} {r : Answer} → Numbers P c → c ≡ refused r → P r.number
number_has {P} {c} {r} h e = go (subst (Numbers P) e h)
  where
    go : Numbers P (refused r) → P r.number
    go (number p) = p

pub numbers_map : {P Q : ℕ → Type 0} {c : Check} → ((n : ℕ) → P n → Q n) → Numbers P c → Numbers Q c
numbers_map f (number p) = number (f _ p)
numbers_map f none = none

-- checks that run one after the other
module _ {P : ℕ → Type 0} where
  pub then_numbers : {a b : Check} → Numbers P a → Numbers P b → Numbers P (a then b)
  then_numbers (number p) k = number p
  then_numbers none k = k

  pub if_numbers : (t : Bool) (r : Answer) → P r.number → Numbers P (refuse_if t r)
  if_numbers true r p = number p
  if_numbers false r p = none

  pub at_numbers : (p : Place) (r : ℕ → Answer) → ((k : ℕ) → P (r k).number) → Numbers P (refuse_at p r)
  at_numbers (at k) r p = number (p k)
  at_numbers nowhere r p = none

-- from 1 to `most`
abbrev pub UpTo : (most n : ℕ) → Type 0
UpTo most n = (1 ≤ n) × (n ≤ most)

abbrev pub Small : ℕ → Check → Type 0
Small most = Numbers (UpTo most)

-- then no more than any wider bound
pub wider_small : {most more : ℕ} {c : Check} → most ≤ more → Small most c → Small more c
wider_small l = numbers_map (λ n h. (h.0, le_trans h.1 l))

-- what is replied with a number that no refusal has was not refused
pub replied_fine : {P : ℕ → Type 0} {Lent : Type 0} {c : Check} {before after : Lent} {a : Answer} {Answered : Type 0} → Numbers P c → Replied c before after a Answered → (P a.number → ⊥) → c ≡ fine
replied_fine {P} {c = c} {a = a} h x other = go c refl
  where
    go : (d : Check) → c ≡ d → c ≡ fine
    go (refused r) e = absurd (other (subst (λ (y : Answer). P y.number) (sym (x.refusing r e).0) (number_has h e)))
    go fine e = e

-- the checks of a lent table
pub shape_small : (words : List ℕ) → Small 2 (shape_refusal words)
unfolding shape_refusal
shape_small words = search (then_numbers, if_numbers, lit≤) depth 6

pub table_small : (words : List ℕ) (room : ℕ) → Small 4 (table_refusal words room)
unfolding table_refusal
table_small words room = then_numbers (wider_small (lit≤ tt) (shape_small words)) (search (then_numbers, if_numbers, at_numbers, lit≤) depth 8)

-- with the shape of a table, and with room, only a bad row is left to refuse
pub only_3 : (words : List ℕ) (room : ℕ) → shape_refusal words ≡ fine → rows words ≤ room → Numbers (λ n. n ≡ 3) (table_refusal words room)
unfolding table_refusal
only_3 words room shape roomy =
    rw (shape, le-ltb room (rows words) roomy) (then_numbers (at_numbers (lowest (rows words) (bad_row words)) (λ i. answer 3 i (bad_field words i)) (λ i. refl)) none)
