-- `book::get_bodies` meets its contract: the words from place m on are left to store. Assumes nothing.
use Prim.Native.Nat.{◌*◌, ◌≤◌, ◌-◌}
use mathlib.Core.Path.{◌≡◌}
use mathlib.Core.List.{[], ◌∷◌}
use lib.Seq.{sets}
use Rattle.book.specs.Bytes.{each}
use Rattle.book.specs.Book.{word_at, words_in}
use Rattle.book.proofs.get_bodies.Given as goal

abbrev pub invariant-loop-m : goal.invariant-loop-m
invariant-loop-m l = (l.m ≤ 6 * l.n) × (sets l.words l.m (each (λ j. word_at l.book l.n j ∷ []) l.m (6 * l.n - l.m)) ≡ sets l.initial.words 0 (words_in l.book l.n))
