-- `book::get_bodies` meets its contract: the words from place m on are left to store. Assumes nothing.
use native.Mathlib.Omega.{arith}
use Prim.Native.Nat.{ℕ, ◌+◌, ◌*◌, ◌-◌}
use mathlib.Core.Path.{refl, ap, ◌∙◌}
use mathlib.Core.List.{List, [], ◌∷◌}
use lib.ListN.{set}
use lib.Seq.{sets}
use Rattle.std.specs.Prelude.{◌≡◌, slice_index_or}
use Rattle.std.specs.Int.{w32, from_le_bytes}
use Rattle.book.specs.Bytes.{part, each}
use Rattle.book.specs.Book.{offset, word_at}
use Rattle.book.specs.ListLaws.{each_stored}
use Rattle.book.proofs.Spelling.{chunk_there, four_from_low}
use Rattle.book.proofs.get_bodies.Goals as goal

pub loop-m-preserved : goal.loop-m-preserved
loop-m-preserved c =
    let l = c.loop-m in
    let a = c.args in
    let book = a.book.now in
    let start = c.start_of.ensures in
    let m_in = c.loop-m-test.true in
    let chunks = c.as_chunks.ensures in
    let word : c.from_le_bytes.result ≡ word_at book a.n l.m =
    c.from_le_bytes.ensures
    ∙ ap (from_le_bytes w32) (ap (λ (parts : List (List ℕ)). slice_index_or parts l.m []) chunks.front ∙ chunk_there book c.start_of.result _ l.m (omega (arith, m_in, chunks.front_len)) ∙ ap (λ (s : ℕ). part book (s + 4 * l.m) 4) start)
    ∙ four_from_low book (offset a.n 0 + 4 * l.m) (omega (arith, m_in, chunks.front_len, c.requires.0, start)) in
    (omega (arith, m_in, chunks.front_len, c.requires.0, start), ap (λ (v : ℕ). sets (set l.words l.m v) (l.m + 1) (each (λ j. word_at book a.n j ∷ []) (l.m + 1) (6 * a.n - (l.m + 1)))) word ∙ each_stored l.words (λ j. word_at book a.n j ∷ []) l.m (l.m + 1) l.m (6 * a.n) refl (omega (arith, m_in, chunks.front_len, c.requires.0, start)) ∙ l.invariant.1)
