-- `book::put` meets its contract: what is copied into a part stands there as if stored byte by byte. Assumes nothing.
use Rattle.std.specs.Prelude.{ℕ, ◌+◌, ◌-◌, ◌≡◌, List, ◌++◌, length, take, drop}
use Rattle.std.proofs.Common.{arith, sym, ap, ap₂, ◌∙◌, append_assoc, drop-drop}
use Rattle.std.proofs.lemmas.List.Edits.{sets-eq}
use Rattle.book.proofs.put.Goals as goal

pub returns : goal.returns
returns c =
    let a = c.args in
    let before = take a.at a.book.now in
    let behind = drop a.at a.book.now in
    let width : a.at + length a.bytes.now - a.at ≡ length a.bytes.now = omega arith in
    ap₂ (λ (l : List ℕ) (w : ℕ). before ++ (l ++ drop w behind)) c.copy_from_slice.ensures.after width
    ∙ sym (append_assoc before a.bytes.now (drop (length a.bytes.now) behind))
    ∙ ap (λ (l : List ℕ). before ++ a.bytes.now ++ l) (drop-drop (length a.bytes.now) a.at a.book.now)
    ∙ sym (sets-eq a.bytes.now a.book.now a.at c.requires)
