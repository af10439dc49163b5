-- Zeros behind a piece that was laid over zeros, and zeros that are laid over zeros.
use Rattle.std.proofs.Common.{◌≡◌, ℕ, ◌+◌, ◌-◌, ◌≤◌, List, [], ◌++◌, length, take, drop, ap, sym, ◌∙◌, subst, arith}
use Rattle.std.proofs.Math.Seq.{take-add}
use Rattle.std.proofs.lemmas.List.{length-append, length-take-le, length-replicate, take-replicate, drop-replicate, drop_at, take-append-drop}
use Rattle.object_id.specs.Piece.{laid_over}
use Rattle.object_id.specs.Fields.{zeros}
use Rattle.object_store.specs.Bytes.{piece_at, trimmed_bytes}
use Rattle.object_store.proofs.CopyLaws.{trimmed_bytes-padded}

-- behind the first bytes of a piece that is laid over zeros are zeros
pub zeros_behind : (size offset done n : ℕ) (piece bytes : List ℕ) → offset + length piece ≤ size → done + n ≤ length piece
    → bytes ≡ laid_over (zeros size) offset (take done piece) → piece_at bytes (offset + done) n ≡ zeros n
zeros_behind size offset done n piece bytes fits within is =
    let full : length (zeros size) ≡ size = length-replicate size 0 in
    let front : length (take offset (zeros size)) ≡ offset = length-take-le offset (zeros size) (omega (arith, full)) in
    let long : length (take done piece) ≡ done = length-take-le done piece (omega arith) in
    let longer : length (take offset (zeros size) ++ take done piece) ≡ offset + done =
    length-append (take offset (zeros size)) (take done piece) ∙ omega (arith, front, long) in
    ap (λ (bytes : List ℕ). piece_at bytes (offset + done) n) is
    ∙ ap (take n) (drop_at (take offset (zeros size) ++ take done piece) (drop (offset + length (take done piece)) (zeros size)) (offset + done) longer
    ∙ ap (λ k. drop (offset + k) (zeros size)) long ∙ drop-replicate (offset + done) size 0)
    ∙ take-replicate n (size - (offset + done)) 0 (omega arith)

all_zeros : (piece : List ℕ) → take 0 piece ≡ trimmed_bytes piece → piece ≡ zeros (length piece)
all_zeros piece cut =
    let none : trimmed_bytes piece ≡ [] = sym cut in
    let whole : length piece - 0 ≡ length piece = omega arith in
    sym (subst (λ t. t ++ zeros (length piece - length t) ≡ piece) none (trimmed_bytes-padded piece)) ∙ ap zeros whole

-- zeros leave zeros as they are
pub zeros_laid : (bytes : List ℕ) (place count : ℕ) (piece : List ℕ) → count ≡ 0 → take count piece ≡ trimmed_bytes piece
    → piece_at bytes place (length piece) ≡ zeros (length piece) → bytes ≡ laid_over bytes place piece
zeros_laid bytes place count piece none cut were =
    let same : piece_at bytes place (length piece) ≡ piece = were ∙ sym (all_zeros piece (ap (λ k. take k piece) (sym none) ∙ cut)) in
    sym (ap (λ (middle : List ℕ). take place bytes ++ middle ++ drop (place + length piece) bytes) (sym same)
    ∙ ap (λ (front : List ℕ). front ++ drop (place + length piece) bytes) (sym (take-add place (length piece) bytes))
    ∙ take-append-drop (place + length piece) bytes)
