-- Pieces of bytes, place by place and one after the other.
use Rattle.std.proofs.Common.{◌≡◌, ℕ, ◌+◌, ◌-◌, ◌<◌, ◌≤◌, List, [], ◌++◌, length, take, drop, fold, get_or, ap, sym, ◌∙◌, append_assoc, arith}
use Rattle.std.proofs.Math.Seq.{take-append_seam, take-add}
use Rattle.std.proofs.lemmas.List.{append-nil, length-append, length-drop, length-take-le, take-append-drop, drop-drop, get_or_append_left, get_or-append_right, get_or-take, get_or-drop}
use Rattle.std.proofs.lemmas.List.Sums.{fold-append}
use Rattle.object_id.specs.Piece.{laid_over}
use Rattle.object_id.proofs.PieceLemmas.{laid_over-parts}
use Rattle.object_store.specs.Bytes.{piece_at}

pub length-piece_at : (bytes : List ℕ) (offset n : ℕ) → offset + n ≤ length bytes → length (piece_at bytes offset n) ≡ n
length-piece_at bytes offset n within =
    let rest : length (drop offset bytes) ≡ length bytes - offset = length-drop offset bytes in
    length-take-le n (drop offset bytes) (omega arith)

pub get_or-piece_at : (bytes : List ℕ) (offset n k : ℕ) → k < n → get_or (piece_at bytes offset n) k 0 ≡ get_or bytes (offset + k) 0
get_or-piece_at bytes offset n k inside = get_or-take n (drop offset bytes) k 0 inside ∙ get_or-drop offset bytes k 0

-- a piece, and the one behind it
pub piece_at-more : (bytes : List ℕ) (offset n more : ℕ) → piece_at bytes offset (n + more) ≡ piece_at bytes offset n ++ piece_at bytes (offset + n) more
piece_at-more bytes offset n more =
    take-add n more (drop offset bytes) ∙ ap (λ (rest : List ℕ). take n (drop offset bytes) ++ take more rest) (drop-drop n offset bytes)

module _ (bytes : List ℕ) (offset : ℕ) (piece : List ℕ) (fits : offset + length piece ≤ length bytes) where
  long : length (take offset bytes) ≡ offset
  long = length-take-le offset bytes (omega arith)

  longer : length (take offset bytes ++ piece) ≡ offset + length piece
  longer = length-append (take offset bytes) piece ∙ ap (λ n. n + length piece) long

  rest_of : length (drop (offset + length piece) bytes) ≡ length bytes - (offset + length piece)
  rest_of = length-drop (offset + length piece) bytes

  pub length-laid_over : length (laid_over bytes offset piece) ≡ length bytes
  length-laid_over = length-append (take offset bytes ++ piece) (drop (offset + length piece) bytes) ∙ omega (arith, longer, rest_of)

  -- the piece's byte where it is, and else the old one
  pub laid_over-inside : (k : ℕ) → k < length piece → get_or (laid_over bytes offset piece) (offset + k) 0 ≡ get_or piece k 0
  laid_over-inside k inside =
      let back : offset + k - offset ≡ k = omega arith in
      get_or_append_left (take offset bytes ++ piece) (drop (offset + length piece) bytes) 0 (offset + k) (omega (arith, longer))
      ∙ get_or-append_right (take offset bytes) piece offset (offset + k) 0 long (omega arith)
      ∙ ap (λ n. get_or piece n 0) back

  pub laid_over-before : (k : ℕ) → k < offset → get_or (laid_over bytes offset piece) k 0 ≡ get_or bytes k 0
  laid_over-before k before =
      get_or_append_left (take offset bytes ++ piece) (drop (offset + length piece) bytes) 0 k (omega (arith, longer))
      ∙ get_or_append_left (take offset bytes) piece 0 k (omega (arith, long)) ∙ get_or-take offset bytes k 0 before

  pub laid_over-behind : (k : ℕ) → offset + length piece ≤ k → get_or (laid_over bytes offset piece) k 0 ≡ get_or bytes k 0
  laid_over-behind k behind =
      let back : offset + length piece + (k - (offset + length piece)) ≡ k = omega arith in
      get_or-append_right (take offset bytes ++ piece) (drop (offset + length piece) bytes) (offset + length piece) k 0 longer behind
      ∙ get_or-drop (offset + length piece) bytes (k - (offset + length piece)) 0 ∙ ap (λ n. get_or bytes n 0) back

  -- as far as the piece goes
  pub take-laid_over : take (offset + length piece) (laid_over bytes offset piece) ≡ take offset bytes ++ piece
  take-laid_over =
      ap (λ n. take n (laid_over bytes offset piece)) (sym longer) ∙ take-append_seam (take offset bytes ++ piece) (drop (offset + length piece) bytes)

-- nothing is laid over
pub laid_over-nothing : (bytes : List ℕ) (offset : ℕ) → laid_over bytes offset [] ≡ bytes
laid_over-nothing bytes offset =
    let same : offset + 0 ≡ offset = omega arith in
    ap (λ (front : List ℕ). front ++ drop (offset + 0) bytes) (append-nil (take offset bytes))
    ∙ ap (λ n. take offset bytes ++ drop n bytes) same ∙ take-append-drop offset bytes

-- a piece, and the one behind it
pub laid_over-more : (bytes : List ℕ) (offset : ℕ) (piece more : List ℕ) → offset + length piece + length more ≤ length bytes
    → laid_over (laid_over bytes offset piece) (offset + length piece) more ≡ laid_over bytes offset (piece ++ more)
laid_over-more bytes offset piece more fits =
    let front : List ℕ = take offset bytes ++ piece in
    let behind : List ℕ = drop (offset + length piece) bytes in
    let place : length front ≡ offset + length piece = length-append (take offset bytes) piece ∙ ap (λ n. n + length piece) (length-take-le offset bytes (omega arith)) in
    let rest : length behind ≡ length bytes - (offset + length piece) = length-drop (offset + length piece) bytes in
    let old : length (take (length more) behind) ≡ length more = length-take-le (length more) behind (omega arith) in
    let end : offset + length piece + length more ≡ offset + length (piece ++ more) = omega (arith, length-append piece more) in
    ap (λ (rest : List ℕ). laid_over (front ++ rest) (offset + length piece) more) (sym (take-append-drop (length more) behind))
    ∙ ap (λ n. laid_over (front ++ (take (length more) behind ++ drop (length more) behind)) n more) (sym place)
    ∙ laid_over-parts front (take (length more) behind) (drop (length more) behind) more old
    ∙ ap (λ (rest : List ℕ). front ++ more ++ rest) (drop-drop (length more) (offset + length piece) bytes ∙ ap (λ n. drop n bytes) end)
    ∙ ap (λ (front : List ℕ). front ++ drop (offset + length (piece ++ more)) bytes) (append_assoc (take offset bytes) piece more)

-- the bytes of a piece from done on are laid over those before
pub laid_over-next : (bytes old new : List ℕ) (offset done count n : ℕ) (piece : List ℕ) → offset + length piece ≤ length bytes → done + count ≤ length piece → n ≡ count
    → old ≡ laid_over bytes offset (take done piece) → new ≡ laid_over old (offset + done) (take n (drop done piece)) → new ≡ laid_over bytes offset (take (done + count) piece)
laid_over-next bytes old new offset done count n piece fits within same had step =
    let rest : length (drop done piece) ≡ length piece - done = length-drop done piece in
    let long : length (take done piece) ≡ done = length-take-le done piece (omega arith) in
    let more : length (take count (drop done piece)) ≡ count = length-take-le count (drop done piece) (omega arith) in
    step ∙ (λ i. laid_over (had i) (offset + sym long i) (take (same i) (drop done piece)))
    ∙ laid_over-more bytes offset (take done piece) (take count (drop done piece)) (omega arith)
    ∙ ap (laid_over bytes offset) (sym (take-add done count piece))

-- a piece that goes on is folded on
pub folded_on : (f : ℕ → ℕ → ℕ) (first old new : ℕ) (done count : ℕ) (bytes part : List ℕ) → part ≡ piece_at bytes done count
    → old ≡ fold f first (take done bytes) → new ≡ fold f old part → new ≡ fold f first (take (done + count) bytes)
folded_on f first old new done count bytes part is had step =
    step ∙ (λ i. fold f (had i) (is i)) ∙ sym (ap (fold f first) (take-add done count bytes) ∙ fold-append f first (take done bytes) (piece_at bytes done count))
