-- Pieces laid over bytes that stand as parts in a row.
use Rattle.std.proofs.Common.{◌≡◌, ℕ, ◌+◌, ◌-◌, ◌≤◌, List, ◌++◌, length, take, drop, refl, ap, sym, ◌∙◌, append_assoc, arith}
use Rattle.std.proofs.Math.Seq.{take-append_seam, drop-append_seam, drop-append-add}
use Rattle.std.proofs.lemmas.List.{length-append, length-drop, length-take-le, take-append-drop}
use Rattle.object_id.specs.Piece.{laid_over}

-- a piece takes the place of a part of its length
pub laid_over-parts : (front old rest piece : List ℕ) → length old ≡ length piece
    → laid_over (front ++ (old ++ rest)) (length front) piece ≡ front ++ piece ++ rest
laid_over-parts front old rest piece same =
    rw (take-append_seam front (old ++ rest), drop-append-add front (old ++ rest) (length piece), ← same, drop-append_seam old rest) refl

-- two pieces in the places of two parts, in either order
laid_over-two_parts : (a b m c d piece other : List ℕ) → length b ≡ length piece → length c ≡ length other
    → laid_over (laid_over (a ++ (b ++ (m ++ (c ++ d)))) (length a) piece) (length a + length b + length m) other
    ≡ laid_over (laid_over (a ++ (b ++ (m ++ (c ++ d)))) (length a + length b + length m) other) (length a) piece
laid_over-two_parts a b m c d piece other of_b of_c =
    let grouped : a ++ (b ++ (m ++ (c ++ d))) ≡ (a ++ b ++ m) ++ (c ++ d) = simp append_assoc in
    let far : length (a ++ b ++ m) ≡ length a + length b + length m = simp length-append in
    let far_then : length (a ++ piece ++ m) ≡ length a + length b + length m = rw (length-append (a ++ piece) m, length-append a piece, ← of_b) refl in
    let first : laid_over (a ++ (b ++ (m ++ (c ++ d)))) (length a) piece ≡ (a ++ piece ++ m) ++ (c ++ d)
    = laid_over-parts a b (m ++ (c ++ d)) piece of_b ∙ simp append_assoc in
    let second : laid_over (a ++ (b ++ (m ++ (c ++ d)))) (length a + length b + length m) other ≡ a ++ (b ++ (m ++ (other ++ d)))
    = ap (λ bytes. laid_over bytes (length a + length b + length m) other) grouped
    ∙ ap (λ at. laid_over ((a ++ b ++ m) ++ (c ++ d)) at other) (sym far)
    ∙ laid_over-parts (a ++ b ++ m) c d other of_c ∙ simp append_assoc in
    let there : laid_over ((a ++ piece ++ m) ++ (c ++ d)) (length a + length b + length m) other ≡ a ++ (piece ++ (m ++ (other ++ d)))
    = ap (λ at. laid_over ((a ++ piece ++ m) ++ (c ++ d)) at other) (sym far_then)
    ∙ laid_over-parts (a ++ piece ++ m) c d other of_c ∙ simp append_assoc in
    let here : laid_over (a ++ (b ++ (m ++ (other ++ d)))) (length a) piece ≡ a ++ (piece ++ (m ++ (other ++ d)))
    = laid_over-parts a b (m ++ (other ++ d)) piece of_b ∙ simp append_assoc in
    ap (λ bytes. laid_over bytes (length a + length b + length m) other) first ∙ there
    ∙ sym (ap (λ bytes. laid_over bytes (length a) piece) second ∙ here)

-- pieces that don't meet may be laid over in either order
pub laid_over-disjoint : (bytes : List ℕ) (offset : ℕ) (piece : List ℕ) (behind : ℕ) (other : List ℕ)
    → offset + length piece ≤ behind → behind + length other ≤ length bytes
    → laid_over (laid_over bytes offset piece) behind other ≡ laid_over (laid_over bytes behind other) offset piece
laid_over-disjoint bytes offset piece behind other apart within =
    let n : ℕ = length piece in
    let gap : ℕ = behind - (offset + length piece) in
    let a : List ℕ = take offset bytes in
    let t : List ℕ = drop offset bytes in
    let b : List ℕ = take n t in
    let u : List ℕ = drop n t in
    let m : List ℕ = take gap u in
    let v : List ℕ = drop gap u in
    let c : List ℕ = take (length other) v in
    let d : List ℕ = drop (length other) v in
    let long_t : length t ≡ length bytes - offset = length-drop offset bytes in
    let long_u : length u ≡ length t - n = length-drop n t in
    let long_v : length v ≡ length u - gap = length-drop gap u in
    let long_a : length a ≡ offset = length-take-le offset bytes (omega arith) in
    let long_b : length b ≡ n = length-take-le n t (omega arith) in
    let long_m : length m ≡ gap = length-take-le gap u (omega arith) in
    let long_c : length c ≡ length other = length-take-le (length other) v (omega arith) in
    let whole : a ++ (b ++ (m ++ (c ++ d))) ≡ bytes = rw (take-append-drop (length other) v, take-append-drop gap u, take-append-drop n t, take-append-drop offset bytes) refl in
    let at : length a + length b + length m ≡ behind = omega arith in
    let swapped = laid_over-two_parts a b m c d piece other long_b long_c in
    rw (at, long_a, whole) at swapped
