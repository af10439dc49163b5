-- Bytes that end in zeros, and a piece laid over zeros.
use Rattle.std.proofs.Common.{◌≡◌, ℕ, zero, suc, ◌+◌, ◌-◌, ◌<◌, ◌≤◌, true, false, cond, ◌&&◌, nat_eq, List, [], ◌∷◌, ◌++◌, length, take, drop, get_or, refl, ap, sym, ◌∙◌, arith}
use Rattle.std.proofs.lemmas.List.{take-replicate, drop-replicate, take_more}
use Rattle.std.proofs.lemmas.Bool.Decides.{nat_tests}
use Rattle.std.proofs.Math.Bool.{and-false}
use Rattle.object_id.specs.Piece.{laid_over}
use Rattle.object_id.specs.Fields.{zeros}
use Rattle.object_store.specs.Bytes.{trimmed_bytes}

pub trimmed_bytes-zeros : (n : ℕ) → trimmed_bytes (zeros n) ≡ []
trimmed_bytes-zeros zero = refl
trimmed_bytes-zeros (suc n) = ap (λ bytes. cond (nat_eq 0 0 && nat_eq (length bytes) 0) [] (0 ∷ bytes)) (trimmed_bytes-zeros n)

pub trimmed_bytes-append_zeros : (bytes : List ℕ) (n : ℕ) → trimmed_bytes (bytes ++ zeros n) ≡ trimmed_bytes bytes
trimmed_bytes-append_zeros [] n = trimmed_bytes-zeros n
trimmed_bytes-append_zeros (byte ∷ bytes) n =
    ap (λ rest. cond (nat_eq byte 0 && nat_eq (length rest) 0) [] (byte ∷ rest)) (trimmed_bytes-append_zeros bytes n)

not_nil : (bytes : List ℕ) (byte : ℕ) → nat_eq (length (bytes ++ byte ∷ [])) 0 ≡ false
not_nil [] byte = grind (arith, nat_tests)
not_nil (b ∷ bytes) byte = grind (arith, nat_tests)

pub trimmed_bytes-push : (bytes : List ℕ) (byte : ℕ) → nat_eq byte 0 ≡ false → trimmed_bytes (bytes ++ byte ∷ []) ≡ bytes ++ byte ∷ []
trimmed_bytes-push [] byte some = ap (λ b. cond (b && true) [] (byte ∷ [])) some
trimmed_bytes-push (b ∷ bytes) byte some =
    ap (λ rest. cond (nat_eq b 0 && nat_eq (length rest) 0) [] (b ∷ rest)) (trimmed_bytes-push bytes byte some)
    ∙ ap (λ long. cond (nat_eq b 0 && long) [] (b ∷ bytes ++ byte ∷ [])) (not_nil bytes byte)
    ∙ ap (λ none. cond none [] (b ∷ bytes ++ byte ∷ [])) (and-false (nat_eq b 0))

last_of : (bytes : List ℕ) (n : ℕ) → 0 < n → n ≤ length bytes → take n bytes ≡ take (n - 1) bytes ++ get_or bytes (n - 1) 0 ∷ []
last_of bytes n some within =
    let back : n - 1 + 1 ≡ n = omega arith in
    ap (λ k. take k bytes) (sym back) ∙ take_more bytes (n - 1) 0 (omega arith)

-- one byte less, where it is 0
pub trimmed_bytes-take_zero : (bytes : List ℕ) (n : ℕ) → 0 < n → n ≤ length bytes → get_or bytes (n - 1) 0 ≡ 0
    → trimmed_bytes (take (n - 1) bytes) ≡ trimmed_bytes (take n bytes)
trimmed_bytes-take_zero bytes n some within is =
    sym (ap trimmed_bytes (last_of bytes n some within) ∙ ap (λ byte. trimmed_bytes (take (n - 1) bytes ++ byte ∷ [])) is
    ∙ trimmed_bytes-append_zeros (take (n - 1) bytes) 1)

-- nothing is cut where the last byte isn't 0
pub trimmed_bytes-take_other : (bytes : List ℕ) (n : ℕ) → 0 < n → n ≤ length bytes → nat_eq (get_or bytes (n - 1) 0) 0 ≡ false
    → trimmed_bytes (take n bytes) ≡ take n bytes
trimmed_bytes-take_other bytes n some within other =
    ap trimmed_bytes (last_of bytes n some within) ∙ trimmed_bytes-push (take (n - 1) bytes) _ other ∙ sym (last_of bytes n some within)

pub laid_over-zeros : (size offset : ℕ) (piece : List ℕ) → offset + length piece ≤ size
    → (zeros offset ++ piece) ++ zeros (size - (offset + length piece)) ≡ laid_over (zeros size) offset piece
laid_over-zeros size offset piece within =
    let front : take offset (zeros size) ≡ zeros offset = take-replicate offset size 0 (omega arith) in
    let rest : drop (offset + length piece) (zeros size) ≡ zeros (size - (offset + length piece)) = drop-replicate (offset + length piece) size 0 in
    rw (front, rest) refl
