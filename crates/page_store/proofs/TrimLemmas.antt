-- Bytes that are cut behind their last one that isn't 0, where they stand in parts.
use Rattle.std.proofs.Common.{◌≡◌, ℕ, ◌+◌, ◌-◌, ◌<◌, ◌≤◌, true, false, cond, ◌&&◌, nat_eq, List, [], ◌∷◌, ◌++◌, length, take, drop, refl, ap, sym, ◌∙◌, arith}
use Rattle.std.proofs.lemmas.Bool.Decides.{nat_tests}
use Rattle.std.proofs.Math.Bool.{and-false}
use Rattle.std.proofs.Math.Seq.{take-append_seam, take-add}
use Rattle.std.proofs.lemmas.List.{length-drop, length-take-le}
use Rattle.object_store.specs.Bytes.{piece_at, trimmed_bytes}
use Rattle.page_store.proofs.PieceLemmas.{piece_at-more}

-- a byte before bytes of which some are left
before_some : (byte : ℕ) (all : List ℕ) (some : nat_eq (length all) 0 ≡ false) → cond (nat_eq byte 0 && nat_eq (length all) 0) [] (byte ∷ all) ≡ byte ∷ all
before_some byte all some =
    ap (λ b. cond (nat_eq byte 0 && b) [] (byte ∷ all)) some ∙ ap (λ b. cond b [] (byte ∷ all)) (and-false (nat_eq byte 0))

some_behind : (front back : List ℕ) → nat_eq (length back) 0 ≡ false → nat_eq (length (front ++ back)) 0 ≡ false
some_behind [] back some = some
some_behind (byte ∷ front) back some = grind (arith, nat_tests)

-- behind the front some byte isn't 0
pub trimmed_bytes-some : (front back : List ℕ) → nat_eq (length (trimmed_bytes back)) 0 ≡ false → trimmed_bytes (front ++ back) ≡ front ++ trimmed_bytes back
trimmed_bytes-some [] back some = refl
trimmed_bytes-some (byte ∷ front) back some =
    ap (λ rest. cond (nat_eq byte 0 && nat_eq (length rest) 0) [] (byte ∷ rest)) (trimmed_bytes-some front back some)
    ∙ before_some byte (front ++ trimmed_bytes back) (some_behind front (trimmed_bytes back) some)

nothing : (bytes : List ℕ) → nat_eq (length bytes) 0 ≡ true → bytes ≡ []
nothing [] none = refl
nothing (byte ∷ bytes) none = absurd (grind (arith, nat_tests))

-- behind the front all bytes are 0
pub trimmed_bytes-none : (front back : List ℕ) → nat_eq (length (trimmed_bytes back)) 0 ≡ true → trimmed_bytes (front ++ back) ≡ trimmed_bytes front
trimmed_bytes-none [] back none = nothing (trimmed_bytes back) none
trimmed_bytes-none (byte ∷ front) back none =
    ap (λ rest. cond (nat_eq byte 0 && nat_eq (length rest) 0) [] (byte ∷ rest)) (trimmed_bytes-none front back none)

-- ---- the last part of bytes

split : (bytes : List ℕ) (start n : ℕ) → take (start + n) bytes ≡ take start bytes ++ piece_at bytes start n
split bytes start n = take-add start n bytes

-- some byte of the part isn't 0
pub trimmed_bytes-part : (bytes : List ℕ) (start n count end : ℕ) (part : List ℕ) → start + n ≡ end → end ≤ length bytes → part ≡ piece_at bytes start n → count ≤ n
    → take count part ≡ trimmed_bytes part → 0 < count → take (start + count) bytes ≡ trimmed_bytes (take end bytes)
trimmed_bytes-part bytes start n count end part whole within is small cut some =
    sym (ap (λ k. trimmed_bytes (take k bytes)) (sym whole) ∙ ap trimmed_bytes (split bytes start n)
    ∙ trimmed_bytes-some (take start bytes) (piece_at bytes start n) left ∙ ap (λ rest. take start bytes ++ rest) (sym front)
    ∙ sym (split bytes start count))
  where
    rest_of : length (drop start bytes) ≡ length bytes - start
    rest_of = length-drop start bytes

    long : length (piece_at bytes start count) ≡ count
    long = length-take-le count (drop start bytes) (omega (arith, rest_of))

    parts : piece_at bytes start n ≡ piece_at bytes start count ++ piece_at bytes (start + count) (n - count)
    parts =
        let back : count + (n - count) ≡ n = omega arith in
        ap (piece_at bytes start) (sym back) ∙ piece_at-more bytes start count (n - count)

    front : piece_at bytes start count ≡ trimmed_bytes (piece_at bytes start n)
    front =
        sym (take-append_seam (piece_at bytes start count) (piece_at bytes (start + count) (n - count)))
        ∙ (λ i. take (long i) (sym parts i)) ∙ ap (take count) (sym is) ∙ cut ∙ ap trimmed_bytes is

    left : nat_eq (length (trimmed_bytes (piece_at bytes start n))) 0 ≡ false
    left =
        let full : length (trimmed_bytes (piece_at bytes start n)) ≡ count = ap length (sym front) ∙ long in
        grind (arith, nat_tests)

-- all bytes of the part are 0
pub trimmed_bytes-no_part : (bytes : List ℕ) (start n count end : ℕ) (part : List ℕ) → start + n ≡ end → part ≡ piece_at bytes start n
    → take count part ≡ trimmed_bytes part → count ≡ 0 → trimmed_bytes (take start bytes) ≡ trimmed_bytes (take end bytes)
trimmed_bytes-no_part bytes start n count end part whole is cut none =
    sym (ap (λ k. trimmed_bytes (take k bytes)) (sym whole) ∙ ap trimmed_bytes (split bytes start n)
    ∙ trimmed_bytes-none (take start bytes) (piece_at bytes start n) left)
  where
    nil : trimmed_bytes (piece_at bytes start n) ≡ []
    nil = ap trimmed_bytes (sym is) ∙ sym cut ∙ ap (λ k. take k part) none

    left : nat_eq (length (trimmed_bytes (piece_at bytes start n))) 0 ≡ true
    left = ap (λ (bytes : List ℕ). nat_eq (length bytes) 0) nil
