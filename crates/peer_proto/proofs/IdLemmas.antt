-- Object ids, and lists of them, as bytes and back.
use Rattle.std.proofs.Common.{◌≡◌, ℕ, zero, suc, ◌+◌, ◌-◌, ◌*◌, ◌/◌, ◌%◌, ◌^◌, ◌<◌, Bool, true, false, ◌&&◌, List, [], ◌∷◌, ◌++◌, length, drop, get_or, refl, sym, ap, subst, ◌∙◌, arith}
use Rattle.std.specs.Prelude.{nat_lt, nat_eq, All}
use Rattle.std.specs.List.Sorted.{IsStrictlyIncreasing}
use Rattle.std.specs.Int.{w64}
use Rattle.std.specs.List.{AllByRecursion}
use Rattle.std.proofs.Math.Seq.{drop-length}
use Rattle.std.proofs.lemmas.List.Elements.{All-from_recursion, recursion_from_All}
use Rattle.std.proofs.lemmas.Bool.{ltb-true, lt-ltb, eqb-true, and_parts, and_from}
use Rattle.std.proofs.lemmas.List.{length-append, append-nil}
use Rattle.std.proofs.lemmas.Bool.Decides.{nat_tests}
use Rattle.std.proofs.Math.Bool.{and-false}
use Rattle.proof_tools.proofs.AscendingNumbers.{IsStrictlyIncreasing-tail}
use Rattle.object_id.specs.Oid.{IsOid}
use Rattle.object_id.specs.Fields.{u64_at, u64_bytes, numbers_at, AreBytes, Stands}
use Rattle.peer_proto.specs.Ids.{is_oid, are_ids_above, id_bytes, ids_in, are_id_bytes}
use Rattle.object_id.proofs.FieldLemmas.{numbers-more, numbers-read, stands-numbers, stands-front, wide64, u64-below}

-- ---- one id

pub oid-is : (raw : ℕ) → raw < 2 ^ 64 → is_oid raw ≡ true → IsOid raw
oid-is raw fits h = grind (arith, nat_tests, fits, h)

pub oid-passes : (raw : ℕ) → IsOid raw → is_oid raw ≡ true
oid-passes raw is = grind (arith, nat_tests, is)

-- ---- lists of ids

-- the numbers from a place on
pub numbers-from : (count k : ℕ) (bytes : List ℕ) → k < count
    → numbers_at w64 (count - k) (k * 8) bytes ≡ u64_at (k * 8) bytes ∷ numbers_at w64 (count - (k + 1)) ((k + 1) * 8) bytes
numbers-from count k bytes lt =
    let more : count - k ≡ suc (count - (k + 1)) = omega arith in
    let place : k * 8 + 8 ≡ (k + 1) * 8 = omega arith in
    ap (λ (n : ℕ). numbers_at w64 n (k * 8) bytes) more
    ∙ ap (λ (at : ℕ). u64_at (k * 8) bytes ∷ numbers_at w64 (count - (k + 1)) at bytes) place

-- none is left at the end
pub numbers-end : (count : ℕ) (bytes : List ℕ) → numbers_at w64 (count - count) (count * 8) bytes ≡ []
numbers-end count bytes =
    let none : count - count ≡ 0 = omega arith in
    ap (λ (n : ℕ). numbers_at w64 n (count * 8) bytes) none

-- one number more
pub numbers-push : (k : ℕ) (bytes : List ℕ) → numbers_at w64 k 0 bytes ++ u64_at (k * 8) bytes ∷ [] ≡ numbers_at w64 (k + 1) 0 bytes
numbers-push k bytes =
    let place : 0 + 8 * k ≡ k * 8 = omega arith in
    sym (numbers-more w64 k 0 bytes ∙ ap (λ (at : ℕ). numbers_at w64 k 0 bytes ++ u64_at at bytes ∷ []) place)

-- one id more is looked at: it isn't the next one, or the rest is looked at
pub ids-refused : (k last oid : ℕ) (bytes : List ℕ) → k < length bytes / 8 → oid ≡ u64_at (k * 8) bytes → (nat_lt last oid && is_oid oid) ≡ false
    → are_ids_above last (numbers_at w64 (length bytes / 8 - k) (k * 8) bytes) ≡ are_ids_above 0 (ids_in bytes) → false ≡ are_id_bytes bytes
ids-refused k last oid bytes lt is bad so_far =
    let count : ℕ = length bytes / 8 in
    let none : are_ids_above 0 (ids_in bytes) ≡ false
    = sym so_far ∙ ap (are_ids_above last) (numbers-from count k bytes lt)
    ∙ ap (λ (o : ℕ). nat_lt last o && is_oid o && are_ids_above o (numbers_at w64 (count - (k + 1)) ((k + 1) * 8) bytes)) (sym is)
    ∙ ap (λ (b : Bool). b && are_ids_above oid (numbers_at w64 (count - (k + 1)) ((k + 1) * 8) bytes)) bad in
    sym (ap (λ (b : Bool). nat_eq (length bytes % 8) 0 && b) none ∙ and-false (nat_eq (length bytes % 8) 0))

pub ids-go_on : (count k last oid : ℕ) (bytes : List ℕ) (total : Bool) → k < count → oid ≡ u64_at (k * 8) bytes → (nat_lt last oid && is_oid oid) ≡ true
    → are_ids_above last (numbers_at w64 (count - k) (k * 8) bytes) ≡ total
    → are_ids_above oid (numbers_at w64 (count - (k + 1)) ((k + 1) * 8) bytes) ≡ total
ids-go_on count k last oid bytes total lt is good so_far =
    sym (ap (are_ids_above last) (numbers-from count k bytes lt)
    ∙ ap (λ (o : ℕ). nat_lt last o && is_oid o && are_ids_above o (numbers_at w64 (count - (k + 1)) ((k + 1) * 8) bytes)) (sym is)
    ∙ ap (λ (b : Bool). b && are_ids_above oid (numbers_at w64 (count - (k + 1)) ((k + 1) * 8) bytes)) good) ∙ so_far

-- each takes eight bytes
pub length_id_bytes : (oids : List ℕ) → length (id_bytes oids) ≡ length oids * 8
length_id_bytes [] = refl
length_id_bytes (oid ∷ oids) = omega (arith, length-append (u64_bytes oid) (id_bytes oids), length_id_bytes oids)

-- each of ascending ids is one
pub id-at : (n at last k : ℕ) (bytes : List ℕ) → are_ids_above last (numbers_at w64 n at bytes) ≡ true → k < n
    → is_oid (u64_at (at + 8 * k) bytes) ≡ true
id-at zero at last k bytes h lt = absurd (omega arith)
id-at (suc n) at last zero bytes h lt =
    let first : is_oid (u64_at at bytes) ≡ true = (and_parts _ _ (and_parts _ _ h).0).1 in
    let place : at ≡ at + 8 * 0 = omega arith in
    ap (λ (p : ℕ). is_oid (u64_at p bytes)) (sym place) ∙ first
id-at (suc n) at last (suc k) bytes h lt =
    let place : at + 8 + 8 * k ≡ at + 8 * suc k = omega arith in
    ap (λ (p : ℕ). is_oid (u64_at p bytes)) (sym place) ∙ id-at n (at + 8) (u64_at at bytes) k bytes (and_parts _ _ h).1 (omega arith)

pub id_in : (bytes : List ℕ) (k : ℕ) → are_id_bytes bytes ≡ true → k < length bytes / 8 → is_oid (u64_at (k * 8) bytes) ≡ true
id_in bytes k h lt =
    let place : k * 8 ≡ 0 + 8 * k = omega arith in
    ap (λ (p : ℕ). is_oid (u64_at p bytes)) place ∙ id-at (length bytes / 8) 0 0 k bytes (and_parts _ _ h).1 lt

ascend-cons : (a b : ℕ) (oids : List ℕ) → a < b → IsStrictlyIncreasing (b ∷ oids) → IsStrictlyIncreasing (a ∷ b ∷ oids)
ascend-cons a b oids lt rest zero within = lt
ascend-cons a b oids lt rest (suc k) within =
    let same : suc (k + 1) ≡ suc k + 1 = omega arith in
    subst (λ (n : ℕ). get_or (b ∷ oids) k 0 < get_or (a ∷ b ∷ oids) n 0) same (rest k (omega arith))

pub ascend : (last : ℕ) (oids : List ℕ) → are_ids_above last oids ≡ true → IsStrictlyIncreasing oids
ascend last [] h = λ k lt. absurd (omega arith)
ascend last (a ∷ []) h = λ k lt. absurd (omega arith)
ascend last (a ∷ b ∷ oids) h = ascend-cons a b oids (ltb-true a b (and_parts _ _ (and_parts _ _ (and_parts _ _ h).1).0).0) (ascend a (b ∷ oids) (and_parts _ _ h).1)

pub ids_ascend : (bytes : List ℕ) → are_id_bytes bytes ≡ true → IsStrictlyIncreasing (ids_in bytes)
ids_ascend bytes h = ascend 0 (ids_in bytes) (and_parts _ _ h).1

-- bytes of ids, read and spelled again, are the same
pub ids-back : (bytes : List ℕ) → AreBytes bytes → are_id_bytes bytes ≡ true → id_bytes (ids_in bytes) ≡ bytes
ids-back bytes fits h =
    let count : ℕ = length bytes / 8 in
    let whole : length bytes % 8 ≡ 0 = eqb-true (length bytes % 8) 0 (and_parts (nat_eq (length bytes % 8) 0) (are_ids_above 0 (ids_in bytes)) h).0 in
    let end : 0 + 8 * (length bytes / 8) ≡ length bytes = omega (arith, whole) in
    let stands : Stands bytes 0 (0 + 8 * count) (id_bytes (ids_in bytes)) = stands-numbers w64 (2 ^ 64) wide64 bytes fits count 0 (omega (arith, end)) in
    let nothing : drop (0 + 8 * count) bytes ≡ [] = ap (λ (n : ℕ). drop n bytes) end ∙ drop-length bytes in
    sym (stands.parts ∙ ap (λ (rest : List ℕ). id_bytes (ids_in bytes) ++ rest) nothing ∙ append-nil (id_bytes (ids_in bytes)))

are-oids : (last : ℕ) (oids : List ℕ) → AllByRecursion (λ (n : ℕ). n < 2 ^ 64) oids → are_ids_above last oids ≡ true → AllByRecursion IsOid oids
are-oids last [] fits h = tt
are-oids last (oid ∷ oids) fits h =
    let first = and_parts (nat_lt last oid && is_oid oid) (are_ids_above oid oids) h in
    (oid-is oid fits.0 (and_parts (nat_lt last oid) (is_oid oid) first.0).1, are-oids oid oids fits.1 first.1)

numbers-below : (count at : ℕ) (bytes : List ℕ) → AreBytes bytes → AllByRecursion (λ (n : ℕ). n < 2 ^ 64) (numbers_at w64 count at bytes)
numbers-below zero at bytes fits = tt
numbers-below (suc count) at bytes fits = (u64-below bytes at fits, numbers-below count (at + 8) bytes fits)

pub ids-are : (bytes : List ℕ) → AreBytes bytes → are_id_bytes bytes ≡ true → All IsOid (ids_in bytes)
ids-are bytes fits h =
    All-from_recursion IsOid (ids_in bytes)
    (are-oids 0 (ids_in bytes) (numbers-below (length bytes / 8) 0 bytes fits) (and_parts (nat_eq (length bytes % 8) 0) (are_ids_above 0 (ids_in bytes)) h).1)

-- ids, spelled and read again, are the same
below : (oids : List ℕ) → AllByRecursion IsOid oids → AllByRecursion (λ (n : ℕ). n < 2 ^ 64) oids
below [] h = tt
below (oid ∷ oids) h = (h.0.0, below oids h.1)

eighth : (oids : List ℕ) → length (id_bytes oids) / 8 ≡ length oids
eighth oids = omega (arith, length_id_bytes oids)

pub ids-again : (oids : List ℕ) → All IsOid oids → ids_in (id_bytes oids) ≡ oids
ids-again oids are =
    let stands : Stands (id_bytes oids) 0 (length (id_bytes oids)) (id_bytes oids) = stands-front (id_bytes oids) (id_bytes oids) [] (length (id_bytes oids)) refl (sym (append-nil (id_bytes oids))) in
    ap (λ (n : ℕ). numbers_at w64 n 0 (id_bytes oids)) (eighth oids)
    ∙ numbers-read w64 (2 ^ 64) wide64 (id_bytes oids) oids 0 (length (id_bytes oids)) (below oids (recursion_from_All IsOid oids are)) stands

next-above : (oid : ℕ) (oids : List ℕ) → IsStrictlyIncreasing (oid ∷ oids) → (k : ℕ) → k < length oids → k ≡ 0 → oid < get_or oids 0 0
next-above oid oids rise k lt none =
    let one : 0 + 1 ≡ suc 0 = refl in
    rise 0 (omega arith)

positive : (raw : ℕ) → IsOid raw → 0 < raw
positive zero is = absurd (is.2 refl)
positive (suc raw) is = omega arith

first-above : (oids : List ℕ) → AllByRecursion IsOid oids → (k : ℕ) → k < length oids → k ≡ 0 → 0 < get_or oids 0 0
first-above [] are k lt none = absurd (omega arith)
first-above (oid ∷ oids) are k lt none = positive oid are.0

above : (last : ℕ) (oids : List ℕ) → ((k : ℕ) → k < length oids → k ≡ 0 → last < get_or oids 0 0) → AllByRecursion IsOid oids → IsStrictlyIncreasing oids
    → are_ids_above last oids ≡ true
above last [] first are rise = refl
above last (oid ∷ oids) first are rise =
    and_from (nat_lt last oid && is_oid oid) (are_ids_above oid oids)
    (and_from (nat_lt last oid) (is_oid oid) (lt-ltb last oid (first 0 (omega arith) refl)) (oid-passes oid are.0))
    (above oid oids (next-above oid oids rise) are.1 (IsStrictlyIncreasing-tail oid oids rise))

pub ids-pass : (oids : List ℕ) → All IsOid oids → IsStrictlyIncreasing oids → are_id_bytes (id_bytes oids) ≡ true
ids-pass oids are rise =
    let whole : length (id_bytes oids) % 8 ≡ 0 = omega (arith, length_id_bytes oids) in
    let ids = recursion_from_All IsOid oids are in
    let test : are_ids_above 0 (ids_in (id_bytes oids)) ≡ true = ap (are_ids_above 0) (ids-again oids are) ∙ above 0 oids (first-above oids ids) ids rise in
    and_from (nat_eq (length (id_bytes oids) % 8) 0) (are_ids_above 0 (ids_in (id_bytes oids))) (ap (λ (n : ℕ). nat_eq n 0) whole) test
