-- Pieces are compared one after the other, and what a value is made of.
use Rattle.std.proofs.Common.{◌≡◌, ℕ, zero, suc, ◌+◌, ◌-◌, ◌*◌, ◌^◌, ◌<◌, ◌≤◌, ◌||◌, not, Bool, true, false, List, [], ◌∷◌, ◌++◌, length, take, drop, map, bytes_eq, ◌/◌, refl, sym, ap, ap₂, subst, ◌∙◌, arith}
use Rattle.std.proofs.Math.Nat.{mul-le-mul, mul-le-mul_right}
use Rattle.std.specs.List.{list_any, range_with_len, enumerate_from}
use Rattle.std.proofs.lemmas.List.{drop-take, length-append, length-take-le}
use Rattle.std.proofs.lemmas.List.FromFn.{take-map-range_with_len}
use Rattle.object_id.specs.declared.oid.Kind.TheVariants.{Block}
use Rattle.object_id.specs.declared.policy.Policy.{Policy}
use Rattle.object_id.specs.declared.policy.Policy.TheVariants.{Copies, Coded}
use Rattle.object_id.specs.Policy.{IsPolicy, wanted_of, need_of}
use Rattle.gf256.specs.Part.{part, part_size, parts_in, bytes_of_parts, index_at}
use Rattle.gf256.proofs.Widths.{by_cases, width_most}
use Rattle.object_id.specs.declared.entry.VdiSpec.{VdiSpec}
use Rattle.object_id.specs.Spec.{IsSpec}
use Rattle.gf256.specs.Polynomial.{ArePoints}
use Rattle.gf256.proofs.Points.{range_points, points_to}
use Rattle.disk_check.specs.Value.{all_bytes, pieces_in, value_of, is_other_piece, differ}
use Rattle.disk_check.proofs.WorkLemmas.{object_most, value-length}

-- whether a piece from a place on doesn't pass
abbrev pub other_from : (ℕ × List ℕ → Bool) → (ℕ → List ℕ) → ℕ → ℕ → Bool
other_from other piece place count = list_any other (enumerate_from place (map piece (range_with_len place count)))

pub other_first : (other : ℕ × List ℕ → Bool) (piece : ℕ → List ℕ) (place count : ℕ) → place < count
    → other_from other piece place (count - place) ≡ (other (place, piece place) || other_from other piece (place + 1) (count - (place + 1)))
other_first other piece place count below =
    let more : count - place ≡ suc (count - (place + 1)) = omega arith in
    ap (other_from other piece place) more

pub other_none : (other : ℕ × List ℕ → Bool) (piece : ℕ → List ℕ) (place count : ℕ) → count ≤ place
    → other_from other piece place (count - place) ≡ false
other_none other piece place count past =
    let none : count - place ≡ 0 = omega arith in
    ap (other_from other piece place) none

pub wanted-most : (policy : Policy) → IsPolicy policy → wanted_of policy Block ≤ 31
wanted-most (Copies copies) is = is.1
wanted-most (Coded d p) is = let most : d ≤ 16 = width_most d is.0 in omega (arith, most, is.2)

pub need-wanted : (policy : Policy) → IsPolicy policy → need_of policy Block ≤ wanted_of policy Block
need-wanted (Copies copies) is = is.0
need-wanted (Coded d p) is = omega arith

-- the part of whole copies is the same under each index
pub part-index_at : (policy : Policy) (place : ℕ) (bytes : List ℕ) → part policy Block (index_at policy Block place) bytes ≡ part policy Block place bytes
unfolding part
part-index_at (Copies copies) place bytes = refl
part-index_at (Coded d p) place bytes = refl

take-take-le : (n m : ℕ) (xs : List ℕ) → n ≤ m → take n (take m xs) ≡ take n xs
take-take-le zero m xs few = refl
take-take-le (suc n) zero xs few = absurd (omega arith)
take-take-le (suc n) (suc m) [] few = refl
take-take-le (suc n) (suc m) (x ∷ xs) few = ap (λ (ys : List ℕ). x ∷ ys) (take-take-le n m xs (omega arith))

-- the first pieces are those of the first bytes
pub first_parts : (size count wanted : ℕ) (bytes : List ℕ) → count ≤ wanted
    → take count (parts_in size wanted bytes) ≡ parts_in size count (take (count * size) bytes)
first_parts size count wanted bytes few =
    take-map-range_with_len (λ place. take size (drop (place * size) bytes)) 0 wanted count few
    ∙ same_map 0 count (omega arith)
  where
    same : (place : ℕ) → place < count → take size (drop (place * size) bytes) ≡ take size (drop (place * size) (take (count * size) bytes))
    same place below =
        let split : count ≡ place + 1 + (count - (place + 1)) = omega arith in
        let all : count * size ≡ place * size + (size + (count - (place + 1)) * size) = ap (λ n. n * size) split ∙ grind arith in
        sym
        (ap (λ n. take size (drop (place * size) (take n bytes))) all
        ∙ ap (take size) (drop-take (place * size) (size + (count - (place + 1)) * size) bytes)
        ∙ take-take-le size (size + (count - (place + 1)) * size) (drop (place * size) bytes) (omega arith))

    same_map : (a n : ℕ) → a + n ≤ count
        → map (λ place. take size (drop (place * size) bytes)) (range_with_len a n)
        ≡ map (λ place. take size (drop (place * size) (take (count * size) bytes))) (range_with_len a n)
    same_map a zero few = refl
    same_map a (suc n) few =
        ap₂ (λ (x : List ℕ) (xs : List (List ℕ)). x ∷ xs) (same a (omega (arith, few))) (same_map (a + 1) n (omega (arith, few)))

-- ---- the value

-- the indexes of the data strips are the first numbers
pub first_indexes : (policy : Policy) → IsPolicy policy → take (need_of policy Block) (range_with_len 0 16) ≡ range_with_len 0 (need_of policy Block)
first_indexes (Copies copies) is = refl
first_indexes (Coded d p) is = by_cases (λ d. take d (range_with_len 0 16) ≡ range_with_len 0 d) refl refl refl refl d is.0

need-most : (policy : Policy) → IsPolicy policy → need_of policy Block ≤ 16
need-most (Copies copies) is = omega arith
need-most (Coded d p) is = width_most d is.0

pub index_points : (policy : Policy) (need : ℕ) → IsPolicy policy → need ≡ need_of policy Block → ArePoints (take need (range_with_len 0 16))
index_points policy need is e =
    let most : need_of policy Block ≤ 16 = need-most policy is in
    subst ArePoints (sym (ap (λ n. take n (range_with_len 0 16)) e ∙ first_indexes policy is))
    (points_to (range_with_len 0 (need_of policy Block)) (range_points 0 (need_of policy Block) (omega (arith, most))))

pub value_made : (spec : VdiSpec) (long need size : ℕ) (bytes : List ℕ) → IsSpec spec → long ≡ 2 ^ spec.shift → need ≡ need_of spec.policy Block
    → size ≡ part_size spec.policy Block long
    → bytes_of_parts spec.policy Block (take need (range_with_len 0 16))
    (parts_in (part_size spec.policy Block long) (need_of spec.policy Block) (take (need * size) bytes))
    ≡ value_of spec.policy (pieces_in spec bytes)
value_made spec long need size bytes is whole n s =
    let policy : Policy = spec.policy in
    let target : ℕ = part_size policy Block (2 ^ spec.shift) in
    let same : size ≡ target = s ∙ ap (part_size policy Block) whole in
    ap₂ (bytes_of_parts policy Block)
    (ap (λ n. take n (range_with_len 0 16)) n ∙ first_indexes policy is.policy)
    (ap (λ long. parts_in (part_size policy Block long) (need_of policy Block) (take (need * size) bytes)) whole
    ∙ ap₂ (λ n k. parts_in target (need_of policy Block) (take (n * k) bytes)) n same
    ∙ sym (first_parts target (need_of policy Block) (wanted_of policy Block) bytes (need-wanted policy is.policy)))

-- ---- where a piece stands

part_size-most : (policy : Policy) (n : ℕ) → IsPolicy policy → part_size policy Block n ≤ n
part_size-most (Copies copies) n is = omega arith
part_size-most (Coded d p) n is = by_cases (λ d. n / d ≤ n) (omega arith) (omega arith) (omega arith) (omega arith) d is.0

pub piece_ends : (place count size : ℕ) → place < count → place * size + size ≤ count * size
piece_ends place count size below =
    let next : (place + 1) * size ≤ count * size = mul-le-mul_right size (omega arith) in
    let sum : (place + 1) * size ≡ place * size + size = grind arith in
    omega (arith, next, sum)

-- where a piece of an object ends
pub record EndsWithin (place size : ℕ) (bytes : List ℕ) : Type 0 where
  pub within : place * size + size ≤ length bytes
  pub fits : place * size + size < 2 ^ 64

pub ends_within : (spec : VdiSpec) (place count size : ℕ) (value bytes : List ℕ) → IsSpec spec → length bytes ≡ all_bytes spec
    → value ≡ value_of spec.policy (pieces_in spec bytes) → count ≡ wanted_of spec.policy Block
    → size ≡ part_size spec.policy Block (length value) → place < count → EndsWithin place size bytes
ends_within spec place count size value bytes is whole v n s below =
    let long : length value ≡ 2 ^ spec.shift = ap length v ∙ value-length spec bytes is whole in
    let target : size ≡ part_size spec.policy Block (2 ^ spec.shift) = s ∙ ap (part_size spec.policy Block) long in
    let all : length bytes ≡ count * size = whole ∙ sym (ap₂ (λ m k. m * k) n target) in
    let end : place * size + size ≤ count * size = piece_ends place count size below in
    let few : wanted_of spec.policy Block ≤ 31 = wanted-most spec.policy is.policy in
    let count_most : count ≤ 31 = omega (arith, n, few) in
    let part_most : part_size spec.policy Block (2 ^ spec.shift) ≤ 2 ^ spec.shift = part_size-most spec.policy (2 ^ spec.shift) is.policy in
    let most : 2 ^ spec.shift ≤ 2 ^ 24 = object_most spec is in
    let size_most : size ≤ 2 ^ 24 = omega (arith, target, part_most, most) in
    let bound : count * size ≤ 31 * 2 ^ 24 = mul-le-mul count_most size_most in
    record { within = omega (arith, all, end); fits = omega (arith, end, bound) }

-- the piece at a place isn't the value's
pub other_piece : (policy : Policy) (place : ℕ) (value piece kept : List ℕ) (other : Bool) → other ≡ not (bytes_eq piece kept)
    → kept ≡ part policy Block place value → other ≡ is_other_piece policy value (place, piece)
other_piece policy place value piece kept other e k =
    e ∙ ap (λ kept. not (bytes_eq piece kept)) (k ∙ sym (part-index_at policy place value))

-- ---- all pieces, one after the other

pub all_pieces : (spec : VdiSpec) (value bytes : List ℕ) (size : ℕ) → IsSpec spec → length bytes ≡ all_bytes spec
    → value ≡ value_of spec.policy (pieces_in spec bytes) → size ≡ part_size spec.policy Block (length value)
    → other_from (is_other_piece spec.policy value) (λ place. take size (drop (place * size) bytes)) 0 (wanted_of spec.policy Block - 0)
    ≡ differ spec.policy (pieces_in spec bytes)
all_pieces spec value bytes size is whole v s =
    let policy : Policy = spec.policy in
    let long : length value ≡ 2 ^ spec.shift = ap length v ∙ value-length spec bytes is whole in
    let all : wanted_of policy Block - 0 ≡ wanted_of policy Block = omega arith in
    ap (λ size. other_from (is_other_piece policy value) (λ place. take size (drop (place * size) bytes)) 0 (wanted_of policy Block - 0))
    (s ∙ ap (part_size policy Block) long)
    ∙ ap (other_from (is_other_piece policy value)
    (λ place. take (part_size policy Block (2 ^ spec.shift)) (drop (place * part_size policy Block (2 ^ spec.shift)) bytes)) 0) all
    ∙ ap (λ (value : List ℕ). list_any (is_other_piece policy value) (enumerate_from 0 (pieces_in spec bytes))) v

pub found_other : (other : ℕ × List ℕ → Bool) (piece : ℕ → List ℕ) (place count : ℕ) (p : List ℕ) (differs : Bool) → place < count
    → other_from other piece place (count - place) ≡ differs → p ≡ piece place → other (place, p) ≡ true → true ≡ differs
found_other other piece place count p differs below rest e is =
    sym (ap (λ b. b || other_from other piece (place + 1) (count - (place + 1))) (ap (λ (p : List ℕ). other (place, p)) (sym e) ∙ is))
    ∙ sym (other_first other piece place count below) ∙ rest

pub none_found : (other : ℕ × List ℕ → Bool) (piece : ℕ → List ℕ) (place count : ℕ) (p : List ℕ) (differs : Bool) → place < count
    → other_from other piece place (count - place) ≡ differs → p ≡ piece place → other (place, p) ≡ false
    → other_from other piece (place + 1) (count - (place + 1)) ≡ differs
none_found other piece place count p differs below rest e is =
    sym (ap (λ b. b || other_from other piece (place + 1) (count - (place + 1))) (ap (λ (p : List ℕ). other (place, p)) (sym e) ∙ is))
    ∙ sym (other_first other piece place count below) ∙ rest

pub piece_at_place : (start size : ℕ) (bytes : List ℕ) → take (start + size - start) (drop start bytes) ≡ take size (drop start bytes)
piece_at_place start size bytes =
    let long : start + size - start ≡ size = omega arith in
    ap (λ n. take n (drop start bytes)) long

-- what was written over all of a vector is as long as it
pub length-written : (long size : ℕ) (new old : List ℕ) → length new ≡ size → long ≡ size → length (take long (new ++ drop (length new) old)) ≡ size
length-written long size new old n l =
    let whole : length (new ++ drop (length new) old) ≡ length new + length (drop (length new) old) = length-append new (drop (length new) old) in
    length-take-le long (new ++ drop (length new) old) (omega (arith, whole, n, l)) ∙ l

pub all_fit : (spec : VdiSpec) (count size long : ℕ) → IsSpec spec → count ≡ wanted_of spec.policy Block → size ≡ part_size spec.policy Block long
    → long ≡ 2 ^ spec.shift → count * size < 2 ^ 64
all_fit spec count size long is n s l =
    let few : wanted_of spec.policy Block ≤ 31 = wanted-most spec.policy is.policy in
    let count_most : count ≤ 31 = omega (arith, n, few) in
    let part_most : part_size spec.policy Block long ≤ long = part_size-most spec.policy long is.policy in
    let most : 2 ^ spec.shift ≤ 2 ^ 24 = object_most spec is in
    let size_most : size ≤ 2 ^ 24 = omega (arith, s, part_most, l, most) in
    let bound : count * size ≤ 31 * 2 ^ 24 = mul-le-mul count_most size_most in
    omega (arith, bound)
