-- Parts of objects: their length, the parts of pieces and of bytes with a piece laid over, and that as
-- many parts as a read needs give the bytes back.
use Rattle.std.proofs.Common.{◌≡◌, ℕ, zero, suc, ◌+◌, ◌-◌, ◌*◌, ◌/◌, ◌%◌, ◌^◌, ◌<◌, ◌≤◌, List, [], ◌∷◌, ◌++◌, length, get_or, map, take, drop, refl, sym, ap, ap₂, ◌∙◌, subst, arith, append_assoc, append-nil, length-append, length-drop, suc-add, mul_comm, mul_assoc, add-mul, one-mul, suc-mul, take-append-drop, zero-add, take_all, replicate}
use Rattle.std.specs.List.{All, flat_map, range_with_len}
use Rattle.std.proofs.lemmas.List.{length-take-le, take_at, drop_at, take-append-le, drop-append-le, nil_from_length, get_or-take, take-replicate, drop-replicate, replicate-append-replicate, length-replicate}
use Rattle.std.proofs.lemmas.List.Elements.{All-take, All-drop, All-append, All-nil}
use Rattle.std.proofs.Math.Nat.{zero-mul, mul-div_cancel}
use Rattle.proof_tools.proofs.Lists.{map-agree}
use Rattle.object_id.specs.declared.policy.Policy.{Policy}
use Rattle.object_id.specs.declared.policy.Policy.TheVariants.{Copies, Coded}
use Rattle.object_id.specs.declared.oid.Kind.{Kind}
use Rattle.object_id.specs.declared.oid.Kind.TheVariants.{Block, Inode}
use Rattle.object_id.specs.Policy.{IsPolicy, need_of}
use Rattle.object_id.specs.Piece.{laid_over}
use Rattle.object_id.specs.Fields.{AreBytes}
use Rattle.gf256.specs.Polynomial.{ArePoints}
use Rattle.gf256.specs.Strip.{strip, block_through, Divides}
use Rattle.gf256.proofs.StripLaws.{length-strip, strip_is_bytes, strip_some, strip-zeros, block_through-strips}
use Rattle.gf256.proofs.Points.{bytes_of_all, all_of_bytes}
use Rattle.gf256.specs.Part.{strips_of_blocks, blocks_through, IsAligned, part_size, part, first_part, parts_in, bytes_of_parts}
use Rattle.gf256.proofs.Widths.{divides}

-- strips of blocks

length-strips_of_blocks : (d index blocks : ℕ) (bytes : List ℕ)
    → length (strips_of_blocks d index blocks bytes) ≡ blocks * (512 / d)
unfolding strips_of_blocks
length-strips_of_blocks d index zero bytes = sym (zero-mul (512 / d))
length-strips_of_blocks d index (suc blocks) bytes =
    length-append (strip d (take 512 bytes) index) (strips_of_blocks d index blocks (drop 512 bytes))
    ∙ ap₂ ◌+◌ (length-strip d (take 512 bytes) index) (length-strips_of_blocks d index blocks (drop 512 bytes))
    ∙ (let e : 512 / d + blocks * (512 / d) ≡ suc blocks * (512 / d) = omega (arith, suc-mul blocks (512 / d)) in e)

strips_of_blocks-append : (d index blocks more : ℕ) (front back : List ℕ) → length front ≡ blocks * 512
    → strips_of_blocks d index (blocks + more) (front ++ back)
    ≡ strips_of_blocks d index blocks front ++ strips_of_blocks d index more back
unfolding strips_of_blocks
strips_of_blocks-append d index zero more front back e =
    let empty : front ≡ [] = nil_from_length front (omega arith) in
    ap₂ (λ n xs. strips_of_blocks d index n (xs ++ back)) (zero-add more) empty
strips_of_blocks-append d index (suc blocks) more front back e =
    let long : 512 ≤ length front = omega arith in
    let rest : length (drop 512 front) ≡ blocks * 512 = omega (arith, length-drop 512 front) in
    ap (λ n. strips_of_blocks d index n (front ++ back)) (suc-add blocks more)
    ∙ ap₂ (λ block left. strip d block index ++ strips_of_blocks d index (blocks + more) left)
    (take-append-le 512 front back long) (drop-append-le 512 front back long)
    ∙ ap (◌++◌ (strip d (take 512 front) index)) (strips_of_blocks-append d index blocks more (drop 512 front) back rest)
    ∙ sym (append_assoc (strip d (take 512 front) index) (strips_of_blocks d index blocks (drop 512 front)) (strips_of_blocks d index more back))

strips_are_bytes : (d index blocks : ℕ) (bytes : List ℕ) → AreBytes (strips_of_blocks d index blocks bytes)
unfolding strips_of_blocks
strips_are_bytes d index zero bytes = bytes_of_all [] (All-nil (λ b. b < 2 ^ 8))
strips_are_bytes d index (suc blocks) bytes =
    bytes_of_all (strip d (take 512 bytes) index ++ strips_of_blocks d index blocks (drop 512 bytes))
    (All-append (λ b. b < 2 ^ 8) (strip d (take 512 bytes) index) (strips_of_blocks d index blocks (drop 512 bytes))
    (all_of_bytes (strip d (take 512 bytes) index) (strip_is_bytes d (take 512 bytes) index))
    (all_of_bytes (strips_of_blocks d index blocks (drop 512 bytes)) (strips_are_bytes d index blocks (drop 512 bytes))))

-- blocks through their strips

first_strips : (d blocks : ℕ) (bytes points : List ℕ)
    → map (take (512 / d)) (map (λ index. strips_of_blocks d index (suc blocks) bytes) points)
    ≡ map (strip d (take 512 bytes)) points
unfolding strips_of_blocks
first_strips d blocks bytes [] = refl
first_strips d blocks bytes (p ∷ points) =
    ap₂ ◌∷◌
    (take_at (strip d (take 512 bytes) p) (strips_of_blocks d p blocks (drop 512 bytes)) (512 / d) (length-strip d (take 512 bytes) p))
    (first_strips d blocks bytes points)

other_strips : (d blocks : ℕ) (bytes points : List ℕ)
    → map (drop (512 / d)) (map (λ index. strips_of_blocks d index (suc blocks) bytes) points)
    ≡ map (λ index. strips_of_blocks d index blocks (drop 512 bytes)) points
unfolding strips_of_blocks
other_strips d blocks bytes [] = refl
other_strips d blocks bytes (p ∷ points) =
    ap₂ ◌∷◌
    (drop_at (strip d (take 512 bytes) p) (strips_of_blocks d p blocks (drop 512 bytes)) (512 / d) (length-strip d (take 512 bytes) p))
    (other_strips d blocks bytes points)

blocks_through-strips : (d blocks : ℕ) (bytes points : List ℕ) → Divides d → ArePoints points → length points ≡ d
    → AreBytes bytes → length bytes ≡ blocks * 512
    → blocks_through d points blocks (map (λ index. strips_of_blocks d index blocks bytes) points) ≡ bytes
unfolding blocks_through
blocks_through-strips d zero bytes points splits distinct count are e = sym (nil_from_length bytes (omega arith))
blocks_through-strips d (suc blocks) bytes points splits distinct count are e =
    let long : 512 ≤ length bytes = omega arith in
    let rest : length (drop 512 bytes) ≡ blocks * 512 = omega (arith, length-drop 512 bytes) in
    ap₂ ◌++◌
    (ap (block_through d points) (first_strips d blocks bytes points)
    ∙ block_through-strips d (take 512 bytes) points splits distinct count
    (bytes_of_all (take 512 bytes) (All-take (λ b. b < 2 ^ 8) 512 bytes (all_of_bytes bytes are)), length-take-le 512 bytes long))
    (ap (blocks_through d points blocks) (other_strips d blocks bytes points)
    ∙ blocks_through-strips d blocks (drop 512 bytes) points splits distinct count
    (bytes_of_all (drop 512 bytes) (All-drop (λ b. b < 2 ^ 8) 512 bytes (all_of_bytes bytes are))) rest)
    ∙ take-append-drop 512 bytes

-- whole blocks

pub blocks_of : (n : ℕ) → n % 512 ≡ 0 → n ≡ n / 512 * 512
blocks_of n e = omega arith

pub part_of_blocks : (d n : ℕ) → Divides d → n % 512 ≡ 0 → n / d ≡ n / 512 * (512 / d)
part_of_blocks d n splits e =
    let q : ℕ = n / 512 in
    let w : ℕ = 512 / d in
    let whole : n ≡ q * w * d =
    blocks_of n e ∙ ap (λ b. q * b) (sym splits.whole ∙ mul_comm d w) ∙ sym (mul_assoc q w d) in
    ap (λ m. m / d) whole ∙ mul-div_cancel (q * w) splits.some

-- the laws of each policy and kind, on which the others stand

pub part-append : (policy : Policy) (kind : Kind) (index : ℕ) (front back : List ℕ) → IsPolicy policy
    → IsAligned policy kind (length front)
    → part policy kind index (front ++ back) ≡ part policy kind index front ++ part policy kind index back
unfolding part
part-append (Copies copies) kind index front back is whole = refl
part-append (Coded d p) Inode index front back is whole = refl
part-append (Coded d p) Block index front back is whole =
    let e : length front ≡ length front / 512 * 512 = blocks_of (length front) whole in
    let blocks : length (front ++ back) / 512 ≡ length front / 512 + length back / 512 =
    omega (arith, length-append front back) in
    ap (λ n. strips_of_blocks d index n (front ++ back)) blocks
    ∙ strips_of_blocks-append d index (length front / 512) (length back / 512) front back e

pub length-part : (policy : Policy) (kind : Kind) (index : ℕ) (bytes : List ℕ) → IsPolicy policy
    → IsAligned policy kind (length bytes)
    → length (part policy kind index bytes) ≡ part_size policy kind (length bytes)
unfolding part
length-part (Copies copies) kind index bytes is whole = refl
length-part (Coded d p) Inode index bytes is whole = refl
length-part (Coded d p) Block index bytes is whole =
    length-strips_of_blocks d index (length bytes / 512) bytes
    ∙ sym (part_of_blocks d (length bytes) (divides d is.0) whole)

pub part_is_bytes : (policy : Policy) (kind : Kind) (index : ℕ) (bytes : List ℕ) → AreBytes bytes
    → AreBytes (part policy kind index bytes)
unfolding part
part_is_bytes (Copies copies) kind index bytes are = are
part_is_bytes (Coded d p) Inode index bytes are = are
part_is_bytes (Coded d p) Block index bytes are = strips_are_bytes d index (length bytes / 512) bytes

pub part_size-add : (policy : Policy) (kind : Kind) (m n : ℕ) → IsPolicy policy
    → IsAligned policy kind m → IsAligned policy kind n
    → part_size policy kind (m + n) ≡ part_size policy kind m + part_size policy kind n
part_size-add (Copies copies) kind m n is a b = refl
part_size-add (Coded d p) Inode m n is a b = refl
part_size-add (Coded d p) Block m n is a b =
    let both : (m + n) % 512 ≡ 0 = omega arith in
    let blocks : (m + n) / 512 ≡ m / 512 + n / 512 = omega arith in
    part_of_blocks d (m + n) (divides d is.0) both
    ∙ ap (λ q. q * (512 / d)) blocks
    ∙ add-mul (m / 512) (n / 512) (512 / d)
    ∙ sym (ap₂ ◌+◌ (part_of_blocks d m (divides d is.0) a) (part_of_blocks d n (divides d is.0) b))

pub aligned-add : (policy : Policy) (kind : Kind) (m n : ℕ)
    → IsAligned policy kind m → IsAligned policy kind n → IsAligned policy kind (m + n)
aligned-add (Copies copies) kind m n a b = tt
aligned-add (Coded d p) Inode m n a b = tt
aligned-add (Coded d p) Block m n a b = omega arith

-- pieces

-- a front of whole blocks, and what is behind it
split_part : (policy : Policy) (kind : Kind) (index : ℕ) (bytes : List ℕ) (n : ℕ) → IsPolicy policy
    → IsAligned policy kind n → n ≤ length bytes
    → (part policy kind index bytes ≡ part policy kind index (take n bytes) ++ part policy kind index (drop n bytes))
    × (length (part policy kind index (take n bytes)) ≡ part_size policy kind n)
split_part policy kind index bytes n is whole l =
    let long : length (take n bytes) ≡ n = length-take-le n bytes l in
    let aligned : IsAligned policy kind (length (take n bytes)) = subst (IsAligned policy kind) (sym long) whole in (
      ap (part policy kind index) (sym (take-append-drop n bytes))
          ∙ part-append policy kind index (take n bytes) (drop n bytes) is aligned,
      length-part policy kind index (take n bytes) is aligned ∙ ap (part_size policy kind) long,
    )

pub part-take : (policy : Policy) (kind : Kind) (index : ℕ) (bytes : List ℕ) (n : ℕ) → IsPolicy policy
    → IsAligned policy kind n → n ≤ length bytes
    → part policy kind index (take n bytes) ≡ take (part_size policy kind n) (part policy kind index bytes)
part-take policy kind index bytes n is whole l =
    let split = split_part policy kind index bytes n is whole l in
    sym
    (ap (take (part_size policy kind n)) split.0
    ∙ take_at (part policy kind index (take n bytes)) (part policy kind index (drop n bytes)) (part_size policy kind n) split.1)

pub part-drop : (policy : Policy) (kind : Kind) (index : ℕ) (bytes : List ℕ) (n : ℕ) → IsPolicy policy
    → IsAligned policy kind n → n ≤ length bytes
    → part policy kind index (drop n bytes) ≡ drop (part_size policy kind n) (part policy kind index bytes)
part-drop policy kind index bytes n is whole l =
    let split = split_part policy kind index bytes n is whole l in
    sym
    (ap (drop (part_size policy kind n)) split.0
    ∙ drop_at (part policy kind index (take n bytes)) (part policy kind index (drop n bytes)) (part_size policy kind n) split.1)

-- the part of a piece of whole blocks
pub part-piece : (policy : Policy) (kind : Kind) (index : ℕ) (bytes : List ℕ) (offset long : ℕ) → IsPolicy policy
    → IsAligned policy kind offset → IsAligned policy kind long → offset + long ≤ length bytes
    → part policy kind index (take long (drop offset bytes))
    ≡ take (part_size policy kind long) (drop (part_size policy kind offset) (part policy kind index bytes))
part-piece policy kind index bytes offset long is a b l =
    part-take policy kind index (drop offset bytes) long is b (omega (arith, length-drop offset bytes))
    ∙ ap (take (part_size policy kind long)) (part-drop policy kind index bytes offset is a (omega arith))

-- the part of bytes with a piece laid over
pub part-laid_over : (policy : Policy) (kind : Kind) (index : ℕ) (bytes : List ℕ) (offset : ℕ) (piece : List ℕ)
    → IsPolicy policy → IsAligned policy kind offset → IsAligned policy kind (length piece)
    → offset + length piece ≤ length bytes
    → part policy kind index (laid_over bytes offset piece)
    ≡ laid_over (part policy kind index bytes) (part_size policy kind offset) (part policy kind index piece)
part-laid_over policy kind index bytes offset piece is a b l =
    let end : ℕ = offset + length piece in
    let aligned : IsAligned policy kind end = aligned-add policy kind offset (length piece) a b in
    let front : length (take offset bytes) ≡ offset = length-take-le offset bytes (omega arith) in
    let front_aligned : IsAligned policy kind (length (take offset bytes)) = subst (IsAligned policy kind) (sym front) a in
    let both : length (take offset bytes ++ piece) ≡ end =
    length-append (take offset bytes) piece ∙ ap (λ n. n + length piece) front in
    let both_aligned : IsAligned policy kind (length (take offset bytes ++ piece)) =
    subst (IsAligned policy kind) (sym both) aligned in
    let behind : part_size policy kind end
    ≡ part_size policy kind offset + length (part policy kind index piece) =
    part_size-add policy kind offset (length piece) is a b
    ∙ ap (λ n. part_size policy kind offset + n) (sym (length-part policy kind index piece is b)) in
    part-append policy kind index (take offset bytes ++ piece) (drop end bytes) is both_aligned
    ∙ ap₂ ◌++◌
    (part-append policy kind index (take offset bytes) piece is front_aligned
    ∙ ap (λ xs. xs ++ part policy kind index piece) (part-take policy kind index bytes offset is a (omega arith)))
    (part-drop policy kind index bytes end is aligned l
    ∙ ap (λ n. drop n (part policy kind index bytes)) behind)

-- the part of one block of coded data is its strip
pub part_of_block : (d p index : ℕ) (block : List ℕ) → length block ≡ 512
    → part (Coded d p) Block index block ≡ strip d block index
unfolding part strips_of_blocks
part_of_block d p index block whole =
    ap (λ n. strips_of_blocks d index n block) (ap (λ n. n / 512) whole)
    ∙ append-nil (strip d (take 512 block) index)
    ∙ ap (λ b. strip d b index) (take_all 512 block (omega arith))

-- the bytes back

first_of : (f : ℕ → List ℕ) (indexes : List ℕ) → 0 < length indexes
    → first_part (map f indexes) ≡ f (get_or indexes 0 0)
first_of f [] h = absurd (omega arith)
first_of f (i ∷ indexes) h = refl

pub bytes_of_parts-part : (policy : Policy) (kind : Kind) (indexes bytes : List ℕ) → IsPolicy policy
    → ArePoints indexes → length indexes ≡ need_of policy kind
    → AreBytes bytes → IsAligned policy kind (length bytes)
    → bytes_of_parts policy kind indexes (map (λ index. part policy kind index bytes) indexes) ≡ bytes
unfolding bytes_of_parts part
bytes_of_parts-part (Copies copies) kind indexes bytes is distinct count are whole =
    first_of (λ index. bytes) indexes (omega arith)
bytes_of_parts-part (Coded d p) Inode indexes bytes is distinct count are whole =
    first_of (λ index. bytes) indexes (omega arith)
bytes_of_parts-part (Coded d p) Block indexes bytes is distinct count are whole =
    let splits : Divides d = divides d is.0 in
    let blocks : ℕ = length bytes / 512 in
    let f : ℕ → List ℕ = λ index. strips_of_blocks d index blocks bytes in
    let some : 0 < length indexes = omega (arith, splits.some) in
    let counted : length (first_part (map f indexes)) / (512 / d) ≡ blocks =
    ap (λ xs. length xs / (512 / d)) (first_of f indexes some)
    ∙ ap (λ n. n / (512 / d)) (length-strips_of_blocks d (get_or indexes 0 0) blocks bytes)
    ∙ mul-div_cancel blocks (strip_some d splits) in
    ap (λ n. blocks_through d indexes n (map f indexes)) counted
    ∙ blocks_through-strips d blocks bytes indexes splits distinct count are (blocks_of (length bytes) whole)

points_front : (n : ℕ) (points : List ℕ) → n ≤ length points → ArePoints points → ArePoints (take n points)
points_front n points h distinct = (
  bytes_of_all (take n points) (All-take (λ b. b < 2 ^ 8) n points (all_of_bytes points distinct.0)),
  λ i j d l m e.
      (let long : j < n = omega (arith, length-take-le n points h) in
      distinct.1 i j d l (omega arith)
      (sym (get_or-take n points i d (omega arith)) ∙ e ∙ get_or-take n points j d long)),
)

-- parts that are equal at as many indexes as a read needs are of equal bytes
pub same_bytes : (policy : Policy) (kind : Kind) (indexes bytes other : List ℕ) → IsPolicy policy
    → ArePoints indexes → need_of policy kind ≤ length indexes
    → AreBytes bytes → AreBytes other
    → IsAligned policy kind (length bytes) → IsAligned policy kind (length other)
    → All (λ index. part policy kind index bytes ≡ part policy kind index other) indexes
    → bytes ≡ other
same_bytes policy kind indexes bytes other is distinct enough are are_other whole whole_other e =
    let need : ℕ = need_of policy kind in
    let some : List ℕ = take need indexes in
    let points : ArePoints some = points_front need indexes enough distinct in
    let count : length some ≡ need = length-take-le need indexes enough in
    sym (bytes_of_parts-part policy kind some bytes is points count are whole)
    ∙ ap (bytes_of_parts policy kind some)
    (map-agree (λ index. part policy kind index bytes) (λ index. part policy kind index other) some
    (All-take (λ index. part policy kind index bytes ≡ part policy kind index other) need indexes e))
    ∙ bytes_of_parts-part policy kind some other is points count are_other whole_other

-- the part of zeros

strips_of_zeros : (d index blocks : ℕ) → strips_of_blocks d index blocks (replicate (blocks * 512) 0) ≡ replicate (blocks * (512 / d)) 0
unfolding strips_of_blocks
strips_of_zeros d index zero = ap (λ n. replicate n 0) (sym (zero-mul (512 / d)))
strips_of_zeros d index (suc blocks) =
    let more : suc blocks * 512 ≡ 512 + blocks * 512 = omega arith in
    let front : ◌≡◌ {A = List ℕ} (take 512 (replicate (suc blocks * 512) 0)) (replicate 512 0) = take-replicate 512 (suc blocks * 512) 0 (omega arith) in
    let rest : ◌≡◌ {A = List ℕ} (drop 512 (replicate (suc blocks * 512) 0)) (replicate (blocks * 512) 0) =
    drop-replicate 512 (suc blocks * 512) 0 ∙ ap (λ n. replicate n 0) (let e : suc blocks * 512 - 512 ≡ blocks * 512 = omega arith in e) in
    ap₂ (λ block left. strip d block index ++ strips_of_blocks d index blocks left) front rest
    ∙ ap₂ ◌++◌ (strip-zeros d 512 index) (strips_of_zeros d index blocks)
    ∙ replicate-append-replicate (512 / d) (blocks * (512 / d)) 0
    ∙ ap (λ n. replicate n 0) (let e : 512 / d + blocks * (512 / d) ≡ suc blocks * (512 / d) = omega (arith, suc-mul blocks (512 / d)) in e)

pub part-zeros : (policy : Policy) (kind : Kind) (index n : ℕ) → IsPolicy policy → IsAligned policy kind n
    → part policy kind index (replicate n 0) ≡ replicate (part_size policy kind n) 0
unfolding part
part-zeros (Copies copies) kind index n is whole = refl
part-zeros (Coded d p) Inode index n is whole = refl
part-zeros (Coded d p) Block index n is whole =
    ap (λ m. strips_of_blocks d index (m / 512) (replicate n 0)) (length-replicate n 0)
    ∙ ap (λ m. strips_of_blocks d index (n / 512) (replicate m 0)) (blocks_of n whole)
    ∙ strips_of_zeros d index (n / 512)
    ∙ ap (λ m. replicate m 0) (sym (part_of_blocks d n (divides d is.0) whole))

-- parts that are laid one after another are read back
laid_from : (size at : ℕ) (front : List ℕ) (parts : List (List ℕ)) → length front ≡ at * size
    → All (λ part. length part ≡ size) parts
    → map (λ place. take size (drop (place * size) (front ++ flat_map (λ part. part) parts))) (range_with_len at (length parts)) ≡ parts
laid_from size at front [] before long = refl
laid_from size at front (part ∷ parts) before long =
    let rest : List ℕ = flat_map (λ part. part) parts in
    let more : length (front ++ part) ≡ (at + 1) * size =
    length-append front part ∙ ap₂ ◌+◌ before (long 0 [] (omega arith)) ∙ (let e : at * size + size ≡ (at + 1) * size = omega (arith, add-mul at 1 size, one-mul size) in e) in
    ap₂ ◌∷◌
    (ap (take size) (drop_at front (part ++ rest) (at * size) before) ∙ take_at part rest size (long 0 [] (omega arith)))
    (ap (λ bytes. map (λ place. take size (drop (place * size) bytes)) (range_with_len (at + 1) (length parts))) (sym (append_assoc front part rest))
    ∙ laid_from size (at + 1) (front ++ part) parts more (λ k d l. long (suc k) d (omega arith)))

pub parts_in-laid : (size : ℕ) (parts : List (List ℕ)) → All (λ part. length part ≡ size) parts
    → parts_in size (length parts) (flat_map (λ part. part) parts) ≡ parts
parts_in-laid size parts long = laid_from size 0 [] parts (sym (zero-mul size)) long
