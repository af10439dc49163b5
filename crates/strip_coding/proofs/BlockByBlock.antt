-- Parts of objects block by block: one strip more of a part, and one block more through the strips of parts.
use Rattle.std.proofs.Common.{◌≡◌, ℕ, zero, suc, ◌+◌, ◌-◌, ◌*◌, ◌/◌, ◌%◌, ◌<◌, ◌≤◌, List, [], ◌∷◌, ◌++◌, length, map, take, drop, refl, sym, ap, ap₂, ◌∙◌, subst, arith, IsTrue, append_assoc, append-nil, length-append, add-mul, mul_assoc, suc-mul, zero-add, le_refl, take_at, take_all, take-take, false}
use Rattle.std.specs.List.{All, range_with_len}
use Rattle.std.proofs.lemmas.List.{map-id, drop-drop, drop-take, length-take-le}
use Rattle.std.proofs.lemmas.List.Elements.{All-map}
use Rattle.std.proofs.lemmas.List.FromFn.{length-range_with_len, get_or-range_with_len}
use Rattle.std.proofs.lemmas.Nat.{row_fits}
use Rattle.std.proofs.Math.Nat.{zero-mul, mul-div_cancel}
use borrow.Rule.Slice.PartMut.{put_mid, post_of}
use Rattle.object_id.specs.declared.policy.Policy.{Policy}
use Rattle.object_id.specs.declared.policy.Policy.TheVariants.{Copies, Coded}
use Rattle.object_id.specs.declared.oid.Kind.{Kind}
use Rattle.object_id.specs.declared.oid.Kind.TheVariants.{Block, Inode}
use Rattle.object_id.specs.Policy.{is_width, need_of}
use Rattle.gf256.specs.Strip.{strip, block_through, Divides}
use Rattle.gf256.proofs.StripLaws.{strip_some}
use Rattle.strip_coding.specs.Choice.{strip_at}
use Rattle.gf256.specs.Part.{strips_of_blocks, blocks_through, part_size, first_part, parts_in, bytes_of_parts, is_in_strips}
use Rattle.gf256.proofs.Widths.{divides}
use Rattle.gf256.proofs.PartLaws.{part_of_blocks}
use Rattle.strip_coding.proofs.DecodeLaws.{within_strips}

-- after a piece of a list is put, its front ends with the piece
pub take-put_mid : (from width : ℕ) (out piece : List ℕ) → from + width ≤ length out → length piece ≡ width
    → take (from + width) (put_mid from (from + width - from) out piece) ≡ take from out ++ piece
take-put_mid from width out piece room long =
    let rest : List ℕ = post_of from (from + width - from) out in
    let front : length (take from out) ≡ from = length-take-le from out (omega arith) in
    ap (take (from + width)) (sym (append_assoc (take from out) piece rest))
    ∙ take_at (take from out ++ piece) rest (from + width) (length-append (take from out) piece ∙ ap₂ ◌+◌ front long)

-- the strips of one block more
pub strips_of_blocks-more : (d index blocks : ℕ) (bytes : List ℕ)
    → strips_of_blocks d index (suc blocks) bytes
    ≡ strips_of_blocks d index blocks bytes ++ strip d (take 512 (drop (blocks * 512) bytes)) index
unfolding strips_of_blocks
strips_of_blocks-more d index zero bytes = append-nil (strip d (take 512 bytes) index)
strips_of_blocks-more d index (suc blocks) bytes =
    let next : 512 + blocks * 512 ≡ suc blocks * 512 = omega arith in
    ap (◌++◌ (strip d (take 512 bytes) index)) (strips_of_blocks-more d index blocks (drop 512 bytes))
    ∙ ap (λ rest. strip d (take 512 bytes) index ++ (strips_of_blocks d index blocks (drop 512 bytes) ++ strip d (take 512 rest) index))
    (drop-drop (blocks * 512) 512 bytes ∙ ap (λ n. drop n bytes) next)
    ∙ sym (append_assoc (strip d (take 512 bytes) index) (strips_of_blocks d index blocks (drop 512 bytes)) (strip d (take 512 (drop (suc blocks * 512) bytes)) index))

-- one block more through its strips
map_drop-drop : (m n : ℕ) (parts : List (List ℕ)) → map (drop m) (map (drop n) parts) ≡ map (drop (n + m)) parts
map_drop-drop m n [] = refl
map_drop-drop m n (part ∷ parts) = ap₂ ◌∷◌ (drop-drop m n part) (map_drop-drop m n parts)

pub blocks_through-more : (d : ℕ) (points : List ℕ) (blocks : ℕ) (parts : List (List ℕ))
    → blocks_through d points (suc blocks) parts
    ≡ blocks_through d points blocks parts
    ++ block_through d points (map (take (512 / d)) (map (drop (blocks * (512 / d))) parts))
unfolding blocks_through
blocks_through-more d points zero parts =
    append-nil (block_through d points (map (take (512 / d)) parts))
    ∙ ap (λ xs. block_through d points (map (take (512 / d)) xs))
    (sym (ap (λ n. map (drop n) parts) (zero-mul (512 / d)) ∙ map-id parts))
blocks_through-more d points (suc blocks) parts =
    let w : ℕ = 512 / d in
    let first : List ℕ = block_through d points (map (take w) parts) in
    let next : w + blocks * w ≡ suc blocks * w = omega (arith, suc-mul blocks w) in
    ap (◌++◌ first) (blocks_through-more d points blocks (map (drop w) parts))
    ∙ ap (λ rest. first ++ (blocks_through d points blocks (map (drop w) parts) ++ block_through d points (map (take w) rest)))
    (map_drop-drop (blocks * w) w parts ∙ ap (λ n. map (drop n) parts) next)
    ∙ sym (append_assoc first (blocks_through d points blocks (map (drop w) parts)) (block_through d points (map (take w) (map (drop (suc blocks * w)) parts))))

-- strip k of a part, among the strips of all parts
strip_of_part : (d blocks k part : ℕ) (parts : List ℕ) → k < blocks
    → strip_at d parts (part * blocks + k)
    ≡ take (512 / d) (drop (k * (512 / d)) (take (blocks * (512 / d)) (drop (part * (blocks * (512 / d))) parts)))
strip_of_part d blocks k part parts below =
    let w : ℕ = 512 / d in
    let size : ℕ = blocks * w in
    let fits : k * w + w ≤ size = row_fits k w blocks w below (le_refl w) in
    let place : (part * blocks + k) * w ≡ part * size + k * w = add-mul (part * blocks) k w ∙ ap (λ n. n + k * w) (mul_assoc part blocks w) in
    let behind : k * w + (size - k * w) ≡ size = omega (arith, fits) in
    ap (λ n. take w (drop n parts)) place
    ∙ ap (take w) (sym (drop-drop (k * w) (part * size) parts))
    ∙ sym (take-take w (size - k * w) (drop (k * w) (drop (part * size) parts)) (omega (arith, fits)))
    ∙ ap (take w) (sym (drop-take (k * w) (size - k * w) (drop (part * size) parts)))
    ∙ ap (λ n. take w (drop (k * w) (take n (drop (part * size) parts)))) behind

pub strips_of_parts : (d blocks k : ℕ) (parts numbers : List ℕ) → k < blocks
    → map (strip_at d parts) (map (λ part. part * blocks + k) numbers)
    ≡ map (take (512 / d)) (map (drop (k * (512 / d))) (map (λ part. take (blocks * (512 / d)) (drop (part * (blocks * (512 / d))) parts)) numbers))
strips_of_parts d blocks k parts [] below = refl
strips_of_parts d blocks k parts (part ∷ numbers) below =
    ap₂ ◌∷◌ (strip_of_part d blocks k part parts below) (strips_of_parts d blocks k parts numbers below)

-- they lie within the parts
pub places_within : (d blocks k w long : ℕ) → k < blocks → long ≡ d * (blocks * w)
    → All (λ place. (place + 1) * w ≤ long) (map (λ part. part * blocks + k) (range_with_len 0 d))
places_within d blocks k w long below whole =
    All-map (λ place. (place + 1) * w ≤ long) (λ part. part * blocks + k) (range_with_len 0 d)
    (λ j x l.
    let within : j < d = subst (λ n. j < n) (length-range_with_len 0 d) l in
    let here = get_or-range_with_len 0 d j x within ∙ zero-add j in
    let fits : j * blocks + blocks ≤ d * blocks = row_fits j blocks d blocks within (le_refl blocks) in
    subst (λ part. (part * blocks + k + 1) * w ≤ long) (sym here)
    (within_strips (j * blocks + k) (d * blocks) w long (omega (arith, fits)) (whole ∙ sym (mul_assoc d blocks w))))

-- the first of them is as long as each
pub length-first_part : (d size : ℕ) (parts : List ℕ) → 0 < d → length parts ≡ d * size → length (first_part (parts_in size d parts)) ≡ size
length-first_part zero size parts some whole = absurd (omega arith)
length-first_part (suc d) size parts some whole =
    ap (λ n. length (take size (drop n parts))) (zero-mul size)
    ∙ length-take-le size parts (omega (arith, whole, suc-mul d size))

-- whole copies and inodes are their own part, of which a read needs one
whole_part : (size : ℕ) (parts : List ℕ) → length parts ≡ 1 * size → take size (drop (0 * size) parts) ≡ parts
whole_part size parts whole = ap (λ n. take size (drop n parts)) (zero-mul size) ∙ take_all size parts (omega (arith, whole))

pub one_part : (policy : Policy) (kind : Kind) (indexes parts : List ℕ) (long : ℕ) → is_in_strips policy kind ≡ false
    → length parts ≡ need_of policy kind * part_size policy kind long
    → bytes_of_parts policy kind indexes (parts_in (part_size policy kind long) (need_of policy kind) parts) ≡ parts
unfolding bytes_of_parts
one_part (Copies copies) kind indexes parts long plain whole = whole_part long parts whole
one_part (Coded d p) Block indexes parts long plain whole = absurd (cc (plain))
one_part (Coded d p) Inode indexes parts long plain whole = whole_part long parts whole

-- the bytes of coded data are those through as many blocks as they have
pub coded_parts : (d p : ℕ) (indexes parts : List ℕ) (long : ℕ) → IsTrue (is_width d) → long % 512 ≡ 0
    → length parts ≡ d * (long / d)
    → bytes_of_parts (Coded d p) Block indexes (parts_in (long / d) d parts)
    ≡ blocks_through d indexes (long / 512) (parts_in (long / d) d parts)
unfolding bytes_of_parts
coded_parts d p indexes parts long is aligned whole =
    let splits : Divides d = divides d is in
    ap (λ n. blocks_through d indexes n (parts_in (long / d) d parts))
    (ap (λ n. n / (512 / d)) (length-first_part d (long / d) parts splits.some whole ∙ part_of_blocks d long splits aligned)
    ∙ mul-div_cancel (long / 512) (strip_some d splits))
