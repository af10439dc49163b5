-- The works that a driver begins are works that a gateway takes: they go by whole blocks, and end inside an object.
use Rattle.std.proofs.Common.{◌≡◌, ℕ, ◌+◌, ◌-◌, ◌*◌, ◌%◌, ◌^◌, ◌<◌, ◌≤◌, ◌==◌, ◌++◌, Bool, true, false, cond, List, [], ◌∷◌, length, drop, All, Option, Some, None, IfSome, IsTrue, unwrap_or, refl, ap, sym, subst, ◌∙◌, pow-add, arith}
use Rattle.std.proofs.Math.Nat.{pow-le-pow_right}
use Rattle.std.proofs.lemmas.List.{length-append, length-take-le, length-drop}
use Rattle.std.proofs.lemmas.List.Elements.{All-head, All-tail}
use Rattle.object_id.specs.declared.cause.Cause.{Cause}
use Rattle.object_id.specs.declared.entry.VdiSpec.{VdiSpec}
use Rattle.object_id.specs.declared.limits.TheConstants.{OBJECT_BYTES_MAX, OBJECTS_MAX}
use Rattle.object_id.specs.declared.oid.Kind.{Kind}
use Rattle.object_id.specs.declared.oid.Kind.TheVariants.{Block, Inode}
use Rattle.object_id.specs.declared.policy.Policy.{Policy}
use Rattle.object_id.specs.declared.policy.Policy.TheVariants.{Copies, Coded}
use Rattle.object_id.specs.Fields.{zeros, u32_bytes}
use Rattle.object_id.specs.Oid.{IsVid, bits, kind_of, inode_number, object_number}
use Rattle.object_id.specs.Piece.{laid_over}
use Rattle.object_id.specs.Policy.{IsPolicy}
use Rattle.object_id.specs.Spec.{IsSpec, objects_of}
use Rattle.inode.specs.Layout.{Content}
use Rattle.peer_proto.specs.Work.{AreAligned, IsWork}
use Rattle.peer_proto.specs.declared.work.ObjWork.TheVariants.{Create}
use Rattle.peer_proto.specs.declared.guest.DiskAsk.{DiskAsk}
use Rattle.peer_proto.specs.declared.guest.DiskAsk.TheVariants as asks
use Rattle.guest_driver.specs.declared.disk.Disk.{Disk}
use Rattle.guest_driver.specs.Pieces.{Piece, pieces, piece_bytes, is_ask, AreBlocks}
use Rattle.guest_driver.specs.PieceWorks.{Backing, Hole, Own, Inherited, entry_of, backing_of, read_piece, write_piece, create_piece, read_object, create_copy, write_entry, table_with_entry}
use Rattle.guest_driver.specs.Refusals.{refusal_on}
use Rattle.guest_driver.specs.Driver.{InPlace, Fetching, Creating, Entering, Driver, Reads, Writes, Answered, DriverStep, work_step, read_on, write_piece_on, write_on, begin_unless_refused, begin_driver, driver_on_done, driver_bytes_wanted}
use Rattle.guest_driver.specs.OnDisk.{IsPieceOf, IsDriverOn}
use Rattle.guest_driver.specs.BegunWorks.{IsPieceAmong, GoesByBlocks, StepsByBlocks}
use Rattle.guest_driver.proofs.ExtentLemmas.{objects_most}
use Rattle.guest_driver.proofs.PieceLemmas.{pieces_blocks, pieces_among}
use Rattle.guest_driver.proofs.BeginLemmas.{ends-inside, asks-some, asks-blocks, pieces-are}

-- whole blocks are aligned by any policy
aligned : (policy : Policy) (kind : Kind) (offset long : ℕ) → offset % 512 ≡ 0 → long % 512 ≡ 0 → AreAligned policy kind offset long
aligned (Copies copies) kind offset long whole_offset whole_long = (tt, tt)
aligned (Coded d p) Block offset long whole_offset whole_long = (whole_offset, whole_long)
aligned (Coded d p) Inode offset long whole_offset whole_long = (tt, tt)

-- and any bytes of an inode, which is kept in copies
inode-aligned : (policy : Policy) (kind : Kind) (offset long : ℕ) → kind ≡ Inode → AreAligned policy kind offset long
inode-aligned (Copies copies) kind offset long is = (tt, tt)
inode-aligned (Coded d p) Block offset long is = absurd (cc (is))
inode-aligned (Coded d p) Inode offset long is = (tt, tt)

inode-kind : (vid : ℕ) → IsVid vid → kind_of (inode_number vid) ≡ Inode
inode-kind vid is =
    let most = is.1 in
    let bit : bits (inode_number vid) 63 1 ≡ 1 = omega (arith, most) in
    ap (λ b. cond (b == 1) Inode Block) bit

-- an object has whole blocks, and no more bytes than any object
pub object-whole : (spec : VdiSpec) → IsSpec spec → 2 ^ spec.shift % 512 ≡ 0
object-whole spec is =
    let least = is.shift.0 in
    let split : spec.shift ≡ 9 + (spec.shift - 9) = omega (arith, least) in
    let blocks : 2 ^ spec.shift ≡ 512 * 2 ^ (spec.shift - 9) = ap (λ n. 2 ^ n) split ∙ pow-add 2 9 (spec.shift - 9) in
    omega (arith, blocks)

pub object-most : (spec : VdiSpec) → IsSpec spec → 2 ^ spec.shift ≤ OBJECT_BYTES_MAX
object-most spec is = pow-le-pow_right (omega arith) is.shift.1

pub length-piece_bytes : (payload : List ℕ) (piece : Piece) → piece.place + piece.size ≤ length payload
    → length (piece_bytes payload piece) ≡ piece.size
length-piece_bytes payload piece among =
    let long : length (drop piece.place payload) ≡ length payload - piece.place = length-drop piece.place payload in
    let size : piece.place + piece.size - piece.place ≡ piece.size = omega arith in
    length-take-le (piece.place + piece.size - piece.place) (drop piece.place payload) (omega (arith, long, among)) ∙ size

length-laid_over : (old : List ℕ) (at : ℕ) (bytes : List ℕ) → at + length bytes ≤ length old → length (laid_over old at bytes) ≡ length old
length-laid_over old at bytes room = simp (length-append, length-drop) (omega (arith, room, length-take-le at old (omega (arith, room))))

-- ---- each work

pub read_piece-work : (inode : Content) (piece : Piece) (vid : ℕ) → IsSpec inode.spec → piece.offset + piece.size ≤ OBJECT_BYTES_MAX
    → AreBlocks piece → IsWork (read_piece inode piece vid)
read_piece-work inode piece vid is room blocks = (
  is.policy,
  room,
  aligned inode.spec.policy (kind_of (object_number vid piece.index)) piece.offset piece.size blocks.offset blocks.size,
)

pub write_piece-work : (inode : Content) (payload : List ℕ) (piece : Piece) → IsSpec inode.spec → piece.place + piece.size ≤ length payload
    → piece.offset + piece.size ≤ OBJECT_BYTES_MAX → AreBlocks piece → IsWork (write_piece inode payload piece)
write_piece-work inode payload piece is among room blocks =
    let long : length (piece_bytes payload piece) ≡ piece.size = length-piece_bytes payload piece among in (
      is.policy,
      omega (arith, long, room),
      aligned inode.spec.policy (kind_of (object_number inode.vid piece.index)) piece.offset (length (piece_bytes payload piece)) blocks.offset
          (ap (λ n. n % 512) long ∙ blocks.size),
    )

-- an object is created with whole blocks in it
pub create-work : (oid size offset : ℕ) (policy : Policy) (bytes : List ℕ) (spec : VdiSpec) → IsSpec spec → policy ≡ spec.policy
    → size ≡ 2 ^ spec.shift → offset + length bytes ≤ 2 ^ spec.shift → offset % 512 ≡ 0 → length bytes % 512 ≡ 0
    → IsWork (Create oid policy size offset bytes)
create-work oid size offset policy bytes spec is own long room whole_offset whole_bytes =
    let whole : size % 512 ≡ 0 = ap (λ n. n % 512) long ∙ object-whole spec is in (
      subst IsPolicy (sym own) is.policy,
      omega (arith, room, long),
      aligned policy (kind_of oid) offset (length bytes) whole_offset whole_bytes,
      (aligned policy (kind_of oid) size size whole whole).0,
    )

pub create_piece-work : (inode : Content) (payload : List ℕ) (piece : Piece) → IsSpec inode.spec → piece.place + piece.size ≤ length payload
    → piece.offset + piece.size ≤ 2 ^ inode.spec.shift → AreBlocks piece → IsWork (create_piece inode payload piece)
create_piece-work inode payload piece is among room blocks =
    let long : length (piece_bytes payload piece) ≡ piece.size = length-piece_bytes payload piece among in
    create-work (object_number inode.vid piece.index) (2 ^ inode.spec.shift) piece.offset inode.spec.policy (piece_bytes payload piece) inode.spec
    is refl refl (omega (arith, long, room)) blocks.offset (ap (λ n. n % 512) long ∙ blocks.size)

pub read_object-work : (inode : Content) (piece : Piece) (vid : ℕ) → IsSpec inode.spec → IsWork (read_object inode piece vid)
read_object-work inode piece vid is =
    let most : 2 ^ inode.spec.shift ≤ OBJECT_BYTES_MAX = object-most inode.spec is in (
      is.policy,
      omega (arith, most),
      aligned inode.spec.policy (kind_of (object_number vid piece.index)) 0 (2 ^ inode.spec.shift) refl (object-whole inode.spec is),
    )

pub length-copy : (inode : Content) (payload : List ℕ) (piece : Piece) (old : List ℕ) → piece.place + piece.size ≤ length payload
    → piece.offset + piece.size ≤ length old → length old ≡ 2 ^ inode.spec.shift
    → length (laid_over old piece.offset (piece_bytes payload piece)) ≡ 2 ^ inode.spec.shift
length-copy inode payload piece old among room whole =
    let size : length (piece_bytes payload piece) ≡ piece.size = length-piece_bytes payload piece among in
    length-laid_over old piece.offset (piece_bytes payload piece) (omega (arith, size, room)) ∙ whole

pub create_copy-work : (inode : Content) (payload : List ℕ) (piece : Piece) (old : List ℕ) → IsSpec inode.spec
    → piece.place + piece.size ≤ length payload → piece.offset + piece.size ≤ length old → length old ≡ 2 ^ inode.spec.shift
    → IsWork (create_copy inode payload piece old)
create_copy-work inode payload piece old is among room whole =
    let bytes : List ℕ = laid_over old piece.offset (piece_bytes payload piece) in
    let long : length bytes ≡ 2 ^ inode.spec.shift = length-copy inode payload piece old among room whole in
    create-work (object_number inode.vid piece.index) (2 ^ inode.spec.shift) 0 inode.spec.policy bytes inode.spec
    is refl refl (omega (arith, long)) refl (ap (λ n. n % 512) long ∙ object-whole inode.spec is)

pub write_entry-work : (inode : Content) (piece : Piece) → IsSpec inode.spec → IsVid inode.vid → piece.index < objects_of inode.spec
    → IsWork (write_entry inode piece)
write_entry-work inode piece is id there =
    let most : objects_of inode.spec ≤ OBJECTS_MAX = objects_most inode.spec is in
    let four : length (u32_bytes inode.vid) ≡ 4 = refl in (
      is.policy,
      omega (arith, most, there, four),
      inode-aligned inode.spec.policy (kind_of (inode_number inode.vid)) (4664 + 4 * piece.index) (length (u32_bytes inode.vid))
          (inode-kind inode.vid id),
    )

-- ---- each step

chosen : (hole : Bool) (x y : DriverStep) → StepsByBlocks x → StepsByBlocks y → StepsByBlocks (cond hole x y)
chosen true x y this that = this
chosen false x y this that = that

within-any : (spec : VdiSpec) (piece : Piece) → IsSpec spec → IsPieceOf spec piece → piece.offset + piece.size ≤ OBJECT_BYTES_MAX
within-any spec piece is of =
    let most : 2 ^ spec.shift ≤ OBJECT_BYTES_MAX = object-most spec is in
    let inside : piece.offset + piece.size ≤ 2 ^ spec.shift = of.within.inside in
    omega (arith, most, inside)

read-works : (inode : Content) (told : List ℕ) (rest : List Piece) → IsSpec inode.spec → All (IsPieceOf inode.spec) rest → All AreBlocks rest
    → StepsByBlocks (read_on inode told rest)
unfolding read_on
read-works inode told [] is on blocks = record { work = tt; blocks = tt }
read-works inode told (piece ∷ rest) is on blocks =
    chosen (entry_of inode piece == 0) (read_on inode (told ++ zeros piece.size) rest)
    (work_step inode (Reads told piece rest) (read_piece inode piece (entry_of inode piece)))
    (read-works inode (told ++ zeros piece.size) rest is (All-tail (IsPieceOf inode.spec) piece rest on) (All-tail AreBlocks piece rest blocks))
    (record {
      work = read_piece-work inode piece (entry_of inode piece) is (within-any inode.spec piece is (All-head (IsPieceOf inode.spec) piece rest on))
          (All-head AreBlocks piece rest blocks);
      blocks = blocks;
    })

piece-works : (inode : Content) (payload : List ℕ) (piece : Piece) (rest : List Piece) (behind : Backing) → IsSpec inode.spec
    → IsPieceOf inode.spec piece → All (IsPieceAmong payload) (piece ∷ rest) → StepsByBlocks (write_piece_on inode payload piece rest behind)
piece-works inode payload piece rest Hole is of all =
    let here : IsPieceAmong payload piece = All-head (IsPieceAmong payload) piece rest all in
    record { work = create_piece-work inode payload piece is here.among of.within.inside here.blocks; blocks = all }
piece-works inode payload piece rest Own is of all =
    let here : IsPieceAmong payload piece = All-head (IsPieceAmong payload) piece rest all in
    record { work = write_piece-work inode payload piece is here.among (within-any inode.spec piece is of) here.blocks; blocks = all }
piece-works inode payload piece rest (Inherited vid) is of all = record { work = read_object-work inode piece vid is; blocks = all }

write-works : (inode : Content) (payload : List ℕ) (rest : List Piece) → IsSpec inode.spec → All (IsPieceOf inode.spec) rest
    → All (IsPieceAmong payload) rest → StepsByBlocks (write_on inode payload rest)
write-works inode payload [] is on all = record { work = tt; blocks = tt }
write-works inode payload (piece ∷ rest) is on all =
    piece-works inode payload piece rest (backing_of inode piece) is (All-head (IsPieceOf inode.spec) piece rest on) all

pub done-works : (inode : Content) (bytes : List ℕ) (driver : Driver) → IsSpec inode.spec → IsVid inode.vid → IsDriverOn inode driver
    → GoesByBlocks driver → driver_bytes_wanted inode driver ≡ Some (length bytes) → IfSome (driver_on_done inode bytes driver) StepsByBlocks
unfolding driver_on_done
done-works inode bytes (Reads told piece rest) is id on blocks wanted =
    read-works inode (told ++ bytes) rest is (All-tail (IsPieceOf inode.spec) piece rest on) (All-tail AreBlocks piece rest blocks)
done-works inode bytes (Writes payload InPlace piece rest) is id on all wanted =
    write-works inode payload rest is (All-tail (IsPieceOf inode.spec) piece rest on) (All-tail (IsPieceAmong payload) piece rest all)
done-works inode bytes (Writes payload Fetching piece rest) is id on all wanted =
    let here : IsPieceAmong payload piece = All-head (IsPieceAmong payload) piece rest all in
    let of : IsPieceOf inode.spec piece = All-head (IsPieceOf inode.spec) piece rest on in
    let long : 2 ^ inode.spec.shift ≡ length bytes = ap (λ (n : Option ℕ). unwrap_or n 0) wanted in
    record {
      work = create_copy-work inode payload piece bytes is here.among (subst (λ n. piece.offset + piece.size ≤ n) long of.within.inside) (sym long);
      blocks = all;
    }
done-works inode bytes (Writes payload Creating piece rest) is id on all wanted =
    record { work = write_entry-work inode piece is id (All-head (IsPieceOf inode.spec) piece rest on).object; blocks = all }
done-works inode bytes (Writes payload Entering piece rest) is id on all wanted =
    write-works (table_with_entry inode piece) payload rest is (All-tail (IsPieceOf inode.spec) piece rest on)
    (All-tail (IsPieceAmong payload) piece rest all)
done-works inode bytes Answered is id on blocks wanted = tt

-- ---- the first step

both : (payload : List ℕ) (all : List Piece) → All AreBlocks all → All (λ (piece : Piece). piece.place + piece.size ≤ length payload) all
    → All (IsPieceAmong payload) all
both payload all blocks among = λ k d within. record { blocks = blocks k d within; among = among k d within }

begun-works : (disk : Disk) (ask : DiskAsk) (refusal : Option Cause) → IsSpec disk.inode.spec → IsTrue (is_ask ask)
    → refusal_on disk false ask ≡ refusal → StepsByBlocks (begin_unless_refused disk.inode ask refusal)
begun-works disk ask (Some cause) is whole e = record { work = tt; blocks = tt }
begun-works disk (asks.Read offset size) None is whole e =
    let some : 1 ≤ size = asks-some (asks.Read offset size) whole in
    let blocks = asks-blocks (asks.Read offset size) whole in
    let least = is.shift.0 in
    read-works disk.inode [] (pieces disk.inode.spec.shift offset size) is
    (pieces-are disk.inode.spec offset size some (ends-inside disk (asks.Read offset size) e))
    (pieces_blocks disk.inode.spec.shift offset size (omega (arith, least)) some blocks.0 blocks.1)
begun-works disk (asks.Write offset payload) None is whole e =
    let some : 1 ≤ length payload = asks-some (asks.Write offset payload) whole in
    let blocks = asks-blocks (asks.Write offset payload) whole in
    let least = is.shift.0 in
    let all : List Piece = pieces disk.inode.spec.shift offset (length payload) in
    write-works disk.inode payload all is
    (pieces-are disk.inode.spec offset (length payload) some (ends-inside disk (asks.Write offset payload) e))
    (both payload all
    (pieces_blocks disk.inode.spec.shift offset (length payload) (omega (arith, least)) some blocks.0 blocks.1)
    (pieces_among disk.inode.spec.shift offset (length payload) some))

pub begin-works : (disk : Disk) (ask : DiskAsk) → IsSpec disk.inode.spec → IsTrue (is_ask ask) → StepsByBlocks (begin_driver disk ask)
unfolding begin_driver
begin-works disk ask is whole = begun-works disk ask (refusal_on disk false ask) is whole refl
