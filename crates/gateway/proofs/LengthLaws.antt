-- How many bytes a done work gives: those of its read, or of as many parts as are wanted.
use Rattle.std.proofs.Common.{◌≡◌, ℕ, zero, suc, ◌+◌, ◌*◌, ◌/◌, ◌%◌, ◌^◌, ◌<◌, ◌≤◌, ◌==◌, true, cond, List, [], ◌∷◌, length, take, drop, map, refl, sym, ap, ◌∙◌, arith}
use Rattle.std.specs.List.{list_all}
use Rattle.std.proofs.Math.Nat.{mul-div_cancel, div-eq_of_lt}
use Rattle.std.proofs.lemmas.Bool.{leb-true, and_parts}
use Rattle.std.proofs.lemmas.List.{length-append}
use Rattle.object_id.specs.declared.oid.Kind.{Kind}
use Rattle.object_id.specs.declared.oid.Kind.TheVariants.{Block, Inode}
use Rattle.object_id.specs.declared.policy.Policy.{Policy}
use Rattle.object_id.specs.declared.policy.Policy.TheVariants.{Copies, Coded}
use Rattle.object_id.specs.declared.limits.TheConstants.{OBJECTS_MAX}
use Rattle.object_id.specs.Oid.{IsVid, bits, kind_of, object_number}
use Rattle.object_id.specs.Policy.{IsPolicy, wanted_of, need_of}
use Rattle.gf256.specs.Strip.{strip_bytes, block_through, Divides}
use Rattle.gf256.specs.Part.{IsAligned, part_size, first_part, blocks_through, bytes_of_parts}
use Rattle.gf256.proofs.PartLaws.{blocks_of, part_of_blocks}
use Rattle.gf256.proofs.StripLaws.{length-block_through, strip_some}
use Rattle.gf256.proofs.Widths.{divides}
use Rattle.peer_proto.specs.declared.work.ObjWork.{ObjWork}
use Rattle.peer_proto.specs.declared.work.ObjWork.TheVariants.{Create, Write, Read, ReadAll}
use Rattle.peer_proto.specs.Work.{IsWork}
use Rattle.gateway.specs.declared.message.Message.{Message}
use Rattle.gateway.specs.Work.{bytes_of_work}
use Rattle.gateway.specs.Attempt.{is_success, is_done, bytes_given, bytes_through, successes}
use Rattle.gateway.specs.Messages.{HaveLength, AreMessagesFor}
use Rattle.gateway.proofs.AskingLemmas.{need_one}
use Rattle.gateway.proofs.GivenLemmas.{index_of, piece_of, AllLong, long-piece, long-kept, long-taken, length-taken, length-pieces}

-- blocks through their strips are whole blocks, whatever the strips are
length-blocks_through : (d : ℕ) (points : List ℕ) (blocks : ℕ) (parts : List (List ℕ))
    → length (blocks_through d points blocks parts) ≡ blocks * 512
unfolding blocks_through
length-blocks_through d points zero parts = refl
length-blocks_through d points (suc blocks) parts =
    let front : List ℕ = block_through d points (map (take (strip_bytes d)) parts) in
    let rest : List ℕ = blocks_through d points blocks (map (drop (strip_bytes d)) parts) in
    let one : length front ≡ 512 = length-block_through d points (map (take (strip_bytes d)) parts) in
    let others : length rest ≡ blocks * 512 = length-blocks_through d points blocks (map (drop (strip_bytes d)) parts) in
    omega (arith, length-append front rest, one, others)

first-long : (size : ℕ) (messages : List Message) → 1 ≤ length messages → AllLong size messages
    → length (first_part (map piece_of messages)) ≡ size
first-long size [] some all = absurd (omega (arith, some))
first-long size (message ∷ messages) some all = all.0

-- parts of so many bytes give so many bytes
length-through : (policy : Policy) (kind : Kind) (size : ℕ) (messages : List Message) → IsPolicy policy → IsAligned policy kind size
    → 1 ≤ length messages → AllLong (part_size policy kind size) messages → length (bytes_through policy kind messages) ≡ size
unfolding bytes_of_parts
length-through (Copies copies) kind size messages is whole some all = first-long size messages some all
length-through (Coded d p) Inode size messages is whole some all = first-long size messages some all
length-through (Coded d p) Block size messages is whole some all =
    let splits : Divides d = divides d is.0 in
    let parts : List (List ℕ) = map piece_of messages in
    let blocks : length (first_part parts) / strip_bytes d ≡ size / 512
    = ap (λ n. n / (512 / d)) (first-long (size / d) messages some all ∙ part_of_blocks d size splits whole)
    ∙ mul-div_cancel (size / 512) (strip_some d splits) in
    length-blocks_through d (map index_of messages) (length (first_part parts) / strip_bytes d) parts
    ∙ ap (λ n. n * 512) blocks ∙ sym (blocks_of size whole)

-- a read gives the bytes of the first parts that came, as many as it needs
length-read : (policy : Policy) (kind : Kind) (size : ℕ) (messages : List Message) → IsPolicy policy → IsAligned policy kind size
    → HaveLength (part_size policy kind size) messages → need_of policy kind ≤ length (successes messages)
    → length (bytes_through policy kind (take (need_of policy kind) (successes messages))) ≡ size
length-read policy kind size messages is whole all enough =
    let need : ℕ = need_of policy kind in
    let count : length (take need (successes messages)) ≡ need = length-taken need (successes messages) enough in
    let one : 1 ≤ need = need_one policy kind is in
    length-through policy kind size (take need (successes messages)) is whole (omega (arith, count, one))
    (long-taken (part_size policy kind size) need (successes messages) (long-kept (part_size policy kind size) messages all))

-- messages that all succeeded gave a piece each
each-long : (size : ℕ) (messages : List Message) → HaveLength size messages
    → list_all (λ (message : Message). is_success message.status) messages ≡ true → AllLong size messages
each-long size [] all succeeded = tt
each-long size (message ∷ messages) all succeeded =
    let both = and_parts (is_success message.status) (list_all (λ (m : Message). is_success m.status) messages) succeeded in
    (long-piece size message.status both.0 all.0, each-long size messages all.1 both.1)

pub length-bytes_given : (work : ObjWork) (messages : List Message) → IsWork work → AreMessagesFor work messages → is_done work messages ≡ true
    → length (bytes_given work messages) ≡ bytes_of_work work
length-bytes_given (Create oid policy size offset bytes) messages is are done = refl
length-bytes_given (Write oid policy offset bytes) messages is are done = refl
length-bytes_given (Read oid policy offset size) messages is are done =
    length-read policy (kind_of oid) size messages is.0 is.2.1 are.pieces
    (leb-true (need_of policy (kind_of oid)) (length (successes messages)) done)
length-bytes_given (ReadAll oid policy size) messages is are done =
    let long : ℕ = part_size policy (kind_of oid) size in
    length-pieces long messages (each-long long messages are.pieces done) ∙ ap (λ (n : ℕ). n * long) are.count

-- ---- of a data object the parts are those of a block

kind-object : (vid index : ℕ) → IsVid vid → index < OBJECTS_MAX → kind_of (object_number vid index) ≡ Block
kind-object vid index is few =
    let small : vid * 2 ^ 32 + index < 2 ^ 63 = omega (arith, is.1, few) in
    let none : bits (object_number vid index) 63 1 ≡ 0 = ap (λ n. n % 2 ^ 1) (div-eq_of_lt small) in
    ap (λ n. cond (n == 1) Inode Block) none

pub bytes_of_work-object : (vid index size : ℕ) (policy : Policy) → IsVid vid → index < OBJECTS_MAX
    → bytes_of_work (ReadAll (object_number vid index) policy size) ≡ wanted_of policy Block * part_size policy Block size
bytes_of_work-object vid index size policy is few =
    ap (λ (kind : Kind). wanted_of policy kind * part_size policy kind size) (kind-object vid index is few)
