-- How the code of a driver goes on: from the holes before an object to the object, and from a piece of a write to the next.
use Rattle.std.proofs.Common.{◌≡◌, ◌⊎◌, ⊎_elim, ℕ, zero, suc, ◌+◌, ◌-◌, ◌<◌, ◌≤◌, ◌==◌, Bool, true, false, cond, List, [], ◌∷◌, ◌++◌, length, take, drop, slice_index, All, Option, Some, None, IfSome, refl, ap, ap₂, sym, subst, ◌∙◌, arith}
use Rattle.std.proofs.lemmas.Bool.{cases_lt, eqb-true}
use Rattle.std.proofs.lemmas.List.{take-replicate, drop-replicate, drop-drop, length-take-le, length-drop, length-append}
use Rattle.std.proofs.Math.Seq.{take-add, take-append_seam, drop-append_seam, take-length}
use Rattle.object_id.specs.Piece.{laid_over}
use Rattle.object_id.specs.Fields.{zeros}
use Rattle.std.proofs.lemmas.List.Elements.{All-nil, All-tail}
use Rattle.object_id.specs.declared.entry.VdiSpec.{VdiSpec}
use Rattle.inode.specs.Layout.{Content}
use Rattle.peer_proto.specs.declared.work.ObjWork.{ObjWork}
use Rattle.peer_proto.specs.declared.guest.GuestRsp.TheVariants.{Done, Piece as Told}
use Rattle.guest_driver.specs.declared.act.DriverAct.{DriverAct}
use Rattle.guest_driver.specs.declared.extent.Extent.{Extent}
use Rattle.guest_driver.specs.declared.progress.Progress.{Progress}
use Rattle.guest_driver.specs.declared.progress.Progress.TheVariants.{Reading, Writing, Answered as HasAnswered}
use Rattle.guest_driver.specs.declared.progress.Stage.{Stage}
use Rattle.guest_driver.specs.Pieces.{Piece}
use Rattle.guest_driver.specs.PieceWorks.{Backing, Hole, Own, Inherited, entry_of, backing_of, create_copy, write_entry, table_with_entry, read_piece}
use Rattle.guest_driver.specs.Driver.{DriverStage, InPlace, Fetching, Creating, Entering, Driver, Reads, Writes, Answered, DriverStep, work_step, reply_step, read_on, write_piece_on, write_on, driver_on_done}
use Rattle.guest_driver.specs.Extent.{IsExtent, Touches, first_index_of, last_index_of, piece_at_index, pieces_from, place_at}
use Rattle.guest_driver.specs.Progress.{driver_stage, driver_at, IsToldUpTo, IsProgress, IsReading, IsWriting, stage_of, payload_in_write, rest_of}
use Rattle.guest_driver.specs.OnDisk.{pieces_left, IsPieceOf, IsDriverOn, act_takes_memory}
use Rattle.guest_driver.proofs.ExtentLemmas.{pieces_from-cons, pieces_from-past, each_from, place_at-here, place_at-next, place_at-past, piece-within}
use Rattle.guest_driver.proofs.WriteLemmas.{backing_stays}

-- ---- a read

-- zeros behind a place are told
told-more : (size : ℕ) (told : List ℕ) (at more : ℕ) → at + more ≤ size → IsToldUpTo size told at
    → (take at told ++ zeros more ≡ take (at + more) told) × IsToldUpTo size told (at + more)
told-more size told at more within is =
    let left : size - at - more ≡ size - (at + more) = omega arith in (
      ap (λ xs. take at told ++ xs) (sym (ap (take more) is.untold ∙ take-replicate more (size - at) 0 (omega (arith, within))))
          ∙ sym (take-add at more told),
      record {
        whole = is.whole;
        untold = sym (drop-drop more at told) ∙ ap (drop more) is.untold ∙ drop-replicate more (size - at) 0 ∙ ap zeros left;
      },
    )

-- a hole is passed over
hole-passed : (inode : Content) (extent : Extent) (told : List ℕ) (index : ℕ) → Touches extent index → slice_index inode.table index ≡ 0
    → IsToldUpTo extent.size told (place_at extent index)
    → (read_on inode (take (place_at extent index) told) (pieces_from extent index)
    ≡ read_on inode (take (place_at extent (index + 1)) told) (pieces_from extent (index + 1)))
    × IsToldUpTo extent.size told (place_at extent (index + 1))
unfolding read_on
hole-passed inode extent told index at hole is =
    let piece : Piece = piece_at_index extent index in
    let rest : List Piece = pieces_from extent (index + 1) in
    let here : place_at extent index ≡ piece.place = place_at-here extent index at in
    let next : place_at extent index + piece.size ≡ place_at extent (index + 1)
    = ap (λ n. n + piece.size) here ∙ sym (place_at-next extent index at) in
    let ends : piece.place + piece.size ≤ extent.size = piece-within extent index at in
    let more = told-more extent.size told (place_at extent index) piece.size (omega (arith, here, ends)) is in
    let so_far : List ℕ = take (place_at extent index) told in (
      ap (read_on inode so_far) (pieces_from-cons extent index at.last)
          ∙ ap (λ entry. cond (entry == 0) (read_on inode (so_far ++ zeros piece.size) rest)
          (work_step inode (Reads so_far piece rest) (read_piece inode piece (entry_of inode piece)))) hole
          ∙ ap (λ bytes. read_on inode bytes rest) (more.0 ∙ ap (λ n. take n told) next),
      subst (IsToldUpTo extent.size told) next more.1,
    )

pub holes-passed : (inode : Content) (extent : Extent) (told : List ℕ) (n from to : ℕ) → IsExtent extent → first_index_of extent ≤ from
    → from + n ≡ to → to ≤ last_index_of extent + 1 → ((k : ℕ) → from ≤ k → k < to → slice_index inode.table k ≡ 0)
    → IsToldUpTo extent.size told (place_at extent from)
    → (read_on inode (take (place_at extent from) told) (pieces_from extent from)
    ≡ read_on inode (take (place_at extent to) told) (pieces_from extent to))
    × IsToldUpTo extent.size told (place_at extent to)
holes-passed inode extent told zero from to is first e most holes up =
    let same : from ≡ to = omega (arith, e) in (
      ap (λ k. read_on inode (take (place_at extent k) told) (pieces_from extent k)) same,
      subst (λ k. IsToldUpTo extent.size told (place_at extent k)) same up,
    )
holes-passed inode extent told (suc n) from to is first e most holes up =
    let step = hole-passed inode extent told from (record { is = is; first = first; last = omega (arith, e, most) })
    (holes from (omega arith) (omega (arith, e))) up in
    let rest = holes-passed inode extent told n (from + 1) to is (omega (arith, first)) (omega (arith, e)) most
    (λ k low high. holes k (omega (arith, low)) high) step.1 in
    (step.0 ∙ rest.0, rest.1)

-- behind the last hole all bytes are told
pub read_on-past : (inode : Content) (extent : Extent) (told : List ℕ) → IsExtent extent → length told ≡ extent.size
    → read_on inode (take (place_at extent (last_index_of extent + 1)) told) (pieces_from extent (last_index_of extent + 1))
    ≡ reply_step inode (Told told)
unfolding read_on
read_on-past inode extent told is whole =
    let all : place_at extent (last_index_of extent + 1) ≡ length told = place_at-past extent is ∙ sym whole in
    ap₂ (λ (bytes : List ℕ) (rest : List Piece). read_on inode bytes rest)
    (ap (λ n. take n told) all ∙ take-length told)
    (pieces_from-past extent (last_index_of extent + 1) (omega arith))

object-chosen : (entry : ℕ) (hole : Bool) (x y : DriverStep) → (entry == 0) ≡ hole → (entry ≡ 0 → ⊥) → cond hole x y ≡ y
object-chosen entry true x y e object = absurd (object (eqb-true _ _ e))
object-chosen entry false x y e object = refl

-- an object's piece is read
pub read_on-object : (inode : Content) (extent : Extent) (told : List ℕ) (index : ℕ) → Touches extent index
    → (slice_index inode.table index ≡ 0 → ⊥)
    → read_on inode (take (place_at extent index) told) (pieces_from extent index)
    ≡ work_step inode (Reads (take (piece_at_index extent index).place told) (piece_at_index extent index) (pieces_from extent (index + 1)))
    (read_piece inode (piece_at_index extent index) (slice_index inode.table index))
unfolding read_on
read_on-object inode extent told index at object =
    ap₂ (λ (n : ℕ) (rest : List Piece). read_on inode (take n told) rest) (place_at-here extent index at) (pieces_from-cons extent index at.last)
    ∙ object-chosen (slice_index inode.table index) (slice_index inode.table index == 0)
    (read_on inode (take (piece_at_index extent index).place told ++ zeros (piece_at_index extent index).size) (pieces_from extent (index + 1)))
    (work_step inode (Reads (take (piece_at_index extent index).place told) (piece_at_index extent index) (pieces_from extent (index + 1)))
    (read_piece inode (piece_at_index extent index) (slice_index inode.table index)))
    refl object

-- the bytes of a piece come among those told
pub told-over : (size : ℕ) (told : List ℕ) (at : ℕ) (bytes : List ℕ) (next : ℕ) → IsToldUpTo size told at → at + length bytes ≤ size
    → next ≡ at + length bytes
    → (take next (laid_over told at bytes) ≡ take at told ++ bytes) × IsToldUpTo size (laid_over told at bytes) next
told-over size told at bytes next is within e =
    let before : length (take at told) ≡ at = length-take-le at told (omega (arith, is.whole, within)) in
    let behind : List ℕ = drop (at + length bytes) told in
    let front : length (take at told ++ bytes) ≡ next = length-append (take at told) bytes ∙ ap (λ n. n + length bytes) before ∙ sym e in
    let over : laid_over told at bytes ≡ (take at told ++ bytes) ++ behind = refl in
    let left : size - at - length bytes ≡ size - next = omega (arith, e) in
    let rest : behind ≡ zeros (size - next)
    = sym (drop-drop (length bytes) at told) ∙ ap (drop (length bytes)) is.untold ∙ drop-replicate (length bytes) (size - at) 0 ∙ ap zeros left in
    let long : length behind ≡ size - next = length-drop (at + length bytes) told ∙ ap₂ (λ (a b : ℕ). a - b) is.whole (sym e) in (
      ap₂ (λ (n : ℕ) (xs : List ℕ). take n xs) (sym front) over ∙ take-append_seam (take at told ++ bytes) behind,
      record {
        whole = ap length over ∙ length-append (take at told ++ bytes) behind ∙ omega (arith, front, long, e, within);
        untold = ap₂ (λ (n : ℕ) (xs : List ℕ). drop n xs) (sym front) over ∙ drop-append_seam (take at told ++ bytes) behind ∙ rest;
      },
    )

-- ---- where a driver is, by how its code keeps it

pub record ReadsNow (now : Driver) (extent : Extent) (index : ℕ) (told : List ℕ) : Type 0 where
  pub is : now ≡ Reads (take (piece_at_index extent index).place told) (piece_at_index extent index) (pieces_from extent (index + 1))
  pub at : Touches extent index
  pub up_to : IsToldUpTo extent.size told (piece_at_index extent index).place

pub reads-now : (now : Driver) (progress : Progress) (extent : Extent) (index : ℕ) (told payload : List ℕ)
    → driver_at progress told payload (piece_at_index extent index) (pieces_from extent (index + 1)) ≡ now → IsReading now
    → IsProgress progress extent index told payload → ReadsNow now extent index told
reads-now now Reading extent index told payload e reads is = record { is = sym e; at = is.0; up_to = is.1 }
reads-now now (Writing stage) extent index told payload e reads is = absurd (subst IsReading (sym e) reads)
reads-now now HasAnswered extent index told payload e reads is = absurd (subst IsReading (sym e) reads)

pub record WritesNow (now : Driver) (extent : Extent) (index : ℕ) (kept : List ℕ) : Type 0 where
  pub payload : payload_in_write now ≡ kept
  pub rest : rest_of now ≡ pieces_from extent (index + 1)
  pub left : pieces_left now ≡ piece_at_index extent index ∷ pieces_from extent (index + 1)
  pub at : Touches extent index
  pub whole : length kept ≡ extent.size

pub writes-now : (now : Driver) (progress : Progress) (extent : Extent) (index : ℕ) (told payload : List ℕ)
    → driver_at progress told payload (piece_at_index extent index) (pieces_from extent (index + 1)) ≡ now → IsWriting now
    → IsProgress progress extent index told payload → WritesNow now extent index payload
writes-now now Reading extent index told payload e writes is = absurd (subst IsWriting (sym e) writes)
writes-now now (Writing stage) extent index told payload e writes is =
    subst (λ (now : Driver). WritesNow now extent index payload) e
    (record { payload = refl; rest = refl; left = refl; at = is.0; whole = is.1 })
writes-now now HasAnswered extent index told payload e writes is = absurd (subst IsWriting (sym e) writes)

pub stage-writes : (now : Driver) (stage : DriverStage) → stage_of now ≡ Some stage → IsWriting now
stage-writes (Reads told piece rest) stage e = absurd (cc (e))
stage-writes (Writes payload other piece rest) stage e = tt
stage-writes Answered stage e = absurd (cc (e))

pub at-stage : (now : Driver) (stage : DriverStage) (extent : Extent) (index : ℕ) (payload : List ℕ) → stage_of now ≡ Some stage
    → WritesNow now extent index payload → now ≡ Writes payload stage (piece_at_index extent index) (pieces_from extent (index + 1))
at-stage (Reads told piece rest) stage extent index payload e is = absurd (cc (e))
at-stage (Writes kept other piece rest) stage extent index payload e is =
    let p : kept ≡ payload = is.payload in
    let r : rest ≡ pieces_from extent (index + 1) = is.rest in
    let l : piece ∷ rest ≡ piece_at_index extent index ∷ pieces_from extent (index + 1) = is.left in
    cc (e, p, r, l)
at-stage Answered stage extent index payload e is = absurd (cc (e))

-- the pieces that a driver hasn't done are in the disk's objects
pub on-each : (inode : Content) (now : Driver) (extent : Extent) (index : ℕ)
    → pieces_left now ≡ piece_at_index extent index ∷ pieces_from extent (index + 1) → Touches extent index → IsDriverOn inode now
    → (k : ℕ) → index ≤ k → k ≤ last_index_of extent → IsPieceOf inode.spec (piece_at_index extent k)
on-each inode now extent index left at on k low high =
    each_from (IsPieceOf inode.spec) extent index k
    (subst (All (IsPieceOf inode.spec)) (left ∙ sym (pieces_from-cons extent index at.last)) on) low high

-- ---- a write

pub next-within : (index last result : ℕ) → index ≤ last → result ≡ last → (index ≡ result → ⊥) → index + 1 ≤ last
next-within index last result most e other = ⊎_elim
    (λ (below : index < last). omega (arith, below))
    (λ (past : last ≤ index). let same : index ≡ result = omega (arith, past, most, e) in absurd (other same))
    (cases_lt index last)

pub write_on-piece : (inode : Content) (payload : List ℕ) (extent : Extent) (index : ℕ) → index ≤ last_index_of extent
    → write_on inode payload (pieces_from extent index)
    ≡ write_piece_on inode payload (piece_at_index extent index) (pieces_from extent (index + 1)) (backing_of inode (piece_at_index extent index))
write_on-piece inode payload extent index within = ap (write_on inode payload) (pieces_from-cons extent index within)

pub write_on-last : (inode : Content) (now : Driver) (extent : Extent) (index : ℕ) (payload : List ℕ) → WritesNow now extent index payload
    → index ≡ last_index_of extent → write_on inode (payload_in_write now) (rest_of now) ≡ reply_step inode Done
write_on-last inode now extent index payload is last =
    ap (write_on inode (payload_in_write now)) (is.rest ∙ pieces_from-past extent (index + 1) (omega (arith, last)))

pub write_on-next : (inode : Content) (now : Driver) (extent : Extent) (index : ℕ) (payload : List ℕ) → WritesNow now extent index payload
    → index + 1 ≤ last_index_of extent
    → write_on inode (payload_in_write now) (rest_of now)
    ≡ write_piece_on inode payload (piece_at_index extent (index + 1)) (pieces_from extent (index + 1 + 1)) (backing_of inode (piece_at_index extent (index + 1)))
write_on-next inode now extent index payload is within =
    ap₂ (λ (bytes : List ℕ) (rest : List Piece). write_on inode bytes rest) is.payload is.rest
    ∙ write_on-piece inode payload extent (index + 1) within

pub done-fetching : (inode : Content) (bytes payload : List ℕ) (piece : Piece) (rest : List Piece) (now : Driver) (work : ObjWork)
    → now ≡ Writes payload Fetching piece rest → work ≡ create_copy inode payload piece bytes
    → driver_on_done inode bytes now ≡ Some (work_step inode (Writes payload Creating piece rest) work)
unfolding driver_on_done
done-fetching inode bytes payload piece rest now work e w =
    ap (driver_on_done inode bytes) e ∙ ap (λ (work : ObjWork). Some (work_step inode (Writes payload Creating piece rest) work)) (sym w)

pub done-creating : (inode : Content) (bytes payload : List ℕ) (piece : Piece) (rest : List Piece) (now : Driver) (work : ObjWork)
    → now ≡ Writes payload Creating piece rest → work ≡ write_entry inode piece
    → driver_on_done inode bytes now ≡ Some (work_step inode (Writes payload Entering piece rest) work)
unfolding driver_on_done
done-creating inode bytes payload piece rest now work e w =
    ap (driver_on_done inode bytes) e ∙ ap (λ (work : ObjWork). Some (work_step inode (Writes payload Entering piece rest) work)) (sym w)

pub done-reading : (inode : Content) (bytes : List ℕ) (now : Driver) (extent : Extent) (index : ℕ) (told after : List ℕ)
    → ReadsNow now extent index told → take (place_at extent (index + 1)) after ≡ take (piece_at_index extent index).place told ++ bytes
    → driver_on_done inode bytes now ≡ Some (read_on inode (take (place_at extent (index + 1)) after) (pieces_from extent (index + 1)))
unfolding driver_on_done
done-reading inode bytes now extent index told after is over =
    ap (driver_on_done inode bytes) is.is
    ∙ ap (λ (xs : List ℕ). Some (read_on inode xs (pieces_from extent (index + 1)))) (sym over)

-- a work in place, or on an entry, is done
pub done-in-place : (inode : Content) (bytes : List ℕ) (now : Driver) → stage_of now ≡ Some InPlace
    → driver_on_done inode bytes now ≡ Some (write_on inode (payload_in_write now) (rest_of now))
unfolding driver_on_done
done-in-place inode bytes (Reads told piece rest) e = absurd (cc (e))
done-in-place inode bytes (Writes payload InPlace piece rest) e = refl
done-in-place inode bytes (Writes payload Fetching piece rest) e = absurd (cc (e))
done-in-place inode bytes (Writes payload Creating piece rest) e = absurd (cc (e))
done-in-place inode bytes (Writes payload Entering piece rest) e = absurd (cc (e))
done-in-place inode bytes Answered e = absurd (cc (e))

pub done-entering : (inode : Content) (bytes payload : List ℕ) (piece : Piece) (rest : List Piece) (now : Driver)
    → now ≡ Writes payload Entering piece rest
    → driver_on_done inode bytes now ≡ Some (write_on (table_with_entry inode piece) payload rest)
unfolding driver_on_done
done-entering inode bytes payload piece rest now e = ap (driver_on_done inode bytes) e

write_piece_on-entered : (inode : Content) (payload : List ℕ) (piece other : Piece) (rest : List Piece) (behind : Backing)
    → write_piece_on (table_with_entry inode piece) payload other rest behind
    ≡ record (write_piece_on inode payload other rest behind) { inode = table_with_entry inode piece }
write_piece_on-entered inode payload piece other rest Hole = refl
write_piece_on-entered inode payload piece other rest Own = refl
write_piece_on-entered inode payload piece other rest (Inherited vid) = refl

-- an entry that was written changes nothing for the pieces behind it
write_on-entered : (inode : Content) (payload : List ℕ) (extent : Extent) (index : ℕ) (n : ℕ) → last_index_of extent + 1 - (index + 1) ≡ n
    → write_on (table_with_entry inode (piece_at_index extent index)) payload (pieces_from extent (index + 1))
    ≡ record (write_on inode payload (pieces_from extent (index + 1))) { inode = table_with_entry inode (piece_at_index extent index) }
write_on-entered inode payload extent index zero e =
    let none : pieces_from extent (index + 1) ≡ [] = pieces_from-past extent (index + 1) (omega (arith, e)) in
    ap (write_on (table_with_entry inode (piece_at_index extent index)) payload) none
    ∙ sym (ap (λ (rest : List Piece). record (write_on inode payload rest) { inode = table_with_entry inode (piece_at_index extent index) }) none)
write_on-entered inode payload extent index (suc n) e =
    let piece : Piece = piece_at_index extent index in
    let other : Piece = piece_at_index extent (index + 1) in
    let rest : List Piece = pieces_from extent (index + 1 + 1) in
    let more : pieces_from extent (index + 1) ≡ other ∷ rest = pieces_from-cons extent (index + 1) (omega (arith, e)) in
    ap (write_on (table_with_entry inode piece) payload) more
    ∙ ap (write_piece_on (table_with_entry inode piece) payload other rest)
    (backing_stays inode piece other (λ (same : index + 1 ≡ index). omega (arith, same)))
    ∙ write_piece_on-entered inode payload piece other rest (backing_of inode other)
    ∙ sym (ap (λ (left : List Piece). record (write_on inode payload left) { inode = table_with_entry inode piece }) more)

pub entered : (inode : Content) (bytes : List ℕ) (now : Driver) (extent : Extent) (index : ℕ) (payload : List ℕ)
    → stage_of now ≡ Some Entering → WritesNow now extent index payload
    → driver_on_done inode bytes now
    ≡ Some (record (write_on inode (payload_in_write now) (rest_of now)) { inode = table_with_entry inode (piece_at_index extent index) })
entered inode bytes now extent index payload e is =
    done-entering inode bytes payload (piece_at_index extent index) (pieces_from extent (index + 1)) now (at-stage now Entering extent index payload e is)
    ∙ ap (λ (step : DriverStep). Some step) (write_on-entered inode payload extent index (last_index_of extent + 1 - (index + 1)) refl)
    ∙ sym (ap₂ (λ (xs : List ℕ) (left : List Piece). Some (record (write_on inode xs left) { inode = table_with_entry inode (piece_at_index extent index) }))
    is.payload is.rest)

-- memory is taken for a copy, and for an entry
pub fetching-takes-memory : (inode : Content) (bytes : List ℕ) (now : Driver) (R : Type 0) → stage_of now ≡ Some Fetching
    → IfSome (driver_on_done inode bytes now) (λ step. act_takes_memory step.act ≡ false → R)
unfolding driver_on_done
fetching-takes-memory inode bytes (Reads told piece rest) R e = absurd (cc (e))
fetching-takes-memory inode bytes (Writes payload InPlace piece rest) R e = absurd (cc (e))
fetching-takes-memory inode bytes (Writes payload Fetching piece rest) R e = λ (none : true ≡ false). absurd (cc (none))
fetching-takes-memory inode bytes (Writes payload Creating piece rest) R e = absurd (cc (e))
fetching-takes-memory inode bytes (Writes payload Entering piece rest) R e = absurd (cc (e))
fetching-takes-memory inode bytes Answered R e = absurd (cc (e))

pub creating-takes-memory : (inode : Content) (bytes : List ℕ) (now : Driver) (R : Type 0) → stage_of now ≡ Some Creating
    → IfSome (driver_on_done inode bytes now) (λ step. act_takes_memory step.act ≡ false → R)
unfolding driver_on_done
creating-takes-memory inode bytes (Reads told piece rest) R e = absurd (cc (e))
creating-takes-memory inode bytes (Writes payload InPlace piece rest) R e = absurd (cc (e))
creating-takes-memory inode bytes (Writes payload Fetching piece rest) R e = absurd (cc (e))
creating-takes-memory inode bytes (Writes payload Creating piece rest) R e = λ (none : true ≡ false). absurd (cc (none))
creating-takes-memory inode bytes (Writes payload Entering piece rest) R e = absurd (cc (e))
creating-takes-memory inode bytes Answered R e = absurd (cc (e))

-- ---- what is left to do

kept-by : (P : Piece → Type 0) (hole : Bool) (x y : DriverStep) → All P (pieces_left x.driver) → All P (pieces_left y.driver)
    → All P (pieces_left (cond hole x y).driver)
kept-by P true x y this that = this
kept-by P false x y this that = that

pub read-keeps : (P : Piece → Type 0) (inode : Content) (told : List ℕ) (rest : List Piece) → All P rest
    → All P (pieces_left (read_on inode told rest).driver)
unfolding read_on
read-keeps P inode told [] all = All-nil P
read-keeps P inode told (piece ∷ rest) all =
    kept-by P (entry_of inode piece == 0) (read_on inode (told ++ zeros piece.size) rest)
    (work_step inode (Reads told piece rest) (read_piece inode piece (entry_of inode piece)))
    (read-keeps P inode (told ++ zeros piece.size) rest (All-tail P piece rest all)) all

piece-keeps : (P : Piece → Type 0) (inode : Content) (payload : List ℕ) (piece : Piece) (rest : List Piece) (behind : Backing) → All P (piece ∷ rest)
    → All P (pieces_left (write_piece_on inode payload piece rest behind).driver)
piece-keeps P inode payload piece rest Hole all = all
piece-keeps P inode payload piece rest Own all = all
piece-keeps P inode payload piece rest (Inherited vid) all = all

pub write-keeps : (P : Piece → Type 0) (inode : Content) (payload : List ℕ) (rest : List Piece) → All P rest
    → All P (pieces_left (write_on inode payload rest).driver)
write-keeps P inode payload [] all = All-nil P
write-keeps P inode payload (piece ∷ rest) all = piece-keeps P inode payload piece rest (backing_of inode piece) all

done-keeps : (P : Piece → Type 0) (inode : Content) (bytes : List ℕ) (now : Driver) → All P (pieces_left now)
    → IfSome (driver_on_done inode bytes now) (λ step. All P (pieces_left step.driver))
unfolding driver_on_done
done-keeps P inode bytes (Reads told piece rest) all = read-keeps P inode (told ++ bytes) rest (All-tail P piece rest all)
done-keeps P inode bytes (Writes payload InPlace piece rest) all = write-keeps P inode payload rest (All-tail P piece rest all)
done-keeps P inode bytes (Writes payload Fetching piece rest) all = all
done-keeps P inode bytes (Writes payload Creating piece rest) all = all
done-keeps P inode bytes (Writes payload Entering piece rest) all =
    write-keeps P (table_with_entry inode piece) payload rest (All-tail P piece rest all)
done-keeps P inode bytes Answered all = tt

-- a driver that went on is still on its disk
pub stays-on : (inode after : Content) (bytes : List ℕ) (now next : Driver) (act : DriverAct) → IsDriverOn inode now → after.spec ≡ inode.spec
    → driver_on_done inode bytes now ≡ Some (record { driver = next; act = act; inode = after }) → IsDriverOn after next
stays-on inode after bytes now next act on same e =
    subst (λ (spec : VdiSpec). All (IsPieceOf spec) (pieces_left next)) (sym same)
    (subst (λ (step : Option DriverStep). IfSome step (λ step. All (IsPieceOf inode.spec) (pieces_left step.driver))) e
    (done-keeps (IsPieceOf inode.spec) inode bytes now on))

pub index-within : (index end last : ℕ) → end ≡ last + 1 → index ≤ end → (index ≡ end → ⊥) → index ≤ last
index-within index end last e most other = ⊎_elim
    (λ (below : index < end). omega (arith, below, e))
    (λ (past : end ≤ index). let same : index ≡ end = omega (arith, past, most) in absurd (other same))
    (cases_lt index end)

pub stage-known : (now : Driver) (progress : Progress) (told payload : List ℕ) (piece : Piece) (rest : List Piece) (kept : Stage)
    → driver_at progress told payload piece rest ≡ now → progress ≡ Writing kept → stage_of now ≡ Some (driver_stage kept)
stage-known now progress told payload piece rest kept e is =
    subst (λ (now : Driver). stage_of now ≡ Some (driver_stage kept)) e
    (ap (λ (p : Progress). stage_of (driver_at p told payload piece rest)) is)

pub no-memory-wanted : (step : Option DriverStep) → IfSome step (λ step. act_takes_memory step.act ≡ false → true ≡ true)
no-memory-wanted None = tt
no-memory-wanted (Some step) = λ (none : act_takes_memory step.act ≡ false). refl
