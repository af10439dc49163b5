-- What an event adds to the history, against the ledger so far: that what is read in it may be read, and that all else may come next; and
-- what a read has been told by a moment, against the ledger then.
use Rattle.std.specs.Prelude.{◌≡◌, ◌⊎◌, ℕ, ◌+◌, ◌*◌, ◌-◌, ◌/◌, ◌<◌, ◌≤◌, ◌==◌, ◌&&◌, Bool, true, false, All}
use Rattle.std.specs.Prelude.{List, [], ◌∷◌, length, slice_index, None, Some}
use Rattle.std.specs.List.{list_any}
use Rattle.object_id.specs.declared.limits.TheConstants.{BLOCK_BYTES}
use Rattle.object_id.specs.Fields.{zeros}
use Rattle.object_id.specs.Oid.{object_number}
use Rattle.object_id.specs.Spec.{objects_of}
use Rattle.object_store.specs.Bytes.{piece_at}
use Rattle.inode.specs.Layout.{Content}
use Rattle.disk_history.specs.declared.event.HistEvent.{HistEvent}
use Rattle.disk_history.specs.declared.event.HistEvent.TheVariants.{Create, Copy, Delete, WriteStart, WriteDone, WriteRefused, WriterLost}
use Rattle.disk_history.specs.declared.event.HistEvent.TheVariants.{Read}
use Rattle.disk_history.specs.Ledger.{Item, Disk, Ledger, is_item_of, ledger_after}
use Rattle.disk_history.specs.Changes.{items_in}
use Rattle.disk_history.specs.Legal.{is_torn, may_follow}
use Rattle.vdi_directory.specs.declared.effect.Effect.{Effect}
use Rattle.vdi_directory.specs.States.{state_of, is_live_state}
use Rattle.peer_proto.specs.declared.guest.GuestRsp.TheVariants.{Piece as Told}
use Rattle.guest_driver.specs.declared.act.DriverAct.{DriverAct}
use Rattle.guest_driver.specs.declared.act.DriverAct.TheVariants.{Reply}
use Rattle.guest_driver.specs.declared.extent.Extent.{Extent}
use Rattle.guest_driver.specs.Pieces.{Piece}
use Rattle.guest_driver.specs.Driver.{Driver, Reads, Writes, Answered}
use Rattle.guest_driver.specs.Extent.{Touches, first_index_of, last_index_of, piece_at_index, pieces_from, place_at}
use Rattle.overlap_law.specs.Attempts.{AttemptRecord}
use Rattle.overlap_law.specs.Each.{spec_in}
use Rattle.overlap_law.specs.Pieces.{IsInPiece, bytes_for}
use Rattle.overlap_law.specs.StayingBlocks.{WasServed, MayStay}
use Rattle.overlap_law.specs.Tables.{entry_by}
use Rattle.overlap_law.specs.ToCome.{IsToCome, IsEntryToCome}
use Rattle.overlap_law.specs.Words.{Hosts, is_mute, bytes_by}
use Rattle.overlap_law.specs.WrittenBlocks.{IsBlockOfDisk, items_at, is_torn_here, is_allowed}

-- ---- an event

-- what is told of a block of a disk may be read of it: the disk has the block, and was deleted, or the block is torn, or its items let it
-- be read so
pub record MayBeToldOf (ledger : Ledger) (vid block : ℕ) (bytes : List ℕ) : Type 0 where
  pub disk : Disk
  pub there : ledger.disks vid ≡ Some disk
  pub within : block < disk.blocks
  pub whole : length bytes ≡ BLOCK_BYTES
  pub given : (disk.deleted ≡ true) ⊎ ((is_torn (disk.items block) ≡ true) ⊎ (is_allowed (disk.items block) bytes ≡ true))

-- so it is if an event is a read of a good disk
abbrev pub IsToldAsItMay : (ℕ → Bool) → Ledger → HistEvent → Type 0
IsToldAsItMay good_id ledger (Create disk blocks) = Unit {0}
IsToldAsItMay good_id ledger (Copy old new) = Unit {0}
IsToldAsItMay good_id ledger (Delete disk) = Unit {0}
IsToldAsItMay good_id ledger (WriteStart req disk block coded bytes) = Unit {0}
IsToldAsItMay good_id ledger (WriteDone req) = Unit {0}
IsToldAsItMay good_id ledger (WriteRefused req) = Unit {0}
IsToldAsItMay good_id ledger (WriterLost req) = Unit {0}
IsToldAsItMay good_id ledger (Read disk block bytes) = good_id disk ≡ true → MayBeToldOf ledger disk block bytes

-- and so for each read of several events, one after the other
abbrev pub WhatIsToldMayBeRead : (ℕ → Bool) → Ledger → List HistEvent → Type 0
WhatIsToldMayBeRead good_id ledger [] = Unit {0}
WhatIsToldMayBeRead good_id ledger (event ∷ events) =
    IsToldAsItMay good_id ledger event × WhatIsToldMayBeRead good_id (ledger_after ledger event) events

-- an event may come next, if it is no read
abbrev pub MayFollowUnlessRead : Ledger → HistEvent → Type 0
MayFollowUnlessRead ledger (Create disk blocks) = may_follow ledger (Create disk blocks) ≡ true
MayFollowUnlessRead ledger (Copy old new) = may_follow ledger (Copy old new) ≡ true
MayFollowUnlessRead ledger (Delete disk) = may_follow ledger (Delete disk) ≡ true
MayFollowUnlessRead ledger (WriteStart req disk block coded bytes) = may_follow ledger (WriteStart req disk block coded bytes) ≡ true
MayFollowUnlessRead ledger (WriteDone req) = may_follow ledger (WriteDone req) ≡ true
MayFollowUnlessRead ledger (WriteRefused req) = may_follow ledger (WriteRefused req) ≡ true
MayFollowUnlessRead ledger (WriterLost req) = may_follow ledger (WriterLost req) ≡ true
MayFollowUnlessRead ledger (Read disk block bytes) = Unit {0}

-- and so each of several
abbrev pub AllElseMayFollow : Ledger → List HistEvent → Type 0
AllElseMayFollow ledger [] = Unit {0}
AllElseMayFollow ledger (event ∷ events) = MayFollowUnlessRead ledger event × AllElseMayFollow (ledger_after ledger event) events

-- ---- a read, piece by piece

-- where a read is on the disk of an inode
abbrev pub extent_on : Content → ℕ → ℕ → Extent
extent_on inode offset size = record { shift = inode.spec.shift; offset = offset; size = size }

-- what is asked of the bytes that are read of a block, by its items
abbrev pub Reading : Type 1
Reading = List Item → List ℕ → Type 0

-- that they may be read of it, or it is torn
abbrev pub MayBeReadAs : Reading
MayBeReadAs items bytes = (is_torn items ≡ true) ⊎ (is_allowed items bytes ≡ true)

-- and that they may be whichever requests are refused that no message was served of. This is what stays so as the history grows, so it is
-- what is carried of a read from piece to piece
abbrev pub MayStayReadAs : List AttemptRecord → Reading
MayStayReadAs attempts items bytes = (is_torn items ≡ true) ⊎ MayStay attempts items None bytes

-- what a read was told of the objects before one is as long as the pieces in them, and is as asked of their blocks
pub record IsReadUpTo (May : Reading) (ledger : Ledger) (effects : List Effect) (good_id : ℕ
    → Bool) (inode : Content) (extent : Extent) (index : ℕ) (told : List ℕ) : Type 0 where
  pub long : length told ≡ place_at extent index
  pub each : (k unit : ℕ) (disk : Disk) → first_index_of extent ≤ k → k < index → IsInPiece (piece_at_index extent k) unit
      → IsBlockOfDisk ledger effects good_id inode.vid disk inode.spec k unit
      → May (items_at disk inode.spec k unit) (bytes_for told (piece_at_index extent k) unit)

-- the bytes that come of a piece are as long as it, and are as asked of its blocks
pub record PieceMayBeRead (May : Reading) (ledger : Ledger) (effects : List Effect) (good_id : ℕ
    → Bool) (inode : Content) (piece : Piece) (bytes : List ℕ) : Type 0 where
  pub long : length bytes ≡ piece.size
  pub each : (unit : ℕ) (disk : Disk) → IsInPiece piece unit
      → IsBlockOfDisk ledger effects good_id inode.vid disk inode.spec piece.index unit
      → May (items_at disk inode.spec piece.index unit) (piece_at bytes (BLOCK_BYTES * unit - piece.offset) BLOCK_BYTES)

-- zeros are as asked of the blocks of a piece's object, if that is a hole by the table
abbrev pub HoleMayBeRead : Reading → Ledger → List Effect → (ℕ → Bool) → Content → Piece → Type 0
HoleMayBeRead May ledger effects good_id inode piece = (unit : ℕ) (disk : Disk) → slice_index inode.table piece.index ≡ 0
    → IsBlockOfDisk ledger effects good_id inode.vid disk inode.spec piece.index unit
    → May (items_at disk inode.spec piece.index unit) (zeros BLOCK_BYTES)

-- so of each of some pieces
abbrev pub HolesMayBeRead : Reading → Ledger → List Effect → (ℕ → Bool) → Content → List Piece → Type 0
HolesMayBeRead May ledger effects good_id inode pieces = All (HoleMayBeRead May ledger effects good_id inode) pieces

-- a read is at the piece of an object, with all before it told, or has told all in its reply
abbrev pub ReadStands : Reading → Ledger → List Effect → (ℕ → Bool) → Content → Extent → Driver → DriverAct → Type 0
ReadStands May ledger effects good_id inode extent (Reads told piece rest) act =
    (index : ℕ) × Touches extent index × (piece ≡ piece_at_index extent index) × (rest ≡ pieces_from extent (index + 1))
    × IsReadUpTo May ledger effects good_id inode extent index told
ReadStands May ledger effects good_id inode extent (Writes payload stage piece rest) act = ⊥
ReadStands May ledger effects good_id inode extent Answered act =
    (told : List ℕ) × (act ≡ Reply (Told told)) × IsReadUpTo May ledger effects good_id inode extent (last_index_of extent + 1) told

-- the disk of an inode is there by the ledger, as large as the inode says; and by the log, unless it is deleted
pub record IsDiskOf (ledger : Ledger) (effects : List Effect) (inode : Content) : Type 0 where
  pub disk : Disk
  pub there : ledger.disks inode.vid ≡ Some disk
  pub large : inode.spec.size / BLOCK_BYTES ≤ disk.blocks
  pub made_with : spec_in effects inode.vid ≡ Some inode.spec
  pub live : disk.deleted ≡ false → is_live_state (state_of effects inode.vid) ≡ true

-- ---- what is had of a piece

-- the bytes that come of a piece are, in each block that isn't torn, those of an attempt on the object that was served, and by which the
-- block may be read
pub record PieceIsToCome (ledger : Ledger) (effects : List Effect) (good_id : ℕ
    → Bool) (hosts : Hosts) (attempts : List AttemptRecord) (inode : Content) (home : ℕ) (piece : Piece) (bytes : List ℕ) : Type 0 where
  pub long : length bytes ≡ piece.size
  pub each : (unit : ℕ) (disk : Disk) → IsInPiece piece unit
      → IsBlockOfDisk ledger effects good_id inode.vid disk inode.spec piece.index unit
      → is_torn_here inode.spec (items_at disk inode.spec piece.index unit) ≡ false
      → (j : ℕ) × (attempt : AttemptRecord) × IsToCome hosts attempts (object_number home piece.index) unit j attempt
      × (is_mute attempt ≡ false) × (bytes_by unit attempt.work ≡ piece_at bytes (BLOCK_BYTES * unit - piece.offset) BLOCK_BYTES)

-- where the table has a hole at a piece, the inode of a good disk that is there may come to have one
abbrev pub HoleIsToCome : List Effect → (ℕ → Bool) → Hosts → List AttemptRecord → Content → Piece → Type 0
HoleIsToCome effects good_id hosts attempts inode piece = good_id inode.vid ≡ true → is_live_state (state_of effects inode.vid) ≡ true
    → piece.index < objects_of inode.spec → slice_index inode.table piece.index ≡ 0
    → (j : ℕ) × (entry : AttemptRecord) × IsEntryToCome hosts attempts inode.vid piece.index j entry × (entry_by piece.index entry ≡ 0)

-- so at each of some pieces
abbrev pub HolesAreToCome : List Effect → (ℕ → Bool) → Hosts → List AttemptRecord → Content → List Piece → Type 0
HolesAreToCome effects good_id hosts attempts inode pieces = All (HoleIsToCome effects good_id hosts attempts inode) pieces

-- ---- how the history may grow behind what was read

-- what has to hold of an event that a history gets next, so that what was read of a block of a disk is still as it may be read: the event
-- makes no such disk; it acknowledges no item of the block; and it refuses no request of which a message was served, nor ends one that had
-- ended
abbrev pub KeepsReadsOf : List AttemptRecord → Ledger → ℕ → ℕ → HistEvent → Type 0
KeepsReadsOf attempts ledger vid block (Create disk blocks) = (vid == disk) ≡ false
KeepsReadsOf attempts ledger vid block (Copy old new) = (vid == new) ≡ false
KeepsReadsOf attempts ledger vid block (Delete disk) = Unit {0}
KeepsReadsOf attempts ledger vid block (WriteStart req disk at coded bytes) = Unit {0}
KeepsReadsOf attempts ledger vid block (WriteDone req) = list_any (is_item_of req) (items_in (ledger.disks vid) block) ≡ false
KeepsReadsOf attempts ledger vid block (WriteRefused req) = ((ledger.requests req).ended ≡ false) × (WasServed attempts req → ⊥)
KeepsReadsOf attempts ledger vid block (WriterLost req) = (ledger.requests req).ended ≡ false
KeepsReadsOf attempts ledger vid block (Read disk at bytes) = Unit {0}

-- and of several, one after the other
abbrev pub AllKeepReadsOf : List AttemptRecord → Ledger → ℕ → ℕ → List HistEvent → Type 0
AllKeepReadsOf attempts ledger vid block [] = Unit {0}
AllKeepReadsOf attempts ledger vid block (event ∷ events) =
    KeepsReadsOf attempts ledger vid block event × AllKeepReadsOf attempts (ledger_after ledger event) vid block events

-- a disk was there before, with as many blocks, and what might be read of the block so that it stays may be still
pub record StoodBefore (attempts : List AttemptRecord) (ledger : Ledger) (vid block : ℕ) (disk : Disk) : Type 0 where
  pub was : Disk
  pub there : ledger.disks vid ≡ Some was
  pub kept : was.deleted ≡ false
  pub blocks : disk.blocks ≡ was.blocks
  pub stays : (bytes : List ℕ) → MayStayReadAs attempts (was.items block) bytes → MayStayReadAs attempts (disk.items block) bytes

-- ---- what requests did, by the events

-- whether an event begins the request's write of a block of a disk
abbrev pub begins_write_at : ℕ → ℕ → ℕ → HistEvent → Bool
begins_write_at req disk block (Create new blocks) = false
begins_write_at req disk block (Copy old new) = false
begins_write_at req disk block (Delete gone) = false
begins_write_at req disk block (WriteStart other on at coded bytes) = other == req && (on == disk && at == block)
begins_write_at req disk block (WriteDone other) = false
begins_write_at req disk block (WriteRefused other) = false
begins_write_at req disk block (WriterLost other) = false
begins_write_at req disk block (Read from at bytes) = false
