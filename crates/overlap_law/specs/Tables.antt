-- Inodes and tables: what the entries of inodes stand for, and that a session's table is what its inode has.
use Rattle.std.specs.Prelude.{◌≡◌, ◌≢◌, ◌⊎◌, ℕ, ◌+◌, ◌*◌, ◌<◌, ◌==◌, ◌&&◌, Bool, true, false, List, [], ◌∷◌, ◌++◌, map, fold}
use Rattle.std.specs.Prelude.{slice_get, slice_index, Option, Some, None, if◌then◌else◌}
use Rattle.std.specs.Option.{option_map}
use Rattle.std.specs.List.{list_any, list_all}
use Rattle.std.specs.FinMap as tree
use Rattle.object_id.specs.declared.limits.TheConstants.{OBJECTS_MAX}
use Rattle.object_id.specs.declared.entry.Entry.{Entry}
use Rattle.object_id.specs.declared.entry.VdiSpec.{VdiSpec}
use Rattle.object_id.specs.Oid.{IsVid, inode_number, object_number}
use Rattle.object_id.specs.Spec.{objects_of}
use Rattle.object_id.specs.Fields.{u32_at}
use Rattle.inode.specs.declared.layout.TheConstants.{INODE_HEADER_BYTES}
use Rattle.vdi_directory.specs.declared.effect.Effect.{Effect}
use Rattle.vdi_directory.specs.States.{VdiState, Unused, Reserved, Working, Snapshot, Deleted, Freed, state_of, is_live_state}
use Rattle.vdi_directory.specs.Chains.{is_above}
use Rattle.vdi_directory.specs.Dead.{is_dead}
use Rattle.vdi_directory.specs.Decisions.{log_effects}
use Rattle.peer_proto.specs.declared.work.ObjWork.{ObjWork}
use Rattle.peer_proto.specs.declared.work.ObjWork.TheVariants.{Create, Write, Read, ReadAll}
use Rattle.gateway.specs.State.{Work}
use Rattle.guest_driver.specs.declared.disk.Disk.{Disk}
use Rattle.guest_driver.specs.InodeQueue.{Waiting}
use Rattle.sheep_node.specs.declared.session.Session.{Session}
use Rattle.sheep_node.specs.State.{Node}
use Rattle.overlap_law.specs.Attempts.{AttemptRecord, object_of, attempts_on}
use Rattle.overlap_law.specs.Words.{Hosts, is_made, is_mute, covers_unit, bytes_by}
use Rattle.overlap_law.specs.Each.{EachUp, EachAttempt, spec_in}
use Rattle.overlap_law.specs.Grants.{published_in, writer_of}
use Rattle.overlap_law.specs.Writers.{session_holder}
use Rattle.overlap_law.specs.Fates.{IsCreated}

-- the unit of an inode that is the table's entry of an index
abbrev pub entry_unit : ℕ → ℕ
entry_unit index = INODE_HEADER_BYTES + index

-- the entry of an index that an attempt on an inode has
abbrev pub entry_by : ℕ → AttemptRecord → ℕ
entry_by index attempt = u32_at 0 (bytes_by (entry_unit index) attempt.work)

-- attempts that a unit may be read as: a made one that covers it alone, and with it each later one that isn't mute; nothing before
-- the first made one
abbrev pub candidates_after : ℕ → Option (List AttemptRecord) → AttemptRecord → Option (List AttemptRecord)
candidates_after unit now attempt =
    if covers_unit unit attempt then
    (if is_made attempt then Some (attempt ∷ []) else
    if is_mute attempt then now else option_map (λ before. before ++ attempt ∷ []) now)
    else now

-- of some attempts those by which a unit may be read; none where no made one covers it
abbrev pub candidates_of : ℕ → List AttemptRecord → Option (List AttemptRecord)
candidates_of unit attempts = fold (candidates_after unit) None attempts

-- the entries that may be read at an index of a disk's inode: that of its last made attempt there, and of the later ones that
-- aren't mute; none where none is made
unfoldable pub candidates : List AttemptRecord → ℕ → ℕ → Option (List ℕ)
candidates attempts vid index =
    option_map (map (entry_by index)) (candidates_of (entry_unit index) (attempts_on (inode_number vid) attempts))

-- each of these entries is one of those
abbrev pub AreAmong : List ℕ → Option (List ℕ) → Type 0
AreAmong those None = ⊥
AreAmong those (Some entries) = list_all (λ entry. list_any (λ other. other == entry) those) entries ≡ true

-- an entry stands for nothing, or for an object of the disk or of one in its chain that has a made create
pub record StandsFor (effects : List Effect) (attempts : List AttemptRecord) (vid index epoch entry : ℕ) : Type 0 where
  pub chain : (entry ≡ vid) ⊎ (is_above effects entry vid ≡ true)
  pub created : IsCreated attempts (object_number entry index) epoch

-- the entries of an attempt on an inode stand for objects that were made by then
pub record EntriesAreMade (effects : List Effect) (live : ℕ → Bool) (good_id : ℕ → Bool) (attempts : List AttemptRecord) : Type 0 where
  pub each : EachAttempt attempts (λ j attempt. (vid index : ℕ) → object_of attempt ≡ inode_number vid
      → live (inode_number vid) ≡ true → good_id vid ≡ true → index < OBJECTS_MAX
      → covers_unit (entry_unit index) attempt ≡ true → entry_by index attempt ≢ 0
      → StandsFor effects attempts vid index attempt.epoch (entry_by index attempt))

-- an entry that says "own" stands for an object that was made by then, also where the disk wasn't available: the table of a disk is
-- never had from elsewhere with its own id in it
pub record OwnEntriesAreMade (live : ℕ → Bool) (attempts : List AttemptRecord) : Type 0 where
  pub each : EachAttempt attempts (λ j attempt. (vid index : ℕ) → IsVid vid → object_of attempt ≡ inode_number vid
      → live (inode_number vid) ≡ true → index < OBJECTS_MAX
      → covers_unit (entry_unit index) attempt ≡ true → entry_by index attempt ≡ vid
      → IsCreated attempts (object_number vid index) attempt.epoch)

-- an id is a hole, a disk's own, or one of its chain
abbrev pub IsOfChain : List Effect → ℕ → ℕ → Type 0
IsOfChain effects vid entry = (entry ≡ 0) ⊎ ((entry ≡ vid) ⊎ (is_above effects entry vid ≡ true))

-- the table of a session has such entries alone, also where the disk wasn't available; and its own ones stand for objects that were made
pub record TablesAreOfTheChain (effects : List Effect) (hosts : Hosts) (attempts : List AttemptRecord) : Type 0 where
  pub chain : EachUp hosts (λ n node. (number index : ℕ) (session : Session) (disk : Disk) → tree.get node.sessions number ≡ Some session
      → session.disk ≡ Some disk → index < objects_of disk.inode.spec
      → IsOfChain effects disk.inode.vid (slice_index disk.inode.table index))
  pub own : EachUp hosts (λ n node. (number index : ℕ) (session : Session) (disk : Disk) → tree.get node.sessions number ≡ Some session
      → session.disk ≡ Some disk → index < objects_of disk.inode.spec → slice_index disk.inode.table index ≡ disk.inode.vid
      → is_dead effects disk.inode.vid ≡ false → IsCreated attempts (object_number disk.inode.vid index) node.peer.epoch)

-- each id
abbrev pub every_id : ℕ → Bool
every_id vid = true

-- the inode of an id that is published was made by then, also where the disk wasn't available
pub record PublishedInodesAreMade (log : List Entry) (good_id : ℕ → Bool) (attempts : List AttemptRecord) : Type 0 where
  pub each : (vid : ℕ) → is_live_state (state_of (log_effects log) vid) ≡ true → good_id vid ≡ true
      → IsCreated attempts (inode_number vid) (published_in log vid)

-- whether a work writes the entry of an index into a disk's inode
abbrev pub writes_entry : ℕ → ℕ → ObjWork → Bool
writes_entry vid index (Create oid policy size offset bytes) = false
writes_entry vid index (Write oid policy offset bytes) = oid == inode_number vid && offset == INODE_HEADER_BYTES + 4 * index
writes_entry vid index (Read oid policy offset size) = false
writes_entry vid index (ReadAll oid policy size) = false

-- the entry write of an index is open
pub record IsEntryOpen (node : Node) (vid index : ℕ) : Type 0 where
  pub req : ℕ
  pub work : Work
  pub there : tree.get node.gateway.works req ≡ Some work
  pub writes : writes_entry vid index work.work ≡ true

-- or it waits in the session's line
pub record IsEntryWaiting (session : Session) (vid index : ℕ) : Type 0 where
  pub place : ℕ
  pub waiting : Waiting
  pub there : slice_get session.inode_queue.waiting place ≡ Some waiting
  pub writes : writes_entry vid index waiting.work ≡ true

-- the inode has the table's entry alone; or while the entry is being written that or the disk's own
pub record IsOfTable (attempts : List AttemptRecord) (node : Node) (session : Session) (disk : Disk) (index : ℕ) : Type 0 where
  pub kept : AreAmong (slice_index disk.inode.table index ∷ disk.inode.vid ∷ []) (candidates attempts disk.inode.vid index)
  pub alone : AreAmong (slice_index disk.inode.table index ∷ []) (candidates attempts disk.inode.vid index)
      ⊎ ((disk.snapshot ≡ false) × (IsEntryOpen node disk.inode.vid index ⊎ IsEntryWaiting session disk.inode.vid index))

-- a session has its open disk yet: where it is no snapshot, the session may write it by the whole log. One that the session gives back,
-- by an entry that is in the log and that its node hasn't read, may be another's
abbrev pub IsYetOf : List Effect → ℕ → ℕ → Disk → Type 0
IsYetOf effects n number disk = disk.snapshot ≡ false → writer_of effects disk.inode.vid ≡ Some (session_holder n number)

-- a session's table is what the inode of its disk has, as long as it has the disk
pub record TablesAreTheInodes (effects : List Effect) (good_id : ℕ → Bool) (hosts : Hosts) (attempts : List AttemptRecord) : Type 0 where
  pub each : EachUp hosts (λ n node. (number index : ℕ) (session : Session) (disk : Disk) → tree.get node.sessions number ≡ Some session
      → session.disk ≡ Some disk → good_id disk.inode.vid ≡ true → is_dead effects disk.inode.vid ≡ false
      → index < objects_of disk.inode.spec → IsYetOf effects n number disk → IsOfTable attempts node session disk index)

-- there is exactly one entry, told once or more
abbrev pub IsOneEntry : Option (List ℕ) → Type 0
IsOneEntry None = ⊥
IsOneEntry (Some entries) = (entry : ℕ) × AreAmong (entry ∷ []) (Some entries)

-- whether an id is a snapshot
abbrev pub is_snapshot_effect : VdiState → Bool
is_snapshot_effect Unused = false
is_snapshot_effect (Reserved by) = false
is_snapshot_effect Working = false
is_snapshot_effect (Snapshot tag) = true
is_snapshot_effect Deleted = false
is_snapshot_effect Freed = false

-- a snapshot's inode has one entry at each index
pub record SnapshotsAreFrozen (effects : List Effect) (good_id : ℕ → Bool) (attempts : List AttemptRecord) : Type 0 where
  pub each : (vid index : ℕ) (spec : VdiSpec) → is_snapshot_effect (state_of effects vid) ≡ true → good_id vid ≡ true
      → spec_in effects vid ≡ Some spec → index < objects_of spec → IsOneEntry (candidates attempts vid index)

-- each entry of a session's table stands for an object that was made by the epoch of its node
pub record TablesAreMade (effects : List Effect) (good_id : ℕ → Bool) (hosts : Hosts) (attempts : List AttemptRecord) : Type 0 where
  pub each : EachUp hosts (λ n node. (number index : ℕ) (session : Session) (disk : Disk) → tree.get node.sessions number ≡ Some session
      → session.disk ≡ Some disk → good_id disk.inode.vid ≡ true → is_dead effects disk.inode.vid ≡ false
      → index < objects_of disk.inode.spec → slice_index disk.inode.table index ≢ 0
      → IsCreated attempts (object_number (slice_index disk.inode.table index) index) node.peer.epoch)
