-- What a unit of an object may come to be read as, while messages of attempts fly: also attempts that no node has served yet may be served
-- still. And what tables and snapshots have of them.
use Rattle.std.specs.Prelude.{◌≡◌, ◌⊎◌, ℕ, ◌<◌, Bool, true, false, ◌&&◌, List, [], ◌∷◌, slice_get, slice_index, Some}
use Rattle.std.specs.List.{list_any}
use Rattle.std.specs.FinMap as tree
use Rattle.object_id.specs.declared.node.NodeId.{NodeId}
use Rattle.object_id.specs.declared.entry.Entry.{Entry}
use Rattle.object_id.specs.declared.entry.VdiSpec.{VdiSpec}
use Rattle.object_id.specs.Oid.{inode_number}
use Rattle.object_id.specs.Spec.{objects_of}
use Rattle.vdi_directory.specs.declared.effect.Effect.{Effect}
use Rattle.vdi_directory.specs.Dead.{is_dead}
use Rattle.vdi_directory.specs.States.{state_of}
use Rattle.guest_driver.specs.declared.disk.Disk.{Disk}
use Rattle.inode.specs.Layout.{Content}
use Rattle.vdi_ops.specs.Op.{Publishing, Op}
use Rattle.sheep_node.specs.declared.course.Course.TheVariants.{Commanding}
use Rattle.sheep_node.specs.declared.course.Request.{Request}
use Rattle.sheep_node.specs.declared.session.Session.{Session}
use Rattle.sheep_node.specs.State.{Node}
use Rattle.overlap_law.specs.Attempts.{MessageFate, AttemptRecord, object_of}
use Rattle.overlap_law.specs.Words.{Hosts, is_made, is_in_vain, is_doomed, covers_unit}
use Rattle.overlap_law.specs.Each.{EachUp, EachAttempt, spec_in}
use Rattle.overlap_law.specs.Fates.{IsCreated}
use Rattle.overlap_law.specs.Grants.{writer_of}
use Rattle.overlap_law.specs.LastReads.{snaps}
use Rattle.overlap_law.specs.Writers.{session_holder}
use Rattle.overlap_law.specs.Tables.{entry_unit, entry_by, IsEntryOpen, IsYetOf, is_snapshot_effect}

-- whether each of these messages is in vain: none was served, and none ever will be
abbrev pub is_each_in_vain : Hosts → ℕ → List NodeId → List MessageFate → Bool
is_each_in_vain hosts epoch [] fates = true
is_each_in_vain hosts epoch (target ∷ targets) [] = true
is_each_in_vain hosts epoch (target ∷ targets) (fate ∷ fates) =
    is_in_vain hosts epoch target fate && is_each_in_vain hosts epoch targets fates

-- an attempt comes to nothing where each of its messages is in vain
abbrev pub comes_to_nothing : Hosts → AttemptRecord → Bool
comes_to_nothing hosts attempt = is_doomed hosts attempt && is_each_in_vain hosts attempt.epoch attempt.targets attempt.fates

-- by this attempt a unit of an object may be read, or may come to be read: it doesn't come to nothing, and none behind it that covers the
-- unit is made
pub record IsToCome (hosts : Hosts) (attempts : List AttemptRecord) (oid unit j : ℕ) (attempt : AttemptRecord) : Type 0 where
  pub there : slice_get attempts j ≡ Some attempt
  pub object : object_of attempt ≡ oid
  pub covers : covers_unit unit attempt ≡ true
  pub stands : comes_to_nothing hosts attempt ≡ false
  pub last : EachAttempt attempts (λ k later. j < k → object_of later ≡ oid → covers_unit unit later ≡ true → is_made later ≡ false)

-- by such an attempt the inode of an id may come to have an entry
abbrev pub IsEntryToCome : Hosts → List AttemptRecord → ℕ → ℕ → ℕ → AttemptRecord → Type 0
IsEntryToCome hosts attempts vid index j attempt = IsToCome hosts attempts (inode_number vid) (entry_unit index) j attempt

-- at each index a snapshot's inode may come to have one entry alone
pub record SnapshotsStayFrozen (effects : List Effect) (good_id : ℕ → Bool) (hosts : Hosts) (attempts : List AttemptRecord) : Type 0 where
  pub each : (vid index : ℕ) (spec : VdiSpec) → is_snapshot_effect (state_of effects vid) ≡ true → good_id vid ≡ true
      → spec_in effects vid ≡ Some spec → index < objects_of spec → (i j : ℕ) (one other : AttemptRecord)
      → IsEntryToCome hosts attempts vid index i one → IsEntryToCome hosts attempts vid index j other
      → entry_by index one ≡ entry_by index other

-- so may the inode of an id that became a snapshot once, also where the snapshot is deleted
pub record SnappedStayFrozen (effects : List Effect) (good_id : ℕ → Bool) (hosts : Hosts) (attempts : List AttemptRecord) : Type 0 where
  pub each : (vid index : ℕ) (spec : VdiSpec) → list_any (snaps vid) effects ≡ true → good_id vid ≡ true
      → spec_in effects vid ≡ Some spec → index < objects_of spec → (i j : ℕ) (one other : AttemptRecord)
      → IsEntryToCome hosts attempts vid index i one → IsEntryToCome hosts attempts vid index j other
      → entry_by index one ≡ entry_by index other

-- the inode of an open disk was created by the epoch of its node
pub record OpenInodesAreCreated (hosts : Hosts) (attempts : List AttemptRecord) : Type 0 where
  pub each : EachUp hosts (λ n node. (number : ℕ) (session : Session) (disk : Disk) → tree.get node.sessions number ≡ Some session
      → session.disk ≡ Some disk → IsCreated attempts (inode_number disk.inode.vid) node.peer.epoch)

-- a node writes the entry of an index into a disk's inode by the request that this attempt is of
pub record IsBeingEntered (n : ℕ) (node : Node) (vid index : ℕ) (attempt : AttemptRecord) : Type 0 where
  pub opened : IsEntryOpen node vid index
  pub gateway : attempt.gateway.0 ≡ n
  pub of : attempt.req ≡ opened.req
  pub own : entry_by index attempt ≡ vid

-- what the inode of an open disk may come to have, as long as the session has it, is the entry of the session's table; or while the entry
-- is being written, the disk's own id, by the attempts of the request that writes it
pub record TablesStayTheInodes (effects : List Effect) (good_id : ℕ → Bool) (hosts : Hosts) (attempts : List AttemptRecord) : Type 0 where
  pub each : EachUp hosts (λ n node. (number index : ℕ) (session : Session) (disk : Disk) → tree.get node.sessions number ≡ Some session
      → session.disk ≡ Some disk → good_id disk.inode.vid ≡ true → is_dead effects disk.inode.vid ≡ false
      → index < objects_of disk.inode.spec → IsYetOf effects n number disk → (j : ℕ) (attempt : AttemptRecord)
      → IsEntryToCome hosts attempts disk.inode.vid index j attempt
      → (entry_by index attempt ≡ slice_index disk.inode.table index)
      ⊎ ((disk.snapshot ≡ false) × IsBeingEntered n node disk.inode.vid index attempt))

-- an inode that a session is to have open once it is published may come to have its table alone, as long as the session may write it
pub record PublishedTablesStay (effects : List Effect) (hosts : Hosts) (attempts : List AttemptRecord) : Type 0 where
  pub each : EachUp hosts (λ n node. (req index : ℕ) (request : Request) (op : Op) (entry : Entry) (inode : Content)
      → tree.get node.requests req ≡ Some request → request.course ≡ Commanding op → op.stage ≡ Publishing entry (Some inode)
      → index < objects_of inode.spec → writer_of effects inode.vid ≡ Some (session_holder n request.session) → (j : ℕ)
      (attempt : AttemptRecord) → IsEntryToCome hosts attempts inode.vid index j attempt
      → entry_by index attempt ≡ slice_index inode.table index)
