-- The other facts on which the overlap of epochs rests: holders and lists, lost gateways, and entries; and all six together.
use Rattle.std.specs.Prelude.{◌≡◌, ◌⊎◌, ℕ, ◌+◌, ◌*◌, ◌==◌, ◌<◌, ◌≤◌, max, Bool, true, false, ◌&&◌, List, [], ◌∷◌, ◌++◌, All, Some, Ok}
use Rattle.std.specs.Prelude.{slice_index}
use Rattle.std.specs.List.{find, list_any}
use Rattle.std.specs.Option.{option_map_or}
use Rattle.std.specs.FinMap as tree
use Rattle.object_id.specs.declared.limits.TheConstants.{OBJECTS_MAX}
use Rattle.object_id.specs.declared.node.NodeId.{NodeId}
use Rattle.object_id.specs.declared.entry.Entry.{Entry}
use Rattle.object_id.specs.declared.entry.Entry.TheVariants.{Leave}
use Rattle.object_id.specs.Fields.{u32_at}
use Rattle.object_id.specs.Oid.{IsVid, kind_of, vid_of, inode_number, object_number}
use Rattle.object_id.specs.Spec.{objects_of}
use Rattle.disk_lock.specs.declared.holder.Holder.{Holder}
use Rattle.epoch_log.specs.Epochs.{epoch_of, settled_of}
use Rattle.vdi_directory.specs.declared.effect.Effect.{Effect}
use Rattle.vdi_directory.specs.Decisions.{log_effects}
use Rattle.guest_driver.specs.declared.disk.Disk.{Disk}
use Rattle.sheep_node.specs.declared.session.Session.{Session}
use Rattle.sheep_node.specs.State.{Node}
use Rattle.inode.specs.declared.layout.TheConstants.{INODE_HEADER_BYTES}
use Rattle.peer_proto.specs.declared.ask.PeerReq.{PeerReq}
use Rattle.peer_proto.specs.Ask.{ask_in}
use Rattle.peer_proto.specs.Work.{policy_of}
use Rattle.recovery.specs.State.{Recovery, is_listed}
use Rattle.message_wire.specs.declared.name.MessageName.{MessageName}
use Rattle.message_wire.specs.declared.packet.Packet.{Packet}
use Rattle.message_wire.specs.declared.packet.Packet.TheVariants.{Request}
use Rattle.message_wire.specs.Message.{name_cmp}
use Rattle.sheep_world.specs.World.{World}
use Rattle.overlap_law.specs.Attempts.{MessageFate, Flying, Served, Doomed, AttemptRecord, object_of, attempts_on}
use Rattle.overlap_law.specs.Words.{Hosts, is_made, covers_unit, row_bytes_at, last_of, base_of, own_base_of}
use Rattle.overlap_law.specs.Holders.{targets_by, creates, is_object_among, IsGood}
use Rattle.overlap_law.specs.Each.{Placing, EachHost, EachUp, EachAttempt, EachRowOf, end_of_row, holds_level}
use Rattle.overlap_law.specs.Grants.{leave_of, writer_of, granted_in}
use Rattle.overlap_law.specs.Tables.{entry_unit, IsEntryOpen, IsYetOf}
use Rattle.overlap_law.specs.Past.{FinishedList, Past, counts}
use Rattle.overlap_law.specs.Contents.{RowContents, AttemptsStand}

-- Holders of the base. Each target of the greater of the base's epoch and the settled one that counts for it has a row that
-- holds it
pub record HoldersOfTheBase (T : Placing) (counts_in : NodeId → ℕ
    → Bool) (settled : ℕ) (hosts : Hosts) (oid : ℕ) (attempts : List AttemptRecord) : Type 0 where
  pub each : (base : AttemptRecord) → base_of attempts ≡ Some base → All (λ (target : NodeId).
      counts_in target (max base.epoch settled) ≡ true → holds_level (tree.get hosts target.0) oid (max base.epoch settled) ≡ true)
      (T (max base.epoch settled) oid (policy_of base.work))

-- whether what a node had is that of its list of an epoch
abbrev pub is_list_of : ℕ → ℕ → FinishedList → Bool
is_list_of node epoch listed = listed.node.0 == node && listed.epoch == epoch

-- the objects of which a node had rows when its list of an epoch was finished
abbrev pub own_at : List FinishedList → ℕ → ℕ → List ℕ
own_at listed node epoch = option_map_or (λ (one : FinishedList). one.own) (find (is_list_of node epoch) listed) []

-- whether a recovery's list has an object, with the node's own rows as they were when it was finished
abbrev pub is_in_list : List FinishedList → ℕ → Recovery → ℕ → Bool
is_in_list listed node recovery oid = is_object_among oid (recovery.lists.objects ++ own_at listed node recovery.epoch)

-- Complete lists. A node's finished list has the object where its base is of an epoch below the list's
pub record CompleteLists (listed : List FinishedList) (hosts : Hosts) (oid : ℕ) (attempts : List AttemptRecord) : Type 0 where
  pub each : (base : AttemptRecord) → base_of attempts ≡ Some base → EachHost hosts (λ n host. is_listed host.node.recovery ≡ true
      → base.epoch < host.node.recovery.epoch → is_in_list listed n host.node.recovery oid ≡ true)

-- whether a message is on its way
abbrev pub is_flying : MessageFate → Bool
is_flying Flying = true
is_flying Served = false
is_flying Doomed = false

-- whether a message of an attempt is still on its way
abbrev pub flies : AttemptRecord → Bool
flies attempt = list_any is_flying attempt.fates

-- an attempt is under the grant of a disk to a session
pub record IsUnderGrant (log : List Entry) (vid : ℕ) (holder : Holder) (attempt : AttemptRecord) : Type 0 where
  pub disk : vid_of (object_of attempt) ≡ vid
  pub node : attempt.gateway ≡ holder.node
  pub session : attempt.session ≡ holder.session
  pub since : granted_in log vid ≤ attempt.epoch

-- an id that a session of a node might write as the node left is a session's again only by a grant of the leave's epoch or a later one
abbrev pub HeldAtTheLeave : List Entry → Type 0
HeldAtTheLeave log = (front rest : List Entry) (node : NodeId) (vid : ℕ) (holder writer : Holder)
    → log ≡ (front ++ Leave node ∷ []) ++ rest → writer_of (log_effects front) vid ≡ Some holder → holder.node.0 ≡ node.0
    → writer_of (log_effects log) vid ≡ Some writer → epoch_of (front ++ Leave node ∷ []) ≤ granted_in log vid

-- Lost gateways are fenced. The attempts of a lost gateway, and its messages, are of epochs below that of its `Leave`; where one of the
-- messages is still on its way, the disk is granted next after that entry, and every attempt under that grant is of a later epoch. And so
-- is each disk that a session of it might write as it left
pub record LostGatewaysAreFenced (log : List Entry) (hosts : Hosts) (wire : tree.FinMap name_cmp Packet) (attempts : List AttemptRecord) :
    Type 0 where
  pub messages : EachHost hosts (λ n host. (epoch : ℕ) (name : MessageName) (to : NodeId) (bytes : List ℕ) (request : PeerReq)
      → host.is_lost ≡ true → leave_of log n host.incarnation ≡ Some epoch → name.sender.0 ≡ n → tree.get wire name
      ≡ Some (Request to bytes)
      → ask_in bytes ≡ Ok request → request.epoch.0 < epoch)
  pub early : EachAttempt attempts (λ j attempt. (epoch : ℕ) → leave_of log attempt.gateway.0 attempt.incarnation ≡ Some epoch
      → attempt.epoch < epoch)
  pub held : HeldAtTheLeave log
  pub grants : EachAttempt attempts (λ j attempt. (epoch : ℕ) (holder : Holder) → flies attempt ≡ true
      → leave_of log attempt.gateway.0 attempt.incarnation ≡ Some epoch → writer_of (log_effects log) (vid_of (object_of attempt))
      ≡ Some holder
      → epoch ≤ granted_in log (vid_of (object_of attempt)))
  pub later : EachAttempt attempts (λ j attempt. EachAttempt attempts (λ k other. (epoch : ℕ) (holder : Holder) → flies attempt ≡ true
      → leave_of log attempt.gateway.0 attempt.incarnation ≡ Some epoch → writer_of (log_effects log) (vid_of (object_of attempt))
      ≡ Some holder
      → IsUnderGrant log (vid_of (object_of attempt)) holder other → attempt.epoch < other.epoch))

-- the entry of an object in the table of an inode
abbrev pub entry_in : ℕ → List ℕ → ℕ
entry_in index bytes = u32_at (INODE_HEADER_BYTES + 4 * index) bytes

-- whether an attempt to create an object is made
abbrev pub is_made_create : ℕ → AttemptRecord → Bool
is_made_create oid attempt = object_of attempt == oid && creates attempt && is_made attempt

-- two rows of an inode agree where an attempt covers its table
abbrev pub HaveOneTable : AttemptRecord → List ℕ → List ℕ → Type 0
HaveOneTable attempt bytes others = (unit : ℕ) → INODE_HEADER_BYTES ≤ unit → covers_unit unit attempt ≡ true
    → row_bytes_at (policy_of attempt.work) (kind_of (object_of attempt)) unit bytes
    ≡ row_bytes_at (policy_of attempt.work) (kind_of (object_of attempt)) unit others

-- a copy of an open disk's inode has at an index the entry of the session's table, or while that entry is being written the disk's own id
abbrev pub HasTableEntry : Node → Disk → ℕ → List ℕ → Type 0
HasTableEntry node disk index bytes =
    (entry_in index bytes ≡ slice_index disk.inode.table index)
    ⊎ ((disk.snapshot ≡ false) × (entry_in index bytes ≡ disk.inode.vid) × IsEntryOpen node disk.inode.vid index)

-- while a session has the disk of an id open, each copy of its inode that reaches the epoch of an entry's own base has that
abbrev pub CopiesHaveTheTable : List Effect → Hosts → ℕ → List AttemptRecord → Type 0
CopiesHaveTheTable effects hosts vid attempts = EachUp hosts (λ m node. (number index : ℕ) (session : Session) (disk : Disk)
    → tree.get node.sessions number ≡ Some session → session.disk ≡ Some disk → disk.inode.vid ≡ vid → IsYetOf effects m number disk
    → index < objects_of disk.inode.spec → (own : AttemptRecord)
    → own_base_of (entry_unit index) (attempts_on (inode_number vid) attempts) ≡ Some own
    → EachHost hosts (λ n host. EachRowOf host.node.peer.rows (inode_number vid) (λ row. own.epoch ≤ end_of_row host.node.peer.epoch row.to
    → HasTableEntry node disk index row.bytes)))

-- Entries name made objects. An entry that says "own" stands in a copy of an inode only after a made create of its object; and
-- where the last attempt on the inode is made, as that of an opening is, the copies that reach its epoch have one table
pub record EntriesNameMadeObjects (hosts : Hosts) (vid : ℕ) (attempts : List AttemptRecord) : Type 0 where
  pub own : EachHost hosts (λ n host. EachRowOf host.node.peer.rows (inode_number vid) (λ row. (index : ℕ) → index < OBJECTS_MAX
      → entry_in index row.bytes ≡ vid → list_any (is_made_create (object_number vid index)) attempts ≡ true))
  pub one_table : (last : AttemptRecord) → last_of (attempts_on (inode_number vid) attempts) ≡ Some last → is_made last ≡ true
      → EachHost hosts (λ n host. EachRowOf host.node.peer.rows (inode_number vid)
      (λ row. last.epoch ≤ end_of_row host.node.peer.epoch row.to
      → EachHost hosts (λ m other. EachRowOf other.node.peer.rows (inode_number vid)
      (λ copy. last.epoch ≤ end_of_row other.node.peer.epoch copy.to
      → HaveOneTable last row.bytes copy.bytes))))

-- of each object that is live and was available at every state so far, with the attempts on it
abbrev pub EachGood : World → Past → (ℕ → List AttemptRecord → Type 0) → Type 0
EachGood world past P = (oid : ℕ) → IsGood world.log past.attempts past.unavailable oid → P oid (attempts_on oid past.attempts)

-- the six facts of a moment
pub record MeetsFacts (world : World) (past : Past) : Type 0 where
  pub row_contents : EachGood world past (RowContents world.hosts)
  pub attempts_stand : EachGood world past (AttemptsStand world.hosts)
  pub holders : EachGood world past (HoldersOfTheBase (targets_by world.log) (counts past.ended world) (settled_of world.log) world.hosts)
  pub lists : EachGood world past (CompleteLists past.listed world.hosts)
  pub fenced : LostGatewaysAreFenced world.log world.hosts world.wire past.attempts
  pub entries : (vid : ℕ) → IsVid vid → IsGood world.log past.attempts past.unavailable (inode_number vid)
      → EntriesNameMadeObjects world.hosts vid past.attempts
  -- the last one's second half in full, of the same inodes, whether or not what their disks were cloned from was available
  pub tables : (vid : ℕ) → IsVid vid → IsGood world.log past.attempts past.unavailable (inode_number vid)
      → CopiesHaveTheTable (log_effects world.log) world.hosts vid past.attempts
