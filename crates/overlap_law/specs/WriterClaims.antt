-- What the works of a session rest on: which ids it has, by a lock or by a reservation, while its node hasn't read all of the log, nor put
-- all that it is to put. Of each command it says so by what the command waits for, and of each open disk.
use Rattle.std.specs.Prelude.{◌≡◌, ◌⊎◌, ℕ, ◌+◌, ◌≤◌, Bool, true, false, List, take, length, count_by, slice_get, Option, Some, None}
use Rattle.std.specs.Ordering.{nat_cmp}
use Rattle.std.specs.List.{list_any}
use Rattle.std.specs.FinMap as tree
use Rattle.object_id.specs.declared.oid.Vid.{Vid}
use Rattle.object_id.specs.declared.node.NodeId.{NodeId}
use Rattle.object_id.specs.declared.entry.Origin.TheVariants.{Fresh, SnapshotOf, CloneOf}
use Rattle.object_id.specs.declared.entry.Origin.{Origin}
use Rattle.object_id.specs.declared.entry.Entry.{Entry}
use Rattle.object_id.specs.declared.entry.Entry.TheVariants.{Format, Join, Leave, Reweight, Recovered, Reserve, Publish, Clone, Snapshot}
use Rattle.object_id.specs.declared.entry.Entry.TheVariants.{Delete, Lock, Unlock}
use Rattle.object_id.specs.Same.{is_same_entry}
use Rattle.epoch_log.specs.Epochs.{epoch_of}
use Rattle.disk_lock.specs.declared.holder.Holder.{Holder}
use Rattle.inode.specs.Layout.{Content}
use Rattle.vdi_directory.specs.declared.effect.Reservation.{Reservation}
use Rattle.vdi_directory.specs.declared.effect.Source.{Source}
use Rattle.vdi_directory.specs.declared.decision.Decision.TheVariants as decisions
use Rattle.vdi_directory.specs.Decisions.{log_effects, decision_after}
use Rattle.vdi_directory.specs.Effects.{reservations_of, reservation_on, holder_of}
use Rattle.vdi_directory.specs.Sources.{tag_for}
use Rattle.vdi_directory.specs.States.{rank, state_of, owner_of}
use Rattle.guest_driver.specs.declared.disk.Disk.{Disk}
use Rattle.vdi_ops.specs.Entries.{unlock_of}
use Rattle.vdi_ops.specs.Op.{Task, Opening, WritingBack, Tagging, Copying, Making, OpStage, Asked, Working, Publishing, Answered, Op}
use Rattle.sheep_node.specs.declared.course.Course.TheVariants.{Commanding}
use Rattle.sheep_node.specs.declared.course.Request.{Request}
use Rattle.sheep_node.specs.declared.session.Session.{Session}
use Rattle.sheep_node.specs.SessionQueues.{session_among}
use Rattle.overlap_law.specs.Grants.{reserver, writer_of, granted_in}
use Rattle.overlap_law.specs.Reached.{Hosts}
use Rattle.overlap_law.specs.CommandDisks.{opened_in}
use Rattle.overlap_law.specs.Each.{EachUp}
use Rattle.overlap_law.specs.Writers.{unlocks}

-- ---- an id and a session

-- a session of a node, as who has a lock
abbrev pub holder_at : NodeId → ℕ → Holder
holder_at me session = record { node = me; session = session }

-- a session has an id's lock, and has no unlock of it to put; the lock was granted in this epoch or before
pub record HasLock (log outbox : List Entry) (me : NodeId) (session epoch vid : ℕ) : Type 0 where
  pub held : holder_of (log_effects log) vid ≡ Some (holder_at me session)
  pub kept : list_any (unlocks session vid) outbox ≡ false
  pub since : granted_in log vid ≤ epoch

-- a session has an id's reservation
pub record HasReservation (log outbox : List Entry) (me : NodeId) (session epoch vid : ℕ) : Type 0 where
  pub reservation : Reservation
  pub found : reservation_on (record { 0 = vid }) (reservations_of (log_effects log)) ≡ Some reservation
  pub own : reserver reservation ≡ holder_at me session
  pub kept : list_any (unlocks session vid) outbox ≡ false
  pub since : granted_in log vid ≤ epoch

-- the id is to take the place of a disk
abbrev pub IsInPlaceOf : ℕ → Source → Type 0
IsInPlaceOf old source = (tag : List ℕ) × (tag_for (record { 0 = old }) source ≡ Some tag)

pub record HasPlace (log outbox : List Entry) (me : NodeId) (session epoch vid old : ℕ) : Type 0 where
  pub has : HasReservation log outbox me session epoch vid
  pub place : IsInPlaceOf old has.reservation.source

-- no session is given an id again: it is a snapshot, or deleted, or its reservation was given back
abbrev pub IsGivenNoMore : List Entry → ℕ → Type 0
IsGivenNoMore log vid = 3 ≤ rank (state_of (log_effects log) vid)

-- an id was reserved for a disk of this name
abbrev pub IsNamed : List Entry → ℕ → List ℕ → Type 0
IsNamed log vid name = owner_of (log_effects log) vid ≡ Some name

-- a command begins with such an entry
abbrev pub IsFirstEntry : Entry → Type 0
IsFirstEntry (Format members) = ⊥
IsFirstEntry (Join node zone vnodes) = ⊥
IsFirstEntry (Leave node) = ⊥
IsFirstEntry (Reweight node vnodes) = ⊥
IsFirstEntry (Recovered node of) = ⊥
IsFirstEntry (Reserve by of name origin) = Unit {0}
IsFirstEntry (Publish by of) = ⊥
IsFirstEntry (Clone by of) = ⊥
IsFirstEntry (Snapshot by old of) = ⊥
IsFirstEntry (Delete by of name tag) = Unit {0}
IsFirstEntry (Lock by of name tag) = Unit {0}
IsFirstEntry (Unlock by of id) = Unit {0}

-- ---- what a command has, where its node has read so much of the log, and is to know of it from a place on; and its session has this open

module _ (log outbox read : List Entry) (from : ℕ) (me : NodeId) (session : ℕ) (opened : Option (Bool × ℕ)) where
  -- the epoch that the node has come to
  abbrev pub epoch_read : ℕ
  epoch_read = epoch_of read

  -- what was granted on an entry is the session's
  abbrev pub IsOriginKept : ℕ → ℕ → Origin → Type 0
  IsOriginKept epoch vid (Fresh spec) = HasReservation log outbox me session epoch vid
  IsOriginKept epoch vid (SnapshotOf tag) = (old : ℕ) × (opened ≡ Some (false, old)) × HasPlace log outbox me session epoch vid old
  IsOriginKept epoch vid (CloneOf base tag) = HasReservation log outbox me session epoch vid

  abbrev pub IsLockKept : ℕ → ℕ → Option (List ℕ) → Type 0
  IsLockKept epoch vid None = HasLock log outbox me session epoch vid
  IsLockKept epoch vid (Some tag) = IsGivenNoMore log vid

  abbrev pub IsGrantKept : ℕ → ℕ → Entry → Type 0
  IsGrantKept epoch vid (Format members) = Unit {0}
  IsGrantKept epoch vid (Join node zone vnodes) = Unit {0}
  IsGrantKept epoch vid (Leave node) = Unit {0}
  IsGrantKept epoch vid (Reweight node vnodes) = Unit {0}
  IsGrantKept epoch vid (Recovered node of) = Unit {0}
  IsGrantKept epoch vid (Reserve by of name origin) = IsOriginKept epoch vid origin
  IsGrantKept epoch vid (Publish by of) = Unit {0}
  IsGrantKept epoch vid (Clone by of) = Unit {0}
  IsGrantKept epoch vid (Snapshot by old of) = Unit {0}
  IsGrantKept epoch vid (Delete by of name tag) = Unit {0}
  IsGrantKept epoch vid (Lock by of name tag) = IsLockKept epoch vid tag
  IsGrantKept epoch vid (Unlock by of old) = Unit {0}

  -- a snapshot is asked of the open disk, by its name
  abbrev pub IsForOrigin : List ℕ → Origin → Type 0
  IsForOrigin name (Fresh spec) = Unit {0}
  IsForOrigin name (SnapshotOf tag) = (old : ℕ) × (opened ≡ Some (false, old)) × IsNamed log old name
  IsForOrigin name (CloneOf base tag) = Unit {0}

  abbrev pub IsForDisk : Entry → Type 0
  IsForDisk (Format members) = Unit {0}
  IsForDisk (Join node zone vnodes) = Unit {0}
  IsForDisk (Leave node) = Unit {0}
  IsForDisk (Reweight node vnodes) = Unit {0}
  IsForDisk (Recovered node of) = Unit {0}
  IsForDisk (Reserve by of name origin) = IsForOrigin name origin
  IsForDisk (Publish by of) = Unit {0}
  IsForDisk (Clone by of) = Unit {0}
  IsForDisk (Snapshot by old of) = Unit {0}
  IsForDisk (Delete by of name tag) = Unit {0}
  IsForDisk (Lock by of name tag) = Unit {0}
  IsForDisk (Unlock by of old) = Unit {0}

  -- the first entry of a command is decided: what it was granted in the log is the session's, though the node hasn't read of it
  pub record IsAskedSo (entry : Entry) : Type 0 where
    pub first : IsFirstEntry entry
    pub granted : (place : ℕ) → from ≤ place → slice_get log place ≡ Some entry → (vid : Vid)
        → decision_after (take place log) entry ≡ decisions.Granted vid → IsGrantKept (epoch_of (take (place + 1) log)) vid.0 entry
    pub for_disk : IsForDisk entry

  -- the session is to have an inode open, of the name that the id was reserved for
  abbrev pub IsMadeFor : ℕ → Option Content → Type 0
  IsMadeFor vid made = (inode : Content) × (made ≡ Some inode) × IsNamed log vid inode.name

  -- what a work goes on for, whose last entry is this
  abbrev pub IsMakingKept : Vid → Entry → Option Content → Type 0
  IsMakingKept vid (Format members) made = ⊥
  IsMakingKept vid (Join node zone vnodes) made = ⊥
  IsMakingKept vid (Leave node) made = ⊥
  IsMakingKept vid (Reweight node vnodes) made = ⊥
  IsMakingKept vid (Recovered node of) made = ⊥
  IsMakingKept vid (Reserve by of name origin) made = ⊥
  IsMakingKept vid (Publish by of) made = (of ≡ vid) × HasReservation log outbox me session epoch_read vid.0
  IsMakingKept vid (Clone by of) made = (of ≡ vid) × HasReservation log outbox me session epoch_read vid.0
  IsMakingKept vid (Snapshot by old of) made =
      (of ≡ vid) × HasPlace log outbox me session epoch_read vid.0 old.0 × IsMadeFor vid.0 made
  IsMakingKept vid (Delete by of name tag) made = ⊥
  IsMakingKept vid (Lock by of name tag) made = ⊥
  IsMakingKept vid (Unlock by of old) made = ⊥

  -- what a work of a command goes on for is the session's
  abbrev pub IsTaskKept : Vid → Task → Type 0
  IsTaskKept vid (Opening true ids header) = IsGivenNoMore log vid.0
  IsTaskKept vid (Opening false ids header) = HasLock log outbox me session epoch_read vid.0 × IsNamed log vid.0 header.name
  IsTaskKept vid (WritingBack inode) = HasLock log outbox me session epoch_read vid.0 × IsNamed log vid.0 inode.name
  IsTaskKept vid (Tagging old inode) = HasPlace log outbox me session epoch_read vid.0 old.0 × IsNamed log vid.0 inode.name
  IsTaskKept vid (Copying ids header) = HasReservation log outbox me session epoch_read vid.0
  IsTaskKept vid (Making entry made) = IsMakingKept vid entry made

  -- the last entry of a command is to be put: then what it publishes is reserved, and for a snapshot the disk is locked. Where the
  -- snapshot's entry is in the log and not read, the session has the lock of the id that took the disk's place
  pub record IsReplacing (old vid : Vid) (entry : Entry) (made : Option Content) : Type 0 where
    pub to_put : 1 ≤ count_by (is_same_entry entry) outbox → HasPlace log outbox me session epoch_read vid.0 old.0
    pub of_disk : 1 ≤ count_by (is_same_entry entry) outbox → HasLock log outbox me session epoch_read old.0
    pub placed : (place : ℕ) → from ≤ place → slice_get log place ≡ Some entry
        → HasLock log outbox me session (epoch_of (take (place + 1) log)) vid.0
    pub named : IsMadeFor vid.0 made

  abbrev pub IsToPublish : Vid → Entry → Type 0
  IsToPublish vid entry = 1 ≤ count_by (is_same_entry entry) outbox → HasReservation log outbox me session epoch_read vid.0

  abbrev pub IsPublicationKept : Entry → Option Content → Type 0
  IsPublicationKept (Format members) made = ⊥
  IsPublicationKept (Join node zone vnodes) made = ⊥
  IsPublicationKept (Leave node) made = ⊥
  IsPublicationKept (Reweight node vnodes) made = ⊥
  IsPublicationKept (Recovered node of) made = ⊥
  IsPublicationKept (Reserve by of name origin) made = ⊥
  IsPublicationKept (Publish by of) made = IsToPublish of (Publish by of)
  IsPublicationKept (Clone by of) made = IsToPublish of (Clone by of)
  IsPublicationKept (Snapshot by old of) made = IsReplacing old of (Snapshot by old of) made
  IsPublicationKept (Delete by of name tag) made = ⊥
  IsPublicationKept (Lock by of name tag) made = ⊥
  IsPublicationKept (Unlock by of old) made = ⊥

  -- what a command has, by what it waits for
  abbrev pub IsStageKept : OpStage → Type 0
  IsStageKept (Asked entry) = IsAskedSo entry
  IsStageKept (Working vid task) = IsTaskKept vid task
  IsStageKept (Publishing entry made) = IsPublicationKept entry made
  IsStageKept (Answered change) = Unit {0}

-- ---- an open disk

-- a command that waits for this entry gives a disk back, or makes it a snapshot
abbrev pub LetsGoBy : ℕ → Entry → Type 0
LetsGoBy vid (Unlock by of id) = id.0 ≡ vid
LetsGoBy vid (Snapshot by old of) = old.0 ≡ vid
LetsGoBy vid entry = ⊥

abbrev pub LetsGo : ℕ → OpStage → Type 0
LetsGo vid (Asked entry) = LetsGoBy vid entry
LetsGo vid (Working of task) = ⊥
LetsGo vid (Publishing entry made) = LetsGoBy vid entry
LetsGo vid (Answered change) = ⊥

-- the session's command does
pub record IsLetGo (requests : tree.FinMap nat_cmp Request) (session vid : ℕ) : Type 0 where
  pub req : ℕ
  pub request : Request
  pub op : Op
  pub there : tree.get requests req ≡ Some request
  pub of : request.session ≡ session
  pub command : request.course ≡ Commanding op
  pub lets : LetsGo vid op.stage

-- a session's open disk is a snapshot; or it has the name that its inode says, and the session has its lock, or lets it go
abbrev pub IsDiskKept : (log outbox read : List Entry) → NodeId → tree.FinMap nat_cmp Request → ℕ → Bool → Content → Type 0
IsDiskKept log outbox read me requests session true inode = IsGivenNoMore log inode.vid
IsDiskKept log outbox read me requests session false inode =
    IsNamed log inode.vid inode.name × (HasLock log outbox me session (epoch_of read) inode.vid ⊎ IsLetGo requests session inode.vid)

-- a session has an id's lock yet, where its unlock is to be put; the lock was granted in this epoch or before
pub record HasLockYet (log : List Entry) (me : NodeId) (session epoch vid : ℕ) : Type 0 where
  pub held : holder_of (log_effects log) vid ≡ Some (holder_at me session)
  pub since : granted_in log vid ≤ epoch

-- a working disk that is open is locked as long as its unlock is to be put
abbrev pub IsHeldYet : (log outbox read : List Entry) → NodeId → ℕ → Disk → Type 0
IsHeldYet log outbox read me session disk =
    disk.snapshot ≡ false → 1 ≤ count_by (is_same_entry (unlock_of me session disk.inode.vid)) outbox
    → HasLockYet log me session (epoch_of read) disk.inode.vid

-- ---- an unlock that is to be put

-- its session has the id, and the unlock stands there once; or nobody is given the id again
abbrev pub IsUnlockKept : List Entry → NodeId → ℕ → ℕ → ℕ → Type 0
IsUnlockKept log me session vid count =
    IsGivenNoMore log vid ⊎ ((writer_of (log_effects log) vid ≡ Some (holder_at me session)) × (count ≤ 1))

-- ---- a node

pub record HasClaims (log outbox read : List Entry) (from : ℕ) (me : NodeId) (requests : tree.FinMap nat_cmp Request)
    (sessions : tree.FinMap nat_cmp Session) : Type 0 where
  pub unlocked : (session vid : ℕ) → 1 ≤ count_by (is_same_entry (unlock_of me session vid)) outbox
      → IsUnlockKept log me session vid (count_by (is_same_entry (unlock_of me session vid)) outbox)
  pub commands : (req : ℕ) (request : Request) (op : Op) → tree.get requests req ≡ Some request → request.course ≡ Commanding op
      → IsStageKept log outbox read from me request.session (opened_in request.session sessions) op.stage
  pub disks : (session : ℕ) (disk : Disk) → (session_among session sessions).disk ≡ Some disk
      → IsDiskKept log outbox read me requests session disk.snapshot disk.inode
  pub held_yet : (session : ℕ) (disk : Disk) → (session_among session sessions).disk ≡ Some disk → IsHeldYet log outbox read me session disk

-- each node's sessions have what their commands and disks rest on
pub record ClaimsAreKept (log : List Entry) (hosts : Hosts) : Type 0 where
  pub each : EachUp hosts (λ n node.
      HasClaims log node.outbox node.peer.entries (length node.peer.entries) node.me node.requests node.sessions)
