-- What always holds of a command, what its calls ask for, and which of them take memory.
use Rattle.std.specs.Prelude.{◌≡◌, ◌⊎◌, Bool, true, false, [], length, All, Option, Some, None, IfSome, IsTrue, is_some}
use Rattle.object_id.specs.Oid.{IsVid}
use Rattle.object_id.specs.Spec.{IsName, IsSpec, objects_of}
use Rattle.object_id.specs.declared.oid.Vid.{Vid}
use Rattle.object_id.specs.declared.entry.Origin.{Origin}
use Rattle.object_id.specs.declared.entry.Origin.TheVariants.{Fresh, SnapshotOf, CloneOf}
use Rattle.object_id.specs.declared.entry.Entry.{Entry}
use Rattle.object_id.specs.declared.entry.Entry.TheVariants as entries
use Rattle.inode.specs.Layout.{Content, IsFieldText, HasIds}
use Rattle.peer_proto.specs.declared.guest.VdiAsk.{VdiAsk}
use Rattle.peer_proto.specs.declared.guest.VdiAsk.TheVariants.{Create, Attach, Close, Snapshot, Clone, Delete, Check}
use Rattle.vdi_directory.specs.declared.header.Header.{Header}
use Rattle.vdi_directory.specs.declared.decision.Decision.{Decision}
use Rattle.vdi_directory.specs.declared.decision.Decision.TheVariants as decisions
use Rattle.vdi_ops.specs.Op.{Task, Opening, WritingBack, Tagging, Copying, Making, DiskChange, Stays, Opens, Closes}
use Rattle.vdi_ops.specs.Op.{OpStage, Asked, Working, Publishing, Answered, Op}

-- a header that an inode can have
pub record IsInodeHeader (header : Header) : Type 0 where
  pub name : IsName header.name
  pub tag : (header.tag ≡ []) ⊎ IsName header.tag
  pub spec : IsSpec header.spec

-- an inode that can be created: its id is one, its texts end inside their fields, and each object of its valid spec has an entry
pub record IsWholeInode (inode : Content) : Type 0 where
  pub vid : IsVid inode.vid
  pub name : IsFieldText inode.name
  pub tag : IsFieldText inode.tag
  pub spec : IsSpec inode.spec
  pub count : length inode.table ≡ objects_of inode.spec

-- the tag that a disk is to have as a snapshot is one
abbrev pub OriginHasTag : Origin → Type 0
OriginHasTag (Fresh spec) = Unit {0}
OriginHasTag (SnapshotOf tag) = IsName tag
OriginHasTag (CloneOf base tag) = Unit {0}

abbrev pub EntryHasTag : Entry → Type 0
EntryHasTag (entries.Reserve by session name origin) = OriginHasTag origin
EntryHasTag _ = Unit {0}

-- the works of a task, and those that come after it, are on ids; its header is one of an inode, and the inode that it is to create
-- can be created; what the session then has open has a table of ids, as the entries that count in an opened inode are ids
abbrev pub IsSoundTask : Vid → Task → Type 0
IsSoundTask vid (Opening snapshot ids header) = IsVid vid.0 × IsInodeHeader header × All IsVid ids
IsSoundTask vid (WritingBack inode) = HasIds inode
IsSoundTask vid (Tagging old inode) = IsWholeInode inode × HasIds inode
IsSoundTask vid (Copying ids header) = IsVid vid.0 × IsInodeHeader header
IsSoundTask vid (Making entry opened) = IfSome opened HasIds

-- what a change opens has a table of ids
abbrev pub OpensInodeWithIds : DiskChange → Type 0
OpensInodeWithIds Stays = Unit {0}
OpensInodeWithIds (Opens snapshot inode) = HasIds inode
OpensInodeWithIds Closes = Unit {0}

-- what a command waits for leads to works that a gateway takes, and to an open inode with a table of ids, if to any
abbrev pub IsSoundOpStage : OpStage → Type 0
IsSoundOpStage (Asked entry) = EntryHasTag entry
IsSoundOpStage (Working vid task) = IsSoundTask vid task
IsSoundOpStage (Publishing entry opened) = IfSome opened HasIds
IsSoundOpStage (Answered change) = OpensInodeWithIds change

-- a command has a first entry: it isn't a check, if it is about the open disk there is one, and a snapshot's tag is such as there may be
abbrev pub HasFirstEntry : Option Content → VdiAsk → Type 0
HasFirstEntry disk (Create name spec) = Unit {0}
HasFirstEntry disk (Attach name tag) = Unit {0}
HasFirstEntry disk Close = IsTrue (is_some disk)
HasFirstEntry disk (Snapshot tag) = IsTrue (is_some disk) × IsName tag
HasFirstEntry disk (Clone base tag name) = Unit {0}
HasFirstEntry disk (Delete name tag) = Unit {0}
HasFirstEntry disk Check = ⊥

-- an entry that gives an id back
abbrev pub gives_back : Entry → Bool
gives_back (entries.Unlock by session vid) = true
gives_back _ = false

-- the open disk, if this reservation is for a snapshot, is one that the granted header can follow
abbrev pub FitsOrigin : Header → Content → Origin → Type 0
FitsOrigin header inode (Fresh spec) = Unit {0}
FitsOrigin header inode (SnapshotOf tag) = HasIds inode × (header.spec ≡ inode.spec)
FitsOrigin header inode (CloneOf base tag) = Unit {0}

abbrev pub FitsEntry : Header → Content → Entry → Type 0
FitsEntry header inode (entries.Reserve by session name origin) = FitsOrigin header inode origin
FitsEntry header inode _ = Unit {0}

-- the open disk has a table of ids, and the spec of the header that was granted to its snapshot's command
abbrev pub FitsOpStage : Option Header → Option Content → OpStage → Type 0
FitsOpStage header disk (Asked entry) = IfSome header (λ header. IfSome disk (λ inode. FitsEntry header inode entry))
FitsOpStage header disk (Working vid task) = Unit {0}
FitsOpStage header disk (Publishing entry opened) = Unit {0}
FitsOpStage header disk (Answered change) = Unit {0}

-- the id that a decision grants
abbrev pub vid_granted : Decision → Option Vid
vid_granted decisions.None = None
vid_granted (decisions.Granted vid) = Some vid
vid_granted (decisions.Refused cause) = None

-- whether going on after a grant takes memory: a close and a delete are over then
abbrev pub grant_takes_memory : Entry → Bool
grant_takes_memory (entries.Unlock by session vid) = false
grant_takes_memory (entries.Delete by session name tag) = false
grant_takes_memory _ = true

-- whether going on after this decision takes memory
abbrev pub first_takes_memory : Decision → Entry → Bool
first_takes_memory decisions.None entry = false
first_takes_memory (decisions.Granted vid) entry = grant_takes_memory entry
first_takes_memory (decisions.Refused cause) entry = false

abbrev pub decision_takes_memory : Decision → OpStage → Bool
decision_takes_memory decision (Asked entry) = first_takes_memory decision entry
decision_takes_memory decision (Working vid task) = false
decision_takes_memory decision (Publishing entry opened) = false
decision_takes_memory decision (Answered change) = false

-- whether going on after a task's work takes memory: once the inode is written there is only the reply or the last entry
abbrev pub task_takes_memory : Task → Bool
task_takes_memory (Opening snapshot ids header) = true
task_takes_memory (WritingBack inode) = false
task_takes_memory (Tagging old inode) = true
task_takes_memory (Copying ids header) = true
task_takes_memory (Making entry opened) = false

abbrev pub stage_takes_memory : OpStage → Bool
stage_takes_memory (Asked entry) = false
stage_takes_memory (Working vid task) = task_takes_memory task
stage_takes_memory (Publishing entry opened) = false
stage_takes_memory (Answered change) = false

-- the inode that a session has open by a change
abbrev pub inode_opened : DiskChange → Option Content
inode_opened Stays = None
inode_opened (Opens snapshot inode) = Some inode
inode_opened Closes = None

-- whether a change opens a snapshot
abbrev pub opens_snapshot : DiskChange → Bool
opens_snapshot Stays = false
opens_snapshot (Opens snapshot inode) = snapshot
opens_snapshot Closes = false

-- whether a change leaves nothing open
abbrev pub closes : DiskChange → Bool
closes Stays = false
closes (Opens snapshot inode) = false
closes Closes = true
