-- What a check leaves of the blocks that it wrote, by the history: each has one value, until a write of it begins.
use Rattle.std.specs.Prelude.{◌≡◌, ◌⊎◌, ℕ, ◌+◌, ◌*◌, ◌/◌, ◌<◌, ◌==◌, ◌&&◌, ◌||◌, Bool, true, false, List, [], ◌∷◌, ◌++◌, Contains}
use Rattle.std.specs.Prelude.{Option, Some}
use Rattle.std.specs.Option.{option_and_then}
use Rattle.std.specs.FinMap as tree
use Rattle.std.specs.Str.{bytes_eq}
use Rattle.object_id.specs.declared.limits.TheConstants.{BLOCK_BYTES}
use Rattle.cluster_script.specs.declared.statement.Statement.{Statement}
use Rattle.cluster_script.specs.declared.statement.Statement.TheVariants as lines
use Rattle.cluster_script.specs.NumberedRequests.{request_at}
use Rattle.cluster_script.specs.Sessions.{ScriptSession, session_numbered}
use Rattle.disk_history.specs.declared.event.HistEvent.{HistEvent}
use Rattle.disk_history.specs.declared.event.HistEvent.TheVariants.{Create, Copy, Delete, WriteStart, WriteDone, WriteRefused, WriterLost}
use Rattle.disk_history.specs.declared.event.HistEvent.TheVariants.{Read}
use Rattle.disk_history.specs.Ledger.{Acknowledged, Item, Ledger}
use Rattle.disk_history.specs.Ledger as histories
use Rattle.disk_history.specs.Legal.{is_torn, may_read}
use Rattle.disk_check.specs.Check.{Check}
use Rattle.disk_check.specs.Table.{own_indexes}
use Rattle.peer_proto.specs.declared.guest.GuestRsp.{GuestRsp}
use Rattle.guest_driver.specs.declared.disk.Disk.{Disk}
use Rattle.sheep_node.specs.declared.event.Event.{Event}
use Rattle.sheep_world.specs.Effects.{open_disk_at}
use Rattle.sheep_world.specs.HistoryAdditions.{disk_of}
use Rattle.sheep_world.specs.RunsWithAsks.{Move, event_of_move}
use Rattle.sheep_world.specs.Step.{EventOutcome}
use Rattle.sheep_world.specs.World.{Host, World}
use Rattle.overlap_law.specs.Checks.{HasBlock, IsCheckOn}
use Rattle.overlap_law.specs.Headline.{ledger_of}
use Rattle.overlap_law.specs.Past.{MomentWithPast}
use Rattle.overlap_law.specs.PastWords.{is_refusal}
use Rattle.overlap_law.specs.DoneOnDisks.{world_without_reply}
use Rattle.overlap_law.specs.WrittenBlocks.{blocks_per_object}

-- the last write of a block of a disk is a request's, with these bytes, and was acknowledged; the request has ended. So the block isn't
-- torn, and unless the disk is deleted no other bytes may be read of it
pub record HasOneValue (ledger : Ledger) (vid block req : ℕ) (bytes : List ℕ) : Type 0 where
  pub disk : histories.Disk
  pub there : ledger.disks vid ≡ Some disk
  pub within : block < disk.blocks
  pub earlier : List Item
  pub item : Item
  pub last : disk.items block ≡ earlier ++ item ∷ []
  pub of : item.request ≡ Some req
  pub same : item.bytes ≡ bytes
  pub acknowledged : item.mark ≡ Acknowledged
  pub ended : (ledger.requests req).ended ≡ true
  pub whole : is_torn (disk.items block) ≡ false
  pub only : (read : List ℕ) → may_read (ledger.disks vid) block read ≡ (disk.deleted || bytes_eq bytes read)

-- a move replies to a check that a node has under way, on the disk that the check's session has open, and doesn't refuse it
pub record RepliesToCheck (before after : MomentWithPast) (req : ℕ) (opened : Disk) (disk : histories.Disk) : Type 0 where
  pub n : ℕ
  pub host : Host
  pub there : tree.get before.world.hosts n ≡ Some host
  pub up : host.is_lost ≡ false
  pub check : Check
  pub on : IsCheckOn (ledger_of before.past.history) host.node req check opened disk
  pub reply : GuestRsp
  pub among : Contains after.world.outputs.replies (req, reply)
  pub accepts : is_refusal reply ≡ false

-- each check that a move replies to and doesn't refuse leaves each block that the disk has in its own objects with one value
abbrev pub ChecksLeaveOneValue : MomentWithPast → MomentWithPast → Type 0
ChecksLeaveOneValue before after = (req : ℕ) (opened : Disk) (disk : histories.Disk) → RepliesToCheck before after req opened disk
    → (index unit : ℕ) → Contains (own_indexes opened.inode) index → HasBlock disk opened.inode.spec index unit
    → (bytes : List ℕ) × HasOneValue (ledger_of after.past.history) opened.inode.vid
    (index * blocks_per_object opened.inode.spec + unit) req bytes

-- the disk that a session of the script has open at its node
abbrev pub disk_open_by : List Statement → ℕ → World → Option Disk
disk_open_by script session world =
    option_and_then (λ (of : ScriptSession). open_disk_at of world) (session_numbered script session)

-- the replies of a world have one to a check that a session of the script asks for, which isn't a refusal
pub record HasReplyToCheck (script : List Statement) (world : World) (req session : ℕ) : Type 0 where
  pub asked : request_at script req ≡ Some (lines.Check session)
  pub reply : GuestRsp
  pub among : Contains world.outputs.replies (req, reply)
  pub no_refusal : is_refusal reply ≡ false

-- the disk that the session of a check has open as an event comes that replies to it, on which the check began
pub record IsOnDiskOpen (script : List Statement) (event : Event) (world : World) (req session : ℕ) (opened : Disk) : Type 0 where
  pub open_so : disk_open_by script session world ≡ Some opened
  pub began : disk_of script req (world_without_reply script event world) ≡ Some opened.inode.vid

-- a check that a move replies to is under way before it, on this disk, unless the disk has no own objects
pub record IsOfCheckUnderWay (script : List Statement) (move : Move) (before after : MomentWithPast) (req session : ℕ) : Type 0 where
  pub opened : Disk
  pub on : IsOnDiskOpen script (event_of_move move) before.world req session opened
  pub under_way : ((disk : histories.Disk) × RepliesToCheck before after req opened disk) ⊎ (own_indexes opened.inode ≡ [])

-- by the history behind the event each block of this disk that is in its own objects, by the table that the session has, has one value
pub record LeavesOneValue (script : List Statement) (event : Event) (world : World) (history : List HistEvent) (req session : ℕ)
    : Type 0 where
  pub opened : Disk
  pub on : IsOnDiskOpen script event world req session opened
  pub each : (block : ℕ) → block < opened.inode.spec.size / BLOCK_BYTES
      → Contains (own_indexes opened.inode) (block / blocks_per_object opened.inode.spec)
      → (bytes : List ℕ) × HasOneValue (ledger_of history) opened.inode.vid block req bytes

-- so does each check of the script that an event replies to, and doesn't refuse, behind this history
abbrev pub EachCheckLeavesOneValue : List Statement → Event → World → List HistEvent → EventOutcome → Type 0
EachCheckLeavesOneValue script event world history made = (req session : ℕ) → HasReplyToCheck script made.world req session
    → LeavesOneValue script event world (history ++ made.grown) req session

-- whether an event begins a write of a block of a disk
abbrev pub begins_on_block : ℕ → ℕ → HistEvent → Bool
begins_on_block vid block (Create disk blocks) = false
begins_on_block vid block (Copy old new) = false
begins_on_block vid block (Delete disk) = false
begins_on_block vid block (WriteStart req disk at coded bytes) = vid == disk && block == at
begins_on_block vid block (WriteDone req) = false
begins_on_block vid block (WriteRefused req) = false
begins_on_block vid block (WriterLost req) = false
begins_on_block vid block (Read disk at bytes) = false
