-- What has to hold where a write is done, so that what reads were told stays as it may be read: it has no item in a block that an open read
-- was told, nor in one that was told since the event began.
use Rattle.std.specs.Prelude.{◌≡◌, ◌≢◌, ℕ, ◌+◌, ◌*◌, ◌<◌, ◌≤◌, ◌++◌, Bool, true, false, Contains, List, Some}
use Rattle.std.specs.List.{list_any}
use Rattle.std.specs.FinMap as tree
use Rattle.cluster_script.specs.declared.statement.Statement.{Statement}
use Rattle.disk_history.specs.declared.event.HistEvent.{HistEvent}
use Rattle.disk_history.specs.declared.event.HistEvent.TheVariants.{Read}
use Rattle.disk_history.specs.Changes.{items_in}
use Rattle.disk_history.specs.Ledger.{Ledger, is_item_of}
use Rattle.peer_proto.specs.declared.guest.DiskAsk.TheVariants as disk_asks
use Rattle.peer_proto.specs.declared.guest.GuestRsp.{GuestRsp}
use Rattle.guest_driver.specs.declared.disk.Disk.{Disk}
use Rattle.guest_driver.specs.Driver.{Reads}
use Rattle.guest_driver.specs.Extent.{first_index_of}
use Rattle.guest_driver.specs.Pieces.{Piece}
use Rattle.sheep_node.specs.declared.ask.Ask.TheVariants as asks
use Rattle.sheep_node.specs.declared.check_write.CheckWrite.{CheckWrite}
use Rattle.sheep_node.specs.declared.course.Course.TheVariants.{Driving}
use Rattle.sheep_node.specs.declared.course.Request.{Request}
use Rattle.sheep_node.specs.State.{session_at}
use Rattle.sheep_node.specs.StepState.{StepState}
use Rattle.sheep_world.specs.HistoryAdditions.{check_write_grown}
use Rattle.sheep_world.specs.World.{Host}
use Rattle.sheep_world.specs.RunsWithAsks.{Move}
use Rattle.overlap_law.specs.DiskEvents.{ends_write_of}
use Rattle.overlap_law.specs.Headline.{ledger_of}
use Rattle.overlap_law.specs.HistoryGrowth.{added_by_reply, check_write_at}
use Rattle.overlap_law.specs.Holders.{is_available_disk}
use Rattle.overlap_law.specs.Past.{MomentWithPast, run_with_past}
use Rattle.overlap_law.specs.PastWords.{is_refusal}
use Rattle.overlap_law.specs.StandingReads.{asked_in}
use Rattle.overlap_law.specs.StepMoments.{SteppingNode, IsStepping, StepsByChanges, IsWithinStep, moment_in_step}
use Rattle.overlap_law.specs.ToldReads.{WhatIsToldMayBeRead, extent_on}
use Rattle.overlap_law.specs.WrittenBlocks.{blocks_per_object}

-- a request has no item in a block of a disk
abbrev pub HasNoItemIn : Ledger → ℕ → ℕ → ℕ → Type 0
HasNoItemIn ledger req vid block = list_any (is_item_of req) (items_in (ledger.disks vid) block) ≡ false

-- nor in any that an open read was told, or that was told since the event began
pub record IsApartFromReads (script : List Statement) (start before after : MomentWithPast) (req : ℕ) : Type 0 where
  pub standing : (n : ℕ) (host : Host) → tree.get after.world.hosts n ≡ Some host → host.is_lost ≡ false
      → (reads offset size : ℕ) (request : Request) (told : List ℕ) (piece : Piece) (rest : List Piece) (disk : Disk)
      → tree.get host.node.requests reads ≡ Some request → request.course ≡ Driving (Reads told piece rest)
      → asked_in script reads ≡ Some (asks.Disk (disk_asks.Read offset size))
      → (session_at request.session host.node).disk ≡ Some disk
      → (index unit : ℕ) → first_index_of (extent_on disk.inode offset size) ≤ index → index < piece.index
      → unit < blocks_per_object disk.inode.spec
      → HasNoItemIn (ledger_of before.past.history) req disk.inode.vid (index * blocks_per_object disk.inode.spec + unit)
  pub told : (grown : List HistEvent) → before.past.history ≡ start.past.history ++ grown → (vid block : ℕ) (bytes : List ℕ)
      → Contains grown (Read vid block bytes) → HasNoItemIn (ledger_of before.past.history) req vid block

-- so it is of each write that is done between two moments, in the middle of whatever step of an event
pub record DoneWritesAreApart (script : List Statement) (start before after : MomentWithPast) : Type 0 where
  pub each : (stepping : SteppingNode) (so_far next : StepState) → IsStepping script start.world stepping
      → StepsByChanges stepping.cause → IsWithinStep stepping so_far next → before ≡ moment_in_step script stepping start so_far
      → after ≡ moment_in_step script stepping start next → (reply : ℕ × GuestRsp) → Contains next.outputs.replies reply
      → ((one : ℕ × GuestRsp) → Contains so_far.outputs.replies one → one.0 ≢ reply.0) → is_refusal reply.1 ≡ false
      → list_any (ends_write_of reply.0) (added_by_reply script start.world stepping.cause reply) ≡ true
      → IsApartFromReads script start before after reply.0

-- what a check reads of an object, as it comes to the write of its value by a reply, may be read of each block that the disk has, of disks
-- that were available as the event began
pub record ChecksReadWhatMayBeRead (script : List Statement) : Type 0 where
  pub each : (moves : List Move) (start : MomentWithPast) (stepping : SteppingNode) (write : CheckWrite)
      → run_with_past script moves ≡ Some start → IsStepping script start.world stepping
      → check_write_at start.world stepping.cause ≡ Some write
      → WhatIsToldMayBeRead (is_available_disk start.world.log start.past.unavailable) (ledger_of start.past.history)
      (check_write_grown script write)
