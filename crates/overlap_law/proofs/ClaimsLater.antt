-- What a command and an open disk rest on is so still where the node has read more, and is to know of the log from a later place on.
use Rattle.std.proofs.Common.{inl, inr, ⊎_elim, ℕ, ◌+◌, ◌≤◌, Bool, true, false, List, take, Option, Some, None, arith}
use Rattle.std.specs.Ordering.{nat_cmp}
use Rattle.std.specs.FinMap as tree
use Rattle.object_id.specs.declared.entry.Entry.{Entry}
use Rattle.object_id.specs.declared.entry.Entry.TheVariants.{Format, Join, Leave, Reweight, Recovered, Reserve, Publish, Clone, Snapshot}
use Rattle.object_id.specs.declared.entry.Entry.TheVariants.{Delete, Lock, Unlock}
use Rattle.object_id.specs.declared.entry.Origin.TheVariants.{Fresh, SnapshotOf, CloneOf}
use Rattle.object_id.specs.declared.node.NodeId.{NodeId}
use Rattle.object_id.specs.declared.oid.Vid.{Vid}
use Rattle.epoch_log.specs.Epochs.{epoch_of}
use Rattle.inode.specs.Layout.{Content}
use Rattle.vdi_ops.specs.Op.{Task, Opening, WritingBack, Tagging, Copying, Making, OpStage, Asked, Working, Publishing, Answered}
use Rattle.sheep_node.specs.declared.course.Request.{Request}
use Rattle.sheep_node.specs.declared.session.Session.{Session}
use Rattle.overlap_law.specs.WriterClaims.{HasLock, HasReservation, HasPlace, IsGrantKept, IsForDisk, IsMakingKept, IsTaskKept}
use Rattle.overlap_law.specs.WriterClaims.{IsPublicationKept, IsStageKept, IsLetGo, IsDiskKept, HasClaims}
use Rattle.overlap_law.proofs.KeptIds.{lock_by, reserved_by_then, place_by, yet_by}

module _ (log outbox read later : List Entry) (from next : ℕ) (after : epoch_of read ≤ epoch_of later) (on : from ≤ next)
    (me : NodeId) where
  module _ (session : ℕ) where
    lock_read : (vid : ℕ) → HasLock log outbox me session (epoch_of read) vid → HasLock log outbox me session (epoch_of later) vid
    lock_read vid = lock_by log outbox me session (epoch_of read) vid (epoch_of later) after

    reserved_read : (vid : ℕ) → HasReservation log outbox me session (epoch_of read) vid
        → HasReservation log outbox me session (epoch_of later) vid
    reserved_read vid = reserved_by_then log outbox me session (epoch_of read) vid (epoch_of later) after

    place_read : (vid old : ℕ) → HasPlace log outbox me session (epoch_of read) vid old
        → HasPlace log outbox me session (epoch_of later) vid old
    place_read vid old = place_by log outbox me session (epoch_of read) vid (epoch_of later) after old

    module _ (opened : Option (Bool × ℕ)) where
      -- what was granted speaks of neither
      grant_read : (epoch vid : ℕ) (entry : Entry) → IsGrantKept log outbox read from me session opened epoch vid entry
          → IsGrantKept log outbox later next me session opened epoch vid entry
      grant_read epoch vid (Format members) is = tt
      grant_read epoch vid (Join node zone vnodes) is = tt
      grant_read epoch vid (Leave node) is = tt
      grant_read epoch vid (Reweight node vnodes) is = tt
      grant_read epoch vid (Recovered node of) is = tt
      grant_read epoch vid (Reserve by of name (Fresh spec)) is = is
      grant_read epoch vid (Reserve by of name (SnapshotOf tag)) is = is
      grant_read epoch vid (Reserve by of name (CloneOf base tag)) is = is
      grant_read epoch vid (Publish by of) is = tt
      grant_read epoch vid (Clone by of) is = tt
      grant_read epoch vid (Snapshot by old of) is = tt
      grant_read epoch vid (Delete by of name tag) is = tt
      grant_read epoch vid (Lock by of name None) is = is
      grant_read epoch vid (Lock by of name (Some tag)) is = is
      grant_read epoch vid (Unlock by of old) is = tt

      for_disk_read : (entry : Entry) → IsForDisk log outbox read from me session opened entry
          → IsForDisk log outbox later next me session opened entry
      for_disk_read (Format members) is = tt
      for_disk_read (Join node zone vnodes) is = tt
      for_disk_read (Leave node) is = tt
      for_disk_read (Reweight node vnodes) is = tt
      for_disk_read (Recovered node of) is = tt
      for_disk_read (Reserve by of name (Fresh spec)) is = tt
      for_disk_read (Reserve by of name (SnapshotOf tag)) is = is
      for_disk_read (Reserve by of name (CloneOf base tag)) is = tt
      for_disk_read (Publish by of) is = tt
      for_disk_read (Clone by of) is = tt
      for_disk_read (Snapshot by old of) is = tt
      for_disk_read (Delete by of name tag) is = tt
      for_disk_read (Lock by of name tag) is = tt
      for_disk_read (Unlock by of old) is = tt

      making_read : (vid : Vid) (entry : Entry) (made : Option Content) → IsMakingKept log outbox read from me session opened vid entry made
          → IsMakingKept log outbox later next me session opened vid entry made
      making_read vid (Format members) made is = is
      making_read vid (Join node zone vnodes) made is = is
      making_read vid (Leave node) made is = is
      making_read vid (Reweight node vnodes) made is = is
      making_read vid (Recovered node of) made is = is
      making_read vid (Reserve by of name origin) made is = is
      making_read vid (Publish by of) made is = (is.0, reserved_read vid.0 is.1)
      making_read vid (Clone by of) made is = (is.0, reserved_read vid.0 is.1)
      making_read vid (Snapshot by old of) made is = (is.0, place_read vid.0 old.0 is.1, is.2)
      making_read vid (Delete by of name tag) made is = is
      making_read vid (Lock by of name tag) made is = is
      making_read vid (Unlock by of old) made is = is

      task_read : (vid : Vid) (task : Task) → IsTaskKept log outbox read from me session opened vid task
          → IsTaskKept log outbox later next me session opened vid task
      task_read vid (Opening true ids header) is = is
      task_read vid (Opening false ids header) is = (lock_read vid.0 is.0, is.1)
      task_read vid (WritingBack inode) is = (lock_read vid.0 is.0, is.1)
      task_read vid (Tagging old inode) is = (place_read vid.0 old.0 is.0, is.1)
      task_read vid (Copying ids header) is = reserved_read vid.0 is
      task_read vid (Making entry made) is = making_read vid entry made is

      publication_read : (entry : Entry) (made : Option Content) → IsPublicationKept log outbox read from me session opened entry made
          → IsPublicationKept log outbox later next me session opened entry made
      publication_read (Format members) made is = is
      publication_read (Join node zone vnodes) made is = is
      publication_read (Leave node) made is = is
      publication_read (Reweight node vnodes) made is = is
      publication_read (Recovered node of) made is = is
      publication_read (Reserve by of name origin) made is = is
      publication_read (Publish by of) made is = λ there. reserved_read of.0 (is there)
      publication_read (Clone by of) made is = λ there. reserved_read of.0 (is there)
      publication_read (Snapshot by old of) made is = record {
        to_put = λ there. place_read of.0 old.0 (is.to_put there);
        of_disk = λ there. lock_read old.0 (is.of_disk there);
        placed = λ place behind got. is.placed place (omega (arith, on, behind)) got;
        named = is.named;
      }
      publication_read (Delete by of name tag) made is = is
      publication_read (Lock by of name tag) made is = is
      publication_read (Unlock by of old) made is = is

      stage_read : (stage : OpStage) → IsStageKept log outbox read from me session opened stage
          → IsStageKept log outbox later next me session opened stage
      stage_read (Asked entry) is = record {
        first = is.first;
        granted = λ place behind got vid granted.
            grant_read (epoch_of (take (place + 1) log)) vid.0 entry (is.granted place (omega (arith, on, behind)) got vid granted);
        for_disk = for_disk_read entry is.for_disk;
      }
      stage_read (Working vid task) is = task_read vid task is
      stage_read (Publishing entry made) is = publication_read entry made is
      stage_read (Answered change) is = tt

  disk_read : (requests : tree.FinMap nat_cmp Request) (session : ℕ) (snapshot : Bool) (inode : Content)
      → IsDiskKept log outbox read me requests session snapshot inode → IsDiskKept log outbox later me requests session snapshot inode
  disk_read requests session true inode is = is
  disk_read requests session false inode (named, is) = (
    named,
    ⊎_elim
        (λ (lock : HasLock log outbox me session (epoch_of read) inode.vid). inl (lock_read session inode.vid lock))
        (λ (goes : IsLetGo requests session inode.vid). inr goes) is,
  )

  pub claims_read : (requests : tree.FinMap nat_cmp Request) (sessions : tree.FinMap nat_cmp Session)
      → HasClaims log outbox read from me requests sessions
      → HasClaims log outbox later next me requests sessions
  claims_read requests sessions has = record {
    unlocked = has.unlocked;
    commands = λ req request op there command. stage_read request.session _ op.stage (has.commands req request op there command);
    disks = λ session disk opened. disk_read requests session disk.snapshot disk.inode (has.disks session disk opened);
    held_yet = λ session disk opened working there.
        yet_by log me session (epoch_of read) disk.inode.vid (has.held_yet session disk opened working there) (epoch_of later) after;
  }
