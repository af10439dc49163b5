-- In each run in range, in the middle of a step each entry that a command has read of an inode is one that the inode may come to have, of
-- ids whose inodes were available as the event began, so also of disks that were, and of those that are at its end.
use Rattle.std.proofs.Common.{◌≡◌, ℕ, not, Bool, true, false, List, Some, sym, ap, ◌∙◌, inl}
use Rattle.std.proofs.lemmas.Bool.{and_from}
use Rattle.object_id.specs.declared.entry.Entry.{Entry}
use Rattle.object_id.specs.Oid.{IsVid, inode_number}
use Rattle.cluster_script.specs.declared.statement.Statement.{Statement}
use Rattle.vdi_directory.specs.Dead.{is_dead}
use Rattle.vdi_directory.specs.Decisions.{log_effects}
use Rattle.overlap_law.specs.Attempts.{AttemptRecord}
use Rattle.overlap_law.specs.Fates.{IsCreated}
use Rattle.overlap_law.specs.GoodInodes.{is_available_inode}
use Rattle.overlap_law.specs.Holders.{is_object_among, born_objects, is_live_object, is_good, is_available_disk, is_dead_by_log}
use Rattle.overlap_law.specs.InodesRead.{ReadsAreToCome}
use Rattle.overlap_law.specs.MomentChanges.{MomentTrail, RunsAreInRange, Still, Then}
use Rattle.overlap_law.specs.Overlap.{CallsFewer}
use Rattle.overlap_law.specs.Past.{MomentWithPast, next_moment, run_with_past}
use Rattle.overlap_law.proofs.BornStays.{born_among}
use Rattle.overlap_law.proofs.CarriedRows.{good_at}
use Rattle.overlap_law.proofs.EndTests.{was_good_id}
use Rattle.overlap_law.proofs.GoodDisks.{never_lacked}
use Rattle.overlap_law.proofs.KnownDisks.{vid-of_inode}
use Rattle.overlap_law.proofs.LogsInMoments.{LogGrows, log_grows}
use Rattle.overlap_law.proofs.ReadsToCome.{reads_to_come}
use Rattle.overlap_law.proofs.StayingRows.{alive_before}
use Rattle.overlap_law.proofs.ToldPiecesInRuns.{told_pieces-in_run}
use Rattle.sheep_world.specs.RunsWithAsks.{Move}

-- what isn't dead on the way of an event wasn't as it began
alive_along : (script : List Statement) {start moment : MomentWithPast} → MomentTrail script start moment → (vid : ℕ)
    → is_dead (log_effects moment.world.log) vid ≡ false → is_dead (log_effects start.world.log) vid ≡ false
alive_along script Still vid alive = alive
alive_along script (Then {moment} {next} trail change) vid alive =
    let grows : LogGrows moment.world.log next.world.log = log_grows script change in
    alive_along script trail vid
    (alive_before moment.world.log grows.rest vid (ap (λ (log : List Entry). is_dead (log_effects log) vid) (sym grows.is) ∙ alive))

-- an inode that was created is good, where it was available and its disk isn't dead
inode_good : (log : List Entry) (attempts : List AttemptRecord) (unavailable : List ℕ) (vid epoch : ℕ) → IsVid vid
    → is_available_inode unavailable vid ≡ true → is_dead (log_effects log) vid ≡ false → IsCreated attempts (inode_number vid) epoch
    → is_good log attempts unavailable (inode_number vid) ≡ true
inode_good log attempts unavailable vid epoch is_vid available alive created =
    let oid : ℕ = inode_number vid in
    let lives : is_dead_by_log log oid ≡ false = ap (is_dead (log_effects log)) (vid-of_inode vid is_vid) ∙ alive in
    let born : is_object_among oid (born_objects attempts) ≡ true
    = ap (λ (o : ℕ). is_object_among o (born_objects attempts)) (sym created.object)
    ∙ born_among attempts created.place created.create created.there created.creating in
    and_from (is_live_object log attempts oid) (not (is_object_among oid unavailable))
    (and_from (is_object_among oid (born_objects attempts)) (not (is_dead_by_log log oid)) born (ap not lives))
    available

-- the inode of a disk that was available was
pub inode_was_there : (log : List Entry) (unavailable : List ℕ) (vid : ℕ) → IsVid vid → is_available_disk log unavailable vid ≡ true
    → is_available_inode unavailable vid ≡ true
inode_was_there log unavailable vid is_vid available =
    never_lacked log vid (inode_number vid) unavailable available (inl (vid-of_inode vid is_vid))

module _ (script : List Statement) (range : RunsAreInRange script) (events : List Move) (start before : MomentWithPast)
    (ran : run_with_past script events ≡ Some start) (trail : MomentTrail script start before) where
  -- of inodes that were available as the event began
  pub reads_to_come-of_inodes : (good_id : ℕ → Bool)
      → ((vid : ℕ) → IsVid vid → good_id vid ≡ true → is_available_inode start.past.unavailable vid ≡ true)
      → ReadsAreToCome script good_id start before
  reads_to_come-of_inodes good_id available =
      reads_to_come script range events start before ran trail (good_at start) good_id
      (λ vid epoch is_vid is alive created.
      inode_good start.world.log start.past.attempts start.past.unavailable vid epoch is_vid (available vid is_vid is)
      (alive_along script trail vid alive)
      created) (told_pieces-in_run script range events start ran)

  -- so of disks that were
  pub reads_to_come-in_run : (good_id : ℕ → Bool) → CallsFewer good_id (is_available_disk start.world.log start.past.unavailable)
      → ReadsAreToCome script good_id start before
  reads_to_come-in_run good_id fewer =
      reads_to_come-of_inodes good_id
      (λ vid is_vid is. inode_was_there start.world.log start.past.unavailable vid is_vid (fewer vid is))

  -- so of those that are good at the event's end
  pub reads_to_come-by_the_end : (event : Move) (end : MomentWithPast) → next_moment script event start ≡ Some end
      → ReadsAreToCome script (is_available_disk end.world.log end.past.unavailable) start before
  reads_to_come-by_the_end event end happens =
      reads_to_come-in_run (is_available_disk end.world.log end.past.unavailable) (was_good_id script event start end happens)
