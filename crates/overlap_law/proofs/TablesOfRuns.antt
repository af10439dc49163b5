-- In each run in range, while a session has a disk open whose inode is live and was available so far, each copy of the inode that reaches
-- an entry's own base has the session's entry, or the own id while that is being written.
use Rattle.std.proofs.Common.{◌≡◌, ℕ, not, true, false, List, Some, sym, ap, ◌∙◌}
use Rattle.std.proofs.lemmas.Bool.{and_parts}
use Rattle.object_id.specs.Oid.{IsVid, inode_number}
use Rattle.vdi_directory.specs.Dead.{is_dead}
use Rattle.vdi_directory.specs.Decisions.{log_effects}
use Rattle.cluster_script.specs.declared.statement.Statement.{Statement}
use Rattle.overlap_law.specs.Facts.{CopiesHaveTheTable}
use Rattle.overlap_law.specs.GoodInodes.{is_available_inode}
use Rattle.overlap_law.specs.Holders.{is_live_object, is_object_among, IsGood}
use Rattle.overlap_law.specs.MomentChanges.{RunsAreInRange}
use Rattle.overlap_law.specs.Past.{MomentWithPast, run_with_past}
use Rattle.overlap_law.proofs.CarriedInodes.{good_inodes-in_run}
use Rattle.overlap_law.proofs.CarriedRows.{rows-in_run}
use Rattle.overlap_law.proofs.HolderLemmas.{good-live}
use Rattle.overlap_law.proofs.KeptByMoves.{IsKeptByMoves, kept_by_moves}
use Rattle.overlap_law.proofs.KnownDisks.{vid-of_inode}
use Rattle.overlap_law.proofs.MakingInRuns.{creates_first-in_run}
use Rattle.overlap_law.proofs.StayingRows.{not_dead}
use Rattle.overlap_law.proofs.TablesOfCopies.{copies_have_table}
use Rattle.sheep_world.specs.RunsWithAsks.{Move}

module _ (script : List Statement) (range : RunsAreInRange script) (events : List Move) (moment : MomentWithPast)
    (is : run_with_past script events ≡ Some moment) (vid : ℕ) (id : IsVid vid)
    (good : IsGood moment.world.log moment.past.attempts moment.past.unavailable (inode_number vid)) where
  alive : is_dead (log_effects moment.world.log) vid ≡ false
  alive =
      ap (is_dead (log_effects moment.world.log)) (sym (vid-of_inode vid id))
      ∙ not_dead moment.world.log moment.past.attempts (inode_number vid)
      (good-live moment.world.log moment.past.attempts moment.past.unavailable (inode_number vid) good)

  available : is_available_inode moment.past.unavailable vid ≡ true
  available = (and_parts (is_live_object moment.world.log moment.past.attempts (inode_number vid))
      (not (is_object_among (inode_number vid) moment.past.unavailable)) good).1

  pub copies-in_run : CopiesHaveTheTable (log_effects moment.world.log) moment.world.hosts vid moment.past.attempts
  copies-in_run =
      let of_run : IsKeptByMoves script moment = kept_by_moves script range events moment is in
      let rows = rows-in_run script range (creates_first-in_run script range) events moment is in
      copies_have_table of_run.tied.fates of_run.shaped.shape rows.ends rows.placed rows.since
      (good_inodes-in_run script range events moment is).tables vid id good available alive
