-- The group of inodes and tables, of each moment that a run in range leads to.
use Rattle.std.proofs.Common.{◌≡◌, List, Some}
use Rattle.vdi_directory.specs.Decisions.{log_effects}
use Rattle.cluster_script.specs.declared.statement.Statement.{Statement}
use Rattle.overlap_law.specs.Groups.{TablesAreKept}
use Rattle.overlap_law.specs.Holders.{is_live_object}
use Rattle.overlap_law.specs.MomentChanges.{RunsAreInRange, Still}
use Rattle.overlap_law.specs.Past.{MomentWithPast, run_with_past}
use Rattle.overlap_law.specs.Tables.{every_id, TablesAreTheInodes, SnapshotsAreFrozen}
use Rattle.overlap_law.specs.TiedAttempts.{IsTied}
use Rattle.overlap_law.proofs.CarriedInodes.{inodes-in_run}
use Rattle.overlap_law.proofs.CarriedTables.{good_id_at, tables-in_run, inodes_where}
use Rattle.overlap_law.proofs.CreatedInodes.{frozen_by}
use Rattle.overlap_law.proofs.LogsReservable.{LogIsReservable, kept_reservable}
use Rattle.overlap_law.proofs.MakingInRuns.{own_entries-in_run, tables_of_chain-on_the_way}
use Rattle.overlap_law.proofs.PublishedInRuns.{published-on_the_way}
use Rattle.overlap_law.proofs.PublishedInodes.{published_made}
use Rattle.overlap_law.proofs.RunsByChanges.{on_the_way}
use Rattle.overlap_law.proofs.SnappedFrozen.{snapshots_frozen}
use Rattle.overlap_law.proofs.SnapshotInodes.{open_inodes}
use Rattle.overlap_law.proofs.TablesByComing.{tables_by}
use Rattle.overlap_law.proofs.TiedInRuns.{kept_tied}
use Rattle.overlap_law.proofs.WholeInRuns.{whole-on_the_way}
use Rattle.sheep_world.specs.RunsWithAsks.{Move}

module _ (script : List Statement) (range : RunsAreInRange script) (events : List Move) (moment : MomentWithPast)
    (is : run_with_past script events ≡ Some moment) where
  pub table-in_run : TablesAreTheInodes (log_effects moment.world.log) (good_id_at moment) moment.world.hosts moment.past.attempts
  table-in_run =
      tables_by script range events moment is (good_id_at moment) (open_inodes script range events moment is)
      (inodes-in_run script range events moment is).tables

  pub frozen-in_run : SnapshotsAreFrozen (log_effects moment.world.log) (good_id_at moment) moment.past.attempts
  frozen-in_run =
      frozen_by moment.world.log (on_the_way script LogIsReservable (kept_reservable script range) events moment moment is Still).all
      moment.world.hosts moment.past.attempts (whole-on_the_way script range events moment moment is Still)
      (on_the_way script IsTied (kept_tied script range) events moment moment is Still).fates.whole (good_id_at moment)
      (published_made moment.world.log (good_id_at moment) moment.past.attempts
      (published-on_the_way script range events moment moment is Still))
      (snapshots_frozen moment.world.log (good_id_at moment) moment.world.hosts moment.past.attempts
      (inodes-in_run script range events moment is).frozen)

  pub tables_kept : TablesAreKept moment.world.log (log_effects moment.world.log) (is_live_object moment.world.log moment.past.attempts)
      (good_id_at moment) moment.world.hosts moment.past.attempts
  tables_kept = record {
    entries = (inodes_where (is_live_object moment.world.log moment.past.attempts) (good_id_at moment) moment
        (tables-in_run script range events moment is).inodes).entries;
    own = own_entries-in_run script range events moment is (is_live_object moment.world.log moment.past.attempts);
    chains = tables_of_chain-on_the_way script range events moment moment is Still;
    published = published_made moment.world.log every_id moment.past.attempts
        (published-on_the_way script range events moment moment is Still);
    table = table-in_run;
    frozen = frozen-in_run;
    table_made = (tables-in_run script range events moment is).tables.tables;
  }
