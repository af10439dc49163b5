-- The facts of every run in range: what the groups give, where they hold of the run.
use Rattle.std.proofs.Common.{◌≡◌, ℕ, true, not, List, Some}
use Rattle.std.proofs.lemmas.Bool.{and_parts}
use Rattle.object_id.specs.declared.entry.Entry.{Entry}
use Rattle.cluster_script.specs.declared.statement.Statement.{Statement}
use Rattle.epoch_log.specs.Epochs.{settled_of}
use Rattle.overlap_law.specs.Contents.{RowContents, AttemptsStand}
use Rattle.overlap_law.specs.Facts.{EachGood, HoldersOfTheBase, CompleteLists, LostGatewaysAreFenced, MeetsFacts}
use Rattle.overlap_law.specs.FirstCreates.{CreatesAlwaysComeFirst}
use Rattle.overlap_law.specs.Holders.{targets_by, is_live_object, is_object_among, born_objects, is_dead_by_log}
use Rattle.overlap_law.specs.MomentChanges.{RunsAreInRange, Still}
use Rattle.overlap_law.specs.Attempts.{AttemptRecord}
use Rattle.overlap_law.specs.BornObjects.{IsBorn}
use Rattle.overlap_law.specs.Overlap.{OverlapGivesFacts}
use Rattle.overlap_law.specs.Past.{MomentWithPast, counts, run_with_past}
use Rattle.overlap_law.specs.Tables.{OwnEntriesAreMade}
use Rattle.overlap_law.proofs.CarriedRows.{rows-in_run, searches-in_run}
use Rattle.overlap_law.proofs.ContentsOfRows.{contents}
use Rattle.overlap_law.proofs.EarlyAttempts.{early_in_run}
use Rattle.overlap_law.proofs.FencedGateways.{lost_gateways}
use Rattle.overlap_law.proofs.GoneInRuns.{all_fenced}
use Rattle.overlap_law.proofs.EntriesOfInodes.{entries_named}
use Rattle.overlap_law.proofs.HolderLemmas.{holders, good-live, counted-there, gives-holders}
use Rattle.overlap_law.proofs.KeptByMoves.{IsKeptByMoves, kept_by_moves}
use Rattle.overlap_law.proofs.NoRecoveredDue.{began-with_past}
use Rattle.overlap_law.proofs.OverlapLemmas.{complete_lists, gives-complete}
use Rattle.overlap_law.proofs.TablesOfRuns.{copies-in_run}
use Rattle.overlap_law.proofs.StandingAttempts.{stand, gives-stand}
use Rattle.sheep_world.specs.RunsWithAsks.{Move}

-- what is live was born
live-born : (log : List Entry) (attempts : List AttemptRecord) (oid : ℕ) → is_live_object log attempts oid ≡ true → IsBorn attempts oid
live-born log attempts oid is = (and_parts (is_object_among oid (born_objects attempts)) (not (is_dead_by_log log oid)) is).0

module _ (script : List Statement) (range : RunsAreInRange script) (events : List Move) (moment : MomentWithPast)
    (is : run_with_past script events ≡ Some moment) where
  of_run : IsKeptByMoves script moment
  of_run = kept_by_moves script range events moment is

  pub gateways-in_run : LostGatewaysAreFenced moment.world.log moment.world.hosts moment.world.wire moment.past.attempts
  gateways-in_run =
      lost_gateways of_run.tied of_run.wire.from_past of_run.wire.fenced
      (all_fenced script range moment.world (began-with_past script events moment is)) of_run.writers.one_writer
      (early_in_run script range events moment is)

  module _ (first : CreatesAlwaysComeFirst script) where
    pub contents-in_run : EachGood moment.world moment.past (RowContents moment.world.hosts)
    contents-in_run =
        let rows = rows-in_run script range first events moment is in
        contents of_run.tied.fates of_run.shaped.shape of_run.whole of_run.ordered
        (first events moment moment is Still) rows.ends rows.placed
        rows.since

    pub stand-in_run : EachGood moment.world moment.past (AttemptsStand moment.world.hosts)
    stand-in_run = stand of_run.shaped.shape (rows-in_run script range first events moment is).since

    pub holders-in_run : EachGood moment.world moment.past (HoldersOfTheBase (targets_by moment.world.log)
        (counts moment.past.ended moment.world) (settled_of moment.world.log) moment.world.hosts)
    holders-in_run =
        let rows = rows-in_run script range first events moment is in
        holders
        (good-live moment.world.log moment.past.attempts moment.past.unavailable)
        of_run.tied.fates of_run.shaped.shape of_run.shaped.known of_run.epochs rows.stays rows.kept
        (counts moment.past.ended moment.world) (counted-there moment.past.ended moment.world)

    pub lists-in_run : EachGood moment.world moment.past (CompleteLists moment.past.listed moment.world.hosts)
    lists-in_run = complete_lists (searches-in_run script range first events moment is).complete

    -- all six, where own entries stand for what was made
    pub facts-in_run : OwnEntriesAreMade (is_live_object moment.world.log moment.past.attempts) moment.past.attempts
        → MeetsFacts moment.world moment.past
    facts-in_run own =
        let rows = rows-in_run script range first events moment is in
        record {
          row_contents = contents-in_run;
          attempts_stand = stand-in_run;
          holders = holders-in_run;
          lists = lists-in_run;
          fenced = gateways-in_run;
          entries = entries_named (good-live moment.world.log moment.past.attempts moment.past.unavailable)
              (live-born moment.world.log moment.past.attempts) of_run.tied.fates of_run.shaped.shape rows.ends rows.row_shape rows.placed
              rows.of_attempts rows.since own;
          tables = copies-in_run script range events moment is;
        }

-- and by the invariant
pub facts-by_overlap : (script : List Statement) → OverlapGivesFacts script
facts-by_overlap script range events moment is o = record {
  facts = record {
    row_contents = contents o.attempts.fates o.attempts.shape o.attempts.units o.attempts.ordered o.attempts.create_first o.rows.ends
        o.rows.placed o.rows.since;
    attempts_stand = gives-stand moment o;
    holders = gives-holders moment o;
    lists = gives-complete moment o;
    fenced = gateways-in_run script range events moment is;
    entries = entries_named (good-live moment.world.log moment.past.attempts moment.past.unavailable)
        (live-born moment.world.log moment.past.attempts) o.attempts.fates o.attempts.shape o.rows.ends o.rows.row_shape o.rows.placed
        o.rows.of_attempts o.rows.since o.tables.own;
    tables = copies-in_run script range events moment is;
  };
  legal = o.legal;
}
