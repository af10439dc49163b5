-- What is carried of tables and inodes over events holds at each moment on the way of one by whatever test for good ids calls no id good
-- that wasn't available as the event began, if what is above an id that it calls good is good by it then.
use Rattle.std.proofs.Common.{◌≡◌, ℕ, Bool, List, Some, refl, sym, subst}
use Rattle.object_id.specs.declared.entry.Entry.{Entry}
use Rattle.vdi_directory.specs.Decisions.{log_effects}
use Rattle.cluster_script.specs.declared.statement.Statement.{Statement}
use Rattle.overlap_law.specs.Holders.{is_available_disk}
use Rattle.overlap_law.specs.MomentChanges.{MomentTrail, TrailLeft, RunsAreInRange, Still, Then, Next}
use Rattle.overlap_law.specs.NamedWorks.{AboveIsGood}
use Rattle.overlap_law.specs.Overlap.{CallsFewer}
use Rattle.overlap_law.specs.Past.{MomentWithPast, run_with_past}
use Rattle.overlap_law.proofs.CarriedInodes.{HasInodes, fewer_inodes, inodes-in_run}
use Rattle.overlap_law.proofs.CarriedTables.{CarriesTables, fewer_tables, good_id_at, tables-in_run}
use Rattle.overlap_law.proofs.LogsOfMoments.{log_before}
use Rattle.overlap_law.proofs.EntriesReadKept.{entries_kept}
use Rattle.overlap_law.proofs.MadeTables.{tables_stay_made}
use Rattle.overlap_law.proofs.MakingInRuns.{each_object}
use Rattle.overlap_law.proofs.NamesKept.{names_kept, names_of_fewer}
use Rattle.overlap_law.proofs.OpenedWorks.{inodes_kept}
use Rattle.overlap_law.proofs.ReadsToComeInRuns.{reads_to_come-in_run}
use Rattle.sheep_world.specs.RunsWithAsks.{Move}

-- what is left of an event from its beginning on
pub left_from : (script : List Statement) {start moment end : MomentWithPast} → MomentTrail script start moment
    → TrailLeft script start moment end → TrailLeft script start start end
left_from script Still left = left
left_from script (Then trail change) left = left_from script trail (Next change left)

module _ (script : List Statement) (range : RunsAreInRange script) (events : List Move) (start : MomentWithPast)
    (run : run_with_past script events ≡ Some start) (good_id : ℕ → Bool)
    (fewer : CallsFewer good_id (is_available_disk start.world.log start.past.unavailable))
    (above : AboveIsGood (log_effects start.world.log) good_id) where
  pub tables_along : {moment : MomentWithPast} → MomentTrail script start moment → CarriesTables good_id moment
  tables_along Still =
      let carries = tables-in_run script range events start run in
      record {
        inodes = names_of_fewer each_object good_id (good_id_at start) start fewer carries.inodes;
        tables = fewer_tables good_id (good_id_at start) start fewer carries.tables;
      }
  tables_along (Then {moment} {next} trail change) =
      let carries = tables_along trail in
      let here : AboveIsGood (log_effects moment.world.log) good_id
      = subst (λ (log : List Entry). AboveIsGood (log_effects log) good_id) (sym (log_before script change)) above in
      record {
        inodes = names_kept script range events start moment next run trail change each_object good_id (λ oid some alive. refl) here
            carries.tables.tables carries.inodes;
        tables = tables_stay_made script range events start moment next run trail change each_object good_id
            (λ oid some alive. refl) here carries.inodes.entries carries.tables;
      }

  pub inodes_along : {moment : MomentWithPast} → MomentTrail script start moment → HasInodes good_id moment
  inodes_along Still = fewer_inodes good_id (good_id_at start) start fewer (inodes-in_run script range events start run)
  inodes_along (Then {moment} {next} trail change) =
      inodes_kept script range events start moment next run trail change good_id
      (entries_kept script range events start moment run trail each_object good_id (λ oid some alive. refl)
      (tables_along trail).inodes.entries)
      (reads_to_come-in_run script range events start moment run trail good_id fewer) (inodes_along trail)
