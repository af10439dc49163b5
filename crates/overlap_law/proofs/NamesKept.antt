-- Over each change of a moment in a run in range, what attempts gave to inodes, and what works are to give to them, goes on to stand for
-- what is made, of ids that a test calls good, if what is above a good id is good, and the tables of sessions stand for what is made before
-- it. So it is of fewer good ids, and at the opening.
use Rattle.std.proofs.Common.{◌≡◌, ℕ, Bool, List, Some, refl}
use Rattle.cluster_script.specs.declared.statement.Statement.{Statement}
use Rattle.vdi_directory.specs.Decisions.{log_effects}
use Rattle.overlap_law.specs.Holders.{is_available_disk}
use Rattle.overlap_law.specs.MomentChanges.{MomentTrail, MomentChange, RunsAreInRange}
use Rattle.overlap_law.specs.NamedWorks.{AboveIsGood, InodesNameWhatIsMade}
use Rattle.overlap_law.specs.OpenTables.{CallsLive}
use Rattle.overlap_law.specs.Overlap.{CallsFewer}
use Rattle.overlap_law.specs.Past.{MomentWithPast, first_moment, run_with_past}
use Rattle.overlap_law.specs.Tables.{TablesAreMade}
use Rattle.overlap_law.specs.ToDo.{WorksNameWhatIsMade}
use Rattle.overlap_law.proofs.CommandWorks.{others_name}
use Rattle.overlap_law.proofs.DriverWorks.{asked_name}
use Rattle.overlap_law.proofs.MakingInRuns.{own_entries-on_the_way}
use Rattle.overlap_law.proofs.NamedEntries.{entries_after}
use Rattle.overlap_law.proofs.NamedWorks.{works_stay_named}
use Rattle.overlap_law.proofs.NewInodes.{inodes_name}
use Rattle.overlap_law.proofs.NoRecoveredDue.{began-with_past}
use Rattle.overlap_law.proofs.OpeningOverlap.{overlap_opens}
use Rattle.sheep_world.specs.RunsWithAsks.{Move}

pub names_kept : (script : List Statement) → RunsAreInRange script → (events : List Move) (start before after : MomentWithPast)
    → run_with_past script events ≡ Some start → MomentTrail script start before → MomentChange script start before after
    → (live good_id : ℕ → Bool) → CallsLive live before.world.log before.past.attempts
    → AboveIsGood (log_effects before.world.log) good_id
    → TablesAreMade (log_effects before.world.log) good_id before.world.hosts before.past.attempts
    → InodesNameWhatIsMade live good_id before → InodesNameWhatIsMade live good_id after
names_kept script range events start before after ran trail change live good_id calls above_good tables names =
    let began = began-with_past script events start ran in
    let named : WorksNameWhatIsMade (log_effects after.world.log) good_id after.world.hosts after.past.attempts
    = works_stay_named script range good_id start began change
    (asked_name script range events start before ran trail good_id
    (others_name script range events start before ran trail live good_id calls names.entries
    (own_entries-on_the_way script range events start before ran trail live)
    (inodes_name script range events start before ran trail live good_id calls above_good names.entries tables)))
    names.named in
    record {
      entries = entries_after script range start before after began change good_id named live names.entries;
      named = named;
    }

-- what is so of more ids is so of fewer
pub names_of_fewer : (live few many : ℕ → Bool) (moment : MomentWithPast) → CallsFewer few many → InodesNameWhatIsMade live many moment
    → InodesNameWhatIsMade live few moment
names_of_fewer live few many moment fewer names = record {
  entries = record {
    each = λ j attempt there vid index object alive good.
        names.entries.each j attempt there vid index object alive (fewer vid good);
  };
  named = record {
    each = λ n host at up work vid index to_do good. names.named.each n host at up work vid index to_do (fewer vid good);
    own = names.named.own;
  };
}

-- at the opening nothing was attempted, and nothing is to do
pub names_open : (script : List Statement) → RunsAreInRange script → (live good_id : ℕ → Bool)
    → InodesNameWhatIsMade live good_id (first_moment script)
unfolding is_available_disk
names_open script range live good_id = record {
  entries = record { each = λ j attempt there. absurd (cc (there)) };
  named = record {
    each = λ n host at up work vid index to_do good.
        (overlap_opens script range).overlap.pieces.named.each n host at up work vid index to_do refl;
    own = (overlap_opens script range).overlap.pieces.named.own;
  };
}
