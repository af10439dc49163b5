-- What tables name, and what attempts and works give to inodes, stands for what was created, whether or not the disks were available: in
-- every run in range, and at each moment on the way of an event. So it is of the ids that a test calls good.
use Rattle.std.proofs.Common.{◌≡◌, ℕ, Bool, List, Some, refl}
use Rattle.vdi_directory.specs.Decisions.{log_effects}
use Rattle.cluster_script.specs.declared.statement.Statement.{Statement}
use Rattle.overlap_law.specs.MadeTables.{TablesNameWhatIsMade}
use Rattle.overlap_law.specs.MomentChanges.{MomentTrail, RunsAreInRange, Still}
use Rattle.overlap_law.specs.NamedWorks.{InodesNameWhatIsMade}
use Rattle.overlap_law.specs.Overlap.{CallsFewer}
use Rattle.overlap_law.specs.Past.{MomentWithPast, first_moment, run_with_past}
use Rattle.overlap_law.specs.Tables.{every_id}
use Rattle.overlap_law.proofs.KeptInRuns.{KeptOnTheWay, kept_on_the_way}
use Rattle.overlap_law.proofs.MadeTables.{tables_stay_made}
use Rattle.overlap_law.proofs.MakingInRuns.{each_object}
use Rattle.overlap_law.proofs.NamesKept.{names_kept, names_of_fewer, names_open}
use Rattle.overlap_law.proofs.OpeningOverlap.{no_request, no_session}
use Rattle.sheep_world.specs.RunsWithAsks.{Move}
pub use Rattle.overlap_law.proofs.KeptToTheEnd.{good_id_at}

-- what is carried of a moment, of the ids that a test calls good
pub record CarriesTables (good_id : ℕ → Bool) (moment : MomentWithPast) : Type 0 where
  pub inodes : InodesNameWhatIsMade each_object good_id moment
  pub tables : TablesNameWhatIsMade (log_effects moment.world.log) good_id moment.world.hosts moment.past.attempts

-- what is so of more ids is so of fewer
pub fewer_tables : (few many : ℕ → Bool) (moment : MomentWithPast) → CallsFewer few many
    → TablesNameWhatIsMade (log_effects moment.world.log) many moment.world.hosts moment.past.attempts
    → TablesNameWhatIsMade (log_effects moment.world.log) few moment.world.hosts moment.past.attempts
fewer_tables few many moment fewer said = record {
  tables = record {
    each = λ n host up_at up number index session disk got on good.
        said.tables.each n host up_at up number index session disk got on (fewer disk.inode.vid good);
  };
  to_open = λ n host up_at up req request inode got at good.
      said.to_open n host up_at up req request inode got at (fewer inode.vid good);
}

-- and so is all that is carried
fewer_carried : (few many : ℕ → Bool) (moment : MomentWithPast) → CallsFewer few many → CarriesTables many moment → CarriesTables few moment
fewer_carried few many moment fewer carries = record {
  inodes = names_of_fewer each_object few many moment fewer carries.inodes;
  tables = fewer_tables few many moment fewer carries.tables;
}

module _ (script : List Statement) (range : RunsAreInRange script) where
  opens : CarriesTables every_id (first_moment script)
  opens = record {
    inodes = names_open script range each_object every_id;
    tables = record {
      tables = record {
        each = λ n host at up number index session disk of. no_session script n host at number session of;
      };
      to_open = λ n host at up req request inode there. no_request script n host at req request there;
    };
  }

  keeps : KeptOnTheWay script (CarriesTables every_id)
  keeps events start before after run trail change carries = record {
    inodes = names_kept script range events start before after run trail change each_object every_id (λ oid some alive. refl)
        (λ elder vid above good. refl) carries.tables.tables carries.inodes;
    tables = tables_stay_made script range events start before after run trail change each_object every_id (λ oid some alive. refl)
        (λ elder vid above good. refl) carries.inodes.entries carries.tables;
  }

  -- of each id, at each moment on the way of an event
  pub all_tables-on_the_way : (events : List Move) (start moment : MomentWithPast) → run_with_past script events ≡ Some start
      → MomentTrail script start moment → CarriesTables every_id moment
  all_tables-on_the_way = kept_on_the_way script (CarriesTables every_id) opens keeps

  -- of those that a test calls good
  pub some_tables-on_the_way : (good_id : ℕ → Bool) (events : List Move) (start moment : MomentWithPast)
      → run_with_past script events ≡ Some start → MomentTrail script start moment → CarriesTables good_id moment
  some_tables-on_the_way good_id events start moment run trail =
      fewer_carried good_id every_id moment (λ vid good. refl) (all_tables-on_the_way events start moment run trail)

  pub tables-in_run : (events : List Move) (moment : MomentWithPast) → run_with_past script events ≡ Some moment
      → CarriesTables (good_id_at moment) moment
  tables-in_run events moment run = some_tables-on_the_way (good_id_at moment) events moment moment run Still

-- whichever objects are live
pub inodes_where : (live good_id : ℕ → Bool) (moment : MomentWithPast) → InodesNameWhatIsMade each_object good_id moment
    → InodesNameWhatIsMade live good_id moment
inodes_where live good_id moment names = record {
  entries = record {
    each = λ j attempt there vid index object alive good. names.entries.each j attempt there vid index object refl good;
  };
  named = names.named;
}
