-- What stands for what was made, together: a made create comes before each write; the own entries of open tables, of works that are to do
-- and of attempts stand for objects that were created. Each change on the way of an event keeps all of it.
use Rattle.std.proofs.Common.{◌≡◌, ℕ, Bool, true, List, Some, refl}
use Rattle.vdi_directory.specs.Decisions.{log_effects}
use Rattle.cluster_script.specs.declared.statement.Statement.{Statement}
use Rattle.overlap_law.specs.Fates.{CreatesComeFirst}
use Rattle.overlap_law.specs.FirstCreates.{CreatesAlwaysComeFirst}
use Rattle.overlap_law.specs.MomentChanges.{MomentTrail, MomentChange, RunsAreInRange, Still}
use Rattle.overlap_law.specs.OpenTables.{OpenTablesAreMade}
use Rattle.overlap_law.specs.Past.{MomentWithPast, first_moment, run_with_past}
use Rattle.overlap_law.specs.Tables.{OwnEntriesAreMade, TablesAreOfTheChain}
use Rattle.overlap_law.specs.ToDo.{WorksNameWhatIsMade}
use Rattle.overlap_law.proofs.CreatesFirst.{first-on_the_way}
use Rattle.overlap_law.proofs.KeptInRuns.{kept_on_the_way}
use Rattle.overlap_law.proofs.CommandWorks.{others_name}
use Rattle.overlap_law.proofs.DriverWorks.{asked_name}
use Rattle.overlap_law.proofs.LastReads.{last_reads-in_run}
use Rattle.overlap_law.proofs.NamedEntries.{own_after}
use Rattle.overlap_law.proofs.NamedWorks.{works_stay_named}
use Rattle.overlap_law.proofs.OpeningReads.{reads_name}
use Rattle.overlap_law.proofs.NewInodes.{no_id, inodes_name_own}
use Rattle.overlap_law.proofs.NoRecoveredDue.{began-with_past}
use Rattle.overlap_law.proofs.OpenTables.{entries_of_chain}
use Rattle.overlap_law.proofs.OpeningOverlap.{no_request, no_session, overlap_opens}
use Rattle.overlap_law.proofs.OwnTables.{tables_stay_made}
use Rattle.sheep_world.specs.RunsWithAsks.{Move}

-- each object
abbrev pub each_object : ℕ → Bool
each_object oid = true

pub record StandsForTheMade (moment : MomentWithPast) : Type 0 where
  pub first : CreatesComeFirst moment.past.attempts
  pub tables : OpenTablesAreMade (log_effects moment.world.log) moment.world.hosts moment.past.attempts
  pub named : WorksNameWhatIsMade (log_effects moment.world.log) no_id moment.world.hosts moment.past.attempts
  pub own : OwnEntriesAreMade each_object moment.past.attempts

module _ (script : List Statement) (range : RunsAreInRange script) where
  keeps : (events : List Move) (start before after : MomentWithPast) → run_with_past script events ≡ Some start
      → MomentTrail script start before → MomentChange script start before after → StandsForTheMade before → StandsForTheMade after
  keeps events start before after run trail change made =
      let named : WorksNameWhatIsMade (log_effects after.world.log) no_id after.world.hosts after.past.attempts
      = works_stay_named script range no_id start (began-with_past script events start run) change
      (asked_name script range events start before run trail no_id
      (others_name script range events start before run trail each_object no_id (λ oid some alive. refl)
      (record { each = λ j attempt there vid index object alive good. absurd (cc (good)) }) made.own
      (inodes_name_own script range events start before run trail)))
      made.named in
      record {
        first =
            first-on_the_way script range events start before after run trail change no_id (record {
              chain = entries_of_chain script range events start before run trail;
              own = λ n host at up number index session disk of on inside is alive.
                  made.tables.opened n host at up number session disk of on index inside is alive;
            }) made.named made.first;
        tables =
            tables_stay_made script range events start before after run change no_id made.named
            (reads_name script range events start before run trail each_object (λ oid some alive. refl) made.own
            (last_reads-in_run script range events start before run trail))
            made.tables;
        named = named;
        own = own_after script range start before after (began-with_past script events start run) change no_id named each_object made.own;
      }

  opens : StandsForTheMade (first_moment script)
  opens = record {
    first = (overlap_opens script range).overlap.attempts.create_first;
    tables = record {
      opened = λ n host at up number session disk of on. no_session script n host at number session of;
      to_open = λ n host at up req request inode there on. no_request script n host at req request there;
    };
    named = record {
      each = λ n host at up work vid index to_do is. absurd (cc (is));
      own = (overlap_opens script range).overlap.pieces.named.own;
    };
    own = record { each = λ j attempt there. absurd (cc (there)) };
  }

  -- at each moment on the way of an event what works name as their disk's own was created
  pub works_name_own-on_the_way : (events : List Move) (start moment : MomentWithPast) → run_with_past script events ≡ Some start
      → MomentTrail script start moment
      → WorksNameWhatIsMade (log_effects moment.world.log) no_id moment.world.hosts moment.past.attempts
  works_name_own-on_the_way events start moment run trail =
      (kept_on_the_way script StandsForTheMade opens keeps events start moment run trail).named

  -- and so do the own entries of the tables of open disks
  pub tables_of_chain-on_the_way : (events : List Move) (start moment : MomentWithPast) → run_with_past script events ≡ Some start
      → MomentTrail script start moment
      → TablesAreOfTheChain (log_effects moment.world.log) moment.world.hosts moment.past.attempts
  tables_of_chain-on_the_way events start moment run trail =
      let made = kept_on_the_way script StandsForTheMade opens keeps events start moment run trail in
      record {
        chain = entries_of_chain script range events start moment run trail;
        own = λ n host at up number index session disk of on inside is alive.
            made.tables.opened n host at up number session disk of on index inside is alive;
      }

  pub creates_first-in_run : CreatesAlwaysComeFirst script
  creates_first-in_run events start moment run trail =
      (kept_on_the_way script StandsForTheMade opens keeps events start moment run trail).first

  -- what own entries stand for was created, whichever objects are live
  pub own_entries-on_the_way : (events : List Move) (start moment : MomentWithPast) → run_with_past script events ≡ Some start
      → MomentTrail script start moment → (live : ℕ → Bool) → OwnEntriesAreMade live moment.past.attempts
  own_entries-on_the_way events start moment run trail live = record {
    each = λ j attempt there vid index is_id object alive inside covered own.
        (kept_on_the_way script StandsForTheMade opens keeps events start moment run trail).own.each j attempt there vid index is_id
        object refl inside covered own;
  }

  pub own_entries-in_run : (events : List Move) (moment : MomentWithPast) → run_with_past script events ≡ Some moment
      → (live : ℕ → Bool) → OwnEntriesAreMade live moment.past.attempts
  own_entries-in_run events moment run live = own_entries-on_the_way events moment moment run Still live
