-- In every run in range no message for a disk that is there and was available is lacked, if a made create comes before each write, and what
-- tables name was created: for then what a node with a finished list hasn't pending is there.
use Rattle.std.proofs.Common.{◌≡◌, ℕ, Bool, List, Some}
use Rattle.vdi_directory.specs.Decisions.{log_effects}
use Rattle.cluster_script.specs.declared.statement.Statement.{Statement}
use Rattle.sheep_node.specs.declared.event.Event.{Event}
use Rattle.sheep_world.specs.Step.{EventOutcome}
use Rattle.sheep_world.specs.RunsWithAsks.{Move}
use Rattle.sheep_world.specs.Began.{MakesMove}
use Rattle.overlap_law.specs.FirstCreates.{CreatesAlwaysComeFirst}
use Rattle.overlap_law.specs.Holders.{is_available_disk}
use Rattle.overlap_law.specs.MomentChanges.{MomentTrail, Still, Then, RunsAreInRange}
use Rattle.overlap_law.specs.NoObjects.{NothingIsLacked, NoObjectIsMissing}
use Rattle.overlap_law.specs.Past.{MomentWithPast, next_moment, run_with_past}
use Rattle.overlap_law.specs.Tables.{every_id, TablesAreMade}
use Rattle.overlap_law.proofs.CarriedRows.{searches-in_run}
use Rattle.overlap_law.proofs.EndTests.{was_good_id}
use Rattle.overlap_law.proofs.KeptInRuns.{kept_at_events}
use Rattle.overlap_law.proofs.LackedChanges.{lacked_of_fewer, lacked_on_the_way}
use Rattle.overlap_law.proofs.MomentTrails.{event_trail}
use Rattle.overlap_law.proofs.NoMissingObjects.{none_missing}
use Rattle.overlap_law.proofs.OpeningOverlap.{overlap_opens}
use Rattle.overlap_law.proofs.PublishedInodes.{published_made}
use Rattle.overlap_law.proofs.PublishedInRuns.{published-on_the_way}

-- at each moment to which events lead what tables name was created
abbrev TablesAlwaysAreMade : List Statement → Type 0
TablesAlwaysAreMade script = (events : List Move) (moment : MomentWithPast) → run_with_past script events ≡ Some moment
    → TablesAreMade (log_effects moment.world.log) (is_available_disk moment.world.log moment.past.unavailable) moment.world.hosts
    moment.past.attempts

module _ (script : List Statement) (range : RunsAreInRange script) (first : CreatesAlwaysComeFirst script)
    (tables : TablesAlwaysAreMade script) where
  abbrev id_at : MomentWithPast → ℕ → Bool
  id_at moment = is_available_disk moment.world.log moment.past.unavailable

  abbrev pub IsLackedNowhere : MomentWithPast → Type 0
  IsLackedNowhere moment = NothingIsLacked (log_effects moment.world.log) (id_at moment) moment.world.hosts moment.world.wire

  event_keeps : (events : List Move) (event : Move) (start end : MomentWithPast) → run_with_past script events ≡ Some start
      → next_moment script event start ≡ Some end → IsLackedNowhere start → IsLackedNowhere end
  event_keeps events event start end run happens lacked = at_end (event_trail script event start end happens)
    where
      at_end : {moment : MomentWithPast} → MomentTrail script start moment
          → NothingIsLacked (log_effects moment.world.log) (id_at end) moment.world.hosts moment.world.wire
      at_end Still = lacked_of_fewer start (id_at end) (id_at start) (was_good_id script event start end happens) lacked
      at_end (Then {moment} {next} trail change) =
          lacked_on_the_way script range events event start end moment next run happens change (first events start start run Still)
          (tables events start run) (published_made start.world.log every_id start.past.attempts
          (published-on_the_way script range events start start run Still))
          (searches-in_run script range first events start run).has lacked

  pub lacked-in_run : (events : List Move) (moment : MomentWithPast) → run_with_past script events ≡ Some moment
      → IsLackedNowhere moment
  lacked-in_run =
      kept_at_events script IsLackedNowhere (overlap_opens script range).overlap.lacked
      (λ events event start end run then happens lacked. event_keeps events event start end run happens lacked)

  pub missing-in_run : (events : List Move) (before : MomentWithPast) (event : Event) (made : EventOutcome)
      → run_with_past script events ≡ Some before → MakesMove script event before.world made → NoObjectIsMissing script before made
  missing-in_run events before event made is happened =
      none_missing script range events before event made is (lacked-in_run events before is) happened
