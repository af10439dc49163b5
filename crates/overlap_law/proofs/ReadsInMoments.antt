-- In each world of a run in range, and at each moment on the way of its events, each open read of a session is on an id that the session
-- may write, or on a disk that became a snapshot by what the node has read.
use Rattle.sheep_node.specs.declared.course.Request.{Request}
use Rattle.std.specs.Option.{option_map_or}
use Rattle.std.proofs.Common.{◌≡◌, ◌∙◌, ℕ, List, Some, sym, subst, ap, false, Option}
use Rattle.std.specs.FinMap as tree
use Rattle.object_id.specs.declared.entry.Entry.{Entry}
use Rattle.cluster_script.specs.declared.statement.Statement.{Statement}
use Rattle.sheep_node.specs.SoundWorks.{HasSoundWorks}
use Rattle.sheep_node.specs.State.{Node}
use Rattle.sheep_node.specs.StepState.{StepState}
use Rattle.sheep_world.specs.Began.{Began}
use Rattle.sheep_world.specs.EventKinds.{outcome_of_step}
use Rattle.sheep_world.specs.NodeCauses.{input_of_cause, event_of_cause, world_after_cause}
use Rattle.sheep_world.specs.World.{Host, World}
use Rattle.sheep_world.proofs.BegunWorlds.{goes_on}
use Rattle.sheep_world.specs.RunsWithAsks.{Move}
use Rattle.overlap_law.specs.AwaitedEntries.{CommandsAreTheSessions}
use Rattle.overlap_law.specs.LastReads.{ReadsAreKnown, SnapshotsAreTaken}
use Rattle.overlap_law.specs.MomentChanges as moments
use Rattle.overlap_law.specs.MomentChanges.{MomentChange, MomentTrail, RunsAreInRange}
use Rattle.overlap_law.specs.Past.{MomentWithPast, run_with_past}
use Rattle.overlap_law.specs.Reached.{Hosts}
use Rattle.overlap_law.specs.StepMoments.{SteppingNode, IsStepping, StepsByChanges, first_in_step, LeadsInStep}
use Rattle.overlap_law.proofs.AwaitedEntriesInMoments.{entries_so}
use Rattle.overlap_law.proofs.AwaitedInRuns.{awaited_in_worlds, awaited_after, said_sessions}
use Rattle.overlap_law.proofs.CausedWorks.{by_changes}
use Rattle.overlap_law.proofs.ClaimsInRuns.{AreClaimedAmong, claimed_in_worlds, claimed_after}
use Rattle.overlap_law.proofs.KnownReads.{read_known}
use Rattle.overlap_law.proofs.NoRecoveredDue.{began-with_past}
use Rattle.overlap_law.proofs.OpenDisksInRuns.{AreOpenAmong, open_in_worlds, open_after}
use Rattle.overlap_law.proofs.ReadInMoments.{HostsAreSound, sound_hosts, hosts_after_sound}
use Rattle.overlap_law.proofs.SharedInRuns.{IsSharing, sharing_in_world, sharing_then}
use Rattle.overlap_law.proofs.SharedSteps.{AreSharing}
use Rattle.overlap_law.proofs.TakenSnapshots.{taken_in_worlds}
use Rattle.overlap_law.proofs.WaitedInRuns.{IsWaitedIn, waits_then, works_waited}
use Rattle.overlap_law.proofs.WholeInRuns.{sound_world}
use Rattle.overlap_law.proofs.WorksInMoments.{HaveWellWorks, well_in_world, well_after}
use Rattle.overlap_law.proofs.WritersOfWorks.{asked_for}
use Rattle.overlap_law.proofs.ClosedWorlds.{hosts_after, world_along}
use Rattle.overlap_law.specs.RequestsOfScript.{is_of_client}

-- a node's works are waited for, and its tables name snapshots alone beside their own disks
pub record IsReadingWell (node : Node) : Type 0 where
  pub waited : IsWaitedIn node
  pub sound : HasSoundWorks node
  pub shared : IsSharing node

abbrev pub AreReadingWell : Hosts → Type 0
AreReadingWell hosts = (n : ℕ) (host : Host) → tree.get hosts n ≡ Some host → IsReadingWell host.node

reads_known : (moment : MomentWithPast) → HostsAreSound moment → AreClaimedAmong moment.world.log moment.world.hosts
    → AreOpenAmong moment.world.hosts → CommandsAreTheSessions moment.world.hosts → HaveWellWorks moment.world.hosts
    → AreReadingWell moment.world.hosts → ReadsAreKnown moment.world.log moment.world.hosts
reads_known moment sound claimed fit own well reading = record {
  each = λ n host there up req work got reads client.
      let read = (sound.each n host there).read in
      let (request, asked) = asked_for host.node (well n host there) req work got in
      let so = reading n host there in
      read_known moment.world.log n host.node read.own read.epoch_so (own.each n host there up) (claimed n host there up) (fit n host there)
      (well n host there) req work got request asked reads
      (sym (ap (λ (o : Option Request). option_map_or (λ (request : Request). is_of_client request.course) o false) asked) ∙ client)
      so.shared so.waited.1 so.sound;
}

module _ (script : List Statement) (range : RunsAreInRange script) where
  pub reading_in_world : (world : World) → Began script world → AreReadingWell world.hosts
  reading_in_world world began n host there = record {
    waited = works_waited script range world began n host there;
    sound = ((sound_world script range world began).hosts n host there).node.sound_works;
    shared = sharing_in_world script range world began n host there;
  }

  -- ---- along trails

  module _ (start : MomentWithPast) (began : Began script start.world) where
    abbrev end_of : SteppingNode → World
    end_of stepping = world_after_cause script stepping.n stepping.host stepping.cause start.world

    has_ended : (stepping : SteppingNode) → IsStepping script start.world stepping
        → Began script (world_after_cause script stepping.n stepping.host stepping.cause start.world)
    has_ended stepping is =
        goes_on script (event_of_cause stepping.n stepping.cause) start.world
        (outcome_of_step script stepping.n stepping.host stepping.cause start.world) began is.made

    reading_then : (stepping : SteppingNode) → IsStepping script start.world stepping → StepsByChanges stepping.cause → (so_far : StepState)
        → LeadsInStep stepping (first_in_step stepping) so_far → IsReadingWell so_far.node
    reading_then stepping is by so_far leads =
        let before = reading_in_world start.world began stepping.n stepping.host is.there in
        let waits = waits_then script range start.world began stepping.n stepping.host is.there is.up stepping.cause
        (by_changes stepping.cause by)
        is.caused before.waited so_far leads in
        record {
          waited = waits.0;
          sound = waits.1;
          shared = subst (λ (read : List Entry). AreSharing read so_far.node.requests so_far.node.sessions)
              (sym (entries_so (input_of_cause stepping.cause) stepping.host.node so_far leads))
              (sharing_then script range start.world began stepping.n stepping.host is.there stepping.cause is.caused so_far leads);
        }

    pub reading_after : {before after : MomentWithPast} → MomentChange script start before after → AreReadingWell after.world.hosts
    reading_after change =
        hosts_after script (λ (n : ℕ) (host : Host). IsReadingWell host.node) reading_in_world start began reading_then change

    pub known_at_start : ReadsAreKnown start.world.log start.world.hosts
    known_at_start =
        reads_known start (sound_hosts script range start began) (claimed_in_worlds script range start.world began)
        (open_in_worlds script range start.world began)
        (said_sessions script range start.world.log start.world.hosts (awaited_in_worlds script range start.world began))
        (well_in_world script range start.world began) (reading_in_world start.world began)

    pub known_after : {before after : MomentWithPast} → MomentChange script start before after
        → ReadsAreKnown after.world.log after.world.hosts
    known_after {before} {after} change =
        reads_known after (hosts_after_sound script range start began change) (claimed_after script range start began change)
        (open_after script range start began change)
        (said_sessions script range after.world.log after.world.hosts (awaited_after script range start began change))
        (well_after script range start began change) (reading_after change)

    known_along : {moment : MomentWithPast} → MomentTrail script start moment → ReadsAreKnown moment.world.log moment.world.hosts
    known_along moments.Still = known_at_start
    known_along (moments.Then trail change) = known_after change

    -- ---- the entries of snapshots

    taken_along : {moment : MomentWithPast} → MomentTrail script start moment → SnapshotsAreTaken moment.world.log
    taken_along trail =
        world_along script (λ (world : World). SnapshotsAreTaken world.log) (taken_in_worlds script range) start began
        (λ stepping is by so_far leads. taken_in_worlds script range (end_of stepping) (has_ended stepping is)) trail

  pub reads_known-in_run : (events : List Move) (start moment : MomentWithPast) → run_with_past script events ≡ Some start
      → MomentTrail script start moment → ReadsAreKnown moment.world.log moment.world.hosts
  reads_known-in_run events start moment is trail = known_along start (began-with_past script events start is) trail

  pub taken-in_run : (events : List Move) (start moment : MomentWithPast) → run_with_past script events ≡ Some start
      → MomentTrail script start moment → SnapshotsAreTaken moment.world.log
  taken-in_run events start moment is trail = taken_along start (began-with_past script events start is) trail
