-- The headline of one run of events, as a call that made it may promise it: at its end, and wherever it came by. No client reads between
-- these events.
use Rattle.std.specs.Prelude.{◌≡◌, false, List, ◌∷◌, ◌++◌, map, Some}
use Rattle.std.specs.List.{list_any}
use Rattle.cluster_script.specs.declared.statement.Statement.{Statement}
use Rattle.disk_history.specs.declared.event.HistEvent.{HistEvent}
use Rattle.disk_history.specs.Legal.{IsLegal}
use Rattle.sheep_node.specs.declared.event.Event.{Event}
use Rattle.sheep_world.specs.RunsWithAsks.{Happens}
use Rattle.sheep_world.specs.Step.{EventOutcome, step}
use Rattle.overlap_law.specs.CheckDone.{EachCheckLeavesOneValue}
use Rattle.overlap_law.specs.FewLossesInRuns.{LossesAreFewInRun, changes_nodes}
use Rattle.overlap_law.specs.Headline.{KeepsHeadline}
use Rattle.overlap_law.specs.NoObjects.{NoObjectIsMissing}
use Rattle.overlap_law.specs.Past.{MomentWithPast, run_with_past}

-- these events are cut at one of them, which makes this behind those before it
pub record IsMadeBehind (script : List Statement) (events : List Event) (before : MomentWithPast) (event : Event) (made : EventOutcome)
    : Type 0 where
  pub earlier : List Event
  pub later : List Event
  pub parts : events ≡ earlier ++ event ∷ later
  pub led : run_with_past script (map Happens earlier) ≡ Some before
  pub made_so : step script event before.world ≡ Some made

-- The events are a run, which made this history, and the replies in it are one legal history: each block read from a disk, snapshot or
-- clone is its last acknowledged write or a later unacknowledged one, where the reads of disks are left out that weren't available at some
-- moment up to there, and torn blocks may be read as anything, of which a gateway died within a coded write; and refused requests change
-- nothing, peer requests of another epoch among them. So it was at each moment that the run came by. No reply in it says that an object is
-- missing, of a disk that was available; and each check that was replied to, and not refused, left each block of its disk's own objects
-- with one value. Where few losses held at each moment, as where no node was lost, left or joined, the whole history is legal, and no read
-- is left out.
pub record RunKeepsHeadline (script : List Statement) (events : List Event) (history : List HistEvent) : Type 0 where
  pub last : MomentWithPast
  pub led : run_with_past script (map Happens events) ≡ Some last
  pub same : last.past.history ≡ history
  pub at_end : KeepsHeadline script last
  pub before : (earlier later : List Event) (moment : MomentWithPast) → events ≡ earlier ++ later
      → run_with_past script (map Happens earlier) ≡ Some moment → KeepsHeadline script moment
  pub missing : (before : MomentWithPast) (event : Event) (made : EventOutcome) → IsMadeBehind script events before event made
      → NoObjectIsMissing script before made
  pub checked : (before : MomentWithPast) (event : Event) (made : EventOutcome) → IsMadeBehind script events before event made
      → EachCheckLeavesOneValue script event before.world before.past.history made
  pub few_losses : LossesAreFewInRun script (map Happens events) → IsLegal history
  pub unchanged_members : list_any changes_nodes events ≡ false → IsLegal history
