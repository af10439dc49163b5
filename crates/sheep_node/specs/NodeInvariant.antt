-- What holds of a node from its opening on, and is kept by each step that it may take.
use Rattle.std.specs.Prelude.{◌≡◌, false}
use Rattle.sheep_node.specs.State.{Node}
use Rattle.sheep_node.specs.Step.{is_due}
use Rattle.sheep_node.specs.StepFacts.{IsByTheLog, HasReadLog, HasReadIfAsked}
use Rattle.sheep_node.specs.OneWork.{HasOneWorkPerRequest}
use Rattle.sheep_node.specs.GivenNumbers.{NumbersWereGiven}
use Rattle.sheep_node.specs.OwnEntries.{HasOnlyOwnEntries}
use Rattle.sheep_node.specs.ValidDisks.{HasValidDisks}
use Rattle.sheep_node.specs.SoundWorks.{HasSoundWorks}
use Rattle.sheep_node.specs.OpenLines.{HasOpenLines}
use Rattle.sheep_node.specs.SessionQueues.{QueuesAreDiskRequests, QueuesAreShort, CommandsAreAlone, RequestsAreInTurn}
use Rattle.sheep_node.specs.WantedWorks.{WorksAreWanted}
use Rattle.sheep_node.specs.DrivenDisks.{RequestsAreOnDisks}
use Rattle.sheep_node.specs.RecoveryRange.{RecoveryMayStep}

-- its requests have one work each at most, which is what they wait for, with numbers that it gave, the entries that it puts are its own,
-- its sessions' queues are their reads and writes, no more than there may be at once, and any other request is alone in its session, its
-- reads and writes are on the disks that are open, and one that began is apart from the earlier ones, what it has read is a log, it is in
-- the epoch of that, where a request is it has read something, no `Recovered` is due, what it has of disks is valid, what it has at work
-- is sound, the lines of its sessions go with its works, and its recovery may make each step
pub record IsSoundNode (node : Node) : Type 0 where
  pub one_work : HasOneWorkPerRequest node
  pub given : NumbersWereGiven node
  pub own_entries : HasOnlyOwnEntries node
  pub queues : QueuesAreDiskRequests node
  pub short_queues : QueuesAreShort node
  pub sole_commands : CommandsAreAlone node
  pub wanted_works : WorksAreWanted node
  pub on_disks : RequestsAreOnDisks node
  pub in_turn : RequestsAreInTurn node
  pub log : HasReadLog node
  pub by_the_log : IsByTheLog node
  pub read : HasReadIfAsked node
  pub none_due : is_due node ≡ false
  pub valid_disks : HasValidDisks node
  pub sound_works : HasSoundWorks node
  pub lines : HasOpenLines node
  pub recovery : RecoveryMayStep node
