-- What a step asks of a guest's request that isn't refused, to take it.
use Rattle.std.specs.Prelude.{◌≡◌, ℕ, false, Option, None, IsTrue}
use Rattle.object_id.specs.declared.cause.Cause.{Cause}
use Rattle.peer_proto.specs.declared.guest.DiskAsk.{DiskAsk}
use Rattle.peer_proto.specs.declared.guest.VdiAsk.{VdiAsk}
use Rattle.gateway_queue.specs.Queue.{is_queued}
use Rattle.guest_driver.specs.Pieces.{is_ask}
use Rattle.guest_driver.specs.Refusals.{disk_refusal}
use Rattle.vdi_ops.specs.Entries.{IsVdiAsk, command_refusal}
use Rattle.sheep_node.specs.declared.ask.Ask.{Ask}
use Rattle.sheep_node.specs.declared.ask.Ask.TheVariants as asks
use Rattle.sheep_node.specs.declared.course.Course.TheVariants.{Waiting}
use Rattle.sheep_node.specs.StepState.{StepState, session_in, with_course}
use Rattle.sheep_node.specs.Guests.{is_open_disk_deleted, seen_by_command, with_queued_request}
use Rattle.sheep_node.specs.MayBegin.{MayComeToWork, MayBeginWork}
use Rattle.sheep_node.specs.InStep.{IsInStep}

-- why a read or write is refused on what a session has open
abbrev pub refusal_in : ℕ → DiskAsk → StepState → Option Cause
refusal_in number ask so_far =
    disk_refusal (session_in number so_far).disk (is_open_disk_deleted so_far.node.peer (session_in number so_far).disk) ask

-- a read or write may stand in a session's queue: it asks for whole blocks, isn't refused, and isn't there yet
pub record MayQueue (number req : ℕ) (ask : DiskAsk) (so_far : StepState) : Type 0 where
  pub asked : IsTrue (is_ask ask)
  pub allowed : refusal_in number ask so_far ≡ None
  pub new : is_queued req (session_in number so_far).queue ≡ false

-- a command may begin: its names and tags are such, it isn't refused, and it may come to a work
pub record MayCommand (number req : ℕ) (ask : VdiAsk) (so_far : StepState) : Type 0 where
  pub asked : IsVdiAsk ask
  pub allowed : command_refusal (seen_by_command (session_in number so_far).disk) ask ≡ None
  pub may : MayComeToWork req so_far.node

-- a request may be taken: behind the arrival of a read or write the step goes on, and a client's own work may begin
abbrev pub MayTake : ℕ → ℕ → Ask → StepState → Type 0
MayTake number req (asks.Disk ask) so_far = MayQueue number req ask so_far
    × IsInStep (with_queued_request number req ask (session_in number so_far).disk (with_course number req (Waiting ask) so_far))
MayTake number req (asks.Vdi ask) so_far = MayCommand number req ask so_far
MayTake number req (asks.Object work) so_far = MayBeginWork req work so_far.node
MayTake number req (asks.Entry entry) so_far = Unit {0}
