-- A guest's request comes: it is refused on the spot, or waits for its turn and begins.
use Rattle.std.specs.Prelude.{ℕ, Bool, false, ◌∷◌, [], ◌++◌, Option, Some, None}
use Rattle.std.specs.Option.{option_map, option_map_or}
use Rattle.object_id.specs.declared.cause.Cause.{Cause}
use Rattle.peer_proto.specs.declared.guest.DiskAsk.{DiskAsk}
use Rattle.peer_proto.specs.declared.guest.VdiAsk.{VdiAsk}
use Rattle.peer_proto.specs.declared.guest.VdiAsk.TheVariants.{Check}
use Rattle.peer_proto.specs.declared.guest.GuestRsp.TheVariants.{Refused}
use Rattle.vdi_directory.specs.States.{state_of}
use Rattle.vdi_directory.specs.Dead.{is_gone}
use Rattle.peer_service.specs.State.{Peer, effects_of}
use Rattle.gateway_queue.specs.declared.queue.Queued.{Queued}
use Rattle.guest_driver.specs.declared.disk.Disk.{Disk}
use Rattle.guest_driver.specs.Pieces.{offset_of, size_of, first_index, last_index}
use Rattle.guest_driver.specs.Refusals as disk_refusals
use Rattle.disk_check.specs.Check.{CheckStep, begin_check}
use Rattle.vdi_ops.specs.Op.{OpStep}
use Rattle.vdi_ops.specs.Entries as entries
use Rattle.vdi_ops.specs.Steps.{begin_command}
use Rattle.sheep_node.specs.declared.ask.Ask.{Ask}
use Rattle.sheep_node.specs.declared.ask.Ask.TheVariants as asks
use Rattle.sheep_node.specs.declared.course.Course.TheVariants.{Waiting, DoingWork, AwaitingDecision}
use Rattle.sheep_node.specs.StepState.{StepState, with_guest_reply, with_outbox_entry, session_in, with_session, with_course}
use Rattle.sheep_node.specs.StepState.{with_sole_request}
use Rattle.sheep_node.specs.RequestWorks.{work_asked}
use Rattle.sheep_node.specs.Courses.{inode_open, command_stepped, check_stepped}
use Rattle.sheep_node.specs.Waiting.{course_begun}

-- whether a session's disk is deleted, by the entries that the node has read
abbrev pub is_open_disk_deleted : Peer → Option Disk → Bool
is_open_disk_deleted peer disk = option_map_or (λ (disk : Disk). is_gone (state_of (effects_of peer) disk.inode.vid)) disk false

-- what a session has open, as a command sees it
abbrev pub seen_by_command : Option Disk → Option entries.OpenDisk
seen_by_command disk = option_map (λ (disk : Disk). record { inode = disk.inode; snapshot = disk.snapshot }) disk

-- why a request is refused on the spot
abbrev pub request_refusal : Peer → Option Disk → Ask → Option Cause
request_refusal peer disk (asks.Disk ask) = disk_refusals.disk_refusal disk (is_open_disk_deleted peer disk) ask
request_refusal peer disk (asks.Vdi ask) = entries.command_refusal (seen_by_command disk) ask
request_refusal peer disk (asks.Object work) = None
request_refusal peer disk (asks.Entry entry) = None

-- a read or write among the session's: the first and the last object that it touches; objects have 2^shift bytes
abbrev pub queued_as : ℕ → ℕ → DiskAsk → Queued
queued_as shift req ask = record {
  req = req;
  first = first_index shift (offset_of ask);
  last = last_index shift (offset_of ask) (size_of ask);
}

-- a read or write stands behind the session's others
abbrev pub with_queued_request : ℕ → ℕ → DiskAsk → Option Disk → StepState → StepState
with_queued_request number req ask None so_far = so_far
with_queued_request number req ask (Some disk) so_far = with_session
    number
    (record (session_in number so_far) { queue = (session_in number so_far).queue ++ queued_as disk.inode.spec.shift req ask ∷ [] })
    so_far

-- a command begins with its entry in the outbox, and a check of the open disk with its first work
abbrev pub command_taken : ℕ → ℕ → VdiAsk → StepState → StepState
command_taken number req Check so_far =
    option_map_or (λ (step : CheckStep). check_stepped number req step so_far)
    (option_map begin_check (inode_open (session_in number so_far).disk)) so_far
command_taken number req ask so_far =
    option_map_or (λ (step : OpStep). command_stepped number req step so_far)
    (begin_command so_far.node.me number ask (inode_open (session_in number so_far).disk)) so_far

-- a request that isn't refused: a read or write begins, if it may run, and any other at once
abbrev pub request_taken : ℕ → ℕ → Ask → StepState → StepState
request_taken number req (asks.Disk ask) so_far =
    course_begun number req (Waiting ask)
    (with_queued_request number req ask (session_in number so_far).disk (with_course number req (Waiting ask) so_far))
request_taken number req (asks.Vdi ask) so_far = command_taken number req ask so_far
request_taken number req (asks.Object work) so_far = work_asked number req work (with_sole_request number req (DoingWork work) so_far)
request_taken number req (asks.Entry entry) so_far =
    with_outbox_entry entry (with_sole_request number req (AwaitingDecision entry) so_far)

-- a request is refused for a cause, if there is one
abbrev pub request_taken_unless : Option Cause → ℕ → ℕ → Ask → StepState → StepState
request_taken_unless None number req ask so_far = request_taken number req ask so_far
request_taken_unless (Some cause) number req ask so_far = with_guest_reply req (Refused cause) so_far

-- a guest's request comes
unfoldable pub on_guest : ℕ → ℕ → Ask → StepState → StepState
on_guest req number ask so_far =
    request_taken_unless (request_refusal so_far.node.peer (session_in number so_far).disk ask) number req ask so_far
