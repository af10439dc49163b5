-- How a request goes on, and what its session has open then.
use Rattle.std.specs.Prelude.{ℕ, List, Option, Some, None}
use Rattle.std.specs.Option.{option_map, option_map_or}
use Rattle.inode.specs.Layout.{Content}
use Rattle.peer_proto.specs.declared.guest.GuestRsp.{GuestRsp}
use Rattle.peer_proto.specs.declared.guest.GuestRsp.TheVariants as replies
use Rattle.peer_proto.specs.declared.work.ObjWork.{ObjWork}
use Rattle.peer_proto.specs.declared.work.ObjWork.TheVariants.{Create, Write, Read, ReadAll}
use Rattle.vdi_directory.specs.declared.decision.Decision.{Decision}
use Rattle.vdi_directory.specs.declared.decision.Decision.TheVariants as decisions
use Rattle.peer_service.specs.State.{effects_of}
use Rattle.guest_driver.specs.declared.disk.Disk.{Disk}
use Rattle.guest_driver.specs.declared.act.DriverAct.{DriverAct}
use Rattle.guest_driver.specs.declared.act.DriverAct.TheVariants as driver_acts
use Rattle.guest_driver.specs.Driver as drivers
use Rattle.guest_driver.specs.Driver.{Driver}
use Rattle.disk_check.specs.declared.act.CheckAct.{CheckAct}
use Rattle.disk_check.specs.declared.act.CheckAct.TheVariants as check_acts
use Rattle.disk_check.specs.Check as checks
use Rattle.disk_check.specs.Check.{check_on_done}
use Rattle.vdi_ops.specs.declared.act.OpAct.{OpAct}
use Rattle.vdi_ops.specs.declared.act.OpAct.TheVariants as op_acts
use Rattle.vdi_ops.specs.Op as ops
use Rattle.vdi_ops.specs.Op.{DiskChange, Stays, Opens, Closes, disk_change}
use Rattle.vdi_ops.specs.Steps.{on_decision, op_on_done}
use Rattle.sheep_node.specs.declared.course.Course.{Course}
use Rattle.sheep_node.specs.declared.course.Course.TheVariants.{Waiting, Driving, Commanding, Checking, DoingWork, AwaitingDecision}
use Rattle.sheep_node.specs.StepState.{StepState, with_outbox_entry, with_session, session_in, with_disk, with_course, with_sole_request}
use Rattle.sheep_node.specs.StepState.{request_ended}
use Rattle.sheep_node.specs.RequestWorks.{work_asked}

-- a driver's act: a work is come to, or the request ends
abbrev pub driver_acted : ℕ → ℕ → DriverAct → StepState → StepState
driver_acted number req (driver_acts.Work work) so_far = work_asked number req work so_far
driver_acted number req (driver_acts.Reply reply) so_far = request_ended number req reply so_far

-- a read or write has taken a step, with the inode that this leaves to the session's disk
abbrev pub after_driver_step : ℕ → ℕ → Disk → drivers.DriverStep → StepState → StepState
after_driver_step number req disk step so_far =
    with_course number req (Driving step.driver) (with_disk number (Some (record disk { inode = step.inode })) so_far)

-- a read or write goes on by a step of its driver
unfoldable pub driver_stepped : ℕ → ℕ → Disk → drivers.DriverStep → StepState → StepState
driver_stepped number req disk step so_far = driver_acted number req step.act (after_driver_step number req disk step so_far)

-- a read or write goes on, on the disk that the session has open
abbrev pub disk_went_on : ℕ → ℕ → List ℕ → Driver → Option Disk → StepState → StepState
disk_went_on number req bytes driver None so_far = so_far
disk_went_on number req bytes driver (Some disk) so_far =
    option_map_or (λ (step : drivers.DriverStep). driver_stepped number req disk step so_far)
    (drivers.driver_on_done disk.inode bytes driver) so_far

-- what a session has open once a command has left this of it
abbrev pub disk_after : DiskChange → Option Disk → Option Disk
disk_after Stays disk = disk
disk_after (Opens snapshot inode) disk = Some (record { inode = inode; snapshot = snapshot })
disk_after Closes disk = None

-- the inode of what a session has open
abbrev pub inode_open : Option Disk → Option Content
inode_open disk = option_map (λ (disk : Disk). disk.inode) disk

-- a command has taken a step: it is the session's command, and with its reply another disk may be open
abbrev pub after_command_step : ℕ → ℕ → ops.OpStep → StepState → StepState
after_command_step number req step so_far = with_session
    number
    (record (session_in number so_far) {
      disk = disk_after (disk_change step) (session_in number so_far).disk;
      command = Some req;
    })
    (with_course number req (Commanding step.op) so_far)

-- a command's act: its entry stands in the outbox, a work is come to, or the request ends
abbrev pub command_acted : ℕ → ℕ → OpAct → StepState → StepState
command_acted number req (op_acts.Append entry) so_far = with_outbox_entry entry so_far
command_acted number req (op_acts.Work work) so_far = work_asked number req work so_far
command_acted number req (op_acts.Reply reply) so_far = request_ended number req reply so_far

-- a command goes on by a step
unfoldable pub command_stepped : ℕ → ℕ → ops.OpStep → StepState → StepState
command_stepped number req step so_far = command_acted number req step.act (after_command_step number req step so_far)

-- a check's act: a work is come to, or the request ends with what was found
abbrev pub check_acted : ℕ → ℕ → CheckAct → StepState → StepState
check_acted number req (check_acts.Work work) so_far = work_asked number req work so_far
check_acted number req (check_acts.Reply found) so_far = request_ended number req (replies.Checked found) so_far

-- a check goes on by a step
unfoldable pub check_stepped : ℕ → ℕ → checks.CheckStep → StepState → StepState
check_stepped number req step so_far = check_acted number req step.act (with_sole_request number req (Checking step.check) so_far)

-- what a client without a script is told of its work: a read's bytes
abbrev pub work_reply : ObjWork → List ℕ → GuestRsp
work_reply (Create oid policy size offset written) bytes = replies.Done
work_reply (Write oid policy offset written) bytes = replies.Done
work_reply (Read oid policy offset size) bytes = replies.Piece bytes
work_reply (ReadAll oid policy size) bytes = replies.Piece bytes

-- what it is told of its entry: which id was granted, or the refusal; the end of a lock is granted nothing
abbrev pub decision_reply : Decision → GuestRsp
decision_reply decisions.None = replies.Done
decision_reply (decisions.Granted vid) = replies.Granted vid
decision_reply (decisions.Refused cause) = replies.Refused cause

-- a request's work is done, and the request goes on with the bytes that it gave
unfoldable pub course_went_on : ℕ → ℕ → List ℕ → Course → StepState → StepState
course_went_on number req bytes (Waiting ask) so_far = so_far
course_went_on number req bytes (Driving driver) so_far =
    disk_went_on number req bytes driver (session_in number so_far).disk so_far
course_went_on number req bytes (Commanding op) so_far =
    option_map_or (λ (step : ops.OpStep). command_stepped number req step so_far) (op_on_done bytes op) so_far
course_went_on number req bytes (Checking check) so_far =
    option_map_or (λ (step : checks.CheckStep). check_stepped number req step so_far) (check_on_done bytes check) so_far
course_went_on number req bytes (DoingWork work) so_far = request_ended number req (work_reply work bytes) so_far
course_went_on number req bytes (AwaitingDecision entry) so_far = so_far

-- the entry that a request waits for was read and decided; by now the directory knows what the entry did
unfoldable pub course_decided : ℕ → ℕ → Decision → Course → StepState → StepState
course_decided number req decision (Waiting ask) so_far = so_far
course_decided number req decision (Driving driver) so_far = so_far
course_decided number req decision (Commanding op) so_far =
    option_map_or (λ (step : ops.OpStep). command_stepped number req step so_far)
    (on_decision (effects_of so_far.node.peer) (inode_open (session_in number so_far).disk) decision op) so_far
course_decided number req decision (Checking check) so_far = so_far
course_decided number req decision (DoingWork work) so_far = so_far
course_decided number req decision (AwaitingDecision entry) so_far = request_ended number req (decision_reply decision) so_far
