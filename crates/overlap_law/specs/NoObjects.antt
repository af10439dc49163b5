-- No missing object: what a node doesn't have is no reason to refuse a request on a disk that is there and was available.
use Rattle.std.specs.Prelude.{◌≡◌, ◌≢◌, ℕ, ◌&&◌, Bool, true, false, List, slice_get, Option, Some, None, if◌then◌else◌}
use Rattle.std.specs.Option.{option_map}
use Rattle.std.specs.FinMap as tree
use Rattle.object_id.specs.declared.node.NodeId.{NodeId}
use Rattle.object_id.specs.declared.cause.Cause.TheVariants as causes
use Rattle.object_id.specs.declared.entry.Entry.{Entry}
use Rattle.object_id.specs.Oid.{vid_of}
use Rattle.vdi_directory.specs.declared.effect.Effect.{Effect}
use Rattle.vdi_directory.specs.Decisions.{log_effects}
use Rattle.vdi_directory.specs.Dead.{is_gone}
use Rattle.vdi_directory.specs.States.{state_of, is_live_state}
use Rattle.peer_proto.specs.declared.guest.GuestRsp.TheVariants as replies
use Rattle.peer_proto.specs.declared.say.PeerSay.TheVariants as says
use Rattle.peer_proto.specs.declared.say.PeerRsp.{PeerRsp}
use Rattle.peer_proto.specs.declared.say.Refusal.TheVariants as refusals
use Rattle.peer_proto.specs.Work.{oid_of}
use Rattle.gateway.specs.declared.message.Message.{Message}
use Rattle.gateway.specs.declared.message.Status.TheVariants as statuses
use Rattle.gateway.specs.Attempt as gateways
use Rattle.gateway.specs.State.{Open, Work}
use Rattle.guest_driver.specs.declared.disk.Disk.{Disk}
use Rattle.cluster_script.specs.declared.statement.Statement.{Statement}
use Rattle.cluster_script.specs.Language.{IsScript}
use Rattle.message_wire.specs.Message.{message_name}
use Rattle.sheep_node.specs.declared.event.Event.{Event}
use Rattle.sheep_node.specs.declared.course.Course.{Course}
use Rattle.sheep_node.specs.declared.course.Request.{Request}
use Rattle.sheep_node.specs.declared.course.Course.TheVariants.{Waiting, Driving, Commanding, Checking, DoingWork, AwaitingDecision}
use Rattle.sheep_node.specs.State.{Node, session_at}
use Rattle.sheep_world.specs.World.{World}
use Rattle.sheep_world.specs.Asking.{session_asking}
use Rattle.sheep_world.specs.Conditions.{is_disk_request_at}
use Rattle.sheep_world.specs.HistoryAdditions.{disk_of}
use Rattle.sheep_world.specs.Step.{EventOutcome}
use Rattle.sheep_world.specs.RunsWithAsks.{Move}
use Rattle.sheep_world.specs.Began.{MakesMove}
use Rattle.overlap_law.specs.Words.{Hosts}
use Rattle.overlap_law.specs.Each.{EachUp}
use Rattle.overlap_law.specs.Holders.{is_available_disk}
use Rattle.overlap_law.specs.Packets.{Wire, IsAnswering}
use Rattle.overlap_law.specs.Past.{MomentWithPast, run_with_past}

-- the disk that a request of the script is on: a read or write is on the one that its session had open when it began, a command on the
-- one whose inode it comes to; what a client asks is on none
abbrev pub disk_meant : List Statement → World → ℕ → ℕ → Option ℕ
disk_meant script world req oid =
    if is_disk_request_at script req
    then disk_of script req world
    else option_map (λ (session : ℕ). vid_of oid) (session_asking script req)

-- whether a disk is published and not deleted by the log, and was available up to here
abbrev pub is_there_and_available : List Entry → List ℕ → ℕ → Bool
is_there_and_available log unavailable vid = is_live_state (state_of (log_effects log) vid) && is_available_disk log unavailable vid

-- an event replies to a request that a node doesn't have an object
pub record RefusesForAnObject (made : EventOutcome) (req oid : ℕ) : Type 0 where
  pub place : ℕ
  pub node : NodeId
  pub there : slice_get made.world.outputs.replies place ≡ Some (req, replies.Refused (causes.NoObj node oid))

-- where it does, the request is on no disk that is there by the log and was available before the event
abbrev pub NoObjectIsMissing : List Statement → MomentWithPast → EventOutcome → Type 0
NoObjectIsMissing script before made = (req oid vid : ℕ) → RefusesForAnObject made req oid
    → disk_meant script before.world req oid ≡ Some vid → is_there_and_available made.world.log before.past.unavailable vid ≡ false

-- No missing object. For every script and every run of it, no reply to a request of the script says that a node doesn't have an object,
-- where the request is on a disk that is published, isn't deleted in the whole log, and was available up to there.
abbrev pub NoObjects : List Statement → Type 0
NoObjects script = IsScript script → (moves : List Move) (before : MomentWithPast) (event : Event) (made : EventOutcome)
    → run_with_past script moves ≡ Some before → MakesMove script event before.world made → NoObjectIsMissing script before made

-- the disk that a request's work is for, by its object: of a read or write the session's open one, of a command that of the inode, of
-- a check the one that it checks; a client without a script may ask for objects that were never made
abbrev pub disk_for : Option Disk → ℕ → Course → Option ℕ
disk_for opened oid (Waiting ask) = None
disk_for opened oid (Driving driver) = option_map (λ (disk : Disk). disk.inode.vid) opened
disk_for opened oid (Commanding op) = Some (vid_of oid)
disk_for opened oid (Checking check) = Some check.vid
disk_for opened oid (DoingWork work) = None
disk_for opened oid (AwaitingDecision entry) = None

-- a message of an open attempt, whose work is for a disk
pub record IsMessageFor (node : Node) (vid : ℕ) (message : Message) : Type 0 where
  pub req : ℕ
  pub work : Work
  pub current : gateways.Attempt
  pub request : Request
  pub place : ℕ
  pub there : tree.get node.gateway.works req ≡ Some work
  pub stage : work.stage ≡ Open current
  pub among : slice_get current.messages place ≡ Some message
  pub asker : tree.get node.requests req ≡ Some request
  pub disk : disk_for (session_at request.session node).disk (oid_of work.work) request.course ≡ Some vid

-- a part of the invariant: no message for a disk that was available, and is neither deleted nor given back, is refused since its target
-- doesn't have the object, as far as its gateway knows; nor does a reply on its way say so of one of which nothing came yet
pub record NothingIsLacked (effects : List Effect) (good_id : ℕ → Bool) (hosts : Hosts) (wire : Wire) : Type 0 where
  pub known : EachUp hosts (λ n node. (vid : ℕ) (message : Message) → IsMessageFor node vid message
      → is_gone (state_of effects vid) ≡ false → good_id vid ≡ true → message.status ≢ statuses.Refused refusals.NoObj)
  pub told : EachUp hosts (λ n node. (vid : ℕ) (message : Message) (from : NodeId) (reply : PeerRsp) → IsMessageFor node vid message
      → message.status ≡ statuses.Unanswered → is_gone (state_of effects vid) ≡ false → good_id vid ≡ true
      → IsAnswering wire (message_name n message.number) from reply → reply.say ≢ says.Refused refusals.NoObj)
