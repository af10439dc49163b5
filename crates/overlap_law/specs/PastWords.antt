-- What an event adds to the past beside attempts: losses, refusals, finished lists, objects that aren't available, and the history.
use Rattle.std.specs.Prelude.{ℕ, ◌==◌, Bool, true, false, not, ◌&&◌, List, [], ◌∷◌, map, filter, Option, Some, None, is_some}
use Rattle.std.specs.Prelude.{if◌then◌else◌}
use Rattle.std.specs.List.{filter_map}
use Rattle.std.specs.FinMap as tree
use Rattle.object_id.specs.declared.node.NodeId.{NodeId}
use Rattle.object_id.specs.declared.entry.Entry.{Entry}
use Rattle.cluster_script.specs.declared.statement.Statement.{Statement}
use Rattle.disk_history.specs.declared.event.HistEvent.{HistEvent}
use Rattle.disk_history.specs.declared.event.HistEvent.TheVariants as acts
use Rattle.peer_proto.specs.declared.guest.GuestRsp.{GuestRsp}
use Rattle.peer_proto.specs.declared.guest.GuestRsp.TheVariants as replies
use Rattle.recovery.specs.State.{Recovery, is_listed}
use Rattle.sheep_node.specs.declared.event.Event.{Event}
use Rattle.sheep_node.specs.declared.event.Event.TheVariants.{Guest, Deliver, LoseRequest, LoseReply, LogNext, Put, RecoverTick, RetryTick}
use Rattle.sheep_node.specs.declared.event.Event.TheVariants.{Lost, Leave, Join, Reweight, Back, Phase}
use Rattle.message_wire.specs.declared.name.MessageName.{MessageName}
use Rattle.sheep_world.specs.World.{Host, World, host_at}
use Rattle.sheep_world.specs.Asking.{session_asking}
use Rattle.sheep_world.specs.Incarnations.{EndedIncarnation, counts_for}
use Rattle.overlap_law.specs.Attempts.{AttemptRecord}
use Rattle.overlap_law.specs.Holders.{unavailable_in, is_available_disk, is_object_among}

-- the objects of which a node had rows when its list of an epoch was finished
pub record FinishedList : Type 0 where
  pub node : NodeId
  pub epoch : ℕ
  pub own : List ℕ

-- the messages that an event loses, or whose replies it does
abbrev pub messages_lost_by : Event → List MessageName
messages_lost_by (Guest session) = []
messages_lost_by (Deliver node number) = []
messages_lost_by (LoseRequest node number) = record { sender = node; number = number } ∷ []
messages_lost_by (LoseReply node number) = record { sender = node; number = number } ∷ []
messages_lost_by (LogNext node) = []
messages_lost_by (Put node) = []
messages_lost_by (RecoverTick node) = []
messages_lost_by (RetryTick node) = []
messages_lost_by (Lost node) = []
messages_lost_by (Leave node) = []
messages_lost_by (Join node) = []
messages_lost_by (Reweight node) = []
messages_lost_by (Back node) = []
messages_lost_by Phase = []

-- whether a reply to a guest refuses
abbrev pub is_refusal : GuestRsp → Bool
is_refusal replies.Done = false
is_refusal (replies.Piece bytes) = false
is_refusal (replies.Refused cause) = true
is_refusal (replies.Granted vid) = false
is_refusal (replies.Checked found) = false

-- whether a reply refuses a request of the script; what a client asks is none
abbrev pub refuses_request : List Statement → ℕ × GuestRsp → Bool
refuses_request script answer = is_refusal answer.1 && is_some (session_asking script answer.0)

-- the requests of the script that a step refused
abbrev pub refused_in : List Statement → List (ℕ × GuestRsp) → List ℕ
refused_in script answers = map (λ (answer : ℕ × GuestRsp). answer.0) (filter (refuses_request script) answers)

-- whether a node's list of an epoch is finished, which before wasn't
abbrev pub finishes : Recovery → Recovery → Bool
finishes old new = is_listed new && not (is_listed old && old.epoch == new.epoch)

-- what a node had when its list was finished, where the step from one host to another finished it
abbrev pub listed_in : Option Host → Host → Option FinishedList
listed_in None new = None
listed_in (Some old) new =
    if finishes old.node.recovery new.node.recovery
    then Some (record { node = new.node.me; epoch = new.node.recovery.epoch; own = tree.keys new.node.peer.rows })
    else None

-- the lists that an event finished
abbrev pub listed_by : World → World → List FinishedList
listed_by old new =
    filter_map (λ (entry : ℕ × Host). listed_in (host_at entry.0 old) entry.1) (tree.entries new.hosts)

-- whether an event of the history counts where disks that weren't available are left out: it reads no such disk
abbrev pub is_counted : List Entry → List ℕ → HistEvent → Bool
is_counted log unavailable (acts.Create disk blocks) = true
is_counted log unavailable (acts.Copy old new) = true
is_counted log unavailable (acts.Delete disk) = true
is_counted log unavailable (acts.WriteStart req disk block coded bytes) = true
is_counted log unavailable (acts.WriteDone req) = true
is_counted log unavailable (acts.WriteRefused req) = true
is_counted log unavailable (acts.WriterLost req) = true
is_counted log unavailable (acts.Read disk block bytes) = is_available_disk log unavailable disk

-- whether a node counts for an epoch at a state
abbrev pub counts : List EndedIncarnation → World → NodeId → ℕ → Bool
counts ended world node epoch = counts_for epoch world ended node.0

-- the objects that aren't available at a state, and aren't among those before
abbrev pub unavailable_at : List EndedIncarnation → World → List AttemptRecord → List ℕ → List ℕ
unavailable_at ended world attempts before =
    filter (λ oid. not (is_object_among oid before)) (unavailable_in (counts ended world) world.log attempts)
