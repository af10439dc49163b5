-- An attempt: its messages, what becomes of each, and what they come to when none is unanswered.
use Rattle.std.specs.Prelude.{ℕ, ◌==◌, nat_le, Bool, true, false, not, List, [], ◌∷◌, length, take, map, flat_map}
use Rattle.std.specs.Prelude.{filter, Option, Some, None}
use Rattle.std.specs.Prelude.{if◌then◌else◌}
use Rattle.std.specs.List.{list_any, list_all, enumerate_from}
use Rattle.object_id.specs.declared.cause.Cause.{Cause}
use Rattle.object_id.specs.declared.cause.Cause.TheVariants as causes
use Rattle.object_id.specs.declared.node.Epoch.{Epoch}
use Rattle.object_id.specs.declared.node.NodeId.{NodeId}
use Rattle.object_id.specs.declared.oid.Kind.{Kind}
use Rattle.object_id.specs.declared.policy.Policy.{Policy}
use Rattle.object_id.specs.Oid.{kind_of}
use Rattle.object_id.specs.Policy.{need_of}
use Rattle.gf256.specs.Part.{bytes_of_parts, index_at}
use Rattle.peer_proto.specs.declared.work.ObjWork.{ObjWork}
use Rattle.peer_proto.specs.declared.work.ObjWork.TheVariants.{Create, Write, Read, ReadAll}
use Rattle.peer_proto.specs.declared.ask.PeerReq.{PeerReq}
use Rattle.peer_proto.specs.declared.say.PeerSay.{PeerSay}
use Rattle.peer_proto.specs.declared.say.PeerSay.TheVariants as says
use Rattle.peer_proto.specs.declared.say.Refusal.{Refusal}
use Rattle.peer_proto.specs.declared.say.Refusal.TheVariants as refusals
use Rattle.gateway.specs.declared.message.Message.{Message}
use Rattle.gateway.specs.declared.message.Status.{Status}
use Rattle.gateway.specs.declared.message.Status.TheVariants.{Unanswered, Succeeded, Refused, Lost}
use Rattle.peer_proto.specs.Work.{oid_of, policy_of}
use Rattle.gateway.specs.Work.{targets_asked, ask_for}

-- an attempt belongs to an epoch, and has its messages in the order of the targets
pub record Attempt : Type 0 where
  pub epoch : Epoch
  pub messages : List Message

-- the message of a number to a target, which stands at a place of the target list
abbrev pub message_for : ObjWork → ℕ × (ℕ × NodeId) → Message
message_for work target = record {
  number = target.0;
  node = target.1.1;
  index = index_at (policy_of work) (kind_of (oid_of work)) target.1.0;
  status = Unanswered;
}

-- the messages of a work's attempt to these targets, numbered upwards from `first`
abbrev pub messages_of : ObjWork → ℕ → ℕ → List NodeId → List Message
messages_of work attempt first targets = map (message_for work) (enumerate_from first (targets_asked work attempt targets))

-- how a message is sent: the node that it goes to, and what it asks there
abbrev pub send_of : NodeId → Epoch → ObjWork → Message → NodeId × PeerReq
send_of me epoch work message =
    (message.node, record { from = me; number = message.number; epoch = epoch; ask = ask_for work message.index })

-- whether nothing came of a message yet
abbrev pub is_unanswered : Status → Bool
is_unanswered Unanswered = true
is_unanswered (Succeeded bytes) = false
is_unanswered (Refused refusal) = false
is_unanswered Lost = false

-- whether a message succeeded
abbrev pub is_success : Status → Bool
is_success Unanswered = false
is_success (Succeeded bytes) = true
is_success (Refused refusal) = false
is_success Lost = false

-- whether the node made what it was asked for, or may have made it
abbrev pub may_be_made : Status → Bool
may_be_made Unanswered = false
may_be_made (Succeeded bytes) = true
may_be_made (Refused refusal) = false
may_be_made Lost = true

-- what a reply says of its message. A list or a row answers no message of a gateway
abbrev pub status_by : PeerSay → Status
status_by says.Success = Succeeded []
status_by (says.Piece bytes) = Succeeded bytes
status_by (says.Objects oids) = Unanswered
status_by (says.Row row) = Unanswered
status_by says.NoRow = Unanswered
status_by (says.Refused refusal) = Refused refusal

-- whether the message of this number is unanswered
abbrev pub is_awaited_message : ℕ → Message → Bool
is_awaited_message number message = if message.number == number then is_unanswered message.status else false

-- the messages, with what is now known of the one of this number
abbrev pub messages_with_status : ℕ → Status → List Message → List Message
messages_with_status number status messages =
    map (λ (message : Message). if message.number == number then record message { status = status } else message) messages

-- an attempt ends where none of its messages is unanswered
abbrev pub is_over : List Message → Bool
is_over messages = not (list_any (λ (message : Message). is_unanswered message.status) messages)

-- the messages that succeeded, in the order of the targets
abbrev pub successes : List Message → List Message
successes messages = filter (λ (message : Message). is_success message.status) messages

-- a create, a write and a read of all parts are done where all messages of one attempt succeeded, any other read where as
-- many did as it needs
abbrev pub is_done : ObjWork → List Message → Bool
is_done (Create oid policy size offset bytes) messages = list_all (λ (message : Message). is_success message.status) messages
is_done (Write oid policy offset bytes) messages = list_all (λ (message : Message). is_success message.status) messages
is_done (Read oid policy offset size) messages = nat_le (need_of policy (kind_of oid)) (length (successes messages))
is_done (ReadAll oid policy size) messages = list_all (λ (message : Message). is_success message.status) messages

-- the bytes that a message gave
abbrev pub bytes_in : Status → List ℕ
bytes_in Unanswered = []
bytes_in (Succeeded bytes) = bytes
bytes_in (Refused refusal) = []
bytes_in Lost = []

-- the bytes whose parts the messages gave, each under its index
abbrev pub bytes_through : Policy → Kind → List Message → List ℕ
bytes_through policy kind messages =
    bytes_of_parts policy kind
    (map (λ (message : Message). message.index) messages)
    (map (λ (message : Message). bytes_in message.status) messages)

-- what a done work gives: a read the bytes by the first parts that came, as many as it needs; a read of all parts the
-- pieces as they came, in the order of the targets; a create or write none
abbrev pub bytes_given : ObjWork → List Message → List ℕ
bytes_given (Create oid policy size offset bytes) messages = []
bytes_given (Write oid policy offset bytes) messages = []
bytes_given (Read oid policy offset size) messages =
    bytes_through policy (kind_of oid) (take (need_of policy (kind_of oid)) (successes messages))
bytes_given (ReadAll oid policy size) messages = flat_map (λ (message : Message). bytes_in message.status) messages

-- the cause in which a node's refusal of an attempt's message is told
abbrev pub cause_by : ObjWork → Epoch → NodeId → Refusal → Cause
cause_by work epoch node (refusals.OldEpoch own) = causes.OldEpoch node epoch own
cause_by work epoch node (refusals.NewEpoch own) = causes.NewEpoch node epoch own
cause_by work epoch node refusals.Recovery = causes.Recovery node epoch
cause_by work epoch node refusals.NoObj = causes.NoObj node (oid_of work)

-- why a message didn't succeed, where it didn't: its refusal, or the link where it was lost
abbrev pub failure : ObjWork → Epoch → NodeId → Status → Option Cause
failure work epoch node Unanswered = None
failure work epoch node (Succeeded bytes) = None
failure work epoch node (Refused refusal) = Some (cause_by work epoch node refusal)
failure work epoch node Lost = Some (causes.Link node)

-- the first of two causes that is there
abbrev pub first_cause : Option Cause → Option Cause → Option Cause
first_cause None later = later
first_cause (Some cause) later = Some cause

-- why the first message, in the order of the targets, that didn't succeed didn't
abbrev pub first_failure : ObjWork → Epoch → List Message → Option Cause
first_failure work epoch [] = None
first_failure work epoch (message ∷ messages) =
    first_cause (failure work epoch message.node message.status) (first_failure work epoch messages)
