-- What nodes have, know of and tell is of objects that were born.
use Rattle.std.specs.Prelude.{◌≡◌, ℕ, true, List, Some, slice_get, All, IfSome}
use Rattle.object_id.specs.declared.node.NodeId.{NodeId}
use Rattle.object_id.specs.declared.node.Epoch.{Epoch}
use Rattle.peer_proto.specs.declared.ask.PeerAsk.TheVariants as asks
use Rattle.peer_proto.specs.declared.say.PeerRsp.{PeerRsp}
use Rattle.peer_proto.specs.declared.say.PeerSay.TheVariants as says
use Rattle.message_wire.specs.declared.name.MessageName.{MessageName}
use Rattle.recovery.specs.State.{Search, Message}
use Rattle.overlap_law.specs.Attempts.{AttemptRecord, object_of}
use Rattle.overlap_law.specs.Words.{Hosts}
use Rattle.overlap_law.specs.Holders.{is_object_among, born_objects}
use Rattle.overlap_law.specs.Each.{EachHost, EachRow, EachAttempt}
use Rattle.overlap_law.specs.Packets.{Wire, IsAnswering}

-- a create of the object was sent
abbrev pub IsBorn : List AttemptRecord → ℕ → Type 0
IsBorn attempts oid = is_object_among oid (born_objects attempts) ≡ true

-- each attempt is on an object that was born
abbrev pub AttemptsAreOfTheBorn : List AttemptRecord → Type 0
AttemptsAreOfTheBorn attempts = EachAttempt attempts (λ j attempt. IsBorn attempts (object_of attempt))

-- the objects of which nodes have rows, those that they have still to recover, those that their recoveries were told of, search
-- and ask for, and those of lists on their way
pub record ObjectsWereBorn (hosts : Hosts) (wire : Wire) (attempts : List AttemptRecord) : Type 0 where
  pub rows : EachRow hosts (λ n host oid row. IsBorn attempts oid)
  pub pending : EachHost hosts (λ n host. IfSome host.node.peer.pending (All (IsBorn attempts)))
  pub listed : EachHost hosts (λ n host. All (IsBorn attempts) host.node.recovery.lists.objects)
  pub searched : EachHost hosts (λ n host. IfSome host.node.recovery.search (λ (search : Search). IsBorn attempts search.oid))
  pub asked : EachHost hosts (λ n host. (place oid : ℕ) (level : Epoch) (message : Message)
      → slice_get host.node.recovery.unanswered place ≡ Some message → message.request.ask ≡ asks.RecoverRead oid level
      → IsBorn attempts oid)
  pub told : (name : MessageName) (from : NodeId) (reply : PeerRsp) (oids : List ℕ) → IsAnswering wire name from reply
      → reply.say ≡ says.Objects oids → All (IsBorn attempts) oids
