-- Who is asked for a row: a target of the object in the epoch of the request, under the index of its part.
use Rattle.std.specs.Prelude.{◌≡◌, ℕ, ◌≤◌, List, Some, Ok}
use Rattle.object_id.specs.declared.entry.Entry.{Entry}
use Rattle.object_id.specs.declared.node.NodeId.{NodeId}
use Rattle.object_id.specs.declared.policy.Policy.{Policy}
use Rattle.epoch_log.specs.Epochs.{epoch_of}
use Rattle.object_store.specs.declared.key.Key.{Key}
use Rattle.vdi_directory.specs.Decisions.{log_effects}
use Rattle.peer_proto.specs.declared.ask.PeerAsk.{PeerAsk}
use Rattle.peer_proto.specs.declared.ask.PeerAsk.TheVariants as asks
use Rattle.peer_proto.specs.declared.ask.PeerReq.{PeerReq}
use Rattle.peer_proto.specs.Ask.{ask_in}
use Rattle.message_wire.specs.declared.name.MessageName.{MessageName}
use Rattle.message_wire.specs.declared.packet.Packet.TheVariants.{Request}
use Rattle.sheep_world.specs.World.{World, message_at}
use Rattle.overlap_law.specs.Each.{policy_in, index_of_part}
use Rattle.overlap_law.specs.Holders.{targets_by}

-- a node is to keep the part of a key in an epoch that has begun
pub record IsTargetOf (log : List Entry) (to : NodeId) (epoch : ℕ) (key : Key) : Type 0 where
  pub begun : epoch ≤ epoch_of log
  pub policy : Policy
  pub made : policy_in (log_effects log) key.oid ≡ Some policy
  pub at : index_of_part (targets_by log) epoch key.oid policy to ≡ Some key.index

-- what is asked of a row is asked of such a node
abbrev pub AsksTarget : List Entry → NodeId → ℕ → PeerAsk → Type 0
AsksTarget log to epoch (asks.Create key size offset bytes) = IsTargetOf log to epoch key
AsksTarget log to epoch (asks.Write key offset bytes) = IsTargetOf log to epoch key
AsksTarget log to epoch (asks.Read key offset size) = IsTargetOf log to epoch key
AsksTarget log to epoch asks.List = Unit {0}
AsksTarget log to epoch (asks.RecoverRead oid level) = Unit {0}

-- each request in the wire that asks for a row does
pub record AsksGoToTargets (world : World) : Type 0 where
  pub each : (name : MessageName) (to : NodeId) (bytes : List ℕ) (request : PeerReq) → message_at name world ≡ Some (Request to bytes)
      → ask_in bytes ≡ Ok request → AsksTarget world.log to request.epoch.0 request.ask
