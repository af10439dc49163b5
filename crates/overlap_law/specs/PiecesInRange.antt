-- Requests in the wire ask for pieces inside the rows of their objects.
use Rattle.std.specs.Prelude.{◌≡◌, ℕ, ◌+◌, ◌≤◌, List, length, Some, Ok}
use Rattle.object_id.specs.declared.entry.VdiSpec.{VdiSpec}
use Rattle.object_id.specs.declared.node.NodeId.{NodeId}
use Rattle.object_id.specs.Oid.{kind_of, vid_of}
use Rattle.peer_proto.specs.declared.ask.PeerAsk.{PeerAsk}
use Rattle.peer_proto.specs.declared.ask.PeerAsk.TheVariants as asks
use Rattle.peer_proto.specs.declared.ask.PeerReq.{PeerReq}
use Rattle.peer_proto.specs.Ask.{ask_in}
use Rattle.vdi_directory.specs.declared.effect.Effect.{Effect}
use Rattle.vdi_directory.specs.Decisions.{log_effects}
use Rattle.peer_service.specs.State.{row_size}
use Rattle.message_wire.specs.declared.name.MessageName.{MessageName}
use Rattle.message_wire.specs.declared.packet.Packet.TheVariants.{Request}
use Rattle.sheep_world.specs.World.{World, message_at}
use Rattle.overlap_law.specs.Each.{spec_in}

-- a piece ends inside the rows of an object, whose id was reserved
pub record EndsInRows (effects : List Effect) (oid end : ℕ) : Type 0 where
  pub spec : VdiSpec
  pub made : spec_in effects (vid_of oid) ≡ Some spec
  pub inside : end ≤ row_size (kind_of oid) spec

-- what is asked to create, write or read is so
abbrev pub PiecesEndInRows : List Effect → PeerAsk → Type 0
PiecesEndInRows effects (asks.Create key size offset bytes) = offset + length bytes ≤ size
PiecesEndInRows effects (asks.Write key offset bytes) = EndsInRows effects key.oid (offset + length bytes)
PiecesEndInRows effects (asks.Read key offset size) = EndsInRows effects key.oid (offset + size)
PiecesEndInRows effects asks.List = Unit {0}
PiecesEndInRows effects (asks.RecoverRead oid level) = Unit {0}

-- each request in the wire is so
pub record PiecesAreInRange (world : World) : Type 0 where
  pub each : (name : MessageName) (to : NodeId) (bytes : List ℕ) (request : PeerReq) → message_at name world ≡ Some (Request to bytes)
      → ask_in bytes ≡ Ok request → PiecesEndInRows (log_effects world.log) request.ask
