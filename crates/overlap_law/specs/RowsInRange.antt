-- Rows that can be told: each is as the rows of its object are, its epochs can be spelled, and a node has rows of few objects.
use Rattle.std.specs.Prelude.{◌≡◌, ℕ, ◌+◌, ◌^◌, ◌<◌, ◌≤◌, List, length, Some, Ok}
use Rattle.std.specs.FinMap as tree
use Rattle.object_id.specs.declared.entry.VdiSpec.{VdiSpec}
use Rattle.object_id.specs.Oid.{kind_of, vid_of}
use Rattle.object_id.specs.Policy.{wanted_of}
use Rattle.object_store.specs.Store.{SeenRow}
use Rattle.object_id.specs.declared.node.NodeId.{NodeId}
use Rattle.peer_proto.specs.declared.ask.PeerAsk.{PeerAsk}
use Rattle.peer_proto.specs.declared.ask.PeerAsk.TheVariants as asks
use Rattle.peer_proto.specs.declared.ask.PeerReq.{PeerReq}
use Rattle.peer_proto.specs.Ask.{ask_in}
use Rattle.peer_proto.specs.Header.{IsEpoch}
use Rattle.peer_proto.specs.Say.{IsEnd}
use Rattle.vdi_directory.specs.declared.effect.Effect.{Effect}
use Rattle.vdi_directory.specs.Decisions.{log_effects}
use Rattle.peer_service.specs.State.{row_size}
use Rattle.message_wire.specs.declared.name.MessageName.{MessageName}
use Rattle.message_wire.specs.declared.packet.Packet.TheVariants.{Request}
use Rattle.sheep_world.specs.World.{World, message_at}
use Rattle.overlap_law.specs.Each.{EachHost, EachRow, spec_in}

-- a row is as the rows of its object are: the object's id was reserved, the row's index is that of a part, and it has the length of one;
-- and its epochs can be spelled
pub record IsRowOfObject (effects : List Effect) (oid : ℕ) (row : SeenRow) : Type 0 where
  pub spec : VdiSpec
  pub made : spec_in effects (vid_of oid) ≡ Some spec
  pub index : row.index < wanted_of spec.policy (kind_of oid)
  pub size : length row.bytes ≡ row_size (kind_of oid) spec
  pub from : IsEpoch row.from
  pub to : IsEnd row.to

-- each row of each node is so, and a node has rows of few objects: their ids fill less than 2^32 bytes
pub record RowsCanBeTold (world : World) : Type 0 where
  pub rows : EachRow world.hosts (λ n host oid row. IsRowOfObject (log_effects world.log) oid row)
  pub few : EachHost world.hosts (λ n host. length (tree.keys host.node.peer.rows) < 2 ^ 29)

-- a create is as the rows of its object are: the object's id was reserved, the index is that of a part, the row has the length of one, and
-- the piece ends inside
pub record IsCreateOf (effects : List Effect) (oid index size end : ℕ) : Type 0 where
  pub spec : VdiSpec
  pub made : spec_in effects (vid_of oid) ≡ Some spec
  pub index_below : index < wanted_of spec.policy (kind_of oid)
  pub size_so : size ≡ row_size (kind_of oid) spec
  pub inside : end ≤ size

-- what is asked, if it is a create, is so
abbrev pub CreatesAsRowsAre : List Effect → PeerAsk → Type 0
CreatesAsRowsAre effects (asks.Create key size offset bytes) = IsCreateOf effects key.oid key.index size (offset + length bytes)
CreatesAsRowsAre effects (asks.Write key offset bytes) = Unit {0}
CreatesAsRowsAre effects (asks.Read key offset size) = Unit {0}
CreatesAsRowsAre effects asks.List = Unit {0}
CreatesAsRowsAre effects (asks.RecoverRead oid level) = Unit {0}

-- each create in the wire is so
pub record CreatesAreInRange (world : World) : Type 0 where
  pub each : (name : MessageName) (to : NodeId) (bytes : List ℕ) (request : PeerReq) → message_at name world ≡ Some (Request to bytes)
      → ask_in bytes ≡ Ok request → CreatesAsRowsAre (log_effects world.log) request.ask

-- a node has rows of few objects: their ids fill less than 2^32 bytes
pub record ObjectsAreFew (world : World) : Type 0 where
  pub few : EachHost world.hosts (λ n host. length (tree.keys host.node.peer.rows) < 2 ^ 29)
