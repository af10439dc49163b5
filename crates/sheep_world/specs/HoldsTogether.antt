-- What holds of a world by which nodes and wire stay together at the next event.
use Rattle.std.specs.Prelude.{◌≡◌, ℕ, true, List, Some, None, Ok, IsTrue}
use Rattle.std.specs.FinMap as tree
use Rattle.object_id.specs.declared.node.NodeId.{NodeId}
use Rattle.cluster_script.specs.declared.statement.Statement.{Statement}
use Rattle.peer_proto.specs.declared.ask.PeerReq.{PeerReq}
use Rattle.peer_proto.specs.Ask.{ask_in}
use Rattle.peer_proto.specs.Say.{say_bytes, say_in}
use Rattle.peer_service.specs.Serve.{reply_to}
use Rattle.sheep_node.specs.May.{fits_node}
use Rattle.message_wire.specs.declared.name.MessageName.{MessageName}
use Rattle.message_wire.specs.declared.packet.Packet.TheVariants.{Request}
use Rattle.sheep_world.specs.World.{Host, World, host_at, is_host_up, message_at}
use Rattle.sheep_world.specs.OneWork.{NodesHaveOneWorkPerRequest, WorksAskInRange}
use Rattle.sheep_world.specs.Ranges.{RecoveriesAreInRange}
use Rattle.sheep_world.specs.WireMatch.{WireMatchesNodes}
use Rattle.sheep_world.specs.BegunRequests.{RequestsWereBegun}
use Rattle.sheep_world.specs.ClientAsks.{next_ask_number}
use Rattle.sheep_world.specs.ControlsToCome.{ControlsFit}

-- a request is in the wire, can be read, and goes to the up node in a host
pub record IsForHost (world : World) (name : MessageName) (to : NodeId) (request : PeerReq) (host : Host) : Type 0 where
  pub bytes : List ℕ
  pub there : message_at name world ≡ Some (Request to bytes)
  pub read : ask_in bytes ≡ Ok request
  pub receiver : host_at to.0 world ≡ Some host
  pub up : is_host_up host ≡ true

-- what a node replies can be read, and fits what the sender waits for, where that is up
pub record RepliesFit (world : World) : Type 0 where
  pub spelled : (name : MessageName) (to : NodeId) (request : PeerReq) (host : Host) → IsForHost world name to request host
      → say_in (say_bytes (reply_to host.node.peer request)) ≡ Ok (reply_to host.node.peer request)
  pub fitting : (name : MessageName) (to : NodeId) (request : PeerReq) (host sender : Host) → IsForHost world name to request host
      → host_at name.sender.0 world ≡ Some sender → is_host_up sender ≡ true
      → IsTrue (fits_node (reply_to host.node.peer request) sender.node)

-- what was sent last for works, and what is replied next, is in range
pub record MessagesAreInRange (world : World) : Type 0 where
  pub sent : WorksAskInRange world
  pub replies : RepliesFit world

-- no node has a request of the number of the client's next one
abbrev pub NextAskIsNew : World → Type 0
NextAskIsNew world = (node : ℕ) (host : Host) → host_at node world ≡ Some host
    → tree.get host.node.requests (next_ask_number world) ≡ None

-- nodes and wire go together, and so do works and requests; the script's requests were begun, the client's next is new, the controls to
-- come fit, recoveries are in range, and so are messages
pub record HoldsTogether (statements : List Statement) (world : World) : Type 0 where
  pub wired : WireMatchesNodes world
  pub driven : NodesHaveOneWorkPerRequest world
  pub begun : RequestsWereBegun statements world
  pub asked : NextAskIsNew world
  pub fit : ControlsFit statements world
  pub recoveries : RecoveriesAreInRange world
  pub messages : MessagesAreInRange world
