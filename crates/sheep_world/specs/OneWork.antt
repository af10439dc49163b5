-- Which requests may have an open work, and which numbers are waited for: what holds of each node in every world of a run, by which a
-- work begins only where its request has none, and an answer or a loss is of one message.
use Rattle.std.specs.Prelude.{◌≡◌, ◌≢◌, ℕ, List, All, Some, None}
use Rattle.std.specs.FinMap as tree
use Rattle.object_id.specs.declared.node.NodeId.{NodeId}
use Rattle.cluster_script.specs.declared.statement.Statement.{Statement}
use Rattle.cluster_script.specs.Sessions.{ScriptSession, session_numbered}
use Rattle.peer_proto.specs.declared.ask.PeerReq.{PeerReq}
use Rattle.peer_proto.specs.Ask.{IsPeerReq}
use Rattle.sheep_node.specs.declared.input.Input.TheVariants as inputs
use Rattle.sheep_node.specs.OneWork.{HasOneWorkPerRequest}
use Rattle.sheep_world.specs.World.{Host, World}
use Rattle.sheep_world.specs.Conditions.{next_request}

-- each node of a world has one work per request
abbrev pub NodesHaveOneWorkPerRequest : World → Type 0
NodesHaveOneWorkPerRequest world = (number : ℕ) (host : Host) → tree.get world.hosts number ≡ Some host → HasOneWorkPerRequest host.node

-- what the last step sent can be spelled
abbrev pub IsSentInRange : World → Type 0
IsSentInRange world = All (λ (send : NodeId × PeerReq). IsPeerReq send.1) world.outputs.sends

-- and so can what it sent for works: any step but a tick of a recovery sends for nothing else
abbrev pub WorksAskInRange : World → Type 0
WorksAskInRange world = world.input ≢ Some inputs.RecoverTick → IsSentInRange world

-- the next request of a session is new to its gateway
abbrev pub IsNewRequest : List Statement → ℕ → World → Type 0
IsNewRequest statements number world = (session : ScriptSession) (req : ℕ) (host : Host) → session_numbered statements number ≡ Some session
    → next_request statements number world ≡ Some req → tree.get world.hosts session.node ≡ Some host → tree.get host.node.requests req
    ≡ None
