-- A step in the making: the node as far as it has come, and what was put out so far.
use Rattle.std.specs.Prelude.{ℕ, ◌+◌, nat_lt, List, [], ◌∷◌, ◌++◌, length, option_to_list, Option, Some, None, if◌then◌else◌}
use Rattle.std.specs.FinMap as tree
use Rattle.object_id.specs.declared.node.NodeId.{NodeId}
use Rattle.object_id.specs.declared.entry.Entry.{Entry}
use Rattle.peer_proto.specs.declared.ask.PeerReq.{PeerReq}
use Rattle.peer_proto.specs.declared.guest.GuestRsp.{GuestRsp}
use Rattle.gateway.specs.State.{Gateway}
use Rattle.gateway.specs.Step.{without_touch}
use Rattle.gateway_queue.specs.Queue.{queue_without}
use Rattle.guest_driver.specs.declared.disk.Disk.{Disk}
use Rattle.guest_driver.specs.InodeQueue.{InodeQueue}
use Rattle.sheep_node.specs.declared.outputs.Outputs.{Outputs}
use Rattle.sheep_node.specs.declared.course.Course.{Course}
use Rattle.sheep_node.specs.declared.session.Session.{Session}
use Rattle.sheep_node.specs.State.{Node, session_at}

-- the node, and the outputs
pub record StepState : Type 0 where
  pub node : Node
  pub outputs : Outputs

-- a step that has put out nothing yet
abbrev pub at_first : Node → StepState
at_first node = record { node = node; outputs = record { sends = []; say = None; replies = []; put = None } }

-- the node is so
abbrev pub with_node : Node → StepState → StepState
with_node node so_far = record so_far { node = node }

-- requests are sent, and the count of sends grows by their number
abbrev pub with_sends : List (NodeId × PeerReq) → StepState → StepState
with_sends sends so_far = record {
  node = record so_far.node { sends = so_far.node.sends + length sends };
  outputs = record so_far.outputs { sends = so_far.outputs.sends ++ sends };
}

-- a reply among others, by ascending request
abbrev pub replies_in_order : ℕ × GuestRsp → List (ℕ × GuestRsp) → List (ℕ × GuestRsp)
replies_in_order reply [] = reply ∷ []
replies_in_order reply (first ∷ later) = if nat_lt reply.0 first.0 then reply ∷ first ∷ later else first ∷ replies_in_order reply later

-- a guest's request is replied to
abbrev pub with_guest_reply : ℕ → GuestRsp → StepState → StepState
with_guest_reply req reply so_far =
    record so_far { outputs = record so_far.outputs { replies = replies_in_order (req, reply) so_far.outputs.replies } }

-- an entry stands at the outbox's end
abbrev pub with_outbox_entry : Entry → StepState → StepState
with_outbox_entry entry so_far = record so_far { node = record so_far.node { outbox = so_far.node.outbox ++ entry ∷ [] } }

-- an entry, if there is one, stands there
abbrev pub with_optional_entry : Option Entry → StepState → StepState
with_optional_entry entry so_far =
    record so_far { node = record so_far.node { outbox = so_far.node.outbox ++ option_to_list entry } }

-- its gateway is so
abbrev pub with_gateway : Gateway → StepState → StepState
with_gateway gateway so_far = record so_far { node = record so_far.node { gateway = gateway } }

-- the session of this number is so
abbrev pub with_session : ℕ → Session → StepState → StepState
with_session number session so_far =
    record so_far { node = record so_far.node { sessions = tree.insert so_far.node.sessions number session } }

-- the session of a number, as it is by now
abbrev pub session_in : ℕ → StepState → Session
session_in number so_far = session_at number so_far.node

-- what the session has open
abbrev pub with_disk : ℕ → Option Disk → StepState → StepState
with_disk number disk so_far = with_session number (record (session_in number so_far) { disk = disk }) so_far

-- its line of works on the disk's inode
abbrev pub with_inode_queue : ℕ → InodeQueue → StepState → StepState
with_inode_queue number inode_queue so_far = with_session number (record (session_in number so_far) { inode_queue = inode_queue }) so_far

-- a request of a session is there
abbrev pub with_course : ℕ → ℕ → Course → StepState → StepState
with_course number req course so_far = record so_far {
  node = record so_far.node { requests = tree.insert so_far.node.requests req (record { session = number; course = course }) };
}

-- a request is there, and is alone in its session
abbrev pub with_sole_request : ℕ → ℕ → Course → StepState → StepState
with_sole_request number req course so_far =
    with_session number (record (session_in number so_far) { command = Some req }) (with_course number req course so_far)

-- the gateway forgets a request, and it leaves the requests
abbrev pub without_course : ℕ → StepState → StepState
without_course req so_far = record so_far {
  node = record so_far.node { gateway = without_touch req so_far.node.gateway; requests = tree.remove so_far.node.requests req };
}

-- a session without a request, which was in its queue or was its command
abbrev pub session_without : ℕ → Session → Session
session_without req session = record session { queue = queue_without req session.queue; command = None }

-- a request is no more
abbrev pub without_request : ℕ → ℕ → StepState → StepState
without_request number req so_far = with_session number (session_without req (session_in number so_far)) (without_course req so_far)

-- a request ends with its reply
unfoldable pub request_ended : ℕ → ℕ → GuestRsp → StepState → StepState
request_ended number req reply so_far = with_guest_reply req reply (without_request number req so_far)
