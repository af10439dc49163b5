-- One node's step in the world: what it sends enters the wire, and what it replied to is answered.
use Rattle.std.specs.Prelude.{ℕ, ◌==◌, not, List, fold, filter, Option, Some, None, unwrap_or, find}
use Rattle.std.specs.Option.{option_map_or}
use Rattle.std.specs.Ordering.{nat_cmp}
use Rattle.std.specs.FinMap as tree
use Rattle.object_id.specs.declared.node.NodeId.{NodeId}
use Rattle.cluster_script.specs.declared.statement.Statement.{Statement}
use Rattle.peer_proto.specs.declared.ask.PeerReq.{PeerReq}
use Rattle.peer_proto.specs.declared.guest.GuestRsp.{GuestRsp}
use Rattle.peer_proto.specs.Ask.{ask_bytes}
use Rattle.sheep_node.specs.declared.input.Input.{Input}
use Rattle.sheep_node.specs.StepState.{StepState}
use Rattle.sheep_node.specs.Step.{node_step}
use Rattle.message_wire.specs.declared.name.MessageName.{MessageName}
use Rattle.message_wire.specs.declared.packet.Packet.{Packet}
use Rattle.message_wire.specs.declared.packet.Packet.TheVariants.{Request}
use Rattle.message_wire.specs.Message.{name_cmp}
use Rattle.sheep_world.specs.declared.progress.StartedRequest.{StartedRequest}
use Rattle.sheep_world.specs.declared.progress.SessionProgress.{SessionProgress}
use Rattle.sheep_world.specs.World.{Host, World, host_at, no_progress}
use Rattle.sheep_world.specs.declared.progress.ClientAsk.{ClientAsk}
use Rattle.sheep_world.specs.Opening.{no_outputs}
use Rattle.sheep_world.specs.Asking.{session_asking}
use Rattle.std.specs.Option.{option_map, option_or}

-- the name of a request
abbrev pub request_name : PeerReq → MessageName
request_name request = record { sender = request.from; number = request.number }

-- a request enters the wire, on its way to a node
abbrev pub wire_with_request : tree.FinMap name_cmp Packet → NodeId × PeerReq → tree.FinMap name_cmp Packet
wire_with_request wire send = tree.insert wire (request_name send.1) (Request send.0 (ask_bytes send.1))

-- a session in which a request is no longer without reply
abbrev pub progress_without_request : ℕ → SessionProgress → SessionProgress
progress_without_request req guest = record guest {
  unanswered = filter (λ (started : StartedRequest). not (started.req == req)) guest.unanswered;
}

-- the request of a session has its reply
abbrev pub progress_after_reply_in : ℕ → Option ℕ → tree.FinMap nat_cmp SessionProgress → tree.FinMap nat_cmp SessionProgress
progress_after_reply_in req None guests = guests
progress_after_reply_in req (Some session) guests =
    tree.insert guests session (progress_without_request req (unwrap_or (tree.get guests session) no_progress))

-- the request that a reply is to has its reply, in the session that asked
abbrev pub progress_after_reply : List Statement → tree.FinMap nat_cmp SessionProgress → ℕ × GuestRsp → tree.FinMap nat_cmp SessionProgress
progress_after_reply statements guests reply = progress_after_reply_in reply.0 (session_asking statements reply.0) guests

-- the reply to the request of a number among some
abbrev pub reply_among : ℕ → List (ℕ × GuestRsp) → Option GuestRsp
reply_among req replies = option_map (λ (reply : ℕ × GuestRsp). reply.1) (find (λ (reply : ℕ × GuestRsp). reply.0 == req) replies)

-- a client's ask, once these replies were given
abbrev pub ask_after_replies : List (ℕ × GuestRsp) → ClientAsk → ClientAsk
ask_after_replies replies ask = record ask { reply = option_or ask.reply (reply_among ask.req replies) }

-- the world after the step of a node in its host
abbrev pub world_after_step : List Statement → ℕ → Input → Host → StepState → World → World
world_after_step statements node input host so_far world = record world {
  hosts = tree.insert world.hosts node (record host { node = so_far.node });
  wire = fold wire_with_request world.wire so_far.outputs.sends;
  guests = fold (progress_after_reply statements) world.guests so_far.outputs.replies;
  asked = option_map (ask_after_replies so_far.outputs.replies) world.asked;
  input = Some input;
  outputs = so_far.outputs;
}

-- a node steps on an input
unfoldable pub node_stepped : List Statement → ℕ → Input → World → World
node_stepped statements node input world =
    option_map_or (λ (host : Host). world_after_step statements node input host (node_step input host.node) world)
    (host_at node world) world

-- no node steps
abbrev pub at_rest : World → World
at_rest world = record world { input = None; outputs = no_outputs }
