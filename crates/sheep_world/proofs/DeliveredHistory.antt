-- What a delivery adds to the history, as the code makes it: the write that a check comes to, told before the step, and behind it what
-- the replies of the step add.
use Rattle.std.proofs.Common.{◌≡◌, ℕ, List, [], ◌++◌, Option, Some, None, refl, sym, ap, ◌∙◌}
use Rattle.std.specs.Option.{option_map, option_map_or, option_and_then}
use Rattle.object_id.specs.declared.node.NodeId.{NodeId}
use Rattle.cluster_script.specs.declared.statement.Statement.{Statement}
use Rattle.disk_history.specs.declared.event.HistEvent.{HistEvent}
use Rattle.peer_proto.specs.declared.ask.PeerReq.{PeerReq}
use Rattle.peer_proto.specs.declared.say.PeerRsp.{PeerRsp}
use Rattle.message_wire.specs.declared.name.MessageName.{MessageName}
use Rattle.sheep_node.specs.declared.input.Input.{Input}
use Rattle.sheep_node.specs.declared.input.Input.TheVariants as inputs
use Rattle.sheep_node.specs.declared.check_write.CheckWrite.{CheckWrite}
use Rattle.sheep_node.specs.State.{Node}
use Rattle.sheep_node.specs.Step.{node_step}
use Rattle.sheep_node.specs.CheckWrites.{check_write_on}
use Rattle.sheep_world.specs.World.{Host, World, host_at, node_at}
use Rattle.sheep_world.specs.NodeSteps.{world_after_step, node_stepped, at_rest}
use Rattle.sheep_world.specs.Messages.{without_message, reply_sent}
use Rattle.sheep_world.specs.HistoryAdditions.{check_write_grown, check_write_by, replies_grown, delivery_grown}
use Rattle.sheep_world.specs.RepliesInParts.{AreRepliesAdded}

-- the input of a step at a host, in a world where no node stepped
module _ (statements : List Statement) (node : ℕ) (input : Input) (world : World) where
  abbrev pub input_at : Option Host → Option Input
  input_at None = world.input
  input_at (Some host) = Some input

  pub node_stepped-input : (node_stepped statements node input world).input ≡ input_at (host_at node world)
  unfolding node_stepped
  node_stepped-input = by_host (host_at node world)
    where
      by_host : (host : Option Host)
          → (option_map_or (λ (host : Host). world_after_step statements node input host (node_step input host.node) world) host world).input
          ≡ input_at host
      by_host None = refl
      by_host (Some host) = refl

module _ (statements : List Statement) (name : MessageName) (before : World) where
  -- the write that a check comes to by an input of the message's sender
  abbrev write_by : Option Input → Option CheckWrite
  write_by input = option_and_then (λ (input : Input). option_and_then (check_write_on input) (node_at name.sender.0 before)) input

  -- what a delivery adds, by that write, and the world after it
  abbrev adds : Option CheckWrite → World → List HistEvent
  adds write after = option_map_or (check_write_grown statements) write [] ++ replies_grown statements before write after

  -- a request brings no check to a write
  none_on_request : (request : PeerReq) (node : Option Node) → option_and_then (check_write_on (inputs.Request request)) node ≡ None
  unfolding check_write_on
  none_on_request request None = refl
  none_on_request request (Some node) = refl

  none_by_request : (to : ℕ) (request : PeerReq) (host : Option Host)
      → write_by (input_at statements to (inputs.Request request) (at_rest before) host) ≡ None
  none_by_request to request None = refl
  none_by_request to request (Some host) = none_on_request request (node_at name.sender.0 before)

  pub request-history : (to : NodeId) (request : PeerReq) (sent after : World) (events : List HistEvent)
      → sent ≡ node_stepped statements to.0 (inputs.Request request) (at_rest before) → after ≡ reply_sent name to sent
      → events ≡ replies_grown statements before None sent
      → events ≡ delivery_grown statements name before after
  request-history to request sent after events steps is gives =
      let stepped : World = node_stepped statements to.0 (inputs.Request request) (at_rest before) in
      let none : check_write_by name before after ≡ None
      = ap (λ (world : World). write_by world.input) (is ∙ ap (reply_sent name to) steps)
      ∙ ap write_by (node_stepped-input statements to.0 (inputs.Request request) (at_rest before))
      ∙ none_by_request to.0 request (host_at to.0 before) in
      gives ∙ sym (ap (λ (world : World). replies_grown statements before None world) is)
      ∙ sym (ap (λ (write : Option CheckWrite). adds write after) none)

  -- by a reply the write is the one that the node was asked for before the step
  by_reply : (rsp : PeerRsp) (host : Option Host)
      → option_and_then (λ (input : Input). option_and_then (check_write_on input) (option_map (λ (host : Host). host.node) host))
      (input_at statements name.sender.0 (inputs.Reply rsp) (at_rest before) host)
      ≡ option_and_then (check_write_on (inputs.Reply rsp)) (option_map (λ (host : Host). host.node) host)
  by_reply rsp None = refl
  by_reply rsp (Some host) = refl

  pub reply-history : (rsp : PeerRsp) (write : Option CheckWrite) (after : World) (earlier events : List HistEvent)
      → write ≡ option_and_then (check_write_on (inputs.Reply rsp)) (node_at name.sender.0 before)
      → earlier ≡ option_map_or (check_write_grown statements) write []
      → after ≡ node_stepped statements name.sender.0 (inputs.Reply rsp) (without_message name (at_rest before))
      → AreRepliesAdded statements (without_message name (at_rest before)) (option_map (λ (write : CheckWrite). write.req) write)
      after earlier events
      → events ≡ delivery_grown statements name before after
  reply-history rsp write after earlier events asked begun is gives =
      let comes : check_write_by name before after ≡ write
      = ap (λ (world : World). write_by world.input) is
      ∙ ap write_by (node_stepped-input statements name.sender.0 (inputs.Reply rsp) (without_message name (at_rest before)))
      ∙ by_reply rsp (host_at name.sender.0 before)
      ∙ sym asked in
      gives write refl
      ∙ ap (λ (events : List HistEvent). events ++ replies_grown statements before write after) begun
      ∙ sym (ap (λ (write : Option CheckWrite). adds write after) comes)
