-- A node that is up and passes a test, what it makes of its step, and what an event makes, where it may happen.
use Rattle.std.proofs.Common.{◌≡◌, ℕ, Bool, true, false, not, ◌&&◌, cond, List, ◌∷◌, Option, Some, refl, sym, ap, subst}
use Rattle.proof_tools.proofs.Booleans.{cond_either}
use Rattle.std.specs.Option.{option_map_or}
use Rattle.std.proofs.lemmas.Bool.{and_parts}
use Rattle.object_id.specs.declared.entry.Entry.{Entry}
use Rattle.cluster_script.specs.declared.statement.Statement.{Statement}
use Rattle.peer_proto.specs.declared.ask.PeerReq.{PeerReq}
use Rattle.peer_service.specs.Serve.{reply_to}
use Rattle.sheep_node.specs.declared.input.Input.{Input}
use Rattle.sheep_node.specs.declared.input.Input.TheVariants as inputs
use Rattle.sheep_node.specs.State.{Node}
use Rattle.sheep_node.specs.StepState.{StepState, at_first}
use Rattle.sheep_node.specs.Step.{on_request, on_put, on_input, is_due, with_recovered, recovered_put, node_step}
use Rattle.sheep_world.specs.World.{Host, World, host_at, is_host_up, is_up_with}
use Rattle.sheep_world.specs.NodeSteps.{world_after_step, node_stepped}
use Rattle.sheep_world.specs.Step.{EventOutcome}
use Rattle.sheep_world.proofs.EnabledLaws.{looked_up}

pub none_so : (b : Bool) → not b ≡ true → b ≡ false
none_so true is = absurd (cc (is))
none_so false is = refl

-- a node that is up and passes a test
pub record IsThere (passes : Node → Bool) (n : ℕ) (world : World) : Type 0 where
  pub host : Host
  pub there : host_at n world ≡ Some host
  pub up : is_host_up host ≡ true
  pub passed : passes host.node ≡ true

pub up_there : (passes : Node → Bool) (n : ℕ) (world : World) → is_up_with passes n world ≡ true → IsThere passes n world
up_there passes n world may =
    let (host, there, is) = looked_up (λ (host : Host). is_host_up host && passes host.node) (host_at n world) may in
    let parts = and_parts (is_host_up host) (passes host.node) is in
    record { host = host; there = there; up = parts.0; passed = parts.1 }

-- a node that is there steps
pub steps_at : (statements : List Statement) (n : ℕ) (input : Input) (host : Host) (world : World) → host_at n world ≡ Some host
    → node_stepped statements n input world ≡ world_after_step statements n input host (node_step input host.node) world
unfolding node_stepped
steps_at statements n input host world there = ap (λ (o : Option Host). option_map_or (λ (host : Host). world_after_step statements n input host (node_step input host.node) world) o world) there

-- what a node says on a request, and what it puts
pub says_on_request : (request : PeerReq) (node : Node) → (node_step (inputs.Request request) node).outputs.say ≡ Some (reply_to node.peer request)
unfolding node_step on_input recovered_put on_request
says_on_request request node =
    let so_far = on_request request (at_first node) in
    cond_either (λ (so_far : StepState). so_far.outputs.say ≡ Some (reply_to node.peer request)) (is_due so_far.node) (with_recovered so_far) so_far refl refl

pub puts_first : (node : Node) (entry : Entry) (later : List Entry) → node.outbox ≡ entry ∷ later → (node_step inputs.Put node).outputs.put ≡ Some entry
unfolding node_step on_input recovered_put
puts_first node entry later first = subst
    (λ (outbox : List Entry). (cond (is_due (on_put outbox (at_first node)).node) (with_recovered (on_put outbox (at_first node))) (on_put outbox (at_first node))).outputs.put ≡ Some entry)
    (sym first)
    (let so_far = on_put (entry ∷ later) (at_first node) in
    cond_either (λ (so_far : StepState). so_far.outputs.put ≡ Some entry) (is_due so_far.node) (with_recovered so_far) so_far refl refl)

-- what an event makes, where it may happen
abbrev pub Made_by : Bool → EventOutcome → EventOutcome → Type 0
Made_by b one made = (b ≡ true) × (one ≡ made)
