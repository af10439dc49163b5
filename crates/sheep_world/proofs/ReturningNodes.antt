-- A node that comes back waits for nothing, and had nothing in the wire.
use Rattle.std.proofs.Common.{◌≡◌, ◌≢◌, ℕ, ◌==◌, true, false, not, List, [], ◌∷◌, ◌++◌, map, Some, refl, ◌∙◌}
use Rattle.std.specs.FinMap as tree
use Rattle.std.proofs.lemmas.Bool.{eqb-false, not-true}
use Rattle.proof_tools.proofs.Booleans.{cond_either}
use Rattle.proof_tools.proofs.Lists.{list_any-none, Contains-first}
use Rattle.proof_tools.proofs.FiniteMaps.{entries-contain}
use Rattle.object_id.specs.declared.node.NodeId.{NodeId}
use Rattle.object_id.specs.declared.entry.Entry.{Entry}
use Rattle.object_id.specs.declared.entry.Member.{Member}
use Rattle.gateway.specs.State as gateways
use Rattle.recovery.specs.State as recoveries
use Rattle.recovery.specs.Steps.{at_start, recovery_from_epoch, to_recover}
use Rattle.recovery.specs.Shown.{shown_with_pending}
use Rattle.sheep_node.specs.declared.input.Input.TheVariants as inputs
use Rattle.sheep_node.specs.State.{Node}
use Rattle.sheep_node.specs.RecoveryView.{recovery_state_of}
use Rattle.sheep_node.specs.StepState.{StepState, at_first, with_node}
use Rattle.sheep_node.specs.LogReading.{come_back_with, epoch_members, on_back}
use Rattle.sheep_node.specs.Step.{on_input, is_due, with_recovered, recovered_put, node_step}
use Rattle.message_wire.specs.declared.name.MessageName.{MessageName}
use Rattle.message_wire.specs.declared.packet.Packet.{Packet}
use Rattle.message_wire.specs.Message.{asked_node, has_end}
use Rattle.sheep_world.specs.World.{World}
use Rattle.sheep_world.specs.Conditions.{has_end_in_wire}
use Rattle.sheep_world.specs.WireMatch.{asked_by, asked_by_gateway}
use Rattle.message_wire.proofs.NameOrder.{same_name}
use Rattle.sheep_world.proofs.LostReplies.{asked_by-opening}

-- no message in the wire is a request of a node that is no end there, or the reply to one
pub no_sender : (world : World) (n : ℕ) → not (has_end_in_wire n world) ≡ true → (name : MessageName) (packet : Packet)
    → tree.get world.wire name ≡ Some packet → name.sender.0 ≢ n
no_sender world n none name packet got =
    let no_end : has_end n name packet ≡ false
    = list_any-none (λ (found : MessageName × Packet). has_end n found.0 found.1) (tree.entries world.wire) (name, packet)
    (not-true (has_end_in_wire n world) none) (entries-contain same_name world.wire name packet got) in
    eqb-false name.sender.0 n
    (list_any-none (λ (other : NodeId). other.0 == n) (name.sender ∷ asked_node packet ∷ []) name.sender no_end
    (Contains-first name.sender name.sender (asked_node packet ∷ []) refl))

-- what waits for nothing: a new gateway, and a recovery without messages
pub record Renewed (me : NodeId) (tries : ℕ) (node : Node) : Type 0 where
  pub me_so : node.me ≡ me
  pub gateway_so : node.gateway ≡ gateways.initial_gateway me tries
  pub unanswered_so : node.recovery.unanswered ≡ []
  pub older_so : node.recovery.older ≡ []

pub asked_by-renewed : (me : NodeId) (tries : ℕ) (node : Node) → Renewed me tries node → asked_by node ≡ []
asked_by-renewed me tries node new =
    (λ i. asked_by_gateway (new.me_so i) (new.gateway_so i)
    ++ map (λ (message : recoveries.Message). (message.to, message.request)) (new.unanswered_so i ++ new.older_so i)) ∙ asked_by-opening me tries

abbrev NoMessages : recoveries.RecoveryState → Type 0
NoMessages state = (state.recovery.unanswered ≡ []) × (state.recovery.older ≡ [])

begun_none : (epoch : ℕ) (members : List NodeId) (state : recoveries.RecoveryState) → recoveries.all_unanswered state.recovery ≡ [] → NoMessages (recovery_from_epoch epoch members state)
unfolding recovery_from_epoch
begun_none epoch members state none =
    let start = at_start epoch members state in
    cond_either NoMessages (recoveries.is_listed start.recovery) (record start { shown = shown_with_pending (to_recover start) start.shown }) start
    (refl, none) (refl, none)

back_renewed : (entries : List Entry) (node : Node) → Renewed node.me node.gateway.tries (on_back entries node)
unfolding on_back
back_renewed entries node =
    let lone = come_back_with entries node in
    let none = begun_none lone.peer.epoch (map (λ (member : Member). member.node) (epoch_members lone)) (recovery_state_of lone) refl in
    record { me_so = refl; gateway_so = refl; unanswered_so = none.0; older_so = none.1 }

-- a step that sends nothing, after which the node waits for nothing
pub record IsRenewal (me : NodeId) (tries : ℕ) (so_far : StepState) : Type 0 where
  pub node_so : Renewed me tries so_far.node
  pub silent : so_far.outputs.sends ≡ []

put_renewed : (me : NodeId) (tries : ℕ) (so_far : StepState) → IsRenewal me tries so_far → IsRenewal me tries (recovered_put so_far)
unfolding recovered_put
put_renewed me tries so_far new =
    cond_either (IsRenewal me tries) (is_due so_far.node) (with_recovered so_far) so_far
    (record {
      node_so = record {
        me_so = new.node_so.me_so;
        gateway_so = new.node_so.gateway_so;
        unanswered_so = new.node_so.unanswered_so;
        older_so = new.node_so.older_so;
      };
      silent = new.silent;
    })
    new

pub stepped_renewed : (entries : List Entry) (node : Node) → IsRenewal node.me node.gateway.tries (node_step (inputs.Back entries) node)
unfolding node_step on_input
stepped_renewed entries node =
    put_renewed node.me node.gateway.tries (with_node (on_back entries node) (at_first node))
    (record { node_so = back_renewed entries node; silent = refl })
