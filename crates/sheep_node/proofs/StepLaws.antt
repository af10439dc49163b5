-- What a step on a request of another epoch, on Put, and on a guest's create gives.
use Rattle.std.proofs.Common.{◌≡◌, ℕ, ◌<◌, ◌≤◌, nat_lt, Bool, false, cond, List, [], ◌∷◌, ◌++◌, Option, Some, None, ap, ◌∙◌, arith}
use Rattle.std.proofs.lemmas.Bool.{lt-ltb, le-ltb}
use Rattle.object_id.specs.declared.entry.Entry.{Entry}
use Rattle.object_id.specs.declared.entry.Entry.TheVariants as entries
use Rattle.object_id.specs.declared.entry.Origin.TheVariants.{Fresh}
use Rattle.object_id.specs.declared.entry.VdiSpec.{VdiSpec}
use Rattle.peer_proto.specs.declared.ask.PeerReq.{PeerReq}
use Rattle.peer_proto.specs.declared.guest.VdiAsk.TheVariants.{Create}
use Rattle.peer_proto.specs.declared.say.PeerSay.TheVariants.{Refused}
use Rattle.peer_proto.specs.declared.say.Refusal.{Refusal}
use Rattle.peer_proto.specs.declared.say.Refusal.TheVariants.{OldEpoch, NewEpoch}
use Rattle.peer_service.specs.Fence.{epoch_refusal}
use Rattle.peer_service.specs.Serve.{step_behind_fence, peer_step}
use Rattle.vdi_ops.specs.Steps.{begin_command}
use Rattle.sheep_node.specs.declared.ask.Ask.TheVariants.{Vdi}
use Rattle.sheep_node.specs.declared.input.Input.TheVariants as inputs
use Rattle.sheep_node.specs.State.{Node}
use Rattle.sheep_node.specs.StepState.{StepState, at_first}
use Rattle.sheep_node.specs.Courses.{command_stepped}
use Rattle.sheep_node.specs.Guests.{on_guest}
use Rattle.sheep_node.specs.LogReading.{with_peer}
use Rattle.sheep_node.specs.Step.{on_request, on_put, on_input, is_due, with_recovered, recovered_put, node_step}
use Rattle.sheep_node.specs.StepFacts.{only_reply}

-- a step at whose end nothing is due
pub not_due : (so_far : StepState) → is_due so_far.node ≡ false → recovered_put so_far ≡ so_far
unfolding recovered_put
not_due so_far none = ap (λ (b : Bool). cond b (with_recovered so_far) so_far) none

-- the node as it was, and the refusal
abbrev pub refused_as : PeerReq → Node → Refusal → StepState
refused_as request node refusal = record {
  node = node;
  outputs = only_reply (record { number = request.number; epoch = record { 0 = node.peer.epoch }; say = Refused refusal });
}

-- a request that the fence refuses
fenced_step : (request : PeerReq) (node : Node) (refusal : Refusal) → epoch_refusal node.peer.epoch request.epoch.0 ≡ Some refusal
    → on_request request (at_first node) ≡ refused_as request node refusal
unfolding on_request peer_step
fenced_step request node refusal e =
    ap (λ (why : Option Refusal). record {
      node = with_peer (step_behind_fence why request.ask node.peer).peer node;
      outputs = only_reply (record {
        number = request.number;
        epoch = record { 0 = node.peer.epoch };
        say = (step_behind_fence why request.ask node.peer).say;
      });
    }) e

refused_step : (request : PeerReq) (node : Node) (refusal : Refusal) → epoch_refusal node.peer.epoch request.epoch.0 ≡ Some refusal
    → node_step (inputs.Request request) node ≡ recovered_put (refused_as request node refusal)
unfolding node_step on_input
refused_step request node refusal e = ap recovered_put (fenced_step request node refusal e)

older_refusal : (own requested : ℕ) → requested < own → epoch_refusal own requested ≡ Some (OldEpoch (record { 0 = own }))
older_refusal own requested below =
    ap (λ (b : Bool). cond b (Some (OldEpoch (record { 0 = own }))) (cond (nat_lt own requested) (Some (NewEpoch (record { 0 = own }))) None))
    (lt-ltb requested own below)

newer_refusal : (own requested : ℕ) → own < requested → epoch_refusal own requested ≡ Some (NewEpoch (record { 0 = own }))
newer_refusal own requested above =
    let below : own ≤ requested = omega arith in
    let not_below : nat_lt requested own ≡ false = le-ltb requested own below in
    ap (λ (b : Bool). cond b (Some (OldEpoch (record { 0 = own }))) (cond (nat_lt own requested) (Some (NewEpoch (record { 0 = own }))) None)) not_below
    ∙ ap (λ (b : Bool). cond b (Some (NewEpoch (record { 0 = own }))) None) (lt-ltb own requested above)

pub older_answer : (request : PeerReq) (node : Node) → request.epoch.0 < node.peer.epoch
    → node_step (inputs.Request request) node ≡ recovered_put (refused_as request node (OldEpoch (record { 0 = node.peer.epoch })))
older_answer request node below =
    refused_step request node (OldEpoch (record { 0 = node.peer.epoch })) (older_refusal node.peer.epoch request.epoch.0 below)

pub newer_answer : (request : PeerReq) (node : Node) → node.peer.epoch < request.epoch.0
    → node_step (inputs.Request request) node ≡ recovered_put (refused_as request node (NewEpoch (record { 0 = node.peer.epoch })))
newer_answer request node above =
    refused_step request node (NewEpoch (record { 0 = node.peer.epoch })) (newer_refusal node.peer.epoch request.epoch.0 above)

pub older_step : (request : PeerReq) (node : Node) → request.epoch.0 < node.peer.epoch → is_due node ≡ false
    → node_step (inputs.Request request) node ≡ refused_as request node (OldEpoch (record { 0 = node.peer.epoch }))
older_step request node below none =
    older_answer request node below ∙ not_due (refused_as request node (OldEpoch (record { 0 = node.peer.epoch }))) none

pub newer_step : (request : PeerReq) (node : Node) → node.peer.epoch < request.epoch.0 → is_due node ≡ false
    → node_step (inputs.Request request) node ≡ refused_as request node (NewEpoch (record { 0 = node.peer.epoch }))
newer_step request node above none =
    newer_answer request node above ∙ not_due (refused_as request node (NewEpoch (record { 0 = node.peer.epoch }))) none

-- the entry that is put

pub left_step : (node : Node) (entry : Entry) (later : List Entry) → node.outbox ≡ entry ∷ later → is_due node ≡ false
    → (node_step inputs.Put node).node ≡ record node { outbox = later }
unfolding node_step on_input
left_step node entry later e none =
    ap (λ (outbox : List Entry). (recovered_put (on_put outbox (at_first node))).node) e
    ∙ ap (λ (so_far : StepState). so_far.node) (not_due (on_put (entry ∷ later) (at_first node)) none)

-- a guest's create

pub create_step : (req session : ℕ) (name : List ℕ) (spec : VdiSpec) (node : Node) → is_due node ≡ false
    → (node_step (inputs.Guest req session (Vdi (Create name spec))) node).node.outbox
    ≡ node.outbox ++ entries.Reserve node.me session name (Fresh spec) ∷ []
unfolding node_step on_input on_guest command_stepped begin_command
create_step req session name spec node none =
    ap (λ (so_far : StepState). so_far.node.outbox) (not_due (on_guest req session (Vdi (Create name spec)) (at_first node)) none)
