-- A peer's request of another epoch changes nothing, in every run: it is refused, and no `Recovered` is due that the step might put.
use Rattle.std.proofs.Common.{◌≡◌, ◌≢◌, ⊎_elim, arith, ℕ, ◌<◌, ◌≤◌, nat_lt, Bool, true, false, cond, List, flat_map, Option, Some, None}
use Rattle.std.proofs.Common.{Result, Ok, refl, sym, ap, ◌∙◌, subst, [], ◌++◌}
use Rattle.std.specs.Option.{option_map, option_map_or, option_and_then}
use Rattle.std.specs.Ordering.{is_eq}
use Rattle.std.specs.Cmp.{nat_cmp_total, tied_itself}
use Rattle.std.specs.FinMap as tree
use Rattle.std.proofs.lemmas.Bool.{cases_lt, lt-ltb, le-ltb}
use Rattle.std.proofs.lemmas.Option.{same_Some}
use Rattle.object_id.specs.declared.node.NodeId.{NodeId}
use Rattle.cluster_script.specs.declared.statement.Statement.{Statement}
use Rattle.peer_proto.specs.declared.ask.PeerReq.{PeerReq}
use Rattle.peer_proto.specs.declared.say.PeerRsp.{PeerRsp}
use Rattle.peer_proto.specs.declared.say.PeerSay.TheVariants as says
use Rattle.peer_proto.specs.declared.say.Refusal.{Refusal}
use Rattle.peer_proto.specs.declared.say.Refusal.TheVariants.{OldEpoch, NewEpoch}
use Rattle.peer_proto.specs.declared.fault.PeerFault.{PeerFault}
use Rattle.peer_proto.specs.Ask.{ask_in}
use Rattle.peer_service.specs.Fence.{epoch_refusal}
use Rattle.sheep_node.specs.declared.input.Input.{Input}
use Rattle.sheep_node.specs.declared.input.Input.TheVariants as inputs
use Rattle.sheep_node.specs.State.{Node}
use Rattle.sheep_node.specs.StepState.{StepState}
use Rattle.sheep_node.specs.StepFacts.{only_reply}
use Rattle.sheep_node.specs.Step.{is_due, node_step}
use Rattle.sheep_node.proofs.StepLaws.{older_step, newer_step}
use Rattle.message_wire.specs.declared.name.MessageName.{MessageName}
use Rattle.message_wire.specs.declared.packet.Packet.{Packet}
use Rattle.message_wire.specs.declared.packet.Packet.TheVariants.{Request}
use Rattle.sheep_world.specs.World.{Host, World, node_at, message_at}
use Rattle.sheep_world.specs.NodeSteps.{world_after_step, node_stepped, at_rest}
use Rattle.sheep_world.specs.Conditions.{may_deliver}
use Rattle.sheep_world.specs.Messages.{request_got, request_delivered, delivered_as, message_delivered}
use Rattle.sheep_world.specs.HistoryAdditions.{reply_grown, check_write_grown, check_write_by}
use Rattle.sheep_world.specs.Step.{EventOutcome, step, delivery_made}
use Rattle.sheep_world.specs.RunsWithAsks.{Move}
use Rattle.overlap_law.specs.Words.{Hosts}
use Rattle.overlap_law.specs.Past.{MomentWithPast, run_with_past}
use Rattle.overlap_law.specs.Headline.{IsOfAnotherEpoch, ChangesNothing, OtherEpochsChangeNothing}
use Rattle.overlap_law.proofs.NoRecoveredDue.{AreRested, run-rested}
use Rattle.sheep_node.specs.declared.check_write.CheckWrite.{CheckWrite}
use Rattle.sheep_node.specs.CheckWrites.{check_write_on}

got-own : (hosts : Hosts) (n : ℕ) (host : Host) → tree.get (tree.insert hosts n host) n ≡ Some host
got-own hosts n host =
    tree.get-insert nat_cmp_total hosts n host n
    ∙ ap (λ (b : Bool). cond b (Some host) (tree.get hosts n)) (ap is_eq (tied_itself nat_cmp_total n))

-- the world after says only this, and the node is as it was
record IsAsBefore (input : Input) (n : ℕ) (node : Node) (rsp : PeerRsp) (after : World) : Type 0 where
  stepped : after.input ≡ Some input
  said : after.outputs ≡ only_reply rsp
  same : node_at n after ≡ Some node

-- a step that only says this
abbrev saying : Node → PeerRsp → StepState
saying node rsp = record { node = node; outputs = only_reply rsp }

world_after_step-as_before : (script : List Statement) (n : ℕ) (input : Input) (host : Host) (rsp : PeerRsp) (world : World)
    → IsAsBefore input n host.node rsp (world_after_step script n input host (saying host.node rsp) world)
world_after_step-as_before script n input host rsp world =
    record { stepped = refl; said = refl; same = ap (option_map (λ (s : Host). s.node)) (got-own world.hosts n host) }

host-as_before : (script : List Statement) (n : ℕ) (input : Input) (o : Option Host) (node : Node) (rsp : PeerRsp) (world : World)
    → option_map (λ (s : Host). s.node) o ≡ Some node → node_step input node ≡ saying node rsp
    → IsAsBefore input n node rsp (option_map_or (λ (host : Host). world_after_step script n input host (node_step input host.node) world) o
    world)
host-as_before script n input None node rsp world found says_so = absurd (cc (found))
host-as_before script n input (Some host) node rsp world found says_so =
    let same : host.node ≡ node = same_Some host.node node found in
    let own : node_step input host.node ≡ saying host.node rsp
    = subst (λ (x : Node). node_step input x ≡ saying x rsp) (sym same) says_so in
    subst (λ (x : Node). IsAsBefore input n x rsp (world_after_step script n input host (node_step input host.node) world)) same
    (subst (λ (so_far : StepState). IsAsBefore input n host.node rsp (world_after_step script n input host so_far world)) (sym own)
    (world_after_step-as_before script n input host rsp world))

node-as_before : (script : List Statement) (n : ℕ) (input : Input) (node : Node) (rsp : PeerRsp) (world : World)
    → node_at n world ≡ Some node → node_step input node ≡ saying node rsp
    → IsAsBefore input n node rsp (node_stepped script n input world)
unfolding node_stepped
node-as_before script n input node rsp world found says_so =
    host-as_before script n input (tree.get world.hosts n) node rsp world found says_so

got-as_before : (script : List Statement) (name : MessageName) (to : NodeId) (request : PeerReq) (node : Node) (rsp : PeerRsp)
    (world : World)
    → node_at to.0 world ≡ Some node → node_step (inputs.Request request) node ≡ saying node rsp
    → IsAsBefore (inputs.Request request) to.0 node rsp (request_got script name to (Ok request) world)
got-as_before script name to request node rsp world found says_so =
    let before = node-as_before script to.0 (inputs.Request request) node rsp world found says_so in
    record { stepped = before.stepped; said = before.said; same = before.same }

message_delivered-as_before : (script : List Statement) (name : MessageName) (to : NodeId) (bytes : List ℕ) (request : PeerReq)
    (node : Node) (rsp : PeerRsp)
    (world : World) → message_at name world ≡ Some (Request to bytes) → ask_in bytes ≡ Ok request → node_at to.0 world ≡ Some node
    → node_step (inputs.Request request) node ≡ saying node rsp
    → IsAsBefore (inputs.Request request) to.0 node rsp (message_delivered script name world)
unfolding request_delivered
message_delivered-as_before script name to bytes request node rsp world packet decoded found says_so =
    subst (λ (l : Option Packet). IsAsBefore (inputs.Request request) to.0 node rsp (delivered_as script name l world)) (sym packet)
    (subst (λ (r : Result PeerReq PeerFault). IsAsBefore (inputs.Request request) to.0 node rsp
    (request_got script name to r (at_rest world))) (sym decoded)
    (got-as_before script name to request node rsp (at_rest world) found says_so))

made-same : (b : Bool) (one made : EventOutcome) → cond b (Some one) None ≡ Some made → one ≡ made
made-same true one made e = same_Some one made e
made-same false one made e = absurd (cc (e))

-- what a node says that refuses so
abbrev refusing : Node → PeerReq → Refusal → PeerRsp
refusing node request refusal = record { number = request.number; epoch = record { 0 = node.peer.epoch }; say = says.Refused refusal }

-- a check comes to a write by a reply alone
no_check_writes : (name : MessageName) (request : PeerReq) (before after : World) → after.input ≡ Some (inputs.Request request)
    → check_write_by name before after ≡ None
unfolding check_write_on
no_check_writes name request before after is =
    ap (λ (input : Option Input). option_and_then (λ (input : Input). option_and_then (check_write_on input) (node_at name.sender.0 before))
    input) is
    ∙ by_node (node_at name.sender.0 before)
  where
    by_node : (node : Option Node) → option_and_then (check_write_on (inputs.Request request)) node ≡ None
    by_node None = refl
    by_node (Some node) = refl

refused-changes_nothing : (script : List Statement) (world : World) (name : MessageName) (to : NodeId) (node : Node) (request : PeerReq)
    (made : EventOutcome)
    (refusal : Refusal) → IsOfAnotherEpoch script world name to node request made
    → epoch_refusal node.peer.epoch request.epoch.0 ≡ Some refusal
    → node_step (inputs.Request request) node ≡ saying node (refusing node request refusal)
    → ChangesNothing to node request made
unfolding step
refused-changes_nothing script world name to node request made refusal is why says_so =
    let before : IsAsBefore (inputs.Request request) to.0 node (refusing node request refusal) (message_delivered script name world)
    = message_delivered-as_before script name to is.bytes request node (refusing node request refusal) world is.packet is.decoded is.asked
    says_so in
    let so : delivery_made script name world (message_delivered script name world) ≡ made
    = made-same (may_deliver name world) (delivery_made script name world (message_delivered script name world)) made is.delivered in
    subst (λ (m : EventOutcome). ChangesNothing to node request m) so
    (record {
      refusal = refusal;
      why = why;
      said = ap (λ outputs. outputs.say) before.said;
      same = before.same;
      silent =
          ap (λ (write : Option CheckWrite). option_map_or (check_write_grown script) write []
          ++ flat_map (reply_grown script world write) (message_delivered script name world).outputs.replies)
          (no_check_writes name request world (message_delivered script name world) before.stepped)
          ∙ ap (λ outputs. flat_map (reply_grown script world None) outputs.replies) before.said;
    })

pub older : (own requested : ℕ) → requested < own → epoch_refusal own requested ≡ Some (OldEpoch (record { 0 = own }))
older own requested below =
    ap (λ (b : Bool). cond b (Some (OldEpoch (record { 0 = own })))
    (cond (nat_lt own requested) (Some (NewEpoch (record { 0 = own }))) None))
    (lt-ltb requested own below)

pub newer : (own requested : ℕ) → own < requested → epoch_refusal own requested ≡ Some (NewEpoch (record { 0 = own }))
newer own requested above =
    let below : own ≤ requested = omega arith in
    ap (λ (b : Bool). cond b (Some (OldEpoch (record { 0 = own })))
    (cond (nat_lt own requested) (Some (NewEpoch (record { 0 = own }))) None))
    (le-ltb requested own below)
    ∙ ap (λ (b : Bool). cond b (Some (NewEpoch (record { 0 = own }))) None) (lt-ltb own requested above)

above-others : (own requested : ℕ) → requested ≢ own → own ≤ requested → own < requested
above-others own requested apart most = omega (arith, apart)

due_of : (hosts : Hosts) (n : ℕ) (node : Node) (o : Option Host) → AreRested hosts → tree.get hosts n ≡ o
    → option_map (λ (s : Host). s.node) o ≡ Some node → is_due node ≡ false
due_of hosts n node None rested at found = absurd (cc (found))
due_of hosts n node (Some host) rested at found =
    subst (λ (x : Node). is_due x ≡ false) (same_Some host.node node found) (rested n host at)

pub other_epoch-changes_nothing : (script : List Statement) (world : World) → AreRested world.hosts → OtherEpochsChangeNothing script world
other_epoch-changes_nothing script world rested name to node request made is =
    let due : is_due node ≡ false = due_of world.hosts to.0 node (tree.get world.hosts to.0) rested refl is.asked in
    ⊎_elim
    (λ (below : request.epoch.0 < node.peer.epoch). refused-changes_nothing
    script world name to node request made (OldEpoch (record { 0 = node.peer.epoch })) is
    (older node.peer.epoch request.epoch.0 below) (older_step request node below due))
    (λ (most : node.peer.epoch ≤ request.epoch.0). refused-changes_nothing
    script world name to node request made (NewEpoch (record { 0 = node.peer.epoch })) is
    (newer node.peer.epoch request.epoch.0 (above-others node.peer.epoch request.epoch.0 is.another most))
    (newer_step request node (above-others node.peer.epoch request.epoch.0 is.another most) due))
    (cases_lt request.epoch.0 node.peer.epoch)

pub run-changes_nothing : (script : List Statement) (all : List Move) (moment : MomentWithPast) → run_with_past script all ≡ Some moment
    → OtherEpochsChangeNothing script moment.world
run-changes_nothing script all moment e = other_epoch-changes_nothing script moment.world (run-rested script all moment e)
