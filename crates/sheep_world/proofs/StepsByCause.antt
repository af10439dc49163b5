-- What the step of a node makes of what the node waits for, and of its works, for each cause.
use Rattle.std.proofs.Common.{◌≡◌, ◌<◌, arith, ℕ, suc, ◌==◌, List, [], ◌∷◌, length, Option, Some, None, is_some, true, not, refl, sym, ap, subst, ◌∙◌}
use Rattle.proof_tools.proofs.Booleans.{cond_either}
use Rattle.std.specs.FinMap as tree
use Rattle.std.proofs.lemmas.Bool.{and_parts, ne_eqb}
use Rattle.object_id.specs.declared.entry.Entry.{Entry}
use Rattle.cluster_script.specs.Sessions.{ScriptSession}
use Rattle.sheep_node.specs.declared.ask.Ask.{Ask}
use Rattle.message_wire.specs.declared.name.MessageName.{MessageName}
use Rattle.object_id.specs.declared.node.NodeId.{NodeId}
use Rattle.peer_proto.specs.declared.say.PeerRsp.{PeerRsp}
use Rattle.cluster_script.specs.declared.statement.Statement.{Statement}
use Rattle.peer_proto.specs.declared.ask.PeerReq.{PeerReq}
use Rattle.peer_service.specs.State.{row_size}
use Rattle.object_id.specs.Oid.{kind_of, vid_of}
use Rattle.vdi_directory.specs.declared.header.Header.{Header}
use Rattle.vdi_directory.specs.Effects.{header_of}
use Rattle.vdi_directory.specs.Decisions.{log_effects}
use Rattle.std.specs.Option.{option_map}
use Rattle.sheep_node.specs.declared.input.Input.TheVariants as inputs
use Rattle.sheep_node.specs.State.{Node}
use Rattle.sheep_node.specs.declared.course.Request.{Request}
use Rattle.sheep_node.specs.May.{has_numbers, fits_node, May}
use Rattle.sheep_node.specs.StepState.{StepState, at_first}
use Rattle.sheep_node.specs.Step as steps
use Rattle.sheep_node.specs.Step.{on_put, is_due, with_recovered, recovered_put, on_input, node_step}
use Rattle.sheep_node.proofs.StepResults.{step_reads}
use Rattle.sheep_world.specs.World.{Host, World, is_host_up}
use Rattle.sheep_world.specs.Meets.{MeetsBeside}
use Rattle.sheep_node.specs.RecoveryRange.{RecoversInRange}
use Rattle.sheep_node.specs.OneWork.{HasOneWorkPerRequest}
use Rattle.sheep_world.specs.BegunRequests.{RequestsWereBegun}
use Rattle.sheep_world.specs.NodeCauses.{NodeCause, GuestAsks, RequestComes, ReplyComes, LossIsTold, EntryIsRead, EntryIsPut, RecoveryTicks, WorkIsRetried, ClientAsks, GuestMayAsk, ClientMayRead, ReplyIsHere, input_of_cause, IsCause}
use Rattle.sheep_world.specs.ClientAsks.{next_ask_number}
use Rattle.sheep_world.proofs.BegunRequestLaws.{new-begun}
use Rattle.sheep_world.proofs.RecoveryMessages.{Other}
use Rattle.sheep_world.proofs.NodeConditions.{reply_fits, reply_numbered}
use Rattle.sheep_world.proofs.EntryReading.{Keeps, kept_asks, read_asks}
use Rattle.sheep_world.proofs.AskedByTick.{Any, AsksFrom, asks_at_end, recovered_asks}
use Rattle.sheep_world.proofs.SenderMatch.{MatchesHost, packets_of}
use Rattle.sheep_world.proofs.WireAfterSends.{Asking, DoesAsk}
use Rattle.sheep_world.proofs.AskedByStep.{asking_by, told_asking}
use Rattle.sheep_node.specs.Changes.{IsSoundStep}
use Rattle.sheep_node.proofs.StepChain.{fits_settled}
use Rattle.gateway.specs.Attempt.{status_by}
use Rattle.gateway.specs.declared.message.Status.TheVariants.{Lost}
use Rattle.recovery.specs.Steps as recovery_steps
use Rattle.sheep_node.specs.LogReading as reading
use Rattle.message_wire.specs.declared.packet.Packet.TheVariants.{Reply}

-- a request is served: the node waits for the same, and has the same works
module _ (request : PeerReq) (node : Node) where
  abbrev after_request : StepState
  after_request = steps.on_request request (at_first node)

  served_keeps : Keeps node after_request.node
  unfolding steps.on_request
  served_keeps = record { me_so = refl; gateway_so = refl; requests_so = refl; sessions_so = refl; sends_so = refl; messages_so = refl }

  served_reads : after_request.node.peer.entries ≡ node.peer.entries
  unfolding node_step on_input recovered_put
  served_reads =
      sym (cond_either (λ (so_far : StepState). so_far.node.peer.entries ≡ after_request.node.peer.entries) (is_due after_request.node)
      (with_recovered after_request) after_request refl refl)
      ∙ step_reads (inputs.Request request) node

  served_asks : AsksFrom Any node after_request
  unfolding steps.on_request
  served_asks = kept_asks
      node after_request.node served_keeps
      (λ oid size known.
      ap (λ (entries : List Entry). option_map (row_size (kind_of oid)) (option_map (λ (header : Header). header.spec) (header_of (log_effects entries) (vid_of oid)))) served_reads
      ∙ known)

  pub served_silent : (node_step (inputs.Request request) node).outputs.sends ≡ []
  unfolding node_step on_input recovered_put steps.on_request
  served_silent = cond_either (λ (so_far : StepState). so_far.outputs.sends ≡ []) (is_due after_request.node) (with_recovered after_request) after_request refl refl

-- an entry is put: so too
module _ (node : Node) where
  put_keeps : (outbox : List Entry) → Keeps node (on_put outbox (at_first node)).node
  put_keeps [] = record { me_so = refl; gateway_so = refl; requests_so = refl; sessions_so = refl; sends_so = refl; messages_so = refl }
  put_keeps (entry ∷ later) = record { me_so = refl; gateway_so = refl; requests_so = refl; sessions_so = refl; sends_so = refl; messages_so = refl }

  put_asks : (outbox : List Entry) → AsksFrom Any node (on_put outbox (at_first node))
  put_asks [] = kept_asks node node (put_keeps []) (λ oid size known. known)
  put_asks (entry ∷ later) = kept_asks node (record node { outbox = later }) (put_keeps (entry ∷ later)) (λ oid size known. known)

-- which of the numbers that a node waits for it waits for still
abbrev pub StaysAt : NodeCause → ℕ → Type 0
StaysAt (GuestAsks session req ask) number = Unit {0}
StaysAt (RequestComes name to request) number = Unit {0}
StaysAt (ReplyComes name from rsp) number = Other name.number number
StaysAt (LossIsTold name packet) number = Other name.number number
StaysAt (EntryIsRead entry) number = Unit {0}
StaysAt (EntryIsPut entry) number = Unit {0}
StaysAt RecoveryTicks number = Unit {0}
StaysAt WorkIsRetried number = Unit {0}
StaysAt (ClientAsks req ask) number = Unit {0}

-- what of the world a step of a node needs
pub record IsReady (statements : List Statement) (world : World) (n : ℕ) (host : Host) : Type 0 where
  pub there : tree.get world.hosts n ≡ Some host
  pub up : is_host_up host ≡ true
  pub matches : MatchesHost n host (packets_of world.wire n)
  pub driven : HasOneWorkPerRequest host.node
  pub begun : RequestsWereBegun statements world
  pub asked : tree.get host.node.requests (next_ask_number world) ≡ None
  pub range : RecoversInRange host.node

pub numbers_left : (host : Host) → is_host_up host ≡ true → has_numbers host.node ≡ true
numbers_left host up = (and_parts (not host.is_lost) (has_numbers host.node) up).1

-- a guest's request is new to the node
asked_new : (statements : List Statement) (world : World) (n : ℕ) (host : Host) (session : ScriptSession) (req : ℕ) (ask : Ask)
    → GuestMayAsk statements world n host session req ask → IsReady statements world n host → tree.get host.node.requests req ≡ None
asked_new statements world n host session req ask asked ready =
    new-begun statements session.number world ready.begun session req host asked.declared asked.next (ap (tree.get world.hosts) asked.gateway ∙ ready.there)

-- and so is a client's
read_new : (statements : List Statement) (world : World) (n : ℕ) (host : Host) (req : ℕ) (ask : Ask)
    → ClientMayRead statements world host req ask → IsReady statements world n host → tree.get host.node.requests req ≡ None
read_new statements world n host req ask may ready =
    subst (λ (k : ℕ). tree.get host.node.requests k ≡ None) may.number ready.asked

-- a reply that comes fits
reply_fits_here : (statements : List Statement) (world : World) (n : ℕ) (host : Host) (name : MessageName) (from : NodeId) (rsp : PeerRsp)
    → ReplyIsHere world n name from rsp → IsReady statements world n host → fits_node rsp host.node ≡ true
reply_fits_here statements world n host name from rsp here ready = reply_fits
    n name.number host (packets_of world.wire n) from here.bytes rsp ready.matches ready.up
    (ap (λ (k : ℕ). packets_of world.wire k name.number) (sym here.here) ∙ here.there) here.read

-- a step is sound
pub sound_step : (statements : List Statement) (world : World) (n : ℕ) (host : Host) (cause : NodeCause) → IsCause statements world n host cause
    → IsReady statements world n host → IsSoundStep (input_of_cause cause) host.node
sound_step statements world n host (GuestAsks session req ask) asked ready =
    (ap (λ (o : Option Request). not (is_some o)) (asked_new statements world n host session req ask asked ready), ready.driven)
sound_step statements world n host (RequestComes name to request) here ready = (tt, ready.driven)
sound_step statements world n host (ReplyComes name from rsp) here ready = (reply_fits_here statements world n host name from rsp here ready, ready.driven)
sound_step statements world n host (LossIsTold name packet) here ready = (tt, ready.driven)
sound_step statements world n host (EntryIsRead entry) next ready = (tt, ready.driven)
sound_step statements world n host (EntryIsPut entry) first ready = (tt, ready.driven)
sound_step statements world n host RecoveryTicks may ready = (may, ready.driven)
sound_step statements world n host WorkIsRetried may ready = (tt, ready.driven)
sound_step statements world n host (ClientAsks req ask) may ready =
    (ap (λ (o : Option Request). not (is_some o)) (read_new statements world n host req ask may ready), ready.driven)

-- a node waits for what it waited for
same_asks : (node : Node) → Asking Any node node []
same_asks node = kept_asks
    node node (record { me_so = refl; gateway_so = refl; requests_so = refl; sessions_so = refl; sends_so = refl; messages_so = refl }) (λ oid size known. known)

-- what a reply or a loss that comes leaves
replied_asks : (node : Node) (rsp : PeerRsp) → IsSoundStep (inputs.Reply rsp) node → rsp.number < node.sends → DoesAsk (Other rsp.number) (inputs.Reply rsp) node
unfolding node_step on_input steps.on_reply recovery_steps.recovery_on_reply
replied_asks node rsp sound given requests = told_asking
    (inputs.Reply rsp) node sound rsp.number (status_by rsp.say) (Some rsp.say)
    (λ waits. fits_settled node rsp (sound.1.recovers rsp.number waits) sound.0) given
    (λ number status told. subst (λ (k : ℕ). k < node.sends) told.0 given) (λ q other. other) (λ q stays. stays) refl refl requests

lost_asks : (node : Node) (number : ℕ) → IsSoundStep (inputs.Lost number) node → number < node.sends → DoesAsk (Other number) (inputs.Lost number) node
unfolding node_step on_input steps.on_loss recovery_steps.recovery_on_loss
lost_asks node number sound given requests = told_asking
    (inputs.Lost number) node sound number Lost None (λ waits. refl) given
    (λ q status told. subst (λ (k : ℕ). k < node.sends) told.0 given) (λ q other. other) (λ q stays. stays) refl refl requests

-- what a step makes of what its node waits for
pub step_asks : (statements : List Statement) (world : World) (n : ℕ) (host : Host) (cause : NodeCause) → IsCause statements world n host cause
    → IsReady statements world n host → DoesAsk (StaysAt cause) (input_of_cause cause) host.node
unfolding node_step on_input reading.entry_read
step_asks statements world n host (GuestAsks session req ask) asked ready requests = asking_by
    (inputs.Guest req session.number ask) host.node (sound_step statements world n host (GuestAsks session req ask) asked ready)
    (same_asks host.node) refl (λ number status told. absurd told) requests
step_asks statements world n host (RequestComes name to request) here ready requests = asks_at_end Any host.node (after_request request host.node) (served_asks request host.node)
step_asks statements world n host (ReplyComes name from rsp) here ready requests =
    let got = ap (λ (k : ℕ). packets_of world.wire k name.number) (sym here.here) ∙ here.there in
    let numbered = reply_numbered n name.number host (packets_of world.wire n) from here.bytes rsp ready.matches got here.read in
    let given = subst (λ (k : ℕ). k < host.node.sends) (sym numbered) (ready.matches.given name.number (Reply from here.bytes) got) in
    subst (λ (k : ℕ). DoesAsk (Other k) (inputs.Reply rsp) host.node) numbered
    (replied_asks host.node rsp (sound_step statements world n host (ReplyComes name from rsp) here ready) given) requests
step_asks statements world n host (LossIsTold name packet) here ready requests =
    let got = ap (λ (k : ℕ). packets_of world.wire k name.number) (sym here.here) ∙ here.there in
    lost_asks host.node name.number (sound_step statements world n host (LossIsTold name packet) here ready) (ready.matches.given name.number packet got) requests
step_asks statements world n host (EntryIsRead entry) next ready requests = asking_by
    (inputs.LogEntry entry) host.node (sound_step statements world n host (EntryIsRead entry) next ready)
    (read_asks entry host.node) refl (λ number status told. absurd told) requests
step_asks statements world n host (EntryIsPut entry) first ready requests = asks_at_end Any host.node (on_put host.node.outbox (at_first host.node)) (put_asks host.node host.node.outbox)
step_asks statements world n host RecoveryTicks may ready requests = recovered_asks host.node may (numbers_left host ready.up) ready.range
step_asks statements world n host WorkIsRetried may ready requests = asking_by
    inputs.RetryTick host.node (sound_step statements world n host WorkIsRetried may ready) (same_asks host.node) refl (λ number status told. absurd told) requests
step_asks statements world n host (ClientAsks req ask) may ready requests = asking_by
    (inputs.Guest req 0 ask) host.node (sound_step statements world n host (ClientAsks req ask) may ready) (same_asks host.node) refl (λ number status told. absurd told) requests

-- a node steps on what it may
pub steps_on_may : (statements : List Statement) (world : World) (n : ℕ) (host : Host) (cause : NodeCause) → IsCause statements world n host cause
    → IsReady statements world n host → MeetsBeside cause host.node → May (input_of_cause cause) host.node
steps_on_may statements world n host (GuestAsks session req ask) asked ready beside = record {
  numbers = numbers_left host ready.up;
  condition = record {
    room = beside.0;
    number = ap (λ (o : Option Request). not (is_some o)) (asked_new statements world n host session req ask asked ready);
    member = asked.member;
    asked = beside.1;
  };
}
steps_on_may statements world n host (RequestComes name to request) here ready beside = record { numbers = numbers_left host ready.up; condition = beside }
steps_on_may statements world n host (ReplyComes name from rsp) here ready beside =
    record { numbers = numbers_left host ready.up; condition = reply_fits_here statements world n host name from rsp here ready }
steps_on_may statements world n host (LossIsTold name packet) here ready beside = record {
  numbers = numbers_left host ready.up;
  condition = ready.matches.awaited ready.up name.number packet (ap (λ (k : ℕ). packets_of world.wire k name.number) (sym here.here) ∙ here.there);
}
steps_on_may statements world n host (EntryIsRead entry) next ready beside = record { numbers = numbers_left host ready.up; condition = beside }
steps_on_may statements world n host (EntryIsPut entry) (later, first) ready beside = record {
  numbers = numbers_left host ready.up;
  condition = ap (λ (outbox : List Entry). not (length outbox == 0)) first
      ∙ ap not (ne_eqb (suc (length later)) 0 (λ (none : suc (length later) ≡ 0). absurd (omega (arith, none))));
}
steps_on_may statements world n host RecoveryTicks may ready beside = record { numbers = numbers_left host ready.up; condition = may }
steps_on_may statements world n host WorkIsRetried may ready beside = record { numbers = numbers_left host ready.up; condition = may }
steps_on_may statements world n host (ClientAsks req ask) may ready beside = record {
  numbers = numbers_left host ready.up;
  condition = record {
    room = beside.0;
    number = ap (λ (o : Option Request). not (is_some o)) (read_new statements world n host req ask may ready);
    member = may.member;
    asked = beside.1;
  };
}
