-- What holds of each packet in the wire, of each that a node sends, and of what it replies holds of each packet after an event.
use Rattle.std.proofs.Common.{◌≡◌, ⊎_elim, Bool, true, false, cond, List, fold, All, Some, sym, subst, ◌∙◌}
use Rattle.std.specs.Ordering.{nat_cmp, eq_by_cmp}
use Rattle.std.specs.FinMap as tree
use Rattle.std.proofs.lemmas.List.Elements.{All-contains}
use Rattle.std.proofs.lemmas.Option.{same_Some}
use Rattle.object_id.specs.declared.node.NodeId.{NodeId}
use Rattle.cluster_script.specs.declared.statement.Statement.{Statement}
use Rattle.peer_proto.specs.declared.ask.PeerReq.{PeerReq}
use Rattle.peer_proto.specs.declared.say.PeerRsp.{PeerRsp}
use Rattle.peer_proto.specs.Ask.{ask_bytes}
use Rattle.peer_proto.specs.Say.{say_bytes}
use Rattle.peer_service.specs.Serve.{reply_to}
use Rattle.sheep_node.specs.declared.event.Event.{Event}
use Rattle.sheep_node.specs.State.{Node}
use Rattle.sheep_node.specs.declared.input.Input.TheVariants as inputs
use Rattle.sheep_node.specs.Step.{node_step}
use Rattle.sheep_node.proofs.MessageNumbers.{Sends}
use Rattle.message_wire.specs.declared.name.MessageName.{MessageName}
use Rattle.message_wire.specs.Message.{name_cmp}
use Rattle.message_wire.specs.declared.packet.Packet.{Packet}
use Rattle.message_wire.specs.declared.packet.Packet.TheVariants.{Request, Reply}
use Rattle.message_wire.proofs.NameOrder.{name_cmp_total}
use Rattle.sheep_world.specs.World.{Host, World}
use Rattle.sheep_world.specs.Messages.{wire_with_reply}
use Rattle.sheep_world.specs.NodeSteps.{wire_with_request}
use Rattle.sheep_world.specs.Step.{EventOutcome}
use Rattle.sheep_world.specs.NodeCauses.{NodeCause, GuestAsks, RequestComes, ReplyComes, LossIsTold, EntryIsRead, EntryIsPut, RecoveryTicks}
use Rattle.sheep_world.specs.NodeCauses.{WorkIsRetried, ClientAsks, input_of_cause, wire_at_cause, is_up_among, wire_after_cause}
use Rattle.sheep_world.specs.EventKinds.{log_after_return, EventKind, NodeStep, UntoldLoss, UnreadDelivery, NodeLoss, NodeLeave}
use Rattle.sheep_world.specs.EventKinds.{NodeReweight, NodeJoin, NodeReturn, PhaseEnd}
use Rattle.sheep_world.specs.HostChanges.{host_after_step}
use Rattle.sheep_world.proofs.WireAfterSends.{Wire, IsSent, got_sent}
use Rattle.sheep_world.proofs.RecoveryMessages.{without_got}
use Rattle.sheep_world.proofs.LostReplies.{got_before}

module _ (P : Packet → Type 0) where
  -- all that a wire has is so
  abbrev pub AllSo : Wire → Type 0
  AllSo wire = (name : MessageName) (packet : Packet) → tree.get wire name ≡ Some packet → P packet

  -- and what is sent
  abbrev pub SendIsSo : NodeId × PeerReq → Type 0
  SendIsSo send = P (Request send.0 (ask_bytes send.1))

  pub with_sends_so : (sends : Sends) (wire : Wire) → All SendIsSo sends → AllSo wire → AllSo (fold wire_with_request wire sends)
  with_sends_so sends wire sent so name packet got = ⊎_elim
      (λ (new : IsSent sends name packet).
      let (send, there, named, is) = new in
      subst P is (All-contains SendIsSo sends send sent there))
      (λ (before : tree.get wire name ≡ Some packet). so name packet before)
      (got_sent sends wire name packet got)

  pub without_one_so : (gone : MessageName) (wire : Wire) → AllSo wire → AllSo (tree.remove wire gone)
  without_one_so gone wire so name packet got = so name packet (without_got wire gone name packet got).1

  with_one_so : (own : MessageName) (own_packet : Packet) (wire : Wire) → P own_packet → AllSo wire
      → AllSo (tree.insert wire own own_packet)
  with_one_so own own_packet wire is so name packet got =
      by_tie (eq_by_cmp name_cmp name own) (sym (tree.get-insert name_cmp_total wire own own_packet name) ∙ got)
    where
      by_tie : (b : Bool) → cond b (Some own_packet) (tree.get wire name) ≡ Some packet → P packet
      by_tie true same = subst P (same_Some own_packet packet same) is
      by_tie false before = so name packet before

  with_reply_so : (name : MessageName) (from : NodeId) (b : Bool) (rsp : PeerRsp) (wire : Wire) → P (Reply from (say_bytes rsp))
      → AllSo wire
      → AllSo (wire_with_reply name from b (Some rsp) wire)
  with_reply_so name from true rsp wire said so = with_one_so name (Reply from (say_bytes rsp)) wire said so
  with_reply_so name from false rsp wire said so = without_one_so name wire so

  -- what a node replies for this cause is so
  abbrev pub RepliesBy : NodeCause → Node → Type 0
  RepliesBy (RequestComes name to request) node = P (Reply to (say_bytes (reply_to node.peer request)))
  RepliesBy _ node = Unit {0}

  at_cause_so : (cause : NodeCause) (wire : Wire) → AllSo wire → AllSo (wire_at_cause cause wire)
  at_cause_so (GuestAsks session req ask) wire so = so
  at_cause_so (RequestComes name to request) wire so = so
  at_cause_so (ReplyComes name from rsp) wire so = without_one_so name wire so
  at_cause_so (LossIsTold name packet) wire so = without_one_so name wire so
  at_cause_so (EntryIsRead entry) wire so = so
  at_cause_so (EntryIsPut entry) wire so = so
  at_cause_so RecoveryTicks wire so = so
  at_cause_so WorkIsRetried wire so = so
  at_cause_so (ClientAsks req ask) wire so = so

  after_cause_so : (cause : NodeCause) (hosts : tree.FinMap nat_cmp Host) (node : Node) (wire : Wire) → RepliesBy cause node → AllSo wire
      → AllSo (wire_after_cause cause hosts node wire)
  after_cause_so (GuestAsks session req ask) hosts node wire said so = so
  after_cause_so (RequestComes name to request) hosts node wire said so =
      with_reply_so name to (is_up_among hosts name.sender.0) (reply_to node.peer request) wire said so
  after_cause_so (ReplyComes name from rsp) hosts node wire said so = so
  after_cause_so (LossIsTold name packet) hosts node wire said so = so
  after_cause_so (EntryIsRead entry) hosts node wire said so = so
  after_cause_so (EntryIsPut entry) hosts node wire said so = so
  after_cause_so RecoveryTicks hosts node wire said so = so
  after_cause_so WorkIsRetried hosts node wire said so = so
  after_cause_so (ClientAsks req ask) hosts node wire said so = so

  -- ---- each kind of event

  -- what the event makes a node send is so
  abbrev pub SendsSo : (script : List Statement) (event : Event) (world : World) (made : EventOutcome) → EventKind script event world made
      → Type 0
  SendsSo script event world made (NodeStep h) = All SendIsSo (node_step (input_of_cause h.cause) h.host.node).outputs.sends
  SendsSo script event world made (NodeReturn h) =
      All SendIsSo (node_step (inputs.Back (log_after_return script h.n world)) h.host.node).outputs.sends
  SendsSo script event world made _ = Unit {0}

  -- and what it makes it reply
  abbrev pub RepliesSo : (script : List Statement) (event : Event) (world : World) (made : EventOutcome) → EventKind script event world made
      → Type 0
  RepliesSo script event world made (NodeStep h) = RepliesBy h.cause h.host.node
  RepliesSo script event world made _ = Unit {0}

  -- so it is where it holds of every reply
  module _ (all : (from : NodeId) (rsp : PeerRsp) → P (Reply from (say_bytes rsp))) where
    by_any : (cause : NodeCause) (node : Node) → RepliesBy cause node
    by_any (GuestAsks session req ask) node = tt
    by_any (RequestComes name to request) node = all to (reply_to node.peer request)
    by_any (ReplyComes name from rsp) node = tt
    by_any (LossIsTold name packet) node = tt
    by_any (EntryIsRead entry) node = tt
    by_any (EntryIsPut entry) node = tt
    by_any RecoveryTicks node = tt
    by_any WorkIsRetried node = tt
    by_any (ClientAsks req ask) node = tt

    pub any_reply : (script : List Statement) (event : Event) (world : World) (made : EventOutcome)
        (kind : EventKind script event world made)
        → RepliesSo script event world made kind
    any_reply script event world made (NodeStep h) = by_any h.cause h.host.node
    any_reply script event world made (UntoldLoss h) = tt
    any_reply script event world made (UnreadDelivery h) = tt
    any_reply script event world made (NodeLoss h) = tt
    any_reply script event world made (NodeLeave h) = tt
    any_reply script event world made (NodeReweight h) = tt
    any_reply script event world made (NodeJoin h) = tt
    any_reply script event world made (NodeReturn h) = tt
    any_reply script event world made (PhaseEnd h) = tt

  module _ (script : List Statement) (event : Event) (world : World) (made : EventOutcome) (before : AllSo world.wire) where
    pub wire_so : (kind : EventKind script event world made) → SendsSo script event world made kind → RepliesSo script event world made kind
        → AllSo made.world.wire
    wire_so (NodeStep h) sent said =
        subst (λ (m : EventOutcome). AllSo m.world.wire) h.made_so
        (after_cause_so h.cause (tree.insert world.hosts h.n (host_after_step h.cause h.host)) h.host.node
        (fold wire_with_request (wire_at_cause h.cause world.wire) (node_step (input_of_cause h.cause) h.host.node).outputs.sends) said
        (with_sends_so (node_step (input_of_cause h.cause) h.host.node).outputs.sends (wire_at_cause h.cause world.wire) sent
        (at_cause_so h.cause world.wire before)))
    wire_so (UntoldLoss h) sent said = subst (λ (m : EventOutcome). AllSo m.world.wire) h.made_so (without_one_so h.name world.wire before)
    wire_so (UnreadDelivery h) sent said = subst (λ (m : EventOutcome). AllSo m.world.wire) h.made_so before
    wire_so (NodeLoss h) sent said =
        subst (λ (m : EventOutcome). AllSo m.world.wire) h.made_so
        (λ name packet got. before name packet (got_before h.n world.wire name packet got))
    wire_so (NodeLeave h) sent said = subst (λ (m : EventOutcome). AllSo m.world.wire) h.made_so before
    wire_so (NodeReweight h) sent said = subst (λ (m : EventOutcome). AllSo m.world.wire) h.made_so before
    wire_so (NodeJoin h) sent said = subst (λ (m : EventOutcome). AllSo m.world.wire) h.made_so before
    wire_so (NodeReturn h) sent said =
        subst (λ (m : EventOutcome). AllSo m.world.wire) h.made_so
        (with_sends_so (node_step (inputs.Back (log_after_return script h.n world)) h.host.node).outputs.sends world.wire sent before)
    wire_so (PhaseEnd h) sent said = subst (λ (m : EventOutcome). AllSo m.world.wire) h.made_so before
