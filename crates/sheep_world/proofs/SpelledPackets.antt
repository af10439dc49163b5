-- What is in the wire of each world of a run is the spelling of a request or a reply: nothing else enters it.
use Rattle.std.proofs.Common.{◌≡◌, ⊎_elim, Bool, true, false, cond, List, fold, Some, refl, sym, subst, ◌∙◌}
use Rattle.std.specs.Ordering.{nat_cmp, eq_by_cmp}
use Rattle.std.specs.FinMap as tree
use Rattle.std.proofs.lemmas.Option.{same_Some}
use Rattle.object_id.specs.declared.node.NodeId.{NodeId}
use Rattle.cluster_script.specs.declared.statement.Statement.{Statement}
use Rattle.peer_proto.specs.declared.say.PeerRsp.{PeerRsp}
use Rattle.peer_proto.specs.Say.{say_bytes}
use Rattle.peer_service.specs.Serve.{reply_to}
use Rattle.sheep_node.specs.declared.event.Event.{Event}
use Rattle.sheep_node.specs.State.{Node}
use Rattle.sheep_node.specs.declared.input.Input.TheVariants as inputs
use Rattle.sheep_node.specs.Step.{node_step}
use Rattle.sheep_node.proofs.MessageNumbers.{Sends}
use Rattle.message_wire.specs.declared.name.MessageName.{MessageName}
use Rattle.message_wire.specs.Message.{name_cmp}
use Rattle.message_wire.specs.declared.packet.Packet.{Packet}
use Rattle.message_wire.specs.declared.packet.Packet.TheVariants.{Reply}
use Rattle.sheep_world.specs.World.{Host, World}
use Rattle.sheep_world.specs.Opening.{initial_world}
use Rattle.sheep_world.specs.Messages.{wire_with_reply}
use Rattle.sheep_world.specs.NodeSteps.{wire_with_request}
use Rattle.sheep_world.specs.Step.{EventOutcome}
use Rattle.sheep_world.specs.NodeCauses.{NodeCause, GuestAsks, RequestComes, ReplyComes, LossIsTold, EntryIsRead, EntryIsPut, RecoveryTicks, WorkIsRetried, ClientAsks, input_of_cause, wire_at_cause, is_up_among, wire_after_cause}
use Rattle.sheep_world.specs.EventKinds.{log_after_return, EventKind, NodeStep, UntoldLoss, UnreadDelivery, NodeLoss, NodeLeave, NodeReweight, NodeJoin, NodeReturn, PhaseEnd}
use Rattle.sheep_world.specs.HostChanges.{host_after_step}
use Rattle.sheep_world.specs.Began.{Began}
use Rattle.sheep_world.specs.SpelledWire.{IsSpelledPacket, PacketsAreSpelled}
use Rattle.sheep_world.proofs.WireAfterSends.{Wire, IsSent, got_sent}
use Rattle.sheep_world.proofs.RecoveryMessages.{without_got}
use Rattle.sheep_world.proofs.LostReplies.{got_before}
use Rattle.message_wire.proofs.NameOrder.{name_cmp_total}
use Rattle.sheep_world.proofs.ClientReads.{goes_by_kind}
use Rattle.sheep_world.proofs.BegunWorlds.{by_induction}

-- ---- what enters the wire, and what leaves it

-- all that a wire has is spelled
abbrev AreSpelled : Wire → Type 0
AreSpelled wire = (name : MessageName) (packet : Packet) → tree.get wire name ≡ Some packet → IsSpelledPacket packet

with_sends : (sends : Sends) (wire : Wire) → AreSpelled wire → AreSpelled (fold wire_with_request wire sends)
with_sends sends wire spelled name packet got = ⊎_elim
    (λ (sent : IsSent sends name packet).
    let (send, there, named, is) = sent in
    subst IsSpelledPacket is (send.1, refl))
    (λ (before : tree.get wire name ≡ Some packet). spelled name packet before)
    (got_sent sends wire name packet got)

without_one : (gone : MessageName) (wire : Wire) → AreSpelled wire → AreSpelled (tree.remove wire gone)
without_one gone wire spelled name packet got = spelled name packet (without_got wire gone name packet got).1

with_one : (own : MessageName) (own_packet : Packet) (wire : Wire) → IsSpelledPacket own_packet → AreSpelled wire
    → AreSpelled (tree.insert wire own own_packet)
with_one own own_packet wire is spelled name packet got =
    by_tie (eq_by_cmp name_cmp name own) (sym (tree.get-insert name_cmp_total wire own own_packet name) ∙ got)
  where
    by_tie : (b : Bool) → cond b (Some own_packet) (tree.get wire name) ≡ Some packet → IsSpelledPacket packet
    by_tie true same = subst IsSpelledPacket (same_Some own_packet packet same) is
    by_tie false before = spelled name packet before

with_reply : (name : MessageName) (from : NodeId) (b : Bool) (rsp : PeerRsp) (wire : Wire) → AreSpelled wire
    → AreSpelled (wire_with_reply name from b (Some rsp) wire)
with_reply name from true rsp wire spelled = with_one name (Reply from (say_bytes rsp)) wire (rsp, refl) spelled
with_reply name from false rsp wire spelled = without_one name wire spelled

-- ---- the step of a node

at_cause : (cause : NodeCause) (wire : Wire) → AreSpelled wire → AreSpelled (wire_at_cause cause wire)
at_cause (GuestAsks session req ask) wire spelled = spelled
at_cause (RequestComes name to request) wire spelled = spelled
at_cause (ReplyComes name from rsp) wire spelled = without_one name wire spelled
at_cause (LossIsTold name packet) wire spelled = without_one name wire spelled
at_cause (EntryIsRead entry) wire spelled = spelled
at_cause (EntryIsPut entry) wire spelled = spelled
at_cause RecoveryTicks wire spelled = spelled
at_cause WorkIsRetried wire spelled = spelled
at_cause (ClientAsks req ask) wire spelled = spelled

after_cause : (cause : NodeCause) (hosts : tree.FinMap nat_cmp Host) (node : Node) (wire : Wire) → AreSpelled wire
    → AreSpelled (wire_after_cause cause hosts node wire)
after_cause (GuestAsks session req ask) hosts node wire spelled = spelled
after_cause (RequestComes name to request) hosts node wire spelled =
    with_reply name to (is_up_among hosts name.sender.0) (reply_to node.peer request) wire spelled
after_cause (ReplyComes name from rsp) hosts node wire spelled = spelled
after_cause (LossIsTold name packet) hosts node wire spelled = spelled
after_cause (EntryIsRead entry) hosts node wire spelled = spelled
after_cause (EntryIsPut entry) hosts node wire spelled = spelled
after_cause RecoveryTicks hosts node wire spelled = spelled
after_cause WorkIsRetried hosts node wire spelled = spelled
after_cause (ClientAsks req ask) hosts node wire spelled = spelled

-- ---- each kind of event

module _ (statements : List Statement) (event : Event) (world : World) (made : EventOutcome) (before : PacketsAreSpelled world) where
  abbrev SpelledAfter : EventOutcome → Type 0
  SpelledAfter m = PacketsAreSpelled m.world

  after_event : EventKind statements event world made → PacketsAreSpelled made.world
  after_event (NodeStep h) =
      subst SpelledAfter h.made_so
      (after_cause h.cause (tree.insert world.hosts h.n (host_after_step h.cause h.host)) h.host.node
      (fold wire_with_request (wire_at_cause h.cause world.wire) (node_step (input_of_cause h.cause) h.host.node).outputs.sends)
      (with_sends (node_step (input_of_cause h.cause) h.host.node).outputs.sends (wire_at_cause h.cause world.wire)
      (at_cause h.cause world.wire before)))
  after_event (UntoldLoss h) = subst SpelledAfter h.made_so (without_one h.name world.wire before)
  after_event (UnreadDelivery h) = subst SpelledAfter h.made_so before
  after_event (NodeLoss h) =
      subst SpelledAfter h.made_so (λ name packet got. before name packet (got_before h.n world.wire name packet got))
  after_event (NodeLeave h) = subst SpelledAfter h.made_so before
  after_event (NodeReweight h) = subst SpelledAfter h.made_so before
  after_event (NodeJoin h) = subst SpelledAfter h.made_so before
  after_event (NodeReturn h) =
      subst SpelledAfter h.made_so
      (with_sends (node_step (inputs.Back (log_after_return statements h.n world)) h.host.node).outputs.sends world.wire before)
  after_event (PhaseEnd h) = subst SpelledAfter h.made_so before

opens_spelled : (statements : List Statement) → PacketsAreSpelled (initial_world statements)
unfolding initial_world
opens_spelled statements name packet got = absurd (cc (sym (tree.get-empty name_cmp name) ∙ got))

-- so it is in each world that a run reaches
pub packets_spelled : (statements : List Statement) (world : World) → Began statements world → PacketsAreSpelled world
packets_spelled statements = by_induction statements PacketsAreSpelled (record {
  opens = opens_spelled statements;
  keeps = λ event world made began is spelled. after_event statements event world made spelled (goes_by_kind statements event world made is);
})
