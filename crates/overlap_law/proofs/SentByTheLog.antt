-- What holds, by the log, of each request that nodes send holds of the requests in the wire, if it stays so as the log grows.
use Rattle.std.proofs.Common.{◌≡◌, true, List, [], ◌∷◌, ◌++◌, ℕ, map, All, Some, Ok, refl, sym, subst, ◌∙◌}
use Rattle.std.specs.FinMap as tree
use Rattle.std.proofs.lemmas.List.Elements.{All-nil, All-cons, All-head, All-tail}
use Rattle.object_id.specs.declared.entry.Entry.{Entry}
use Rattle.object_id.specs.declared.node.NodeId.{NodeId}
use Rattle.cluster_script.specs.declared.statement.Statement.{Statement}
use Rattle.peer_proto.specs.declared.ask.PeerReq.{PeerReq}
use Rattle.peer_proto.specs.Ask.{ask_bytes, ask_in, IsPeerReq}
use Rattle.peer_proto.proofs.AskLemmas.{ask-again}
use Rattle.vdi_directory.specs.declared.effect.Effect.{Effect}
use Rattle.vdi_directory.specs.Decisions.{log_effects}
use Rattle.recovery.specs.State.{Message}
use Rattle.recovery.specs.Tick.{tick_messages, tick_sends}
use Rattle.sheep_node.specs.declared.event.Event.{Event}
use Rattle.sheep_node.specs.State.{Node}
use Rattle.sheep_node.specs.RecoveryView.{recovery_state_of}
use Rattle.sheep_node.specs.StepState.{at_first}
use Rattle.sheep_node.specs.Step.{on_recover_tick, node_step}
use Rattle.sheep_node.specs.Changes.{input_received}
use Rattle.message_wire.specs.declared.packet.Packet.{Packet}
use Rattle.message_wire.specs.declared.packet.Packet.TheVariants.{Request, Reply}
use Rattle.message_wire.specs.declared.name.MessageName.{MessageName}
use Rattle.message_wire.specs.Message.{name_cmp}
use Rattle.sheep_world.specs.World.{Host, World, is_host_up, message_at}
use Rattle.sheep_world.specs.Opening.{initial_world}
use Rattle.sheep_world.specs.Step.{EventOutcome}
use Rattle.sheep_world.specs.NodeCauses.{NodeCause, GuestAsks, RequestComes, ReplyComes, LossIsTold, EntryIsRead, EntryIsPut, RecoveryTicks}
use Rattle.sheep_world.specs.NodeCauses.{WorkIsRetried, ClientAsks, input_of_cause, IsCause, world_after_cause}
use Rattle.sheep_world.specs.EventKinds.{log_after_return, EventKind, NodeStep, UntoldLoss, UnreadDelivery, NodeLoss, NodeLeave}
use Rattle.sheep_world.specs.EventKinds.{NodeReweight, NodeJoin, NodeReturn, PhaseEnd}
use Rattle.sheep_world.specs.Began.{Began, MakesMove}
use Rattle.sheep_world.proofs.BegunWorlds.{goes_on}
use Rattle.sheep_world.proofs.ClientReads.{goes_by_kind}
use Rattle.sheep_world.proofs.LogFrontLaws.{log_grows}
use Rattle.sheep_world.proofs.RecoveryMessages.{same_asked}
use Rattle.sheep_world.proofs.ReturningNodes.{stepped_renewed}
use Rattle.sheep_world.proofs.StepsByCause.{served_silent}
use Rattle.overlap_law.proofs.CausedWorks.{IsNotServed}
use Rattle.overlap_law.proofs.CreatesOnTheWire.{AllSo, SendsSo, any_reply, wire_so}
use Rattle.overlap_law.proofs.KnownAsks.{IsKnownAsk, IsKnownMessage, sent_known}
use Rattle.overlap_law.proofs.SendsOfChanges.{received_nothing, put_sends}

abbrev IsSpelled : NodeId × PeerReq → Type 0
IsSpelled send = IsPeerReq send.1

-- ---- what was sent so is so in the wire

module _ (Is : NodeId → PeerReq → Type 0) where
  -- a packet that asks is so
  abbrev pub PacketIs : Packet → Type 0
  PacketIs (Request to bytes) = (request : PeerReq) → ask_in bytes ≡ Ok request → Is to request
  PacketIs (Reply from bytes) = Unit {0}

  abbrev SendIs : NodeId × PeerReq → Type 0
  SendIs send = Is send.0 send.1

  pub sent_in_wire : (sends : List (NodeId × PeerReq)) → All IsSpelled sends → All SendIs sends
      → All (λ (send : NodeId × PeerReq). PacketIs (Request send.0 (ask_bytes send.1))) sends
  sent_in_wire [] spelled so = All-nil _
  sent_in_wire (send ∷ sends) spelled so =
      All-cons (λ (send : NodeId × PeerReq). PacketIs (Request send.0 (ask_bytes send.1))) send sends
      (λ request read.
      let same : send.1 ≡ request = same_asked send.1 request (sym (ask-again send.1 (All-head IsSpelled send sends spelled)) ∙ read) in
      subst (λ (r : PeerReq). Is send.0 r) same (All-head SendIs send sends so))
      (sent_in_wire sends (All-tail IsSpelled send sends spelled) (All-tail SendIs send sends so))

  -- ---- where nodes send only for works, and what a recovery asks is so anyhow

  module _ (asked_anyhow : (known : List Effect) (to : NodeId) (request : PeerReq) (wanted : ℕ) → IsKnownAsk known request.ask wanted
      → Is to request) where
    messages_so : (known : List Effect) (messages : List Message) → All (IsKnownMessage known) messages
        → All SendIs (map (λ (message : Message). (message.to, message.request)) messages)
    messages_so known [] all = All-nil SendIs
    messages_so known (message ∷ messages) all =
        All-cons SendIs (message.to, message.request) (map (λ (message : Message). (message.to, message.request)) messages)
        (asked_anyhow known message.to message.request message.wanted (All-head (IsKnownMessage known) message messages all))
        (messages_so known messages (All-tail (IsKnownMessage known) message messages all))

    tick_so : (node : Node) → All SendIs (on_recover_tick (at_first node)).outputs.sends
    unfolding on_recover_tick tick_sends
    tick_so node =
        messages_so (log_effects node.peer.entries) (tick_messages node.sends (recovery_state_of node))
        (sent_known (log_effects node.peer.entries) node.sends (recovery_state_of node) (λ oid. refl))

    none_so : (sends : List (NodeId × PeerReq)) → sends ≡ [] → All SendIs sends
    none_so sends none = subst (All SendIs) (sym none) (All-nil SendIs)

    -- so a step's sends are, if works go on so
    pub step_so : (cause : NodeCause) (node : Node)
        → (IsNotServed cause → All SendIs (input_received (input_of_cause cause) (at_first node)).outputs.sends
        → All SendIs (node_step (input_of_cause cause) node).outputs.sends)
        → All SendIs (node_step (input_of_cause cause) node).outputs.sends
    step_so (GuestAsks session req ask) node works =
        works tt (none_so _ (received_nothing (GuestAsks session req ask) node tt).1)
    step_so (RequestComes name to request) node works = none_so _ (served_silent request node)
    step_so (ReplyComes name from rsp) node works = works tt (none_so _ (received_nothing (ReplyComes name from rsp) node tt).1)
    step_so (LossIsTold name packet) node works = works tt (none_so _ (received_nothing (LossIsTold name packet) node tt).1)
    step_so (EntryIsRead entry) node works = works tt (none_so _ (received_nothing (EntryIsRead entry) node tt).1)
    step_so (EntryIsPut entry) node works = none_so _ (put_sends node)
    step_so RecoveryTicks node works = works tt (tick_so node)
    step_so WorkIsRetried node works = works tt (none_so _ (received_nothing WorkIsRetried node tt).1)
    step_so (ClientAsks req ask) node works = works tt (none_so _ (received_nothing (ClientAsks req ask) node tt).1)

-- ---- the wire of a world

-- what is to hold of a request to a node, by the log
module _ (P : List Entry → NodeId → PeerReq → Type 0) where
  abbrev pub EachAsks : World → Type 0
  EachAsks world =
      (name : MessageName) (to : NodeId) (bytes : List ℕ) (request : PeerReq) → message_at name world ≡ Some (Request to bytes)
      → ask_in bytes ≡ Ok request → P world.log to request

  pub opens_so : (script : List Statement) → EachAsks (initial_world script)
  unfolding initial_world
  opens_so script name to bytes request got read =
      let there : tree.get (tree.empty {X = Packet} {R = name_cmp}) name ≡ Some (Request to bytes) = got in
      let none = tree.get-empty {X = Packet} name_cmp name in
      absurd (cc (there, none))

  -- a node's step sends only what is so by the log then
  abbrev pub StepsSendSo : List Statement → World → Type 0
  StepsSendSo script world =
      (n : ℕ) (host : Host) → tree.get world.hosts n ≡ Some host → is_host_up host ≡ true → (cause : NodeCause)
      → IsCause script world n host cause → Began script (world_after_cause script n host cause world)
      → All (λ (send : NodeId × PeerReq). P (world_after_cause script n host cause world).log send.0 send.1)
      (node_step (input_of_cause cause) host.node).outputs.sends

  module _ (stays : (log more : List Entry) (to : NodeId) (request : PeerReq) → P log to request → P (log ++ more) to request)
      (script : List Statement) (world : World) (began : Began script world) (steps : StepsSendSo script world) (before : EachAsks world)
      (event : Event) (made : EventOutcome) (happened : MakesMove script event world made)
      (spelled : All IsSpelled made.world.outputs.sends) where
    abbrev new : Packet → Type 0
    new = PacketIs (P made.world.log)

    old_so : AllSo new world.wire
    old_so name (Reply from bytes) got = tt
    old_so name (Request to bytes) got = λ request read.
        let front = log_grows script event world made (goes_by_kind script event world made happened) in
        subst (λ (log : List Entry). P log to request) (sym front.is)
        (stays world.log front.rest to request (before name to bytes request got read))

    sends_after : (kind : EventKind script event world made) → SendsSo new script event world made kind
    sends_after (NodeStep h) =
        let next : Began script (world_after_cause script h.n h.host h.cause world)
        = subst (λ (m : EventOutcome). Began script m.world) (sym h.made_so) (goes_on script event world made began happened) in
        let sends : List (NodeId × PeerReq) = (node_step (input_of_cause h.cause) h.host.node).outputs.sends in
        subst (λ (m : EventOutcome). All (λ (send : NodeId × PeerReq). PacketIs (P m.world.log) (Request send.0 (ask_bytes send.1))) sends)
        h.made_so
        (sent_in_wire (P (world_after_cause script h.n h.host h.cause world).log) sends
        (subst (λ (m : EventOutcome). All IsSpelled m.world.outputs.sends) (sym h.made_so) spelled)
        (steps h.n h.host h.there h.up h.cause h.caused next))
    sends_after (UntoldLoss h) = tt
    sends_after (UnreadDelivery h) = tt
    sends_after (NodeLoss h) = tt
    sends_after (NodeLeave h) = tt
    sends_after (NodeReweight h) = tt
    sends_after (NodeJoin h) = tt
    sends_after (NodeReturn h) =
        subst (All (λ (send : NodeId × PeerReq). new (Request send.0 (ask_bytes send.1))))
        (sym (stepped_renewed (log_after_return script h.n world) h.host.node).silent) (All-nil _)
    sends_after (PhaseEnd h) = tt

    pub asks_after : EachAsks made.world
    asks_after name to bytes request got read =
        let kind = goes_by_kind script event world made happened in
        wire_so new script event world made old_so kind (sends_after kind)
        (any_reply new (λ from rsp. tt) script event world made kind) name (Request to bytes) got request read
