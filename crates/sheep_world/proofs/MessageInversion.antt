-- A delivery, and a loss of a message, makes one of the kinds of changes.
use Rattle.std.proofs.Common.{◌≡◌, ℕ, Bool, true, false, not, ◌&&◌, cond, List, Option, Some, None, Result, Ok, Err, refl, sym, ap, ◌∙◌}
use Rattle.std.specs.Option.{option_map_or}
use Rattle.std.specs.FinMap as tree
use Rattle.object_id.specs.declared.node.NodeId.{NodeId}
use Rattle.cluster_script.specs.declared.statement.Statement.{Statement}
use Rattle.peer_proto.specs.declared.ask.PeerReq.{PeerReq}
use Rattle.peer_proto.specs.declared.fault.PeerFault.{PeerFault}
use Rattle.peer_proto.specs.declared.say.PeerRsp.{PeerRsp}
use Rattle.peer_proto.specs.Ask.{ask_in}
use Rattle.peer_proto.specs.Say.{say_in}
use Rattle.sheep_node.specs.declared.event.Event.TheVariants as events
use Rattle.sheep_node.specs.declared.input.Input.{Input}
use Rattle.sheep_node.specs.declared.input.Input.TheVariants as inputs
use Rattle.sheep_node.specs.Step.{node_step}
use Rattle.message_wire.specs.declared.name.MessageName.{MessageName}
use Rattle.message_wire.specs.declared.packet.Packet.{Packet}
use Rattle.message_wire.specs.declared.packet.Packet.TheVariants.{Request, Reply}
use Rattle.message_wire.specs.Message.{receiver_of}
use Rattle.sheep_world.specs.World.{Host, World, host_at, is_host_up, is_up, message_at}
use Rattle.sheep_world.specs.Conditions.{may_deliver, may_go, is_request_packet, may_lose_request, may_lose_reply}
use Rattle.sheep_world.specs.NodeSteps.{world_after_step, node_stepped, at_rest}
use Rattle.sheep_world.specs.Messages.{without_message, wire_with_reply, losses_after_loss, reply_sent, request_got, request_delivered, reply_got, reply_delivered, delivered_as, message_delivered, loss_used, loss_told, message_lost}
use Rattle.sheep_world.specs.Enabled.{loss_of}
use Rattle.sheep_world.specs.Step.{EventOutcome, with_replies, delivery_made}
use Rattle.sheep_world.proofs.EnabledLaws.{looked_up}
use Rattle.sheep_world.specs.NodeCauses as causes
use Rattle.sheep_world.specs.NodeCauses.{RequestComes, ReplyComes, LossIsTold, world_after_cause}
use Rattle.sheep_world.specs.EventKinds.{EventKind, NodeStep, UntoldLoss, UnreadDelivery}
use Rattle.sheep_world.proofs.HostSteps.{steps_at, says_on_request, Made_by}

-- ---- messages

module _ (statements : List Statement) (name : MessageName) (world : World) (made : EventOutcome) where
  abbrev pub OfDelivery : Type 0
  OfDelivery = EventKind statements (events.Deliver name.sender name.number) world made

  request_world : (to : NodeId) (request : PeerReq) (host : Host) → host_at to.0 world ≡ Some host
      → request_got statements name to (Ok request) (at_rest world) ≡ world_after_cause statements to.0 host (RequestComes name to request) world
  request_world to request host there =
      let input : Input = inputs.Request request in
      let after = world_after_step statements to.0 input host (node_step input host.node) (at_rest world) in
      ap (reply_sent name to) (steps_at statements to.0 input host (at_rest world) there)
      ∙ ap (λ (say : Option PeerRsp). record after { wire = wire_with_reply name to (is_up name.sender.0 after) say after.wire })
      (says_on_request request host.node)

  happens_request : (to : NodeId) (bytes : List ℕ) (read : Result PeerReq PeerFault) → ask_in bytes ≡ read
      → message_at name world ≡ Some (Request to bytes) → is_up to.0 world ≡ true
      → delivery_made statements name world (request_got statements name to read (at_rest world)) ≡ made → OfDelivery
  happens_request to bytes (Ok request) so there may is =
      let (host, at, up) = looked_up is_host_up (host_at to.0 world) may in
      NodeStep (record {
        n = to.0;
        host = host;
        cause = RequestComes name to request;
        there = at;
        up = up;
        caused = record { here = refl; bytes = bytes; there = there; read = so };
        event_so = refl;
        made_so = sym (ap (delivery_made statements name world) (request_world to request host at)) ∙ is;
      })
  happens_request to bytes (Err fault) so there may is =
      UnreadDelivery (record { name = name; packet = Request to bytes; there = there; unread = (fault, so); event_so = refl; made_so = is })

  happens_reply : (from : NodeId) (bytes : List ℕ) (read : Result PeerRsp PeerFault) → say_in bytes ≡ read
      → message_at name world ≡ Some (Reply from bytes) → is_up name.sender.0 world ≡ true
      → delivery_made statements name world (reply_got statements name read (at_rest world)) ≡ made → OfDelivery
  happens_reply from bytes (Ok rsp) so there may is =
      let (host, at, up) = looked_up is_host_up (host_at name.sender.0 world) may in
      NodeStep (record {
        n = name.sender.0;
        host = host;
        cause = ReplyComes name from rsp;
        there = at;
        up = up;
        caused = record { here = refl; bytes = bytes; there = there; read = so };
        event_so = refl;
        made_so =
            sym (ap (delivery_made statements name world)
            (steps_at statements name.sender.0 (inputs.Reply rsp) host (without_message name (at_rest world)) at)) ∙ is;
      })
  happens_reply from bytes (Err fault) so there may is =
      UnreadDelivery (record { name = name; packet = Reply from bytes; there = there; unread = (fault, so); event_so = refl; made_so = is })

  happens_packet : (packet : Packet) → message_at name world ≡ Some packet → is_up (receiver_of name packet).0 world ≡ true
      → delivery_made statements name world (delivered_as statements name (Some packet) world) ≡ made → OfDelivery
  unfolding request_delivered reply_delivered
  happens_packet (Request to bytes) there may is = happens_request to bytes (ask_in bytes) refl there may is
  happens_packet (Reply from bytes) there may is = happens_reply from bytes (say_in bytes) refl there may is

  pub happens_deliver : Made_by (may_deliver name world) (delivery_made statements name world (message_delivered statements name world)) made → OfDelivery
  happens_deliver (may, is) =
      let (packet, there, up) = looked_up (λ packet. is_up (receiver_of name packet).0 world) (message_at name world) may in
      happens_packet packet there up
      (sym (ap (λ (o : Option Packet). delivery_made statements name world (delivered_as statements name o world)) there) ∙ is)

  -- a loss
  abbrev gone : Packet → World
  gone packet = record (at_rest world) { wire = tree.remove world.wire name; losses = losses_after_loss name packet world }

  lost_so : (packet : Packet) → message_at name world ≡ Some packet → message_lost statements name world ≡ loss_told statements name (gone packet)
  unfolding message_lost
  lost_so packet there =
      ap (λ (o : Option Packet). loss_told statements name (without_message name (loss_used name o (at_rest world)))) there

  abbrev OfLoss : Packet → Type 0
  OfLoss packet = EventKind statements (loss_of name packet) world made

  happens_told : (packet : Packet) → message_at name world ≡ Some packet → may_go name packet world ≡ true
      → (o : Option Host) → host_at name.sender.0 world ≡ o
      → with_replies statements world (loss_told statements name (gone packet)) ≡ made → OfLoss packet
  happens_told packet there may None at is = UntoldLoss (record {
    name = name;
    packet = packet;
    there = there;
    down = ap (λ (o : Option Host). option_map_or is_host_up o false) at;
    may = may;
    event_so = refl;
    made_so =
        sym (ap (λ (o : Option Host). with_replies statements world
        (cond (option_map_or is_host_up o false) (node_stepped statements name.sender.0 (inputs.Lost name.number) (gone packet)) (gone packet))) at) ∙ is;
  })
  happens_told packet there may (Some host) at is = by_up (is_host_up host) refl
    where
      told_is : (b : Bool) → is_host_up host ≡ b → with_replies statements world (cond b (node_stepped statements name.sender.0 (inputs.Lost name.number) (gone packet)) (gone packet)) ≡ made
      told_is b up =
          sym (ap (λ (b : Bool). with_replies statements world
          (cond b (node_stepped statements name.sender.0 (inputs.Lost name.number) (gone packet)) (gone packet)))
          (ap (λ (o : Option Host). option_map_or is_host_up o false) at ∙ up)) ∙ is

      by_up : (b : Bool) → is_host_up host ≡ b → OfLoss packet
      by_up true up = NodeStep (record {
        n = name.sender.0;
        host = host;
        cause = LossIsTold name packet;
        there = at;
        up = up;
        caused = record { here = refl; there = there; may = may };
        event_so = event_is packet;
        made_so =
            sym (ap (with_replies statements world) (steps_at statements name.sender.0 (inputs.Lost name.number) host (gone packet) at))
            ∙ told_is true up;
      })
        where
          event_is : (packet : Packet) → causes.event_of_cause name.sender.0 (LossIsTold name packet) ≡ loss_of name packet
          event_is (Request to bytes) = refl
          event_is (Reply from bytes) = refl
      by_up false down = UntoldLoss (record {
        name = name;
        packet = packet;
        there = there;
        down = ap (λ (o : Option Host). option_map_or is_host_up o false) at ∙ down;
        may = may;
        event_so = refl;
        made_so = told_is false down;
      })

  lost_at : (packet : Packet) → message_at name world ≡ Some packet → may_go name packet world ≡ true
      → with_replies statements world (message_lost statements name world) ≡ made → OfLoss packet
  lost_at packet there may is =
      happens_told packet there may (host_at name.sender.0 world) refl
      (sym (ap (with_replies statements world) (lost_so packet there)) ∙ is)

  request_lost : (packet : Packet) → message_at name world ≡ Some packet → (is_request_packet packet && may_go name packet world) ≡ true
      → with_replies statements world (message_lost statements name world) ≡ made
      → EventKind statements (events.LoseRequest name.sender name.number) world made
  request_lost (Request to bytes) there may is = lost_at (Request to bytes) there may is
  request_lost (Reply from bytes) there may is = absurd (cc (may))

  reply_lost : (packet : Packet) → message_at name world ≡ Some packet → (not (is_request_packet packet) && may_go name packet world) ≡ true
      → with_replies statements world (message_lost statements name world) ≡ made
      → EventKind statements (events.LoseReply name.sender name.number) world made
  reply_lost (Request to bytes) there may is = absurd (cc (may))
  reply_lost (Reply from bytes) there may is = lost_at (Reply from bytes) there may is

  pub happens_lose_request : Made_by (may_lose_request name world) (with_replies statements world (message_lost statements name world)) made
      → EventKind statements (events.LoseRequest name.sender name.number) world made
  happens_lose_request (may, is) =
      let (packet, there, goes) = looked_up (λ packet. is_request_packet packet && may_go name packet world) (message_at name world) may in
      request_lost packet there goes is

  pub happens_lose_reply : Made_by (may_lose_reply name world) (with_replies statements world (message_lost statements name world)) made
      → EventKind statements (events.LoseReply name.sender name.number) world made
  happens_lose_reply (may, is) =
      let (packet, there, goes) = looked_up (λ packet. not (is_request_packet packet) && may_go name packet world) (message_at name world) may in
      reply_lost packet there goes is
