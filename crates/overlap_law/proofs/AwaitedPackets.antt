-- In each world of a run in range what is in the wire of a node that isn't lost goes with what the node waits for: it is waited for, as it
-- was sent or as a reply that fits.
use Rattle.std.proofs.Common.{◌≡◌, ◌≢◌, ⊎_elim, arith, ℕ, ◌<◌, not, Bool, true, false, List, fold, Contains, Option, Some, None, Ok}
use Rattle.std.proofs.Common.{is_some, refl, sym, ap, subst, ◌∙◌}
use Rattle.std.specs.FinMap as tree
use Rattle.std.proofs.lemmas.Bool.{and_parts, not-true}
use Rattle.std.proofs.lemmas.Option.{same_Some}
use Rattle.proof_tools.proofs.FiniteMaps.{get-insert_cases}
use Rattle.object_id.specs.declared.node.NodeId.{NodeId}
use Rattle.cluster_script.specs.declared.statement.Statement.{Statement}
use Rattle.cluster_script.specs.declared.statement.Statement.TheVariants as lines
use Rattle.peer_proto.specs.declared.ask.PeerReq.{PeerReq}
use Rattle.peer_proto.specs.declared.say.PeerRsp.{PeerRsp}
use Rattle.peer_proto.specs.Ask.{ask_in}
use Rattle.peer_proto.specs.Say.{say_in, say_bytes}
use Rattle.peer_service.specs.Serve.{reply_to}
use Rattle.message_wire.specs.declared.name.MessageName.{MessageName}
use Rattle.message_wire.specs.declared.packet.Packet.{Packet}
use Rattle.message_wire.specs.declared.packet.Packet.TheVariants.{Request, Reply}
use Rattle.message_wire.specs.Message.{name_cmp, message_name, without_replies}
use Rattle.sheep_node.specs.declared.event.Event.{Event}
use Rattle.sheep_node.specs.State.{Node}
use Rattle.sheep_node.specs.May.{has_numbers, node_awaits}
use Rattle.sheep_node.specs.Step.{node_step}
use Rattle.sheep_node.proofs.MessageNumbers.{numbers_within}
use Rattle.sheep_world.specs.World.{Host, World, is_host_up}
use Rattle.sheep_world.specs.Opening.{initial_world}
use Rattle.sheep_world.specs.Messages.{wire_with_reply}
use Rattle.sheep_world.specs.MembershipChanges.{lost_host}
use Rattle.sheep_world.specs.NodeSteps.{request_name, wire_with_request}
use Rattle.sheep_world.specs.Step.{EventOutcome}
use Rattle.sheep_world.specs.Began.{Began, MakesMove}
use Rattle.sheep_world.specs.WireMatch.{asked_by, IsNumberGiven, IsInFlight}
use Rattle.sheep_world.specs.NodeCauses.{NodeCause, GuestAsks, RequestComes, ReplyComes, LossIsTold, EntryIsRead, EntryIsPut, RecoveryTicks}
use Rattle.sheep_world.specs.NodeCauses.{WorkIsRetried, ClientAsks, input_of_cause, event_of_cause, IsCause, wire_at_cause, is_up_among}
use Rattle.sheep_world.specs.NodeCauses.{host_with_node, world_after_cause}
use Rattle.sheep_world.specs.EventKinds.{outcome_of_step, log_after_return, EventKind, NodeStep, UntoldLoss, UnreadDelivery, NodeLoss}
use Rattle.sheep_world.specs.EventKinds.{NodeLeave, NodeReweight, NodeJoin, NodeReturn, PhaseEnd}
use Rattle.sheep_world.specs.HostChanges.{host_after_return, joined_host}
use Rattle.sheep_world.proofs.BegunWorlds.{by_induction, goes_on}
use Rattle.sheep_world.proofs.ControlLaws.{next_fits}
use Rattle.sheep_world.proofs.ClientReads.{goes_by_kind}
use Rattle.sheep_world.proofs.LostReplies.{got_before}
use Rattle.sheep_world.proofs.RecoveryMessages.{same_asked, without_got}
use Rattle.sheep_world.proofs.ReturningNodes.{no_sender, stepped_renewed}
use Rattle.sheep_world.proofs.SenderMatch.{packets_of}
use Rattle.sheep_world.proofs.StepsByCause.{StaysAt, served_silent}
use Rattle.sheep_world.proofs.WireAfterSends.{packet_of, IsSent, got_sent, sends_there}
use Rattle.overlap_law.specs.Flight.{IsSaidSo}
use Rattle.overlap_law.specs.MomentChanges.{RunsAreInRange}
use Rattle.overlap_law.specs.Packets.{Wire}
use Rattle.overlap_law.specs.Reached.{Hosts}
use Rattle.overlap_law.proofs.KnownSteps.{IsKnownStep, together, known_at}
use Rattle.overlap_law.proofs.SaidEpochs.{said_so}
use Rattle.overlap_law.proofs.WireLemmas.{tied_to, gone_at, left_before, put_at, said_else}
use Rattle.overlap_law.proofs.GoingOn.{goes_as}

-- what was sent is in the wire as it was, or as a reply that fits it
abbrev pub IsAsSent : PeerReq → Packet → Type 0
IsAsSent request (Request to bytes) = ask_in bytes ≡ Ok request
IsAsSent request (Reply from bytes) = (rsp : PeerRsp) × (say_in bytes ≡ Ok rsp) × IsSaidSo request.epoch.0 rsp.epoch.0 rsp.say

-- the packet of a number goes with what its node waits for
pub record GoesWith (node : Node) (number : ℕ) (packet : Packet) : Type 0 where
  pub awaited : node_awaits number node ≡ true
  pub as_sent : (send : NodeId × PeerReq) → Contains (asked_by node) send → send.1.number ≡ number → IsAsSent send.1 packet

-- so do all packets of nodes that aren't lost
abbrev pub AllGoWith : Hosts → Wire → Type 0
AllGoWith hosts wire = (n : ℕ) (host : Host) → tree.get hosts n ≡ Some host → host.is_lost ≡ false → (number : ℕ) (packet : Packet)
    → tree.get wire (message_name n number) ≡ Some packet → GoesWith host.node number packet

-- with fewer packets too
fewer_go : (hosts : Hosts) (wire later : Wire)
    → ((name : MessageName) (packet : Packet) → tree.get later name ≡ Some packet → tree.get wire name ≡ Some packet)
    → AllGoWith hosts wire → AllGoWith hosts later
fewer_go hosts wire later less all n host there up number packet got =
    all n host there up number packet (less (message_name n number) packet got)

-- and where one host is another that is lost, or has its own
one_other : (hosts : Hosts) (wire : Wire) (k : ℕ) (new : Host)
    → (new.is_lost ≡ false → (number : ℕ) (packet : Packet) → tree.get wire (message_name k number) ≡ Some packet
    → GoesWith new.node number packet)
    → AllGoWith hosts wire → AllGoWith (tree.insert hosts k new) wire
one_other hosts wire k new own all n host there up number packet got = ⊎_elim
    (λ (is : (n ≡ k) × (new ≡ host)).
    subst (λ (h : Host). GoesWith h.node number packet) is.1
    (own (ap (λ (h : Host). h.is_lost) is.1 ∙ up) number packet (ap (λ (q : ℕ). tree.get wire (message_name q number)) (sym is.0) ∙ got)))
    (λ (apart : (n ≢ k) × (tree.get hosts n ≡ Some host)). all n host apart.1 up number packet got)
    (get-insert_cases hosts k new n host there)

module _ (script : List Statement) (range : RunsAreInRange script) (world : World) (began : Began script world)
    (all : AllGoWith world.hosts world.wire) where
  -- ---- a node steps

  module _ (n : ℕ) (host : Host) (cause : NodeCause) (there : tree.get world.hosts n ≡ Some host) (up : is_host_up host ≡ true)
      (caused : IsCause script world n host cause) (next : Began script (world_after_cause script n host cause world)) where
    abbrev then : Node
    then = (node_step (input_of_cause cause) host.node).node

    abbrev sends : List (NodeId × PeerReq)
    sends = (node_step (input_of_cause cause) host.node).outputs.sends

    abbrev hosts_after : Hosts
    hosts_after = tree.insert world.hosts n (host_with_node host then)

    abbrev sent : Wire
    sent = fold wire_with_request (wire_at_cause cause world.wire) sends

    known : IsKnownStep script world (record { n = n; host = host; cause = cause })
    known = known_at script range world began n host cause there up caused next

    not_lost : host.is_lost ≡ false
    not_lost = not-true host.is_lost (and_parts (not host.is_lost) (has_numbers host.node) up).0

    -- what is left in the wire was there
    left : (name : MessageName) (packet : Packet) → tree.get (wire_at_cause cause world.wire) name ≡ Some packet
        → tree.get world.wire name ≡ Some packet
    left = by_cause cause
      where
        by_cause : (cause : NodeCause) (name : MessageName) (packet : Packet) → tree.get (wire_at_cause cause world.wire) name ≡ Some packet
            → tree.get world.wire name ≡ Some packet
        by_cause (GuestAsks session req ask) name packet got = got
        by_cause (RequestComes own to request) name packet got = got
        by_cause (ReplyComes own from rsp) name packet got = left_before world.wire own name packet got
        by_cause (LossIsTold own lost) name packet got = left_before world.wire own name packet got
        by_cause (EntryIsRead entry) name packet got = got
        by_cause (EntryIsPut entry) name packet got = got
        by_cause RecoveryTicks name packet got = got
        by_cause WorkIsRetried name packet got = got
        by_cause (ClientAsks req ask) name packet got = got

    -- and of the node's own what stays
    stays : (number : ℕ) (packet : Packet) → tree.get (wire_at_cause cause world.wire) (message_name n number) ≡ Some packet
        → StaysAt cause number
    stays = by_cause cause caused
      where
        own_name : (name : MessageName) (number : ℕ) → name.sender.0 ≡ n → number ≡ name.number → message_name n number ≡ name
        own_name name number own same = λ i. record { sender = record { 0 = sym own i }; number = same i }

        by_cause : (cause : NodeCause) → IsCause script world n host cause → (number : ℕ) (packet : Packet)
            → tree.get (wire_at_cause cause world.wire) (message_name n number) ≡ Some packet → StaysAt cause number
        by_cause (GuestAsks session req ask) so number packet got = tt
        by_cause (RequestComes name to request) so number packet got = tt
        by_cause (ReplyComes name from rsp) so number packet got =
            λ (same : number ≡ name.number). (without_got world.wire name (message_name n number) packet got).0
            (own_name name number so.here same)
        by_cause (LossIsTold name lost) so number packet got =
            λ (same : number ≡ name.number). (without_got world.wire name (message_name n number) packet got).0
            (own_name name number so.here same)
        by_cause (EntryIsRead entry) so number packet got = tt
        by_cause (EntryIsPut entry) so number packet got = tt
        by_cause RecoveryTicks so number packet got = tt
        by_cause WorkIsRetried so number packet got = tt
        by_cause (ClientAsks req ask) so number packet got = tt

    -- what the node sends is in its own name
    own_sender : (send : NodeId × PeerReq) → Contains sends send → send.1.from.0 ≡ n
    own_sender send among = ap (λ (me : NodeId). me.0) (known.asking.own send among) ∙ known.numbered

    -- of the node that steps
    own_sent : (number : ℕ) (packet : Packet) → tree.get sent (message_name n number) ≡ Some packet → GoesWith then number packet
    own_sent number packet got = record {
      awaited = ⊎_elim
          (λ (new : IsSent sends (message_name n number) packet).
          let (send, among, named, is) = new in
          subst (λ (k : ℕ). node_awaits k then ≡ true) (ap (λ (name : MessageName). name.number) named) (known.asking.waits_too send among))
          (λ (old : tree.get (wire_at_cause cause world.wire) (message_name n number) ≡ Some packet).
          known.asking.waits_on number (was number packet old).awaited (stays number packet old))
          (got_sent sends (wire_at_cause cause world.wire) (message_name n number) packet got);
      as_sent = λ send asks same. ⊎_elim
          (λ (old : Contains (asked_by host.node) send × StaysAt cause send.1.number). still_so number packet got send old.0 same)
          (λ (new : Contains sends send).
          let name_so : request_name send.1 ≡ message_name n number
          = λ i. record { sender = record { 0 = own_sender send new i }; number = same i } in
          let is : packet_of send ≡ packet
          = same_Some (packet_of send) packet
          (sym (sends_there host.node.sends sends (wire_at_cause cause world.wire) send known.asking.numbers new)
          ∙ ap (tree.get sent) name_so ∙ got) in
          subst (IsAsSent send.1) is (known.asking.read send new))
          (known.asking.asked send asks);
    }
      where
        was : (number : ℕ) (packet : Packet) → tree.get (wire_at_cause cause world.wire) (message_name n number) ≡ Some packet
            → GoesWith host.node number packet
        was number packet old = all n host there not_lost number packet (left (message_name n number) packet old)

        -- what was waited for isn't sent anew
        still_so : (number : ℕ) (packet : Packet) → tree.get sent (message_name n number) ≡ Some packet → (send : NodeId × PeerReq)
            → Contains (asked_by host.node) send
            → send.1.number ≡ number → IsAsSent send.1 packet
        still_so number packet got send asks same = ⊎_elim
            (λ (new : IsSent sends (message_name n number) packet).
            let (other, among, named, is) = new in
            let (low, high) = numbers_within host.node.sends sends other known.asking.numbers among in
            let number_so : other.1.number ≡ number = ap (λ (name : MessageName). name.number) named in
            let below : send.1.number < host.node.sends = below_count send asks in
            absurd (omega (arith, low, number_so, same, below)))
            (λ (old : tree.get (wire_at_cause cause world.wire) (message_name n number) ≡ Some packet). (was number packet old).as_sent send
            asks same) (got_sent sends (wire_at_cause cause world.wire) (message_name n number) packet got)
          where
            below_count : (send : NodeId × PeerReq) → Contains (asked_by host.node) send → send.1.number < host.node.sends
            below_count send asks = by_packet (packets_of world.wire n send.1.number) refl (known.ready.matches.on_the_way up send asks)
              where
                by_packet : (o : Option Packet) → packets_of world.wire n send.1.number ≡ o → IsInFlight host.node send o
                    → send.1.number < host.node.sends
                by_packet None is way = absurd way
                by_packet (Some packet) is way = known.ready.matches.given send.1.number packet is

    sent_goes : AllGoWith hosts_after sent
    sent_goes k other at other_up number packet got = ⊎_elim
        (λ (is : (k ≡ n) × (host_with_node host then ≡ other)).
        subst (λ (h : Host). GoesWith h.node number packet) is.1
        (own_sent number packet (ap (λ (q : ℕ). tree.get sent (message_name q number)) (sym is.0) ∙ got)))
        (λ (apart : (k ≢ n) × (tree.get world.hosts k ≡ Some other)). ⊎_elim
        (λ (new : IsSent sends (message_name k number) packet).
        let (send, among, named, is) = new in
        absurd (apart.0 (sym (ap (λ (name : MessageName). name.sender.0) named) ∙ own_sender send among)))
        (λ (old : tree.get (wire_at_cause cause world.wire) (message_name k number) ≡ Some packet).
        all k other apart.1 other_up number packet (left (message_name k number) packet old))
        (got_sent sends (wire_at_cause cause world.wire) (message_name k number) packet got))
        (get-insert_cases world.hosts n (host_with_node host then) k other at)

  -- a reply takes the place of its request
  replied_goes : (hosts : Hosts) (wire : Wire) (name : MessageName) (to : NodeId) (bytes : List ℕ) (request : PeerReq) (rsp : PeerRsp)
      (up : Bool)
      → tree.get wire name ≡ Some (Request to bytes) → ask_in bytes ≡ Ok request → say_in (say_bytes rsp) ≡ Ok rsp
      → IsSaidSo request.epoch.0 rsp.epoch.0 rsp.say
      → AllGoWith hosts wire → AllGoWith hosts (wire_with_reply name to up (Some rsp) wire)
  replied_goes hosts wire name to bytes request rsp up was read spelled so all k other at other_up number packet got = ⊎_elim
      (λ (own : message_name k number ≡ name). by_up up own (ap (tree.get (wire_with_reply name to up (Some rsp) wire)) (sym own) ∙ got))
      (λ (apart : message_name k number ≢ name). all k other at other_up number packet
      (sym (said_else wire name to rsp up (message_name k number) apart) ∙ got))
      (tied_to wire name (message_name k number))
    where
      by_up : (b : Bool) → message_name k number ≡ name → tree.get (wire_with_reply name to b (Some rsp) wire) name ≡ Some packet
          → GoesWith other.node number packet
      by_up true own got =
          let before : GoesWith other.node number (Request to bytes) = all k other at other_up number (Request to bytes)
          (ap (tree.get wire) own ∙ was) in
          let is : Reply to (say_bytes rsp) ≡ packet = same_Some (Reply to (say_bytes rsp)) packet
          (sym (put_at wire name (Reply to (say_bytes rsp))) ∙ got) in
          subst (GoesWith other.node number) is (record {
            awaited = before.awaited;
            as_sent = λ send asks same.
                let asked : send.1 ≡ request = same_asked send.1 request (sym (before.as_sent send asks same) ∙ read) in
                (rsp, spelled, subst (λ (r : PeerReq). IsSaidSo r.epoch.0 rsp.epoch.0 rsp.say) (sym asked) so);
          })
      by_up false own got = let gone = gone_at wire name in absurd (cc (got, gone))

  -- over a step of a node
  steps_go : (n : ℕ) (host : Host) (cause : NodeCause) → tree.get world.hosts n ≡ Some host → is_host_up host ≡ true
      → IsCause script world n host cause
      → Began script (world_after_cause script n host cause world)
      → AllGoWith (world_after_cause script n host cause world).hosts (world_after_cause script n host cause world).wire
  steps_go n host (GuestAsks session req ask) there up so next = sent_goes n host (GuestAsks session req ask) there up so next
  steps_go n host (RequestComes name to request) there up so next =
      let cause = RequestComes name to request in
      let hosts = (world_after_cause script n host cause world).hosts in
      let rsp = reply_to host.node.peer request in
      let silent = served_silent request host.node in
      subst (λ (sends : List (NodeId × PeerReq)). AllGoWith hosts
      (wire_with_reply name to (is_up_among hosts name.sender.0) (Some rsp) (fold wire_with_request world.wire sends))) (sym silent)
      (replied_goes hosts world.wire name to so.bytes request rsp (is_up_among hosts name.sender.0) so.there so.read
      ((together script range world began).messages.replies.spelled name to request host (record {
        bytes = so.bytes;
        there = so.there;
        read = so.read;
        receiver = ap (tree.get world.hosts) so.here ∙ there;
        up = up;
      }))
      (said_so host.node.peer request)
      (subst (λ (sends : List (NodeId × PeerReq)). AllGoWith hosts (fold wire_with_request world.wire sends)) silent
      (sent_goes n host cause there up so next)))
  steps_go n host (ReplyComes name from rsp) there up so next = sent_goes n host (ReplyComes name from rsp) there up so next
  steps_go n host (LossIsTold name packet) there up so next = sent_goes n host (LossIsTold name packet) there up so next
  steps_go n host (EntryIsRead entry) there up so next = sent_goes n host (EntryIsRead entry) there up so next
  steps_go n host (EntryIsPut entry) there up so next = sent_goes n host (EntryIsPut entry) there up so next
  steps_go n host RecoveryTicks there up so next = sent_goes n host RecoveryTicks there up so next
  steps_go n host WorkIsRetried there up so next = sent_goes n host WorkIsRetried there up so next
  steps_go n host (ClientAsks req ask) there up so next = sent_goes n host (ClientAsks req ask) there up so next

  -- ---- every event

  abbrev GoAfter : EventOutcome → Type 0
  GoAfter made = AllGoWith made.world.hosts made.world.wire

  no_host : (n number : ℕ) (packet : Packet) → is_some (tree.get world.hosts n) ≡ false
      → tree.get world.wire (message_name n number) ≡ Some packet → ⊥
  no_host n number packet none got =
      by_host (tree.get world.hosts n) none ((together script range world began).wired.given (message_name n number) packet got)
    where
      by_host : (o : Option Host) → is_some o ≡ false → IsNumberGiven number o → ⊥
      by_host None none given = given
      by_host (Some host) none given = cc (none)

  event_goes : (event : Event) (made : EventOutcome) → MakesMove script event world made → EventKind script event world made → GoAfter made
  event_goes event made is (NodeStep h) =
      subst GoAfter h.made_so
      (steps_go h.n h.host h.cause h.there h.up h.caused
      (goes_on script (event_of_cause h.n h.cause) world (outcome_of_step script h.n h.host h.cause world) began
      (goes_as script world h.event_so h.made_so is)))
  event_goes event made is (UntoldLoss h) =
      subst GoAfter h.made_so (fewer_go world.hosts world.wire (tree.remove world.wire h.name) (left_before world.wire h.name) all)
  event_goes event made is (UnreadDelivery h) = subst GoAfter h.made_so all
  event_goes event made is (NodeLoss h) =
      subst GoAfter h.made_so
      (one_other world.hosts (without_replies h.n world.wire) h.n (lost_host h.host) (λ up. absurd (cc (up)))
      (fewer_go world.hosts world.wire (without_replies h.n world.wire) (got_before h.n world.wire) all))
  event_goes event made is (NodeLeave h) = subst GoAfter h.made_so all
  event_goes event made is (NodeReweight h) = subst GoAfter h.made_so all
  event_goes event made is (NodeJoin h) =
      subst GoAfter h.made_so
      (one_other world.hosts world.wire h.n (joined_host script h.n)
      (λ up number packet got. absurd (no_host h.n number packet (next_fits script world (lines.Join h.n) h.control
      (together script range world began).fit).1 got)) all)
  event_goes event made is (NodeReturn h) =
      let log = log_after_return script h.n world in
      let hosts = tree.insert world.hosts h.n (host_after_return log h.host) in
      subst GoAfter h.made_so
      (subst (λ (sends : List (NodeId × PeerReq)). AllGoWith hosts (fold wire_with_request world.wire sends))
      (sym (stepped_renewed log h.host.node).silent) (one_other world.hosts world.wire h.n (host_after_return log h.host)
      (λ up number packet got. absurd (no_sender world h.n (ap not h.no_end) (message_name h.n number) packet got refl)) all))
  event_goes event made is (PhaseEnd h) = subst GoAfter h.made_so all

-- ---- every world

nothing_yet : (script : List Statement) → AllGoWith (initial_world script).hosts (initial_world script).wire
unfolding initial_world
nothing_yet script n host there up number packet got =
    let none = tree.get-empty {X = Packet} name_cmp (message_name n number) in absurd (cc (got, none))

pub packets_go : (script : List Statement) → RunsAreInRange script → (world : World) → Began script world → AllGoWith world.hosts world.wire
packets_go script range =
    by_induction script (λ (world : World). AllGoWith world.hosts world.wire) (record {
      opens = nothing_yet script;
      keeps = λ event world made began is all. event_goes script range world began all event made is
          (goes_by_kind script event world made is);
    })
