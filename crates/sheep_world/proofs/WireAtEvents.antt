-- Each event leaves nodes and wire together.
use Rattle.std.proofs.Common.{◌≡◌, ◌≢◌, inl, inr, ⊎_elim, arith, ℕ, ◌<◌, Bool, true, false, not, List, fold, Contains, All, Option, Some, None, Ok, is_some, refl, sym, ap, subst, ◌∙◌}
use Rattle.proof_tools.proofs.FiniteMaps.{get-insert_same, get-insert_other}
use Rattle.std.proofs.lemmas.Bool.{cases_eq}
use Rattle.std.specs.Ordering.{nat_cmp}
use Rattle.std.specs.Option.{option_map_or}
use Rattle.std.specs.FinMap as tree
use Rattle.std.proofs.lemmas.Option.{same_Some}
use Rattle.object_id.specs.declared.node.NodeId.{NodeId}
use Rattle.cluster_script.specs.declared.statement.Statement.{Statement}
use Rattle.cluster_script.specs.declared.statement.Statement.TheVariants as lines
use Rattle.cluster_script.specs.Settings.{tries_of}
use Rattle.peer_proto.specs.declared.ask.PeerReq.{PeerReq}
use Rattle.peer_proto.specs.declared.say.PeerRsp.{PeerRsp}
use Rattle.peer_proto.specs.Ask.{IsPeerReq}
use Rattle.peer_proto.specs.Say.{say_in, say_bytes}
use Rattle.peer_service.specs.Serve.{reply_to}
use Rattle.sheep_node.specs.declared.event.Event.{Event}
use Rattle.sheep_node.specs.State.{Node}
use Rattle.sheep_node.specs.May.{fits_node}
use Rattle.sheep_node.specs.Step.{node_step}
use Rattle.message_wire.specs.declared.name.MessageName.{MessageName}
use Rattle.message_wire.specs.declared.packet.Packet.{Packet}
use Rattle.message_wire.specs.declared.packet.Packet.TheVariants.{Request, Reply}
use Rattle.message_wire.specs.Message.{without_replies}
use Rattle.sheep_world.specs.World.{Host, World, is_host_up}
use Rattle.sheep_world.specs.Messages.{wire_with_reply}
use Rattle.sheep_world.specs.MembershipChanges.{lost_host}
use Rattle.sheep_world.specs.NodeSteps.{request_name, wire_with_request}
use Rattle.sheep_world.specs.Step.{EventOutcome}
use Rattle.sheep_world.specs.WireMatch.{WireMatchesNodes}
use Rattle.sheep_world.specs.OneWork.{IsSentInRange}
use Rattle.sheep_world.specs.HoldsTogether.{IsForHost, RepliesFit, HoldsTogether}
use Rattle.sheep_world.specs.NodeCauses.{NodeCause, GuestAsks, RequestComes, ReplyComes, LossIsTold, EntryIsRead, EntryIsPut, RecoveryTicks, WorkIsRetried, ClientAsks, input_of_cause, IsCause, RequestIsHere, wire_at_cause, is_up_among, wire_after_cause, host_with_node}
use Rattle.sheep_world.specs.EventKinds.{log_after_return, EventKind, NodeStep, UntoldLoss, UnreadDelivery, NodeLoss, NodeLeave, NodeReweight, NodeJoin, NodeReturn, PhaseEnd}
use Rattle.sheep_world.specs.HostChanges.{host_after_step, host_after_return, joined_host}
use Rattle.sheep_world.proofs.ReturningNodes.{no_sender, asked_by-renewed, stepped_renewed}
use Rattle.sheep_world.proofs.ControlLaws.{next_fits}
use Rattle.sheep_world.proofs.RecoveryMessages.{Other, same_asked, without_got, without_apart}
use Rattle.sheep_world.proofs.AskedByTick.{Any}
use Rattle.sheep_node.proofs.MessageNumbers.{Sends, numbers_within}
use Rattle.sheep_world.proofs.WireAfterSends.{Wire, Asking, inserted_own, inserted_apart, sends_apart, sends_there, packet_of, IsSent, got_sent}
use Rattle.sheep_world.proofs.SenderMatch.{packets_of, MatchesHost, Matches, EachMatches, each_match, all_wired, packets_change, host_changes, idle_matches, fewer_match, Moves, sends_match, reply_matches}
use Rattle.sheep_world.proofs.StepsByCause.{StaysAt, IsReady, step_asks, served_silent}
use Rattle.sheep_world.proofs.LostReplies.{asked_by-opening, same_without, got_before}

-- ---- what leaves the wire before a node sends

record Leaves (Stays : ℕ → Type 0) (n : ℕ) (wire left : Wire) : Type 0 where
  kept : (number : ℕ) (packet : Packet) → packets_of wire n number ≡ Some packet → Stays number → packets_of left n number ≡ Some packet
  were : (number : ℕ) (packet : Packet) → packets_of left n number ≡ Some packet → Stays number × (packets_of wire n number ≡ Some packet)
  apart : (q : ℕ) → q ≢ n → (number : ℕ) → packets_of left q number ≡ packets_of wire q number

nothing_leaves : (n : ℕ) (wire : Wire) → Leaves Any n wire wire
nothing_leaves n wire = record { kept = λ number packet got stays. got; were = λ number packet got. (tt, got); apart = λ q other number. refl }

one_leaves : (n : ℕ) (wire : Wire) (name : MessageName) → name.sender.0 ≡ n → Leaves (Other name.number) n wire (tree.remove wire name)
one_leaves n wire name own = record {
  kept = λ number packet got stays. without_apart
      wire name (record { sender = record { 0 = n }; number = number }) (λ (same : record { sender = record { 0 = n }; number = number } ≡ name). stays (ap (λ (name : MessageName). name.number) same))
      ∙ got;
  were = λ number packet got.
      let found = without_got wire name (record { sender = record { 0 = n }; number = number }) packet got in
      ((λ (same : number ≡ name.number). found.0 (λ i. record { sender = record { 0 = sym own i }; number = same i })), found.1);
  apart = λ q other number. without_apart
      wire name (record { sender = record { 0 = q }; number = number }) (λ (same : record { sender = record { 0 = q }; number = number } ≡ name). other (ap (λ (name : MessageName). name.sender.0) same ∙ own));
}

leaves_at : (statements : List Statement) (world : World) (n : ℕ) (host : Host) (cause : NodeCause) → IsCause statements world n host cause
    → Leaves (StaysAt cause) n world.wire (wire_at_cause cause world.wire)
leaves_at statements world n host (GuestAsks session req ask) asked = nothing_leaves n world.wire
leaves_at statements world n host (RequestComes name to request) here = nothing_leaves n world.wire
leaves_at statements world n host (ReplyComes name from rsp) here = one_leaves n world.wire name here.here
leaves_at statements world n host (LossIsTold name packet) here = one_leaves n world.wire name here.here
leaves_at statements world n host (EntryIsRead entry) next = nothing_leaves n world.wire
leaves_at statements world n host (EntryIsPut entry) first = nothing_leaves n world.wire
leaves_at statements world n host RecoveryTicks may = nothing_leaves n world.wire
leaves_at statements world n host WorkIsRetried may = nothing_leaves n world.wire
leaves_at statements world n host (ClientAsks req ask) may = nothing_leaves n world.wire

-- ---- a node sends

module _ (Stays : ℕ → Type 0) (n : ℕ) (host : Host) (node : Node) (sends : Sends) (wire left : Wire) (matches : MatchesHost n host (packets_of wire n))
    (asking : Asking Stays host.node node sends) (leaves : Leaves Stays n wire left) where
  own_sender : (send : NodeId × PeerReq) → Contains sends send → send.1.from.0 ≡ n
  own_sender send there = ap (λ (me : NodeId). me.0) (asking.own send there) ∙ matches.numbered

  moves : Moves Stays sends (packets_of wire n) (packets_of (fold wire_with_request left sends) n)
  moves = record {
    kept = λ number packet got stays. sends_apart
        sends left (record { sender = record { 0 = n }; number = number })
        (λ (send : NodeId × PeerReq) (there : Contains sends send) (named : request_name send.1 ≡ record { sender = record { 0 = n }; number = number }).
        let (low, high) = numbers_within host.node.sends sends send asking.numbers there in
        let same : send.1.number ≡ number = ap (λ (name : MessageName). name.number) named in
        let below = matches.given number packet got in
        absurd (omega (arith, low, same, below)))
        ∙ leaves.kept number packet got stays;
    came = λ send there. subst (λ (k : ℕ). packets_of (fold wire_with_request left sends) k send.1.number ≡ Some (packet_of send)) (own_sender send there)
        (sends_there host.node.sends sends left send asking.numbers there);
    were = λ number packet got. ⊎_elim
        (λ (new : IsSent sends (record { sender = record { 0 = n }; number = number }) packet).
        let (send, there, named, is) = new in
        inl (send, there, ap (λ (name : MessageName). name.number) named, is))
        (λ (old : packets_of left n number ≡ Some packet). inr (leaves.were number packet old))
        (got_sent sends left (record { sender = record { 0 = n }; number = number }) packet got);
  }

  others_stay : (q : ℕ) → q ≢ n → (number : ℕ) → packets_of (fold wire_with_request left sends) q number ≡ packets_of wire q number
  others_stay q other number =
      sends_apart sends left (record { sender = record { 0 = q }; number = number })
      (λ (send : NodeId × PeerReq) (there : Contains sends send) (named : request_name send.1 ≡ record { sender = record { 0 = q }; number = number }).
      other (ap (λ (name : MessageName). name.sender.0) (sym named) ∙ own_sender send there))
      ∙ leaves.apart q other number

-- ---- a packet of a node that isn't up goes

removed_own : (wire : Wire) (name : MessageName) (o : Option Host) → option_map_or is_host_up o false ≡ false → Matches name.sender.0 o (packets_of wire name.sender.0)
    → Matches name.sender.0 o (packets_of (tree.remove wire name) name.sender.0)
removed_own wire name None down none = λ number packet got. none number packet (without_got wire name (record { sender = name.sender; number = number }) packet got).1
removed_own wire name (Some sender) down matches = fewer_match
    name.sender.0 sender sender (packets_of wire name.sender.0) (packets_of (tree.remove wire name) name.sender.0) refl down
    (λ number packet got. (without_got wire name (record { sender = name.sender; number = number }) packet got).1) matches

removed : (hosts : tree.FinMap nat_cmp Host) (wire : Wire) (name : MessageName) → is_up_among hosts name.sender.0 ≡ false → EachMatches hosts wire
    → EachMatches hosts (tree.remove wire name)
removed hosts wire name down each = packets_change
    hosts wire (tree.remove wire name) name.sender.0 each (one_leaves name.sender.0 wire name refl).apart
    (removed_own wire name (tree.get hosts name.sender.0) down (each name.sender.0))

-- ---- a reply takes the place of its request, where the sender is up

module _ (hosts : tree.FinMap nat_cmp Host) (wire : Wire) (name : MessageName) (to : NodeId) (bytes : List ℕ) (rsp : PeerRsp)
    (each : EachMatches hosts wire) (there : tree.get wire name ≡ Some (Request to bytes)) (says : say_in (say_bytes rsp) ≡ Ok rsp)
    (same : rsp.number ≡ name.number)
    (fit : (sender : Host) → tree.get hosts name.sender.0 ≡ Some sender → is_host_up sender ≡ true → fits_node rsp sender.node ≡ true) where
  abbrev n : ℕ
  n = name.sender.0

  replied_own : (o : Option Host) → tree.get hosts name.sender.0 ≡ o → option_map_or is_host_up o false ≡ true → Matches name.sender.0 o (packets_of wire name.sender.0)
      → Matches name.sender.0 o (packets_of (tree.insert wire name (Reply to (say_bytes rsp))) name.sender.0)
  replied_own None is up none = absurd (cc (up))
  replied_own (Some sender) is up matches = reply_matches
      name.sender.0 name.number sender (packets_of wire name.sender.0) (packets_of (tree.insert wire name (Reply to (say_bytes rsp))) name.sender.0) to bytes rsp there
      (inserted_own wire name (Reply to (say_bytes rsp)))
      (λ (q : ℕ) (other : q ≢ name.number). inserted_apart wire name (Reply to (say_bytes rsp)) (record { sender = name.sender; number = q })
      (λ (is : record { sender = name.sender; number = q } ≡ name). other (ap (λ (name : MessageName). name.number) is)))
      says same (fit sender is) matches

  replied : (b : Bool) → is_up_among hosts name.sender.0 ≡ b → EachMatches hosts (wire_with_reply name to b (Some rsp) wire)
  replied true up = packets_change
      hosts wire (tree.insert wire name (Reply to (say_bytes rsp))) name.sender.0 each
      (λ q other number. inserted_apart wire name (Reply to (say_bytes rsp)) (record { sender = record { 0 = q }; number = number })
      (λ (is : record { sender = record { 0 = q }; number = number } ≡ name). other (ap (λ (name : MessageName). name.sender.0) is)))
      (replied_own (tree.get hosts name.sender.0) refl up (each name.sender.0))
  replied false down = removed hosts wire name down each

-- ---- a step of a node

module _ (statements : List Statement) (world : World) (n : ℕ) (host : Host) (ready : IsReady statements world n host)
    (each : EachMatches world.hosts world.wire) where
  abbrev Requests : NodeCause → Type 0
  Requests cause = All (λ (send : NodeId × PeerReq). IsPeerReq send.1) (node_step (input_of_cause cause) host.node).outputs.sends

  abbrev sent_by : NodeCause → Wire
  sent_by cause = fold wire_with_request (wire_at_cause cause world.wire) (node_step (input_of_cause cause) host.node).outputs.sends

  sent_each : (cause : NodeCause) → IsCause statements world n host cause → Requests cause
      → EachMatches (tree.insert world.hosts n (host_after_step cause host)) (sent_by cause)
  sent_each cause caused requests =
      let so_far = node_step (input_of_cause cause) host.node in
      let asking = step_asks statements world n host cause caused ready requests in
      let leaves = leaves_at statements world n host cause caused in
      host_changes world.hosts world.wire (sent_by cause) n each
      (others_stay (StaysAt cause) n host so_far.node so_far.outputs.sends world.wire (wire_at_cause cause world.wire) ready.matches asking leaves)
      (host_with_node host so_far.node)
      (sends_match (StaysAt cause) n host so_far.node so_far.outputs.sends (packets_of world.wire n) (packets_of (sent_by cause) n) ready.up ready.matches asking
      (moves (StaysAt cause) n host so_far.node so_far.outputs.sends world.wire (wire_at_cause cause world.wire) ready.matches asking leaves))

  -- where a request is served, its sender gets the reply
  module _ (name : MessageName) (to : NodeId) (request : PeerReq) (here : RequestIsHere world n name to request) (replies : RepliesFit world)
      (requests : Requests (RequestComes name to request)) where
    abbrev cause : NodeCause
    cause = RequestComes name to request

    abbrev rsp : PeerRsp
    rsp = reply_to host.node.peer request

    abbrev after : tree.FinMap nat_cmp Host
    after = tree.insert world.hosts n (host_after_step cause host)

    for_host : IsForHost world name to request host
    for_host = record {
      bytes = here.bytes;
      there = here.there;
      read = here.read;
      receiver = ap (tree.get world.hosts) here.here ∙ ready.there;
      up = ready.up;
    }

    numbered : request.number ≡ name.number
    numbered =
        let (asked, reads, named) = (all_wired world.hosts world.wire each).spelled name (Request to here.bytes) here.there in
        ap (λ (request : PeerReq). request.number) (same_asked request asked (sym here.read ∙ reads)) ∙ ap (λ (name : MessageName). name.number) named

    fit_of : (sender : Host) → tree.get after name.sender.0 ≡ Some sender → is_host_up sender ≡ true → fits_node rsp sender.node ≡ true
    fit_of sender at up = ⊎_elim
        (λ (own : name.sender.0 ≡ n).
        let got = ap (λ (k : ℕ). packets_of world.wire k name.number) (sym own) ∙ here.there in
        let below = subst (λ (k : ℕ). k < host.node.sends) (sym numbered) (ready.matches.given name.number (Request to here.bytes) got) in
        let asking = step_asks statements world n host cause here ready requests in
        let is = same_Some (host_after_step cause host) sender (sym (ap (tree.get after) own ∙ get-insert_same world.hosts n (host_after_step cause host)) ∙ at) in
        subst (λ (host : Host). fits_node rsp host.node ≡ true) is
        (asking.fits_on rsp below tt (replies.fitting name to request host host for_host (ap (tree.get world.hosts) own ∙ ready.there) ready.up)))
        (λ (other : name.sender.0 ≢ n). replies.fitting name to request host sender for_host
        (sym (get-insert_other world.hosts n (host_after_step cause host) name.sender.0 other) ∙ at) up)
        (cases_eq name.sender.0 n)

    served_each : EachMatches after (wire_with_reply name to (is_up_among after name.sender.0) (Some rsp) (sent_by cause))
    served_each = replied
        after (sent_by cause) name to here.bytes rsp (sent_each cause here requests)
        (ap (λ (sends : Sends). tree.get (fold wire_with_request world.wire sends) name) (served_silent request host.node) ∙ here.there)
        (replies.spelled name to request host for_host) numbered fit_of (is_up_among after name.sender.0) refl

  step_each : (cause : NodeCause) → IsCause statements world n host cause → RepliesFit world → Requests cause
      → EachMatches (tree.insert world.hosts n (host_after_step cause host))
      (wire_after_cause cause (tree.insert world.hosts n (host_after_step cause host)) host.node (sent_by cause))
  step_each (GuestAsks session req ask) caused replies requests = sent_each (GuestAsks session req ask) caused requests
  step_each (RequestComes name to request) caused replies requests = served_each name to request caused replies requests
  step_each (ReplyComes name from rsp) caused replies requests = sent_each (ReplyComes name from rsp) caused requests
  step_each (LossIsTold name packet) caused replies requests = sent_each (LossIsTold name packet) caused requests
  step_each (EntryIsRead entry) caused replies requests = sent_each (EntryIsRead entry) caused requests
  step_each (EntryIsPut entry) caused replies requests = sent_each (EntryIsPut entry) caused requests
  step_each RecoveryTicks caused replies requests = sent_each RecoveryTicks caused requests
  step_each WorkIsRetried caused replies requests = sent_each WorkIsRetried caused requests
  step_each (ClientAsks req ask) caused replies requests = sent_each (ClientAsks req ask) caused requests

-- ---- each kind of event

none_of : {X : Type 0} (o : Option X) → is_some o ≡ false → o ≡ None
none_of None is = refl
none_of (Some x) is = absurd (cc (is))

module _ (statements : List Statement) (world : World) (before : HoldsTogether statements world) where
  each : EachMatches world.hosts world.wire
  each = each_match world.hosts world.wire before.wired

  matches_at : (n : ℕ) (o : Option Host) → tree.get world.hosts n ≡ o → Matches n o (packets_of world.wire n)
  matches_at n o is = subst (λ (o : Option Host). Matches n o (packets_of world.wire n)) is (each n)

  pub is_ready : (n : ℕ) (host : Host) → tree.get world.hosts n ≡ Some host → is_host_up host ≡ true → IsReady statements world n host
  is_ready n host there up = record {
    there = there;
    up = up;
    matches = matches_at n (Some host) there;
    driven = before.driven n host there;
    begun = before.begun;
    asked = before.asked n host there;
    range = before.recoveries n host there;
  }

module _ (statements : List Statement) (event : Event) (world : World) (made : EventOutcome) (before : HoldsTogether statements world) where
  abbrev each_before : EachMatches world.hosts world.wire
  each_before = each_match world.hosts world.wire before.wired

  after_event : EventKind statements event world made → IsSentInRange made.world → EachMatches made.world.hosts made.world.wire
  after_event (NodeStep h) requests =
      subst (λ (m : EventOutcome). EachMatches m.world.hosts m.world.wire) h.made_so
      (step_each statements world h.n h.host (is_ready statements world before h.n h.host h.there h.up) each_before h.cause h.caused before.messages.replies
      (subst (λ (m : EventOutcome). IsSentInRange m.world) (sym h.made_so) requests))
  after_event (UntoldLoss h) requests =
      subst (λ (m : EventOutcome). EachMatches m.world.hosts m.world.wire) h.made_so (removed world.hosts world.wire h.name h.down each_before)
  after_event (UnreadDelivery h) requests = subst (λ (m : EventOutcome). EachMatches m.world.hosts m.world.wire) h.made_so each_before
  after_event (NodeLoss h) requests =
      let wire = without_replies h.n world.wire in
      subst (λ (m : EventOutcome). EachMatches m.world.hosts m.world.wire) h.made_so
      (host_changes world.hosts world.wire wire h.n each_before
      (λ q other number. same_without h.n world.wire (record { sender = record { 0 = q }; number = number }) other) (lost_host h.host)
      (fewer_match h.n h.host (lost_host h.host) (packets_of world.wire h.n) (packets_of wire h.n) refl refl
      (λ number packet got. got_before h.n world.wire (record { sender = record { 0 = h.n }; number = number }) packet got)
      (matches_at statements world before h.n (Some h.host) h.there)))
  after_event (NodeLeave h) requests = subst (λ (m : EventOutcome). EachMatches m.world.hosts m.world.wire) h.made_so each_before
  after_event (NodeReweight h) requests = subst (λ (m : EventOutcome). EachMatches m.world.hosts m.world.wire) h.made_so each_before
  after_event (NodeJoin h) requests =
      let none = none_of (tree.get world.hosts h.n) (next_fits statements world (lines.Join h.n) h.control before.fit).1 in
      subst (λ (m : EventOutcome). EachMatches m.world.hosts m.world.wire) h.made_so
      (host_changes world.hosts world.wire world.wire h.n each_before (λ q other number. refl) (joined_host statements h.n)
      (idle_matches h.n (joined_host statements h.n) (packets_of world.wire h.n) refl (asked_by-opening (record { 0 = h.n }) (tries_of statements))
      (matches_at statements world before h.n None none)))
  after_event (NodeReturn h) requests =
      let log = log_after_return statements h.n world in
      let again = host_after_return log h.host in
      let new = stepped_renewed log h.host.node in
      subst (λ (m : EventOutcome). EachMatches m.world.hosts m.world.wire) h.made_so
      (subst (λ (sends : Sends). EachMatches (tree.insert world.hosts h.n again) (fold wire_with_request world.wire sends)) (sym new.silent)
      (host_changes world.hosts world.wire world.wire h.n each_before (λ q other number. refl) again
      (idle_matches h.n again (packets_of world.wire h.n)
      (ap (λ (me : NodeId). me.0) new.node_so.me_so ∙ (matches_at statements world before h.n (Some h.host) h.there).numbered)
      (asked_by-renewed h.host.node.me h.host.node.gateway.tries again.node new.node_so)
      (λ number packet got. no_sender world h.n (ap not h.no_end) (record { sender = record { 0 = h.n }; number = number }) packet got refl))))
  after_event (PhaseEnd h) requests = subst (λ (m : EventOutcome). EachMatches m.world.hosts m.world.wire) h.made_so each_before

  pub wired_after : EventKind statements event world made → IsSentInRange made.world → WireMatchesNodes made.world
  wired_after kind requests = all_wired made.world.hosts made.world.wire (after_event kind requests)
