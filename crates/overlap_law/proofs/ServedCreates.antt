-- A create of an object that a node has served: it stays served over each kind of traffic, and the create that a node answers with
-- success is served then.
use Rattle.std.proofs.Common.{◌≡◌, ◌≢◌, ⊎_elim, arith, ℕ, zero, suc, ◌<◌, ◌-◌, true, false, cond, Bool, List, [], ◌∷◌, length, Option, Some}
use Rattle.std.proofs.Common.{None, option_map, slice_get, refl, sym, ap, subst, ◌∙◌}
use Rattle.std.specs.FinMap as tree
use Rattle.std.proofs.lemmas.Option.{slice_get_within}
use Rattle.object_id.specs.declared.node.NodeId.{NodeId}
use Rattle.object_store.specs.declared.key.Key.{Key}
use Rattle.peer_proto.specs.declared.ask.PeerAsk.{PeerAsk}
use Rattle.peer_proto.specs.declared.ask.PeerAsk.TheVariants as asks
use Rattle.peer_proto.specs.declared.ask.PeerReq.{PeerReq}
use Rattle.peer_proto.specs.declared.say.PeerSay.TheVariants as says
use Rattle.peer_proto.specs.declared.say.Refusal.{Refusal}
use Rattle.peer_service.specs.State.{Peer}
use Rattle.peer_service.specs.Fence.{epoch_refusal}
use Rattle.peer_service.specs.Serve as serve
use Rattle.peer_service.specs.Serve.{step_behind_fence, peer_step}
use Rattle.message_wire.specs.declared.name.MessageName.{MessageName}
use Rattle.message_wire.specs.declared.packet.Packet.{Packet}
use Rattle.message_wire.specs.declared.packet.Packet.TheVariants.{Request, Reply}
use Rattle.sheep_world.specs.NodeSteps.{request_name}
use Rattle.sheep_world.specs.WireMatch.{PacketsAreReadable}
use Rattle.sheep_world.proofs.RecoveryMessages.{same_asked}
use Rattle.overlap_law.specs.Attempts.{AttemptRecord, MessageFate, Flying, Served, Doomed, known_fate, fates_with, attempt_with_fate}
use Rattle.overlap_law.specs.Attempts.{attempts_with_fate, fate_of_say}
use Rattle.overlap_law.specs.Words.{is_served_by, has_served}
use Rattle.overlap_law.specs.Reached.{Hosts}
use Rattle.overlap_law.specs.Packets.{Wire, IsAsking, is_request_in_flight, message_name_at, message_request_at}
use Rattle.overlap_law.specs.Fates.{FatesAreOfTheWire}
use Rattle.overlap_law.specs.Rows.{HasServedACreate}
use Rattle.overlap_law.specs.StepMoments.{attempts_with_loss}
use Rattle.overlap_law.specs.Traffic.{Traffic, NothingMoves, MessageIsLost, ReplyIsReceived, RequestIsAnswered, RequestsAreSent}
use Rattle.overlap_law.specs.Traffic.{AttemptBegins, RepliesGo}
use Rattle.overlap_law.proofs.AttemptLists.{got_still, map_got, fates_told, marked_shape, told_own, has_own, own_place, other_place}
use Rattle.overlap_law.proofs.ServedPlaces.{served_at, served_from}
use Rattle.overlap_law.proofs.WireLemmas.{tied_to}

-- ---- what is told of a message

-- the fate of the message that is told of
fate_told_of : (attempt : AttemptRecord) (told : MessageFate) (name : MessageName) (place : ℕ) (node : NodeId)
    → slice_get attempt.targets place ≡ Some node → message_name_at attempt place ≡ name
    → slice_get (fates_told told name.sender name.number attempt) place ≡ option_map (known_fate told) (slice_get attempt.fates place)
fate_told_of attempt told name place node among own =
    ap (λ (b : Bool). slice_get (cond b (fates_with (name.number - attempt.first) told attempt.fates) attempt.fates) place)
    (has_own attempt name place (slice_get_within attempt.targets place node among) own)
    ∙ ap (λ (p : ℕ). slice_get (fates_with p told attempt.fates) place) (own_place attempt name place own)
    ∙ told_own place told attempt.fates

-- an attempt as it is once that is told
told_there : (told : MessageFate) (sender : NodeId) (number : ℕ) (attempts : List AttemptRecord) (j : ℕ) (attempt : AttemptRecord)
    → slice_get attempts j ≡ Some attempt
    → slice_get (attempts_with_fate told sender number attempts) j
    ≡ Some (record attempt { fates = fates_told told sender number attempt })
unfolding attempts_with_fate
told_there told sender number attempts j attempt there =
    map_got (attempt_with_fate told sender number) attempts j attempt there
    ∙ ap (λ (a : AttemptRecord). Some a) (marked_shape told sender number attempt)

-- what is served stays so, whatever is told of a message
still_served : (wire : Wire) (attempt : AttemptRecord) (told : MessageFate) (name : MessageName) (place : ℕ) (node : NodeId)
    → slice_get attempt.targets place ≡ Some node → slice_get attempt.fates place ≡ Some Served
    → slice_get (fates_told told name.sender name.number attempt) place ≡ Some Served
still_served wire attempt told name place node among served = ⊎_elim
    (λ (own : message_name_at attempt place ≡ name).
    fate_told_of attempt told name place node among own ∙ ap (option_map (known_fate told)) served)
    (λ (apart : message_name_at attempt place ≢ name). other_place attempt name told place apart ∙ served)
    (tied_to wire name (message_name_at attempt place))

served_marked : (wire : Wire) (told : MessageFate) (name : MessageName) (attempts : List AttemptRecord) (oid epoch : ℕ) (node : NodeId)
    → HasServedACreate attempts oid epoch node
    → HasServedACreate (attempts_with_fate told name.sender name.number attempts) oid epoch node
served_marked wire told name attempts oid epoch node has =
    let was : AttemptRecord = has.create in
    let (place, target, among, served, own) = served_at node was.targets was.fates has.served in
    let marked : List MessageFate = fates_told told name.sender name.number was in
    let now : is_served_by target was.targets marked ≡ true
    = served_from target was.targets marked place among (still_served wire was told name place target among served) in
    record {
      place = has.place;
      create = record was { fates = marked };
      there = told_there told name.sender name.number attempts has.place was has.there;
      object = has.object;
      creating = has.creating;
      of_epoch = has.of_epoch;
      served = ap (λ (k : ℕ). is_served_by (record { 0 = k }) was.targets marked) (sym own) ∙ now;
    }

-- ---- every kind of traffic

module _ (hosts hosts_after : Hosts) (wire : Wire) (attempts : List AttemptRecord) (oid epoch : ℕ) (node : NodeId)
    (has : HasServedACreate attempts oid epoch node) where
  pub served-still : {later : Wire} {after : List AttemptRecord} → Traffic hosts hosts_after wire attempts later after
      → HasServedACreate after oid epoch node
  served-still NothingMoves = has
  served-still (MessageIsLost name packet there) = lost packet
    where
      lost : (packet : Packet) → HasServedACreate (attempts_with_loss name packet attempts) oid epoch node
      lost (Request to bytes) = served_marked wire Doomed name attempts oid epoch node has
      lost (Reply sender bytes) = has
  served-still (ReplyIsReceived name sender bytes there) = has
  served-still (RequestIsAnswered name to bytes up rsp there answer) =
      served_marked wire (fate_of_say rsp.say) name attempts oid epoch node has
  served-still (RequestsAreSent n sends by nothing) = has
  served-still (AttemptBegins n sends new begun) = record {
    place = has.place;
    create = has.create;
    there = got_still attempts new has.place has.create has.there;
    object = has.object;
    creating = has.creating;
    of_epoch = has.of_epoch;
    served = has.served;
  }
  served-still (RepliesGo n) = has

-- ---- a create that is served

-- a create of the node's own epoch succeeds
pub create_succeeds : (peer : Peer) (request : PeerReq) (key : Key) (size offset : ℕ) (bytes : List ℕ)
    → request.ask ≡ asks.Create key size offset bytes → epoch_refusal peer.epoch request.epoch.0 ≡ None
    → (peer_step peer request).say ≡ says.Success
unfolding peer_step serve.own_epoch_step
create_succeeds peer request key size offset bytes asked own =
    ap (λ (o : Option Refusal). (step_behind_fence o request.ask peer).say) own
    ∙ ap (λ (ask : PeerAsk). (serve.own_epoch_step ask peer).say) asked

-- the request of an attempt's message has that message's name
pub own_name : (wire : Wire) (readable : PacketsAreReadable wire) (name : MessageName) (to : NodeId) (request : PeerReq)
    → IsAsking wire name to request → (attempt : AttemptRecord) (place : ℕ) → request ≡ message_request_at attempt place
    → message_name_at attempt place ≡ name
own_name wire readable name to request asking attempt place is =
    let (read, spelled, named) = readable name (Request to asking.bytes) asking.there in
    let same : request ≡ read = same_asked request read (sym asking.spelled ∙ spelled) in
    sym (ap request_name is) ∙ ap request_name same ∙ named

-- something stands at a place inside
no_place : (fates : List MessageFate) (place : ℕ) → place < length fates → slice_get fates place ≡ None → ⊥
no_place [] place inside none = omega (arith, inside)
no_place (fate ∷ fates) zero inside none = cc (none)
no_place (fate ∷ fates) (suc place) inside none = no_place fates place (omega (arith, inside)) none

-- a message whose request is in the wire flies
pub flies : (wire : Wire) (attempts : List AttemptRecord) → FatesAreOfTheWire wire attempts → PacketsAreReadable wire → (name : MessageName)
    (to : NodeId) (request : PeerReq) → IsAsking wire name to request → (j : ℕ) (attempt : AttemptRecord)
    → slice_get attempts j ≡ Some attempt → (place : ℕ) → slice_get attempt.targets place ≡ Some to
    → request ≡ message_request_at attempt place → slice_get attempt.fates place ≡ Some Flying
flies wire attempts fates readable name to request asking j attempt there place among is =
    by_fate (slice_get attempt.fates place) refl
  where
    in_flight : is_request_in_flight (tree.get wire (message_name_at attempt place)) ≡ true
    in_flight = ap is_request_in_flight (ap (tree.get wire) (own_name wire readable name to request asking attempt place is) ∙ asking.there)

    inside : place < length attempt.fates
    inside =
        subst (λ (k : ℕ). place < k) (sym (fates.whole j attempt there)) (slice_get_within attempt.targets place to among)

    by_fate : (o : Option MessageFate) → slice_get attempt.fates place ≡ o → o ≡ Some Flying
    by_fate None none = absurd (no_place attempt.fates place inside none)
    by_fate (Some Flying) got = refl
    by_fate (Some Served) got =
        let none : is_request_in_flight (tree.get wire (message_name_at attempt place)) ≡ false
        = fates.each j attempt there place to Served among got in
        absurd (cc (none, in_flight))
    by_fate (Some Doomed) got =
        let none : is_request_in_flight (tree.get wire (message_name_at attempt place)) ≡ false
        = fates.each j attempt there place to Doomed among got in
        absurd (cc (none, in_flight))

-- once it is told that the message is served, the target has served it
pub served-now : (wire : Wire) (attempts : List AttemptRecord) → PacketsAreReadable wire → (name : MessageName) (to : NodeId)
    (request : PeerReq) → IsAsking wire name to request → (j : ℕ) (attempt : AttemptRecord) → slice_get attempts j ≡ Some attempt
    → (place : ℕ) → slice_get attempt.targets place ≡ Some to → request ≡ message_request_at attempt place
    → slice_get attempt.fates place ≡ Some Flying
    → (now : AttemptRecord) × (slice_get (attempts_with_fate Served name.sender name.number attempts) j ≡ Some now)
    × (now.work ≡ attempt.work) × (now.epoch ≡ attempt.epoch) × (has_served to now ≡ true)
served-now wire attempts readable name to request asking j attempt there place among is flying =
    let own = own_name wire readable name to request asking attempt place is in
    let marked : List MessageFate = fates_told Served name.sender name.number attempt in
    let served : slice_get marked place ≡ Some Served
    = fate_told_of attempt Served name place to among own ∙ ap (option_map (known_fate Served)) flying in (
      record attempt { fates = marked },
      told_there Served name.sender name.number attempts j attempt there,
      refl,
      refl,
      served_from to attempt.targets marked place among served,
    )
