-- Where an attempt was served over a kind of traffic: at the places at which it was served before, and at that of the message that is
-- served now.
use Rattle.std.proofs.Common.{◌≡◌, ◌≢◌, ⊎_elim, ℕ, zero, suc, ◌-◌, ◌==◌, Bool, true, cond, ◌&&◌, List, [], ◌∷◌, Option, Some, None}
use Rattle.std.proofs.Common.{option_map, slice_get, refl, sym, ap, subst, ◌∙◌}
use Rattle.std.specs.Option.{option_map_or}
use Rattle.std.specs.FinMap as tree
use Rattle.std.proofs.lemmas.Bool.{and_parts, eqb-true, eq-eqb, or_left, or_right, or_cases}
use Rattle.std.proofs.lemmas.Option.{slice_get_within}
use Rattle.object_id.specs.declared.node.NodeId.{NodeId}
use Rattle.peer_proto.specs.declared.say.PeerRsp.{PeerRsp}
use Rattle.peer_proto.specs.Ask.{ask_in}
use Rattle.message_wire.specs.declared.name.MessageName.{MessageName}
use Rattle.message_wire.specs.declared.packet.Packet.{Packet}
use Rattle.message_wire.specs.declared.packet.Packet.TheVariants.{Request, Reply}
use Rattle.sheep_world.proofs.RecoveryMessages.{same_asked}
use Rattle.overlap_law.specs.Attempts.{AttemptRecord, MessageFate, Flying, Served, Doomed, known_fate, fates_with, attempts_with_fate}
use Rattle.overlap_law.specs.Attempts.{fate_of_say}
use Rattle.overlap_law.specs.Words.{is_served, is_served_by}
use Rattle.overlap_law.specs.Reached.{Hosts}
use Rattle.overlap_law.specs.Packets.{Wire, IsAsking, message_name_at, message_request_at}
use Rattle.overlap_law.specs.Fates.{FatesAreOfTheWire}
use Rattle.overlap_law.specs.StepMoments.{attempts_with_loss}
use Rattle.overlap_law.specs.Traffic.{IsAnswer, Traffic, NothingMoves, MessageIsLost, ReplyIsReceived, RequestIsAnswered, RequestsAreSent}
use Rattle.overlap_law.specs.Traffic.{AttemptBegins, RepliesGo}
use Rattle.overlap_law.proofs.AttemptLists.{got_more, got_marked, fates_told, told_own, has_own, own_place, other_place}
use Rattle.overlap_law.proofs.WireLemmas.{tied_to}

-- ---- the places at which a node served

is_served_so : (fate : MessageFate) → is_served fate ≡ true → fate ≡ Served
is_served_so Flying is = absurd (cc (is))
is_served_so Served is = refl
is_served_so Doomed is = absurd (cc (is))

pub served_at : (node : NodeId) (targets : List NodeId) (fates : List MessageFate) → is_served_by node targets fates ≡ true
    → (place : ℕ) × (target : NodeId) × (slice_get targets place ≡ Some target) × (slice_get fates place ≡ Some Served)
    × (target.0 ≡ node.0)
served_at node [] fates is = absurd (cc (is))
served_at node (target ∷ targets) [] is = absurd (cc (is))
served_at node (target ∷ targets) (fate ∷ fates) is = ⊎_elim
    (λ (here : (target.0 == node.0 && is_served fate) ≡ true).
    let (own, served) = and_parts (target.0 == node.0) (is_served fate) here in
    (zero, target, refl, ap (λ (f : MessageFate). Some f) (is_served_so fate served), eqb-true target.0 node.0 own))
    (λ (later : is_served_by node targets fates ≡ true).
    let (place, at, among, served, own) = served_at node targets fates later in
    (suc place, at, among, served, own))
    (or_cases (target.0 == node.0 && is_served fate) (is_served_by node targets fates) is)

abbrev number_of : Option NodeId → ℕ
number_of o = option_map_or (λ (id : NodeId). id.0) o 0

abbrev served_in : Option MessageFate → Bool
served_in o = option_map_or is_served o true

abbrev fate_in : Option MessageFate → MessageFate
fate_in None = Doomed
fate_in (Some fate) = fate

pub served_from : (node : NodeId) (targets : List NodeId) (fates : List MessageFate) (place : ℕ) → slice_get targets place ≡ Some node
    → slice_get fates place ≡ Some Served → is_served_by node targets fates ≡ true
served_from node [] fates place among served = absurd (cc (among))
served_from node (target ∷ targets) [] place among served = absurd (cc (served))
served_from node (target ∷ targets) (fate ∷ fates) zero among served =
    or_left (target.0 == node.0 && is_served fate) (is_served_by node targets fates)
    (ap (λ (b : Bool). b && is_served fate) (eq-eqb target.0 node.0 (ap number_of among)) ∙ ap served_in served)
served_from node (target ∷ targets) (fate ∷ fates) (suc place) among served =
    or_right (target.0 == node.0 && is_served fate) (is_served_by node targets fates) (served_from node targets fates place among served)

-- ---- parts of packets

abbrev bytes_of : Option Packet → List ℕ
bytes_of None = []
bytes_of (Some (Request to bytes)) = bytes
bytes_of (Some (Reply from bytes)) = bytes

abbrev receiver_of : NodeId → Option Packet → NodeId
receiver_of one None = one
receiver_of one (Some (Request to bytes)) = to
receiver_of one (Some (Reply from bytes)) = from

-- ---- every kind of traffic

-- the attempts have these served places, whose targets are so
abbrev pub AreServedSo : (AttemptRecord → NodeId → Type 0) → List AttemptRecord → Type 0
AreServedSo P attempts = (j : ℕ) (attempt : AttemptRecord) → slice_get attempts j ≡ Some attempt → (place : ℕ) (target : NodeId)
    → slice_get attempt.targets place ≡ Some target → slice_get attempt.fates place ≡ Some Served → P attempt target

-- a node that answers with success what a message of one of the attempts asks of it is so
abbrev pub AreSoOnSuccess : Hosts → Hosts → (AttemptRecord → NodeId → Type 0) → List AttemptRecord → Type 0
AreSoOnSuccess hosts hosts_after P attempts = (name : MessageName) (to : NodeId) (bytes : List ℕ) (up : Bool) (rsp : PeerRsp)
    → (answer : IsAnswer hosts hosts_after name to bytes up rsp) → fate_of_say rsp.say ≡ Served → (j : ℕ) (attempt : AttemptRecord)
    → slice_get attempts j ≡ Some attempt → (place : ℕ) → slice_get attempt.targets place ≡ Some to
    → answer.request ≡ message_request_at attempt place → P attempt to

module _ (hosts hosts_after : Hosts) (wire : Wire) (attempts : List AttemptRecord) (fates : FatesAreOfTheWire wire attempts)
    (P : AttemptRecord → NodeId → Type 0) where
  -- where a message that flew is served, its target is so
  abbrev pub IsServedNow : MessageName → Type 0
  IsServedNow name = (j : ℕ) (was : AttemptRecord) → slice_get attempts j ≡ Some was → (place : ℕ) (target : NodeId)
      → slice_get was.targets place ≡ Some target → message_name_at was place ≡ name → slice_get was.fates place ≡ Some Flying
      → P was target

  pub answered : AreSoOnSuccess hosts hosts_after P attempts
      → (name : MessageName) (to : NodeId) (bytes : List ℕ) (up : Bool) (rsp : PeerRsp)
      → tree.get wire name ≡ Some (Request to bytes) → (answer : IsAnswer hosts hosts_after name to bytes up rsp)
      → fate_of_say rsp.say ≡ Served → IsServedNow name
  answered newly name to bytes up rsp there answer served j was at place target among own flying =
      let asking : IsAsking wire (message_name_at was place) target (message_request_at was place)
      = fates.each j was at place target Flying among flying in
      let packets : Some (Request target asking.bytes) ≡ Some (Request to bytes)
      = sym asking.there ∙ ap (tree.get wire) own ∙ there in
      let to_so : to ≡ target = sym (ap (receiver_of target) packets) in
      let bytes_so : bytes ≡ asking.bytes = sym (ap bytes_of packets) in
      let request_so : answer.request ≡ message_request_at was place
      = same_asked answer.request (message_request_at was place) (sym answer.read ∙ ap ask_in bytes_so ∙ asking.spelled) in
      subst (P was) to_so
      (newly name to bytes up rsp answer served j was at place (among ∙ ap (λ (node : NodeId). Some node) (sym to_so)) request_so)

  module _ (told_so : (attempt : AttemptRecord) (told : List MessageFate) (target : NodeId) → P attempt target
      → P (record attempt { fates = told }) target)
      (before : AreServedSo P attempts) where
    -- at the message that is told of
    told_here : (told : MessageFate) (name : MessageName) → (told ≡ Served → IsServedNow name) → (j : ℕ) (was : AttemptRecord)
        → slice_get attempts j ≡ Some was → (place : ℕ) (target : NodeId) → slice_get was.targets place ≡ Some target
        → message_name_at was place ≡ name → slice_get (fates_told told name.sender name.number was) place ≡ Some Served → P was target
    told_here told name now j was at place target among own served =
        let fates_so : slice_get (fates_told told name.sender name.number was) place
        ≡ option_map (known_fate told) (slice_get was.fates place)
        = ap (λ (b : Bool). slice_get (cond b (fates_with (name.number - was.first) told was.fates) was.fates) place)
        (has_own was name place (slice_get_within was.targets place target among) own)
        ∙ ap (λ (p : ℕ). slice_get (fates_with p told was.fates) place) (own_place was name place own)
        ∙ told_own place told was.fates in
        by_fate (slice_get was.fates place) refl (sym fates_so ∙ served)
      where
        by_fate : (o : Option MessageFate) → slice_get was.fates place ≡ o → option_map (known_fate told) o ≡ Some Served → P was target
        by_fate None is so = absurd (cc (so))
        by_fate (Some Flying) is so = now (ap fate_in so) j was at place target among own is
        by_fate (Some Served) is so = before j was at place target among is
        by_fate (Some Doomed) is so = absurd (cc (so))

    marked : (told : MessageFate) (name : MessageName) → (told ≡ Served → IsServedNow name)
        → AreServedSo P (attempts_with_fate told name.sender name.number attempts)
    marked told name now j attempt there place target among served =
        let (was, at, is) = got_marked told name.sender name.number attempts j attempt there in
        let among_was : slice_get was.targets place ≡ Some target = ap (λ (a : AttemptRecord). slice_get a.targets place) is ∙ among in
        let served_was : slice_get (fates_told told name.sender name.number was) place ≡ Some Served
        = ap (λ (a : AttemptRecord). slice_get a.fates place) is ∙ served in
        subst (λ (a : AttemptRecord). P a target) is
        (told_so was (fates_told told name.sender name.number was) target
        (⊎_elim
        (λ (own : message_name_at was place ≡ name). told_here told name now j was at place target among_was own served_was)
        (λ (apart : message_name_at was place ≢ name).
        before j was at place target among_was (sym (other_place was name told place apart) ∙ served_was))
        (tied_to wire name (message_name_at was place))))

    pub traffic_served : {later : Wire} {after : List AttemptRecord} → Traffic hosts hosts_after wire attempts later after
        → AreSoOnSuccess hosts hosts_after P attempts → AreServedSo P after
    traffic_served NothingMoves newly = before
    traffic_served (MessageIsLost name packet there) newly = lost packet
      where
        lost : (packet : Packet) → AreServedSo P (attempts_with_loss name packet attempts)
        lost (Request to bytes) = marked Doomed name (λ is. absurd (cc (is)))
        lost (Reply sender bytes) = before
    traffic_served (ReplyIsReceived name sender bytes there) newly = before
    traffic_served (RequestIsAnswered name to bytes up rsp there answer) newly =
        marked (fate_of_say rsp.say) name (λ served. answered newly name to bytes up rsp there answer served)
    traffic_served (RequestsAreSent n sends by nothing) newly = before
    traffic_served (AttemptBegins n sends new begun) newly = λ j attempt there place target among served. ⊎_elim
        (λ (old : slice_get attempts j ≡ Some attempt). before j attempt old place target among served)
        (λ own.
        let flies = begun.flying place Served (ap (λ (a : AttemptRecord). slice_get a.fates place) own.1 ∙ served) in
        absurd (cc (flies)))
        (got_more attempts new j attempt there)
    traffic_served (RepliesGo n) newly = before
