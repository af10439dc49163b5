-- Each kind of traffic leaves a doomed attempt doomed: a message that was lost or refused stays so, and one that flies to a node which is
-- beyond its epoch isn't served there.
use Rattle.std.proofs.Common.{◌≡◌, ◌≢◌, ⊎_elim, arith, ℕ, zero, suc, ◌+◌, ◌-◌, ◌||◌, nat_le, Bool, true, false, cond, List, [], ◌∷◌, length}
use Rattle.std.proofs.Common.{Option, Some, option_map, refl, sym, ap, subst, ◌∙◌, slice_get}
use Rattle.std.specs.Option.{option_map_or}
use Rattle.std.proofs.lemmas.Bool.{or_cases, or_left, or_right, lt-leb}
use Rattle.std.proofs.lemmas.Option.{same_Some, slice_get_within}
use Rattle.object_id.specs.declared.node.NodeId.{NodeId}
use Rattle.peer_proto.specs.declared.ask.PeerReq.{PeerReq}
use Rattle.peer_proto.specs.declared.say.PeerRsp.{PeerRsp}
use Rattle.peer_proto.specs.declared.say.PeerSay.TheVariants as says
use Rattle.peer_service.specs.State.{Peer}
use Rattle.peer_service.specs.Serve.{peer_step}
use Rattle.message_wire.specs.declared.name.MessageName.{MessageName}
use Rattle.message_wire.specs.declared.packet.Packet.{Packet}
use Rattle.message_wire.specs.declared.packet.Packet.TheVariants.{Request, Reply}
use Rattle.sheep_world.specs.World.{Host}
use Rattle.overlap_law.specs.Attempts.{AttemptRecord, MessageFate, Flying, Served, Doomed, has_message, known_fate, fates_with}
use Rattle.overlap_law.specs.Attempts.{attempts_with_fate, fate_of_say}
use Rattle.overlap_law.specs.Words.{is_in_vain, is_one_in_vain, is_doomed}
use Rattle.overlap_law.specs.Reached.{Hosts, has_come_in, is_beyond}
use Rattle.overlap_law.specs.Packets.{Wire, message_name_at}
use Rattle.overlap_law.specs.Fates.{FatesAreOfTheWire}
use Rattle.overlap_law.specs.StepMoments.{attempts_with_loss}
use Rattle.overlap_law.specs.Traffic.{Traffic, NothingMoves, MessageIsLost, ReplyIsReceived, RequestIsAnswered, RequestsAreSent}
use Rattle.overlap_law.specs.Traffic.{AttemptBegins, RepliesGo}
use Rattle.overlap_law.proofs.AttemptLists.{got_still, got_marked, fates_told, told_own, told-length, has_own, own_place, other_place}
use Rattle.overlap_law.proofs.FateLemmas.{in_vain-grows}
use Rattle.overlap_law.proofs.ServedPlaces.{AreSoOnSuccess, IsServedNow, answered}
use Rattle.overlap_law.proofs.TrafficServers.{success_in_epoch, say_of_served}
use Rattle.overlap_law.proofs.WireLemmas.{tied_to}

-- ---- the messages of an attempt

vain_later : (hosts hosts_after : Hosts) (epoch : ℕ) (targets : List NodeId) (fates later : List MessageFate) → length later ≡ length fates
    → ((place : ℕ) (target : NodeId) (fate now : MessageFate) → slice_get targets place ≡ Some target → slice_get fates place ≡ Some fate
    → slice_get later place ≡ Some now → is_in_vain hosts epoch target fate ≡ true → is_in_vain hosts_after epoch target now ≡ true)
    → is_one_in_vain hosts epoch targets fates ≡ true → is_one_in_vain hosts_after epoch targets later ≡ true
vain_later hosts hosts_after epoch [] fates later long so vain = absurd (cc (vain))
vain_later hosts hosts_after epoch (target ∷ targets) [] later long so vain = absurd (cc (vain))
vain_later hosts hosts_after epoch (target ∷ targets) (fate ∷ fates) [] long so vain = absurd (cc (long))
vain_later hosts hosts_after epoch (target ∷ targets) (fate ∷ fates) (now ∷ later) long so vain = ⊎_elim
    (λ (here : is_in_vain hosts epoch target fate ≡ true).
    or_left (is_in_vain hosts_after epoch target now) (is_one_in_vain hosts_after epoch targets later)
    (so zero target fate now refl refl refl here))
    (λ (rest : is_one_in_vain hosts epoch targets fates ≡ true).
    or_right (is_in_vain hosts_after epoch target now) (is_one_in_vain hosts_after epoch targets later)
    (vain_later hosts hosts_after epoch targets fates later (cc (long))
    (λ place other f n among got is. so (suc place) other f n among got is) rest))
    (or_cases (is_in_vain hosts epoch target fate) (is_one_in_vain hosts epoch targets fates) vain)

-- an attempt has other fates, and each message of it that was in vain is so still
pub record StaysInVain (hosts hosts_after : Hosts) (was now : AttemptRecord) : Type 0 where
  pub same : record was { fates = now.fates } ≡ now
  pub long : length now.fates ≡ length was.fates
  pub each : (place : ℕ) (target : NodeId) (fate then : MessageFate) → slice_get was.targets place ≡ Some target
      → slice_get was.fates place ≡ Some fate → slice_get now.fates place ≡ Some then
      → is_in_vain hosts was.epoch target fate ≡ true → is_in_vain hosts_after was.epoch target then ≡ true

pub doomed_by : (hosts hosts_after : Hosts) (was now : AttemptRecord) → StaysInVain hosts hosts_after was now → is_doomed hosts was ≡ true
    → is_doomed hosts_after now ≡ true
doomed_by hosts hosts_after was now stays doomed =
    subst (λ (a : AttemptRecord). is_doomed hosts_after a ≡ true) stays.same
    (vain_later hosts hosts_after was.epoch was.targets was.fates now.fates stays.long stays.each doomed)

-- what is told of a message leaves it in vain, if none is served whose target is beyond
told_vain : (hosts hosts_after : Hosts) (epoch : ℕ) (target : NodeId) (told fate : MessageFate)
    → (told ≡ Served → fate ≡ Flying → is_beyond hosts epoch target ≡ false)
    → (is_beyond hosts epoch target ≡ true → is_beyond hosts_after epoch target ≡ true) → is_in_vain hosts epoch target fate ≡ true
    → is_in_vain hosts_after epoch target (known_fate told fate) ≡ true
told_vain hosts hosts_after epoch target Flying Flying now later vain = later vain
told_vain hosts hosts_after epoch target Served Flying now later vain = let within = now refl refl in absurd (cc (within, vain))
told_vain hosts hosts_after epoch target Doomed Flying now later vain = refl
told_vain hosts hosts_after epoch target told Served now later vain = absurd (cc (vain))
told_vain hosts hosts_after epoch target told Doomed now later vain = refl

-- ---- every kind of traffic

-- a target that was beyond its attempt's epoch is so later
abbrev pub BeyondLater : Hosts → Hosts → List AttemptRecord → Type 0
BeyondLater hosts hosts_after attempts =
    (j : ℕ) (attempt : AttemptRecord) → slice_get attempts j ≡ Some attempt → (place : ℕ) (target : NodeId)
    → slice_get attempt.targets place ≡ Some target → is_beyond hosts attempt.epoch target ≡ true
    → is_beyond hosts_after attempt.epoch target ≡ true

module _ (hosts hosts_after : Hosts) (wire : Wire) (attempts : List AttemptRecord) (fates : FatesAreOfTheWire wire attempts)
    (beyond : BeyondLater hosts hosts_after attempts) where
  abbrev StaysSo : AttemptRecord → AttemptRecord → Type 0
  StaysSo was now = StaysInVain hosts hosts_after was now

  same_vain : (j : ℕ) (was : AttemptRecord) → slice_get attempts j ≡ Some was → StaysSo was was
  same_vain j was at = record {
    same = refl;
    long = refl;
    each = λ place target fate now among got again vain.
        subst (λ (f : MessageFate). is_in_vain hosts_after was.epoch target f ≡ true) (same_Some fate now (sym got ∙ again))
        (in_vain-grows hosts hosts_after was.epoch target fate (beyond j was at place target among) vain);
  }

  -- who answers with success is in the epoch that it serves
  abbrev NotBeyond : AttemptRecord → NodeId → Type 0
  NotBeyond attempt target = is_beyond hosts attempt.epoch target ≡ false

  not_beyond : AreSoOnSuccess hosts hosts_after NotBeyond attempts
  not_beyond name to bytes up rsp answer served j attempt there place among request_so =
      let own : Peer = answer.host.node.peer in
      let said : (peer_step own answer.request).say ≡ says.Success
      = ap (λ (r : PeerRsp). r.say) answer.said ∙ say_of_served rsp.say served in
      let epoch : own.epoch ≡ attempt.epoch
      = success_in_epoch own answer.request said ∙ ap (λ (r : PeerReq). r.epoch.0) request_so in
      ap (λ (o : Option Host). option_map_or (has_come_in (attempt.epoch + 1)) o true) answer.there
      ∙ ap (λ (b : Bool). b || nat_le (attempt.epoch + 1) answer.host.node.peer.epoch) answer.answers
      ∙ lt-leb (attempt.epoch + 1) answer.host.node.peer.epoch (omega (arith, epoch))

  marked_vain : (told : MessageFate) (name : MessageName)
      → (told ≡ Served → IsServedNow hosts hosts_after wire attempts fates NotBeyond name)
      → (j : ℕ) (was : AttemptRecord) → slice_get attempts j ≡ Some was
      → StaysSo was (record was { fates = fates_told told name.sender name.number was })
  marked_vain told name served j was at = record {
    same = refl;
    long = long (has_message name.sender name.number was);
    each = λ place target fate now among got again vain. ⊎_elim
        (λ (own : message_name_at was place ≡ name). own_vain place target fate now among own got again vain)
        (λ (apart : message_name_at was place ≢ name).
        subst (λ (f : MessageFate). is_in_vain hosts_after was.epoch target f ≡ true)
        (same_Some fate now (sym got ∙ sym (other_place was name told place apart) ∙ again))
        (in_vain-grows hosts hosts_after was.epoch target fate (beyond j was at place target among) vain))
        (tied_to wire name (message_name_at was place));
  }
    where
      long : (b : Bool) → length (cond b (fates_with (name.number - was.first) told was.fates) was.fates) ≡ length was.fates
      long true = told-length (name.number - was.first) told was.fates
      long false = refl

      own_vain : (place : ℕ) (target : NodeId) (fate now : MessageFate) → slice_get was.targets place ≡ Some target
          → message_name_at was place ≡ name → slice_get was.fates place ≡ Some fate
          → slice_get (fates_told told name.sender name.number was) place ≡ Some now → is_in_vain hosts was.epoch target fate ≡ true
          → is_in_vain hosts_after was.epoch target now ≡ true
      own_vain place target fate now among own got again vain =
          let fates_so : slice_get (fates_told told name.sender name.number was) place
          ≡ option_map (known_fate told) (slice_get was.fates place)
          = ap (λ (b : Bool). slice_get (cond b (fates_with (name.number - was.first) told was.fates) was.fates) place)
          (has_own was name place (slice_get_within was.targets place target among) own)
          ∙ ap (λ (p : ℕ). slice_get (fates_with p told was.fates) place) (own_place was name place own)
          ∙ told_own place told was.fates in
          let known : known_fate told fate ≡ now
          = same_Some (known_fate told fate) now (sym (ap (option_map (known_fate told)) got) ∙ sym fates_so ∙ again) in
          subst (λ (f : MessageFate). is_in_vain hosts_after was.epoch target f ≡ true) known
          (told_vain hosts hosts_after was.epoch target told fate
          (λ is_served flying. served is_served j was at place target among own (got ∙ ap (λ (f : MessageFate). Some f) flying))
          (beyond j was at place target among) vain)

  same_so : (j : ℕ) (was now : AttemptRecord) → slice_get attempts j ≡ Some was → slice_get attempts j ≡ Some now → StaysSo was now
  same_so j was now at at_now = subst (StaysSo was) (same_Some was now (sym at ∙ at_now)) (same_vain j was at)

  marked_so : (told : MessageFate) (name : MessageName) → (told ≡ Served → IsServedNow hosts hosts_after wire attempts fates NotBeyond name)
      → (j : ℕ) (was now : AttemptRecord) → slice_get attempts j ≡ Some was
      → slice_get (attempts_with_fate told name.sender name.number attempts) j ≡ Some now → StaysSo was now
  marked_so told name served j was now at at_now =
      let (old, at_old, is) = got_marked told name.sender name.number attempts j now at_now in
      subst (λ (a : AttemptRecord). StaysSo a now) (same_Some old was (sym at_old ∙ at))
      (subst (StaysSo old) is (marked_vain told name served j old at_old))

  pub traffic_vain : {later : Wire} {after : List AttemptRecord} → Traffic hosts hosts_after wire attempts later after
      → (j : ℕ) (was now : AttemptRecord) → slice_get attempts j ≡ Some was → slice_get after j ≡ Some now → StaysSo was now
  traffic_vain NothingMoves = same_so
  traffic_vain (MessageIsLost name packet there) = lost packet
    where
      lost : (packet : Packet) → (j : ℕ) (was now : AttemptRecord) → slice_get attempts j ≡ Some was
          → slice_get (attempts_with_loss name packet attempts) j ≡ Some now → StaysSo was now
      lost (Request to bytes) = marked_so Doomed name (λ is. absurd (cc (is)))
      lost (Reply sender bytes) = same_so
  traffic_vain (ReplyIsReceived name sender bytes there) = same_so
  traffic_vain (RequestIsAnswered name to bytes up rsp there answer) =
      marked_so (fate_of_say rsp.say) name
      (λ served. answered hosts hosts_after wire attempts fates NotBeyond not_beyond name to bytes up rsp there answer served)
  traffic_vain (RequestsAreSent n sends by nothing) = same_so
  traffic_vain (AttemptBegins n sends new begun) = λ j was now at at_now.
      subst (StaysSo was) (same_Some was now (sym (got_still attempts new j was at) ∙ at_now)) (same_vain j was at)
  traffic_vain (RepliesGo n) = same_so

  pub traffic_doomed : {later : Wire} {after : List AttemptRecord} → Traffic hosts hosts_after wire attempts later after
      → (j : ℕ) (was now : AttemptRecord) → slice_get attempts j ≡ Some was → slice_get after j ≡ Some now
      → is_doomed hosts was ≡ true → is_doomed hosts_after now ≡ true
  traffic_doomed kind j was now at at_now = doomed_by hosts hosts_after was now (traffic_vain kind j was now at at_now)
