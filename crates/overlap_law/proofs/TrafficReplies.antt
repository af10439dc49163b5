-- Each kind of traffic keeps that a reply says Success exactly where its message was served.
use Rattle.std.proofs.Common.{◌≡◌, ◌≢◌, ℕ, ◌-◌, ◌<◌, Bool, true, false, not, cond, List, [], fold, length, Option, Some, None, Ok, Err}
use Rattle.std.proofs.Common.{Result, option_map, slice_get, get_or, refl, sym, ap, subst, ◌∙◌, ⊎_elim}
use Rattle.std.specs.Prelude.{◌↔◌}
use Rattle.std.specs.FinMap as tree
use Rattle.std.proofs.lemmas.Option.{slice_get_within, slice_get-get_or}
use Rattle.object_id.specs.declared.node.NodeId.{NodeId}
use Rattle.peer_proto.specs.declared.fault.PeerFault.{PeerFault}
use Rattle.peer_proto.specs.declared.say.PeerSay.{PeerSay}
use Rattle.peer_proto.specs.declared.say.PeerSay.TheVariants as says
use Rattle.peer_proto.specs.declared.say.PeerRsp.{PeerRsp}
use Rattle.peer_proto.specs.Say.{say_in, say_bytes}
use Rattle.message_wire.specs.declared.name.MessageName.{MessageName}
use Rattle.message_wire.specs.declared.packet.Packet.{Packet}
use Rattle.message_wire.specs.declared.packet.Packet.TheVariants.{Request, Reply}
use Rattle.message_wire.specs.Message.{is_reply_to, without_replies}
use Rattle.sheep_world.specs.Messages.{wire_with_reply}
use Rattle.sheep_world.specs.NodeSteps.{wire_with_request}
use Rattle.sheep_world.proofs.WireAfterSends.{sends_there}
use Rattle.overlap_law.specs.Attempts.{AttemptRecord, MessageFate, Flying, Served, Doomed, known_fate, fates_with, attempts_with_fate}
use Rattle.overlap_law.specs.Attempts.{fate_of_say}
use Rattle.overlap_law.specs.Reached.{Hosts}
use Rattle.overlap_law.specs.Packets.{Wire, message_name_at, message_request_at, is_request_in_flight, IsAnswering}
use Rattle.overlap_law.specs.Fates.{IsFateIn, FatesAreOfTheWire, AttemptsAreOfIncarnations}
use Rattle.overlap_law.specs.Flight.{FatesAreTold}
use Rattle.overlap_law.specs.StepMoments.{attempts_with_loss}
use Rattle.overlap_law.specs.Traffic.{Traffic, NothingMoves, MessageIsLost, ReplyIsReceived, RequestIsAnswered, RequestsAreSent}
use Rattle.overlap_law.specs.Traffic.{AttemptBegins, RepliesGo}
use Rattle.overlap_law.proofs.AttemptLists.{got_more, got_marked, fates_told, told_own, has_own, own_place, other_place}
use Rattle.overlap_law.proofs.TrafficFates.{sends_new}
use Rattle.overlap_law.proofs.WireLemmas.{tied_to, gone_at, left_at, put_at, said_else, forgot}

-- what a reply says against a fate
abbrev Fits : Option MessageFate → PeerSay → Type 0
Fits fate say = (fate ≡ Some Served) ↔ (say ≡ says.Success)

-- a served one is told so, and no other
fits_said : (say : PeerSay) → Fits (Some (fate_of_say say)) say
fits_said says.Success = (λ is. refl, λ is. refl)
fits_said (says.Piece bytes) = (λ is. absurd (cc (is)), λ is. absurd (cc (is)))
fits_said (says.Objects oids) = (λ is. absurd (cc (is)), λ is. absurd (cc (is)))
fits_said (says.Row row) = (λ is. absurd (cc (is)), λ is. absurd (cc (is)))
fits_said says.NoRow = (λ is. absurd (cc (is)), λ is. absurd (cc (is)))
fits_said (says.Refused refusal) = (λ is. absurd (cc (is)), λ is. absurd (cc (is)))

-- a message whose request is there flies
flies : (wire : Wire) (attempt : AttemptRecord) (place : ℕ) (target to : NodeId) (bytes : List ℕ) (fate : MessageFate)
    → tree.get wire (message_name_at attempt place) ≡ Some (Request to bytes)
    → IsFateIn wire attempt place target fate → fate ≡ Flying
flies wire attempt place target to bytes Flying there is = refl
flies wire attempt place target to bytes Served there is =
    let yes : is_request_in_flight (tree.get wire (message_name_at attempt place))
    ≡ true = ap is_request_in_flight there in absurd (cc (yes, is))
flies wire attempt place target to bytes Doomed there is =
    let yes : is_request_in_flight (tree.get wire (message_name_at attempt place))
    ≡ true = ap is_request_in_flight there in absurd (cc (yes, is))

abbrev bytes_of : Option Packet → List ℕ
bytes_of None = []
bytes_of (Some (Request to bytes)) = bytes
bytes_of (Some (Reply from bytes)) = bytes

abbrev reply_of : PeerRsp → Result PeerRsp PeerFault → PeerRsp
reply_of one (Ok reply) = reply
reply_of one (Err fault) = one

abbrev said : PeerRsp → Result PeerRsp PeerFault
said reply = Ok reply

said_of : (one other : PeerRsp) → said one ≡ said other → one ≡ other
said_of one other is = ap (reply_of one) is

module _ (hosts hosts_after : Hosts) (wire : Wire) (attempts : List AttemptRecord)
    (of_incarnations : AttemptsAreOfIncarnations hosts wire attempts) (told : FatesAreTold wire attempts) where
  -- replies that are there were there
  answered_before : (later : Wire)
      → ((q : MessageName) (from : NodeId) (bytes : List ℕ) → tree.get later q ≡ Some (Reply from bytes) → tree.get wire q
      ≡ Some (Reply from bytes))
      → FatesAreTold later attempts
  answered_before later before = record {
    each = λ j attempt there place target from reply among h.
        told.each j attempt there place target from reply among
        (record { bytes = h.bytes; there = before (message_name_at attempt place) from h.bytes h.there; spelled = h.spelled });
  }

  gone_before : (name q : MessageName) (from : NodeId) (bytes : List ℕ) → tree.get (tree.remove wire name) q ≡ Some (Reply from bytes)
      → (q ≢ name) × (tree.get wire q ≡ Some (Reply from bytes))
  gone_before name q from bytes got = ⊎_elim
      (λ (own : q ≡ name). let none = ap (tree.get (tree.remove wire name)) own ∙ gone_at wire name in absurd (cc (got, none)))
      (λ (apart : q ≢ name). (apart, sym (left_at wire name q apart) ∙ got))
      (tied_to wire name q)

  -- an attempt of which one message's fate is told, at a message of another name
  other_told : (fate : MessageFate) (name : MessageName) (later : Wire) (j : ℕ) (was : AttemptRecord) → slice_get attempts j ≡ Some was
      → (place : ℕ) (target from : NodeId) (reply : PeerRsp)
      → slice_get was.targets place ≡ Some target → message_name_at was place ≢ name
      → tree.get later (message_name_at was place) ≡ tree.get wire (message_name_at was place)
      → IsAnswering later (message_name_at was place) from reply
      → Fits (slice_get (fates_told fate name.sender name.number was) place) reply.say
  other_told fate name later j was at place target from reply among apart same h =
      subst (λ (o : Option MessageFate). Fits o reply.say) (sym (other_place was name fate place apart))
      (told.each j was at place target from reply among (record { bytes = h.bytes; there = sym same ∙ h.there; spelled = h.spelled }))

  -- a packet goes, and its message's fate is told
  removed_told : (fate : MessageFate) (name : MessageName)
      → FatesAreTold (tree.remove wire name) (attempts_with_fate fate name.sender name.number attempts)
  removed_told fate name = record {
    each = λ j now there place target from reply among h.
        let (was, at, is) = got_marked fate name.sender name.number attempts j now there in
        let among_was : slice_get was.targets place ≡ Some target = ap (λ (a : AttemptRecord). slice_get a.targets place) is ∙ among in
        let h_was : IsAnswering (tree.remove wire name) (message_name_at was place) from reply
        = subst (λ (a : AttemptRecord). IsAnswering (tree.remove wire name) (message_name_at a place) from reply) (sym is) h in
        let apart = (gone_before name (message_name_at was place) from h_was.bytes h_was.there).0 in
        subst (λ (a : AttemptRecord). Fits (slice_get a.fates place) reply.say) is
        (other_told fate name (tree.remove wire name) j was at place target from reply among_was apart
        (left_at wire name (message_name_at was place) apart) h_was);
  }

  pub traffic_told : {later : Wire} {after : List AttemptRecord} → Traffic hosts hosts_after wire attempts later after
      → FatesAreOfTheWire wire attempts → FatesAreTold later after
  traffic_told NothingMoves fates = told
  traffic_told (MessageIsLost name packet there) fates = lost packet
    where
      lost : (packet : Packet) → FatesAreTold (tree.remove wire name) (attempts_with_loss name packet attempts)
      lost (Request to bytes) = removed_told Doomed name
      lost (Reply sender bytes) = answered_before (tree.remove wire name) (λ q from bytes got. (gone_before name q from bytes got).1)
  traffic_told (ReplyIsReceived name sender bytes there) fates =
      answered_before (tree.remove wire name) (λ q from bytes got. (gone_before name q from bytes got).1)
  traffic_told (RequestIsAnswered name to bytes true rsp there answer) fates = record {
    each = λ j now got_now place target from reply among h.
        let later = wire_with_reply name to true (Some rsp) wire in
        let (was, at, is) = got_marked (fate_of_say rsp.say) name.sender name.number attempts j now got_now in
        let among_was : slice_get was.targets place ≡ Some target = ap (λ (a : AttemptRecord). slice_get a.targets place) is ∙ among in
        let h_was : IsAnswering later (message_name_at was place) from reply = subst
        (λ (a : AttemptRecord). IsAnswering later (message_name_at a place) from reply) (sym is) h in
        subst (λ (a : AttemptRecord). Fits (slice_get a.fates place) reply.say) is
        (⊎_elim
        (λ (own : message_name_at was place ≡ name).
        own_told j was at place target from reply among_was own h_was)
        (λ (apart : message_name_at was place ≢ name).
        other_told (fate_of_say rsp.say) name later j was at place target from reply among_was apart
        (said_else wire name to rsp true (message_name_at was place) apart) h_was)
        (tied_to wire name (message_name_at was place)));
  }
    where
      own_told : (j : ℕ) (was : AttemptRecord) → slice_get attempts j ≡ Some was → (place : ℕ) (target from : NodeId) (reply : PeerRsp)
          → slice_get was.targets place ≡ Some target
          → message_name_at was place ≡ name
          → IsAnswering (wire_with_reply name to true (Some rsp) wire) (message_name_at was place) from reply
          → Fits (slice_get (fates_told (fate_of_say rsp.say) name.sender name.number was) place) reply.say
      own_told j was at place target from reply among own h =
          let fate = fate_of_say rsp.say in
          let put = put_at wire name (Reply to (say_bytes rsp)) in
          let same_bytes : say_bytes rsp ≡ h.bytes = ap bytes_of (sym put
          ∙ ap (tree.get (wire_with_reply name to true (Some rsp) wire)) (sym own) ∙ h.there) in
          let same : rsp ≡ reply = said_of rsp reply (sym answer.spelled ∙ ap say_in same_bytes ∙ h.spelled) in
          let within : place < length was.fates = subst (λ (n : ℕ). place < n) (sym (fates.whole j was at))
          (slice_get_within was.targets place target among) in
          let found = slice_get-get_or was.fates place Flying within in
          let flying = flies wire was place target to bytes (get_or was.fates place Flying) (ap (tree.get wire) own ∙ there)
          (fates.each j was at place target (get_or was.fates place Flying) among found) in
          let fate_so : slice_get (fates_told fate name.sender name.number was) place ≡ Some fate
          = ap (λ (b : Bool). slice_get (cond b (fates_with (name.number - was.first) fate was.fates) was.fates) place)
          (has_own was name place (slice_get_within was.targets place target among) own)
          ∙ ap (λ (p : ℕ). slice_get (fates_with p fate was.fates) place) (own_place was name place own)
          ∙ told_own place fate was.fates ∙ ap (option_map (known_fate fate)) (found ∙ ap (λ (f : MessageFate). Some f) flying) in
          subst (λ (r : PeerRsp). Fits (slice_get (fates_told fate name.sender name.number was) place) r.say) same
          (subst (λ (o : Option MessageFate). Fits o rsp.say) (sym fate_so) (fits_said rsp.say))
  traffic_told (RequestIsAnswered name to bytes false rsp there answer) fates = removed_told (fate_of_say rsp.say) name
  traffic_told (RequestsAreSent n sends by nothing) fates = record {
    each = λ j attempt there place target from reply among h.
        told.each j attempt there place target from reply among
        (record {
          bytes = h.bytes;
          there = sym (sends_new hosts hosts_after wire attempts of_incarnations n sends by j attempt there place target among) ∙ h.there;
          spelled = h.spelled;
        });
  }
  traffic_told (AttemptBegins n sends new begun) fates = record {
    each = λ j attempt there place target from reply among h. ⊎_elim
        (λ (old : slice_get attempts j ≡ Some attempt).
        told.each j attempt old place target from reply among
        (record {
          bytes = h.bytes;
          there = sym (sends_new hosts hosts_after wire attempts of_incarnations n sends begun.sent_by j attempt old place target among)
              ∙ h.there;
          spelled = h.spelled;
        }))
        (λ own.
        let among_new : slice_get new.targets place ≡ Some target = ap (λ (a : AttemptRecord). slice_get a.targets place) own.1 ∙ among in
        let asked = sends_there begun.sent_by.host.node.sends sends wire (target, message_request_at new place) begun.sent_by.numbers
        (begun.asks place target among_new) in
        let said = ap (λ (a : AttemptRecord). tree.get (fold wire_with_request wire sends) (message_name_at a place)) own.1 ∙ h.there in
        absurd (cc (asked, said)))
        (got_more attempts new j attempt there);
  }
  traffic_told (RepliesGo n) fates =
      answered_before (without_replies n wire) (λ q from bytes got. by_packet q from bytes (tree.get wire q) refl got)
    where
      by_packet : (q : MessageName) (from : NodeId) (bytes : List ℕ) (o : Option Packet) → tree.get wire q ≡ o
          → tree.get (without_replies n wire) q ≡ Some (Reply from bytes) → tree.get wire q ≡ Some (Reply from bytes)
      by_packet q from bytes None is got = let none = forgot n wire q None is in absurd (cc (got, none))
      by_packet q from bytes (Some packet) is got =
          by_test (not (is_reply_to n q (Some packet))) (sym (forgot n wire q (Some packet) is) ∙ got)
        where
          by_test : (b : Bool) → cond b (Some packet) None ≡ Some (Reply from bytes) → tree.get wire q ≡ Some (Reply from bytes)
          by_test true same = is ∙ same
          by_test false same = absurd (cc (same))
