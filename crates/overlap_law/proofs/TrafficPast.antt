-- Each kind of traffic keeps that what flies was asked in an epoch that its sender came to: what is sent is, and no epoch falls.
use Rattle.std.proofs.Common.{◌≡◌, ◌≢◌, ⊎_elim, arith, ℕ, ◌≤◌, Bool, true, false, List, fold, Option, Some, None, refl, sym, ap, ◌∙◌}
use Rattle.std.specs.FinMap as tree
use Rattle.std.proofs.lemmas.Option.{same_Some}
use Rattle.object_id.specs.declared.node.NodeId.{NodeId}
use Rattle.peer_proto.specs.declared.ask.PeerReq.{PeerReq}
use Rattle.peer_proto.specs.declared.say.PeerRsp.{PeerRsp}
use Rattle.peer_proto.specs.Ask.{ask_in}
use Rattle.message_wire.specs.declared.name.MessageName.{MessageName}
use Rattle.message_wire.specs.declared.packet.Packet.{Packet}
use Rattle.message_wire.specs.declared.packet.Packet.TheVariants.{Request, Reply}
use Rattle.message_wire.specs.Message.{message_name}
use Rattle.sheep_world.specs.World.{Host}
use Rattle.sheep_world.specs.Messages.{wire_with_reply}
use Rattle.sheep_world.specs.NodeSteps.{wire_with_request}
use Rattle.sheep_world.specs.WireMatch.{IsNumberGiven, NumbersAreGiven}
use Rattle.sheep_world.proofs.LostReplies.{got_before}
use Rattle.sheep_world.proofs.RecoveryMessages.{same_asked}
use Rattle.sheep_world.proofs.WireAfterSends.{IsSent, got_sent}
use Rattle.overlap_law.specs.Attempts.{AttemptRecord}
use Rattle.overlap_law.specs.Reached.{Hosts}
use Rattle.overlap_law.specs.Flight.{FlyInThePast}
use Rattle.overlap_law.specs.Packets.{Wire, is_request_in_flight, IsAsking}
use Rattle.overlap_law.specs.Traffic.{AreSentBy, Traffic, NothingMoves, MessageIsLost, ReplyIsReceived, RequestIsAnswered, RequestsAreSent}
use Rattle.overlap_law.specs.Traffic.{AttemptBegins, RepliesGo}
use Rattle.overlap_law.proofs.EpochsRise.{EpochsRise}
use Rattle.overlap_law.proofs.WireLemmas.{tied_to, left_before, said_none, said_else}

abbrev bytes_of : Packet → List ℕ
bytes_of (Request to bytes) = bytes
bytes_of (Reply from bytes) = bytes

module _ (hosts hosts_after : Hosts) (wire : Wire) (attempts : List AttemptRecord) (rise : EpochsRise hosts hosts_after)
    (given : NumbersAreGiven hosts wire)
    (past : FlyInThePast hosts wire) where
  -- what flew is of the past
  flew : (n : ℕ) (host : Host) → tree.get hosts_after n ≡ Some host → (number : ℕ) (to : NodeId) (request : PeerReq)
      → IsAsking wire (message_name n number) to request → request.epoch.0 ≤ host.node.peer.epoch
  flew n host there number to request asking =
      by_host (tree.get hosts n) refl (given (message_name n number) (Request to asking.bytes) asking.there)
    where
      by_host : (o : Option Host) → tree.get hosts n ≡ o → IsNumberGiven number o → request.epoch.0 ≤ host.node.peer.epoch
      by_host None is none = absurd none
      by_host (Some old) is below =
          let (now, there_now, rises) = rise n old is in
          let was : request.epoch.0 ≤ old.node.peer.epoch = past n old is number to request asking in
          let same : now.node.peer.epoch ≡ host.node.peer.epoch
          = ap (λ (h : Host). h.node.peer.epoch) (same_Some now host (sym there_now ∙ there)) in
          omega (arith, was, rises, same)

  -- and so is what is sent
  flies_if_sent : (k : ℕ) (sends : List (NodeId × PeerReq)) → AreSentBy hosts hosts_after k sends
      → FlyInThePast hosts_after (fold wire_with_request wire sends)
  flies_if_sent k sends by n host there number to request asking = ⊎_elim
      (λ (new : IsSent sends (message_name n number) (Request to asking.bytes)).
      let (send, among, named, is) = new in
      let read : request ≡ send.1
      = same_asked request send.1 (sym asking.spelled ∙ ap ask_in (sym (ap bytes_of is)) ∙ by.read send among) in
      let sender : k ≡ n = sym (by.own send among) ∙ ap (λ (q : MessageName). q.sender.0) named in
      let same : by.after.node.peer.epoch ≡ host.node.peer.epoch
      = ap (λ (h : Host). h.node.peer.epoch)
      (same_Some by.after host (sym by.there_after ∙ ap (tree.get hosts_after) sender ∙ there)) in
      let epoch : request.epoch.0 ≡ send.1.epoch.0 = ap (λ (r : PeerReq). r.epoch.0) read in
      let sent : send.1.epoch.0 ≤ by.after.node.peer.epoch = by.past send among in
      omega (arith, same, epoch, sent))
      (λ (old : tree.get wire (message_name n number) ≡ Some (Request to asking.bytes)).
      flew n host there number to request (record { bytes = asking.bytes; there = old; spelled = asking.spelled }))
      (got_sent sends wire (message_name n number) (Request to asking.bytes) asking.there)

  -- no request comes where one is answered
  flies_if_answered : (name : MessageName) (to : NodeId) (up : Bool) (rsp : PeerRsp)
      → FlyInThePast hosts_after (wire_with_reply name to up (Some rsp) wire)
  flies_if_answered name from up rsp n host there number to request asking = ⊎_elim
      (λ (own : message_name n number ≡ name).
      let none : is_request_in_flight (tree.get (wire_with_reply name from up (Some rsp) wire) (message_name n number)) ≡ false
      = ap (λ (q : MessageName). is_request_in_flight (tree.get (wire_with_reply name from up (Some rsp) wire) q)) own
      ∙ said_none wire name from rsp up in
      let some : is_request_in_flight (tree.get (wire_with_reply name from up (Some rsp) wire) (message_name n number)) ≡ true
      = ap is_request_in_flight asking.there in
      absurd (cc (none, some)))
      (λ (apart : message_name n number ≢ name).
      flew n host there number to request
      (record {
        bytes = asking.bytes;
        there = sym (said_else wire name from rsp up (message_name n number) apart) ∙ asking.there;
        spelled = asking.spelled;
      }))
      (tied_to wire name (message_name n number))

  pub traffic_past : {later : Wire} {after : List AttemptRecord} → Traffic hosts hosts_after wire attempts later after
      → FlyInThePast hosts_after later
  traffic_past NothingMoves n host there number to request asking = flew n host there number to request asking
  traffic_past (MessageIsLost name packet lost) n host there number to request asking =
      flew n host there number to request
      (record {
        bytes = asking.bytes;
        there = left_before wire name (message_name n number) (Request to asking.bytes) asking.there;
        spelled = asking.spelled;
      })
  traffic_past (ReplyIsReceived name from bytes got) n host there number to request asking =
      flew n host there number to request
      (record {
        bytes = asking.bytes;
        there = left_before wire name (message_name n number) (Request to asking.bytes) asking.there;
        spelled = asking.spelled;
      })
  traffic_past (RequestIsAnswered name from bytes up rsp got answer) n host there number to request asking =
      flies_if_answered name from up rsp n host there number to request asking
  traffic_past (RequestsAreSent k sends by nothing) n host there number to request asking =
      flies_if_sent k sends by n host there number to request asking
  traffic_past (AttemptBegins k sends attempt begun) n host there number to request asking =
      flies_if_sent k sends begun.sent_by n host there number to request asking
  traffic_past (RepliesGo k) n host there number to request asking =
      flew n host there number to request
      (record {
        bytes = asking.bytes;
        there = got_before k wire (message_name n number) (Request to asking.bytes) asking.there;
        spelled = asking.spelled;
      })
