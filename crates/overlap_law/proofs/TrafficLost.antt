-- Each kind of traffic keeps that no reply goes to a lost node.
use Rattle.std.proofs.Common.{◌≡◌, ◌≢◌, ◌⊎◌, ℕ, Bool, true, false, not, List, fold, Some, sym, ap, ◌∙◌, ⊎_elim}
use Rattle.std.specs.Option.{option_map_or}
use Rattle.std.specs.FinMap as tree
use Rattle.std.proofs.lemmas.Bool.{and_parts}
use Rattle.object_id.specs.declared.node.NodeId.{NodeId}
use Rattle.peer_proto.specs.declared.ask.PeerReq.{PeerReq}
use Rattle.peer_proto.specs.declared.say.PeerRsp.{PeerRsp}
use Rattle.message_wire.specs.declared.name.MessageName.{MessageName}
use Rattle.message_wire.specs.declared.packet.Packet.{Packet}
use Rattle.message_wire.specs.Message.{message_name}
use Rattle.sheep_node.specs.May.{has_numbers}
use Rattle.sheep_world.specs.World.{Host, is_host_up}
use Rattle.sheep_world.specs.Messages.{wire_with_reply}
use Rattle.sheep_world.specs.NodeSteps.{wire_with_request}
use Rattle.sheep_world.specs.NodeCauses.{is_up_among}
use Rattle.sheep_world.proofs.LostReplies.{got_before}
use Rattle.sheep_world.proofs.WireAfterSends.{IsSent, got_sent}
use Rattle.overlap_law.specs.Attempts.{AttemptRecord}
use Rattle.overlap_law.specs.Reached.{Hosts}
use Rattle.overlap_law.specs.Packets.{Wire, is_request_in_flight}
use Rattle.overlap_law.specs.Flight.{NoReplyGoesToTheLost}
use Rattle.overlap_law.specs.Traffic.{Traffic, NothingMoves, MessageIsLost, ReplyIsReceived, RequestIsAnswered, RequestsAreSent}
use Rattle.overlap_law.specs.Traffic.{AttemptBegins, RepliesGo}
use Rattle.overlap_law.proofs.HostsInMoments.{GetsNoReply, WasLostBefore}
use Rattle.overlap_law.proofs.WireLemmas.{tied_to, gone_at, left_before, said_else}

-- a host that is up isn't lost
up_not_lost : {P : Type 0} (host : Host) → is_host_up host ≡ true → host.is_lost ≡ true → P
up_not_lost host up lost =
    let not_lost = (and_parts (not host.is_lost) (has_numbers host.node) up).0 in
    let is = ap not lost in
    absurd (cc (not_lost, is))

module _ (hosts hosts_after : Hosts) (wire : Wire) (attempts : List AttemptRecord) (none : NoReplyGoesToTheLost hosts wire) (n : ℕ)
    (now : Host)
    (there_now : tree.get hosts_after n ≡ Some now) (lost_now : now.is_lost ≡ true) (was : WasLostBefore hosts n) where
  request_before : (number : ℕ) (packet : Packet) → tree.get wire (message_name n number) ≡ Some packet
      → is_request_in_flight (Some packet) ≡ true
  request_before number packet got = none.each n was.0 was.1 number packet was.2 got

  request_if_sent : (sends : List (NodeId × PeerReq)) (number : ℕ) (packet : Packet)
      → tree.get (fold wire_with_request wire sends) (message_name n number) ≡ Some packet
      → is_request_in_flight (Some packet) ≡ true
  request_if_sent sends number packet got = ⊎_elim
      (λ (new : IsSent sends (message_name n number) packet).
      let (send, there, named, is) = new in
      ap (λ (p : Packet). is_request_in_flight (Some p)) (sym is))
      (λ (old : tree.get wire (message_name n number) ≡ Some packet). request_before number packet old)
      (got_sent sends wire (message_name n number) packet got)

  request_if_answered : (name : MessageName) (to : NodeId) (up : Bool) (rsp : PeerRsp) → up ≡ is_up_among hosts_after name.sender.0
      → (number : ℕ) (packet : Packet)
      → tree.get (wire_with_reply name to up (Some rsp) wire) (message_name n number) ≡ Some packet
      → is_request_in_flight (Some packet) ≡ true
  request_if_answered name to up rsp up_so number packet got = ⊎_elim
      (λ (own : message_name n number ≡ name). by_up up up_so own got)
      (λ (apart : message_name n number ≢ name). request_before number packet
      (sym (said_else wire name to rsp up (message_name n number) apart) ∙ got))
      (tied_to wire name (message_name n number))
    where
      by_up : (b : Bool) → b ≡ is_up_among hosts_after name.sender.0 → message_name n number ≡ name
          → tree.get (wire_with_reply name to b (Some rsp) wire) (message_name n number) ≡ Some packet
          → is_request_in_flight (Some packet) ≡ true
      by_up true is own got =
          let at : tree.get hosts_after name.sender.0 ≡ Some now = ap (λ (q : MessageName). tree.get hosts_after q.sender.0) (sym own)
          ∙ there_now in
          up_not_lost now (sym (is ∙ ap (λ o. option_map_or is_host_up o false) at)) lost_now
      by_up false is own got = let gone = ap (tree.get (tree.remove wire name)) own ∙ gone_at wire name in absurd (cc (got, gone))

  pub still_request : {later : Wire} {after : List AttemptRecord} → Traffic hosts hosts_after wire attempts later after
      → GetsNoReply n later
  still_request NothingMoves number packet got = request_before number packet got
  still_request (MessageIsLost name lost there) number packet got =
      request_before number packet (left_before wire name (message_name n number) packet got)
  still_request (ReplyIsReceived name from bytes there) number packet got =
      request_before number packet (left_before wire name (message_name n number) packet got)
  still_request (RequestIsAnswered name to bytes up rsp there answer) number packet got =
      request_if_answered name to up rsp answer.up_so number packet got
  still_request (RequestsAreSent k sends by nothing) number packet got = request_if_sent sends number packet got
  still_request (AttemptBegins k sends attempt begun) number packet got = request_if_sent sends number packet got
  still_request (RepliesGo k) number packet got = request_before number packet (got_before k wire (message_name n number) packet got)

pub traffic_lost : (hosts hosts_after : Hosts) (wire later : Wire) (attempts after : List AttemptRecord)
    → ((n : ℕ) (now : Host) → tree.get hosts_after n ≡ Some now → now.is_lost ≡ true → WasLostBefore hosts n ⊎ GetsNoReply n later)
    → Traffic hosts hosts_after wire attempts later after → NoReplyGoesToTheLost hosts wire → NoReplyGoesToTheLost hosts_after later
traffic_lost hosts hosts_after wire later attempts after were traffic none = record {
  each = λ n now there number packet lost got. ⊎_elim
      (λ (was : WasLostBefore hosts n). still_request hosts hosts_after wire attempts none n now there lost was traffic number packet got)
      (λ (silent : GetsNoReply n later). silent number packet got)
      (were n now there lost);
}
