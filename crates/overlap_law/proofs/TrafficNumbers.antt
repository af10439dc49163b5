-- Each kind of traffic keeps that the numbers in the wire were given by their senders.
use Rattle.std.proofs.Common.{◌≡◌, ◌≢◌, arith, ℕ, ◌+◌, ◌≤◌, ◌<◌, Bool, List, fold, length, Option, Some, None, refl, sym, ap, subst, ◌∙◌}
use Rattle.std.proofs.Common.{⊎_elim}
use Rattle.std.specs.FinMap as tree
use Rattle.object_id.specs.declared.node.NodeId.{NodeId}
use Rattle.peer_proto.specs.declared.ask.PeerReq.{PeerReq}
use Rattle.peer_proto.specs.declared.say.PeerRsp.{PeerRsp}
use Rattle.message_wire.specs.declared.name.MessageName.{MessageName}
use Rattle.message_wire.specs.declared.packet.Packet.{Packet}
use Rattle.message_wire.specs.declared.packet.Packet.TheVariants.{Request}
use Rattle.sheep_node.proofs.MessageNumbers.{numbers_within}
use Rattle.sheep_world.specs.World.{Host}
use Rattle.sheep_world.specs.Messages.{wire_with_reply}
use Rattle.sheep_world.specs.NodeSteps.{wire_with_request}
use Rattle.sheep_world.specs.WireMatch.{IsNumberGiven, NumbersAreGiven}
use Rattle.sheep_world.proofs.LostReplies.{got_before}
use Rattle.sheep_world.proofs.WireAfterSends.{IsSent, got_sent}
use Rattle.overlap_law.specs.Attempts.{AttemptRecord}
use Rattle.overlap_law.specs.Reached.{Hosts}
use Rattle.overlap_law.specs.Packets.{Wire}
use Rattle.overlap_law.specs.Traffic.{AreSentBy, Traffic, NothingMoves, MessageIsLost, ReplyIsReceived, RequestIsAnswered, RequestsAreSent}
use Rattle.overlap_law.specs.Traffic.{AttemptBegins, RepliesGo}
use Rattle.overlap_law.proofs.HostsInMoments.{HostStays}
use Rattle.overlap_law.proofs.WireLemmas.{tied_to, left_before, said_else}

module _ (hosts hosts_after : Hosts) (wire : Wire) (attempts : List AttemptRecord)
    (stay : (n : ℕ) (host : Host) → tree.get hosts n ≡ Some host → HostStays hosts_after wire n host)
    (given : NumbersAreGiven hosts wire) where
  -- a message's number is given, where it was in the wire
  abbrev IsGivenAt : MessageName → Type 0
  IsGivenAt name = IsNumberGiven name.number (tree.get hosts_after name.sender.0)

  given_still : (name : MessageName) (packet : Packet) → tree.get wire name ≡ Some packet → IsGivenAt name
  given_still name packet got = by_host (tree.get hosts name.sender.0) refl (given name packet got)
    where
      by_host : (o : Option Host) → tree.get hosts name.sender.0 ≡ o → IsNumberGiven name.number o
          → IsNumberGiven name.number (tree.get hosts_after name.sender.0)
      by_host None is none = absurd none
      by_host (Some host) is below =
          let s = stay name.sender.0 host is in
          let more : host.node.sends ≤ s.now.node.sends = s.sends in
          let low : name.number < host.node.sends = below in
          let still : name.number < s.now.node.sends = omega (arith, low, more) in
          subst (IsNumberGiven name.number) (sym s.there) still

  given_if_sent : (n : ℕ) (sends : List (NodeId × PeerReq)) → AreSentBy hosts hosts_after n sends → (name : MessageName) (packet : Packet)
      → tree.get (fold wire_with_request wire sends) name ≡ Some packet → IsGivenAt name
  given_if_sent n sends by name packet got = ⊎_elim
      (λ (new : IsSent sends name packet).
      let (send, there, named, is) = new in
      let high : send.1.number < by.host.node.sends + length sends = (numbers_within by.host.node.sends sends send by.numbers there).1 in
      let counted : by.after.node.sends ≡ by.host.node.sends + length sends = by.counted in
      let below : send.1.number < by.after.node.sends = omega (arith, high, counted) in
      subst IsGivenAt named
      (subst (IsNumberGiven send.1.number) (sym (ap (tree.get hosts_after) (by.own send there) ∙ by.there_after)) below))
      (λ (old : tree.get wire name ≡ Some packet). given_still name packet old)
      (got_sent sends wire name packet got)

  given_if_answered : (name : MessageName) (to : NodeId) (bytes : List ℕ) (up : Bool) (rsp : PeerRsp)
      → tree.get wire name ≡ Some (Request to bytes)
      → (q : MessageName) (packet : Packet) → tree.get (wire_with_reply name to up (Some rsp) wire) q ≡ Some packet → IsGivenAt q
  given_if_answered name to bytes up rsp there q packet got = ⊎_elim
      (λ (own : q ≡ name). given_still q (Request to bytes) (ap (tree.get wire) own ∙ there))
      (λ (apart : q ≢ name). given_still q packet (sym (said_else wire name to rsp up q apart) ∙ got))
      (tied_to wire name q)

  pub traffic_numbers : {later : Wire} {after : List AttemptRecord} → Traffic hosts hosts_after wire attempts later after
      → NumbersAreGiven hosts_after later
  traffic_numbers NothingMoves name packet got = given_still name packet got
  traffic_numbers (MessageIsLost name lost there) q packet got = given_still q packet (left_before wire name q packet got)
  traffic_numbers (ReplyIsReceived name from bytes there) q packet got = given_still q packet (left_before wire name q packet got)
  traffic_numbers (RequestIsAnswered name to bytes up rsp there answer) q packet got =
      given_if_answered name to bytes up rsp there q packet got
  traffic_numbers (RequestsAreSent n sends by nothing) q packet got = given_if_sent n sends by q packet got
  traffic_numbers (AttemptBegins n sends attempt begun) q packet got = given_if_sent n sends begun.sent_by q packet got
  traffic_numbers (RepliesGo n) q packet got = given_still q packet (got_before n wire q packet got)
