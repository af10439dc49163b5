-- Each kind of traffic keeps that who replied came to the epoch of the reply: a node replies with its own epoch, and no epoch falls.
use Rattle.std.proofs.Common.{◌≡◌, ◌≢◌, ⊎_elim, arith, ℕ, ◌≤◌, nat_le, Bool, true, false, List, fold, Option, Some, sym, ap, ◌∙◌}
use Rattle.std.specs.Option.{option_map_or}
use Rattle.std.specs.FinMap as tree
use Rattle.std.proofs.lemmas.Bool.{le-leb}
use Rattle.std.proofs.lemmas.Option.{same_Some}
use Rattle.object_id.specs.declared.node.NodeId.{NodeId}
use Rattle.peer_proto.specs.declared.ask.PeerReq.{PeerReq}
use Rattle.peer_proto.specs.declared.say.PeerRsp.{PeerRsp}
use Rattle.peer_proto.specs.Say.{say_in, say_bytes}
use Rattle.message_wire.specs.declared.name.MessageName.{MessageName}
use Rattle.message_wire.specs.declared.packet.Packet.{Packet}
use Rattle.message_wire.specs.declared.packet.Packet.TheVariants.{Request, Reply}
use Rattle.sheep_world.specs.World.{Host}
use Rattle.sheep_world.specs.Messages.{wire_with_reply}
use Rattle.sheep_world.specs.NodeSteps.{wire_with_request}
use Rattle.sheep_world.proofs.LostReplies.{got_before}
use Rattle.sheep_world.proofs.RecoveryMessages.{same_said}
use Rattle.sheep_world.proofs.WireAfterSends.{IsSent, got_sent}
use Rattle.overlap_law.specs.Attempts.{AttemptRecord}
use Rattle.overlap_law.specs.Reached.{Hosts}
use Rattle.overlap_law.specs.Each.{has_reached}
use Rattle.overlap_law.specs.Flight.{RepliersHaveCome}
use Rattle.overlap_law.specs.Packets.{Wire, IsAnswering}
use Rattle.overlap_law.specs.Traffic.{IsAnswer, Traffic, NothingMoves, MessageIsLost, ReplyIsReceived, RequestIsAnswered, RequestsAreSent}
use Rattle.overlap_law.specs.Traffic.{AttemptBegins, RepliesGo}
use Rattle.overlap_law.proofs.EpochsRise.{EpochsRise}
use Rattle.overlap_law.proofs.TrafficServers.{reached_still}
use Rattle.overlap_law.proofs.WireLemmas.{tied_to, gone_at, left_before, put_at, said_else}

abbrev bytes_in : Packet → List ℕ
bytes_in (Request to bytes) = bytes
bytes_in (Reply from bytes) = bytes

abbrev asked_in : Packet → NodeId
asked_in (Request to bytes) = to
asked_in (Reply from bytes) = from

abbrev epoch_in : Option Host → ℕ
epoch_in o = option_map_or (λ (host : Host). host.node.peer.epoch) o 0

module _ (hosts hosts_after : Hosts) (wire : Wire) (attempts : List AttemptRecord) (rise : EpochsRise hosts hosts_after)
    (come : RepliersHaveCome hosts wire) where
  came : (name : MessageName) (from : NodeId) (reply : PeerRsp) → IsAnswering wire name from reply
      → has_reached hosts_after reply.epoch.0 from ≡ true
  came name from reply answering = reached_still hosts hosts_after rise reply.epoch.0 from (come name from reply answering)

  came_if_sent : (sends : List (NodeId × PeerReq)) → RepliersHaveCome hosts_after (fold wire_with_request wire sends)
  came_if_sent sends name from reply answering = ⊎_elim
      (λ (new : IsSent sends name (Reply from answering.bytes)). let (send, there, named, is) = new in absurd (cc (is)))
      (λ (old : tree.get wire name ≡ Some (Reply from answering.bytes)).
      came name from reply (record { bytes = answering.bytes; there = old; spelled = answering.spelled }))
      (got_sent sends wire name (Reply from answering.bytes) answering.there)

  -- the node that replies is there, in the epoch of its reply
  replied : (name : MessageName) (to : NodeId) (bytes : List ℕ) (up : Bool) (rsp : PeerRsp)
      → IsAnswer hosts hosts_after name to bytes up rsp
      → has_reached hosts_after rsp.epoch.0 to ≡ true
  replied name to bytes up rsp answer =
      let (now, there, rises) = rise to.0 answer.host answer.there in
      let own : answer.host.node.peer.epoch ≡ rsp.epoch.0 = ap (λ (r : PeerRsp). r.epoch.0) answer.said in
      let more : answer.host.node.peer.epoch ≤ now.node.peer.epoch = rises in
      ap (λ (o : Option Host). nat_le rsp.epoch.0 (epoch_in o)) there ∙ le-leb rsp.epoch.0 now.node.peer.epoch (omega (arith, own, more))

  came_if_answered : (name : MessageName) (to : NodeId) (bytes : List ℕ) (up : Bool) (rsp : PeerRsp)
      → IsAnswer hosts hosts_after name to bytes up rsp
      → RepliersHaveCome hosts_after (wire_with_reply name to up (Some rsp) wire)
  came_if_answered name to bytes up rsp answer q from reply answering = ⊎_elim
      (λ (own : q ≡ name). by_up up (ap (tree.get (wire_with_reply name to up (Some rsp) wire)) (sym own) ∙ answering.there))
      (λ (apart : q ≢ name).
      came q from reply (record {
        bytes = answering.bytes;
        there = sym (said_else wire name to rsp up q apart) ∙ answering.there;
        spelled = answering.spelled;
      }))
      (tied_to wire name q)
    where
      by_up : (b : Bool) → tree.get (wire_with_reply name to b (Some rsp) wire) name ≡ Some (Reply from answering.bytes)
          → has_reached hosts_after reply.epoch.0 from ≡ true
      by_up true got =
          let packets : Reply to (say_bytes rsp) ≡ Reply from answering.bytes
          = same_Some (Reply to (say_bytes rsp)) (Reply from answering.bytes) (sym (put_at wire name (Reply to (say_bytes rsp))) ∙ got) in
          let said : rsp ≡ reply = same_said rsp reply (sym answer.spelled ∙ ap (λ (p : Packet). say_in (bytes_in p)) packets
          ∙ answering.spelled) in
          (λ i. has_reached hosts_after (sym said i).epoch.0 (asked_in (sym packets i))) ∙ replied name to bytes up rsp answer
      by_up false got = let gone = gone_at wire name in absurd (cc (got, gone))

  pub traffic_repliers : {later : Wire} {after : List AttemptRecord} → Traffic hosts hosts_after wire attempts later after
      → RepliersHaveCome hosts_after later
  traffic_repliers NothingMoves name from reply answering = came name from reply answering
  traffic_repliers (MessageIsLost lost packet there) name from reply answering =
      came name from reply (record {
        bytes = answering.bytes;
        there = left_before wire lost name (Reply from answering.bytes) answering.there;
        spelled = answering.spelled;
      })
  traffic_repliers (ReplyIsReceived received sender bytes there) name from reply answering =
      came name from reply (record {
        bytes = answering.bytes;
        there = left_before wire received name (Reply from answering.bytes) answering.there;
        spelled = answering.spelled;
      })
  traffic_repliers (RequestIsAnswered asked to bytes up rsp there answer) name from reply answering =
      came_if_answered asked to bytes up rsp answer name from reply answering
  traffic_repliers (RequestsAreSent n sends by nothing) name from reply answering = came_if_sent sends name from reply answering
  traffic_repliers (AttemptBegins n sends attempt begun) name from reply answering = came_if_sent sends name from reply answering
  traffic_repliers (RepliesGo n) name from reply answering =
      came name from reply (record {
        bytes = answering.bytes;
        there = got_before n wire name (Reply from answering.bytes) answering.there;
        spelled = answering.spelled;
      })
