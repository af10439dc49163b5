-- Each kind of traffic keeps that a request to create or write in the wire is a message of an attempt.
use Rattle.std.proofs.Common.{◌≡◌, ◌≢◌, ⊎_elim, ℕ, true, false, List, [], ◌∷◌, ◌++◌, fold, length, Contains, Option, Some, None, Ok, sym}
use Rattle.std.proofs.Common.{ap, subst, ◌∙◌}
use Rattle.std.specs.FinMap as tree
use Rattle.object_id.specs.declared.node.NodeId.{NodeId}
use Rattle.cluster_script.specs.declared.statement.Statement.{Statement}
use Rattle.peer_proto.specs.declared.ask.PeerReq.{PeerReq}
use Rattle.peer_proto.specs.Ask.{ask_in, ask_bytes}
use Rattle.message_wire.specs.declared.name.MessageName.{MessageName}
use Rattle.message_wire.specs.declared.packet.Packet.{Packet}
use Rattle.message_wire.specs.declared.packet.Packet.TheVariants.{Request, Reply}
use Rattle.message_wire.specs.Message.{without_replies}
use Rattle.sheep_world.specs.Messages.{wire_with_reply}
use Rattle.sheep_world.specs.NodeSteps.{wire_with_request}
use Rattle.sheep_world.proofs.WireAfterSends.{IsSent, got_sent}
use Rattle.sheep_world.proofs.RecoveryMessages.{same_asked}
use Rattle.sheep_world.proofs.LostReplies.{got_before}
use Rattle.overlap_law.specs.Attempts.{AttemptRecord, MessageFate, Doomed, attempts_with_fate, fate_of_say}
use Rattle.overlap_law.specs.Reached.{Hosts}
use Rattle.overlap_law.specs.Each.{SomeAttempt}
use Rattle.overlap_law.specs.Packets.{Wire, is_request_in_flight}
use Rattle.overlap_law.specs.Past.{MomentWithPast}
use Rattle.overlap_law.specs.StepMoments.{attempts_with_loss}
use Rattle.overlap_law.specs.MomentChanges.{RunsAreInRange, KeptByChanges}
use Rattle.overlap_law.specs.Traffic.{asks_making, IsMessageOf, MakersAreOfAttempts, Traffic, NothingMoves, MessageIsLost, ReplyIsReceived}
use Rattle.overlap_law.specs.Traffic.{RequestIsAnswered, RequestsAreSent, AttemptBegins, RepliesGo}
use Rattle.overlap_law.proofs.AttemptLists.{got_still, got_last, marked_there}
use Rattle.overlap_law.proofs.TiedInRuns.{none_yet}
use Rattle.overlap_law.proofs.TrafficOfChanges.{traffic}
use Rattle.overlap_law.proofs.WireLemmas.{tied_to, left_before, said_none, said_else}

abbrev bytes_of : Option Packet → List ℕ
bytes_of None = []
bytes_of (Some (Request to bytes)) = bytes
bytes_of (Some (Reply from bytes)) = bytes

abbrev receiver_of : NodeId → Option Packet → NodeId
receiver_of one None = one
receiver_of one (Some (Request to bytes)) = to
receiver_of one (Some (Reply from bytes)) = from

module _ (hosts hosts_after : Hosts) (wire : Wire) (attempts : List AttemptRecord) (makers : MakersAreOfAttempts wire attempts) where
  -- some attempt has the request as its message
  abbrev Has : List AttemptRecord → NodeId → PeerReq → Type 0
  Has all to request = SomeAttempt all (λ attempt. IsMessageOf attempt to request)

  -- what was asked before
  asked_before : (name : MessageName) (to : NodeId) (request : PeerReq) (bytes : List ℕ) → tree.get wire name ≡ Some (Request to bytes)
      → (asking : ask_in bytes ≡ Ok request) → asks_making request.ask ≡ true → Has attempts to request
  asked_before name to request bytes there spelled making =
      makers.each name to request (record { bytes = bytes; there = there; spelled = spelled }) making

  -- what is told of a message leaves what it asks
  told_has : (told : MessageFate) (name : MessageName) (to : NodeId) (request : PeerReq) → Has attempts to request
      → Has (attempts_with_fate told name.sender name.number attempts) to request
  told_has told name to request (j, attempt, there, is) =
      let (fates, now) = marked_there told name.sender name.number attempts j attempt there in
      (j, record attempt { fates = fates }, now, record { place = is.place; among = is.among; request_so = is.request_so })

  one_more : (new : AttemptRecord) (to : NodeId) (request : PeerReq) → Has attempts to request → Has (attempts ++ new ∷ []) to request
  one_more new to request (j, attempt, there, is) = (j, attempt, got_still attempts new j attempt there, is)

  -- what is sent
  sent_cases : (sends : List (NodeId × PeerReq)) → ((send : NodeId × PeerReq) → Contains sends send → ask_in (ask_bytes send.1) ≡ Ok send.1)
      → (all : List AttemptRecord)
      → ((send : NodeId × PeerReq) → Contains sends send → asks_making send.1.ask ≡ true → Has all send.0 send.1)
      → ((to : NodeId) (request : PeerReq) → Has attempts to request → Has all to request)
      → MakersAreOfAttempts (fold wire_with_request wire sends) all
  sent_cases sends read all new old = record {
    each = λ name to request asking making. ⊎_elim
        (λ (sent : IsSent sends name (Request to asking.bytes)).
        let (send, among, named, is) = sent in
        let read_so : send.1 ≡ request
        = sym (same_asked request send.1
        (sym asking.spelled ∙ ap ask_in (sym (ap bytes_of (ap (λ (p : Packet). Some p) is))) ∙ read send among)) in
        let to_so : send.0 ≡ to = ap (receiver_of send.0) (ap (λ (p : Packet). Some p) is) in
        subst (λ (node : NodeId). Has all node request) to_so
        (subst (Has all send.0) read_so (new send among (ap (λ (r : PeerReq). asks_making r.ask) read_so ∙ making))))
        (λ (before : tree.get wire name ≡ Some (Request to asking.bytes)).
        old to request (asked_before name to request asking.bytes before asking.spelled making))
        (got_sent sends wire name (Request to asking.bytes) asking.there);
  }

  -- where a packet goes
  less : (later : Wire) (all : List AttemptRecord) → ((q : MessageName) (to : NodeId) (bytes : List ℕ)
      → tree.get later q ≡ Some (Request to bytes) → tree.get wire q ≡ Some (Request to bytes))
      → ((to : NodeId) (request : PeerReq) → Has attempts to request → Has all to request) → MakersAreOfAttempts later all
  less later all before old = record {
    each = λ name to request asking making.
        old to request (asked_before name to request asking.bytes (before name to asking.bytes asking.there) asking.spelled making);
  }

  pub traffic_makers : {later : Wire} {after : List AttemptRecord} → Traffic hosts hosts_after wire attempts later after
      → MakersAreOfAttempts later after
  traffic_makers NothingMoves = makers
  traffic_makers (MessageIsLost name packet there) = lost packet
    where
      gone : (q : MessageName) (to : NodeId) (bytes : List ℕ) → tree.get (tree.remove wire name) q ≡ Some (Request to bytes)
          → tree.get wire q ≡ Some (Request to bytes)
      gone q to bytes got = left_before wire name q (Request to bytes) got

      lost : (packet : Packet) → MakersAreOfAttempts (tree.remove wire name) (attempts_with_loss name packet attempts)
      lost (Request to bytes) =
          less (tree.remove wire name) (attempts_with_fate Doomed name.sender name.number attempts) gone (told_has Doomed name)
      lost (Reply from bytes) = less (tree.remove wire name) attempts gone (λ to request has. has)
  traffic_makers (ReplyIsReceived name from bytes there) =
      less (tree.remove wire name) attempts (λ q to bytes got. left_before wire name q (Request to bytes) got) (λ to request has. has)
  traffic_makers (RequestIsAnswered name from bytes up rsp there answer) =
      less (wire_with_reply name from up (Some rsp) wire) (attempts_with_fate (fate_of_say rsp.say) name.sender name.number attempts)
      other (told_has (fate_of_say rsp.say) name)
    where
      other : (q : MessageName) (to : NodeId) (bytes : List ℕ)
          → tree.get (wire_with_reply name from up (Some rsp) wire) q ≡ Some (Request to bytes)
          → tree.get wire q ≡ Some (Request to bytes)
      other q to bytes got = ⊎_elim
          (λ (own : q ≡ name).
          let none : is_request_in_flight (tree.get (wire_with_reply name from up (Some rsp) wire) q) ≡ false
          = ap (λ (k : MessageName). is_request_in_flight (tree.get (wire_with_reply name from up (Some rsp) wire) k)) own
          ∙ said_none wire name from rsp up in
          let some : is_request_in_flight (tree.get (wire_with_reply name from up (Some rsp) wire) q) ≡ true
          = ap is_request_in_flight got in
          absurd (cc (none, some)))
          (λ (apart : q ≢ name). sym (said_else wire name from rsp up q apart) ∙ got)
          (tied_to wire name q)
  traffic_makers (RequestsAreSent n sends by nothing) =
      sent_cases sends by.read attempts
      (λ send among making. let none = nothing send among in absurd (cc (none, making))) (λ to request has. has)
  traffic_makers (AttemptBegins n sends new begun) =
      sent_cases sends begun.sent_by.read (attempts ++ new ∷ [])
      (λ send among making. (length attempts, new, got_last attempts new, begun.of_attempt send among)) (one_more new)
  traffic_makers (RepliesGo n) =
      less (without_replies n wire) attempts (λ q to bytes got. got_before n wire q (Request to bytes) got) (λ to request has. has)

-- ---- every moment

-- each request to create or write in the wire of a moment is a message of an attempt
abbrev pub HasMakersOfAttempts : MomentWithPast → Type 0
HasMakersOfAttempts moment = MakersAreOfAttempts moment.world.wire moment.past.attempts

module _ (script : List Statement) (range : RunsAreInRange script) where
  pub kept_makers : KeptByChanges script HasMakersOfAttempts
  kept_makers = record {
    opens = record { each = λ name to request asking making. absurd (none_yet script name (Request to asking.bytes) asking.there) };
    keeps = λ start before after began change makers.
        traffic_makers before.world.hosts after.world.hosts before.world.wire before.past.attempts makers
        (traffic script range start began change);
  }
