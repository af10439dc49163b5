-- What the wire has under a name that its sender gave before a change, it had before, or it is the answer to the request that was there.
use Rattle.std.proofs.Common.{◌≡◌, ◌≢◌, ◌⊎◌, inl, inr, ⊎_elim, arith, ℕ, ◌≤◌, ◌<◌, nat_lt, Bool, true, false, not, cond, List, fold, Option}
use Rattle.std.proofs.Common.{Some, None, Ok, refl, sym, ap, subst, ◌∙◌}
use Rattle.std.specs.FinMap as tree
use Rattle.std.specs.Option.{option_map_or}
use Rattle.std.proofs.lemmas.Bool.{ltb-false, leb-true, le-leb}
use Rattle.std.proofs.lemmas.Option.{same_Some}
use Rattle.object_id.specs.declared.node.NodeId.{NodeId}
use Rattle.peer_proto.specs.declared.ask.PeerAsk.{PeerAsk}
use Rattle.peer_proto.specs.declared.ask.PeerReq.{PeerReq}
use Rattle.peer_proto.specs.declared.say.PeerRsp.{PeerRsp}
use Rattle.peer_proto.specs.declared.say.Refusal.TheVariants.{OldEpoch, NewEpoch}
use Rattle.peer_proto.specs.Say.{say_in, say_bytes}
use Rattle.peer_service.specs.State.{Peer}
use Rattle.peer_service.specs.Serve.{reply_to, step_behind_fence, peer_step, tells_refusal}
use Rattle.message_wire.specs.declared.name.MessageName.{MessageName}
use Rattle.message_wire.specs.declared.packet.Packet.{Packet}
use Rattle.message_wire.specs.declared.packet.Packet.TheVariants.{Request, Reply}
use Rattle.message_wire.specs.Message.{message_name, is_reply_to, without_replies}
use Rattle.sheep_node.proofs.MessageNumbers.{numbers_within}
use Rattle.sheep_world.specs.World.{Host}
use Rattle.sheep_world.specs.Messages.{wire_with_reply}
use Rattle.sheep_world.specs.NodeSteps.{wire_with_request}
use Rattle.sheep_world.proofs.RecoveryMessages.{same_said}
use Rattle.sheep_world.proofs.WireAfterSends.{sends_apart}
use Rattle.overlap_law.specs.Attempts.{AttemptRecord}
use Rattle.overlap_law.specs.Reached.{Hosts}
use Rattle.overlap_law.specs.Each.{has_reached}
use Rattle.overlap_law.specs.Packets.{Wire, IsAsking, IsAnswering}
use Rattle.overlap_law.specs.Traffic.{AreSentBy, Traffic, NothingMoves, MessageIsLost, ReplyIsReceived, RequestIsAnswered, RequestsAreSent}
use Rattle.overlap_law.specs.Traffic.{AttemptBegins, RepliesGo}
use Rattle.overlap_law.proofs.EpochsRise.{EpochsRise}
use Rattle.overlap_law.proofs.WireLemmas.{tied_to, left_before, put_at, said_else, forgot}

-- ---- who has come to an epoch

reached_at : (epoch : ℕ) (o : Option Host) (host : Host) → o ≡ Some host → epoch ≤ host.node.peer.epoch
    → option_map_or (λ (h : Host). h.node.peer.epoch) o 0 ≡ host.node.peer.epoch
reached_at epoch o host is within = ap (λ (o : Option Host). option_map_or (λ (h : Host). h.node.peer.epoch) o 0) is

pub reached_by : (hosts : Hosts) (epoch : ℕ) (node : NodeId) (host : Host) → tree.get hosts node.0 ≡ Some host
    → epoch ≤ host.node.peer.epoch
    → has_reached hosts epoch node ≡ true
reached_by hosts epoch node host there within =
    let at : option_map_or (λ (h : Host). h.node.peer.epoch) (tree.get hosts node.0) 0 ≡ host.node.peer.epoch
    = reached_at epoch (tree.get hosts node.0) host there within in
    le-leb epoch (option_map_or (λ (h : Host). h.node.peer.epoch) (tree.get hosts node.0) 0) (omega (arith, at, within))

pub still_reached : (hosts hosts_after : Hosts) → EpochsRise hosts hosts_after → (epoch : ℕ) (node : NodeId)
    → has_reached hosts epoch node ≡ true
    → has_reached hosts_after epoch node ≡ true
still_reached hosts hosts_after rises epoch node reached = by_host (tree.get hosts node.0) refl reached
  where
    by_host : (o : Option Host) → tree.get hosts node.0 ≡ o → has_reached hosts epoch node ≡ true
        → has_reached hosts_after epoch node ≡ true
    by_host None is reached =
        let none : option_map_or (λ (h : Host). h.node.peer.epoch) (tree.get hosts node.0) 0 ≡ 0
        = ap (λ (o : Option Host). option_map_or (λ (h : Host). h.node.peer.epoch) o 0) is in
        let low = leb-true epoch (option_map_or (λ (h : Host). h.node.peer.epoch) (tree.get hosts node.0) 0) reached in
        le-leb epoch (option_map_or (λ (h : Host). h.node.peer.epoch) (tree.get hosts_after node.0) 0) (omega (arith, none, low))
    by_host (Some host) is reached =
        let (now, there, more) = rises node.0 host is in
        let at : option_map_or (λ (h : Host). h.node.peer.epoch) (tree.get hosts node.0) 0 ≡ host.node.peer.epoch
        = ap (λ (o : Option Host). option_map_or (λ (h : Host). h.node.peer.epoch) o 0) is in
        let low = leb-true epoch (option_map_or (λ (h : Host). h.node.peer.epoch) (tree.get hosts node.0) 0) reached in
        reached_by hosts_after epoch node now there (omega (arith, at, low, more))

-- a node of the same number
pub same_reached : (hosts : Hosts) (epoch : ℕ) (one other : NodeId) → one.0 ≡ other.0 → has_reached hosts epoch other ≡ true
    → has_reached hosts epoch one ≡ true
same_reached hosts epoch one other same reached =
    ap (λ (k : ℕ). has_reached hosts epoch (record { 0 = k })) same ∙ reached

-- ---- an answer that is no refusal

served_epoch : (own requested : ℕ) (ask : PeerAsk) (peer : Peer) (a b : Bool) → nat_lt requested own ≡ a → nat_lt own requested ≡ b
    → tells_refusal (step_behind_fence (cond a (Some (OldEpoch (record { 0 = own }))) (cond b (Some (NewEpoch (record { 0 = own }))) None))
    ask peer).say ≡ false
    → own ≡ requested
served_epoch own requested ask peer true b below above told = absurd (cc (told))
served_epoch own requested ask peer false true below above told = absurd (cc (told))
served_epoch own requested ask peer false false below above told =
    let low = ltb-false requested own below in
    let high = ltb-false own requested above in
    omega (arith, low, high)

-- is of the epoch of its request
pub of_own_epoch : (peer : Peer) (request : PeerReq) → tells_refusal (reply_to peer request).say ≡ false → peer.epoch ≡ request.epoch.0
unfolding peer_step
of_own_epoch peer request told =
    served_epoch peer.epoch request.epoch.0 request.ask peer (nat_lt request.epoch.0 peer.epoch) (nat_lt peer.epoch request.epoch.0) refl
    refl told

-- ---- under a name

-- a node's answer to the request that was there
pub record IsNewAnswer (hosts : Hosts) (wire : Wire) (name : MessageName) (from : NodeId) (rsp : PeerRsp) : Type 0 where
  pub host : Host
  pub there : tree.get hosts from.0 ≡ Some host
  pub request : PeerReq
  pub asking : IsAsking wire name from request
  pub said : reply_to host.node.peer request ≡ rsp

abbrev sender_or : NodeId → Packet → NodeId
sender_or none (Request to bytes) = none
sender_or none (Reply from bytes) = from

abbrev bytes_or : Packet → List ℕ
bytes_or (Request to bytes) = bytes
bytes_or (Reply from bytes) = bytes

-- the names that a node gave before
module _ (hosts hosts_after : Hosts) (wire : Wire) (attempts : List AttemptRecord) (n number : ℕ) (host : Host)
    (there : tree.get hosts n ≡ Some host)
    (given : number < host.node.sends) where
  abbrev q : MessageName
  q = message_name n number

  -- nothing that is sent has such a name
  not_sent : (k : ℕ) (sends : List (NodeId × PeerReq)) → AreSentBy hosts hosts_after k sends
      → tree.get (fold wire_with_request wire sends) q ≡ tree.get wire q
  not_sent k sends by = sends_apart sends wire q (λ send at alike.
      let sender : n ≡ k = sym (ap (λ (name : MessageName). name.sender.0) alike) ∙ by.own send at in
      let same : by.host ≡ host = same_Some by.host host (sym by.there ∙ ap (tree.get hosts) (sym sender) ∙ there) in
      let is : send.1.number ≡ number = ap (λ (name : MessageName). name.number) alike in
      let low = (numbers_within by.host.node.sends sends send by.numbers at).0 in
      let counts : by.host.node.sends ≡ host.node.sends = ap (λ (h : Host). h.node.sends) same in
      absurd (omega (arith, is, low, counts, given)))

  abbrev WasThere : Wire → Type 0
  WasThere later = (packet : Packet) → tree.get later q ≡ Some packet → tree.get wire q ≡ Some packet

  forgot_less : (k : ℕ) → WasThere (without_replies k wire)
  forgot_less k packet got = by_packet (tree.get wire q) refl got
    where
      by_packet : (o : Option Packet) → tree.get wire q ≡ o → tree.get (without_replies k wire) q ≡ Some packet
          → tree.get wire q ≡ Some packet
      by_packet None is got = let none = forgot k wire q None is in absurd (cc (got, none))
      by_packet (Some was) is got = by_test (not (is_reply_to k q (Some was))) (sym (forgot k wire q (Some was) is) ∙ got)
        where
          by_test : (b : Bool) → cond b (Some was) None ≡ Some packet → tree.get wire q ≡ Some packet
          by_test true same = is ∙ same
          by_test false same = absurd (cc (same))

  -- the answer to what was there
  abbrev pub IsAnswerThere : Packet → Type 0
  IsAnswerThere packet =
      (from : NodeId) × (rsp : PeerRsp) × (packet ≡ Reply from (say_bytes rsp)) × (say_in (say_bytes rsp) ≡ Ok rsp)
      × IsNewAnswer hosts wire q from rsp

  -- a packet was there, or is the answer to what was
  pub was_or_answers : {later : Wire} {after : List AttemptRecord} → Traffic hosts hosts_after wire attempts later after → (packet : Packet)
      → tree.get later q ≡ Some packet
      → (tree.get wire q ≡ Some packet) ⊎ IsAnswerThere packet
  was_or_answers NothingMoves packet got = inl got
  was_or_answers (MessageIsLost name lost at) packet got = inl (left_before wire name q packet got)
  was_or_answers (ReplyIsReceived name from bytes at) packet got = inl (left_before wire name q packet got)
  was_or_answers (RequestIsAnswered name to bytes true rsp at answer) packet got = ⊎_elim
      (λ (own : q ≡ name).
      let put = ap (tree.get (wire_with_reply name to true (Some rsp) wire)) own ∙ put_at wire name (Reply to (say_bytes rsp)) in
      inr (
        to,
        rsp,
        sym (same_Some (Reply to (say_bytes rsp)) packet (sym put ∙ got)),
        answer.spelled,
        record {
          host = answer.host;
          there = answer.there;
          request = answer.request;
          asking = record { bytes = bytes; there = ap (tree.get wire) own ∙ at; spelled = answer.read };
          said = answer.said;
        },
      ))
      (λ (apart : q ≢ name). inl (sym (said_else wire name to rsp true q apart) ∙ got))
      (tied_to wire name q)
  was_or_answers (RequestIsAnswered name to bytes false rsp at answer) packet got = inl (left_before wire name q packet got)
  was_or_answers (RequestsAreSent k sends by nothing) packet got = inl (sym (not_sent k sends by) ∙ got)
  was_or_answers (AttemptBegins k sends attempt begun) packet got = inl (sym (not_sent k sends begun.sent_by) ∙ got)
  was_or_answers (RepliesGo k) packet got = inl (forgot_less k packet got)

  pub asked_before : {later : Wire} {after : List AttemptRecord} → Traffic hosts hosts_after wire attempts later after
      → (to : NodeId) (request : PeerReq)
      → IsAsking later q to request → IsAsking wire q to request
  asked_before traffic to request is = ⊎_elim
      (λ (was : tree.get wire q ≡ Some (Request to is.bytes)). record { bytes = is.bytes; there = was; spelled = is.spelled })
      (λ (answers : IsAnswerThere (Request to is.bytes)). let (from, rsp, reply, says, new) = answers in absurd (cc (reply)))
      (was_or_answers traffic (Request to is.bytes) is.there)

  pub told_before : {later : Wire} {after : List AttemptRecord} → Traffic hosts hosts_after wire attempts later after
      → (from : NodeId) (rsp : PeerRsp)
      → IsAnswering later q from rsp → IsAnswering wire q from rsp ⊎ IsNewAnswer hosts wire q from rsp
  told_before traffic from rsp is = ⊎_elim
      (λ (was : tree.get wire q ≡ Some (Reply from is.bytes)). inl (record { bytes = is.bytes; there = was; spelled = is.spelled }))
      (λ (answers : IsAnswerThere (Reply from is.bytes)).
      let (to, told, reply, says, new) = answers in
      let sender : to ≡ from = sym (ap (sender_or from) reply) in
      let bytes : is.bytes ≡ say_bytes told = ap bytes_or reply in
      let same : told ≡ rsp = same_said told rsp (sym says ∙ ap say_in (sym bytes) ∙ is.spelled) in
      inr (subst (λ (r : PeerRsp). IsNewAnswer hosts wire q from r) same
      (subst (λ (f : NodeId). IsNewAnswer hosts wire q f told) sender new)))
      (was_or_answers traffic (Reply from is.bytes) is.there)
