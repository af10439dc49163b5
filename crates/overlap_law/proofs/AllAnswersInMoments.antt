-- In each run in range, and in the middle of its steps, what a node is answered to a message of any of its recoveries comes from the node
-- that was asked, which came to the epoch of the message unless it refuses.
use Rattle.std.proofs.Common.{◌≡◌, ◌⊎◌, inl, inr, ⊎_elim, arith, ℕ, ◌≤◌, ◌<◌, false, true, List, [], Contains, Option, Some}
use Rattle.std.proofs.Common.{sym, ap, subst, ◌∙◌}
use Rattle.std.specs.Prelude.{nat_le}
use Rattle.std.specs.Option.{option_map_or}
use Rattle.std.specs.FinMap as tree
use Rattle.std.proofs.lemmas.Bool.{leb-true}
use Rattle.std.proofs.lemmas.List.Elements.{Contains-append_left, Contains-append_right, Contains-append_cases}
use Rattle.std.proofs.lemmas.Option.{same_Some}
use Rattle.proof_tools.proofs.Lists.{Contains-nil}
use Rattle.object_id.specs.declared.node.NodeId.{NodeId}
use Rattle.cluster_script.specs.declared.statement.Statement.{Statement}
use Rattle.peer_proto.specs.declared.ask.PeerReq.{PeerReq}
use Rattle.peer_proto.specs.declared.say.PeerRsp.{PeerRsp}
use Rattle.peer_proto.specs.Ask.{ask_in, ask_bytes}
use Rattle.peer_service.specs.Serve.{tells_refusal}
use Rattle.recovery.specs.State.{Message, Recovery, all_unanswered}
use Rattle.message_wire.specs.declared.packet.Packet.{Packet}
use Rattle.message_wire.specs.declared.packet.Packet.TheVariants.{Request}
use Rattle.message_wire.specs.Message.{message_name}
use Rattle.sheep_world.specs.World.{Host}
use Rattle.sheep_world.specs.NodeCauses.{input_of_cause}
use Rattle.sheep_world.specs.EventKinds.{log_after_return}
use Rattle.sheep_world.specs.Began.{Began}
use Rattle.sheep_world.proofs.RecoveryMessages.{same_asked}
use Rattle.overlap_law.specs.Reached.{Hosts}
use Rattle.overlap_law.specs.Each.{EachUp, has_reached}
use Rattle.overlap_law.specs.Packets.{Wire, IsAsking, IsAnswering}
use Rattle.overlap_law.specs.Past.{MomentWithPast, first_moment}
use Rattle.overlap_law.specs.MomentChanges.{MomentChange, RunsAreInRange, KeptByChanges}
use Rattle.overlap_law.proofs.AnswerersInMoments.{opening_recovery}
use Rattle.overlap_law.proofs.AnswersInMoments.{IsSentNow, WasAwaited, not_lost, messages_came, receiver_or, bytes_or}
use Rattle.overlap_law.proofs.EpochsRise.{EpochsRise, epochs_rise}
use Rattle.overlap_law.proofs.HostsInMoments.{hosts_stay}
use Rattle.overlap_law.proofs.NodePartsInMoments.{PartsChange, PartsStay, PartsStep, PartsReturn, PartsAreNew, parts_change}
use Rattle.overlap_law.proofs.OlderMessages.{older_received, back-older}
use Rattle.overlap_law.proofs.ToldBefore.{reached_by, still_reached, of_own_epoch, IsNewAnswer, asked_before, told_before}
use Rattle.overlap_law.proofs.TrafficOfChanges.{traffic}

-- the messages of a node's recoveries have numbers that it gave; they are in the wire as they were sent, or as a reply of the node that
-- they went to, which if it is no refusal came to the epoch of the message
pub record AllMessagesAreTold (hosts : Hosts) (wire : Wire) : Type 0 where
  pub given : EachUp hosts (λ n node. (message : Message) → Contains (all_unanswered node.recovery) message
      → message.request.number < node.sends)
  pub asked : EachUp hosts (λ n node. (message : Message) → Contains (all_unanswered node.recovery) message
      → (to : NodeId) (request : PeerReq)
      → IsAsking wire (message_name n message.request.number) to request → (to ≡ message.to) × (request ≡ message.request))
  pub told : EachUp hosts (λ n node. (message : Message) → Contains (all_unanswered node.recovery) message → (from : NodeId) (rsp : PeerRsp)
      → IsAnswering wire (message_name n message.request.number) from rsp
      → (from ≡ message.to) × (tells_refusal rsp.say ≡ false → has_reached hosts message.request.epoch.0 from ≡ true))

-- a node that is there came to an epoch
pub reached_at : (hosts : Hosts) (epoch : ℕ) (node : NodeId) (host : Host) → tree.get hosts node.0 ≡ Some host
    → has_reached hosts epoch node ≡ true → epoch ≤ host.node.peer.epoch
reached_at hosts epoch node host there reached =
    leb-true epoch host.node.peer.epoch
    (subst (λ (o : Option Host). nat_le epoch (option_map_or (λ (h : Host). h.node.peer.epoch) o 0) ≡ true) there reached)

-- ---- where the messages of recoveries come from

-- a message of any recovery was awaited before
pub record WasAwaitedOfAny (hosts : Hosts) (n : ℕ) (message : Message) : Type 0 where
  pub host : Host
  pub there : tree.get hosts n ≡ Some host
  pub up : host.is_lost ≡ false
  pub among : Contains (all_unanswered host.node.recovery) message

abbrev pub CameOfAny : MomentWithPast → MomentWithPast → ℕ → Host → Message → Type 0
CameOfAny before after n now message =
    WasAwaitedOfAny before.world.hosts n message ⊎ IsSentNow after.world.hosts after.world.wire n now message

module _ (script : List Statement) (range : RunsAreInRange script) (start : MomentWithPast) (began : Began script start.world)
    {before after : MomentWithPast} (change : MomentChange script start before after) where
  older_came : (n : ℕ) (now : Host) → tree.get after.world.hosts n ≡ Some now → now.is_lost ≡ false → (message : Message)
      → Contains now.node.recovery.older message → WasAwaitedOfAny before.world.hosts n message
  older_came n now there up message older = by_change (parts_change script range start began change n now there)
    where
      by_change : PartsChange script before n now → WasAwaitedOfAny before.world.hosts n message
      by_change (PartsStay was was_there was_up parts) = record {
        host = was;
        there = was_there;
        up = was_up up;
        among = Contains-append_right was.node.recovery.unanswered was.node.recovery.older message
            (subst (λ (r : Recovery). Contains r.older message) parts.recovery older);
      }
      by_change (PartsStep was cause now_began was_there was_up caused parts) = record {
        host = was;
        there = was_there;
        up = not_lost was was_up;
        among = older_received (input_of_cause cause) was.node message
            (subst (λ (r : Recovery). Contains r.older message) parts.recovery older);
      }
      by_change (PartsReturn was now_began was_there lost parts) =
          let log = log_after_return script n before.world in
          let none : now.node.recovery.older ≡ [] = ap (λ (r : Recovery). r.older) parts.recovery ∙ back-older log was.node in
          absurd (Contains-nil message (subst (λ (messages : List Message). Contains messages message) none older))
      by_change (PartsAreNew none parts) =
          absurd (Contains-nil message (subst (λ (r : Recovery). Contains r.older message) parts.recovery older))

  pub all_came : (n : ℕ) (now : Host) → tree.get after.world.hosts n ≡ Some now → now.is_lost ≡ false → (message : Message)
      → Contains (all_unanswered now.node.recovery) message → CameOfAny before after n now message
  all_came n now there up message among = ⊎_elim
      (λ (own : Contains now.node.recovery.unanswered message). ⊎_elim
      (λ (was : WasAwaited before.world.hosts n message). inl (record {
        host = was.host;
        there = was.there;
        up = was.up;
        among = Contains-append_left was.host.node.recovery.unanswered was.host.node.recovery.older message was.among;
      }))
      (λ (new : IsSentNow after.world.hosts after.world.wire n now message). inr new)
      (messages_came script range start began change n now there up message own))
      (λ (older : Contains now.node.recovery.older message). inl (older_came n now there up message older))
      (Contains-append_cases now.node.recovery.unanswered now.node.recovery.older message among)

  rises : EpochsRise before.world.hosts after.world.hosts
  rises = epochs_rise script range start began change

  -- ---- who told came to the epoch

  module _ (holds : AllMessagesAreTold before.world.hosts before.world.wire) where
    was_given : (n : ℕ) (message : Message) (was : WasAwaitedOfAny before.world.hosts n message)
        → message.request.number < was.host.node.sends
    was_given n message was = holds.given n was.host was.there was.up message was.among

    -- what is answered was answered before, or now
    pub was_told : (n : ℕ) (message : Message) (was : WasAwaitedOfAny before.world.hosts n message) (from : NodeId) (rsp : PeerRsp)
        → IsAnswering after.world.wire (message_name n message.request.number) from rsp
        → IsAnswering before.world.wire (message_name n message.request.number) from rsp
        ⊎ IsNewAnswer before.world.hosts before.world.wire (message_name n message.request.number) from rsp
    was_told n message was =
        told_before before.world.hosts after.world.hosts before.world.wire before.past.attempts n message.request.number was.host was.there
        (was_given n message was) (traffic script range start began change)

    -- and in that case it is answered by a node in the epoch of the message
    pub new_epoch : (n : ℕ) (message : Message) (was : WasAwaitedOfAny before.world.hosts n message) (from : NodeId) (rsp : PeerRsp)
        (new : IsNewAnswer before.world.hosts before.world.wire (message_name n message.request.number) from rsp)
        → tells_refusal rsp.say ≡ false → new.host.node.peer.epoch ≡ message.request.epoch.0
    new_epoch n message was from rsp new plain =
        of_own_epoch new.host.node.peer new.request (ap (λ (r : PeerRsp). tells_refusal r.say) new.said ∙ plain)
        ∙ ap (λ (r : PeerReq). r.epoch.0) (holds.asked n was.host was.there was.up message was.among from new.request new.asking).1

    change_all_told : AllMessagesAreTold after.world.hosts after.world.wire
    change_all_told = record {
      given = λ n now there up message among. ⊎_elim
          (λ (was : WasAwaitedOfAny before.world.hosts n message).
          let stays = (hosts_stay script range start began change) n was.host was.there in
          let same : stays.now ≡ now = same_Some stays.now now (sym stays.there ∙ there) in
          let more : was.host.node.sends ≤ now.node.sends = subst (λ (h : Host). was.host.node.sends ≤ h.node.sends) same stays.sends in
          let old = was_given n message was in
          omega (arith, more, old))
          (λ (new : IsSentNow after.world.hosts after.world.wire n now message). new.given)
          (all_came n now there up message among);
      asked = λ n now there up message among to request asking. ⊎_elim
          (λ (was : WasAwaitedOfAny before.world.hosts n message).
          holds.asked n was.host was.there was.up message was.among to request
          (asked_before before.world.hosts after.world.hosts before.world.wire before.past.attempts n message.request.number was.host
          was.there
          (was_given n message was) (traffic script range start began change) to request asking))
          (λ (new : IsSentNow after.world.hosts after.world.wire n now message).
          let same : ◌≡◌ {A = Packet} (Request to asking.bytes) (Request message.to (ask_bytes message.request))
          = same_Some (Request to asking.bytes) (Request message.to (ask_bytes message.request)) (sym asking.there ∙ new.there) in (
            ap (receiver_or to) same,
            same_asked request message.request (sym asking.spelled ∙ ap (λ (p : Packet). ask_in (bytes_or p)) same ∙ new.read),
          ))
          (all_came n now there up message among);
      told = λ n now there up message among from rsp answering. ⊎_elim
          (λ (was : WasAwaitedOfAny before.world.hosts n message). ⊎_elim
          (λ (old : IsAnswering before.world.wire (message_name n message.request.number) from rsp).
          let (own, reached) = holds.told n was.host was.there was.up message was.among from rsp old in (
            own,
            λ (no : tells_refusal rsp.say ≡ false).
                still_reached before.world.hosts after.world.hosts rises message.request.epoch.0 from (reached no),
          ))
          (λ (new : IsNewAnswer before.world.hosts before.world.wire (message_name n message.request.number) from rsp). (
            (holds.asked n was.host was.there was.up message was.among from new.request new.asking).0,
            λ (no : tells_refusal rsp.say ≡ false).
                let epochs = new_epoch n message was from rsp new no in
                still_reached before.world.hosts after.world.hosts rises message.request.epoch.0 from
                (reached_by before.world.hosts message.request.epoch.0 from new.host new.there (omega (arith, epochs))),
          ))
          (was_told n message was from rsp answering))
          (λ (new : IsSentNow after.world.hosts after.world.wire n now message).
          let asked = new.there in
          let answered = answering.there in
          absurd (cc (asked, answered)))
          (all_came n now there up message among);
    }

-- ---- every moment

abbrev pub AreAllTold : MomentWithPast → Type 0
AreAllTold moment = AllMessagesAreTold moment.world.hosts moment.world.wire

-- before the first event no node waits for any
pub opening_none : {P : Type 0} (script : List Statement) (n : ℕ) (host : Host) → tree.get (first_moment script).world.hosts n ≡ Some host
    → (message : Message) → Contains (all_unanswered host.node.recovery) message → P
opening_none script n host there message among =
    let (opened, is) = opening_recovery script n host there in
    absurd (Contains-nil message (subst (λ (r : Recovery). Contains (all_unanswered r) message) is among))

pub kept_all_told : (script : List Statement) → RunsAreInRange script → KeptByChanges script AreAllTold
kept_all_told script range = record {
  opens = record {
    given = λ n host there up message among. opening_none script n host there message among;
    asked = λ n host there up message among. opening_none script n host there message among;
    told = λ n host there up message among. opening_none script n host there message among;
  };
  keeps = λ start before after began change holds. change_all_told script range start began change holds;
}
