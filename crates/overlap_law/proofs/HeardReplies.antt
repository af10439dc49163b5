-- A reply that a node hears to a message of a recovery was in the wire under the message's name; so it is from the node that was asked,
-- which came to the recovery's epoch. What is asked for the object of a search is asked of the search's level.
use Rattle.std.proofs.Common.{◌≡◌, ℕ, false, true, List, Contains, Option, Some, Ok, refl, sym, ap, subst, ◌∙◌}
use Rattle.std.specs.Option.{IfSome}
use Rattle.std.specs.FinMap as tree
use Rattle.std.proofs.lemmas.List.Elements.{All-contains, Contains-append_left}
use Rattle.object_id.specs.declared.node.Epoch.{Epoch}
use Rattle.object_id.specs.declared.node.NodeId.{NodeId}
use Rattle.cluster_script.specs.declared.statement.Statement.{Statement}
use Rattle.peer_proto.specs.declared.ask.PeerAsk.TheVariants as asks
use Rattle.peer_proto.specs.declared.say.PeerRsp.{PeerRsp}
use Rattle.peer_proto.specs.Say.{say_in}
use Rattle.peer_service.specs.Serve.{tells_refusal}
use Rattle.recovery.specs.State.{Message, Search, all_unanswered}
use Rattle.message_wire.specs.declared.packet.Packet.TheVariants.{Reply}
use Rattle.message_wire.specs.Message.{message_name}
use Rattle.sheep_node.specs.declared.input.Input.{Input}
use Rattle.sheep_node.specs.declared.input.Input.TheVariants as inputs
use Rattle.sheep_world.specs.World.{Host, World, is_host_up}
use Rattle.sheep_world.specs.NodeCauses.{NodeCause, GuestAsks, RequestComes, ReplyComes, LossIsTold, EntryIsRead, EntryIsPut, RecoveryTicks}
use Rattle.sheep_world.specs.NodeCauses.{WorkIsRetried, ClientAsks, input_of_cause, IsCause}
use Rattle.sheep_world.specs.Began.{Began}
use Rattle.sheep_world.proofs.BegunWorlds.{each_began}
use Rattle.sheep_world.proofs.RecoveryMessages.{same_said}
use Rattle.overlap_law.specs.Each.{has_reached}
use Rattle.overlap_law.specs.Flight.{IsAtLevel}
use Rattle.overlap_law.specs.Packets.{IsAnswering}
use Rattle.overlap_law.specs.MomentChanges.{RunsAreInRange}
use Rattle.overlap_law.proofs.AllAnswersInMoments.{AllMessagesAreTold}
use Rattle.overlap_law.proofs.AnswersInMoments.{not_lost}
use Rattle.overlap_law.proofs.KnownSteps.{together}
use Rattle.overlap_law.proofs.RecoveryMessages.{AsksSo}
use Rattle.overlap_law.proofs.SoundNodes.{sound_in_worlds}
use Rattle.overlap_law.proofs.WireInRuns.{recoveries_ask_so}

abbrev rsp_or : PeerRsp → Input → PeerRsp
rsp_or none (inputs.Reply rsp) = rsp
rsp_or none _ = none

-- what was heard to a message
pub record IsHeardReply (world : World) (n : ℕ) (message : Message) (rsp : PeerRsp) : Type 0 where
  pub from : NodeId
  pub answering : IsAnswering world.wire (message_name n message.request.number) from rsp

module _ (script : List Statement) (range : RunsAreInRange script) (world : World) (began : Began script world) (n : ℕ) (host : Host)
    (there : tree.get world.hosts n ≡ Some host) where
  pub heard_reply : (cause : NodeCause) → IsCause script world n host cause → (rsp : PeerRsp) → input_of_cause cause ≡ inputs.Reply rsp
      → (message : Message) → message.request.number ≡ rsp.number → IsHeardReply world n message rsp
  heard_reply (GuestAsks session req ask) so rsp is message own = absurd (cc (is))
  heard_reply (RequestComes name to request) so rsp is message own = absurd (cc (is))
  heard_reply (ReplyComes name from told) so rsp is message own =
      let same : told ≡ rsp = ap (rsp_or told) is in
      let (said, says, spelled) = (together script range world began).wired.spelled name (Reply from so.bytes) so.there in
      let is_said : said ≡ told = same_said said told (sym says ∙ so.read) in
      let number : name.number ≡ message.request.number
      = sym spelled ∙ ap (λ (r : PeerRsp). r.number) is_said ∙ ap (λ (r : PeerRsp). r.number) same ∙ sym own in
      let name_so : name ≡ message_name n message.request.number
      = λ i. record { sender = record { 0 = so.here i }; number = number i } in
      record {
        from = from;
        answering = record {
          bytes = so.bytes;
          there = ap (tree.get world.wire) (sym name_so) ∙ so.there;
          spelled = subst (λ (r : PeerRsp). say_in so.bytes ≡ Ok r) same so.read;
        };
      }
  heard_reply (LossIsTold name packet) so rsp is message own = absurd (cc (is))
  heard_reply (EntryIsRead entry) so rsp is message own = absurd (cc (is))
  heard_reply (EntryIsPut entry) so rsp is message own = absurd (cc (is))
  heard_reply RecoveryTicks so rsp is message own = absurd (cc (is))
  heard_reply WorkIsRetried so rsp is message own = absurd (cc (is))
  heard_reply (ClientAsks req ask) so rsp is message own = absurd (cc (is))

  -- a message for the object of the search is for the search's level
  pub at_level : (one : Search) → host.node.recovery.search ≡ Some one → (message : Message)
      → Contains host.node.recovery.unanswered message → (level : Epoch) → message.request.ask ≡ asks.RecoverRead one.oid level
      → level.0 ≡ one.level
  at_level one searched message among level asked =
      subst (IsAtLevel one) asked
      (subst (λ (o : Option Search). IfSome o (λ (search : Search). IsAtLevel search message.request.ask)) searched
      (All-contains (λ (m : Message). (m.request.epoch.0 ≡ host.node.recovery.epoch)
      × IfSome host.node.recovery.search (λ (search : Search). IsAtLevel search m.request.ask)) host.node.recovery.unanswered message
      (each_began script (λ (w : World) (k : ℕ) (h : Host). AsksSo h.node.recovery) (recoveries_ask_so script) world began n host there)
      among).1)
      refl

  module _ (up : is_host_up host ≡ true) (told : AllMessagesAreTold world.hosts world.wire) (message : Message)
      (among : Contains host.node.recovery.unanswered message) (rsp : PeerRsp) (heard : IsHeardReply world n message rsp) where
    -- it is awaited of any recovery
    pub heard_among : Contains (all_unanswered host.node.recovery) message
    heard_among = Contains-append_left host.node.recovery.unanswered host.node.recovery.older message among

    -- it is from the node that was asked
    pub heard_from : heard.from ≡ message.to
    heard_from = (told.told n host there (not_lost host up) message heard_among heard.from rsp heard.answering).0

    -- the message is of the recovery's epoch
    pub heard_epoch : message.request.epoch.0 ≡ host.node.recovery.epoch
    heard_epoch = (sound_in_worlds script range world began n host there).lists.asks_so.of_epoch message among

    -- to which that node came
    pub heard_reached : tells_refusal rsp.say ≡ false → has_reached world.hosts host.node.recovery.epoch message.to ≡ true
    heard_reached plain =
        ap (λ (epoch : ℕ). has_reached world.hosts epoch message.to) (sym heard_epoch)
        ∙ ap (has_reached world.hosts message.request.epoch.0) (sym heard_from)
        ∙ (told.told n host there (not_lost host up) message heard_among heard.from rsp heard.answering).1 plain
